use Rattle.std.proofs.Common.{◌≡◌, ◌<◌, Some, get_or, length, ℕ, subst, arith}
use Rattle.std.specs.Prelude.{slice_get}
use Rattle.std.proofs.lemmas.List.{take_more}
use Rattle.std.proofs.lemmas.Option.{slice_get-get_or}
use Rattle.pb_compat.specs.Walk.{HasBegun, IsWithin}
use Rattle.pb_compat.proofs.BeginLemmas.{begun_more}
use Rattle.pb_compat.proofs.Lists.{all_got}
use Rattle.pb_compat.proofs.pairs.Pairs.begin.Goals as goal

pub loop-start-preserved : goal.loop-start-preserved
loop-start-preserved c = λ old new differ within.
    let j = c.loop-start.start-index in
    let starts = c.args.starts.now in
    let q : ℕ × ℕ = get_or starts j (0, 0) in
    let inside : j < length starts = c.loop-start-test.true in
    let at : slice_get starts j ≡ Some q = slice_get-get_or starts j (0, 0) inside in
    begun_more old new starts j q c.loop-start.pairs c.add.new.self differ (c.loop-start.invariant old new differ within) inside (take_more starts j (0, 0) inside)
    at (all_got (IsWithin old new) starts j q within at) c.in_ok-add.ensures

pub returns : goal.returns
returns c = λ old new differ within.
    let all : c.loop-start.start-index ≡ length c.args.starts.now = omega (arith, c.loop-start-test.false, c.loop-start.auto.start-index-end) in
    subst (λ (n : ℕ). HasBegun old new c.args.starts.now n c.loop-start.pairs) all (c.loop-start.invariant old new differ within)
