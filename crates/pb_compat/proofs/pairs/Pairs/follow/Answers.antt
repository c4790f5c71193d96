use Rattle.std.proofs.Common.{◌≡◌, ◌<◌, ◌++◌, ◌∷◌, [], take, get_or, length, ℕ, ◌+◌, sym, subst, arith}
use Rattle.std.proofs.lemmas.List.{take_more}
use Rattle.pb_compat.specs.Walk.{Follows}
use Rattle.pb_compat.proofs.NumberLemmas.{every_number, next_number}
use Rattle.pb_compat.proofs.WalkLemmas.{follow_none, follow_past, follow_to}
use Rattle.pb_compat.proofs.pairs.Pairs.follow.Goals as goal
use Rattle.pb_compat.proofs.pairs.Pairs.follow.Goals.{in-Some+in_ok-add, in_default}

pub loop-number-init : goal.loop-number-init
loop-number-init c = follow_none c.args.old.now c.args.new.now c.args.index (c.args.old_type.0, c.args.new_type.0) c.args.self.now

pub loop-number-preserved : goal.loop-number-preserved
loop-number-preserved c =
    let old = c.args.old.now in
    let new = c.args.new.now in
    let p : ℕ × ℕ = (c.args.old_type.0, c.args.new_type.0) in
    let j = c.loop-number.number-index in
    let ns = c.args.numbers.now in
    let n = get_or ns j 0 in
    let within : j < length ns = omega arith in
    let longer : take (j + 1) ns ≡ take j ns ++ n ∷ [] = take_more ns j 0 within in
    subst (λ ms. Follows old new c.args.index p ms c.args.self.now c.match-pair_at.self) (sym longer)
    (elim c.match-pair_at.branch as (λ b. Follows old new c.args.index p (take j ns ++ n ∷ []) c.args.self.now c.match-pair_at.self) [
      | in-Some+in_ok-add w ↦ subst (λ b. Follows old new c.args.index p (take j ns ++ n ∷ []) c.args.self.now b) (sym w.self-is)
          (follow_to old new c.args.index p w.in-Some.pair ns (take j ns) n c.args.self.now c.loop-number.self w.add.new.self c.loop-number.invariant
          (next_number old new p ns c.requires.rising j within) (every_number old new p ns c.requires.rising) (sym w.in-Some.ensures.leads) (w.in-Some.ensures.old, w.in-Some.ensures.new) w.in_ok-add.ensures)
      | in_default w ↦ subst (λ b. Follows old new c.args.index p (take j ns ++ n ∷ []) c.args.self.now b) (sym w.self-is)
          (follow_past old new c.args.index p (take j ns) n c.args.self.now c.loop-number.self c.loop-number.invariant (sym w.in_default.ensures.leads))
    ])
