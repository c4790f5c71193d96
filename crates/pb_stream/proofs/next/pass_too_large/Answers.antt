use Rattle.std.proofs.Common.{◌≡◌, ℕ, arith, subst}
use Rattle.pb_stream.specs.Taking.{Takes}
use Rattle.pb_stream.proofs.SpanLemmas.{passed_over, passed_to_end}
use Rattle.pb_stream.proofs.next.pass_too_large.Goals as goal

pub returns-then-passed-count-clause-next : goal.returns-then-passed-count-clause-next
returns-then-passed-count-clause-next g c = λ pool m limits x large took.
    passed_to_end pool m limits c.args.start c.args.count c.in-Ok.passed c.reason_at-reason.result x _ _ took large (omega arith) c.in-Ok.ensures.taken (c.in-Ok.ensures.ends (omega arith))
    c.reason_at-reason.ensures

pub returns-clause-next : goal.returns-clause-next
returns-clause-next g c = λ pool m limits x large took.
    let same : c.in-Ok.passed ≡ c.args.count = omega (arith, c.in-Ok.ensures.within) in
    let all : Takes c.args.count (g.I.Input.left c.args.input.now) (g.I.Input.left c.pass_over.new.input) =
    subst (λ (k : ℕ). Takes k (g.I.Input.left c.args.input.now) (g.I.Input.left c.pass_over.new.input)) same c.in-Ok.ensures.taken in
    passed_over pool m limits c.args.start c.args.count _ c.reason_at-reason.result x _ _ took large all (omega (arith, c.saturating_add-size.ensures)) c.reason_at-reason.ensures
