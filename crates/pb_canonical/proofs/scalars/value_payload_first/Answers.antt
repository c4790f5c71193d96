use Rattle.std.proofs.Common.{◌≡◌, sym, subst}
use Rattle.std.specs.Prelude.{true}
use Rattle.pb_canonical.specs.Parts.{IsPlain, IsWritten}
use Rattle.pb_canonical.proofs.ScalarLemmas.{written_plain}
use Rattle.pb_canonical.proofs.scalars.value_payload_first.Goals as goal

pub returns-in_err-payload-clause-complete : goal.returns-in_err-payload-clause-complete
returns-in_err-payload-clause-complete c = λ p s x e.
    absurd (c.in_err-payload.ensures.complete p s (subst (λ w. IsPlain w p) (sym c.wire_type.ensures) (written_plain c.args.pool.now c.args.kind p x)) e)

pub returns-then-is_written-clause-complete : goal.returns-then-is_written-clause-complete
returns-then-is_written-clause-complete c = λ p s x e.
    c.in_ok-payload.ensures.complete p s (subst (λ w. IsPlain w p) (sym c.wire_type.ensures) (written_plain c.args.pool.now c.args.kind p x)) e

pub returns-else-is_written-clause-complete : goal.returns-else-is_written-clause-complete
returns-else-is_written-clause-complete c = λ p s x e.
    let same = c.in_ok-payload.ensures.complete p s (subst (λ w. IsPlain w p) (sym c.wire_type.ensures) (written_plain c.args.pool.now c.args.kind p x)) e in
    let yes : c.is_written.result ≡ true = c.is_written.ensures.1 (subst (IsWritten c.args.pool.now c.args.kind) (sym same.0) x) in
    absurd (cc)
