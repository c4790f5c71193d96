use Rattle.std.proofs.Common.{◌≡◌, ℕ, Result, Ok, Err, sym, ◌∙◌, ap}
use Rattle.pb_schema_tests.proofs.PackedReads.{varint_cuts, no_varint}
use Rattle.pb_schema_tests.proofs.packed.first_varint.Goals as goal

abbrev size_read : {E : Type 0} → Result (ℕ × ℕ) E → ℕ
size_read (Ok r) = r.1
size_read (Err e) = 0

err_ok : {E : Type 0} {e : E} {r : ℕ × ℕ} → ◌≡◌ {A = Result (ℕ × ℕ) E} (Err e) (Ok r) → ⊥
err_ok p = cc

pub returns-in-Ok-clause-some : goal.returns-in-Ok-clause-some
returns-in-Ok-clause-some c =
    varint_cuts c.in-Ok.number c.in-Ok.size c.args.bytes.now c.in-Ok.ensures.within c.in-Ok.ensures.found (λ m t within v. ap size_read (sym (c.read_varint.ensures.only m t within v) ∙ c.in-Ok.is))

pub returns-in-Err-clause-none : goal.returns-in-Err-clause-none
returns-in-Err-clause-none c =
    no_varint c.args.bytes.now (λ m t within v. err_ok (sym c.in-Err.is ∙ c.read_varint.ensures.only m t within v))
