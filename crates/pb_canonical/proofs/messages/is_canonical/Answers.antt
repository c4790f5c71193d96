use Rattle.std.proofs.Common.{List, ℕ, [], length, refl, ap, sym, ◌∙◌, arith, inl}
use Rattle.std.specs.Prelude.{◌==◌}
use Rattle.std.proofs.lemmas.Bool.{eqb-true}
use Rattle.pb_canonical.proofs.FieldLemmas.{canonical}
use Rattle.pb_canonical.proofs.FieldNext.{canonical_next}
use Rattle.pb_canonical.proofs.messages.is_canonical.Goals as goal

pub returns-then-bytes-gt-MAX_BYTES : goal.returns-then-bytes-gt-MAX_BYTES
returns-then-bytes-gt-MAX_BYTES c = (λ e. absurd (cc), λ h. absurd (let small = h.small in omega (arith, small)))

pub returns-in-Some : goal.returns-in-Some
returns-in-Some c = (
  λ e. canonical c.args.pool.now c.args.message_type.0 100 c.args.bytes.now c.in-Some.rest.now (omega arith) (omega arith) c.in-Some.ensures.first (eqb-true _ _ (sym c.is_empty.ensures ∙ e)),
  λ h. c.is_empty.ensures ∙ ap (λ (l : List ℕ). length l == 0) (c.in-Some.ensures.complete [] (inl refl) (canonical_next c.args.pool.now c.args.message_type.0 c.args.bytes.now h)),
)

pub returns-in-None : goal.returns-in-None
returns-in-None c = (λ e. absurd (cc), λ h. absurd (c.in-None.ensures.complete [] (inl refl) (canonical_next c.args.pool.now c.args.message_type.0 c.args.bytes.now h)))
