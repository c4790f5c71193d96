-- A length is a varint that is small enough and leaves its payload within the known end.
use Rattle.std.proofs.Common.{◌≤◌, ℕ, subst, refl, arith, Option}
use Rattle.std.specs.Prelude.{MatchOption}
use Rattle.pb_wire.specs.Fault.{LengthFault}
use Rattle.pb_wire.proofs.scan.scan_length.Goals as goal

pub returns-then-length-gt-MAX_LENGTH : goal.returns-then-length-gt-MAX_LENGTH
returns-then-length-gt-MAX_LENGTH c =
    λ at.
    let large = c.if-length-gt-MAX_LENGTH.true in
    (λ h. cc, LengthFault.too_large (c.in-Whole.ensures at).1 (omega (arith, large)) refl)

pub returns-then-passes_end : goal.returns-then-passes_end
returns-then-passes_end c =
    λ at.
    let small = c.if-length-gt-MAX_LENGTH.false in (
      λ h. cc,
      LengthFault.past_end (c.in-Whole.ensures at).1 (omega (arith, small))
          (subst (λ (z : Option ℕ). MatchOption z (Unit {0}) (λ e. c.in-Whole.length ≤ e) → ⊥) c.left_after.ensures (c.passes_end.ensures.yes c.if-passes_end.true))
          refl,
    )

pub returns-else-passes_end : goal.returns-else-passes_end
returns-else-passes_end c =
    λ at.
    let small = c.if-length-gt-MAX_LENGTH.false in
    let told = c.in-Whole.ensures at in (
      told.0,
      record {
        length_is = told.1;
        small = omega (arith, small);
        within = subst (λ (z : Option ℕ). MatchOption z (Unit {0}) (λ e. c.in-Whole.length ≤ e)) c.left_after.ensures (c.passes_end.ensures.no c.if-passes_end.false);
      },
    )

pub returns-in-Short : goal.returns-in-Short
returns-in-Short c = λ at. LengthFault.token (c.in-Short.ensures at)

pub returns-in-Fault : goal.returns-in-Fault
returns-in-Fault c = λ at. let told = c.in-Fault.ensures at in (told.0, LengthFault.token told.1)
