-- What is known of a field that no difference breaks.
use Rattle.std.proofs.Common.{◌≡◌, ℕ, List, ◌∷◌, Bool, true, false, not, ◌&&◌, Option, Some, None, refl, sym, ◌∙◌, ap, subst, Contains}
use Rattle.std.specs.Prelude.{◌++◌, if◌then◌else◌}
use Rattle.std.specs.Option.{option_to_list}
use Rattle.pb_graphs.proofs.ContainsLemmas.{Contains-first}
use Rattle.pb_schema.specs.Types.{FieldView, Types, message_fields, field_numbered}
use Rattle.pb_compat.specs.declared.difference.Difference.{Difference}
use Rattle.pb_compat.specs.declared.difference.Severity.{Severity}
use Rattle.pb_compat.specs.declared.difference.Severity.TheVariants.{BreaksReading, ChangesPresence, Converts}
use Rattle.pb_compat.specs.Oneofs.{is_crowded}
use Rattle.pb_compat.specs.Fields.{keeps_values, keeps_shape, keeps_field, is_in_crowd, change_of_field, renaming_of, severities_at, differences_of, differences_at, changes_presence, presence, is_same_form}
use Rattle.pb_compat.specs.Agrees.{NoneBreaks}
use Rattle.pb_compat.proofs.FieldLemmas.{and_both}

-- what a change is, if it does not break
abbrev otherwise : FieldView → FieldView → Option Severity
otherwise f g = if changes_presence (presence f.shape) (presence g.shape) then Some ChangesPresence else (if is_same_form f g then None else Some Converts)

abbrev pub listed : Types → Types → Bool → ℕ → FieldView → FieldView → List Difference
listed old new c k f g = differences_of k (option_to_list (change_of_field old new c f g) ++ renaming_of f g)

pub differences_found : (old new : Types) (m n k : ℕ) (f g : FieldView) (c : Bool) → field_numbered k (message_fields old m) ≡ Some f → field_numbered k (message_fields new n) ≡ Some g
    → is_in_crowd (is_crowded (message_fields old m) (message_fields new n)) g.shape ≡ c → differences_at old new m n k ≡ listed old new c k f g
differences_found old new m n k f g c found_f found_g e =
    let crowd : ℕ → Bool = is_crowded (message_fields old m) (message_fields new n) in
    ap (λ (o : Option FieldView). differences_of k (severities_at old new crowd o (field_numbered k (message_fields new n)))) found_f
    ∙ ap (λ (o : Option FieldView). differences_of k (severities_at old new crowd (Some f) o)) found_g
    ∙ ap (λ (b : Bool). listed old new b k f g) e

-- a field of both types is kept, and is no member of a crowded oneof
pub record IsKept (old new : Types) (m n : ℕ) (f g : FieldView) : Type 0 where
  pub kind : keeps_values old new f g ≡ true
  pub shape : keeps_shape old new f.shape g.shape ≡ true
  pub calm : is_in_crowd (is_crowded (message_fields old m) (message_fields new n)) g.shape ≡ false

pub kept_field : (old new : Types) (m n : ℕ) (f g : FieldView) (c : Bool) → is_in_crowd (is_crowded (message_fields old m) (message_fields new n)) g.shape ≡ c → keeps_field old new c f g ≡ true → IsKept old new m n f g
kept_field old new m n f g c crowd e =
    let parts = and_both (keeps_values old new f g && keeps_shape old new f.shape g.shape) (not c) e in
    let kinds = and_both (keeps_values old new f g) (keeps_shape old new f.shape g.shape) parts.0 in
    record { kind = kinds.0; shape = kinds.1; calm = crowd ∙ turned c parts.1 }
  where
    turned : (b : Bool) → not b ≡ true → b ≡ false
    turned true e = absurd (cc)
    turned false e = refl

pub kept_unbroken : (old new : Types) (m n k : ℕ) (f g : FieldView) → NoneBreaks old new m n → field_numbered k (message_fields old m) ≡ Some f → field_numbered k (message_fields new n) ≡ Some g → IsKept old new m n f g
kept_unbroken old new m n k f g none found_f found_g = by (is_in_crowd (is_crowded (message_fields old m) (message_fields new n)) g.shape) refl
  where
    by_kept : (c : Bool) → is_in_crowd (is_crowded (message_fields old m) (message_fields new n)) g.shape ≡ c → (b : Bool) → keeps_field old new c f g ≡ b → IsKept old new m n f g
    by_kept c crowd true e = kept_field old new m n f g c crowd e
    by_kept c crowd false e =
        let breaks : change_of_field old new c f g ≡ Some BreaksReading = ap (λ (b : Bool). if not b then Some BreaksReading else otherwise f g) e in
        let d : Difference = record { number = k; severity = BreaksReading } in
        let first : differences_at old new m n k ≡ d ∷ differences_of k (renaming_of f g) =
        differences_found old new m n k f g c found_f found_g crowd
        ∙ ap (λ (o : Option Severity). differences_of k (option_to_list o ++ renaming_of f g)) breaks in
        absurd (none k d (subst (λ (l : List Difference). Contains l d) (sym first) (Contains-first d (differences_of k (renaming_of f g)))) refl)

    by : (c : Bool) → is_in_crowd (is_crowded (message_fields old m) (message_fields new n)) g.shape ≡ c → IsKept old new m n f g
    by c crowd = by_kept c crowd (keeps_field old new c f g) refl
