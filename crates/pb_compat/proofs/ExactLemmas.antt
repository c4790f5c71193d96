-- A message is built exactly where a difference breaks reading.
use Rattle.std.proofs.Common.{◌≡◌, ℕ, [], ◌∷◌, Bool, true, false, not, ◌&&◌, ◌||◌, Option, Some, None, refl, sym, ◌∙◌, ap}
use Rattle.std.specs.Prelude.{◌++◌, if◌then◌else◌}
use Rattle.std.specs.Str.{bytes_eq}
use Rattle.std.specs.Option.{option_to_list}
use Rattle.pb_schema.specs.Types.{FieldView, Types, message_fields, field_numbered}
use Rattle.pb_schema.specs.Rules.{IsPool}
use Rattle.pb_value.proofs.BodyBack.{numbers_differ}
use Rattle.pb_compat.specs.declared.difference.Severity.TheVariants.{BreaksReading, ChangesPresence, Converts, Renames}
use Rattle.pb_compat.specs.Agrees.{break_among}
use Rattle.pb_compat.specs.Fields.{keeps_values, keeps_shape, keeps_field, is_in_crowd, renaming_of, severities_at, differences_of, differences_at, changes_presence, presence, is_same_form}
use Rattle.pb_compat.specs.Oneofs.{is_crowded}
use Rattle.pb_compat.specs.Witness.{AreFieldsAt, has_witness}
use Rattle.pb_compat.proofs.BreaksLemmas.{listed, differences_found}
use Rattle.pb_compat.proofs.PartnerLemmas.{partner_exact}

-- DIFFERENCES

-- a renaming does not break
renamed : (k : ℕ) (f g : FieldView) → break_among (differences_of k (renaming_of f g)) ≡ false
renamed k f g = by (bytes_eq f.name g.name)
  where
    by : (b : Bool) → break_among (differences_of k (if not b then Renames ∷ [] else [])) ≡ false
    by true = refl
    by false = refl

-- what is listed breaks where the field is not kept
listed_breaks : (old new : Types) (c : Bool) (k : ℕ) (f g : FieldView) → break_among (listed old new c k f g) ≡ not (keeps_field old new c f g)
listed_breaks old new c k f g = by (keeps_field old new c f g) (changes_presence (presence f.shape) (presence g.shape)) (is_same_form f g)
  where
    by : (a b d : Bool) → break_among (differences_of k (option_to_list (if not a then Some BreaksReading else (if b then Some ChangesPresence else (if d then None else Some Converts))) ++ renaming_of f g)) ≡ not a
    by false b d = refl
    by true true d = renamed k f g
    by true false true = renamed k f g
    by true false false = renamed k f g

-- THE FIELDS OF A NUMBER

pub no_old_field : (old new : Types) (m n k : ℕ) → field_numbered k (message_fields old m) ≡ None → break_among (differences_at old new m n k) ≡ false
no_old_field old new m n k e =
    ap (λ (o : Option FieldView). break_among (differences_of k (severities_at old new (is_crowded (message_fields old m) (message_fields new n)) o (field_numbered k (message_fields new n))))) e

pub no_new_field : (old new : Types) (m n k : ℕ) (f : FieldView) → field_numbered k (message_fields old m) ≡ Some f → field_numbered k (message_fields new n) ≡ None → break_among (differences_at old new m n k) ≡ false
no_new_field old new m n k f e d =
    let crowd : ℕ → Bool = is_crowded (message_fields old m) (message_fields new n) in
    ap (λ (o : Option FieldView). break_among (differences_of k (severities_at old new crowd o (field_numbered k (message_fields new n))))) e
    ∙ ap (λ (o : Option FieldView). break_among (differences_of k (severities_at old new crowd (Some f) o))) d

pub breaks_exactly : (old new : Types) (rules_new : IsPool new) (m n k : ℕ) (f g : FieldView) → AreFieldsAt old new m n k f g → break_among (differences_at old new m n k) ≡ has_witness old new m n f g
breaks_exactly old new rules_new m n k f g at =
    let fs = message_fields old m in
    let gs = message_fields new n in
    let crowd : Bool = is_in_crowd (is_crowded fs gs) g.shape in
    ap break_among (differences_found old new m n k f g crowd at.old_field at.new_field refl) ∙ listed_breaks old new crowd k f g
    ∙ by (keeps_values old new f g && keeps_shape old new f.shape g.shape) crowd
    ∙ ap (λ (b : Bool). not (keeps_values old new f g && keeps_shape old new f.shape g.shape) || b) (sym (partner_exact fs gs k f g (numbers_differ new n rules_new) at.old_field at.new_field))
  where
    by : (a b : Bool) → not (a && not b) ≡ (not a || b)
    by true true = refl
    by true false = refl
    by false b = refl
