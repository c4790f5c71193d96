-- Which fields have a name.
use Rattle.std.proofs.Common.{◌≡◌, ℕ, Bool, List, [], ◌∷◌, Option, Some, None, option_map, Bor, refl, sym, ap, ◌∙◌, find}
use Rattle.std.specs.Prelude.{slice_get, IfSome}
use Rattle.std.specs.Option.{option_or}
use Rattle.pb_schema.specs.declared.types.Field.{Field}
use Rattle.pb_schema.specs.Rules.{IsPool, IsFieldOf}
use Rattle.pb_schema.specs.Types.{FieldView, Types, message_fields}
use Rattle.pb_schema.specs.View.{field_view}
use Rattle.pb_schema.proofs.LookupLemmas.{found_field}
use Rattle.pb_json.specs.Given.{NamesGiven, none_given}
use Rattle.pb_json_read.specs.NameTables.{name_by, place_meant}
use Rattle.pb_json_read.specs.declared.name_table.Naming.{Naming}
use Rattle.pb_json_read.specs.declared.name_table.Naming.TheVariants.{Given, Declared, InJson}
use Rattle.pb_json_read.specs.Names.{field_among, field_given, field_meant, is_given}
use Rattle.pb_json_read.proofs.PlaceLemmas.{Found, found_by, found_here, found_nowhere, found_or}

-- none is given one where no field is
pub not_given : (m : ℕ) (fs : List FieldView) (name : List ℕ) → field_given none_given m fs name ≡ None
not_given m [] name = refl
not_given m (f ∷ fs) name = not_given m fs name

pub none_found : (names : NamesGiven) (m : ℕ) (fs : List FieldView) (name : List ℕ) → names ≡ none_given → None ≡ field_given names m fs name
none_found names m fs name e = sym (not_given m fs name) ∙ ap (λ (n : NamesGiven). field_given n m fs name) (sym e)

-- the field that a name means is at the place that it means
meant_found : (names : NamesGiven) (m : ℕ) (fs : List FieldView) (name : List ℕ) → Found 0 fs (place_meant names m fs name) (field_among names m fs name)
meant_found names m fs name =
    found_or 0 fs _ _ _ _ (found_by (λ f. is_given (name_by Given names m f) name) 0 fs)
    (found_or 0 fs _ _ _ _ (found_by (λ f. is_given (name_by Declared names m f) name) 0 fs) (found_by (λ f. is_given (name_by InJson names m f) name) 0 fs))

pub meant_at : (names : NamesGiven) (m : ℕ) (fs : List FieldView) (name : List ℕ) (i : ℕ) → place_meant names m fs name ≡ Some i → field_among names m fs name ≡ slice_get fs i
meant_at names m fs name i is = found_here fs _ _ i (meant_found names m fs name) is

pub meant_nowhere : (names : NamesGiven) (m : ℕ) (fs : List FieldView) (name : List ℕ) → place_meant names m fs name ≡ None → field_among names m fs name ≡ None
meant_nowhere names m fs name is = found_nowhere fs _ _ (meant_found names m fs name) is

-- the field has the name of a sort
abbrev has_name : Naming → NamesGiven → ℕ → List ℕ → FieldView → Bool
has_name naming names m name f = is_given (name_by naming names m f) name

rules_by : (names : NamesGiven) (types : Types) (m : ℕ) (name : List ℕ) (f : FieldView) → IsPool types → (o p : Option FieldView)
    → find (has_name Given names m name) (message_fields types m) ≡ o → find (has_name Declared names m name) (message_fields types m) ≡ p
    → Some f ≡ option_or o (option_or p (find (has_name InJson names m name) (message_fields types m))) → IsFieldOf types m f
rules_by names types m name f ok (Some g) p given declared e = found_field types m (has_name Given names m name) f ok (given ∙ sym e)
rules_by names types m name f ok None (Some g) given declared e = found_field types m (has_name Declared names m name) f ok (declared ∙ sym e)
rules_by names types m name f ok None None given declared e = found_field types m (has_name InJson names m name) f ok (sym e)

-- the rules of the field that a name means
pub meant_rules : (names : NamesGiven) (types : Types) (m : ℕ) (name : List ℕ) (r : Option (Bor Field)) → IsPool types
    → option_map (λ f. field_view f.now) r ≡ field_meant names types m name → IfSome r (λ f. IsFieldOf types m (field_view f.now))
meant_rules names types m name None ok e = tt
meant_rules names types m name (Some f) ok e =
    rules_by names types m name (field_view f.now) ok (find (has_name Given names m name) (message_fields types m))
    (find (has_name Declared names m name) (message_fields types m)) refl refl e
