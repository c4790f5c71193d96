-- Where the first step of a place leads.
use Rattle.std.proofs.Common.{◌≡◌, ℕ, List, [], ◌∷◌, length, Option, Some, None, option_map, option_and_then, refl, ap, ◌∙◌}
use Rattle.std.specs.Prelude.{Bool, false, ◌==◌}
use Rattle.pb_schema.specs.Types.{Types}
use Rattle.pb_value.specs.Data.{Datum, Datums, Entries, list, map, fields_of, get_field, get_entry}
use Rattle.pb_value.specs.Dynamic.{Dynamic}
use Rattle.pb_value.specs.Inner.{nth_datum, datum_at, datum_under, type_named, as_message, inner_message}
use Rattle.pb_value.specs.View.{key_view}
use Rattle.pb_value.specs.declared.body.MapKey.{MapKey}
use Rattle.pb_place.specs.declared.step.PlaceStep.{PlaceStep}
use Rattle.pb_place.specs.declared.step.PlaceStep.TheVariants.{Field, Index, Key}
use Rattle.pb_place.specs.At.{scalar_part, list_part, map_part, as_part, value_part, part_at}

-- what stands at an index, if anything does
pub list_step :
    (pool : Types) (t : Option ℕ) (ds : Datums) (place rest : List PlaceStep) (s : PlaceStep) (i : ℕ) (o : Option Datum) → place ≡ s ∷ rest → s ≡ Index i
    → nth_datum ds i ≡ o → part_at place (list_part pool t ds) ≡ option_and_then (part_at rest) (option_map (value_part pool t) o)
list_step pool t ds place rest s i o split is found =
    ap (λ p. part_at p (list_part pool t ds)) (split ∙ ap (λ x. x ∷ rest) is) ∙ ap (λ x. option_and_then (part_at rest) (option_map (value_part pool t) x)) found

pub map_step :
    (pool : Types) (t : Option ℕ) (es : Entries) (place rest : List PlaceStep) (s : PlaceStep) (k : MapKey) (o : Option Datum) → place ≡ s ∷ rest → s ≡ Key k
    → get_entry (key_view k) es ≡ o → part_at place (map_part pool t es) ≡ option_and_then (part_at rest) (option_map (value_part pool t) o)
map_step pool t es place rest s k o split is found =
    ap (λ p. part_at p (map_part pool t es)) (split ∙ ap (λ x. x ∷ rest) is) ∙ ap (λ x. option_and_then (part_at rest) (option_map (value_part pool t) x)) found

-- the message that an element or a value under a key is
pub list_message :
    (v : Dynamic) (n i : ℕ) (ds : Datums) (d : Datum) (m : Option Dynamic) → get_field n (fields_of v.body) ≡ Some (list ds) → nth_datum ds i ≡ Some d
    → m ≡ inner_message (datum_at i) n v → as_part m d ≡ value_part v.pool (type_named v.pool v.kind n) d
list_message v n i ds d m held found is =
    ap (λ x. as_part x d)
    (is ∙ ap (λ h. option_and_then (as_message v.pool (type_named v.pool v.kind n)) (option_and_then (datum_at i) h)) held
    ∙ ap (option_and_then (as_message v.pool (type_named v.pool v.kind n))) found)

pub map_message :
    (v : Dynamic) (n : ℕ) (k : MapKey) (es : Entries) (d : Datum) (m : Option Dynamic) → get_field n (fields_of v.body) ≡ Some (map es)
    → get_entry (key_view k) es ≡ Some d → m ≡ inner_message (datum_under (key_view k)) n v → as_part m d ≡ value_part v.pool (type_named v.pool v.kind n) d
map_message v n k es d m held found is =
    ap (λ x. as_part x d)
    (is ∙ ap (λ h. option_and_then (as_message v.pool (type_named v.pool v.kind n)) (option_and_then (datum_under (key_view k)) h)) held
    ∙ ap (option_and_then (as_message v.pool (type_named v.pool v.kind n))) found)

-- no step leads from a value that is no message
pub scalar_ends : (place : List PlaceStep) (d : Datum) (b : Bool) → b ≡ false → b ≡ (length place == 0) → part_at place (scalar_part d) ≡ None
scalar_ends [] d b e is = absurd (cc)
scalar_ends (Field n ∷ p) d b e is = refl
scalar_ends (Index i ∷ p) d b e is = refl
scalar_ends (Key k ∷ p) d b e is = refl
