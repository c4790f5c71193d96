-- A scalar on a path of fields is what a message has at the place of these.
use Rattle.std.proofs.Common.{◌≡◌, ◌<◌, ◌^◌, ℕ, List, [], ◌∷◌, ◌++◌, length, map, Vec, Global, Option, Some, None, option_map, option_and_then, refl, sym, ap, ◌∙◌}
use Rattle.std.specs.Prelude.{◌==◌, if◌then◌else◌, IfSome}
use Rattle.pb_wire.specs.Limits.{Bounds}
use Rattle.pb_schema.specs.Scalar.{Scalar}
use Rattle.pb_schema.specs.Types.{Types}
use Rattle.pb_value.specs.Data.{scalar, message, Holding, one, list, map as map_of, fields_of, get_field}
use Rattle.pb_value.specs.Dynamic.{Dynamic}
use Rattle.pb_value.specs.Inner.{only_datum, inner_message, as_message, type_named}
use Rattle.pb_find.specs.ScalarAt.{only_scalar, scalar_at, message_of, IsFound}
use Rattle.pb_find.specs.View.{found_view, scalar_view}
use Rattle.pb_find.specs.declared.scalar_ref.ScalarRef.{ScalarRef}
use Rattle.pb_place.specs.At.{message_part, scalar_part, content_part, value_part, as_part, part_at, single, seen, at}
use Rattle.pb_place.specs.declared.step.PlaceStep.TheVariants.{Field}
use Rattle.pb_c_message.specs.Answers.{IsAt}
use Rattle.pb_c_message.specs.Places.{Bytes, field, index, key, step_view, uint32_said, key_said, said, places}
use Rattle.pb_c_message.specs.declared.value.PlainValue.{PlainValue}
use Rattle.pb_c_message.specs.Holds.{message_held}
use Rattle.pb_c_message.specs.declared.held.Held.{Held}
use Rattle.pb_c_message.specs.declared.held.Held.TheVariants as held
use Rattle.pb_c_message.proofs.Canonical.{text_value}

-- a value that is a scalar is no message
scalar_value : (pool : Types) (t : Option ℕ) (x : Scalar) → value_part pool t (scalar x) ≡ scalar_part (scalar x)
scalar_value pool None x = refl
scalar_value pool (Some m) x = refl

-- the scalar that a content is
at_scalar : (pool : Types) (t : Option ℕ) (h : Option Holding) (x : Scalar) → option_and_then only_scalar h ≡ Some x
    → option_map (content_part pool t) h ≡ Some (scalar_part (scalar x))
at_scalar pool t None x is = absurd (cc)
at_scalar pool t (Some (one (scalar y))) x is = ap (λ z. Some z) (scalar_value pool t y) ∙ ap (option_map (λ z. scalar_part (scalar z))) is
at_scalar pool t (Some (one (message m))) x is = absurd (cc)
at_scalar pool t (Some (list ds)) x is = absurd (cc)
at_scalar pool t (Some (map_of es)) x is = absurd (cc)

-- the message that a content is
at_message : (pool : Types) (t : Option ℕ) (h : Option Holding) (w : Dynamic)
    → option_and_then (λ d. as_message pool t d) (option_and_then only_datum h) ≡ Some w → option_map (content_part pool t) h ≡ Some (message_part w)
at_message pool t None w is = absurd (cc)
at_message pool t (Some (one d)) w is = ap (λ o. Some (as_part o d)) is
at_message pool t (Some (list ds)) w is = absurd (cc)
at_message pool t (Some (map_of es)) w is = absurd (cc)

-- a field that is left out ends every path
none_there : (o : Option Dynamic) (f : Dynamic → Option Scalar) (x : Scalar) → option_and_then f o ≡ Some x → (w : Dynamic) × (o ≡ Some w) × (f w ≡ Some x)
none_there None f x is = absurd (cc)
none_there (Some w) f x is = (w, refl, is)

part_of_path : (ns : List ℕ) (v : Dynamic) (x : Scalar) → scalar_at ns v ≡ Some x → part_at (map Field ns) (message_part v) ≡ Some (scalar_part (scalar x))
part_of_path [] v x is = absurd (cc)
part_of_path (n ∷ []) v x is =
    ap (option_and_then (part_at [])) (at_scalar v.pool (type_named v.pool v.kind n) (get_field n (fields_of v.body)) x is)
part_of_path (n ∷ k ∷ ns) v x is =
    let inner = none_there (inner_message only_datum n v) (λ w. scalar_at (k ∷ ns) w) x is in
    ap (option_and_then (part_at (map Field (k ∷ ns)))) (at_message v.pool (type_named v.pool v.kind n) (get_field n (fields_of v.body)) inner.0 inner.1)
    ∙ part_of_path (k ∷ ns) inner.0 x inner.2

pub at_path : (ns : List ℕ) (v : Dynamic) (x : Scalar) → scalar_at ns v ≡ Some x → at (map Field ns) v ≡ Some (single (scalar x))
at_path ns v x is = ap (option_map seen) (part_of_path ns v x is)

-- the steps of a path
pub steps_of : (ns : List ℕ) → map step_view (map Field ns) ≡ map field ns
steps_of [] = refl
steps_of (n ∷ ns) = ap (λ l. field n ∷ l) (steps_of ns)

pub map_push : (ns : List ℕ) (n : ℕ) → map Field ns ++ Field n ∷ [] ≡ map Field (ns ++ n ∷ [])
map_push [] n = refl
map_push (m ∷ ns) n = ap (λ l. Field m ∷ l) (map_push ns n)

-- a step that is a field
said_field : (keys : List Bytes) (s : PlainValue) (n : ℕ) → s.kind ≡ 21 → uint32_said s.number ≡ Some n → said keys s ≡ Some (field n)
said_field keys s n is number =
    ap (λ k. if k == 21 then option_map field (uint32_said s.number) else (if k == 22 then Some (index s.number) else option_map key (key_said keys k s.number))) is
    ∙ ap (option_map field) number

pub said_fields : (s : PlainValue) (o : Option ℕ) → s.kind ≡ 21 → o ≡ uint32_said s.number → IfSome o (λ n. (keys : List Bytes) → said keys s ≡ Some (field n))
said_fields s None is number = tt
said_fields s (Some n) is number = λ keys. said_field keys s n is (sym number)

-- what is found in held bytes is what the message has there
pub found_at :
    (pool : Types) (m : ℕ) (limits : Bounds) (h : Held) (b : Vec ℕ Global) (place : List PlainValue) (ns : List ℕ) (found : Option ScalarRef)
    → h ≡ held.Bytes b → length b.items < 2 ^ 31 → ((keys : List Bytes) → places keys place ≡ Some (map field ns))
    → IsFound pool m limits b.items ns (found_view found)
    → IfSome found (λ x. (keys : List Bytes) → IsAt keys place (message_held pool m h) (Some (single (scalar (scalar_view x)))))
found_at pool m limits h b place ns None is small steps has = tt
found_at pool m limits h b place ns (Some x) is small steps has = λ keys.
    let same : message_of pool m has.0 ≡ message_held pool m h =
    ap (message_of pool m) (sym (text_value pool m limits b.items has.0 small has.1)) ∙ ap (message_held pool m) (sym is) in
    (map Field ns, steps keys ∙ ap (λ l. Some l) (sym (steps_of ns)), at_path ns (message_held pool m h) (scalar_view x) (sym (ap (scalar_at ns) same) ∙ sym has.2))
