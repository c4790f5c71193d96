-- What a message has at a place that C says is a function of what the steps say.
use Rattle.std.proofs.Common.{◌≡◌, List, [], ◌∷◌, map, Option, Some, None, option_map, option_and_then, refl, sym, ap, ◌∙◌}
use Rattle.pb_value.specs.Data.{fields_of, get_field, get_entry}
use Rattle.pb_value.specs.Dynamic.{Dynamic}
use Rattle.pb_value.specs.Inner.{nth_datum, type_named}
use Rattle.pb_place.specs.At.{Part, message_part, scalar_part, list_part, map_part, content_part, value_part, step, part_at, Seen, seen}
use Rattle.pb_place.specs.declared.step.PlaceStep.{PlaceStep}
use Rattle.pb_place.specs.declared.step.PlaceStep.TheVariants as place_step
use Rattle.pb_c_message.specs.declared.value.PlainValue.{PlainValue}
use Rattle.pb_c_message.specs.Places.{Bytes, Step, field, index, key, step_view, places}
use Rattle.pb_c_message.specs.Answers.{IsAt, Answers}

abbrev step_by : Step → Part → Option Part
step_by (field n) (message_part v) = option_map (content_part v.pool (type_named v.pool v.kind n)) (get_field n (fields_of v.body))
step_by (field n) (scalar_part d) = None
step_by (field n) (list_part pool t ds) = None
step_by (field n) (map_part pool t es) = None
step_by (index i) (message_part v) = None
step_by (index i) (scalar_part d) = None
step_by (index i) (list_part pool t ds) = option_map (value_part pool t) (nth_datum ds i)
step_by (index i) (map_part pool t es) = None
step_by (key k) (message_part v) = None
step_by (key k) (scalar_part d) = None
step_by (key k) (list_part pool t ds) = None
step_by (key k) (map_part pool t es) = option_map (value_part pool t) (get_entry k es)

abbrev part_by : List Step → Part → Option Part
part_by [] x = Some x
part_by (s ∷ p) x = option_and_then (part_by p) (step_by s x)

step_is : (s : PlaceStep) (x : Part) → step s x ≡ step_by (step_view s) x
step_is (place_step.Field n) (message_part v) = refl
step_is (place_step.Field n) (scalar_part d) = refl
step_is (place_step.Field n) (list_part pool t ds) = refl
step_is (place_step.Field n) (map_part pool t es) = refl
step_is (place_step.Index i) (message_part v) = refl
step_is (place_step.Index i) (scalar_part d) = refl
step_is (place_step.Index i) (list_part pool t ds) = refl
step_is (place_step.Index i) (map_part pool t es) = refl
step_is (place_step.Key k) (message_part v) = refl
step_is (place_step.Key k) (scalar_part d) = refl
step_is (place_step.Key k) (list_part pool t ds) = refl
step_is (place_step.Key k) (map_part pool t es) = refl

then_same : (f g : Part → Option Part) → ((x : Part) → f x ≡ g x) → (o : Option Part) → option_and_then f o ≡ option_and_then g o
then_same f g same None = refl
then_same f g same (Some x) = same x

part_is : (p : List PlaceStep) (x : Part) → part_at p x ≡ part_by (map step_view p) x
part_is [] x = refl
part_is (s ∷ p) x = then_same (part_at p) (part_by (map step_view p)) (part_is p) (step s x) ∙ ap (option_and_then (part_by (map step_view p))) (step_is s x)

-- what a message has where steps lead that say something
abbrev there : Dynamic → Option (List Step) → Option Seen
there v None = None
there v (Some p) = option_map seen (part_by p (message_part v))

at_is : (keys : List Bytes) (place : List PlainValue) (v : Dynamic) (x : Option Seen) → IsAt keys place v x → x ≡ there v (places keys place)
at_is keys place v x is = sym is.2 ∙ ap (option_map seen) (part_is is.0 (message_part v)) ∙ sym (ap (there v) is.1)

pub one_at : (keys : List Bytes) (place : List PlainValue) (v : Dynamic) (x y : Option Seen) → IsAt keys place v x → IsAt keys place v y → x ≡ y
one_at keys place v x y is also = at_is keys place v x is ∙ sym (at_is keys place v y also)

-- there is one answer
pub one_answer :
    {A : Type 0} (asked : Seen → Option A) (keys : List Bytes) (place : List PlainValue) (v : Dynamic) (a b : Option A)
    → Answers asked keys place v a → Answers asked keys place v b → a ≡ b
one_answer asked keys place v a b is also = sym is.2 ∙ ap (option_and_then asked) (one_at keys place v is.0 also.0 is.1 also.1) ∙ also.2

-- where there is an answer the steps say a place
pub said_answer :
    {A : Type 0} (asked : Seen → Option A) (keys : List Bytes) (place : List PlainValue) (v : Dynamic) (a : Option A)
    → Answers asked keys place v a → places keys place ≡ None → ⊥
said_answer asked keys place v a is bad = let said = is.1.1 in absurd cc
