-- What values stand for, form by form, and with one more.
use Rattle.std.proofs.Common.{◌≡◌, ℕ, List, [], ◌∷◌, ◌++◌, map, rules, ap, ◌∙◌, Vec, Global}
use Rattle.std.specs.Prelude.{String, string_bytes}
use Rattle.std.proofs.lemmas.List.{map_push}
use Rattle.pb_json_text.specs.Json.{Json, number, string, array, object, Placed}
use Rattle.pb_json_text.specs.View.{Named, form_view, member_view, value_view, elements_from, members_from, elements_view, members_view}
use Rattle.pb_json_text.specs.Loops.Machine.{with_element, with_member}
use Rattle.pb_json_text.specs.declared.value.JsonForm.{the_lemmas as form_lemmas}
use Rattle.pb_json_text.specs.declared.value.JsonForm.TheVariants as form
use Rattle.pb_json_text.specs.declared.value.JsonMember.{JsonMember, the_lemmas as member_lemmas}
use Rattle.pb_json_text.specs.declared.value.JsonValue.{JsonValue, the_lemmas as value_lemmas}
use Rattle.pb_json_text.proofs.ReadingSteps.{elements_push, members_push}

pub form_view-Number : (v : Vec ℕ Global) → form_view (form.Number v) ≡ number v.items
form_view-Number v = search (rules, form_lemmas)

pub form_view-String : (s : String Global) → form_view (form.String s) ≡ string (string_bytes s)
form_view-String s = search (rules, form_lemmas)

pub form_view-Array : (v : Vec JsonValue Global) → form_view (form.Array v) ≡ array (elements_view v.items)
form_view-Array v = search (rules, form_lemmas)

pub form_view-Object : (v : Vec JsonMember Global) → form_view (form.Object v) ≡ object (members_view v.items)
form_view-Object v = search (rules, form_lemmas)

pub value_view-parts : (v : JsonValue) → value_view v ≡ (v.at, form_view v.form)
value_view-parts v = search (rules, value_lemmas)

pub member_view-parts : (m : JsonMember) → member_view m ≡ (m.at, string_bytes m.name, (m.value.at, form_view m.value.form))
member_view-parts m = search (rules, member_lemmas, value_lemmas)

pub items_push : (old new : List JsonValue) (v : JsonValue) (at : ℕ) (j : Json) → new ≡ old ++ v ∷ [] → value_view v ≡ (at, j) → elements_view new ≡ with_element (elements_view old) at j
items_push old new v at j e h =
    ap elements_view e ∙ ap elements_from (map_push value_view old v) ∙ ap (λ (p : Placed). elements_from (map value_view old ++ p ∷ [])) h ∙ elements_push (map value_view old) at j

pub named_push : (old new : List JsonMember) (m : JsonMember) (p : Named) → new ≡ old ++ m ∷ [] → member_view m ≡ p → members_view new ≡ with_member (members_view old) p.0 p.1 p.2.0 p.2.1
named_push old new m p e h =
    ap members_view e ∙ ap members_from (map_push member_view old m) ∙ ap (λ (q : Named). members_from (map member_view old ++ q ∷ [])) h ∙ members_push (map member_view old) p
