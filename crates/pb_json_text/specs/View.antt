-- The JSON values that the code's values represent.
use Rattle.std.specs.Prelude.{ℕ, List, [], ◌∷◌, map, string_bytes}
use Rattle.pb_json_text.specs.Json.{Json, null, boolean, number, string, array, object, Elements, no_elements, element, Members, no_members, member, Placed}
use Rattle.pb_json_text.specs.declared.value.JsonValue.{JsonValue, fold-JsonValue}
use Rattle.pb_json_text.specs.declared.value.JsonForm.{JsonForm, fold-JsonForm}
use Rattle.pb_json_text.specs.declared.value.JsonMember.{JsonMember, fold-JsonMember}
use Rattle.pb_json_text.specs.declared.value.JsonForm.TheOpen.{JsonForm-F, JsonMember-F, JsonValue-F}

-- a member: where its name begins, the name, and its value
abbrev pub Named : Type 0
Named = ℕ × List ℕ × Placed

abbrev pub elements_from : List Placed → Elements
elements_from [] = no_elements
elements_from (v ∷ vs) = element v.0 v.1 (elements_from vs)

abbrev pub members_from : List Named → Members
members_from [] = no_members
members_from (m ∷ ms) = member m.0 m.1 m.2.0 m.2.1 (members_from ms)

-- one level, with each part inside already seen as its value
abbrev pub form_step : JsonForm-F Json Named Placed → Json
form_step JsonForm-F.Null = null
form_step (JsonForm-F.Bool b) = boolean b
form_step (JsonForm-F.Number v) = number v.items
form_step (JsonForm-F.String s) = string (string_bytes s)
form_step (JsonForm-F.Array v) = array (elements_from v.items)
form_step (JsonForm-F.Object v) = object (members_from v.items)

abbrev pub member_step : JsonMember-F Json Named Placed → Named
member_step m = (m.at, string_bytes m.name, m.value)

abbrev pub value_step : JsonValue-F Json Named Placed → Placed
value_step v = (v.at, v.form)

abbrev pub form_view : JsonForm → Json
form_view = fold-JsonForm Json Named Placed form_step member_step value_step

abbrev pub member_view : JsonMember → Named
member_view = fold-JsonMember Json Named Placed form_step member_step value_step

abbrev pub value_view : JsonValue → Placed
value_view = fold-JsonValue Json Named Placed form_step member_step value_step

abbrev pub elements_view : List JsonValue → Elements
elements_view vs = elements_from (map value_view vs)

abbrev pub members_view : List JsonMember → Members
members_view ms = members_from (map member_view ms)
