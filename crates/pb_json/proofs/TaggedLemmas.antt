-- The object of an Any, part by part.
use Rattle.std.proofs.Common.{◌≡◌, ◌⊎◌, ℕ, suc, ◌+◌, List, ◌++◌, inl, inr, refl, sym, ap, ◌∙◌, subst}
use Rattle.std.specs.Prelude.{Bool, true, false, codes}
use Rattle.pb_schema.specs.Types.{Types}
use Rattle.pb_value.specs.Data.{Message}
use Rattle.pb_value.specs.View.{body_view, fields_view}
use Rattle.pb_value.specs.declared.body.Body.{Body}
use Rattle.pb_json.specs.declared.form.Layout.{Layout}
use Rattle.pb_json.specs.declared.form.Names.{Names}
use Rattle.pb_json.specs.Anys.{members_or_value, tagged}
use Rattle.pb_json.specs.Json.{Json, null, Members, no_members, member}
use Rattle.pb_json.specs.JsonText.{AreMembers, IsJsonText, closing_line, member_start, string_text}
use Rattle.pb_json.specs.Mapping.{fields_json, message_json}
use Rattle.pb_json.specs.WellKnown.{is_plain, well_known}
use Rattle.pb_json.specs.declared.well_known.WellKnown.{WellKnown}
use Rattle.pb_json.specs.declared.well_known.WellKnown.TheVariants as form
use Rattle.pb_json.proofs.MappingLemmas.{as_object, levels_json, message_json-none}
use Rattle.pb_json.proofs.PrintLemmas.{Begins}

-- FORMS

pub plain_form : (w : WellKnown) → is_plain w ≡ true → w ≡ form.Other
plain_form form.Other e = refl
plain_form form.Wrapper e = cc
plain_form form.Struct e = cc
plain_form form.ListValue e = cc
plain_form form.Value e = cc
plain_form form.Timestamp e = cc
plain_form form.Duration e = cc
plain_form form.FieldMask e = cc
plain_form form.Any e = cc

-- MEMBERS

-- the URL, and the members after it
pub tag_joins :
    (layout : Layout) (indent : ℕ) (url : List ℕ) (ms : Members) (after : List ℕ) → AreMembers layout indent false ms after
    → IsJsonText layout indent (tagged url ms) ((codes "{" ++ (member_start layout (indent + 1) true (codes "@type") ++ string_text url)) ++ after)
tag_joins layout indent url ms after h =
    ((member_start layout (indent + 1) true (codes "@type") ++ string_text url) ++ after, refl, (string_text url, after, refl, refl, h))

pub tag_begins :
    (layout : Layout) (indent : ℕ) (url : List ℕ) (ms : Members) (s : List ℕ)
    → Begins (codes "{" ++ (member_start layout (indent + 1) true (codes "@type") ++ string_text url)) (AreMembers layout indent false ms) s
    → IsJsonText layout indent (tagged url ms) s
tag_begins layout indent url ms s (rest, e, h) =
    subst (λ (t : List ℕ). IsJsonText layout indent (tagged url ms) t) (sym e) (tag_joins layout indent url ms rest h)

-- the form of the message as the last member
pub value_joins :
    (layout : Layout) (indent : ℕ) (j : Json) (one : List ℕ) → IsJsonText layout (indent + 1) j one
    → AreMembers layout indent false (member (codes "value") j no_members)
    ((member_start layout (indent + 1) false (codes "value") ++ one) ++ (closing_line layout indent false ++ codes "}"))
value_joins layout indent j one h = (one, closing_line layout indent false ++ codes "}", refl, h, refl)

-- a message without a form of its own gives its members
pub plain_members :
    (pool : Types) (names : Names) (levels below m : ℕ) (b : Body) (v : Message) → levels ≡ suc below → is_plain (well_known pool m) ≡ true → body_view b ≡ v
    → members_or_value (is_plain (well_known pool m)) (message_json pool names levels m v)
    ≡ fields_json pool names (message_json pool names below) m (fields_view b.fields.entries)
plain_members pool names levels below m b v deep plain held =
    ap (λ (x : Message). members_or_value (is_plain (well_known pool m)) (message_json pool names levels m x)) (sym held)
    ∙ ap (λ (t : Bool). members_or_value t (message_json pool names levels m (body_view b))) plain
    ∙ ap (λ (j : Json). members_or_value true j) (levels_json pool names levels below m (body_view b) deep
    ∙ as_object pool names (message_json pool names below) m b (plain_form (well_known pool m) plain))

-- another is one member
pub form_member : (is_plain : Bool) (j : Json) → is_plain ≡ false → members_or_value is_plain j ≡ member (codes "value") j no_members
form_member true j e = cc
form_member false j e = refl

-- and so is one that is nested too deep
pub deep_member :
    (pool : Types) (names : Names) (is_plain : Bool) (levels m : ℕ) (v : Message) → levels ≡ 0
    → members_or_value is_plain (message_json pool names levels m v) ≡ member (codes "value") (message_json pool names levels m v) no_members
deep_member pool names true levels m v e =
    let none : message_json pool names levels m v ≡ null = ap (λ (n : ℕ). message_json pool names n m v) e ∙ message_json-none pool names m v in
    ap (λ (j : Json). members_or_value true j) none ∙ ap (λ (j : Json). member (codes "value") j no_members) (sym none)
deep_member pool names false levels m v e = refl

pub last_member :
    (pool : Types) (names : Names) (is_plain : Bool) (levels m : ℕ) (v : Message) → (levels ≡ 0) ⊎ (is_plain ≡ false)
    → members_or_value is_plain (message_json pool names levels m v) ≡ member (codes "value") (message_json pool names levels m v) no_members
last_member pool names is_plain levels m v (inl e) = deep_member pool names is_plain levels m v e
last_member pool names is_plain levels m v (inr e) = form_member is_plain (message_json pool names levels m v) e
