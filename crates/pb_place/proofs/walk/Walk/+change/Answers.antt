use Rattle.std.proofs.Common.{◌≡◌, ◌<◌, ◌≤◌, ℕ, List, ◌∷◌, length, Option, Some, None, option_map, rules, refl, sym, ap, ◌∙◌, subst, nat_cmp}
use Rattle.std.specs.Map.{lookup}
use Rattle.std.specs.Option.{option_copied_mut}
use Rattle.std.specs.BTreeMap.{is_at}
use Rattle.pb_wire.specs.Unknown.{records_of}
use Rattle.pb_value.specs.declared.body.Body.{out-Body, roll-Body}
use Rattle.pb_value.specs.declared.body.Content.{the_lemmas}
use Rattle.pb_value.specs.Data.{Fields, Message, body, message, one, list, map, fields_of, get_field, Datums, Entries}
use Rattle.pb_value.specs.KeyOrder.{map_key_cmp}
use Rattle.pb_value.specs.View.{body_view, content_view, value_view, values_view, entries_view, key_view}
use Rattle.pb_value.proofs.Views.{body_view-roll, body_view-out, content_view-Map}
use Rattle.pb_value.proofs.FieldViews.{get_field-at, fields_view-same}
use Rattle.pb_value.proofs.InnerLemmas.{get_entry-entries}
use Rattle.pb_place.specs.declared.step.PlaceStep.{PlaceStep}
use Rattle.pb_place.specs.declared.step.PlaceStep.TheVariants.{Field, Index, Key}
use Rattle.pb_place.specs.At.{content_part}
use Rattle.pb_place.specs.Changed.{target}
use Rattle.pb_value.specs.Edit.{edit_of}
use Rattle.pb_place.specs.Edits.{HoldsParts}
use Rattle.pb_place.specs.Replaced.{value_or, replaced}
use Rattle.pb_place.proofs.Kept.{value_absent, untyped_absent}
use Rattle.pb_place.proofs.Walks.{map_walked, not_there, walked_on, field_step, fields_view-in_field, parts_held, list_step, values_view-in_nth, values_view-same, nth_there, nth_past, map_step, entries_view-in_entry, entries_view-same}
use Rattle.pb_place.proofs.walk.Walk.+change.Goals as goal

-- A MESSAGE

pub change_in-change_content-requires : goal.change_in-change_content-requires
change_in-change_content-requires t c =
    let pool = c.args.self.now.pool.now in
    let n = c.in-Field.number in
    let v = body_view c.args.body.now in
    let fs = (out-Body c.args.body.now).fields.entries in
    let content = c.in-Some-get_mut.content.now in
    let found : lookup (is_at (nat_cmp n)) fs ≡ Some content = sym c.get_mut.ensures.value ∙ ap option_copied_mut c.in-Some-get_mut.is in
    let here : get_field n (fields_of v) ≡ Some (content_view content) = ap (λ (w : Message). get_field n (fields_of w)) (body_view-out c.args.body.now) ∙ get_field-at n (Some content) fs found in
    let parts = subst (λ (u : Option ℕ). HoldsParts pool u (content_view content)) (sym c.type_named-inner.ensures.named)
    (parts_held pool c.args.message_type.0 n v (content_view content) c.requires.well_formed here) in
    (search rules, (c.type_named-inner.ensures.within, parts))

pub change_in-returns-in-Some-get_mut : goal.change_in-returns-in-Some-get_mut
change_in-returns-in-Some-get_mut t c =
    let pool = c.args.self.now.pool.now in
    let m = c.args.message_type.0 in
    let n = c.in-Field.number in
    let v = body_view c.args.body.now in
    let place = c.args.place.now in
    let rest = c.in-Some.rest.now in
    let fs = (out-Body c.args.body.now).fields.entries in
    let us = records_of (out-Body c.args.body.now).unknown.items in
    let content = c.in-Some-get_mut.content.now in
    let new = c.change_content.new.content in
    let found : lookup (is_at (nat_cmp n)) fs ≡ Some content = sym c.get_mut.ensures.value ∙ ap option_copied_mut c.in-Some-get_mut.is in
    let here : get_field n (fields_of v) ≡ Some (content_view content) = ap (λ (w : Message). get_field n (fields_of w)) (body_view-out c.args.body.now) ∙ get_field-at n (Some content) fs found in
    let written = (c.get_mut.follows.holds new).0 in
    let split : place ≡ Field n ∷ rest = c.in-Some.ensures.cases.0 ∙ ap (λ x. x ∷ rest) c.in-Field.is in
    walked_on pool c.args.self.now.most (Some m) _ place rest (edit_of c.args.pending.now.change) _ _ (content_view content) (content_view new) c.change_content.result c.change_content.new.pending.taken c.change_content.ensures
    (field_step pool m n v place rest c.in-Some.step.now (Some (content_view content)) c.in-Some.ensures.cases.0 c.in-Field.is here
    ∙ ap (λ (u : Option ℕ). target rest (content_part pool u (content_view content))) (sym c.type_named-inner.ensures.named))
    (λ b q.
    ap (λ (w : Message). one (message w)) (rw (body_view-roll, body_view-out, written) (ap (λ (gs : Fields). body gs us) (fields_view-in_field n content new fs (replaced rest b) found q)))
    ∙ ap (λ (p : List PlaceStep). replaced p b (one (message v))) (sym split))
    (λ q. ap (λ (w : Message). one (message w)) (rw (body_view-roll, body_view-out, written) (ap (λ (gs : Fields). body gs us) (fields_view-same n content new fs found q))))

pub change_in-returns-in-None : goal.change_in-returns-in-None
change_in-returns-in-None t c =
    let pool = c.args.self.now.pool.now in
    let m = c.args.message_type.0 in
    let n = c.in-Field.number in
    let v = body_view c.args.body.now in
    let fs = (out-Body c.args.body.now).fields.entries in
    let gone : lookup (is_at (nat_cmp n)) fs ≡ None = sym c.get_mut.ensures.value ∙ ap option_copied_mut c.in-None.is in
    let here : get_field n (fields_of v) ≡ None = ap (λ (w : Message). get_field n (fields_of w)) (body_view-out c.args.body.now) ∙ get_field-at n None fs gone in
    let same : body_view (roll-Body record { fields = c.get_mut.follows.lender-at-none; unknown = c.args.body.now.unknown }) ≡ v =
    rw (body_view-roll, body_view-out, c.get_mut.follows.holds-at-none) in
    not_there pool c.args.self.now.most (Some m) c.args.place.now (edit_of c.args.pending.now.change) _ _
    (field_step pool m n v c.args.place.now c.in-Some.rest.now c.in-Some.step.now None c.in-Some.ensures.cases.0 c.in-Field.is here)
    (ap (λ (w : Message). one (message w)) same) _

-- WHAT A FIELD HOLDS

pub change_content-change_map-requires : goal.change_content-change_map-requires
change_content-change_map-requires t c =
    let pool = c.args.self.now.pool.now in
    let parts : HoldsParts pool (option_map (λ m. m.0) c.args.inner) (map (entries_view c.in-Map.entries.entries)) = rw (c.in-Map.is, content_view-Map) at c.requires.parts in
    (search rules, (c.requires.inner, rw (c.in-Map.entries-is) parts))

pub change_content-returns-in-Map : goal.change_content-returns-in-Map
change_content-returns-in-Map t c =
    let pool = c.args.self.now.pool.now in
    let u = option_map (λ m. m.0) c.args.inner in
    let place = c.args.place.now in
    let new = c.change_map.new.entries in
    let seen = ap content_view c.in-Map.is ∙ content_view-Map c.in-Map.entries in
    let walked = rw (c.in-Map.entries-is) at c.change_map.ensures in
    map_walked pool c.args.self.now.most u place (edit_of c.args.pending.now.change) c.args.content.now _ c.in-Map.entries new c.change_map.result c.change_map.new.pending.taken seen (search (rules, the_lemmas)) walked

-- A LIST

pub change_list-change_value-requires : goal.change_list-change_value-requires
change_list-change_value-requires t c =
    let less : c.in-Index.index < length c.args.values.now.items = search rules in
    (search rules, (c.requires.inner, c.requires.parts c.in-Index.index _ (nth_there c.in-Index.index c.args.values.now.items c.in-Some-get_mut.value.now less c.in-Some-get_mut.ensures.value)))

pub change_list-returns-in-Some-get_mut : goal.change_list-returns-in-Some-get_mut
change_list-returns-in-Some-get_mut t c =
    let pool = c.args.self.now.pool.now in
    let u = option_map (λ m. m.0) c.args.inner in
    let i = c.in-Index.index in
    let vs = c.args.values.now.items in
    let value = c.in-Some-get_mut.value.now in
    let new = c.change_value.new.value in
    let place = c.args.place.now in
    let rest = c.in-Some.rest.now in
    let less : i < length vs = search rules in
    let at = c.in-Some-get_mut.ensures.value in
    let split : place ≡ Index i ∷ rest = c.in-Some.ensures.cases.0 ∙ ap (λ x. x ∷ rest) c.in-Index.is in
    walked_on pool c.args.self.now.most u u place rest (edit_of c.args.pending.now.change) _ _ (one (value_view value)) (one (value_view new)) c.change_value.result c.change_value.new.pending.taken c.change_value.ensures
    (list_step pool u (values_view vs) place rest c.in-Some.step.now i (Some (value_view value)) c.in-Some.ensures.cases.0 c.in-Index.is (nth_there i vs value less at))
    (λ b q.
    ap (λ (ds : Datums). list ds) (values_view-in_nth i vs value new _ less at (ap (value_or (value_view value)) q))
    ∙ ap (λ (p : List PlaceStep). replaced p b (list (values_view vs))) (sym split))
    (λ q. ap (λ (ds : Datums). list ds) (values_view-same i vs value new at (ap (value_or (value_view value)) q)))

pub change_list-returns-in-None : goal.change_list-returns-in-None
change_list-returns-in-None t c =
    let pool = c.args.self.now.pool.now in
    let u = option_map (λ m. m.0) c.args.inner in
    let i = c.in-Index.index in
    let vs = c.args.values.now.items in
    let past : length vs ≤ i = search rules in
    not_there pool c.args.self.now.most u c.args.place.now (edit_of c.args.pending.now.change) _ _
    (list_step pool u (values_view vs) c.args.place.now c.in-Some.rest.now c.in-Some.step.now i None c.in-Some.ensures.cases.0 c.in-Index.is (nth_past i vs past)) refl _

-- A MAP

pub change_map-change_value-requires : goal.change_map-change_value-requires
change_map-change_value-requires t c =
    let es = c.args.entries.now.entries in
    let k = c.in-Key.key in
    let value = c.in-Some-get_mut.value.now in
    let found : lookup (is_at (map_key_cmp k)) es ≡ Some value = sym c.get_mut.ensures.value ∙ ap option_copied_mut c.in-Some-get_mut.is in
    (search rules, (c.requires.inner, c.requires.parts (key_view k) (value_view value) (get_entry-entries k es ∙ ap (option_map value_view) found)))

pub change_map-returns-in-Some-get_mut : goal.change_map-returns-in-Some-get_mut
change_map-returns-in-Some-get_mut t c =
    let pool = c.args.self.now.pool.now in
    let u = option_map (λ m. m.0) c.args.inner in
    let k = c.in-Key.key in
    let es = c.args.entries.now.entries in
    let value = c.in-Some-get_mut.value.now in
    let new = c.change_value.new.value in
    let place = c.args.place.now in
    let rest = c.in-Some.rest.now in
    let found : lookup (is_at (map_key_cmp k)) es ≡ Some value = sym c.get_mut.ensures.value ∙ ap option_copied_mut c.in-Some-get_mut.is in
    let written = (c.get_mut.follows.holds new).0 in
    let split : place ≡ Key k ∷ rest = c.in-Some.ensures.cases.0 ∙ ap (λ x. x ∷ rest) c.in-Key.is in
    walked_on pool c.args.self.now.most u u place rest (edit_of c.args.pending.now.change) _ _ (one (value_view value)) (one (value_view new)) c.change_value.result c.change_value.new.pending.taken c.change_value.ensures
    (map_step pool u (entries_view es) place rest c.in-Some.step.now k (Some (value_view value)) c.in-Some.ensures.cases.0 c.in-Key.is (get_entry-entries k es ∙ ap (option_map value_view) found))
    (λ b q.
    ap (λ (ds : Entries). map ds) (rw written (entries_view-in_entry k value new es _ found (ap (value_or (value_view value)) q)))
    ∙ ap (λ (p : List PlaceStep). replaced p b (map (entries_view es))) (sym split))
    (λ q. ap (λ (ds : Entries). map ds) (rw written (entries_view-same k value new es found (ap (value_or (value_view value)) q))))

pub change_map-returns-in-None : goal.change_map-returns-in-None
change_map-returns-in-None t c =
    let pool = c.args.self.now.pool.now in
    let u = option_map (λ m. m.0) c.args.inner in
    let k = c.in-Key.key in
    let es = c.args.entries.now.entries in
    let gone : lookup (is_at (map_key_cmp k)) es ≡ None = sym c.get_mut.ensures.value ∙ ap option_copied_mut c.in-None.is in
    not_there pool c.args.self.now.most u c.args.place.now (edit_of c.args.pending.now.change) _ _
    (map_step pool u (entries_view es) c.args.place.now c.in-Some.rest.now c.in-Some.step.now k None c.in-Some.ensures.cases.0 c.in-Key.is (get_entry-entries k es ∙ ap (option_map value_view) gone))
    (ap (λ (ds : Entries). map ds) (rw (c.get_mut.follows.holds-at-none))) _

-- A VALUE

pub change_value-returns-in_default : goal.change_value-returns-in_default
change_value-returns-in_default t c =
    let pool = c.args.self.now.pool.now in
    let place = c.args.place.now in
    let d = value_view c.args.value.now in
    not_there pool c.args.self.now.most (option_map (λ m. m.0) c.args.inner) place (edit_of c.args.pending.now.change) _ _
    (ap (λ (u : Option ℕ). target place (content_part pool u (one d))) (ap (option_map (λ m. m.0)) c.in_default.is) ∙ untyped_absent place pool d) refl _

pub change_value-returns-in_default-value : goal.change_value-returns-in_default-value
change_value-returns-in_default-value t c =
    let pool = c.args.self.now.pool.now in
    not_there pool c.args.self.now.most (option_map (λ m. m.0) c.args.inner) c.args.place.now (edit_of c.args.pending.now.change) _ _
    (value_absent c.args.place.now pool (option_map (λ m. m.0) c.args.inner) c.args.value.now c.in_default-value.not-Message) refl _
