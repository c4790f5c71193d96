use Rattle.std.proofs.Common.{ℕ, List, Contains, sym, subst, map}
use Rattle.pb_schema.specs.View.{field_view}
use Rattle.pb_schema.proofs.LookupLemmas.{get_map, found_at, found_none, found_place, place_read}
use Rattle.pb_schema.proofs.tables.numbers.field_at.Goals as goal

pub returns : goal.returns
returns c =
    let f = c.in-Some-get.field.now in
    sym (found_at c.args.number (map field_view c.args.fields.now) c.in-Some.index (field_view f) c.requires.differ (get_map c.args.fields.now c.in-Some.index f c.in-Some-get.ensures.lookup.3.0 c.in-Some-get.ensures.lookup.1) c.if-field-number.true)

pub returns-in-Some-place_of : goal.returns-in-Some-place_of
returns-in-Some-place_of c =
    let found = subst (λ (l : List (ℕ × ℕ)). Contains l (c.args.number, c.in-Some-place_of.index)) c.deref-2.ensures.value c.in-Some-place_of.ensures.found in
    sym (found_place c.args.number c.args.fields.now c.in-Some-place_of.index c.get-in-Some-place_of.result c.requires.differ ((c.requires.table.exact c.args.number c.in-Some-place_of.index).0 found) (place_read c.args.fields.now c.in-Some-place_of.index c.get-in-Some-place_of.result c.get-in-Some-place_of.ensures.lookup.3))

pub returns-in-None : goal.returns-in-None
returns-in-None c =
    sym (found_none c.args.number (map field_view c.args.fields.now) (λ i h. subst (λ (l : List (ℕ × ℕ)). ¬ Contains l (c.args.number, i)) c.deref-2.ensures.value (c.in-None.ensures.none i) ((c.requires.table.exact c.args.number i).1 h)))

pub returns-2 : goal.returns-2
returns-2 c =
    let f = c.in-Some-get-3.field.now in
    let guess = c.in-Some-get-2.guess.now in
    sym (found_at c.args.number (map field_view c.args.fields.now) guess (field_view f) c.requires.differ (get_map c.args.fields.now guess f c.in-Some-get-3.ensures.lookup.3.0 c.in-Some-get-3.ensures.lookup.1) c.if-field-number-2.true)
