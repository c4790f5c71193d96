use Rattle.std.proofs.Common.{◌≡◌, ◌<◌, ℕ, true, false, Option, None, map, length, sym, subst, arith, rules}
use Rattle.std.proofs.lemmas.List.{length-map, get_or_read}
use Rattle.pb_schema.proofs.LookupLemmas.{get_viewed}
use Rattle.pb_link_names.specs.View.{declaration_view}
use Rattle.pb_link_names.specs.Places.{sees_if, counts}
use Rattle.pb_link_names.proofs.PlacesLemmas.{Searches, left_of, search_first, search_within, search_found, search_more, search_less}
use Rattle.pb_link_names.proofs.places.Places.first.Goals as goal

pub loop-next-init : goal.loop-next-init
loop-next-init c =
    search_first c.args.want (sees_if c.args.everywhere c.args.sight.now) c.args.name.now (map declaration_view c.args.row.now) c.args.self.now c.get-next.result c.requires c.get-next.ensures

pub bounds-row-place : goal.bounds-row-place
bounds-row-place c =
    let ds = map declaration_view c.args.row.now in
    let sees = sees_if c.args.everywhere c.args.sight.now in
    let s = subst (Searches c.args.want sees c.args.name.now ds) c.in-Some.is c.loop-next.invariant in
    omega (arith, search_within c.args.want sees c.args.name.now ds c.in-Some.place s, length-map c.args.row.now declaration_view)

pub offset_bounds-row-place : goal.offset_bounds-row-place
offset_bounds-row-place c =
    let ds = map declaration_view c.args.row.now in
    let sees = sees_if c.args.everywhere c.args.sight.now in
    let s = subst (Searches c.args.want sees c.args.name.now ds) c.in-Some.is c.loop-next.invariant in
    let h : c.in-Some.place < length c.args.row.now = omega (arith, search_within c.args.want sees c.args.name.now ds c.in-Some.place s, length-map c.args.row.now declaration_view) in
    search rules

pub returns-then-counts : goal.returns-then-counts
returns-then-counts c =
    let ds = map declaration_view c.args.row.now in
    let sees = sees_if c.args.everywhere c.args.sight.now in
    let d = c.index-row-place.result in
    let s = subst (Searches c.args.want sees c.args.name.now ds) c.in-Some.is c.loop-next.invariant in
    let h : c.in-Some.place < length c.args.row.now = omega (arith, search_within c.args.want sees c.args.name.now ds c.in-Some.place s, length-map c.args.row.now declaration_view) in
    let passes : counts c.args.want sees (declaration_view d) ≡ true = cc (c.counts.ensures, c.if-counts.true, c.index-row-place.is) in
    sym (search_found c.args.want sees c.args.name.now ds c.in-Some.place (declaration_view d) s (get_viewed declaration_view c.args.row.now c.in-Some.place d h c.index-row-place.is) passes)

pub index-next-requires : goal.index-next-requires
index-next-requires c =
    let ds = map declaration_view c.args.row.now in
    let sees = sees_if c.args.everywhere c.args.sight.now in
    let s = subst (Searches c.args.want sees c.args.name.now ds) c.in-Some.is c.loop-next.invariant in
    omega (arith, search_within c.args.want sees c.args.name.now ds c.in-Some.place s, c.requires.size, c.args.self.now.next.ok.0)

pub loop-next-smaller : goal.loop-next-smaller
loop-next-smaller c =
    let ds = map declaration_view c.args.row.now in
    let sees = sees_if c.args.everywhere c.args.sight.now in
    let d = c.index-row-place.result in
    let i = c.in-Some.place in
    let next = c.index-next.result.now in
    let s = subst (Searches c.args.want sees c.args.name.now ds) c.in-Some.is c.loop-next.invariant in
    let w = search_within c.args.want sees c.args.name.now ds i s in
    let h : i < length c.args.row.now = omega (arith, w, length-map c.args.row.now declaration_view) in
    let inside : i < length c.args.self.now.next.items = omega (arith, w, c.requires.size) in
    let fails : counts c.args.want sees (declaration_view d) ≡ false = cc (c.counts.ensures, c.if-counts.false, c.index-row-place.is) in
    let on = search_more c.args.want sees c.args.name.now ds c.args.self.now i (declaration_view d) next c.requires s (get_viewed declaration_view c.args.row.now i d h c.index-row-place.is) fails (get_or_read c.args.self.now.next.items i next inside c.index-next.ensures None) in
    subst (λ (o : Option ℕ). left_of ds next < left_of ds o) (sym c.in-Some.is) (search_less ds i next w on.later)

pub loop-next-preserved : goal.loop-next-preserved
loop-next-preserved c =
    let ds = map declaration_view c.args.row.now in
    let sees = sees_if c.args.everywhere c.args.sight.now in
    let d = c.index-row-place.result in
    let i = c.in-Some.place in
    let next = c.index-next.result.now in
    let s = subst (Searches c.args.want sees c.args.name.now ds) c.in-Some.is c.loop-next.invariant in
    let w = search_within c.args.want sees c.args.name.now ds i s in
    let h : i < length c.args.row.now = omega (arith, w, length-map c.args.row.now declaration_view) in
    let inside : i < length c.args.self.now.next.items = omega (arith, w, c.requires.size) in
    let fails : counts c.args.want sees (declaration_view d) ≡ false = cc (c.counts.ensures, c.if-counts.false, c.index-row-place.is) in
    (search_more c.args.want sees c.args.name.now ds c.args.self.now i (declaration_view d) next c.requires s (get_viewed declaration_view c.args.row.now i d h c.index-row-place.is) fails (get_or_read c.args.self.now.next.items i next inside c.index-next.ensures None)).goes_on
