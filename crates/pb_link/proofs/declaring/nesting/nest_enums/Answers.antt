use Rattle.std.proofs.Common.{length, subst}
use Rattle.pb_schema.specs.View.{enum_view}
use Rattle.pb_link.specs.Nested.{PlacesAt, with_enum}
use Rattle.pb_link.proofs.NestedLemmas.{enum_placed}
use Rattle.pb_link.proofs.DeclaredLemmas.{viewed_less, viewed_at}
use Rattle.pb_link.proofs.declaring.nesting.nest_enums.Goals as goal

pub loop-entry-preserved : goal.loop-entry-preserved
loop-entry-preserved c =
    let e = enum_view c.entry-item.result in
    enum_placed c.args.pool.now (length c.args.pool.now.messages) c.loop-entry.entry-index e c.loop-entry.files.items c.loop-entry.messages.items c.place_enum.new.files.items c.place_enum.new.messages.items
    (viewed_less enum_view c.enums-entry-items.result.now c.args.pool.now.enums c.loop-entry.entry-index c.enums-entry-items.ensures.listed c.loop-entry-test.true)
    (viewed_at enum_view c.enums-entry-items.result.now c.args.pool.now.enums c.loop-entry.entry-index c.entry-item.result c.enums-entry-items.ensures.listed c.loop-entry-test.true c.entry-item.is)
    c.loop-entry.invariant
    (subst (λ d. PlacesAt c.entry-item.result.file e.parent (with_enum d) c.loop-entry.files.items c.loop-entry.messages.items c.place_enum.new.files.items c.place_enum.new.messages.items) c.in_ok-decl.ensures c.in_ok-place_enum.ensures)
