use Rattle.std.proofs.Common.{map, arith}
use Rattle.pb_schema.proofs.LookupLemmas.{get_viewed}
use Rattle.pb_link_names.specs.View.{declaration_view}
use Rattle.pb_link_names.proofs.PlacesLemmas.{places_step}
use Rattle.pb_link_names.proofs.places.Places.new.Goals as goal

pub loop-place-preserved : goal.loop-place-preserved
loop-place-preserved c = (
  omega arith,
  places_step (map declaration_view c.args.row.now) _ c.loop-place.place (declaration_view c.index-row-place.result) c.loop-place.places c.put.new.self (omega arith)
      (get_viewed declaration_view c.args.row.now _ c.index-row-place.result (omega arith) c.index-row-place.is)
      c.loop-place.invariant.1 c.in_ok-put.ensures,
)
