use Rattle.std.proofs.Common.{map}
use Rattle.pb_link_names.specs.View.{declaration_view}
use Rattle.pb_link_rules.proofs.NamesLemmas.{free_more}
use Rattle.pb_link_rules.proofs.flags.free_names.Goals as goal

pub loop-place-preserved : goal.loop-place-preserved
loop-place-preserved c =
    free_more (map declaration_view c.args.row.now) declaration_view c.args.row.now c.loop-place.place c.index-row-place.result c.loop-place.flags.items c.push.new.self.items c.is_free.result c.loop-place-test.true c.index-row-place.is c.loop-place.invariant (c.is_free.ensures (map declaration_view c.args.row.now) c.requires) c.in_ok-push.ensures.items
