use Rattle.pb_declarations.specs.View.{enum_view}
use Rattle.pb_link.specs.Resolving.{coming, behind_enum}
use Rattle.pb_link.proofs.ResolvingLemmas.{behind_more, behind_end}
use Rattle.pb_link.proofs.resolving.enums.skip_enums.Goals as goal

pub loop-entry-preserved : goal.loop-entry-preserved
loop-entry-preserved c = behind_more behind_enum enum_view c.args.enums.now c.loop-entry.entry-index c.entry-item.result (coming c.loop-entry.names) (coming c.skip_enum.new.names) _ c.loop-entry-test.true c.entry-item.is c.skip_enum.ensures c.loop-entry.invariant

pub returns : goal.returns
returns c = behind_end behind_enum enum_view c.args.enums.now c.loop-entry.entry-index (coming c.loop-entry.names) _ c.loop-entry-test.false c.loop-entry.invariant
