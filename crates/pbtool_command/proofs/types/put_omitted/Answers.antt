use Rattle.std.proofs.lemmas.List.{take_all}
use Rattle.std.proofs.lemmas.List.Folds.{flat_map-map}
use Rattle.pb_descr_message.specs.Omitted.{omitted_view}
use Rattle.pbtool_command.specs.TypesAnswer.{omitted_line}
use Rattle.pbtool_command.proofs.types.put_omitted.Goals as goal

pub returns : goal.returns
returns g c =
    let all = rw (take_all c.loop-part.part-index c.args.omitted.now c.loop-part-test.false) at c.loop-part.invariant in
    rw (flat_map-map (omitted_line c.args.pool.now) omitted_view c.args.omitted.now) all
