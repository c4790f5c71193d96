use Rattle.std.proofs.Common.{sym, ap, subst}
use Rattle.pb_value.specs.Data.{Message}
use Rattle.pb_value.specs.Dynamic.{Dynamic}
use Rattle.pb_decode.specs.Reader.Start.{IsWhole}
use Rattle.pb_decode.proofs.reader.start.finish_message.Goals as goal

pub returns-clause-whole : goal.returns-clause-whole
returns-clause-whole c = λ o took. subst (λ (z : Message). IsWhole c.args.pool.now o z) (ap (λ (d : Dynamic). d.body) (sym c.from_well_formed.ensures)) (c.in_ok-body.ensures.whole o took)
