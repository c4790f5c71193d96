-- Nothing is read of no bytes.
use Rattle.std.proofs.Common.{refl, ap}
use Rattle.pb_decode.specs.Reader.{parents_view}
use Rattle.pb_decode.proofs.StartLemmas.{took_start}
use Rattle.pb_decode.proofs.reader.start.begin_at.Goals as goal

pub returns-clause-took : goal.returns-clause-took
returns-clause-took c =
    λ pool base within good is.
    took_start pool c.args.message_type.0 c.args.depth_left base c.args.end _ _ _ refl refl (ap parents_view c.new-parents.ensures.items) refl refl refl c.new-occurrences.ensures c.new-held.ensures.items c.requires within good is
