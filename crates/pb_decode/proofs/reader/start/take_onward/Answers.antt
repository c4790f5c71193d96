-- What is taken after what is held is taken from the start on.
use Rattle.std.proofs.Common.{arith}
use Rattle.pb_decode.specs.Reader.{state_view}
use Rattle.pb_decode.proofs.Outcomes.{on_ok_both}
use Rattle.pb_decode.proofs.StartLemmas.{from_reading, took_further}
use Rattle.pb_decode.proofs.reader.start.take_onward.Goals as goal

pub take_piece-requires-clause-reading : goal.take_piece-requires-clause-reading
take_piece-requires-clause-reading c =
    let small = c.requires.small in from_reading c.requires.took.0 (state_view c.args.reading.now.reader) c.args.reading.now.held.items (omega (arith, small)) c.requires.took.1

pub returns-clause-took : goal.returns-clause-took
returns-clause-took c =
    λ o took.
    on_ok_both c.take_piece.result
    (took_further o (state_view c.args.reading.now.reader) (state_view c.take_piece.new.reading.reader) c.args.reading.now.held.items c.take_piece.new.reading.held.items c.args.piece.now took) c.take_piece.ensures.at
    (c.take_piece.ensures.taken o.kind o.depth 101 o.base o.place took.reads)

pub returns-clause-fault : goal.returns-clause-fault
returns-clause-fault c = λ o took. c.take_piece.ensures.refused o.kind o.depth 101 o.base o.place took.reads
