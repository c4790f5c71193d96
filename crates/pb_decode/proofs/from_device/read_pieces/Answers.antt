-- Piece by piece the reader goes on.
use Rattle.std.proofs.Common.{refl, arith, ◌∙◌}
use Rattle.std.proofs.lemmas.List.{length-take}
use Rattle.std.proofs.lemmas.Result.{err_from_is_err_and}
use Rattle.pb_decode.specs.Reader.Start.{further}
use Rattle.pb_decode.specs.Loops.{ReportedOf}
use Rattle.pb_decode.proofs.DeviceLemmas.{reads_none, reads_more, reads_at, reads_on, reported_more, takes_more, takes_read, if_refused_weaker}
use Rattle.pb_decode.proofs.from_device.read_pieces.Goals as goal

pub reading-init : goal.reading-init
reading-init g c = record { within = omega arith; read = reads_none c.args.pool.now c.args.reading.now (g.I.Input.left c.args.input.now); kept = refl; steady = λ h. h }

pub read_piece-requires-clause-took : goal.read_piece-requires-clause-took
read_piece-requires-clause-took g c = reads_on c.requires.took.0 c.reading.invariant.read c.requires.took.1

pub read_piece-requires-clause-small : goal.read_piece-requires-clause-small
read_piece-requires-clause-small g c =
    let at = reads_at c.requires.took.0 c.reading.invariant.read c.requires.took.1 in
    let size = length-take c.min-wanted.result c.reading.buffer in
    let wanted = c.min-wanted.ensures in
    let small = c.requires.small in
    let within = c.reading.invariant.within in
    omega (arith, at, size, wanted, small, within)

pub returns-in_err-count-clause-fault : goal.returns-in_err-count-clause-fault
returns-in_err-count-clause-fault g c =
    λ o took.
    let p = err_from_is_err_and c.from_residual.result c.from_residual.ensures.1 in
    let size = length-take c.min-wanted.result c.reading.buffer in
    let wanted = c.min-wanted.ensures in
    let within = c.reading.invariant.within in
    rw (p.1, p.2)
    (if_refused_weaker c.in_err-count.field-0.0 _ (ReportedOf c.args.pool.now o (g.I.Input.left c.args.input.now) (g.I.Input.left c.read_piece.new.input) c.args.most) (λ f reported. reported_more o f (omega (arith, size, wanted, within)) c.reading.invariant.read reported)
    (c.in_err-count.ensures.fault (further o c.reading.invariant.read.bytes) (c.reading.invariant.read.onward o took)))

pub returns-in_err-count-clause-taken : goal.returns-in_err-count-clause-taken
returns-in_err-count-clause-taken g c =
    let size = length-take c.min-wanted.result c.reading.buffer in
    let wanted = c.min-wanted.ensures in
    let within = c.reading.invariant.within in
    takes_more (g.I.Input.left c.read_piece.new.input) (omega (arith, size, wanted, within)) c.reading.invariant.read c.in_err-count.ensures.most

pub returns-then-count-eq0-clause-read : goal.returns-then-count-eq0-clause-read
returns-then-count-eq0-clause-read g c = let none = c.if-count-eq0.true in reads_more (omega (arith, none)) c.reading.invariant.read c.in_ok-count.ensures.read

pub returns-then-count-eq0-clause-taken : goal.returns-then-count-eq0-clause-taken
returns-then-count-eq0-clause-taken g c =
    let none = c.if-count-eq0.true in
    let within = c.reading.invariant.within in
    takes_read within (reads_more (omega (arith, none)) c.reading.invariant.read c.in_ok-count.ensures.read)

pub reading-preserved : goal.reading-preserved
reading-preserved g c =
    let size = length-take c.min-wanted.result c.reading.buffer in
    let wanted = c.min-wanted.ensures in
    let within = c.reading.invariant.within in
    let count = c.in_ok-count.ensures.count in
    record {
      within = omega (arith, size, wanted, within, count);
      read = reads_more refl c.reading.invariant.read c.in_ok-count.ensures.read;
      kept = c.in_ok-count.ensures.failures ∙ c.reading.invariant.kept;
      steady = λ h. c.in_ok-count.ensures.stays (c.reading.invariant.steady h);
    }
