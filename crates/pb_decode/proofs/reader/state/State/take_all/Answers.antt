-- What is taken piece by piece is taken from the start of the bytes.
use Rattle.std.proofs.Common.{◌-◌, ◌+◌, sym, ap, ◌∙◌, subst, arith, take, drop, length, length-drop}
use Rattle.std.proofs.lemmas.Result.{err_from_is_err_and}
use Rattle.pb_decode.specs.Reader.{state_view, CanRead, Passes}
use Rattle.pb_decode.proofs.ReaderLemmas.{reads_slice, reads_ahead, reads_on, taken_none, taken_some}
use Rattle.pb_decode_parts.proofs.PlaceLemmas.{slice_from}
use Rattle.pb_decode.proofs.WaitLemmas.{none_waits}
use Rattle.pb_decode.proofs.reader.state.State.take_all.Goals as goal

pub take_many-requires : goal.take_many-requires
take_many-requires c =
    let l = c.loop-ahead in
    record {
      can = subst (CanRead c.args.by.now.pool.now l.self) (sym (slice_from l.here c.args.bytes.now))
          (reads_on c.args.self.now l.self l.here c.args.bytes.now (record { rules = c.requires.rules; reading = c.requires.reading }) l.invariant.within l.invariant.at l.invariant.reads);
    }

pub returns-in_err-ahead-clause-refused : goal.returns-in_err-ahead-clause-refused
returns-in_err-ahead-clause-refused c =
    λ m depth levels base p0 begun.
    let p = err_from_is_err_and c.from_residual.result c.from_residual.ensures.1 in
    rw (p.1, p.2) (c.in_err-ahead.ensures.refused m depth levels base p0
    (reads_slice c.args.by.now.pool.now m depth levels base p0 (state_view c.loop-ahead.self) c.loop-ahead.here c.args.bytes.now (c.loop-ahead.invariant.reads m depth levels base p0 begun)))

pub take_open-requires-clause-can : goal.take_open-requires-clause-can
take_open-requires-clause-can c =
    let l = c.loop-ahead in
    let ahead = c.in_ok-ahead.ahead in
    let size = ap length (slice_from l.here c.args.bytes.now) ∙ length-drop l.here c.args.bytes.now in
    let within = c.in_ok-ahead.ensures.passes.0 in
    let at = c.in_ok-ahead.ensures.passes.1 in
    let was = l.invariant.at in
    let was_within = l.invariant.within in
    subst (CanRead c.args.by.now.pool.now c.take_many.new.self) (sym (slice_from (l.here + ahead) c.args.bytes.now))
    (reads_on c.args.self.now c.take_many.new.self (l.here + ahead) c.args.bytes.now (record { rules = c.requires.rules; reading = c.requires.reading }) (omega (arith, size, within, was_within)) (omega (arith, at, was))
    (λ m depth levels base p0 begun.
    reads_ahead c.args.by.now.pool.now m depth levels base p0 (state_view l.self) (state_view c.take_many.new.self) l.here ahead c.args.bytes.now (c.in_ok-ahead.ensures.taken m depth levels base p0) (l.invariant.reads m depth levels base p0 begun)))

pub returns-in_err-size-clause-refused : goal.returns-in_err-size-clause-refused
returns-in_err-size-clause-refused c =
    λ m depth levels base p0 begun.
    let l = c.loop-ahead in
    let ahead = c.in_ok-ahead.ahead in
    let p = err_from_is_err_and c.from_residual-in_err-size.result c.from_residual-in_err-size.ensures.1 in
    rw (p.1, p.2) (c.in_err-size.ensures.refused m depth levels base p0
    (reads_slice c.args.by.now.pool.now m depth levels base p0 (state_view c.take_many.new.self) (l.here + ahead) c.args.bytes.now
    (reads_ahead c.args.by.now.pool.now m depth levels base p0 (state_view l.self) (state_view c.take_many.new.self) l.here ahead c.args.bytes.now (c.in_ok-ahead.ensures.taken m depth levels base p0) (l.invariant.reads m depth levels base p0 begun))))

pub returns-in_default-clause-taken : goal.returns-in_default-clause-taken
returns-in_default-clause-taken c =
    λ m depth levels base p0 begun.
    let l = c.loop-ahead in
    let ahead = c.in_ok-ahead.ahead in
    taken_none c.args.by.now.pool.now m depth levels base p0 (state_view c.take_open.new.self) (l.here + ahead) c.args.bytes.now c.in_ok-size.field-0 c.in_default.is
    (c.in_ok-size.ensures.taken m depth levels base p0
    (reads_slice c.args.by.now.pool.now m depth levels base p0 (state_view c.take_many.new.self) (l.here + ahead) c.args.bytes.now
    (reads_ahead c.args.by.now.pool.now m depth levels base p0 (state_view l.self) (state_view c.take_many.new.self) l.here ahead c.args.bytes.now (c.in_ok-ahead.ensures.taken m depth levels base p0) (l.invariant.reads m depth levels base p0 begun))))

pub returns-in_default-clause-passes : goal.returns-in_default-clause-passes
returns-in_default-clause-passes c =
    let l = c.loop-ahead in
    let stays = subst (Passes (state_view c.take_many.new.self) (take (length c.args.bytes.now - (l.here + c.in_ok-ahead.ahead)) (drop (l.here + c.in_ok-ahead.ahead) c.args.bytes.now)) (state_view c.take_open.new.self)) c.in_default.is c.in_ok-size.ensures.passes in
    let size = ap length (slice_from l.here c.args.bytes.now) ∙ length-drop l.here c.args.bytes.now in
    let within = c.in_ok-ahead.ensures.passes.0 in
    let at = c.in_ok-ahead.ensures.passes.1 in
    let was = l.invariant.at in
    let was_within = l.invariant.within in
    (omega (arith, size, within, was_within), omega (arith, stays, at, was))

pub returns-in_default-clause-waits : goal.returns-in_default-clause-waits
returns-in_default-clause-waits c = none_waits (state_view c.take_open.new.self) (c.loop-ahead.here + c.in_ok-ahead.ahead) c.args.bytes.now c.in_ok-size.field-0 c.in_default.is c.in_ok-size.ensures.waits

pub loop-ahead-preserved : goal.loop-ahead-preserved
loop-ahead-preserved c =
    let l = c.loop-ahead in
    let ahead = c.in_ok-ahead.ahead in
    let passes = subst (Passes (state_view c.take_many.new.self) (take (length c.args.bytes.now - (l.here + ahead)) (drop (l.here + ahead) c.args.bytes.now)) (state_view c.take_open.new.self)) c.in-Some.is c.in_ok-size.ensures.passes in
    let size = ap length (slice_from (l.here + ahead) c.args.bytes.now) ∙ length-drop (l.here + ahead) c.args.bytes.now in
    let before = ap length (slice_from l.here c.args.bytes.now) ∙ length-drop l.here c.args.bytes.now in
    let ahead_within = c.in_ok-ahead.ensures.passes.0 in
    let ahead_at = c.in_ok-ahead.ensures.passes.1 in
    let within = passes.0 in
    let at = passes.1 in
    let was = l.invariant.at in
    let was_within = l.invariant.within in
    record {
      within = omega (arith, size, within, before, ahead_within, was_within);
      at = omega (arith, at, was, ahead_at);
      reads = λ m depth levels base p0 begun.
          taken_some c.args.by.now.pool.now m depth levels base p0 (state_view c.take_open.new.self) (l.here + ahead) c.in-Some.size c.args.bytes.now c.in_ok-size.field-0 c.in-Some.is
          (c.in_ok-size.ensures.taken m depth levels base p0
          (reads_slice c.args.by.now.pool.now m depth levels base p0 (state_view c.take_many.new.self) (l.here + ahead) c.args.bytes.now
          (reads_ahead c.args.by.now.pool.now m depth levels base p0 (state_view l.self) (state_view c.take_many.new.self) l.here ahead c.args.bytes.now (c.in_ok-ahead.ensures.taken m depth levels base p0) (l.invariant.reads m depth levels base p0 begun))));
    }
