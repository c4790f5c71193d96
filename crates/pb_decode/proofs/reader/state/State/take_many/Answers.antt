-- What is taken one by one is taken from the start of the bytes, and what ends there is closed.
use Rattle.std.proofs.Common.{sym, subst, drop, ◌∙◌}
use Rattle.std.proofs.lemmas.Result.{err_from_is_err_and}
use Rattle.pb_decode.specs.Reader.{CanRead}
use Rattle.pb_decode.proofs.ReaderLemmas.{reads_on}
use Rattle.pb_decode_parts.proofs.PlaceLemmas.{slice_from}
use Rattle.pb_decode.proofs.reader.state.State.take_many.Goals as goal

pub take_ended-requires : goal.take_ended-requires
take_ended-requires c =
    let l = c.loop-self in
    record { can = (drop l.here c.args.bytes.now, reads_on c.args.self.now l.self l.here c.args.bytes.now c.requires.can l.invariant.within l.invariant.at l.invariant.reads) }

pub returns-in_err-take_ended-clause-refused : goal.returns-in_err-take_ended-clause-refused
returns-in_err-take_ended-clause-refused c =
    λ m depth levels base p0 begun.
    let p = err_from_is_err_and c.from_residual.result c.from_residual.ensures.1 in
    rw (p.1, p.2) (c.in_err-take_ended.ensures.refused m depth levels base p0 (drop c.loop-self.here c.args.bytes.now) (c.loop-self.invariant.reads m depth levels base p0 begun))

pub take_whole-requires : goal.take_whole-requires
take_whole-requires c =
    let l = c.loop-self in
    record {
      can = subst (CanRead c.args.by.now.pool.now c.take_ended.new.self) (sym (slice_from l.here c.args.bytes.now))
          (reads_on c.args.self.now c.take_ended.new.self l.here c.args.bytes.now c.requires.can l.invariant.within (c.in_ok-take_ended.ensures.at ∙ l.invariant.at)
          (λ m depth levels base p0 begun. c.in_ok-take_ended.ensures.taken m depth levels base p0 (drop l.here c.args.bytes.now) (l.invariant.reads m depth levels base p0 begun)));
    }
