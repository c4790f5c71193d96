-- The piece goes after the bytes received.
use Rattle.std.proofs.Common.{◌≡◌, ◌++◌, rules, sym}
use Rattle.std.proofs.lemmas.List.Elements.{All-from_get_or, recursion_from_All}
use Rattle.pb_wire.specs.Ranges.{IsByte, AreBytes}
use Rattle.pb_decode.specs.Reader.{state_view}
use Rattle.pb_decode.specs.Push.{IsSettled}
use Rattle.pb_decode.proofs.ReaderLemmas.{if_fault_weaker}
use Rattle.pb_decode.proofs.DecoderLemmas.{took_by, after_by, some_by}
use Rattle.pb_decode.proofs.GoingLemmas.{bytes_with, going_there, never_settled, one_settled, memory_only}
use Rattle.pb_decode.proofs.push_decoder.PushDecoder.feed.Goals as goal

pub invariant_of-self-in-Ok : goal.invariant_of-self-in-Ok
invariant_of-self-in-Ok c =
    let some = some_by c.self.inside.pool.now c.self.inside.kind.0 c.self.inside.limits c.self.inside.reading c.in-Some.reading (sym c.in-Some.is) c.self.invariant.took in
    record {
      rules = c.self.invariant.rules;
      within = c.self.invariant.within;
      took = record { text = some.text ++ c.args.piece.now; took = c.in-Ok.ensures.after some.text some.took };
      waits = c.in-Ok.ensures.waits;
    }

pub returns-in-Ok-clause-after : goal.returns-in-Ok-clause-after
returns-in-Ok-clause-after c =
    rw (← c.self.view_is) (λ b after.
    after_by c.self.inside.pool.now c.self.inside.kind.0 c.self.inside.limits (b ++ c.args.piece.now) c.take_text.new.reading
    (c.in-Ok.ensures.after b (took_by c.self.inside.pool.now c.self.inside.kind.0 c.self.inside.limits b c.self.inside.reading c.in-Some.reading (sym c.in-Some.is) after)))

pub returns-in-Ok-clause-goes_on : goal.returns-in-Ok-clause-goes_on
returns-in-Ok-clause-goes_on c =
    rw (← c.self.view_is) (λ b after.
    going_there (b ++ c.args.piece.now) (state_view c.take_text.new.reading.reader) c.take_text.new.reading.held.items
    (c.in-Ok.ensures.after b (took_by c.self.inside.pool.now c.self.inside.kind.0 c.self.inside.limits b c.self.inside.reading c.in-Some.reading (sym c.in-Some.is) after)))

pub returns-in-Ok-clause-refused : goal.returns-in-Ok-clause-refused
returns-in-Ok-clause-refused c =
    rw (← c.self.view_is) (λ b f after settled.
    let bytes : AreBytes c.args.piece.now = recursion_from_All IsByte c.args.piece.now (All-from_get_or IsByte c.args.piece.now 0 (λ i h. let fits = c.type_inv.piece i in search (rules, fits))) in
    let took = took_by c.self.inside.pool.now c.self.inside.kind.0 c.self.inside.limits b c.self.inside.reading c.in-Some.reading (sym c.in-Some.is) after in
    never_settled (bytes_with b c.args.piece.now (state_view c.in-Some.reading.reader) c.in-Some.reading.held.items bytes took)
    (going_there (b ++ c.args.piece.now) (state_view c.take_text.new.reading.reader) c.take_text.new.reading.held.items (c.in-Ok.ensures.after b took)) f settled)

pub returns-in-Err-clause-fault : goal.returns-in-Err-clause-fault
returns-in-Err-clause-fault c =
    rw (← c.self.view_is) (λ b after.
    c.in-Err.ensures.fault b (took_by c.self.inside.pool.now c.self.inside.kind.0 c.self.inside.limits b c.self.inside.reading c.in-Some.reading (sym c.in-Some.is) after))

pub returns-in-Err-clause-going : goal.returns-in-Err-clause-going
returns-in-Err-clause-going c =
    rw (← c.self.view_is) (λ b after goes.
    let bytes : AreBytes c.args.piece.now = recursion_from_All IsByte c.args.piece.now (All-from_get_or IsByte c.args.piece.now 0 (λ i h. let fits = c.type_inv.piece i in search (rules, fits))) in
    let took = took_by c.self.inside.pool.now c.self.inside.kind.0 c.self.inside.limits b c.self.inside.reading c.in-Some.reading (sym c.in-Some.is) after in
    memory_only c.in-Err.error (IsSettled c.self.inside.pool.now c.self.inside.kind.0 c.self.inside.limits (b ++ c.args.piece.now)) (c.in-Err.ensures.fault b took)
    (never_settled (bytes_with b c.args.piece.now (state_view c.in-Some.reading.reader) c.in-Some.reading.held.items bytes took) goes))

pub returns-in-Err-clause-refused : goal.returns-in-Err-clause-refused
returns-in-Err-clause-refused c =
    rw (← c.self.view_is) (λ b f after settled.
    let bytes : AreBytes c.args.piece.now = recursion_from_All IsByte c.args.piece.now (All-from_get_or IsByte c.args.piece.now 0 (λ i h. let fits = c.type_inv.piece i in search (rules, fits))) in
    let took = took_by c.self.inside.pool.now c.self.inside.kind.0 c.self.inside.limits b c.self.inside.reading c.in-Some.reading (sym c.in-Some.is) after in
    if_fault_weaker c.in-Err.error (IsSettled c.self.inside.pool.now c.self.inside.kind.0 c.self.inside.limits (b ++ c.args.piece.now)) (λ g. g ≡ f)
    (λ g reported. one_settled (bytes_with b c.args.piece.now (state_view c.in-Some.reading.reader) c.in-Some.reading.held.items bytes took) f g settled reported) (c.in-Err.ensures.fault b took))
