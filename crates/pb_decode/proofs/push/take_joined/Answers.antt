-- More bytes are after the bytes that are held.
use Rattle.std.proofs.Common.{rules, sym, subst}
use Rattle.std.proofs.lemmas.List.Elements.{All-from_get_or, recursion_from_All}
use Rattle.pb_wire.specs.Exact.{longer}
use Rattle.pb_wire.specs.Ranges.{IsByte, AreBytes}
use Rattle.pb_decode.specs.Reader.{state_view, Reads, IsReading}
use Rattle.pb_decode.proofs.PushLemmas.{reads_more, reading_more}
use Rattle.pb_decode.proofs.push.take_joined.Goals as goal

pub take_held-requires-clause-reading : goal.take_held-requires-clause-reading
take_held-requires-clause-reading c =
    let bytes : AreBytes c.args.more.now = recursion_from_All IsByte c.args.more.now (All-from_get_or IsByte c.args.more.now 0 (λ i h. let fits = c.type_inv.more i in search (rules, fits))) in
    subst (IsReading c.args.pool.now (state_view c.args.reading.now.reader)) (sym c.in_ok-extend_from_slice.ensures.items)
    (reading_more (state_view c.args.reading.now.reader) c.args.reading.now.held.items c.args.more.now bytes c.requires.small c.requires.reading)

pub returns-clause-taken : goal.returns-clause-taken
returns-clause-taken c =
    λ m depth levels base p0 begun.
    let bytes : AreBytes c.args.more.now = recursion_from_All IsByte c.args.more.now (All-from_get_or IsByte c.args.more.now 0 (λ i h. let fits = c.type_inv.more i in search (rules, fits))) in
    c.take_held.ensures.taken m depth levels base (longer p0 c.args.more.now)
    (subst (Reads c.args.pool.now m depth levels base (longer p0 c.args.more.now) (state_view c.args.reading.now.reader)) (sym c.in_ok-extend_from_slice.ensures.items)
    (reads_more (state_view c.args.reading.now.reader) c.args.reading.now.held.items c.args.more.now bytes begun))

pub returns-clause-refused : goal.returns-clause-refused
returns-clause-refused c =
    λ m depth levels base p0 begun.
    let bytes : AreBytes c.args.more.now = recursion_from_All IsByte c.args.more.now (All-from_get_or IsByte c.args.more.now 0 (λ i h. let fits = c.type_inv.more i in search (rules, fits))) in
    c.take_held.ensures.refused m depth levels base (longer p0 c.args.more.now)
    (subst (Reads c.args.pool.now m depth levels base (longer p0 c.args.more.now) (state_view c.args.reading.now.reader)) (sym c.in_ok-extend_from_slice.ensures.items)
    (reads_more (state_view c.args.reading.now.reader) c.args.reading.now.held.items c.args.more.now bytes begun))
