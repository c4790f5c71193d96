-- The first bytes of the piece are after those that are held, and the others after these.
use Rattle.std.proofs.Common.{◌≡◌, ◌+◌, ◌-◌, take, drop, length, vec_len, rules, ◌∙◌, subst, arith, length-drop}
use Rattle.std.proofs.lemmas.List.{take_rest}
use Rattle.std.proofs.lemmas.List.Elements.{All-from_get_or, recursion_from_All}
use Rattle.std.proofs.lemmas.Result.{err_from_is_err_and}
use Rattle.pb_wire.specs.Exact.{longer}
use Rattle.pb_wire.specs.Fault.{Place}
use Rattle.pb_wire.specs.Ranges.{IsByte, AreBytes}
use Rattle.pb_decode.specs.Reader.{state_view, Reads, Stops, Reported}
use Rattle.pb_decode.proofs.ReaderLemmas.{if_fault_weaker}
use Rattle.pb_decode.proofs.PieceLemmas.{next_given, last_given, all_given, reads_rest, part_bytes, reported_on}
use Rattle.pb_decode_parts.proofs.AnswerLemmas.{none_held}
use Rattle.pb_decode.proofs.push.take_piece.Goals as goal

pub take_joined-requires-clause-reading : goal.take_joined-requires-clause-reading
take_joined-requires-clause-reading c =
    let from = c.requires.reading in
    let small = c.requires.small in
    let at = c.loop-reading.invariant.at in
    let within = c.loop-reading.invariant.within in
    record {
      m = from.m;
      depth = from.depth;
      levels = from.levels;
      base = from.base;
      p0 = longer from.p0 (take c.loop-reading.here c.args.piece.now);
      reads = c.loop-reading.invariant.reads from.m from.depth from.levels from.base from.p0 from.reads;
      small = omega (arith, small, at, within);
    }

pub returns-in_err-take_joined-clause-refused : goal.returns-in_err-take_joined-clause-refused
returns-in_err-take_joined-clause-refused c =
    λ m depth levels base p0 begun.
    let p = err_from_is_err_and c.from_residual.result c.from_residual.ensures.1 in
    rw (p.1, p.2)
    (if_fault_weaker c.in_err-take_joined.field-0.0
    (Reported c.args.pool.now m depth (longer (longer p0 (take c.loop-reading.here c.args.piece.now)) (take ((c.loop-reading.here + c.min-more.result) - c.loop-reading.here) (drop c.loop-reading.here c.args.piece.now))))
    (Reported c.args.pool.now m depth (longer p0 c.args.piece.now)) (reported_on p0 c.loop-reading.here c.min-more.result c.args.piece.now)
    (c.in_err-take_joined.ensures.refused m depth levels base (longer p0 (take c.loop-reading.here c.args.piece.now)) (c.loop-reading.invariant.reads m depth levels base p0 begun)))

pub returns-then-here-piece-clause-taken : goal.returns-then-here-piece-clause-taken
returns-then-here-piece-clause-taken c =
    λ m depth levels base p0 begun.
    subst (λ (z : Place). Reads c.args.pool.now m depth levels base z (state_view c.take_joined.new.reading.reader) c.take_joined.new.reading.held.items × Stops c.args.pool.now m depth z (state_view c.take_joined.new.reading.reader) c.take_joined.new.reading.held.items)
    (next_given p0 c.loop-reading.here c.min-more.result c.args.piece.now ∙ all_given p0 (c.loop-reading.here + c.min-more.result) c.args.piece.now c.if-here-piece.true)
    (c.in_ok-take_joined.ensures.taken m depth levels base (longer p0 (take c.loop-reading.here c.args.piece.now)) (c.loop-reading.invariant.reads m depth levels base p0 begun))

pub loop-reading-preserved : goal.loop-reading-preserved
loop-reading-preserved c =
    let more = c.min-more.ensures in
    let within = c.loop-reading.invariant.within in
    let at = c.loop-reading.invariant.at in
    let moved = c.in_ok-take_joined.ensures.at in
    let size = length-drop c.loop-reading.here c.args.piece.now in
    record {
      within = omega (arith, more, within);
      at = search rules;
      reads = λ m depth levels base p0 begun.
          subst (λ (z : Place). Reads c.args.pool.now m depth levels base z (state_view c.take_joined.new.reading.reader) c.take_joined.new.reading.held.items) (next_given p0 c.loop-reading.here c.min-more.result c.args.piece.now)
          (c.in_ok-take_joined.ensures.taken m depth levels base (longer p0 (take c.loop-reading.here c.args.piece.now)) (c.loop-reading.invariant.reads m depth levels base p0 begun)).0;
    }

pub take_front-requires-clause-reading : goal.take_front-requires-clause-reading
take_front-requires-clause-reading c =
    let from = c.requires.reading in
    let empty = none_held (vec_len c.loop-reading.reading.held) c.loop-reading-test.ensures in
    let none : length c.loop-reading.reading.held.items ≡ 0 = omega (arith, empty) in
    let bytes : AreBytes c.args.piece.now = recursion_from_All IsByte c.args.piece.now (All-from_get_or IsByte c.args.piece.now 0 (λ i h. let fits = c.type_inv.piece i in search (rules, fits))) in
    let small = c.requires.small in
    let at = c.loop-reading.invariant.at in
    let within = c.loop-reading.invariant.within in
    let size : length (take (length c.args.piece.now - c.loop-reading.here) (drop c.loop-reading.here c.args.piece.now)) ≡ length c.args.piece.now - c.loop-reading.here = rw take_rest (length-drop c.loop-reading.here c.args.piece.now) in
    record {
      m = from.m;
      depth = from.depth;
      levels = from.levels;
      base = from.base;
      p0 = longer (longer from.p0 (take c.loop-reading.here c.args.piece.now)) (take (length c.args.piece.now - c.loop-reading.here) (drop c.loop-reading.here c.args.piece.now));
      reads =
          reads_rest (state_view c.loop-reading.reading.reader) c.loop-reading.reading.held.items (take (length c.args.piece.now - c.loop-reading.here) (drop c.loop-reading.here c.args.piece.now)) none
          (part_bytes (length c.args.piece.now - c.loop-reading.here) c.loop-reading.here c.args.piece.now bytes) (c.loop-reading.invariant.reads from.m from.depth from.levels from.base from.p0 from.reads);
      small = omega (arith, small, at, within, size);
    }

pub returns-clause-taken : goal.returns-clause-taken
returns-clause-taken c =
    λ m depth levels base p0 begun.
    let empty = none_held (vec_len c.loop-reading.reading.held) c.loop-reading-test.ensures in
    let none : length c.loop-reading.reading.held.items ≡ 0 = omega (arith, empty) in
    let bytes : AreBytes c.args.piece.now = recursion_from_All IsByte c.args.piece.now (All-from_get_or IsByte c.args.piece.now 0 (λ i h. let fits = c.type_inv.piece i in search (rules, fits))) in
    let given = last_given p0 c.loop-reading.here c.args.piece.now in
    let there = c.take_front.ensures.taken m depth levels base (longer (longer p0 (take c.loop-reading.here c.args.piece.now)) (take (length c.args.piece.now - c.loop-reading.here) (drop c.loop-reading.here c.args.piece.now)))
    (reads_rest (state_view c.loop-reading.reading.reader) c.loop-reading.reading.held.items (take (length c.args.piece.now - c.loop-reading.here) (drop c.loop-reading.here c.args.piece.now)) none
    (part_bytes (length c.args.piece.now - c.loop-reading.here) c.loop-reading.here c.args.piece.now bytes) (c.loop-reading.invariant.reads m depth levels base p0 begun)) in
    rw given at there

pub returns-clause-refused : goal.returns-clause-refused
returns-clause-refused c =
    λ m depth levels base p0 begun.
    let empty = none_held (vec_len c.loop-reading.reading.held) c.loop-reading-test.ensures in
    let none : length c.loop-reading.reading.held.items ≡ 0 = omega (arith, empty) in
    let bytes : AreBytes c.args.piece.now = recursion_from_All IsByte c.args.piece.now (All-from_get_or IsByte c.args.piece.now 0 (λ i h. let fits = c.type_inv.piece i in search (rules, fits))) in
    let given = last_given p0 c.loop-reading.here c.args.piece.now in
    let there = c.take_front.ensures.refused m depth levels base (longer (longer p0 (take c.loop-reading.here c.args.piece.now)) (take (length c.args.piece.now - c.loop-reading.here) (drop c.loop-reading.here c.args.piece.now)))
    (reads_rest (state_view c.loop-reading.reading.reader) c.loop-reading.reading.held.items (take (length c.args.piece.now - c.loop-reading.here) (drop c.loop-reading.here c.args.piece.now)) none
    (part_bytes (length c.args.piece.now - c.loop-reading.here) c.loop-reading.here c.args.piece.now bytes) (c.loop-reading.invariant.reads m depth levels base p0 begun)) in
    rw given at there
