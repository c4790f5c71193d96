-- The payload is there in full, or it is cut; a string that is not UTF-8 is refused.
use Rattle.std.proofs.Common.{◌≤◌, length, ◌+◌, refl, sym, subst, arith}
use Rattle.std.proofs.lemmas.List.{length-take-le}
use Rattle.pb_wire.specs.Fault.{fault}
use Rattle.pb_wire.specs.Scan.{passed}
use Rattle.pb_wire.specs.declared.fault.Cause.TheVariants.{BadText}
use Rattle.pb_decode_parts.specs.declared.tokens.step.Step.TheVariants.{Tag}
use Rattle.pb_decode_parts.specs.Open.Parents.{Scope, Reached}
use Rattle.pb_decode_parts.specs.Open.PartView.{part_view, scope_view}
use Rattle.pb_decode.specs.Reader.{state_view, here, path_here}
use Rattle.pb_decode.proofs.ReaderLemmas.{reached_reads, fault_reported}
use Rattle.pb_decode.proofs.PayloadTaken.{payload_can, payload_few, payload_moves, payload_next, payload_refused, payload_short}
use Rattle.pb_decode.proofs.WaitLemmas.{payload_waits}
use Rattle.pb_decode.proofs.reader.state.State.take_payload.Goals as goal

pub returns-then-bytes-wanted-clause-taken : goal.returns-then-bytes-wanted-clause-taken
returns-then-bytes-wanted-clause-taken c =
    λ m depth levels base p0 begun.
    (begun, payload_short (state_view c.args.self.now) c.args.bytes.now c.args.number c.args.target c.args.size begun c.requires.step c.requires.can.rules (omega arith))

pub returns-then-bytes-wanted-clause-waits : goal.returns-then-bytes-wanted-clause-waits
returns-then-bytes-wanted-clause-waits c =
    payload_waits (state_view c.args.self.now) c.args.bytes.now c.args.number c.args.target c.args.size c.requires.step (omega arith)

pub put_payload-requires-clause-can : goal.put_payload-requires-clause-can
put_payload-requires-clause-can c =
    payload_can (state_view c.args.self.now) c.args.bytes.now c.args.number c.args.target c.args.size c.requires.can.reading.reads c.requires.step c.requires.can.rules

pub count_one-requires : goal.count_one-requires
count_one-requires c =
    let few = payload_few (state_view c.args.self.now) c.args.bytes.now c.args.number c.args.target c.args.size c.requires.can.reading.reads c.requires.step in
    let small = c.requires.can.reading.small in
    omega (arith, few, small)

pub returns-in_ok-count_one-in-Ok-clause-taken : goal.returns-in_ok-count_one-in-Ok-clause-taken
returns-in_ok-count_one-in-Ok-clause-taken c =
    λ m depth levels base p0 begun.
    let s = state_view c.args.self.now in
    let within : c.args.size ≤ length c.args.bytes.now = omega arith in
    let w = passed (here s c.args.bytes.now) c.args.size in
    let moves = payload_moves s c.args.bytes.now c.args.number c.args.target c.args.size begun c.requires.step within in
    reached_reads s (record { at = s.at + c.args.size; now = part_view c.put_payload.new.part; scope = scope_view c.count_one.new.scope; parents = s.parents; next = Tag }) c.args.size c.args.bytes.now
    refl c.in_ok-count_one-in-Ok.ensures.same_end refl
    (subst (λ (z : Scope). Reached c.args.by.now.pool.now m depth levels base p0 s.parents (part_view c.put_payload.new.part) z w) (sym c.in_ok-count_one-in-Ok.ensures.more)
    (c.in-Ok.ensures.reached m depth levels c.args.size base p0 (here s c.args.bytes.now) w s.parents s.scope
    (payload_next s c.args.bytes.now c.args.number c.args.target c.args.size begun c.requires.step) (length-take-le c.args.size c.args.bytes.now within) moves))

pub returns-in-Err-BadText-clause-refused : goal.returns-in-Err-BadText-clause-refused
returns-in-Err-BadText-clause-refused c =
    λ m depth levels base p0 begun.
    let s = state_view c.args.self.now in
    let within : c.args.size ≤ length c.args.bytes.now = omega arith in
    let w = passed (here s c.args.bytes.now) c.args.size in
    let moves = payload_moves s c.args.bytes.now c.args.number c.args.target c.args.size begun c.requires.step within in
    fault_reported c.fault_at.result (fault (c.args.self.now.at + c.in-Err-BadText.valid) (path_here s) BadText) c.fault_at.ensures
    (payload_refused s c.args.bytes.now c.args.number c.args.target c.args.size begun c.requires.step c.in-Err-BadText.field-0 c.in-Err-BadText.valid c.in-Err-BadText.field-0-is
    (c.in-Err-BadText.ensures.refused m depth levels c.args.size base p0 (here s c.args.bytes.now) w s.parents s.scope
    (payload_next s c.args.bytes.now c.args.number c.args.target c.args.size begun c.requires.step) (length-take-le c.args.size c.args.bytes.now within) moves))
