-- What is reported of the length is reported of the input, and after it what it begins is begun.
use Rattle.std.proofs.Common.{◌≢◌, [], refl, ap, arith}
use Rattle.pb_wire.specs.Fault.{Place, fault, input_end, HasLength, LengthFault, VarintFault}
use Rattle.pb_wire.specs.declared.fault.Cause.TheVariants.{Truncated}
use Rattle.pb_wire.specs.Scan.{passed}
use Rattle.pb_decode_parts.specs.Tokens.After.{tag, awaited}
use Rattle.pb_decode.specs.Reader.{state_view, here, path_here}
use Rattle.pb_decode.proofs.ReaderLemmas.{fault_reported}
use Rattle.pb_decode.proofs.ReaderSafe.{awaited_can}
use Rattle.pb_decode.proofs.LengthTaken.{at_length, length_fault_reported, length_short}
use Rattle.pb_decode.proofs.TagTaken.{at_own_left, cut_length}
use Rattle.pb_decode_parts.proofs.NumberTokens.{number_size}
use Rattle.pb_decode.proofs.WaitLemmas.{length_waits}
use Rattle.pb_decode.proofs.reader.state.State.take_length.Goals as goal

pub overflow_cast-begin : goal.overflow_cast-begin
overflow_cast-begin c =
    let within = (c.in-Whole.ensures c.args.self.now.at).0 in
    let small = c.requires.can.reading.small in
    omega (arith, within, small)

pub overflow_add-begin : goal.overflow_add-begin
overflow_add-begin c =
    let within = (c.in-Whole.ensures c.args.self.now.at).0 in
    let small = c.requires.can.reading.small in
    omega (arith, within, small)

pub advance_past_length-requires : goal.advance_past_length-requires
advance_past_length-requires c =
    let there = c.in-Whole.ensures c.args.self.now.at in
    let within = there.0 in
    let small = c.requires.can.reading.small in
    let size = there.1.small in
    omega (arith, within, small, size)

pub returns-in_ok-advance_past_length-in-Whole-clause-passes : goal.returns-in_ok-advance_past_length-in-Whole-clause-passes
returns-in_ok-advance_past_length-in-Whole-clause-passes c =
    let there = c.in-Whole.ensures c.args.self.now.at in
    let some = number_size there.1.length_is in
    let weighs = c.in_ok-advance_past_length-in-Whole.ensures.at.1 in
    (there.0, c.in_ok-advance_past_length-in-Whole.ensures.at.0, omega (arith, some, weighs))

pub returns-in_ok-advance_past_length-in-Whole-clause-taken : goal.returns-in_ok-advance_past_length-in-Whole-clause-taken
returns-in_ok-advance_past_length-in-Whole-clause-taken c =
    λ m depth levels base p0 begun.
    let s = state_view c.args.self.now in
    let has = at_own_left (λ (p : Place). HasLength p c.in-Whole.size (passed p c.in-Whole.used)) s c.left.result c.args.bytes.now c.left.ensures (c.in-Whole.ensures c.args.self.now.at).1 in
    c.in_ok-advance_past_length-in-Whole.ensures.reads c.args.by.now.pool.now m depth levels base p0 (here s c.args.bytes.now) (passed (here s c.args.bytes.now) c.in-Whole.used) c.requires.can.rules
    (awaited_can (tag c.args.number 2 c.args.target) c.requires.can.rules begun (ap awaited c.requires.step))
    (at_length s c.args.bytes.now c.args.number c.args.target begun c.requires.step) has refl

pub returns-in-Short-clause-taken : goal.returns-in-Short-clause-taken
returns-in-Short-clause-taken c =
    λ m depth levels base p0 begun.
    let s = state_view c.args.self.now in
    let cut = at_own_left (λ (p : Place). VarintFault p (fault (input_end p) [] Truncated)) s c.left.result c.args.bytes.now c.left.ensures (cut_length (c.in-Short.ensures c.args.self.now.at)) in
    (begun, length_short s c.args.bytes.now c.args.number c.args.target begun c.requires.step cut)

pub returns-in-Short-clause-waits : goal.returns-in-Short-clause-waits
returns-in-Short-clause-waits c =
    let s = state_view c.args.self.now in
    length_waits s c.args.bytes.now c.args.number c.args.target c.requires.step
    (at_own_left (λ (p : Place). VarintFault p (fault (input_end p) [] Truncated)) s c.left.result c.args.bytes.now c.left.ensures (cut_length (c.in-Short.ensures c.args.self.now.at)))

pub returns-in-Fault-clause-refused : goal.returns-in-Fault-clause-refused
returns-in-Fault-clause-refused c =
    λ m depth levels base p0 begun.
    let s = state_view c.args.self.now in
    let bad = at_own_left (λ (p : Place). (c.in-Fault.cause ≢ Truncated) × LengthFault p (fault c.args.self.now.at [] c.in-Fault.cause)) s c.left.result c.args.bytes.now c.left.ensures (c.in-Fault.ensures c.args.self.now.at) in
    fault_reported c.fault_at.result (fault c.args.self.now.at (path_here s) c.in-Fault.cause) c.fault_at.ensures
    (length_fault_reported s c.args.bytes.now c.args.number c.args.target c.in-Fault.cause begun c.requires.step bad.0 bad.1)
