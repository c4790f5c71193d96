-- All that the input gave is one text, or has the fault of all that was left.
use Rattle.std.proofs.Common.{[], None, refl, arith}
use Rattle.std.specs.Prelude.{IfSome}
use Rattle.pb_wire.specs.Grammar.{HasFault}
use Rattle.pb_schema.specs.Context.{a_message, schema_of}
use Rattle.pb_value.specs.Derives.{Text}
use Rattle.pb_value.specs.Dynamic.{Dynamic}
use Rattle.pb_decode.specs.Reader.Start.{Start, starting, further, IsWhole, BadFrom}
use Rattle.pb_decode.proofs.Outcomes.{ok_weaker, ok_left, tells_kept, never_device}
use Rattle.pb_decode.proofs.DeviceLemmas.{reads_at, text_left, fault_left, err_refused}
use Rattle.pb_decode.proofs.from_device.read_message.Goals as goal

pub read_within-requires-clause-took : goal.read_within-requires-clause-took
read_within-requires-clause-took g c = (
  [],
  c.begin_empty-reading.ensures.took,
)

pub finish_message-requires-clause-took : goal.finish_message-requires-clause-took
finish_message-requires-clause-took g c = (
  further (starting c.args.message_type.0 c.args.limits.depth [] None) c.in_ok-read_within.ensures.read.2.bytes,
  refl,
  c.in_ok-read_within.ensures.read.2.onward (starting c.args.message_type.0 c.args.limits.depth [] None)
      c.begin_empty-reading.ensures.took,
)

pub finish_message-requires-clause-small : goal.finish_message-requires-clause-small
finish_message-requires-clause-small g c =
    let at = reads_at (starting c.args.message_type.0 c.args.limits.depth [] None) c.in_ok-read_within.ensures.read.2 c.begin_empty-reading.ensures.took in
    let begun = c.begin_empty-reading.ensures.at in
    let few = c.in_ok-read_within.ensures.read.1 in
    let small = c.in_ok-read_within.ensures.small in
    omega (arith, at, begun.0, begun.1, few, small)

pub returns-clause-value : goal.returns-clause-value
returns-clause-value g c =
    let read = c.in_ok-read_within.ensures.read.2 in
    let few = c.in_ok-read_within.ensures.read.1 in
    let size = read.size in
    let o : Start = further (starting c.args.message_type.0 c.args.limits.depth [] None) read.bytes in
    ok_left c.finish_message.result (g.I.Input.left c.args.input.now) (λ left (m : Dynamic). Text c.args.pool.now c.args.message_type.0 c.args.limits left m.body)
    (ok_weaker c.finish_message.result (λ (m : Dynamic). IsWhole c.args.pool.now o m.body) (λ (m : Dynamic). IfSome (g.I.Input.left c.args.input.now) (λ left. Text c.args.pool.now c.args.message_type.0 c.args.limits left m.body))
    (λ m whole. text_left (g.I.Input.left c.args.input.now) (g.I.Input.left c.read_within.new.input) read.bytes m.body (omega (arith, few, size)) read.given c.in_ok-read_within.ensures.ends whole)
    (c.finish_message.ensures.whole o (read.onward (starting c.args.message_type.0 c.args.limits.depth [] None) c.begin_empty-reading.ensures.took)))

pub returns-clause-fault : goal.returns-clause-fault
returns-clause-fault g c =
    let read = c.in_ok-read_within.ensures.read.2 in
    let few = c.in_ok-read_within.ensures.read.1 in
    let size = read.size in
    let o : Start = further (starting c.args.message_type.0 c.args.limits.depth [] None) read.bytes in
    err_refused c.finish_message.result (BadFrom c.args.pool.now o) (λ f. IfSome (g.I.Input.left c.args.input.now) (λ left. HasFault (schema_of c.args.pool.now) (a_message c.args.message_type.0) c.args.limits left f))
    (λ f bad. fault_left c.args.pool.now [] (g.I.Input.left c.args.input.now) (g.I.Input.left c.read_within.new.input) read.bytes f (omega (arith, few, size)) read.given c.in_ok-read_within.ensures.ends bad)
    (c.finish_message.ensures.fault o (read.onward (starting c.args.message_type.0 c.args.limits.depth [] None) c.begin_empty-reading.ensures.took))

pub returns-clause-failures : goal.returns-clause-failures
returns-clause-failures g c =
    let read = c.in_ok-read_within.ensures.read.2 in
    let o : Start = further (starting c.args.message_type.0 c.args.limits.depth [] None) read.bytes in
    tells_kept c.finish_message.result (BadFrom c.args.pool.now o) _ _ c.in_ok-read_within.ensures.failures (c.finish_message.ensures.fault o (read.onward (starting c.args.message_type.0 c.args.limits.depth [] None) c.begin_empty-reading.ensures.took))

pub returns-clause-steady : goal.returns-clause-steady
returns-clause-steady g c =
    let read = c.in_ok-read_within.ensures.read.2 in
    let o : Start = further (starting c.args.message_type.0 c.args.limits.depth [] None) read.bytes in
    λ h. never_device c.finish_message.result (BadFrom c.args.pool.now o) (c.finish_message.ensures.fault o (read.onward (starting c.args.message_type.0 c.args.limits.depth [] None) c.begin_empty-reading.ensures.took))
