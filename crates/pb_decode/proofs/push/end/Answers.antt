-- The bytes that are taken are an encoding, or have its fault.
use Rattle.std.proofs.Common.{[], None, refl, arith}
use Rattle.pb_wire.specs.Grammar.{HasFault}
use Rattle.pb_schema.specs.Context.{a_message, schema_of}
use Rattle.pb_value.specs.Derives.{Text}
use Rattle.pb_value.specs.Dynamic.{Dynamic}
use Rattle.pb_decode.specs.Reader.{state_view}
use Rattle.pb_decode.specs.Reader.Start.{starting, further, IsWhole, BadFrom}
use Rattle.pb_decode.proofs.Outcomes.{ok_weaker, fault_weaker}
use Rattle.pb_decode.proofs.OntoText.{text_from, from_took, whole_fault}
use Rattle.pb_decode.proofs.push.end.Goals as goal

pub finish_message-requires-clause-took : goal.finish_message-requires-clause-took
finish_message-requires-clause-took c = (
  further (starting c.args.message_type.0 c.args.limits.depth [] None) c.requires.took.text,
  refl,
  from_took (state_view c.args.reading.reader) c.args.reading.held.items c.requires.took.took,
)

pub finish_message-requires-clause-small : goal.finish_message-requires-clause-small
finish_message-requires-clause-small c =
    let at = c.requires.took.took.at in
    let size = c.requires.took.took.size in
    let small = c.max_bytes-small.ensures.small in
    let same = c.max_bytes-small.ensures.same in
    omega (arith, at, size, small, same)

pub returns-clause-value : goal.returns-clause-value
returns-clause-value c =
    λ b took.
    ok_weaker c.finish_message.result (λ (m : Dynamic). IsWhole c.args.pool.now (further (starting c.args.message_type.0 c.args.limits.depth [] None) b) m.body) (λ (m : Dynamic). Text c.args.pool.now c.args.message_type.0 c.args.limits b m.body)
    (λ m whole. text_from m.body took.size whole)
    (c.finish_message.ensures.whole (further (starting c.args.message_type.0 c.args.limits.depth [] None) b) (from_took (state_view c.args.reading.reader) c.args.reading.held.items took))

pub returns-clause-fault : goal.returns-clause-fault
returns-clause-fault c =
    λ b took.
    fault_weaker c.finish_message.result (BadFrom c.args.pool.now (further (starting c.args.message_type.0 c.args.limits.depth [] None) b)) (HasFault (schema_of c.args.pool.now) (a_message c.args.message_type.0) c.args.limits b)
    (λ f bad. whole_fault c.args.pool.now [] f took.size bad)
    (c.finish_message.ensures.fault (further (starting c.args.message_type.0 c.args.limits.depth [] None) b) (from_took (state_view c.args.reading.reader) c.args.reading.held.items took))
