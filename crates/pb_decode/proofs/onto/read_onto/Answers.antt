-- The reader goes on from the message's canonical records.
use Rattle.std.proofs.Common.{List, refl, None}
use Rattle.pb_wire.specs.Grammar.{HasFault}
use Rattle.pb_wire.specs.Record.{Record}
use Rattle.pb_schema.specs.Context.{a_message, schema_of}
use Rattle.pb_value.specs.Canon.{canon}
use Rattle.pb_value.specs.Dynamic.{Dynamic}
use Rattle.pb_value.specs.View.{body_view}
use Rattle.pb_decode.specs.Reader.{state_view}
use Rattle.pb_decode.specs.Reader.Start.{Start, starting, further, BadFrom, IsWhole}
use Rattle.pb_decode.specs.Onto.{IsTextOnto}
use Rattle.pb_decode.proofs.Outcomes.{ok_weaker, fault_weaker}
use Rattle.pb_decode.proofs.OntoText.{begun_onto, text_onto, whole_fault}
use Rattle.pb_decode.proofs.onto.read_onto.Goals as goal

pub take_within-requires-clause-took : goal.take_within-requires-clause-took
take_within-requires-clause-took c = (
  canon c.args.pool.now c.args.message_type.0 (body_view c.args.body),
  begun_onto c.max_depth-depth_left.result c.args.limits.depth (state_view c.begin_at-reading.result.reader) c.begin_at-reading.result.held.items c.max_depth-depth_left.ensures.same c.requires.rules c.requires.within c.requires.well_formed c.begin_at-reading.ensures.took,
)

pub finish_message-requires-clause-took : goal.finish_message-requires-clause-took
finish_message-requires-clause-took c = (
  further (starting c.args.message_type.0 c.args.limits.depth (canon c.args.pool.now c.args.message_type.0 (body_view c.args.body)) None) c.args.bytes.now,
  refl,
  c.in_ok-take_within.ensures.took (canon c.args.pool.now c.args.message_type.0 (body_view c.args.body))
      (begun_onto c.max_depth-depth_left.result c.args.limits.depth (state_view c.begin_at-reading.result.reader) c.begin_at-reading.result.held.items c.max_depth-depth_left.ensures.same c.requires.rules c.requires.within c.requires.well_formed c.begin_at-reading.ensures.took),
)

pub returns-clause-value : goal.returns-clause-value
returns-clause-value c =
    let base : List Record = canon c.args.pool.now c.args.message_type.0 (body_view c.args.body) in
    let o : Start = further (starting c.args.message_type.0 c.args.limits.depth base None) c.args.bytes.now in
    ok_weaker c.finish_message.result (λ (m : Dynamic). IsWhole c.args.pool.now o m.body) (λ (m : Dynamic). IsTextOnto c.args.pool.now c.args.message_type.0 c.args.limits (body_view c.args.body) c.args.bytes.now m.body)
    (λ m whole. text_onto m.body c.in_ok-take_within.ensures.size whole)
    (c.finish_message.ensures.whole o
    (c.in_ok-take_within.ensures.took base
    (begun_onto c.max_depth-depth_left.result c.args.limits.depth (state_view c.begin_at-reading.result.reader) c.begin_at-reading.result.held.items c.max_depth-depth_left.ensures.same c.requires.rules c.requires.within c.requires.well_formed c.begin_at-reading.ensures.took)))

pub returns-clause-fault : goal.returns-clause-fault
returns-clause-fault c =
    let base : List Record = canon c.args.pool.now c.args.message_type.0 (body_view c.args.body) in
    let o : Start = further (starting c.args.message_type.0 c.args.limits.depth base None) c.args.bytes.now in
    fault_weaker c.finish_message.result (BadFrom c.args.pool.now o) (HasFault (schema_of c.args.pool.now) (a_message c.args.message_type.0) c.args.limits c.args.bytes.now)
    (λ f bad. whole_fault c.args.pool.now base f c.in_ok-take_within.ensures.size bad)
    (c.finish_message.ensures.fault o
    (c.in_ok-take_within.ensures.took base
    (begun_onto c.max_depth-depth_left.result c.args.limits.depth (state_view c.begin_at-reading.result.reader) c.begin_at-reading.result.held.items c.max_depth-depth_left.ensures.same c.requires.rules c.requires.within c.requires.well_formed c.begin_at-reading.ensures.took)))
