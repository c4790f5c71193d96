-- What is right of the bytes received is answered, since there is one value or one fault.
use Rattle.std.proofs.Common.{◌≡◌}
use Rattle.pb_wire.specs.Grammar.{HasFault}
use Rattle.pb_schema.specs.Context.{a_message, schema_of}
use Rattle.pb_value.specs.Derives.{Text}
use Rattle.pb_decode.specs.Reader.{state_view}
use Rattle.pb_decode.proofs.DecodeLemmas.{exactly_value, same_value, accepted_from, refused_from}
use Rattle.pb_decode.proofs.DecoderLemmas.{took_by, both_ok}
use Rattle.pb_decode.proofs.GoingLemmas.{bytes_taken}
use Rattle.pb_decode.proofs.push_decoder.PushDecoder.finish.Goals as goal

pub returns-clause-value : goal.returns-clause-value
returns-clause-value c =
    rw (← c.self.view_is) (λ b after.
    both_ok c.end.result c.self.inside.pool.now c.self.inside.kind.0 (λ m. Text c.self.inside.pool.now c.self.inside.kind.0 c.self.inside.limits b m.body) c.end.ensures.of_type
    (c.end.ensures.value b (took_by c.self.inside.pool.now c.self.inside.kind.0 c.self.inside.limits b c.self.inside.reading c.in-Some.reading c.in-Some.ensures.value after)))

pub returns-clause-fault : goal.returns-clause-fault
returns-clause-fault c =
    rw (← c.self.view_is) (λ b after.
    c.end.ensures.fault b (took_by c.self.inside.pool.now c.self.inside.kind.0 c.self.inside.limits b c.self.inside.reading c.in-Some.reading c.in-Some.ensures.value after))

pub returns-clause-accepted : goal.returns-clause-accepted
returns-clause-accepted c =
    rw (← c.self.view_is) (λ b v after t.
    let took = took_by c.self.inside.pool.now c.self.inside.kind.0 c.self.inside.limits b c.self.inside.reading c.in-Some.reading c.in-Some.ensures.value after in
    accepted_from c.end.result (λ m. Text c.self.inside.pool.now c.self.inside.kind.0 c.self.inside.limits b m.body) (λ m. m.body ≡ v)
    (HasFault (schema_of c.self.inside.pool.now) (a_message c.self.inside.kind.0) c.self.inside.limits b) (c.end.ensures.value b took) (c.end.ensures.fault b took) (λ m u. same_value m.body v u t)
    (λ f reported. (exactly_value c.self.inside.pool.now c.self.inside.kind.0 c.self.inside.limits b (bytes_taken b (state_view c.in-Some.reading.reader) c.in-Some.reading.held.items took)).not_both f reported (v, t)))

pub returns-clause-refused : goal.returns-clause-refused
returns-clause-refused c =
    rw (← c.self.view_is) (λ b f after reported.
    let took = took_by c.self.inside.pool.now c.self.inside.kind.0 c.self.inside.limits b c.self.inside.reading c.in-Some.reading c.in-Some.ensures.value after in
    let law = exactly_value c.self.inside.pool.now c.self.inside.kind.0 c.self.inside.limits b (bytes_taken b (state_view c.in-Some.reading.reader) c.in-Some.reading.held.items took) in
    refused_from c.end.result (λ m. Text c.self.inside.pool.now c.self.inside.kind.0 c.self.inside.limits b m.body)
    (HasFault (schema_of c.self.inside.pool.now) (a_message c.self.inside.kind.0) c.self.inside.limits b) f (c.end.ensures.value b took) (c.end.ensures.fault b took)
    (λ m t. law.not_both f reported (m.body, t)) (λ g h. law.one g f h reported))

pub returns-clause-one : goal.returns-clause-one
returns-clause-one c =
    rw (← c.self.view_is) (λ b after.
    exactly_value c.self.inside.pool.now c.self.inside.kind.0 c.self.inside.limits b
    (bytes_taken b (state_view c.in-Some.reading.reader) c.in-Some.reading.held.items (took_by c.self.inside.pool.now c.self.inside.kind.0 c.self.inside.limits b c.self.inside.reading c.in-Some.reading c.in-Some.ensures.value after)))
