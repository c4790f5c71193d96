-- What is right is answered, since there is one value or one fault.
use Rattle.std.proofs.Common.{◌≡◌, rules}
use Rattle.std.proofs.lemmas.List.Elements.{All-from_get_or}
use Rattle.pb_wire.specs.Grammar.{HasFault}
use Rattle.pb_wire.specs.Ranges.{IsByte}
use Rattle.pb_schema.specs.Context.{a_message, schema_of}
use Rattle.pb_value.specs.Derives.{Text}
use Rattle.pb_decode.proofs.DecodeLemmas.{exactly_value, same_value, accepted_from, refused_from}
use Rattle.pb_decode.proofs.push.decode.Goals as goal

pub returns-clause-one : goal.returns-clause-one
returns-clause-one c = exactly_value c.args.pool.now c.args.message_type.0 c.args.limits c.args.bytes.now (All-from_get_or IsByte c.args.bytes.now 0 (λ i h. let fits = c.type_inv.bytes i in search (rules, fits)))

pub returns-clause-accepted : goal.returns-clause-accepted
returns-clause-accepted c =
    λ v t.
    accepted_from c.read_whole.result (λ m. Text c.args.pool.now c.args.message_type.0 c.args.limits c.args.bytes.now m.body) (λ m. m.body ≡ v)
    (HasFault (schema_of c.args.pool.now) (a_message c.args.message_type.0) c.args.limits c.args.bytes.now) c.read_whole.ensures.value c.read_whole.ensures.fault (λ m u. same_value m.body v u t)
    (λ f bad. (returns-clause-one c).not_both f bad (v, t))

pub returns-clause-refused : goal.returns-clause-refused
returns-clause-refused c =
    λ f bad.
    refused_from c.read_whole.result (λ m. Text c.args.pool.now c.args.message_type.0 c.args.limits c.args.bytes.now m.body)
    (HasFault (schema_of c.args.pool.now) (a_message c.args.message_type.0) c.args.limits c.args.bytes.now) f c.read_whole.ensures.value c.read_whole.ensures.fault
    (λ m t. (returns-clause-one c).not_both f bad (m.body, t))
    (λ g h. (returns-clause-one c).one g f h bad)
