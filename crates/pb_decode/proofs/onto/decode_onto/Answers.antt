-- What is right is answered, since there is one value or one fault; and onto a message means after any bytes that it derives from.
use Rattle.std.proofs.Common.{◌≡◌, ◌++◌, rules, subst}
use Rattle.std.proofs.lemmas.List.Elements.{All-from_get_or}
use Rattle.pb_wire.specs.Grammar.{HasFault}
use Rattle.pb_wire.specs.Limits.{full}
use Rattle.pb_wire.specs.Ranges.{IsByte}
use Rattle.pb_schema.specs.Rules.{IsPool}
use Rattle.pb_schema.specs.Context.{a_message, schema_of}
use Rattle.pb_value.specs.Canon.{canon_bytes}
use Rattle.pb_value.specs.Derives.{Derives, Text}
use Rattle.pb_value.specs.Dynamic.{Dynamic}
use Rattle.pb_decode.specs.Onto.{IsTextOnto}
use Rattle.pb_decode.proofs.DecodeLemmas.{accepted_from, refused_from}
use Rattle.pb_decode.proofs.Outcomes.{ok_weaker}
use Rattle.pb_decode.proofs.OntoText.{exactly_onto, same_onto, never_both, onto_derives, derives_onto, joined_text}
use Rattle.pb_decode.proofs.onto.decode_onto.Goals as goal

pub returns-clause-value : goal.returns-clause-value
returns-clause-value c = search rules

pub returns-clause-fault : goal.returns-clause-fault
returns-clause-fault c = search rules

pub returns-clause-one : goal.returns-clause-one
returns-clause-one c =
    exactly_onto c.args.message.pool c.args.message.kind c.args.limits c.args.message.body c.args.bytes.now (All-from_get_or IsByte c.args.bytes.now 0 (λ i h. let fits = c.type_inv.bytes i in search (rules, fits)))

pub returns-clause-accepted : goal.returns-clause-accepted
returns-clause-accepted c =
    λ w t.
    accepted_from c.read_onto.result (λ m. IsTextOnto c.args.message.pool c.args.message.kind c.args.limits c.args.message.body c.args.bytes.now m.body) (λ m. m.body ≡ w)
    (HasFault (schema_of c.args.message.pool) (a_message c.args.message.kind) c.args.limits c.args.bytes.now) (returns-clause-value c) (returns-clause-fault c) (λ m u. same_onto m.body w u t) (λ f bad. never_both f bad t)

pub returns-clause-refused : goal.returns-clause-refused
returns-clause-refused c =
    λ f bad.
    refused_from c.read_onto.result (λ m. IsTextOnto c.args.message.pool c.args.message.kind c.args.limits c.args.message.body c.args.bytes.now m.body)
    (HasFault (schema_of c.args.message.pool) (a_message c.args.message.kind) c.args.limits c.args.bytes.now) f (returns-clause-value c) (returns-clause-fault c) (λ m t. never_both f bad t)
    (λ g h. (returns-clause-one c).one g f h bad)

pub returns-clause-joined : goal.returns-clause-joined
returns-clause-joined c =
    λ a h.
    let ok : IsPool c.args.message.pool = subst IsPool c.pool-pool.ensures c.messages-types.ensures.rules in
    ok_weaker c.read_onto.result (λ (m : Dynamic). IsTextOnto c.args.message.pool c.args.message.kind c.args.limits c.args.message.body c.args.bytes.now m.body) (λ (m : Dynamic). Derives c.args.message.pool c.args.message.kind c.args.limits.depth (a ++ c.args.bytes.now) m.body)
    (λ m t. onto_derives c.args.message.pool ok c.args.message.kind c.args.limits.depth c.args.message.body c.body-well_formed.ensures.well_formed a c.args.bytes.now m.body h t.onto) (returns-clause-value c)

pub returns-clause-accepts_joined : goal.returns-clause-accepts_joined
returns-clause-accepts_joined c =
    λ a w size h g.
    let ok : IsPool c.args.message.pool = subst IsPool c.pool-pool.ensures c.messages-types.ensures.rules in
    returns-clause-accepted c w
    (record { size = size; onto = derives_onto c.args.message.pool ok c.args.message.kind c.args.limits.depth c.args.message.body c.body-well_formed.ensures.well_formed a c.args.bytes.now w h g })

pub returns-clause-text : goal.returns-clause-text
returns-clause-text c =
    λ small.
    let ok : IsPool c.args.message.pool = subst IsPool c.pool-pool.ensures c.messages-types.ensures.rules in
    ok_weaker c.read_onto.result (λ (m : Dynamic). IsTextOnto c.args.message.pool c.args.message.kind c.args.limits c.args.message.body c.args.bytes.now m.body) (λ (m : Dynamic). Text c.args.message.pool c.args.message.kind full (canon_bytes c.args.message.pool c.args.message.kind c.args.message.body ++ c.args.bytes.now) m.body)
    (λ m t. joined_text c.args.message.pool ok c.args.message.kind c.args.limits c.args.message.body c.args.bytes.now m.body c.read_onto.ensures.deep c.body-well_formed.ensures.well_formed small t) (returns-clause-value c)
