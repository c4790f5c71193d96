use Rattle.std.proofs.Common.{◌≡◌, Some, None, sym, ap, ◌∙◌}
use Rattle.std.specs.Option.{option_copied}
use Rattle.pb_schema.specs.Types.{message_fields}
use Rattle.pb_json_read.specs.NameTables.{place_in, place_meant}
use Rattle.pb_json_read.proofs.NameLemmas.{meant_at, meant_nowhere, meant_rules}
use Rattle.pb_json_read.proofs.names.in_table.Goals as goal

pub returns-in-Some-clause-found : goal.returns-in-Some-clause-found
returns-in-Some-clause-found c = λ names table.
    let m = c.args.message.0 in
    let fields = message_fields c.args.pool.now m in
    let place : place_meant names m fields c.args.name.now ≡ Some c.in-Some.index.now =
    sym (table c.args.name.now) ∙ ap (place_in c.args.table.now) (sym c.as_bytes.ensures.value) ∙ sym c.get.ensures.value ∙ ap option_copied c.in-Some.is in
    c.field_at.ensures.found ∙ sym (meant_at names m fields c.args.name.now c.in-Some.index.now place)

pub returns-in-Some-clause-rules : goal.returns-in-Some-clause-rules
returns-in-Some-clause-rules c = λ names table.
    let m = c.args.message.0 in
    let fields = message_fields c.args.pool.now m in
    let place : place_meant names m fields c.args.name.now ≡ Some c.in-Some.index.now =
    sym (table c.args.name.now) ∙ ap (place_in c.args.table.now) (sym c.as_bytes.ensures.value) ∙ sym c.get.ensures.value ∙ ap option_copied c.in-Some.is in
    meant_rules names c.args.pool.now m c.args.name.now c.field_at.result c.field_at.ensures.rules
    (c.field_at.ensures.found ∙ sym (meant_at names m fields c.args.name.now c.in-Some.index.now place))

pub returns-in-None-clause-found : goal.returns-in-None-clause-found
returns-in-None-clause-found c = λ names table.
    let m = c.args.message.0 in
    let fields = message_fields c.args.pool.now m in
    let place : place_meant names m fields c.args.name.now ≡ None =
    sym (table c.args.name.now) ∙ ap (place_in c.args.table.now) (sym c.as_bytes.ensures.value) ∙ sym c.get.ensures.value ∙ ap option_copied c.in-None.is in
    sym (meant_nowhere names m fields c.args.name.now place)
