use Rattle.std.proofs.Common.{◌∙◌, ap}
use Rattle.pb_schema.specs.View.{bytes_of, types_of}
use Rattle.pb_schema.proofs.LookupLemmas.{pool_parents, set_of_messages, set_of_enums, enum_names_by}
use Rattle.pb_schema.proofs.tables.tables_of.Goals as goal

pub message_names-requires : goal.message_names-requires
message_names-requires c =
    pool_parents (types_of c.args.files.now c.args.messages.now c.args.enums.now) _ c.requires

pub returns : goal.returns
returns c =
    let ts = types_of c.args.files.now c.args.messages.now c.args.enums.now in
    let ok = c.requires in
    let of_enums = c.in_ok-names_of_enums.ensures ∙ enum_names_by ts (bytes_of c.deref.result.now) ok (ap bytes_of c.deref.ensures.value ∙ c.in_ok-names.ensures) in
    record {
      messages = set_of_messages ts (bytes_of c.in_ok-names.names.items) c.in_ok-added_messages.added_messages ok c.in_ok-names.ensures c.in_ok-added_messages.ensures;
      enums = set_of_enums ts (bytes_of c.in_ok-names_of_enums.names_of_enums.items) c.in_ok-added_enums.added_enums ok of_enums c.in_ok-added_enums.ensures;
      numbers = c.in_ok-numbers.ensures;
      members = c.in_ok-members.ensures;
      names = c.in_ok-field_names.ensures;
      values = c.in_ok-values.ensures;
    }
