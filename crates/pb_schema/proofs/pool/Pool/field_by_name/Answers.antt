use Rattle.std.proofs.Common.{◌≡◌, ◌<◌, List, Option, map, length, sym, ap, ◌∙◌, subst, arith}
use Rattle.std.specs.Str.{bytes_eq}
use Rattle.std.proofs.lemmas.List.{length-map}
use Rattle.pb_schema.specs.declared.types.Field.{Field}
use Rattle.pb_schema.specs.Types.{Types, MessageView, message_fields, fields_of_message}
use Rattle.pb_schema.specs.View.{field_view, message_view}
use Rattle.pb_names.specs.NameSets.{NameSet}
use Rattle.pb_schema.specs.Tables.{field_named, IsNameTable}
use Rattle.pb_schema.specs.Rules.{IsPool}
use Rattle.pb_schema.proofs.AddLemmas.{get_or-map}
use Rattle.pb_schema.proofs.TableLemmas.{table_at, tables_length}
use Rattle.pb_schema.proofs.LookupLemmas.{get_viewed, found_rules}
use Rattle.pb_schema.proofs.pool.Pool.field_by_name.Goals as goal

pub index-requires-2 : goal.index-requires-2
index-requires-2 c =
    omega (arith, c.requires, ap (λ (ts : Types). length ts.messages) c.self.view_is, tables_length (λ (t : MessageView) (n : Option NameSet). IsNameTable t.fields n) (map message_view c.self.inside.messages.items) c.self.inside.tables.names.items c.self.invariant.1.names, c.self.inside.tables.names.ok.0)

pub field_named-requires : goal.field_named-requires
field_named-requires c =
    let ms = c.self.inside.messages.items in
    let m = c.args.message.0 in
    let x = c.index.result.now in
    let n = c.index-2.result.now in
    let within : m < length ms = omega (arith, c.requires, ap (λ (ts : Types). length ts.messages) c.self.view_is, length-map ms message_view) in
    let at : message_view x ≡ _ = ap message_view c.index.ensures ∙ sym (get_or-map message_view ms m x (message_view x) within) in
    let table = table_at (λ (t : MessageView) (o : Option NameSet). IsNameTable t.fields o) (map message_view ms) c.self.inside.tables.names.items m (message_view x) n c.self.invariant.1.names (omega (arith, length-map ms message_view, within)) at c.index-2.ensures in
    subst (λ (l : List Field). IsNameTable (map field_view l) n) (sym c.deref.ensures.value) table

pub returns : goal.returns
returns c =
    let ms = c.self.inside.messages.items in
    let m = c.args.message.0 in
    let within : m < length ms = omega (arith, c.requires, ap (λ (ts : Types). length ts.messages) c.self.view_is, length-map ms message_view) in
    let fields : map field_view c.index.result.now.fields.items ≡ message_fields c.args.self.now m = ap fields_of_message (sym (get_viewed message_view ms m c.index.result.now within c.index.ensures)) ∙ ap (λ (ts : Types). message_fields ts m) c.self.view_is in
    let found = c.field_named.ensures ∙ ap (λ (l : List Field). field_named c.args.name.now (map field_view l)) c.deref.ensures.value ∙ ap (field_named c.args.name.now) fields in
    let ok = subst IsPool c.self.view_is c.self.invariant.0 in
    record {
      found = found;
      rules = found_rules c.args.self.now m (λ f. bytes_eq f.name c.args.name.now) c.field_named.result ok found;
      pool = ok;
    }
