use Rattle.std.proofs.Common.{◌≡◌, ◌==◌, ◌<◌, List, map, length, sym, ap, ◌∙◌, subst, arith}
use Rattle.std.proofs.lemmas.List.{length-map}
use Rattle.pb_schema.specs.declared.tables.numbers.NumberTable.{NumberTable}
use Rattle.pb_schema.specs.declared.types.Field.{Field}
use Rattle.pb_schema.specs.Types.{FieldView, MessageView, Types, message_fields, fields_of_message, field_numbered}
use Rattle.pb_schema.specs.View.{field_view, message_view}
use Rattle.pb_schema.specs.Names.{AllDiffer}
use Rattle.pb_schema.specs.Tables.{IsNumberTable}
use Rattle.pb_schema.specs.Rules.{IsPool, FieldNumbersDiffer}
use Rattle.pb_schema.proofs.AddLemmas.{get_or-map}
use Rattle.pb_schema.proofs.RuleLemmas.{all_at}
use Rattle.pb_schema.proofs.TableLemmas.{table_at, tables_length}
use Rattle.pb_schema.proofs.LookupLemmas.{get_viewed, found_rules}
use Rattle.pb_schema.proofs.pool.Pool.field_by_number.Goals as goal

pub index-requires-2 : goal.index-requires-2
index-requires-2 c =
    omega (arith, c.requires, ap (λ (ts : Types). length ts.messages) c.self.view_is, tables_length (λ (t : MessageView) (v : NumberTable). IsNumberTable t.fields v.rising.items) (map message_view c.self.inside.messages.items) c.self.inside.tables.numbers.items c.self.invariant.1.numbers, c.self.inside.tables.numbers.ok.0)

pub field_at-requires-clause-table : goal.field_at-requires-clause-table
field_at-requires-clause-table c =
    let ms = c.self.inside.messages.items in
    let m = c.args.message.0 in
    let x = c.index.result.now in
    let n = c.index-2.result.now in
    let within : m < length ms = omega (arith, c.requires, ap (λ (ts : Types). length ts.messages) c.self.view_is, length-map ms message_view) in
    let at : message_view x ≡ _ = ap message_view c.index.ensures ∙ sym (get_or-map message_view ms m x (message_view x) within) in
    let table = table_at (λ (t : MessageView) (v : NumberTable). IsNumberTable t.fields v.rising.items) (map message_view ms) c.self.inside.tables.numbers.items m (message_view x) n c.self.invariant.1.numbers (omega (arith, length-map ms message_view, within)) at c.index-2.ensures in
    subst (λ (l : List Field). IsNumberTable (map field_view l) n.rising.items) (sym c.deref.ensures.value) table

pub field_at-requires-clause-differ : goal.field_at-requires-clause-differ
field_at-requires-clause-differ c =
    let ms = c.self.inside.messages.items in
    let within : c.args.message.0 < length ms = omega (arith, c.requires, ap (λ (ts : Types). length ts.messages) c.self.view_is, length-map ms message_view) in
    subst (λ (l : List Field). AllDiffer (map (λ (f : FieldView). f.number) (map field_view l))) (sym c.deref.ensures.value) (all_at FieldNumbersDiffer message_view ms c.args.message.0 c.index.result.now c.self.invariant.0.fields.numbers_differ within c.index.ensures)

pub returns : goal.returns
returns c =
    let ms = c.self.inside.messages.items in
    let m = c.args.message.0 in
    let within : m < length ms = omega (arith, c.requires, ap (λ (ts : Types). length ts.messages) c.self.view_is, length-map ms message_view) in
    let fields : map field_view c.index.result.now.fields.items ≡ message_fields c.args.self.now m = ap fields_of_message (sym (get_viewed message_view ms m c.index.result.now within c.index.ensures)) ∙ ap (λ (ts : Types). message_fields ts m) c.self.view_is in
    let found = c.field_at.ensures ∙ ap (λ (l : List Field). field_numbered c.args.number (map field_view l)) c.deref.ensures.value ∙ ap (field_numbered c.args.number) fields in
    let ok = subst IsPool c.self.view_is c.self.invariant.0 in
    record {
      found = found;
      rules = found_rules c.args.self.now m (λ f. f.number == c.args.number) c.field_at.result ok found;
      pool = ok;
    }
