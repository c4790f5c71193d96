use Rattle.std.proofs.Common.{drop, option_map}
use Rattle.pb_schema.specs.View.{field_view}
use Rattle.pb_json_text.specs.View.{elements_view, members_view}
use Rattle.pb_value.specs.Data.{no_datums, Datums}
use Rattle.pb_value.specs.View.{values_view}
use Rattle.pb_json_read.specs.Answers.{AreEntered, entered_view, parts_view}
use Rattle.pb_json_read.specs.Steps.{Read, Entered, Parts, none_entered, nothing}
use Rattle.pb_json_read.specs.Reads.{ReadsBeside, ReadsElements, ReadsEntries, ReadsMembers}
use Rattle.pb_json_read.specs.Anys.{beside}
use Rattle.pb_json_read.specs.Names.{field_meant}
use Rattle.pb_json_read.proofs.context.Context.+read.Given as goal

abbrev pub invariant-read_members-loop-member : goal.invariant-read_members-loop-member
invariant-read_members-loop-member l =
    (o : Read Parts)
    → ReadsMembers l.self.pool.now l.self.rules l.self.names.now (field_meant l.self.names.now l.self.pool.now l.id.0) (parts_view l.parts) (members_view (drop l.member-index l.members.items)) o
    → ReadsMembers l.self.pool.now l.self.rules l.self.names.now (field_meant l.self.names.now l.self.pool.now l.id.0) nothing (members_view l.members.items) o

abbrev pub invariant-read_beside-loop-member : goal.invariant-read_beside-loop-member
invariant-read_beside-loop-member l =
    (o : Read Parts)
    → ReadsBeside l.self.pool.now l.self.rules l.self.names.now (beside (option_map (λ f. field_view f.now) l.only) (field_meant l.self.names.now l.self.pool.now l.inner.0)) (parts_view l.parts) (members_view (drop l.member-index l.members.items)) o
    → ReadsBeside l.self.pool.now l.self.rules l.self.names.now (beside (option_map (λ f. field_view f.now) l.only) (field_meant l.self.names.now l.self.pool.now l.inner.0)) nothing (members_view l.members.items) o

abbrev pub invariant-read_elements-loop-item : goal.invariant-read_elements-loop-item
invariant-read_elements-loop-item l =
    (o : Read Datums)
    → ReadsElements l.self.pool.now l.self.rules l.self.names.now l.kind (values_view l.values.items) (elements_view (drop l.item-index l.items.items)) o
    → ReadsElements l.self.pool.now l.self.rules l.self.names.now l.kind no_datums (elements_view l.items.items) o

abbrev pub invariant-read_entries-loop-member : goal.invariant-read_entries-loop-member
invariant-read_entries-loop-member l = record {
  keys : AreEntered l.key (entered_view l.entries);
  left : (o : Read Entered)
      → ReadsEntries l.self.pool.now l.self.rules l.self.names.now l.key l.kind (entered_view l.entries) (members_view (drop l.member-index l.members.items)) o
      → ReadsEntries l.self.pool.now l.self.rules l.self.names.now l.key l.kind none_entered (members_view l.members.items) o;
}
