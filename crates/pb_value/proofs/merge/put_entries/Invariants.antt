use Rattle.std.proofs.Common.{◌≡◌}
use Rattle.pb_schema.specs.declared.types.Kind.{Kind}
use Rattle.pb_value.specs.Data.{put_entries}
use Rattle.pb_value.specs.Change.{AreKeys}
use Rattle.pb_value.specs.View.{entries_view}
use Rattle.pb_value.proofs.merge.put_entries.Given as goal

abbrev pub invariant-loop-key : goal.invariant-loop-key
invariant-loop-key l = record {
  keys : (k : Kind) × AreKeys k (entries_view l.entries.entries) × AreKeys k (entries_view l.key-iterator);
  put : put_entries (entries_view l.key-iterator) (entries_view l.entries.entries) ≡ put_entries (entries_view l.fn.other.entries) (entries_view l.fn.entries.entries);
}
