use Rattle.std.proofs.Common.{◌≡◌, ◌<◌, ◌^◌, ℕ, Some, length}
use Rattle.std.specs.Prelude.{slice_get}
use Rattle.pb_schema.specs.Types.{message_fields}
use Rattle.pb_compat.specs.Oneofs.{is_crowded}
use Rattle.pb_compat.proofs.oneofs.crowds.Given as goal

abbrev pub invariant-loop-oneof : goal.invariant-loop-oneof
invariant-loop-oneof l = record {
  size : length l.crowded.items ≡ l.oneof;
  exact : (o : ℕ) → o < l.oneof → o < 2 ^ 32 → slice_get l.crowded.items o ≡ Some (is_crowded (message_fields l.old l.old_type.0) (message_fields l.new l.new_type.0) o);
}
