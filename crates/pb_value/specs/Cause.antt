-- Why a message is not well formed, and why a merge is refused.
use Rattle.std.specs.Prelude.{◌≡◌, ◌⊎◌}
use Rattle.pb_value.specs.Dynamic.{Dynamic, IsSameType}
use Rattle.pb_value.specs.declared.error.ValueError.{ValueError}
use Rattle.pb_value.specs.declared.error.ValueError.TheVariants.{Memory, OtherType}
pub use Rattle.pb_value.specs.Judge.Told.{or_else, unless, FailsWith, IsRefusedBy, Judges, JudgesOrFails}
pub use Rattle.pb_value.specs.Judge.Unknown.{is_number, is_numbered, is_numbered_group, record_cause, unknown_cause}
pub use Rattle.pb_value.specs.Judge.Check.{content_cause, with_member, is_second, stored_cause, shape_at, at_field}
pub use Rattle.pb_value.specs.Judge.Check.{in_message, in_map, datum_cause, datums_cause, entries_cause, parts_cause}
pub use Rattle.pb_value.specs.Judge.Check.{declared_cause, held_cause, fields_cause, body_cause, message_cause}

-- a merge is refused where types or pools differ, or memory ran out
abbrev pub MergeFails : Dynamic → Dynamic → ValueError → Type 0
MergeFails v w e = ((e ≡ Memory) × IsSameType v w) ⊎ ((e ≡ OtherType) × ¬ IsSameType v w)
