-- What changes make of a message's fields, and when they are refused.
pub mod Set
pub mod Push
pub mod Insert
pub mod Part
pub mod Remove
pub mod Element
pub use Rattle.pb_value.specs.Change.Set.{other_than, gives_way, drop_some, stored_at, set_at, with_fields, ChangesFields, set_cause, Allowed, IsSingle}
pub use Rattle.pb_value.specs.Change.Push.{elements_of, pushed, push_at, push_each, is_list, element_cause, push_cause, IsElement}
pub use Rattle.pb_value.specs.Change.Insert.{entries_of, inserted, insert_at, entry_at, is_map, insert_cause, IsEntry, AreKeys, FitsKeys}
pub use Rattle.pb_value.specs.Change.Part.{in_nth, in_field, in_list, in_map}
pub use Rattle.pb_value.specs.Change.Remove.{drop_entry, is_empty_map, holds_empty_map, drop_empty, remove_at}
pub use Rattle.pb_value.specs.Change.Element.{drop_nth, is_empty_list, holds_empty_list, drop_empty_list, put_datum, put_nth, take_nth}
