-- How bodies are judged: which values are of which kind and shape, the first of several causes, unknown records, and a whole message.
pub mod Forms
pub mod Told
pub mod Unknown
pub mod Check
pub use Rattle.pb_value.specs.Judge.Forms.{is_scalar_of, is_message_kind, is_value_of, are_values_of, is_key_of, are_entries_of, holds_kind}
pub use Rattle.pb_value.specs.Judge.Forms.{has_shape, is_default_datum, is_implicit, is_absence, IsWithin, IsKeyWithin}
