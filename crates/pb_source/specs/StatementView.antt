-- Statements and their parts as the code has them.
use Rattle.std.specs.Prelude.{map, option_map, string_bytes}
use Rattle.pb_declarations.specs.View.{field_view, message_view, enum_view, service_view}
use Rattle.pb_source_tokens.specs.PhraseView.{type_view}
use Rattle.pb_source.specs.Meaning.{MapDecl, Member, MessageStatement, EnumStatement, FileStatement}
use Rattle.pb_source.specs.declared.parsing.statement.MapSaid.{MapSaid}
use Rattle.pb_source.specs.declared.parsing.statement.MemberSaid.{MemberSaid}
use Rattle.pb_source.specs.declared.parsing.statement.MessageSaid.{MessageSaid}
use Rattle.pb_source.specs.declared.parsing.statement.MessageSaid.TheVariants as in_message
use Rattle.pb_source.specs.declared.parsing.statement.EnumSaid.{EnumSaid}
use Rattle.pb_source.specs.declared.parsing.statement.EnumSaid.TheVariants as in_enum
use Rattle.pb_source.specs.declared.parsing.statement.FileSaid.{FileSaid}
use Rattle.pb_source.specs.declared.parsing.statement.FileSaid.TheVariants as in_file

abbrev pub map_view : MapSaid → MapDecl
map_view m = record { key = m.key; value = type_view m.value; name = string_bytes m.name; number = m.number; packed = m.packed }

abbrev pub member_view : MemberSaid → Member
member_view m = (field_view m.field, option_map message_view m.group)

abbrev pub message_statement_view : MessageSaid → MessageStatement
message_statement_view in_message.Nothing = MessageStatement.nothing_said
message_statement_view (in_message.Field member) = MessageStatement.a_field (member_view member)
message_statement_view (in_message.Map m) = MessageStatement.a_map (map_view m)
message_statement_view (in_message.Oneof name members) = MessageStatement.a_oneof (string_bytes name) (map member_view members.items)
message_statement_view (in_message.Message m) = MessageStatement.a_message (message_view m)
message_statement_view (in_message.Extend messages) = MessageStatement.an_extend (map message_view messages.items)
message_statement_view (in_message.Enum e) = MessageStatement.an_enum (enum_view e)
message_statement_view (in_message.Ranges ranges) = MessageStatement.reserved_ranges ranges.items
message_statement_view (in_message.Names names) = MessageStatement.reserved_names (map string_bytes names.items)

abbrev pub enum_statement_view : EnumSaid → EnumStatement
enum_statement_view in_enum.Nothing = EnumStatement.nothing_said
enum_statement_view (in_enum.AllowAlias allow) = EnumStatement.allows_alias allow
enum_statement_view (in_enum.Value value) = EnumStatement.a_value (string_bytes value.0) value.1
enum_statement_view (in_enum.Ranges ranges) = EnumStatement.reserved_ranges ranges.items
enum_statement_view (in_enum.Names names) = EnumStatement.reserved_names (map string_bytes names.items)

abbrev pub file_statement_view : FileSaid → FileStatement
file_statement_view in_file.Nothing = FileStatement.nothing_said
file_statement_view (in_file.Import is_public name) = FileStatement.an_import is_public (string_bytes name)
file_statement_view (in_file.Package name) = FileStatement.a_package (string_bytes name)
file_statement_view (in_file.Message m) = FileStatement.a_message (message_view m)
file_statement_view (in_file.Extend messages) = FileStatement.an_extend (map message_view messages.items)
file_statement_view (in_file.Enum e) = FileStatement.an_enum (enum_view e)
file_statement_view (in_file.Service s) = FileStatement.a_service (service_view s)
