-- What is declared, as the row holds it.
use Rattle.std.specs.Prelude.{string_bytes}
use Rattle.pb_declarations.specs.View.{field_view, numbered_view, enum_view, message_view, method_view, service_view, file_view}
use Rattle.pb_link_names.specs.Declarations.{Item, a_file, a_field, a_oneof, an_enum, a_value, a_service, a_method, head_of, item_of_message}
use Rattle.pb_link_names.specs.declared.item.Item.{Item as ItemValue}
use Rattle.pb_link_names.specs.declared.item.Item.TheVariants as item

abbrev pub item_view : ItemValue → Item
item_view (item.File f) = a_file (file_view f.now)
item_view (item.Message m) = item_of_message (message_view m.now)
item_view (item.Field m i f) = a_field (head_of (message_view m.now)) i (field_view f.now)
item_view (item.Oneof m i s) = a_oneof (head_of (message_view m.now)) i (string_bytes s.now)
item_view (item.Enum e) = an_enum (enum_view e.now)
item_view (item.Value e i v) = a_value (enum_view e.now) i (numbered_view v.now)
item_view (item.Service s) = a_service (service_view s.now)
item_view (item.Method m) = a_method (method_view m.now)
