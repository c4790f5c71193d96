use Rattle.std.proofs.Common.{rules}
use Rattle.std.specs.Prelude.{string_bytes}
use Rattle.pb_declarations.specs.View.{enum_view, service_view}
use Rattle.pb_descr_message.specs.Writing.{text_datum, enum_body, service_body}
use Rattle.pb_descr_message.proofs.ContentLemmas.{map_twice}
use Rattle.pb_descr_message.proofs.messages.file_with.Goals as goal

pub returns : goal.returns
returns c =
    rw (map_twice text_datum string_bytes c.args.file.now.imports.items, map_twice enum_body enum_view c.args.file.now.enums.items, map_twice service_body service_view c.args.file.now.services.items) (search rules)
