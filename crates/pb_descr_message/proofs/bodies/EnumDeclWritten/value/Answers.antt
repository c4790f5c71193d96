use Rattle.std.proofs.Common.{rules}
use Rattle.std.specs.Prelude.{string_bytes}
use Rattle.pb_declarations.specs.View.{numbered_view}
use Rattle.pb_descr_message.specs.Writing.{value_body, text_datum}
use Rattle.pb_descr_message.proofs.ContentLemmas.{map_twice}
use Rattle.pb_descr_message.proofs.bodies.EnumDeclWritten.value.Goals as goal

pub returns : goal.returns
returns c =
    rw (map_twice value_body numbered_view c.args.self.now.values.items, map_twice text_datum string_bytes c.args.self.now.reserved_names.items) (search rules)
