use Rattle.std.proofs.Common.{map, false, ap, ◌∙◌, string_bytes}
use Rattle.pb_declarations.specs.View.{field_view}
use Rattle.pb_declarations.proofs.ViewLemmas.{message_view-roll}
use Rattle.pb_source.specs.Meaning.{message_of}
use Rattle.pb_source.proofs.PartSteps.{message_made}
use Rattle.pb_source.proofs.parsing.declared.message_of.Goals as goal

pub returns : goal.returns
returns c = λ ss h.
    let p = c.args.parts in
    let fields = c.add_own_oneofs.new.fields in
    let oneofs = c.add_own_oneofs.new.oneofs in
    message_view-roll c.in_ok-name.name fields p.messages p.enums oneofs p.reserved p.reserved_names false
    ∙ message_made p ss (string_bytes c.in_ok-name.name) (map field_view fields.items) (map string_bytes oneofs.items) h c.in_ok-add_own_oneofs.ensures.fields c.in_ok-add_own_oneofs.ensures.oneofs
    ∙ ap (λ name. message_of name ss) c.in_ok-name.ensures.ok
