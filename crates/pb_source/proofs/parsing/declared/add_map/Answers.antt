use Rattle.std.proofs.Common.{ap, ◌∙◌}
use Rattle.pb_source_tokens.specs.PhraseView.{type_view}
use Rattle.pb_source.specs.Meaning.{entry_of}
use Rattle.pb_source.specs.StatementView.{map_view}
use Rattle.pb_source.proofs.PartSteps.{holds_map}
use Rattle.pb_source.proofs.parsing.declared.add_map.Goals as goal

pub returns : goal.returns
returns c = λ ss h.
    let m = c.args.map in
    holds_map c.args.message.now ss h (map_view m) c.push.new.self c.in_ok-entry.entry c.push-2.new.self c.in_ok-field.field c.in_ok-push.ensures.items
    (c.in_ok-entry.ensures m.number m.packed ∙ ap (λ name. entry_of (record { key = m.key; value = type_view m.value; name = name; number = m.number; packed = m.packed })) c.as_str.ensures.value)
    c.in_ok-push-2.ensures.items (c.in_ok-field.ensures m.key m.value)
