use Rattle.std.proofs.Common.{◌<◌, ◌≤◌, ap, map, ◌∙◌, length, rules}
use Rattle.std.proofs.lemmas.List.{map_push}
use Rattle.pb_declarations.specs.View.{message_view, enum_view}
use Rattle.pb_link.specs.Nested.{with_enum}
use Rattle.pb_link.proofs.DeclaredLemmas.{changes_set, changes_none}
use Rattle.pb_link.proofs.declaring.nesting.add_enum.Goals as goal

pub returns-in_ok-push : goal.returns-in_ok-push
returns-in_ok-push c =
    let less : c.args.index < length c.args.places.now.items = search rules in
    changes_set c.args.index (with_enum (enum_view c.args.entry)) c.args.places.now.items c.in-Some.inside.now _ less c.in-Some.ensures.value
    (λ i. record { messages = map message_view c.in-Some.inside.now.messages.items; enums = (ap (map enum_view) c.in_ok-push.ensures.items ∙ map_push enum_view c.in-Some.inside.now.enums.items c.args.entry) i })

pub returns-in_default : goal.returns-in_default
returns-in_default c =
    let past : length c.args.places.now.items ≤ c.args.index = search rules in
    changes_none c.args.index (with_enum (enum_view c.args.entry)) c.args.places.now.items past
