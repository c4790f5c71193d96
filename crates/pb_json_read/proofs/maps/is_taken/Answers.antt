use Rattle.std.proofs.Common.{◌≡◌, Option, Some, None, refl, sym, ap, ◌∙◌}
use Rattle.std.specs.Prelude.{is_some, option_map}
use Rattle.pb_value.specs.View.{value_view}
use Rattle.pb_value.specs.declared.body.Value.{Value}
use Rattle.pb_value.proofs.InnerLemmas.{get_entry-entries}
use Rattle.pb_json_read.proofs.maps.is_taken.Goals as goal

some_map : (o : Option Value) → is_some (option_map value_view o) ≡ is_some o
some_map None = refl
some_map (Some v) = refl

pub returns-then-contains_key : goal.returns-then-contains_key
returns-then-contains_key c =
    let all = c.args.entries.now.map.entries in
    let there = ap is_some (get_entry-entries c.args.key.now all) ∙ some_map _ ∙ sym c.contains_key.ensures ∙ c.if-contains_key.true in
    rw there (c.if-contains_key.true)

pub returns-else-contains_key : goal.returns-else-contains_key
returns-else-contains_key c =
    let all = c.args.entries.now in
    let none = ap is_some (get_entry-entries c.args.key.now all.map.entries) ∙ some_map _ ∙ sym c.contains_key.ensures ∙ c.if-contains_key.false in
    let passed = ap is_some (get_entry-entries c.args.key.now all.passed.entries) ∙ some_map _ in
    rw none (c.contains_key-else-contains_key.ensures ∙ sym passed)
