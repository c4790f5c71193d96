-- How deep a value nests that is no message.
use Rattle.std.proofs.Common.{◌≡◌, rules}
use Rattle.pb_value.specs.Data.{levels_of, levels_in_entry}
use Rattle.pb_value.specs.View.{value_view}
use Rattle.pb_value.specs.declared.body.Value.{Value, the_lemmas}
use Rattle.pb_value.specs.declared.body.Value.TheVariants as value
use Rattle.pb_value.specs.declared.body.Body.{Body}

pub levels_of-scalar : (v : Value) → ((b : Body) → v ≡ value.Message b → ⊥) → levels_of (value_view v) ≡ 0
levels_of-scalar v h = search (rules, the_lemmas)

pub levels_in_entry-scalar : (v : Value) → ((b : Body) → v ≡ value.Message b → ⊥) → levels_in_entry (value_view v) ≡ 0
levels_in_entry-scalar v h = search (rules, the_lemmas)
