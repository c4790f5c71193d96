-- Changes of one message: what nothing but a message has inside, and what a change makes of a message of a type.
use Rattle.std.proofs.Common.{◌≡◌, ◌≤◌, ℕ, [], None, rules, arith, refl, sym, ap, ◌∙◌}
use Rattle.std.specs.Prelude.{Bool, true, false, nat_le}
use Rattle.pb_schema.specs.declared.types.Kind.{Kind}
use Rattle.pb_schema.specs.Types.{Types}
use Rattle.pb_value.specs.Cause.{datum_cause, or_else, unless}
use Rattle.pb_value.specs.Data.{Datum, scalar, message, Message, body, fields_of, levels_of}
use Rattle.pb_value.specs.Dynamic.{Dynamic}
use Rattle.pb_value.specs.Edit.{Edit, set, clear, push, insert, remove, set_element, remove_element, drop_unknown, dynamic, edited}
use Rattle.pb_value.specs.Judge.{is_scalar_of, is_value_of, IsWithin}
use Rattle.pb_value.specs.View.{value_view}
use Rattle.pb_value.specs.WellFormed.{IsDatum, IsWellFormed}
use Rattle.pb_value.specs.declared.body.Body.{Body}
use Rattle.pb_value.specs.declared.body.Value.{Value, the_lemmas as value_lemmas}
use Rattle.pb_value.specs.declared.body.Value.TheVariants as value
use Rattle.pb_value.specs.declared.error.ValueError.TheVariants.{WrongKind, TooDeep}

-- a value that is no message
abbrev is_scalar : Datum → Bool
is_scalar (scalar x) = true
is_scalar (message b) = false

scalar_value : (v : Value) → ((b : Body) → v ≡ value.Message b → ⊥) → is_scalar (value_view v) ≡ true
scalar_value v h = search (rules, value_lemmas)

no_cause : (b : Bool) → b ≡ true → or_else (unless b WrongKind) None ≡ None
no_cause true e = refl
no_cause false e = absurd (cc)

nothing_inside :
    (pool : Types) (k : Kind) (d : Datum) → is_scalar d ≡ true → is_value_of k d ≡ true → IsWithin k d
    → (or_else (datum_cause pool k d) (unless (nat_le (levels_of d) 100) TooDeep) ≡ None) × (IsDatum pool k d × (levels_of d ≤ 100))
nothing_inside pool k (scalar x) e of_kind within = (no_cause (is_scalar_of k x) of_kind, (within, omega arith))
nothing_inside pool k (message b) e of_kind within = absurd (cc)

-- a value of its kind that is no message is well formed
pub nothing_in_value :
    (pool : Types) (k : Kind) (v : Value) → ((b : Body) → v ≡ value.Message b → ⊥) → is_value_of k (value_view v) ≡ true → IsWithin k (value_view v)
    → (or_else (datum_cause pool k (value_view v)) (unless (nat_le (levels_of (value_view v)) 100) TooDeep) ≡ None)
    × (IsDatum pool k (value_view v) × (levels_of (value_view v) ≤ 100))
nothing_in_value pool k v h of_kind within = nothing_inside pool k (value_view v) (scalar_value v h) of_kind within

-- without its unknown records a message stays well formed
pub bare_stays : (pool : Types) (m : ℕ) (v : Message) → IsWellFormed pool m v → IsWellFormed pool m (body (fields_of v) [])
bare_stays pool m (body fs us) w = let deep = w.depth in record { parts = (w.parts.0, w.parts.1, w.parts.2, tt); depth = omega (arith, deep) }

-- a change leaves the pool and the type
edited_is : (e : Edit) (v : Dynamic) → edited e v ≡ record v { body = (edited e v).body }
edited_is (set h n) v = refl
edited_is (clear n) v = refl
edited_is (push d n) v = refl
edited_is (insert x d n) v = refl
edited_is (remove x n) v = refl
edited_is (set_element i d n) v = refl
edited_is (remove_element i n) v = refl
edited_is drop_unknown v = refl

-- a message whose body is changed so is changed so
pub edited_whole : (e : Edit) (pool : Types) (m : ℕ) (old new : Message) → new ≡ (edited e (dynamic pool m old)).body → dynamic pool m new ≡ edited e (dynamic pool m old)
edited_whole e pool m old new is = ap (dynamic pool m) is ∙ sym (edited_is e (dynamic pool m old))
