-- Messages of the type with which a comparison began, that show that a difference between types nested in it breaks reading.
use Rattle.std.specs.Prelude.{◌≡◌, ◌↔◌, ◌<◌, ◌≤◌, ℕ, zero, suc, length, List, Some, None, Bool, true, false, slice_get, IsSomeAnd}
use Rattle.pb_schema.specs.Types.{FieldView, Types, message_fields, field_numbered}
use Rattle.pb_value.specs.Data.{message, Message, Holding}
use Rattle.pb_value.specs.WellFormed.{IsOfShape}
use Rattle.pb_compat.specs.declared.difference.ComparedTypes.{ComparedTypes}
use Rattle.pb_compat.specs.declared.difference.Step.{Step}
use Rattle.pb_compat.specs.Agrees.{break_among}
use Rattle.pb_compat.specs.Fields.{differences_at}
use Rattle.pb_compat.specs.Pairs.{leads, types_of, IsWithinFields, IsComparisonFrom}
use Rattle.pb_compat.specs.Witness.{IsWitness, alone, IsContentOf, AreFieldsAt, IsBuilt}

-- HOW TYPES ARE REACHED

-- each pair is of types of the pools, and is one with which the comparison began, or is reached by a field of an earlier pair
pub record AreLinked (old new : Types) (cs : List ComparedTypes) : Type 0 where
  pub within : (i : ℕ) (c : ComparedTypes) → slice_get cs i ≡ Some c → (c.old.0 < length old.messages) × (c.new.0 < length new.messages)
  pub steps : (i : ℕ) (c : ComparedTypes) (s : Step) → slice_get cs i ≡ Some c → c.reached_by ≡ Some s
      → (s.from < i) × IsSomeAnd (slice_get cs s.from) (λ d. leads old new (types_of d) s.field ≡ Some (types_of c))

-- From a pair with which the comparison began this many fields, one in another, lead to the pair at an index: those by which each was reached first.
abbrev pub IsReachedFrom : List ComparedTypes → (ℕ × ℕ) → ℕ → ℕ → Type 0
IsReachedFrom cs start zero i = IsSomeAnd (slice_get cs i) (λ c. (c.reached_by ≡ None) × (types_of c ≡ start))
IsReachedFrom cs start (suc n) i = IsSomeAnd (slice_get cs i) (λ c. IsSomeAnd c.reached_by (λ s. IsReachedFrom cs start n s.from))

-- The answer is yes exactly where something breaks at the field of a number, and at most 99 fields, one in another, lead to the pair at an index.
abbrev pub IsFoundWhereNear : Types → Types → List ComparedTypes → ℕ → ℕ → Bool → Type 0
IsFoundWhereNear old new cs i k found =
    (c : ComparedTypes) (starts : List (ℕ × ℕ)) → IsComparisonFrom old new starts cs → slice_get cs i ≡ Some c
    → (found ≡ true) ↔ ((break_among (differences_at old new c.old.0 c.new.0 k) ≡ true) × IsWithinFields old new starts 99 (types_of c))

-- WHAT THE CALL BUILDS

-- what is built for the fields of a number
pub record IsBuiltAt (old new : Types) (m n k : ℕ) (v : Message) : Type 0 where
  pub old_field : FieldView
  pub new_field : FieldView
  pub at : AreFieldsAt old new m n k old_field new_field
  pub built : IsBuilt old new m n old_field new_field v

-- What is built round a message for a field that leads to its type: where the field itself breaks what is built for it, and else a message of the
-- field alone, which holds that message.
pub data IsBuiltRound (old new : Types) (m n k : ℕ) (inner v : Message) : Type 0 where
  of_itself : IsBuiltAt old new m n k v → IsBuiltRound old new m n k inner v
  round : (f : FieldView) (h : Holding) → field_numbered k (message_fields old m) ≡ Some f → break_among (differences_at old new m n k) ≡ false
      → IsContentOf old f.shape (message inner) h → IsOfShape f.shape h → v ≡ alone k h → IsBuiltRound old new m n k inner v

-- A message of the type m, with which the comparison began: at most 99 fields, one in another, lead from there to the pair at an index. It shows
-- that the new type of the pair where the comparison began does not read all messages of the old one.
pub record IsNestedWitness (old new : Types) (cs : List ComparedTypes) (i m : ℕ) (v : Message) : Type 0 where
  pub fields : ℕ
  pub start : ℕ × ℕ
  pub reached : IsReachedFrom cs start fields i
  pub few : fields ≤ 99
  pub typed : m ≡ start.0
  pub witness : IsWitness old new start.0 start.1 v
