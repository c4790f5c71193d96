-- What the parts of statements say: types, names of several words, options that are said more than once.
use Rattle.std.specs.Prelude.{ℕ, List, [], ◌∷◌, ◌++◌, Bool, Option, Some, None}
use Rattle.pb_declarations.specs.declared.decl.TypeCode.{TypeCode}

-- a type as it is written: a scalar, or the name of a message or an enum
pub data TypeSaid : Type 0 where
  a_scalar : TypeCode → TypeSaid
  a_name : List ℕ → TypeSaid

-- words joined by dots
abbrev pub joined : List (List ℕ) → List ℕ
joined [] = []
joined (w ∷ []) = w
joined (w ∷ v ∷ ws) = w ++ 46 ∷ joined (v ∷ ws)

-- of what is said more than once, the last counts
abbrev pub last_said : Option Bool → List (Option Bool) → Option Bool
last_said now [] = now
last_said now (None ∷ ss) = last_said now ss
last_said now (Some b ∷ ss) = last_said (Some b) ss

-- ---- types

abbrev pub code_said : TypeSaid → Option TypeCode
code_said (a_scalar c) = Some c
code_said (a_name n) = None

abbrev pub name_said : TypeSaid → Option (List ℕ)
name_said (a_scalar c) = None
name_said (a_name n) = Some n
