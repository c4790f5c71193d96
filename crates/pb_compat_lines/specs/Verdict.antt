-- What a comparison of two pools prints, and whether it found a difference that breaks reading.
use Rattle.std.specs.Prelude.{◌≡◌, ◌⊎◌, ℕ, List, [], ◌++◌, codes, Bool, ◌||◌, length, Option, Some, None}
use Rattle.pb_schema.specs.Names.{message_names}
use Rattle.pb_schema.specs.Tables.{place_of}
use Rattle.pb_schema.specs.Types.{Types}
use Rattle.pb_compat.specs.Agrees.{break_in}
use Rattle.pb_compat.specs.Namesakes.{namesakes}
use Rattle.pb_compat.specs.Pairs.{IsComparison, IsComparisonFrom}
use Rattle.pb_compat.specs.declared.difference.ComparedTypes.{ComparedTypes}
use Rattle.pb_compat_lines.specs.Lines.{compared_lines, missing_below, lacks_below, or_ok}
use Rattle.pb_compat_lines.specs.declared.verdict.Readers.{Readers}
use Rattle.pb_compat_lines.specs.declared.verdict.Readers.TheVariants.{New, Both}
use Rattle.pb_compat_lines.specs.declared.verdict.Verdict.{Verdict}

-- READERS BY THE NEW POOL, of messages of the old one

-- of all types: of those that the new pool lacks, and then of all pairs that are reached from types of the same name
pub record IsReportOfAll (prefix : List ℕ) (old new : Types) (text : List ℕ) (breaks : Bool) : Type 0 where
  pub compared : List ComparedTypes
  pub is : IsComparisonFrom old new (namesakes old new) compared
  pub printed : text ≡ or_ok prefix (missing_below prefix old new (length old.messages) ++ compared_lines prefix old new compared)
  pub judged : breaks ≡ (lacks_below old new (length old.messages) || break_in compared)

-- of a type of each pool: of all pairs that are reached from these
pub record IsReportOfTypes (prefix : List ℕ) (old new : Types) (m n : ℕ) (text : List ℕ) (breaks : Bool) : Type 0 where
  pub compared : List ComparedTypes
  pub is : IsComparison old new (m, n) compared
  pub printed : text ≡ or_ok prefix (compared_lines prefix old new compared)
  pub judged : breaks ≡ break_in compared

-- of the types of a name, or of all
pub data IsReport (prefix : List ℕ) (old new : Types) (text : List ℕ) (breaks : Bool) : Option (List ℕ) → Type 0 where
  of_all : IsReportOfAll prefix old new text breaks → IsReport prefix old new text breaks None
  of_types :
      {name : List ℕ} {m n : ℕ} → place_of name (message_names old) ≡ Some m → place_of name (message_names new) ≡ Some n
      → IsReportOfTypes prefix old new m n text breaks → IsReport prefix old new text breaks (Some name)

-- there is a name, and one of the pools has no message type of it
abbrev pub LacksType : Types → Types → Option (List ℕ) → Type 0
LacksType old new None = ⊥
LacksType old new (Some name) = (place_of name (message_names old) ≡ None) ⊎ (place_of name (message_names new) ≡ None)

-- BOTH DIRECTIONS

-- the new pool reads messages of the old one, and the old pool those of the new one
pub record IsReportOfBoth (old new : Types) (text : List ℕ) (breaks : Bool) (name : Option (List ℕ)) : Type 0 where
  pub lines : List ℕ
  pub lines_back : List ℕ
  pub breaks_first : Bool
  pub breaks_back : Bool
  pub first : IsReport (codes "backward ") old new lines breaks_first name
  pub back : IsReport (codes "forward ") new old lines_back breaks_back name
  pub printed : text ≡ lines ++ lines_back
  pub judged : breaks ≡ (breaks_first || breaks_back)

abbrev pub IsVerdict : Readers → Types → Types → Option (List ℕ) → Verdict → Type 0
IsVerdict New old new name v = IsReport [] old new v.text.items v.breaks name
IsVerdict Both old new name v = IsReportOfBoth old new v.text.items v.breaks name

-- a report, or none where one of the pools lacks the type
abbrev pub Reports : List ℕ → Types → Types → Option (List ℕ) → Option Verdict → Type 0
Reports prefix old new name None = LacksType old new name
Reports prefix old new name (Some v) = IsReport prefix old new v.text.items v.breaks name

abbrev pub Judges : Readers → Types → Types → Option (List ℕ) → Option Verdict → Type 0
Judges readers old new name None = LacksType old new name
Judges readers old new name (Some v) = IsVerdict readers old new name v
