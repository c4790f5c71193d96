-- JSON values that are written, and what the texts of them are when they are read.
use Rattle.std.specs.Prelude.{◌≡◌, ℕ, suc, max, List, Bool, true, not, ◌&&◌, ◌==◌, nat_le, nat_lt, Some, IsUtf8, unsigned_abs}
use Rattle.std.specs.List.{list_all}
use Rattle.fast_float.specs.Parse.{parse_float}
use Rattle.ryu.specs.Plain.{IsPlainNumber}
use Rattle.pb_json.specs.Json as written
use Rattle.pb_json.specs.Times.{IsInstantText, is_instant}
use Rattle.pb_json_text.specs.Json as read
use Rattle.pb_json_text.specs.Grammar.{IsNumber}

-- A text that is written of the first value is one of the second: elements and members are in the same order and have the same names, wherever
-- they begin.
abbrev mutual
  pub Means : written.Json → read.Json → Type 0
  Means written.null j = j ≡ read.null
  Means (written.truth b) j = j ≡ read.boolean b
  Means (written.number s) j = j ≡ read.number s
  Means (written.real f x) j = (s : List ℕ) × (j ≡ read.number s) × IsPlainNumber s × (parse_float f s ≡ Some x)
  Means (written.plain s) j = j ≡ read.string s
  Means (written.string s) j = j ≡ read.string s
  Means (written.instant z n) j = (t : List ℕ) × (j ≡ read.string t) × IsInstantText z (unsigned_abs n) t
  Means (written.array js) j = (rs : read.Elements) × (j ≡ read.array rs) × MeanElements js rs
  Means (written.object ms) j = (rs : read.Members) × (j ≡ read.object rs) × MeanMembers ms rs

  pub MeanElements : written.Elements → read.Elements → Type 0
  MeanElements written.no_elements rs = rs ≡ read.no_elements
  MeanElements (written.element j js) rs =
      (at : ℕ) × (r : read.Json) × (more : read.Elements) × (rs ≡ read.element at r more) × Means j r × MeanElements js more

  pub MeanMembers : written.Members → read.Members → Type 0
  MeanMembers written.no_members rs = rs ≡ read.no_members
  MeanMembers (written.member name j ms) rs =
      (name_at : ℕ) × (at : ℕ) × (r : read.Json) × (more : read.Members) × (rs ≡ read.member name_at name at r more) × Means j r × MeanMembers ms more

-- an ASCII character that needs no escape
abbrev pub is_plain : ℕ → Bool
is_plain x = nat_le 32 x && nat_lt x 127 && not (x == 34) && not (x == 92)

-- The value is one of JSON: its numbers are of the grammar, its strings are UTF-8, and its points in time are in range.
abbrev mutual
  pub IsJsonValue : written.Json → Type 0
  IsJsonValue written.null = Unit {0}
  IsJsonValue (written.truth b) = Unit {0}
  IsJsonValue (written.number s) = IsNumber s
  IsJsonValue (written.real f x) = Unit {0}
  IsJsonValue (written.plain s) = list_all is_plain s ≡ true
  IsJsonValue (written.string s) = IsUtf8 s
  IsJsonValue (written.instant z n) = is_instant z n ≡ true
  IsJsonValue (written.array js) = AreJsonElements js
  IsJsonValue (written.object ms) = AreJsonMembers ms

  pub AreJsonElements : written.Elements → Type 0
  AreJsonElements written.no_elements = Unit {0}
  AreJsonElements (written.element j js) = IsJsonValue j × AreJsonElements js

  pub AreJsonMembers : written.Members → Type 0
  AreJsonMembers written.no_members = Unit {0}
  AreJsonMembers (written.member name j ms) = IsUtf8 name × IsJsonValue j × AreJsonMembers ms

-- how deep arrays and objects nest
abbrev mutual
  pub json_depth : written.Json → ℕ
  json_depth written.null = 0
  json_depth (written.truth b) = 0
  json_depth (written.number s) = 0
  json_depth (written.real f x) = 0
  json_depth (written.plain s) = 0
  json_depth (written.string s) = 0
  json_depth (written.instant z n) = 0
  json_depth (written.array js) = suc (elements_depth js)
  json_depth (written.object ms) = suc (members_depth ms)

  pub elements_depth : written.Elements → ℕ
  elements_depth written.no_elements = 0
  elements_depth (written.element j js) = max (json_depth j) (elements_depth js)

  pub members_depth : written.Members → ℕ
  members_depth written.no_members = 0
  members_depth (written.member name j ms) = max (json_depth j) (members_depth ms)
