-- The open parts at a place of an input: the top, and in it messages, map entries and groups, each begun after whole sound records of its parent.
use Rattle.std.specs.Prelude.{◌≡◌, ℕ, suc, ◌-◌, List, [], ◌∷◌, ◌++◌, option_map}
use Rattle.pb_wire.specs.Record.{Record}
use Rattle.pb_wire.specs.Spell.{AreRecords}
use Rattle.pb_wire.specs.declared.fault.PathStep.{PathStep}
use Rattle.pb_wire.specs.Fault.{Fault, Place, Moves, HasTag, HasLength, step}
use Rattle.pb_wire.specs.Schema.{Schema, message, same_level, Open, records, in_group, context_of}
use Rattle.pb_wire.specs.Sound.{AllSound}
use Rattle.pb_wire.specs.Grammar.{payload_at}

-- these whole sound records of the open part lead from p to q
pub record SoFar (S : Schema) (o : Open S.Context) (depth_left : ℕ) (p : Place) (rs : List Record) (q : Place) : Type 0 where
  pub front : List ℕ
  pub spelled : AreRecords rs front
  pub sound : AllSound S (context_of o) depth_left rs
  pub moves : Moves p front q

-- After the tag that is at q a payload or a group is open: `o`, with this many levels left, which begins at u. It is in `a`, which has `depth_left` levels
-- left.
pub data Begun (S : Schema) (a : Open S.Context) (depth_left k : ℕ) (q : Place) : Open S.Context → ℕ → Place → Type 0 where
  a_message :
      {o : Open S.Context} {below n : ℕ} {d : S.Context} {r t u : Place} → depth_left ≡ suc below → HasTag q k 2 r
      → S.reading (context_of a) k ≡ message d → HasLength r n t → o ≡ records d → u ≡ payload_at t n → Begun S a depth_left k q o below u
  a_value :
      {o : Open S.Context} {below n : ℕ} {d : S.Context} {r t u : Place} → depth_left ≡ below → HasTag q k 2 r
      → S.reading (context_of a) k ≡ same_level d → HasLength r n t → o ≡ records d → u ≡ payload_at t n → Begun S a depth_left k q o below u
  a_group :
      {o : Open S.Context} {below : ℕ} {r u : Place} → depth_left ≡ suc below → HasTag q k 3 r → o ≡ in_group k (S.group_context (context_of a) k)
      → u ≡ r → Begun S a depth_left k q o below u

-- From p0 on this is open at the levels and with the path given, and begins at p.
pub data Opened (S : Schema) (top : Open S.Context) (depth : ℕ) (p0 : Place) : Open S.Context → ℕ → List PathStep → Place → Type 0 where
  at_top :
      {o : Open S.Context} {depth_left : ℕ} {path : List PathStep} {p : Place} → o ≡ top → depth_left ≡ depth → path ≡ [] → p ≡ p0 → Opened S top depth p0 o depth_left path p
  inner :
      {o a : Open S.Context} {depth_left below k : ℕ} {path steps : List PathStep} {p q u : Place} {rs : List Record}
      → Opened S top depth p0 a depth_left steps p → SoFar S a depth_left p rs q → Begun S a depth_left k q o below u
      → path ≡ steps ++ step k rs ∷ [] → Opened S top depth p0 o below path u

-- the fault of the open part, as the fault of the whole
abbrev pub below : List PathStep → Fault → Fault
below path f = record f { path = path ++ f.path }

-- the same place, seen from before the length: the known end is that of what holds the payload
abbrev pub outside : Place → ℕ → Place → Place
outside t n u = record u { known = option_map (λ e. e - n) t.known }
