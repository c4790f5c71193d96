-- How the record of a step is looked for: records are passed over one by one.
use Rattle.std.specs.Prelude.{◌≡◌, ℕ, ◌<◌, ◌≤◌, List, None, Some, length}
use Rattle.pb_wire.specs.Record.{Record}
use Rattle.pb_wire.specs.RecordIter.{Seen, varint, fixed64, len, group, fixed32}
use Rattle.pb_wire.specs.Fault.{Place, Moves, Reads, place, step}
use Rattle.pb_wire.specs.Reading.{Front}
use Rattle.pb_wire.specs.declared.fault.PathStep.{PathStep}
use Rattle.pbtool_explain.specs.declared.find.Turn.{Turn}
use Rattle.pbtool_explain.specs.declared.find.Turn.TheVariants as turn
use Rattle.pbtool_explain.specs.Records.{IsFound}

-- whole records lead from one index to another, and this number of them have the number of the step
pub record IsReached (b : List ℕ) (from : ℕ) (s : PathStep) (rs : List Record) (at before : ℕ) : Type 0 where
  pub front : Front 100 (place b from) rs (place b at)
  pub counted : (step s.number rs).occurrence ≡ before

-- what comes at the index: the record, or a whole record that leads on, or neither
abbrev pub TurnIs : List ℕ → ℕ → PathStep → ℕ → Turn → Type 0
TurnIs b from s at (turn.Here f) = IsFound b from s (Some f)
TurnIs b from s at (turn.Past end before) = (rs : List Record) × IsReached b from s rs end before × (at < end) × (end ≤ length b) × (before ≤ s.occurrence)
TurnIs b from s at turn.Nowhere = IsFound b from s None

-- what follows a tag, from p to q, shows a payload: of a group the bytes before its end tag
abbrev pub ShowsValue : Place → Seen → Place → Type 0
ShowsValue p (varint n) q = Reads p n q
ShowsValue p (fixed64 n) q = (s : List ℕ) × (length s ≡ 8) × Moves p s q
ShowsValue p (fixed32 n) q = (s : List ℕ) × (length s ≡ 4) × Moves p s q
ShowsValue p (len s) q = (mid : Place) × Reads p (length s) mid × Moves mid s q
ShowsValue p (group s) q = (mid : Place) × (tag : ℕ) × Moves p s mid × Reads mid tag q
