-- What an iterator over the records of an input gives.
use Rattle.std.specs.Prelude.{◌≡◌, ◌≢◌, ℕ, ◌+◌, ◌*◌, List, [], ◌∷◌, ◌++◌, length, take, nat_lt, Option}
use Rattle.std.specs.Prelude.{MatchOption, IfSome, IfOk, Result, Ok, Err, if◌then◌else◌}
use Rattle.pb_wire.specs.Varint.{IsVarint}
use Rattle.pb_wire.specs.Record.{Record, group_of}
use Rattle.pb_wire.specs.Record as wire
use Rattle.pb_wire.specs.Spell.{Spells, AreRecords}
use Rattle.pb_wire.specs.Fault.{Fault, fault, step, Place, Moves, place, HasTag}
use Rattle.pb_wire.specs.Schema.{blank, records, Open}
use Rattle.pb_wire.specs.Sound.{Sound, AllSound}
use Rattle.pb_wire.specs.Grammar.{RecordFault, beyond}
use Rattle.pb_wire.specs.Ranges.{IsNumber}
use Rattle.pb_wire.specs.Limits.{Bounds}
use Rattle.pb_wire.specs.Rest.{Rest}
use Rattle.pb_wire.specs.declared.fault.WireFault.{WireFault}
use Rattle.pb_wire.specs.declared.fault.Cause.TheVariants.{InputTooLarge}
use Rattle.pb_wire.specs.declared.iter.Payload.{Payload}
use Rattle.pb_wire.specs.declared.iter.Payload.TheVariants as given

-- a payload as the iterator gives it: a group is the bytes between its tags
pub data Seen : Type 0 where
  varint : ℕ → Seen
  fixed64 : ℕ → Seen
  len : List ℕ → Seen
  group : List ℕ → Seen
  fixed32 : ℕ → Seen

abbrev pub seen : Payload → Seen
seen (given.Varint n) = varint n
seen (given.I64 n) = fixed64 n
seen (given.Len s) = len s.now
seen (given.Group s) = group s.now
seen (given.I32 n) = fixed32 n

abbrev pub Item : Type 0
Item = Result (ℕ × Seen) WireFault

abbrev pub item_seen : Result (ℕ × Payload) WireFault → Item
item_seen (Ok r) = Ok (r.0, seen r.1)
item_seen (Err e) = Err e

-- b is a start tag of the group k, these bytes, and its end tag
pub record Encloses (k : ℕ) (inside b : List ℕ) : Type 0 where
  pub start : List ℕ
  pub end : List ℕ
  pub starts : IsVarint (8 * k + 3) start
  pub ends : IsVarint (8 * k + 4) end
  pub joined : b ≡ start ++ (inside ++ end)

-- x shows the payload of the record r, which b encodes
abbrev pub Shows : Seen → Record → List ℕ → Type 0
Shows (varint n) r b = r.payload ≡ wire.varint n
Shows (fixed64 n) r b = r.payload ≡ wire.fixed64 n
Shows (len s) r b = r.payload ≡ wire.len s
Shows (group s) r b = (rs : List Record) × (r.payload ≡ wire.group (group_of rs)) × AreRecords rs s × Encloses r.number s b
Shows (fixed32 n) r b = r.payload ≡ wire.fixed32 n

-- b is an encoding of the record r, and x shows its number and payload
pub record IsShown (r : Record) (x : ℕ × Seen) (b : List ℕ) : Type 0 where
  pub spelled : Spells r b
  pub number : x.0 ≡ r.number
  pub payload : Shows x.1 r b

-- b is the joining, in order, of spellings of the records, and the list shows each of them
abbrev pub AreShown : List Record → List (ℕ × Seen) → List ℕ → Type 0
AreShown [] [] b = b ≡ []
AreShown [] (x ∷ xs) b = ⊥
AreShown (r ∷ rs) [] b = ⊥
AreShown (r ∷ rs) (x ∷ xs) b = (first : List ℕ) × (others : List ℕ) × IsShown r x first × AreShown rs xs others × (b ≡ first ++ others)

-- b begins with spellings of records, in order, and the list shows each of them
pub record ShowsFront (xs : List (ℕ × Seen)) (b : List ℕ) : Type 0 where
  pub rs : List Record
  pub front : List ℕ
  pub others : List ℕ
  pub shown : AreShown rs xs front
  pub begins : b ≡ front ++ others

-- whole sound records lead from p to q, and the list shows them
pub record Passes (depth : ℕ) (p : Place) (xs : List (ℕ × Seen)) (q : Place) : Type 0 where
  pub rs : List Record
  pub front : List ℕ
  pub shown : AreShown rs xs front
  pub sound : AllSound blank tt depth rs
  pub moves : Moves p front q

-- one sound record leads from p to q, and x shows it
pub record ShowsRecord (depth : ℕ) (p : Place) (x : ℕ × Seen) (q : Place) : Type 0 where
  pub it : Record
  pub front : List ℕ
  pub shown : IsShown it x front
  pub sound : Sound blank tt depth it.number it.payload
  pub moves : Moves p front q

abbrev pub all_ok : List (ℕ × Seen) → List Item
all_ok [] = []
all_ok (x ∷ xs) = Ok x ∷ all_ok xs

-- a fault without its path
abbrev pub without_path : Fault → WireFault
without_path f = record { byte = f.byte; cause = f.cause }

-- at the beginning of the bytes b, of which no more are read than the limit allows
abbrev pub start : Bounds → List ℕ → Rest
start limits b = record { text = take limits.bytes b; is_cut = nat_lt limits.bytes (length b); at = 0; depth = limits.depth }

-- the input has more bytes than its limit allows
abbrev pub too_large : Rest → Fault
too_large s = fault (length s.text) [] InputTooLarge

-- These items are left: the records from here on. Where they lead to the end, nothing follows them, or that the input is too large.
-- Where a record has a fault, that fault follows, without its path.
pub data Gives (s : Rest) (items : List Item) : Type 0 where
  to_end :
      {xs : List (ℕ × Seen)} {q : Place} → Passes s.depth (place s.text s.at) xs q → q.rest ≡ []
      → items ≡ all_ok xs ++ (if s.is_cut then Err (without_path (too_large s)) ∷ [] else []) → Gives s items
  to_fault :
      {xs : List (ℕ × Seen)} {q : Place} {f : Fault} {before : List Record} → Passes s.depth (place s.text s.at) xs q → q.rest ≢ []
      → RecordFault blank (records tt) before s.depth q f
      → items ≡ all_ok xs ++ Err (without_path (if s.is_cut then beyond (length s.text) f else f)) ∷ [] → Gives s items

-- what a call gave from s, leaving t
pub record NextGives (s : Rest) (r : Option (Result (ℕ × Payload) WireFault)) (t : Rest) : Type 0 where
  -- the first of the items that were left, and leaves the others, or `None` where none were left, and leaves none
  pub first :
      (items : List Item) → Gives s items
      → MatchOption r ((items ≡ []) × Gives t []) (λ x. (others : List Item) × (items ≡ item_seen x ∷ others) × Gives t others)
  pub number : IfSome r (λ x. IfOk x (λ y. IsNumber y.0))

-- the value that begins at p, after the tag of a record with this wire type, has a fault
abbrev pub IsValueFault : ℕ → Place → WireFault → Type 0
IsValueFault code p e =
    (o : Open (Unit {0})) (before : List Record) (depth_left k : ℕ) (tag : Place) → HasTag tag k code p
    → RecordFault blank o before depth_left tag (fault e.byte (step k before ∷ []) e.cause)
