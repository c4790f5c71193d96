-- Where the bytes of an input that goes on end: the open part there, and how much of its last token or payload is given.
use Rattle.std.specs.Prelude.{◌≡◌, ◌⊎◌, ℕ, suc, ◌+◌, ◌<◌, List, [], length}
use Rattle.pb_wire.specs.Record.{Record}
use Rattle.pb_wire.specs.declared.fault.PathStep.{PathStep}
use Rattle.pb_wire.specs.Fault.{Place, Moves, HasTag, HasLength, text_at, fault, input_end}
use Rattle.pb_wire.specs.Schema.{Schema, Element, unread, text, packed, Open, records, context_of}
use Rattle.pb_wire.specs.Sound.{AreElements}
use Rattle.pb_wire.specs.Grammar.{payload_at, IsAllowed, ElementFault}
use Rattle.pb_wire.specs.declared.fault.Cause.TheVariants.{Truncated}
use Rattle.pb_decode_parts.specs.Open.Opened.{SoFar, Opened}
use Rattle.pb_decode_parts.specs.Tokens.Numbers.{IsCutVarint, IsCutNumber}

-- With this many levels left the bytes end inside the record that comes next at q, or before it: this many of its open token or payload
-- are given, this many packed lists are open in it, and this many bytes are declared for its payload of a string, of bytes or of an unknown record.
pub data Unfinished (S : Schema) (c : S.Context) (depth_left : ℕ) (q : Place) (held lists declared : ℕ) : Type 0 where
  in_tag : IsCutVarint q → held ≡ length q.rest → lists ≡ 0 → declared ≡ 0 → Unfinished S c depth_left q held lists declared
  in_number :
      {k w : ℕ} {u : Place} → HasTag q k w u → IsCutNumber w u → held ≡ length u.rest → lists ≡ 0 → declared ≡ 0 → Unfinished S c depth_left q held lists declared
  in_length :
      {k : ℕ} {u : Place} → HasTag q k 2 u → IsAllowed depth_left (S.reading c k) → IsCutVarint u
      → held ≡ length u.rest → lists ≡ 0 → declared ≡ 0 → Unfinished S c depth_left q held lists declared
  in_payload :
      {k size : ℕ} {r u : Place} → HasTag q k 2 r → (S.reading c k ≡ unread) ⊎ (S.reading c k ≡ text) → HasLength r size u → length u.rest < size
      → held ≡ length u.rest → lists ≡ 0 → declared ≡ size → Unfinished S c depth_left q held lists declared
  in_list :
      {k size : ℕ} {e : Element} {front : List ℕ} {r t u : Place} → HasTag q k 2 r → S.reading c k ≡ packed e
      → HasLength r size t → AreElements e front → Moves (payload_at t size) front u
      → ElementFault e u (fault (input_end u) [] Truncated) → held ≡ length u.rest → lists ≡ 1 → declared ≡ 0 → Unfinished S c depth_left q held lists declared

-- From the beginning of b on this is open innermost, after whole sound records of it there is a place, and the bytes end in what comes next there.
-- Each thing that is open gave a step of the path, but for the top.
pub record EndsInside (S : Schema) (c : S.Context) (depth : ℕ) (b : List ℕ) (held contexts declared : ℕ) : Type 0 where
  pub open_now : Open S.Context
  pub depth_left : ℕ
  pub path : List PathStep
  pub begin : Place
  pub before : List Record
  pub place : Place
  pub lists : ℕ
  pub opened : Opened S (records c) depth (text_at b) open_now depth_left path begin
  pub so_far : SoFar S open_now depth_left begin before place
  pub unfinished : Unfinished S (context_of open_now) depth_left place held lists declared
  pub contexts_are : contexts ≡ suc (length path) + lists

-- this many bytes of the open token or payload are given
abbrev pub IsPending : (S : Schema) → S.Context → ℕ → List ℕ → ℕ → Type 0
IsPending S c depth b held = (contexts : ℕ) × (declared : ℕ) × EndsInside S c depth b held contexts declared

-- this many messages, entries, groups and packed lists are open, the top one too
abbrev pub HasOpen : (S : Schema) → S.Context → ℕ → List ℕ → ℕ → Type 0
HasOpen S c depth b contexts = (held : ℕ) × (declared : ℕ) × EndsInside S c depth b held contexts declared

-- the payload of a string, of bytes or of an unknown record is open, and this many bytes are declared for it; 0 if none is
abbrev pub IsDeclared : (S : Schema) → S.Context → ℕ → List ℕ → ℕ → Type 0
IsDeclared S c depth b declared = (held : ℕ) × (contexts : ℕ) × EndsInside S c depth b held contexts declared
