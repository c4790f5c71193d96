-- The fault of bytes that are no sound records: a prefix of whole records, and the one thing that comes after it.
use Rattle.std.specs.Prelude.{◌≡◌, ◌≢◌, ℕ, suc, ◌+◌, ◌<◌, ◌≤◌, List, [], ◌∷◌, length, take, Some, None, ◌⊎◌, IsUtf8}
use Rattle.std.specs.Str.Lossy.{utf8_valid_len}
use Rattle.pb_wire.specs.Record.{Record}
use Rattle.pb_wire.specs.Spell.{AreRecords}
use Rattle.pb_wire.specs.Fault.{Fault, fault, step, inside, Place, Moves, HasTag, HasLength, TagFault, LengthFault, CutFault, text_at, VarintFault, FixedFault}
use Rattle.pb_wire.specs.Schema.{Schema, Element, a_varint, four_bytes, eight_bytes, Reading, unread, text, message}
use Rattle.pb_wire.specs.Schema.{same_level, packed, Open, records, in_group, context_of, open_group}
use Rattle.pb_wire.specs.Limits.{Bounds}
use Rattle.pb_wire.specs.Sound.{AreElements, AllSound}
use Rattle.pb_wire.specs.declared.fault.Cause.{Cause}
use Rattle.pb_wire.specs.declared.fault.Cause.TheVariants.{Truncated, PastEnd, BadText, TooDeep, InputTooLarge}

-- the bytes are whole sound records
abbrev pub Whole : (S : Schema) → S.Context → ℕ → List ℕ → Type 0
Whole S c depth_left front = (rs : List Record) × AreRecords rs front × AllSound S c depth_left rs

-- A record begins at p, unless p is at the known end, or at the end of the input with no known end and nothing open.
abbrev pub Begins : {C : Type 0} → Open C → Place → Type 0
Begins (records c) p = (p.known ≢ Some 0) × ((p.known ≡ None) → p.rest ≢ [])
Begins (in_group k c) p = p.known ≢ Some 0

-- a payload that would be too deep is reported before its length is read
abbrev pub IsAllowed : {C : Type 0} → ℕ → Reading C → Type 0
IsAllowed depth_left unread = Unit {0}
IsAllowed depth_left text = Unit {0}
IsAllowed depth_left (message c) = 0 < depth_left
IsAllowed depth_left (same_level c) = Unit {0}
IsAllowed depth_left (packed e) = Unit {0}

-- the place from the payload on, whose end is known
abbrev pub payload_at : Place → ℕ → Place
payload_at p size = record p { known = Some size }

-- the element that begins here has this fault
abbrev pub ElementFault : Element → Place → Fault → Type 0
ElementFault a_varint p f = VarintFault p f
ElementFault four_bytes p f = FixedFault 4 p f
ElementFault eight_bytes p f = FixedFault 8 p f

abbrev pub BadElements : Element → Place → Fault → Type 0
BadElements e p f =
    (front : List ℕ) × (q : Place) × AreElements e front × Moves p front q × (q.known ≢ Some 0) × ElementFault e q f

mutual
  pub data Bad (S : Schema) : Open S.Context → ℕ → Place → Fault → Type 0 where
    at_record :
        {o : Open S.Context} {depth_left : ℕ} {p q : Place} {f : Fault} {front : List ℕ}
        → (w : Whole S (context_of o) depth_left front) → Moves p front q → Begins o q → RecordFault S o w.0 depth_left q f → Bad S o depth_left p f
    at_end :
        {o : Open S.Context} {depth_left m : ℕ} {c : S.Context} {p q : Place} {f : Fault} {front : List ℕ}
        → o ≡ in_group m c → Whole S c depth_left front → Moves p front q → q.known ≡ Some 0 → f ≡ fault q.at [] PastEnd → Bad S o depth_left p f

  -- the record that begins here, after these whole records of what is open, has this fault
  pub data RecordFault (S : Schema) : Open S.Context → List Record → ℕ → Place → Fault → Type 0 where
    tag : {o : Open S.Context} {before : List Record} {depth_left : ℕ} {p : Place} {f : Fault} → TagFault (open_group o) p f → RecordFault S o before depth_left p f
    group_too_deep :
        {o : Open S.Context} {before : List Record} {depth_left k : ℕ} {p q : Place} {f : Fault}
        → HasTag p k 3 q → depth_left ≡ 0 → f ≡ fault p.at (step k before ∷ []) TooDeep → RecordFault S o before depth_left p f
    message_too_deep :
        {o : Open S.Context} {before : List Record} {depth_left k : ℕ} {d : S.Context} {p q : Place} {f : Fault}
        → HasTag p k 2 q → S.reading (context_of o) k ≡ message d → depth_left ≡ 0 → f ≡ fault p.at (step k before ∷ []) TooDeep → RecordFault S o before depth_left p f
    varint :
        {o : Open S.Context} {before : List Record} {depth_left k : ℕ} {p q : Place} {f g : Fault}
        → HasTag p k 0 q → VarintFault q g → f ≡ inside (step k before) g → RecordFault S o before depth_left p f
    fixed64 :
        {o : Open S.Context} {before : List Record} {depth_left k : ℕ} {p q : Place} {f g : Fault}
        → HasTag p k 1 q → FixedFault 8 q g → f ≡ inside (step k before) g → RecordFault S o before depth_left p f
    fixed32 :
        {o : Open S.Context} {before : List Record} {depth_left k : ℕ} {p q : Place} {f g : Fault}
        → HasTag p k 5 q → FixedFault 4 q g → f ≡ inside (step k before) g → RecordFault S o before depth_left p f
    in_a_group :
        {o : Open S.Context} {before : List Record} {depth_left k : ℕ} {p q : Place} {f g : Fault}
        → HasTag p k 3 q → Bad S (in_group k (S.group_context (context_of o) k)) depth_left q g → f ≡ inside (step k before) g → RecordFault S o before (suc depth_left) p f
    length_of :
        {o : Open S.Context} {before : List Record} {depth_left k : ℕ} {p q : Place} {f g : Fault}
        → HasTag p k 2 q → IsAllowed depth_left (S.reading (context_of o) k) → LengthFault q g → f ≡ inside (step k before) g → RecordFault S o before depth_left p f
    cut_payload :
        {o : Open S.Context} {before : List Record} {depth_left k : ℕ} {p q : Place} {f g : Fault}
        → HasTag p k 2 q → (S.reading (context_of o) k ≡ unread) ⊎ (S.reading (context_of o) k ≡ text) → CutFault q g → f ≡ inside (step k before) g
        → RecordFault S o before depth_left p f
    bad_text :
        {o : Open S.Context} {before : List Record} {depth_left k n : ℕ} {p q r : Place} {f : Fault}
        → HasTag p k 2 q → S.reading (context_of o) k ≡ text → HasLength q n r → n ≤ length r.rest → ¬ IsUtf8 (take n r.rest)
        → f ≡ fault (r.at + utf8_valid_len (take n r.rest)) (step k before ∷ []) BadText → RecordFault S o before depth_left p f
    in_a_list :
        {o : Open S.Context} {before : List Record} {depth_left k n : ℕ} {e : Element} {p q r : Place} {f g : Fault}
        → HasTag p k 2 q → S.reading (context_of o) k ≡ packed e → HasLength q n r → BadElements e (payload_at r n) g → f ≡ inside (step k before) g
        → RecordFault S o before depth_left p f
    in_a_message :
        {o : Open S.Context} {before : List Record} {depth_left k n : ℕ} {d : S.Context} {p q r : Place} {f g : Fault}
        → HasTag p k 2 q → S.reading (context_of o) k ≡ message d → HasLength q n r → Bad S (records d) depth_left (payload_at r n) g
        → f ≡ inside (step k before) g → RecordFault S o before (suc depth_left) p f
    in_a_value :
        {o : Open S.Context} {before : List Record} {depth_left k n : ℕ} {d : S.Context} {p q r : Place} {f g : Fault}
        → HasTag p k 2 q → S.reading (context_of o) k ≡ same_level d → HasLength q n r → Bad S (records d) depth_left (payload_at r n) g
        → f ≡ inside (step k before) g → RecordFault S o before depth_left p f

-- b is the encoding of these records, within the limits
pub record IsText (S : Schema) (c : S.Context) (limits : Bounds) (b : List ℕ) (rs : List Record) : Type 0 where
  pub size : length b ≤ limits.bytes
  pub spelled : AreRecords rs b
  pub sound : AllSound S c limits.depth rs

-- a fault of the bytes within the limit, as the fault of the longer input
abbrev pub beyond : ℕ → Fault → Fault
beyond max_bytes f = by_cause f.cause
  where
    by_cause : Cause → Fault
    by_cause Truncated = fault max_bytes [] InputTooLarge
    by_cause _ = f

-- b has this fault. Of an input that is too long the bytes within the limit are read first.
pub data HasFault (S : Schema) (c : S.Context) (limits : Bounds) (b : List ℕ) (f : Fault) : Type 0 where
  bad : length b ≤ limits.bytes → Bad S (records c) limits.depth (text_at b) f → HasFault S c limits b f
  bad_front :
      {g : Fault} → limits.bytes < length b → Bad S (records c) limits.depth (text_at (take limits.bytes b)) g → f ≡ beyond limits.bytes g
      → HasFault S c limits b f
  too_large :
      limits.bytes < length b → Whole S c limits.depth (take limits.bytes b) → f ≡ fault limits.bytes [] InputTooLarge
      → HasFault S c limits b f
