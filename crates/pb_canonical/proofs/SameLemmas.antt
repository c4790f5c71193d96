-- Bytes begin with one varint, one tag and one payload only.
use Rattle.std.proofs.Common.{◌≡◌, ℕ, ◌+◌, ◌*◌, ◌^◌, ◌<◌, ◌≤◌, List, [], ◌∷◌, ◌++◌, length, refl, ap, sym, subst, ◌∙◌, append_assoc, length-append, arith, inl, inr, take}
use Rattle.std.specs.Prelude.{◌≢◌, Result, Ok}
use Rattle.std.proofs.lemmas.List.{take_at}
use Rattle.std.specs.Int.{w32, w64, to_le_bytes}
use Rattle.pb_wire.specs.Varint.{IsVarint, shortest}
use Rattle.pb_wire.specs.Record.{Payload, varint, fixed64, len, group, fixed32, wire_type}
use Rattle.pb_wire.specs.Ranges.{IsNumber, IsInRange}
use Rattle.pb_wire.specs.Spell.{shortest_record, shortest_group}
use Rattle.pb_wire.proofs.ShortestLemmas.{shortest-is_varint}
use Rattle.pb_wire.proofs.Unique.{same_varint, same_front, same_body, wire_type_known}
use Rattle.pb_canonical.specs.Parts.{tagged, payload_bytes, follows, IsPlain, IsPayloadAt, IsStop}
use Rattle.pb_canonical.proofs.SplitLemmas.{record_split, group_split, varint_shorter}

pub varint_same : (m n : ℕ) (x y : List ℕ) → m < 2 ^ 64 → n < 2 ^ 64 → shortest m ++ x ≡ shortest n ++ y → (m ≡ n) × (x ≡ y)
varint_same m n x y f g e = let one = same_varint (shortest m) (shortest n) x y (shortest-is_varint m f) (shortest-is_varint n g) e in (one.1, one.2)

-- the same of bytes that are read and bytes that are given
pub varint_given : (m n : ℕ) (b x y : List ℕ) → m < 2 ^ 64 → n < 2 ^ 64 → b ≡ shortest m ++ x → b ≡ shortest n ++ y → (m ≡ n) × (x ≡ y)
varint_given m n b x y f g e h = varint_same m n x y f g (sym e ∙ h)

pub tag_same : (k w n v : ℕ) (x y : List ℕ) → k < 2 ^ 32 → n < 2 ^ 32 → w < 256 → v < 256 → tagged k w x ≡ tagged n v y → (8 * k + w ≡ 8 * n + v) × (x ≡ y)
tag_same k w n v x y a b c d e = varint_same (8 * k + w) (8 * n + v) x y (omega arith) (omega arith) e

pub eight_same : (m n : ℕ) (b x y : List ℕ) → m < 2 ^ 64 → n < 2 ^ 64 → b ≡ to_le_bytes w64 m ++ x → b ≡ to_le_bytes w64 n ++ y → (m ≡ n) × (x ≡ y)
eight_same m n b x y f g e h =
    let one = same_body (fixed64 m) (fixed64 n) 0 0 (to_le_bytes w64 m) (to_le_bytes w64 n) x y refl (f, refl) (g, refl) (sym e ∙ h) in
    let same : fixed64 m ≡ fixed64 n = one.0 in
    (cc, one.2)

pub four_same : (m n : ℕ) (b x y : List ℕ) → m < 2 ^ 32 → n < 2 ^ 32 → b ≡ to_le_bytes w32 m ++ x → b ≡ to_le_bytes w32 n ++ y → (m ≡ n) × (x ≡ y)
four_same m n b x y f g e h =
    let one = same_body (fixed32 m) (fixed32 n) 0 0 (to_le_bytes w32 m) (to_le_bytes w32 n) x y refl (f, refl) (g, refl) (sym e ∙ h) in
    let same : fixed32 m ≡ fixed32 n = one.0 in
    (cc, one.2)

-- a length and its bytes
pub len_same :
    (size : ℕ) (p q b rest x y : List ℕ) → size < 2 ^ 64 → length q < 2 ^ 64 → b ≡ shortest size ++ rest → length p ≡ size → rest ≡ p ++ x → b ≡ payload_bytes (len q) ++ y
    → (p ≡ q) × (x ≡ y)
len_same size p q b rest x y f g e s t h =
    let one = varint_given size (length q) b rest (q ++ y) f g e (h ∙ append_assoc (shortest (length q)) q y) in
    same_front p q x y (s ∙ one.0) (sym t ∙ one.1)

pub len_size : (size : ℕ) (q b rest y : List ℕ) → size < 2 ^ 64 → length q < 2 ^ 64 → b ≡ shortest size ++ rest → b ≡ payload_bytes (len q) ++ y → size ≤ length rest
len_size size q b rest y f g e h =
    let one = varint_given size (length q) b rest (q ++ y) f g e (h ∙ append_assoc (shortest (length q)) q y) in
    let same : length rest ≡ length (q ++ y) = ap length one.1 in
    omega (arith, one.0, same, length-append q y)

pub len_within : (q b y : List ℕ) → b ≡ payload_bytes (len q) ++ y → length q ≤ length b
len_within q b y e = omega (arith, ap length e, length-append (payload_bytes (len q)) y, length-append (shortest (length q)) q)

pub eight_long : (n : ℕ) (b y : List ℕ) → b ≡ to_le_bytes w64 n ++ y → 8 ≤ length b
eight_long n b y e = omega (arith, ap length e, length-append (to_le_bytes w64 n) y)

pub four_long : (n : ℕ) (b y : List ℕ) → b ≡ to_le_bytes w32 n ++ y → 4 ≤ length b
four_long n b y e = omega (arith, ap length e, length-append (to_le_bytes w32 n) y)

-- RECORDS

pub record_follows : (n : ℕ) (p : Payload) (s : List ℕ) → shortest_record n p ++ s ≡ tagged n (wire_type p) (follows n p s)
record_follows n (varint i) s = sym (record_split n 0 (varint i) (payload_bytes (varint i) ++ s) s refl (λ q. absurd (omega (arith, q))) refl)
record_follows n (fixed64 i) s = sym (record_split n 1 (fixed64 i) (payload_bytes (fixed64 i) ++ s) s refl (λ q. absurd (omega (arith, q))) refl)
record_follows n (len t) s = sym (record_split n 2 (len t) (payload_bytes (len t) ++ s) s refl (λ q. absurd (omega (arith, q))) refl)
record_follows n (fixed32 i) s = sym (record_split n 5 (fixed32 i) (payload_bytes (fixed32 i) ++ s) s refl (λ q. absurd (omega (arith, q))) refl)
record_follows n (group g) s = sym (group_split n g (shortest_group g ++ tagged n 4 s) s refl)

pub plain_follows : (n : ℕ) (p : Payload) (s : List ℕ) → wire_type p ≢ 3 → follows n p s ≡ payload_bytes p ++ s
plain_follows n (varint i) s w = refl
plain_follows n (fixed64 i) s w = refl
plain_follows n (len t) s w = refl
plain_follows n (fixed32 i) s w = refl
plain_follows n (group g) s w = absurd (w refl)

-- where a tag was read at the start of a record, it is the record's, and its payload follows
pub front_at :
    (n w k : ℕ) (p : Payload) (b after s : List ℕ) → k < 2 ^ 32 → n < 2 ^ 32 → w < 8 → b ≡ tagged n w after → b ≡ shortest_record k p ++ s
    → (n ≡ k) × (wire_type p ≡ w) × (after ≡ follows k p s)
front_at n w k p b after s low small byte e f =
    let known = wire_type_known p in
    let one = tag_same n w k (wire_type p) after (follows k p s) small low (omega arith) (omega (arith, known.0)) (sym e ∙ f ∙ record_follows k p s) in
    (omega (arith, one.0, known.0), omega (arith, one.0, known.0), one.1)

-- the same of a record of the tag's number
pub front_same : (n w : ℕ) (p : Payload) (b s : List ℕ) → n < 2 ^ 32 → w < 256 → tagged n w b ≡ shortest_record n p ++ s → (wire_type p ≡ w) × (b ≡ follows n p s)
front_same n w p b s small byte e =
    let known = wire_type_known p in
    let one = tag_same n w n (wire_type p) b (follows n p s) small small byte (omega (arith, known.0)) (e ∙ record_follows n p s) in
    (omega (arith, one.0), one.1)

-- a payload that is no group
pub plain_at : (n w : ℕ) (p : Payload) (b s : List ℕ) → w ≢ 3 → IsPayloadAt n w p b s → IsPlain w p × (b ≡ payload_bytes p ++ s)
plain_at n w p b s plain h =
    let no : wire_type p ≢ 3 = λ q. plain (sym h.type ∙ q) in
    (record { type = h.type; plain = no; in_range = h.in_range }, h.split ∙ plain_follows n p s no)

-- what follows a tag, where the whole begins with a record of the same number
pub payload_at : (n w : ℕ) (p : Payload) (b s : List ℕ) → n < 2 ^ 32 → w < 256 → IsInRange p → tagged n w b ≡ shortest_record n p ++ s → IsPayloadAt n w p b s
payload_at n w p b s small byte range e =
    let known = wire_type_known p in
    let one = tag_same n w n (wire_type p) b (follows n p s) small small byte (omega (arith, known.0)) (e ∙ record_follows n p s) in
    record { type = omega (arith, one.0); in_range = range; split = one.1 }

-- where a tag was read at the start of a record, it is the record's
pub record_at :
    (n w k : ℕ) (p : Payload) (b after s : List ℕ) → IsNumber k → n < 2 ^ 32 → w < 8 → IsInRange p → b ≡ tagged n w after → b ≡ shortest_record k p ++ s
    → (n ≡ k) × IsPayloadAt k w p after s
record_at n w k p b after s number small byte range e f =
    let known = wire_type_known p in
    let one = tag_same n w k (wire_type p) after (follows k p s) small (omega (arith, number.1)) (omega arith) (omega (arith, known.0)) (sym e ∙ f ∙ record_follows k p s) in
    (omega (arith, one.0, known.0), record { type = omega (arith, one.0, known.0); in_range = range; split = one.1 })

-- A TAG COMES FIRST

pub record FirstTag (b : List ℕ) : Type 0 where
  pub number : ℕ
  pub wire_type : ℕ
  pub rest : List ℕ
  pub is_number : IsNumber number
  pub known : wire_type < 8
  pub split : b ≡ tagged number wire_type rest

pub record_tag : (n : ℕ) (p : Payload) (b s : List ℕ) → IsNumber n → b ≡ shortest_record n p ++ s → FirstTag b
record_tag n p b s number e =
    let known = wire_type_known p in
    record { number = n; wire_type = wire_type p; rest = follows n p s; is_number = number; known = omega (arith, known.0); split = e ∙ record_follows n p s }

pub no_bytes : (b : List ℕ) → b ≡ [] → 0 < length b → ⊥
no_bytes [] e h = omega (arith, h)
no_bytes (x ∷ b) e h = absurd (cc)

pub stop_tag : (s : List ℕ) → IsStop s → 0 < length s → FirstTag s
stop_tag s (inl e) some = absurd (no_bytes s e some)
stop_tag s (inr h) some = record { number = h.0; wire_type = 4; rest = h.1; is_number = h.2; known = omega arith; split = h.3 }

-- the tag that was read where the bytes stop is an end tag
pub stop_at : (n w : ℕ) (s after : List ℕ) → IsStop s → n < 2 ^ 32 → w < 8 → s ≡ tagged n w after → w ≡ 4
stop_at n w s after (inl e) small byte f = absurd (omega (arith, varint_shorter (8 * n + w) s after f, ap length e))
stop_at n w s after (inr h) small byte f =
    let one = tag_same n w h.0 4 after h.1 small (omega (arith, h.2.1)) (omega arith) (omega arith) (sym f ∙ h.3) in omega (arith, one.0)

-- of bytes that have ended nothing is left
pub all_left : (t b s : List ℕ) → length b ≡ 0 → b ≡ t ++ s → b ≡ s
all_left [] b s none e = e
all_left (x ∷ t) b s none e = absurd (omega (arith, none, ap length e, length-append (x ∷ t) s))

-- VARINTS THAT ARE READ

pub varint_below : (n : ℕ) (b : List ℕ) → IsVarint n b → n < 2 ^ 64
varint_below n b v = omega (arith, v.value)

-- at the start of bytes that begin with the shortest varint of a number is that varint
pub only_front : (n : ℕ) (b s : List ℕ) → b ≡ shortest n ++ s → take (length (shortest n)) b ≡ shortest n
only_front n b s e = ap (take (length (shortest n))) e ∙ take_at (shortest n) s (length (shortest n)) refl

pub only_varint : (n : ℕ) (b s : List ℕ) → n < 2 ^ 64 → b ≡ shortest n ++ s → IsVarint n (take (length (shortest n)) b)
only_varint n b s r e = subst (IsVarint n) (sym (only_front n b s e)) (shortest-is_varint n r)

pub only_within : (n : ℕ) (b s : List ℕ) → b ≡ shortest n ++ s → length (shortest n) ≤ length b
only_within n b s e = omega (arith, ap length e, length-append (shortest n) s)

-- what was read, as an answer
abbrev pub found : (E : Type 0) → ℕ → ℕ → Result (ℕ × ℕ) E
found E n size = Ok (n, size)

pub found_parts : (E : Type 0) (m k n size : ℕ) → found E m k ≡ found E n size → (m ≡ n) × (k ≡ size)
found_parts E m k n size e = let pair : (m, k) ≡ (n, size) = cc in (ap (λ (p : ℕ × ℕ). p.0) pair, ap (λ (p : ℕ × ℕ). p.1) pair)

-- PAYLOADS BY WIRE TYPE

pub as_varint : (w : ℕ) (p : Payload) (b s : List ℕ) → w ≡ 0 → IsPlain w p → b ≡ payload_bytes p ++ s → (n : ℕ) × (p ≡ varint n) × (n < 2 ^ 64) × (b ≡ shortest n ++ s)
as_varint w (varint n) b s t h e = (n, refl, h.in_range, e)
as_varint w (fixed64 n) b s t h e = absurd (omega (arith, t, h.type))
as_varint w (len l) b s t h e = absurd (omega (arith, t, h.type))
as_varint w (group g) b s t h e = absurd (omega (arith, t, h.type))
as_varint w (fixed32 n) b s t h e = absurd (omega (arith, t, h.type))

pub as_fixed64 : (w : ℕ) (p : Payload) (b s : List ℕ) → w ≡ 1 → IsPlain w p → b ≡ payload_bytes p ++ s → (n : ℕ) × (p ≡ fixed64 n) × (n < 2 ^ 64) × (b ≡ to_le_bytes w64 n ++ s)
as_fixed64 w (fixed64 n) b s t h e = (n, refl, h.in_range, e)
as_fixed64 w (varint n) b s t h e = absurd (omega (arith, t, h.type))
as_fixed64 w (len l) b s t h e = absurd (omega (arith, t, h.type))
as_fixed64 w (group g) b s t h e = absurd (omega (arith, t, h.type))
as_fixed64 w (fixed32 n) b s t h e = absurd (omega (arith, t, h.type))

pub as_len : (w : ℕ) (p : Payload) (b s : List ℕ) → w ≡ 2 → IsPlain w p → b ≡ payload_bytes p ++ s → (l : List ℕ) × (p ≡ len l) × (b ≡ payload_bytes (len l) ++ s)
as_len w (len l) b s t h e = (l, refl, e)
as_len w (varint n) b s t h e = absurd (omega (arith, t, h.type))
as_len w (fixed64 n) b s t h e = absurd (omega (arith, t, h.type))
as_len w (group g) b s t h e = absurd (omega (arith, t, h.type))
as_len w (fixed32 n) b s t h e = absurd (omega (arith, t, h.type))

pub as_fixed32 : (w : ℕ) (p : Payload) (b s : List ℕ) → w ≡ 5 → IsPlain w p → b ≡ payload_bytes p ++ s → (n : ℕ) × (p ≡ fixed32 n) × (n < 2 ^ 32) × (b ≡ to_le_bytes w32 n ++ s)
as_fixed32 w (fixed32 n) b s t h e = (n, refl, h.in_range, e)
as_fixed32 w (varint n) b s t h e = absurd (omega (arith, t, h.type))
as_fixed32 w (fixed64 n) b s t h e = absurd (omega (arith, t, h.type))
as_fixed32 w (len l) b s t h e = absurd (omega (arith, t, h.type))
as_fixed32 w (group g) b s t h e = absurd (omega (arith, t, h.type))

pub no_other : (w : ℕ) (p : Payload) → IsPlain w p → w ≢ 0 → w ≢ 1 → w ≢ 2 → w ≢ 5 → ⊥
no_other w (varint n) h a b c d = a (sym h.type)
no_other w (fixed64 n) h a b c d = b (sym h.type)
no_other w (len l) h a b c d = c (sym h.type)
no_other w (fixed32 n) h a b c d = d (sym h.type)
no_other w (group g) h a b c d = h.plain refl
