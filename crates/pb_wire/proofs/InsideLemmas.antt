-- Records are read back from each of their spellings.
use Rattle.std.proofs.Common.{◌≡◌, ℕ, zero, suc, ◌+◌, ◌*◌, ◌/◌, ◌%◌, ◌^◌, ◌<◌, ◌≤◌, List, [], ◌∷◌, ◌++◌, length, take, drop, refl, sym, ap, ◌∙◌, inl, inr, arith, append_assoc, append-nil, length-append}
use Rattle.std.specs.Prelude.{nat_le, if◌then◌else◌, true, false, ◌⊎◌}
use Rattle.std.proofs.lemmas.Bool.Decides.{leb_tells}
use Rattle.std.proofs.Math.Nat.{mod-eq_of_lt}
use Rattle.std.specs.Int.{w32, w64, to_le_bytes, from_le_bytes}
use Rattle.std.proofs.lemmas.Bool.{lt-ltb, le-ltb, le-leb}
use Rattle.std.proofs.lemmas.List.{take_at, drop_at}
use Rattle.std.proofs.lemmas.Nat.{from_le_bytes-to_le_bytes_4, from_le_bytes-to_le_bytes_8}
use Rattle.pb_wire.specs.Varint.{IsVarint, EndsOnce, groups_value, shortest}
use Rattle.pb_wire.specs.Record.{Payload, varint, fixed64, len, group, fixed32, Group, no_more, more, Record, wire_type, group_of, records_in}
use Rattle.pb_wire.specs.Spell.{Body, Tagged, AreRecords, SpellsGroup, shortest_record, shortest_group, shortest_records}
use Rattle.pb_wire.specs.Ranges.{IsNumber, IsInRange, IsInRangeGroup, AreInRange}
use Rattle.pb_wire.proofs.WritingLemmas.{in_range_group}
use Rattle.pb_wire.proofs.ReadingLemmas.{SpellsGroup-from_records}
use Rattle.pb_wire.proofs.ShortestLemmas.{shortest-ends, groups_value-shortest}
use Rattle.pb_wire.specs.Inside.{IsNumbered, IsNumberedGroup, AreNumbered, first_varint, after_varint, varint_value, named_length, Front, front, before, front_within, records_spelled}

first_varint-append : (a x : List ℕ) → EndsOnce a → first_varint (a ++ x) ≡ a
unfolding first_varint
first_varint-append [] x h = absurd h
first_varint-append (b ∷ []) x h = rw (lt-ltb b 128 h) refl
first_varint-append (b ∷ c ∷ bs) x h = rw (le-ltb b 128 h.0, first_varint-append (c ∷ bs) x h.1) refl

after_varint-append : (a x : List ℕ) → EndsOnce a → after_varint (a ++ x) ≡ x
unfolding after_varint
after_varint-append [] x h = absurd h
after_varint-append (b ∷ []) x h = rw (lt-ltb b 128 h) refl
after_varint-append (b ∷ c ∷ bs) x h = rw (le-ltb b 128 h.0) (after_varint-append (c ∷ bs) x h.1)

-- a varint of any length
record Long (n : ℕ) (t : List ℕ) : Type 0 where
  ends : EndsOnce t
  value : groups_value t % 2 ^ 64 ≡ n

long : {n : ℕ} {t : List ℕ} → IsVarint n t → Long n t
long h = record { ends = h.ends; value = h.value }

module _ (n k : ℕ) where
  step_0 : (t x : List ℕ) → Long (8 * k + 0) t → front_within (suc n) (t ++ x) ≡ before k (varint (varint_value (first_varint x))) (front_within n (after_varint x))
  unfolding front_within
  step_0 [] x h = absurd h.ends
  step_0 (b ∷ bs) x h =
      let e : (8 * k + 0) / 8 ≡ k = omega arith in
      let f : (8 * k + 0) % 8 ≡ 0 = omega arith in
      rw (first_varint-append (b ∷ bs) x h.ends, after_varint-append (b ∷ bs) x h.ends, h.value, e, f) refl

  step_1 : (t x : List ℕ) → Long (8 * k + 1) t → front_within (suc n) (t ++ x) ≡ before k (fixed64 (from_le_bytes w64 (take 8 x))) (front_within n (drop 8 x))
  unfolding front_within
  step_1 [] x h = absurd h.ends
  step_1 (b ∷ bs) x h =
      let e : (8 * k + 1) / 8 ≡ k = omega arith in
      let f : (8 * k + 1) % 8 ≡ 1 = omega arith in
      rw (first_varint-append (b ∷ bs) x h.ends, after_varint-append (b ∷ bs) x h.ends, h.value, e, f) refl

  step_2 :
      (t x : List ℕ) → Long (8 * k + 2) t
      → front_within (suc n) (t ++ x)
      ≡ before k (len (take (named_length (first_varint x) (after_varint x)) (after_varint x)))
      (front_within n (drop (named_length (first_varint x) (after_varint x)) (after_varint x)))
  unfolding front_within
  step_2 [] x h = absurd h.ends
  step_2 (b ∷ bs) x h =
      let e : (8 * k + 2) / 8 ≡ k = omega arith in
      let f : (8 * k + 2) % 8 ≡ 2 = omega arith in
      rw (first_varint-append (b ∷ bs) x h.ends, after_varint-append (b ∷ bs) x h.ends, h.value, e, f) refl

  step_3 :
      (t x : List ℕ) → Long (8 * k + 3) t
      → front_within (suc n) (t ++ x) ≡ before k (group (group_of (front_within n x).records)) (front_within n (front_within n x).rest)
  unfolding front_within
  step_3 [] x h = absurd h.ends
  step_3 (b ∷ bs) x h =
      let e : (8 * k + 3) / 8 ≡ k = omega arith in
      let f : (8 * k + 3) % 8 ≡ 3 = omega arith in
      rw (first_varint-append (b ∷ bs) x h.ends, after_varint-append (b ∷ bs) x h.ends, h.value, e, f) refl

  step_4 : (t x : List ℕ) → Long (8 * k + 4) t → front_within (suc n) (t ++ x) ≡ front [] x
  unfolding front_within
  step_4 [] x h = absurd h.ends
  step_4 (b ∷ bs) x h =
      let f : (8 * k + 4) % 8 ≡ 4 = omega arith in
      rw (first_varint-append (b ∷ bs) x h.ends, after_varint-append (b ∷ bs) x h.ends, h.value, f) refl

  step_5 : (t x : List ℕ) → Long (8 * k + 5) t → front_within (suc n) (t ++ x) ≡ before k (fixed32 (from_le_bytes w32 (take 4 x))) (front_within n (drop 4 x))
  unfolding front_within
  step_5 [] x h = absurd h.ends
  step_5 (b ∷ bs) x h =
      let e : (8 * k + 5) / 8 ≡ k = omega arith in
      let f : (8 * k + 5) % 8 ≡ 5 = omega arith in
      rw (first_varint-append (b ∷ bs) x h.ends, after_varint-append (b ∷ bs) x h.ends, h.value, e, f) refl

prepend : Group → Front → Front
prepend no_more f = f
prepend (more k p g) f = before k p (prepend g f)

prepend-front : (g : Group) (s : List ℕ) → prepend g (front [] s) ≡ front (records_in g) s
unfolding prepend
prepend-front no_more s = refl
prepend-front (more k p g) s = ap (before k p) (prepend-front g s)

group_of-records_in : (g : Group) → group_of (records_in g) ≡ g
group_of-records_in no_more = refl
group_of-records_in (more k p g) = ap (more k p) (group_of-records_in g)

named_length-long : (size s : List ℕ) (n : ℕ) → groups_value size % 2 ^ 64 ≡ n → length s < 2 ^ 64 → named_length size s ≡ n
unfolding named_length
named_length-long size s n e h = by_cases (leb_tells (groups_value size) (length s))
  where
    by_cases : ((nat_le (groups_value size) (length s) ≡ true) × (groups_value size ≤ length s)) ⊎ ((nat_le (groups_value size) (length s) ≡ false) × (length s < groups_value size)) → (if nat_le (groups_value size) (length s) then groups_value size else groups_value size % 2 ^ 64) ≡ n
    by_cases (inl t) = let small : groups_value size % 2 ^ 64 ≡ groups_value size = mod-eq_of_lt (omega (arith, t.1, h)) in rw (t.0) (sym small ∙ e)
    by_cases (inr t) = rw (t.0) e

ends_some : (a : List ℕ) → EndsOnce a → 0 < length a
ends_some [] h = absurd h
ends_some (p ∷ ps) h = omega arith

-- past the end the front reads as f does, whatever the count
Reads_on : List ℕ → Front → Type 0
Reads_on rest f = (m : ℕ) → length rest < m → front_within m rest ≡ f

tail_below : (tag x : List ℕ) (n : ℕ) → EndsOnce tag → length (tag ++ x) < suc n → length x < n
tail_below tag x n h fuel = let total : length tag + length x < suc n = rw length-append at fuel in omega (arith, ends_some tag h, total)

rest_below : (a x : List ℕ) (n : ℕ) → length (a ++ x) < n → length x < n
rest_below a x n fuel = let total : length a + length x < n = rw length-append at fuel in omega (arith, total)

past_end_tag : (k : ℕ) (end rest : List ℕ) → Long (8 * k + 4) end → Reads_on (end ++ rest) (front [] rest)
unfolding Reads_on
past_end_tag k end rest h zero l = absurd (omega arith)
past_end_tag k end rest h (suc m) l = step_4 m k end rest h

mutual
  unfolding Reads_on prepend

  read_body :
      (p : Payload) (k n : ℕ) (first rest : List ℕ) (f : Front) → Reads_on rest f → Tagged k (wire_type p) (Body k p) first → length (first ++ rest) < n
      → length (first ++ rest) < 2 ^ 64 → front_within n (first ++ rest) ≡ before k p f
  read_body (varint v) k zero first rest f c h fuel small = absurd (omega arith)
  read_body (fixed64 v) k zero first rest f c h fuel small = absurd (omega arith)
  read_body (len s) k zero first rest f c h fuel small = absurd (omega arith)
  read_body (group g) k zero first rest f c h fuel small = absurd (omega arith)
  read_body (fixed32 v) k zero first rest f c h fuel small = absurd (omega arith)
  read_body (varint v) k (suc n) first rest f c h fuel small =
      let split : first ++ rest ≡ h.tag ++ (h.body ++ rest) = ap (λ (z : List ℕ). z ++ rest) h.joined ∙ append_assoc h.tag h.body rest in
      let on = c n (rest_below h.body rest n (tail_below h.tag (h.body ++ rest) n h.tagged.ends (rw split at fuel))) in
      rw (split, step_0 n k h.tag (h.body ++ rest) (long h.tagged), first_varint-append h.body rest h.follows.1.ends, after_varint-append h.body rest h.follows.1.ends, h.follows.1.value, on) refl
  read_body (fixed64 v) k (suc n) first rest f c h fuel small =
      let split : first ++ rest ≡ h.tag ++ (h.body ++ rest) = ap (λ (z : List ℕ). z ++ rest) h.joined ∙ append_assoc h.tag h.body rest in
      let on = c n (rest_below h.body rest n (tail_below h.tag (h.body ++ rest) n h.tagged.ends (rw split at fuel))) in
      let size : length h.body ≡ 8 = ap length h.follows.1 in
      let number : from_le_bytes w64 h.body ≡ v = ap (from_le_bytes w64) h.follows.1 ∙ from_le_bytes-to_le_bytes_8 v h.follows.0 in
      ap (front_within (suc n)) split ∙ step_1 n k h.tag (h.body ++ rest) (long h.tagged)
      ∙ ap (λ (z : List ℕ). before k (fixed64 (from_le_bytes w64 z)) (front_within n (drop 8 (h.body ++ rest)))) (take_at h.body rest 8 size)
      ∙ ap (λ (z : ℕ). before k (fixed64 z) (front_within n (drop 8 (h.body ++ rest)))) number
      ∙ ap (λ (z : List ℕ). before k (fixed64 v) (front_within n z)) (drop_at h.body rest 8 size) ∙ ap (before k (fixed64 v)) on
  read_body (fixed32 v) k (suc n) first rest f c h fuel small =
      let split : first ++ rest ≡ h.tag ++ (h.body ++ rest) = ap (λ (z : List ℕ). z ++ rest) h.joined ∙ append_assoc h.tag h.body rest in
      let on = c n (rest_below h.body rest n (tail_below h.tag (h.body ++ rest) n h.tagged.ends (rw split at fuel))) in
      let size : length h.body ≡ 4 = ap length h.follows.1 in
      let number : from_le_bytes w32 h.body ≡ v = ap (from_le_bytes w32) h.follows.1 ∙ from_le_bytes-to_le_bytes_4 v h.follows.0 in
      ap (front_within (suc n)) split ∙ step_5 n k h.tag (h.body ++ rest) (long h.tagged)
      ∙ ap (λ (z : List ℕ). before k (fixed32 (from_le_bytes w32 z)) (front_within n (drop 4 (h.body ++ rest)))) (take_at h.body rest 4 size)
      ∙ ap (λ (z : ℕ). before k (fixed32 z) (front_within n (drop 4 (h.body ++ rest)))) number
      ∙ ap (λ (z : List ℕ). before k (fixed32 v) (front_within n z)) (drop_at h.body rest 4 size) ∙ ap (before k (fixed32 v)) on
  read_body (len s) k (suc n) first rest f c h fuel small =
      let split : first ++ rest ≡ h.tag ++ (h.body ++ rest) = ap (λ (z : List ℕ). z ++ rest) h.joined ∙ append_assoc h.tag h.body rest in
      let inner : h.body ++ rest ≡ h.follows.1 ++ (s ++ rest) = ap (λ (z : List ℕ). z ++ rest) h.follows.3 ∙ append_assoc h.follows.1 s rest in
      let depth_left : length (h.body ++ rest) < n = tail_below h.tag (h.body ++ rest) n h.tagged.ends (rw split at fuel) in
      let on = c n (rest_below h.body rest n depth_left) in
      let below : length (s ++ rest) < 2 ^ 64 =
      rest_below h.follows.1 (s ++ rest) (2 ^ 64) (rw inner at (rest_below h.tag (h.body ++ rest) (2 ^ 64) (rw split at small))) in
      let size = named_length-long h.follows.1 (s ++ rest) (length s) h.follows.2.value below in
      rw (
        split,
        inner,
        step_2 n k h.tag (h.follows.1 ++ (s ++ rest)) (long h.tagged),
        first_varint-append h.follows.1 (s ++ rest) h.follows.2.ends,
        after_varint-append h.follows.1 (s ++ rest) h.follows.2.ends,
        size,
        take_at s rest (length s) refl,
        drop_at s rest (length s) refl,
        on,
      ) refl
  read_body (group g) k (suc n) first rest f c h fuel small =
      let split : first ++ rest ≡ h.tag ++ (h.body ++ rest) = ap (λ (z : List ℕ). z ++ rest) h.joined ∙ append_assoc h.tag h.body rest in
      let inner : h.body ++ rest ≡ h.follows.0 ++ (h.follows.1 ++ rest) = ap (λ (z : List ℕ). z ++ rest) h.follows.4 ∙ append_assoc h.follows.0 h.follows.1 rest in
      let depth_left : length (h.body ++ rest) < n = tail_below h.tag (h.body ++ rest) n h.tagged.ends (rw split at fuel) in
      let on = c n (rest_below h.body rest n depth_left) in
      let below : length (h.body ++ rest) < 2 ^ 64 = rest_below h.tag (h.body ++ rest) (2 ^ 64) (rw split at small) in
      let opened : front_within n (h.body ++ rest) ≡ front (records_in g) rest =
      ap (front_within n) inner
      ∙ read_group g n h.follows.0 (h.follows.1 ++ rest) (front [] rest) (past_end_tag k h.follows.1 rest (long h.follows.3)) h.follows.2 (rw inner at depth_left) (rw inner at below)
      ∙ prepend-front g rest in
      ap (front_within (suc n)) split ∙ step_3 n k h.tag (h.body ++ rest) (long h.tagged)
      ∙ ap (λ (z : Front). before k (group (group_of z.records)) (front_within n z.rest)) opened
      ∙ ap (λ (z : Group). before k (group z) (front_within n rest)) (group_of-records_in g) ∙ ap (before k (group g)) on

  read_group :
      (g : Group) (n : ℕ) (a rest : List ℕ) (f : Front) → Reads_on rest f → SpellsGroup g a → length (a ++ rest) < n → length (a ++ rest) < 2 ^ 64
      → front_within n (a ++ rest) ≡ prepend g f
  read_group no_more n a rest f c h fuel small =
      let gone : a ++ rest ≡ rest = ap (λ (z : List ℕ). z ++ rest) h in ap (front_within n) gone ∙ c n (rw gone at fuel)
  read_group (more k p g) n a rest f c h fuel small =
      let split : a ++ rest ≡ h.0 ++ (h.1 ++ rest) = ap (λ (z : List ℕ). z ++ rest) h.4 ∙ append_assoc h.0 h.1 rest in
      ap (front_within n) split
      ∙ read_body p k n h.0 (h.1 ++ rest) (prepend g f)
      (λ m l. read_group g m h.1 rest f c h.3 l (rest_below h.0 (h.1 ++ rest) (2 ^ 64) (rw split at small))) h.2 (rw split at fuel) (rw split at small)

records_in-group_of : (rs : List Record) → records_in (group_of rs) ≡ rs
records_in-group_of [] = refl
records_in-group_of (r ∷ rs) = ap (λ (ss : List Record). r ∷ ss) (records_in-group_of rs)

reads_nothing : Reads_on [] (front [] [])
unfolding Reads_on front_within
reads_nothing zero l = absurd (omega arith)
reads_nothing (suc m) l = refl

-- bytes that spell records are read as these
pub records_spelled-AreRecords : (rs : List Record) (b : List ℕ) → AreRecords rs b → length b < 2 ^ 64 → records_spelled b ≡ rs
unfolding records_spelled
records_spelled-AreRecords rs b h small =
    let whole : b ++ [] ≡ b = append-nil b in
    let read : front_within (suc (length b)) (b ++ []) ≡ prepend (group_of rs) (front [] []) =
    read_group (group_of rs) (suc (length b)) b [] (front [] []) reads_nothing (SpellsGroup-from_records rs b h) (rw whole (omega arith)) (rw whole small) in
    ap (λ (z : List ℕ). (front_within (suc (length b)) z).records) (sym whole) ∙ ap (λ (z : Front). z.records) read
    ∙ ap (λ (z : Front). z.records) (prepend-front (group_of rs) []) ∙ records_in-group_of rs

-- of the shortest encoding
shortest-long : (n : ℕ) → n < 2 ^ 64 → Long n (shortest n)
shortest-long n h = record { ends = shortest-ends n; value = rw (groups_value-shortest n) (mod-eq_of_lt h) }

named_length-whole : (s rest : List ℕ) → named_length (shortest (length s)) (s ++ rest) ≡ length s
unfolding named_length
named_length-whole s rest =
    let fits : length s ≤ length (s ++ rest) = rw length-append (omega arith) in
    rw (groups_value-shortest (length s), le-leb (length s) (length (s ++ rest)) fits) refl

mutual
  unfolding Reads_on prepend

  read_shortest :
      (p : Payload) (k n : ℕ) (rest : List ℕ) (f : Front) → Reads_on rest f → IsNumber k → IsInRange p → IsNumbered p → length (shortest_record k p ++ rest) < n
      → front_within n (shortest_record k p ++ rest) ≡ before k p f
  read_shortest (varint v) k zero rest f c i h w fuel = absurd (omega arith)
  read_shortest (fixed64 v) k zero rest f c i h w fuel = absurd (omega arith)
  read_shortest (len s) k zero rest f c i h w fuel = absurd (omega arith)
  read_shortest (group g) k zero rest f c i h w fuel = absurd (omega arith)
  read_shortest (fixed32 v) k zero rest f c i h w fuel = absurd (omega arith)
  read_shortest (varint v) k (suc n) rest f c i h w fuel =
      let tag = shortest-long (8 * k + 0) (omega arith) in
      let split = append_assoc (shortest (8 * k + 0)) (shortest v) rest in
      let on = c n (rest_below (shortest v) rest n (tail_below (shortest (8 * k + 0)) (shortest v ++ rest) n tag.ends (rw split at fuel))) in
      rw (split, step_0 n k (shortest (8 * k + 0)) (shortest v ++ rest) tag, first_varint-append (shortest v) rest (shortest-ends v), after_varint-append (shortest v) rest (shortest-ends v), groups_value-shortest v, on)
      (ap (λ (z : ℕ). before k (varint z) f) (mod-eq_of_lt h))
  read_shortest (fixed64 v) k (suc n) rest f c i h w fuel =
      let tag = shortest-long (8 * k + 1) (omega arith) in
      let split = append_assoc (shortest (8 * k + 1)) (to_le_bytes w64 v) rest in
      let on = c n (rest_below (to_le_bytes w64 v) rest n (tail_below (shortest (8 * k + 1)) (to_le_bytes w64 v ++ rest) n tag.ends (rw split at fuel))) in
      ap (front_within (suc n)) split ∙ step_1 n k (shortest (8 * k + 1)) (to_le_bytes w64 v ++ rest) tag
      ∙ ap (λ (z : List ℕ). before k (fixed64 (from_le_bytes w64 z)) (front_within n (drop 8 (to_le_bytes w64 v ++ rest)))) (take_at (to_le_bytes w64 v) rest 8 refl)
      ∙ ap (λ (z : ℕ). before k (fixed64 z) (front_within n (drop 8 (to_le_bytes w64 v ++ rest)))) (from_le_bytes-to_le_bytes_8 v h)
      ∙ ap (λ (z : List ℕ). before k (fixed64 v) (front_within n z)) (drop_at (to_le_bytes w64 v) rest 8 refl) ∙ ap (before k (fixed64 v)) on
  read_shortest (fixed32 v) k (suc n) rest f c i h w fuel =
      let tag = shortest-long (8 * k + 5) (omega arith) in
      let split = append_assoc (shortest (8 * k + 5)) (to_le_bytes w32 v) rest in
      let on = c n (rest_below (to_le_bytes w32 v) rest n (tail_below (shortest (8 * k + 5)) (to_le_bytes w32 v ++ rest) n tag.ends (rw split at fuel))) in
      ap (front_within (suc n)) split ∙ step_5 n k (shortest (8 * k + 5)) (to_le_bytes w32 v ++ rest) tag
      ∙ ap (λ (z : List ℕ). before k (fixed32 (from_le_bytes w32 z)) (front_within n (drop 4 (to_le_bytes w32 v ++ rest)))) (take_at (to_le_bytes w32 v) rest 4 refl)
      ∙ ap (λ (z : ℕ). before k (fixed32 z) (front_within n (drop 4 (to_le_bytes w32 v ++ rest)))) (from_le_bytes-to_le_bytes_4 v h)
      ∙ ap (λ (z : List ℕ). before k (fixed32 v) (front_within n z)) (drop_at (to_le_bytes w32 v) rest 4 refl) ∙ ap (before k (fixed32 v)) on
  read_shortest (len s) k (suc n) rest f c i h w fuel =
      let tag = shortest-long (8 * k + 2) (omega arith) in
      let split : ((shortest (8 * k + 2) ++ shortest (length s)) ++ s) ++ rest ≡ shortest (8 * k + 2) ++ (shortest (length s) ++ (s ++ rest)) =
      append_assoc (shortest (8 * k + 2) ++ shortest (length s)) s rest ∙ append_assoc (shortest (8 * k + 2)) (shortest (length s)) (s ++ rest) in
      let on = c n (rest_below s rest n (rest_below (shortest (length s)) (s ++ rest) n (tail_below (shortest (8 * k + 2)) (shortest (length s) ++ (s ++ rest)) n tag.ends (rw split at fuel)))) in
      rw (
        split,
        step_2 n k (shortest (8 * k + 2)) (shortest (length s) ++ (s ++ rest)) tag,
        first_varint-append (shortest (length s)) (s ++ rest) (shortest-ends (length s)),
        after_varint-append (shortest (length s)) (s ++ rest) (shortest-ends (length s)),
        named_length-whole s rest,
        take_at s rest (length s) refl,
        drop_at s rest (length s) refl,
        on,
      ) refl
  read_shortest (group g) k (suc n) rest f c i h w fuel =
      let tag = shortest-long (8 * k + 3) (omega arith) in
      let end = shortest-long (8 * k + 4) (omega arith) in
      let split : ((shortest (8 * k + 3) ++ shortest_group g) ++ shortest (8 * k + 4)) ++ rest ≡ shortest (8 * k + 3) ++ (shortest_group g ++ (shortest (8 * k + 4) ++ rest)) =
      append_assoc (shortest (8 * k + 3) ++ shortest_group g) (shortest (8 * k + 4)) rest
      ∙ append_assoc (shortest (8 * k + 3)) (shortest_group g) (shortest (8 * k + 4) ++ rest) in
      let depth_left : length (shortest_group g ++ (shortest (8 * k + 4) ++ rest)) < n =
      tail_below (shortest (8 * k + 3)) (shortest_group g ++ (shortest (8 * k + 4) ++ rest)) n tag.ends (rw split at fuel) in
      let on = c n (rest_below (shortest (8 * k + 4)) rest n (rest_below (shortest_group g) (shortest (8 * k + 4) ++ rest) n depth_left)) in
      let opened : front_within n (shortest_group g ++ (shortest (8 * k + 4) ++ rest)) ≡ front (records_in g) rest =
      read_shortest_group g n (shortest (8 * k + 4) ++ rest) (front [] rest) (past_end_tag k (shortest (8 * k + 4)) rest end) h w depth_left ∙ prepend-front g rest in
      ap (front_within (suc n)) split ∙ step_3 n k (shortest (8 * k + 3)) (shortest_group g ++ (shortest (8 * k + 4) ++ rest)) tag
      ∙ ap (λ (z : Front). before k (group (group_of z.records)) (front_within n z.rest)) opened
      ∙ ap (λ (z : Group). before k (group z) (front_within n rest)) (group_of-records_in g) ∙ ap (before k (group g)) on

  read_shortest_group :
      (g : Group) (n : ℕ) (rest : List ℕ) (f : Front) → Reads_on rest f → IsInRangeGroup g → IsNumberedGroup g → length (shortest_group g ++ rest) < n
      → front_within n (shortest_group g ++ rest) ≡ prepend g f
  read_shortest_group no_more n rest f c h w fuel = c n fuel
  read_shortest_group (more k p g) n rest f c h w fuel =
      let split = append_assoc (shortest_record k p) (shortest_group g) rest in
      ap (front_within n) split
      ∙ read_shortest p k n (shortest_group g ++ rest) (prepend g f) (λ m l. read_shortest_group g m rest f c h.1 w.2 l) w.0 h.0 w.1 (rw split at fuel)

numbered_group : (rs : List Record) → AreNumbered rs → IsNumberedGroup (group_of rs)
numbered_group [] w = tt
numbered_group (r ∷ rs) w = (w.0, w.1, numbered_group rs w.2)

-- records are read back from their shortest_record spelling, whatever the length of a payload
pub records_spelled-shortest : (rs : List Record) → AreInRange rs → AreNumbered rs → records_spelled (shortest_records rs) ≡ rs
unfolding records_spelled
records_spelled-shortest rs h w =
    let b = shortest_group (group_of rs) in
    let whole : b ++ [] ≡ b = append-nil b in
    let read : front_within (suc (length b)) (b ++ []) ≡ prepend (group_of rs) (front [] []) =
    read_shortest_group (group_of rs) (suc (length b)) [] (front [] []) reads_nothing (in_range_group rs h) (numbered_group rs w) (rw whole (omega arith)) in
    ap (λ (z : List ℕ). (front_within (suc (length b)) z).records) (sym whole) ∙ ap (λ (z : Front). z.records) read
    ∙ ap (λ (z : Front). z.records) (prepend-front (group_of rs) []) ∙ records_in-group_of rs
