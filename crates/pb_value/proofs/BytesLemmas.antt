-- Bytes are below 256: those of texts, of numbers and of shortest spellings.
use Rattle.std.proofs.Common.{◌≡◌, ℕ, zero, suc, ◌+◌, ◌*◌, ◌/◌, ◌<◌, ◌≤◌, List, [], ◌∷◌, ◌++◌, length, arith, subst, ⊎_elim}
use Rattle.std.specs.Prelude.{Bool, true, false, IsUtf8, ◌&&◌, encode_utf8_all}
use Rattle.std.specs.Char.{IsScalar, encode_utf8}
use Rattle.std.specs.Str.{all_scalars}
use Rattle.std.specs.Int.{w32, w64, to_le_bytes}
use Rattle.std.proofs.lemmas.Bool.{cases_lt, lt-ltb, le-ltb}
use lib.Utf8.{scalar_cases}
use Rattle.pb_wire.specs.Varint.{shortest}
use Rattle.pb_wire.specs.Record.{Payload, varint, fixed64, len, group, fixed32, Group, no_more, more, Record, group_of}
use Rattle.pb_wire.specs.Spell.{shortest_record, shortest_group, shortest_records}
use Rattle.pb_wire.specs.Ranges.{AreBytes, IsInRange, IsInRangeGroup, AreInRange}
use Rattle.pb_wire.proofs.VarintLemmas.{shortest-last, shortest-more}
use Rattle.pb_wire.proofs.WritingLemmas.{in_range_group}

pub AreBytes-append : (a b : List ℕ) → AreBytes a → AreBytes b → AreBytes (a ++ b)
AreBytes-append [] b h g = g
AreBytes-append (x ∷ a) b h g = (h.0, AreBytes-append a b h.1 g)

AreBytes-encode : (c : ℕ) → IsScalar c → AreBytes (encode_utf8 c)
unfolding encode_utf8
AreBytes-encode c h =
    ⊎_elim (λ (a : c < 128). rw (lt-ltb c 128 a) (omega arith, tt))
    (λ (a : 128 ≤ c). ⊎_elim (λ (b : c < 2048). rw (le-ltb c 128 a, lt-ltb c 2048 b) (omega arith, (omega arith, tt)))
    (λ (b : 2048 ≤ c). ⊎_elim (λ (d : c < 65536). rw (le-ltb c 128 a, le-ltb c 2048 b, lt-ltb c 65536 d) (omega arith, (omega arith, (omega arith, tt))))
    (λ (d : 65536 ≤ c).
    let top : c < 1114112 = ⊎_elim (λ (e : c < 55296). omega arith) (λ (e : (57344 ≤ c) × (c < 1114112)). e.1) (scalar_cases c h) in
    rw (le-ltb c 128 a, le-ltb c 2048 b, le-ltb c 65536 d) (omega arith, (omega arith, (omega arith, (omega arith, tt)))))
    (cases_lt c 65536)) (cases_lt c 2048)) (cases_lt c 128)

pub both : (x y : Bool) → (x && y) ≡ true → (x ≡ true) × (y ≡ true)
both true y e = (cc, e)
both false y e = absurd (cc)

AreBytes-encode_all : (cs : List ℕ) → all_scalars cs ≡ true → AreBytes (encode_utf8_all cs)
AreBytes-encode_all [] h = tt
AreBytes-encode_all (c ∷ cs) h = let e = both _ _ h in AreBytes-append (encode_utf8 c) (encode_utf8_all cs) (AreBytes-encode c e.0) (AreBytes-encode_all cs e.1)

pub AreBytes-IsUtf8 : (s : List ℕ) → IsUtf8 s → AreBytes s
AreBytes-IsUtf8 s h = subst AreBytes h.1.1 (AreBytes-encode_all h.0 h.1.0)

AreBytes-within : (k n : ℕ) → n ≤ k → AreBytes (shortest n)
AreBytes-within zero n h = let low : n < 128 = omega arith in rw (shortest-last n low) (omega arith, tt)
AreBytes-within (suc k) n h =
    ⊎_elim (λ (low : n < 128). rw (shortest-last n low) (omega arith, tt))
    (λ (high : 128 ≤ n). rw (shortest-more n high) (omega arith, AreBytes-within k (n / 128) (omega arith)))
    (cases_lt n 128)

pub AreBytes-shortest : (n : ℕ) → AreBytes (shortest n)
AreBytes-shortest n = AreBytes-within n n (omega arith)

pub AreBytes-four : (n : ℕ) → AreBytes (to_le_bytes w32 n)
AreBytes-four n = (omega arith, (omega arith, (omega arith, (omega arith, tt))))

pub AreBytes-eight : (n : ℕ) → AreBytes (to_le_bytes w64 n)
AreBytes-eight n = (omega arith, (omega arith, (omega arith, (omega arith, (omega arith, (omega arith, (omega arith, (omega arith, tt))))))))

mutual
  AreBytes-shortest_record : (p : Payload) (k : ℕ) → IsInRange p → AreBytes (shortest_record k p)
  AreBytes-shortest_record (varint n) k h = AreBytes-append (shortest (8 * k + 0)) (shortest n) (AreBytes-shortest (8 * k + 0)) (AreBytes-shortest n)
  AreBytes-shortest_record (fixed64 n) k h = AreBytes-append (shortest (8 * k + 1)) (to_le_bytes w64 n) (AreBytes-shortest (8 * k + 1)) (AreBytes-eight n)
  AreBytes-shortest_record (len s) k h =
      AreBytes-append (shortest (8 * k + 2) ++ shortest (length s)) s
      (AreBytes-append (shortest (8 * k + 2)) (shortest (length s)) (AreBytes-shortest (8 * k + 2)) (AreBytes-shortest (length s))) h
  AreBytes-shortest_record (group g) k h =
      AreBytes-append (shortest (8 * k + 3) ++ shortest_group g) (shortest (8 * k + 4))
      (AreBytes-append (shortest (8 * k + 3)) (shortest_group g) (AreBytes-shortest (8 * k + 3)) (AreBytes-shortest_group g h)) (AreBytes-shortest (8 * k + 4))
  AreBytes-shortest_record (fixed32 n) k h = AreBytes-append (shortest (8 * k + 5)) (to_le_bytes w32 n) (AreBytes-shortest (8 * k + 5)) (AreBytes-four n)

  AreBytes-shortest_group : (g : Group) → IsInRangeGroup g → AreBytes (shortest_group g)
  AreBytes-shortest_group no_more h = tt
  AreBytes-shortest_group (more k p g) h =
      AreBytes-append (shortest_record k p) (shortest_group g) (AreBytes-shortest_record p k h.0) (AreBytes-shortest_group g h.1)

pub AreBytes-shortest_records : (rs : List Record) → AreInRange rs → AreBytes (shortest_records rs)
AreBytes-shortest_records rs h = AreBytes-shortest_group (group_of rs) (in_range_group rs h)
