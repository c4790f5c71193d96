-- How long varints, records and their payloads are.
use Rattle.std.proofs.Common.{◌≡◌, ℕ, zero, suc, ◌+◌, ◌-◌, ◌*◌, ◌/◌, ◌^◌, ◌<◌, ◌≤◌, min, max, List, ◌++◌, length, drop, get_or, arith, ap, sym, ◌∙◌, length-append, drop_of_length-le, le_trans, lt_of_lt_of_le, ⊎_elim}
use Rattle.std.proofs.lemmas.Bool.{cases_lt}
use Rattle.std.proofs.lemmas.Nat.{pow-add, pow_pos, leading_top}
use Rattle.std.proofs.Math.Pow.{pow_mono}
use Rattle.std.specs.Int.Count.{count_leading_zeros}
use Rattle.std.proofs.lemmas.List.{drop_more}
use Rattle.pb_wire.specs.Varint.{shortest}
use Rattle.std.specs.Int.{w32, to_le_bytes}
use Rattle.pb_wire.specs.Record.{group, fixed32, Record, group_of}
use Rattle.pb_wire.specs.Spell.{shortest_record, shortest_records}
use Rattle.pb_wire.specs.declared.unknown.Unknown.{Unknown}
use Rattle.pb_wire.specs.Unknown.{payload_of, records_of}
use Rattle.pb_wire.proofs.VarintLemmas.{shortest-last, shortest-more}
use Rattle.pb_wire.proofs.ShortestLemmas.{length-shortest-le}
use Rattle.pb_schema.specs.declared.types.Kind.{Kind}
use Rattle.pb_value.specs.Canon.{packed_bytes}
use Rattle.pb_value.specs.View.{values_view}
use Rattle.pb_value.specs.declared.body.Value.{Value}
use Rattle.pb_encode.specs.Sizes.{capped}

pub varint_last : (n : ℕ) → n < 128 → length (shortest n) ≡ 1
varint_last n h = ap length (shortest-last n h)

-- a number with more than 7 * q bits has more than q groups of 7
varint_least : (q n : ℕ) → 2 ^ (7 * q) ≤ n → suc q ≤ length (shortest n)
varint_least zero n h =
    ⊎_elim (λ (low : n < 128). let one = varint_last n low in omega (arith, one)) (λ (high : 128 ≤ n). let more = ap length (shortest-more n high) in omega (arith, more)) (cases_lt n 128)
varint_least (suc q) n h =
    let e : 7 * suc q ≡ 7 + 7 * q = omega arith in
    let split : 2 ^ 7 * 2 ^ (7 * q) ≤ n = rw (e, pow-add 2 7 (7 * q)) at h in
    let some = pow_pos (7 * q) in
    let high : 128 ≤ n = omega (arith, split, some) in
    let rest = varint_least q (n / 128) (omega (arith, split)) in
    let more = ap length (shortest-more n high) in omega (arith, more, rest)

-- the length by the number's leading zeros
pub varint_bits : (n z : ℕ) → 128 ≤ n → n < 2 ^ 128 → z ≡ count_leading_zeros 128 n → (134 - z) / 7 ≡ length (shortest n)
varint_bits n z high fits e =
    let top = leading_top 128 n (omega (arith, high)) fits in
    let j = top.0 in
    let bits : z + suc j ≡ 128 = ap (λ (i : ℕ). i + suc j) e ∙ top.1 in
    let least = varint_least (j / 7) n (le_trans (pow_mono (omega arith)) top.2) in
    let most = length-shortest-le (j / 7) n (lt_of_lt_of_le top.3 (pow_mono (omega arith))) in omega (arith, bits, least, most)

-- up to 64 bits nine sixty-fourths of them, and one, are the groups of seven that are begun
groups_begun : (j : ℕ) → j < 64 → (suc j * 9 + 64) / 64 ≡ suc (j / 7)
groups_begun j small = omega (arith, small)

-- the length by the leading zeros among 64 bits, of which 0 has as many as 1
pub number_bits : (n m z : ℕ) → n < 2 ^ 64 → m ≡ max n 1 → z ≡ count_leading_zeros 64 m → ((64 - z) * 9 + 64) / 64 ≡ length (shortest n)
number_bits n m z fits same e =
    let top = leading_top 64 m (omega (arith, same)) (omega (arith, same, fits)) in
    let j = top.0 in
    let bits : z + suc j ≡ 64 = ap (λ (i : ℕ). i + suc j) e ∙ top.1 in
    let least = varint_least (j / 7) m (le_trans (pow_mono (omega arith)) top.2) in
    let most = length-shortest-le (j / 7) m (lt_of_lt_of_le top.3 (pow_mono (omega arith))) in
    let begun = groups_begun j (omega (arith, bits)) in
    let counted : 64 - z ≡ suc j = omega (arith, bits) in
    let long : ((64 - z) * 9 + 64) / 64 ≡ length (shortest m) = ap (λ (i : ℕ). (i * 9 + 64) / 64) counted ∙ omega (arith, begun, least, most) in
    long
    ∙ ⊎_elim
    (λ (low : n < 128). varint_last m (omega (arith, same, low)) ∙ sym (varint_last n low))
    (λ (high : 128 ≤ n). let kept : m ≡ n = omega (arith, same, high) in ap (λ (i : ℕ). length (shortest i)) kept)
    (cases_lt n 128)

-- the tags of a number are of one length
same_tags : (k v w : ℕ) → v < 8 → w < 8 → length (shortest (8 * k + v)) ≡ length (shortest (8 * k + w))
same_tags k v w hv hw =
    ⊎_elim
    (λ (low : k < 16). varint_last (8 * k + v) (omega (arith, low, hv)) ∙ sym (varint_last (8 * k + w) (omega (arith, low, hw))))
    (λ (high : 16 ≤ k).
    let first = ap length (shortest-more (8 * k + v) (omega (arith, high))) in
    let second = ap length (shortest-more (8 * k + w) (omega (arith, high))) in
    let same : (8 * k + v) / 128 ≡ (8 * k + w) / 128 = omega (arith, hv, hw) in
    let rest = ap (λ (i : ℕ). length (shortest i)) same in omega (arith, first, second, rest))
    (cases_lt k 16)

pub tag_size : (k tag n w : ℕ) → tag ≡ k → n ≡ length (shortest (tag * 8 + 1)) → w < 8 → n ≡ length (shortest (8 * k + w))
tag_size k tag n w e h small =
    let begin : tag * 8 + 1 ≡ 8 * k + 1 = omega (arith, e) in h ∙ ap (λ (i : ℕ). length (shortest i)) begin ∙ same_tags k 1 w (omega arith) small

-- a length that is given is the length, or it is the greatest that can be given
pub sealed_size : (a n size : ℕ) → size ≡ capped n → min ((a + length (shortest size)) + size) (2 ^ 128 - 1) ≡ capped ((a + length (shortest n)) + n)
sealed_size a n size e =
    ⊎_elim
    (λ (low : n < 2 ^ 128 - 1). let same : size ≡ n = omega (arith, e, low) in ap (λ (i : ℕ). min ((a + length (shortest i)) + i) (2 ^ 128 - 1)) same)
    (λ (high : 2 ^ 128 - 1 ≤ n). omega (arith, e, high))
    (cases_lt n (2 ^ 128 - 1))

-- RECORDS ONE AFTER ANOTHER

pub unknowns_more :
    (xs : List (ℕ × Unknown)) (i : ℕ) (d : ℕ × Unknown) → i < length xs
    → length (shortest_records (records_of (drop i xs))) ≡ length (shortest_record (get_or xs i d).0 (payload_of (get_or xs i d).1)) + length (shortest_records (records_of (drop (i + 1) xs)))
unknowns_more xs i d h =
    ap (λ (ys : List (ℕ × Unknown)). length (shortest_records (records_of ys))) (drop_more xs i d h)
    ∙ length-append (shortest_record (get_or xs i d).0 (payload_of (get_or xs i d).1)) (shortest_records (records_of (drop (i + 1) xs)))

pub fixed32_size : (k n w : ℕ) → w ≡ length (shortest (8 * k + 5)) → w ≤ 10 → w + 4 ≡ capped (length (shortest_record k (fixed32 n)))
fixed32_size k n w e l =
    let size : length (shortest_record k (fixed32 n)) ≡ length (shortest (8 * k + 5)) + 4 = length-append (shortest (8 * k + 5)) (to_le_bytes w32 n) in
    omega (arith, size, e, l)

pub group_size :
    (k tag inside sum : ℕ) (rs : List Record) → tag ≡ length (shortest (8 * k + 3)) → tag ≡ length (shortest (8 * k + 4)) → inside ≡ capped (length (shortest_records rs))
    → sum ≡ min (tag * 2 + inside) (2 ^ 128 - 1) → sum ≡ capped (length (shortest_record k (group (group_of rs))))
group_size k tag inside sum rs first last g s =
    let size : length (shortest_record k (group (group_of rs))) ≡ (length (shortest (8 * k + 3)) + length (shortest_records rs)) + length (shortest (8 * k + 4)) =
    length-append (shortest (8 * k + 3) ++ shortest_records rs) (shortest (8 * k + 4)) ∙ ap (λ (n : ℕ). n + length (shortest (8 * k + 4))) (length-append (shortest (8 * k + 3)) (shortest_records rs)) in
    omega (arith, first, last, size, g, s)

pub unknowns_end : (xs : List (ℕ × Unknown)) (i total : ℕ) → length xs ≤ i → total < 2 ^ 128 → capped (total + length (shortest_records (records_of (drop i xs)))) ≡ capped (length (shortest_records (records_of xs))) → total ≡ capped (length (shortest_records (records_of xs)))
unknowns_end xs i total l small e =
    let none : length (shortest_records (records_of (drop i xs))) ≡ 0 = ap (λ (ys : List (ℕ × Unknown)). length (shortest_records (records_of ys))) (drop_of_length-le xs l) in
    omega (arith, none, e, small)

pub elements_end : (k : Kind) (xs : List Value) (i total : ℕ) → length xs ≤ i → total < 2 ^ 128 → capped (total + length (packed_bytes k (values_view (drop i xs)))) ≡ capped (length (packed_bytes k (values_view xs))) → total ≡ capped (length (packed_bytes k (values_view xs)))
elements_end k xs i total l small e =
    let none : length (packed_bytes k (values_view (drop i xs))) ≡ 0 = ap (λ (ys : List Value). length (packed_bytes k (values_view ys))) (drop_of_length-le xs l) in
    omega (arith, none, e, small)
