-- What writing shows of lists of unknown records.
use Rattle.std.proofs.Common.{◌≡◌, ℕ, zero, suc, ◌+◌, ◌<◌, List, [], ◌∷◌, ◌++◌, length, take, drop, get_or, sym, ap, ◌∙◌, arith, append_assoc}
use Rattle.std.proofs.lemmas.List.{take_more, drop_more}
use Rattle.pb_wire.specs.declared.unknown.Unknown.{Unknown}
use Rattle.pb_wire.specs.Record.{Record}
use Rattle.pb_wire.specs.Spell.{shortest_record, shortest_records}
use Rattle.pb_wire.specs.Ranges.{IsNumber, IsInRange, IsInRangeGroup, AreInRange}
use Rattle.pb_wire.specs.Writable.{IsWritable, AreWritable, IsWritableGroup}
use Rattle.pb_wire.specs.Record.{group_of}
use Rattle.pb_wire.specs.Unknown.{payload_of, records_of}
use Rattle.pb_wire.proofs.UnknownLemmas.{records_of-push}

pub writable_at :
    (xs : List (ℕ × Unknown)) (i : ℕ) (d : ℕ × Unknown) → i < length xs → AreWritable (records_of xs)
    → IsNumber (get_or xs i d).0 × IsWritable (payload_of (get_or xs i d).1)
writable_at [] i d h w = absurd (omega arith)
writable_at (x ∷ xs) zero d h w = (w.0, w.1)
writable_at (x ∷ xs) (suc i) d h w = writable_at xs i d (omega arith) w.2

AreWritable-push : (rs : List Record) (r : Record) → AreWritable rs → IsNumber r.number → IsWritable r.payload → AreWritable (rs ++ r ∷ [])
AreWritable-push [] r h n w = (n, w, tt)
AreWritable-push (q ∷ rs) r h n w = (h.0, h.1, AreWritable-push rs r h.2 n w)

pub writable_more :
    (xs : List (ℕ × Unknown)) (i : ℕ) (d : ℕ × Unknown) → i < length xs → AreWritable (records_of (take i xs))
    → IsNumber (get_or xs i d).0 × IsWritable (payload_of (get_or xs i d).1) → AreWritable (records_of (take (i + 1) xs))
writable_more xs i d h w one =
    rw (take_more xs i d h, records_of-push (take i xs) (get_or xs i d)) (AreWritable-push (records_of (take i xs)) _ w one.0 one.1)

AreInRange-push : (rs : List Record) (r : Record) → AreInRange rs → IsInRange r.payload → AreInRange (rs ++ r ∷ [])
AreInRange-push [] r h one = (one, tt)
AreInRange-push (q ∷ rs) r h one = (h.0, AreInRange-push rs r h.1 one)

pub in_range_more :
    (xs : List (ℕ × Unknown)) (i : ℕ) (d : ℕ × Unknown) → i < length xs → AreInRange (records_of (take i xs))
    → IsInRange (payload_of (get_or xs i d).1) → AreInRange (records_of (take (i + 1) xs))
in_range_more xs i d h ranges one =
    rw (take_more xs i d h, records_of-push (take i xs) (get_or xs i d)) (AreInRange-push (records_of (take i xs)) _ ranges one)

pub written_more :
    (xs : List (ℕ × Unknown)) (i : ℕ) (d : ℕ × Unknown) (old mid new : List ℕ) → i < length xs
    → new ≡ mid ++ shortest_record (get_or xs i d).0 (payload_of (get_or xs i d).1)
    → mid ++ shortest_records (records_of (drop i xs)) ≡ old → new ++ shortest_records (records_of (drop (i + 1) xs)) ≡ old
written_more xs i d old mid new h one before =
    ap (λ (z : List ℕ). z ++ shortest_records (records_of (drop (i + 1) xs))) one
    ∙ append_assoc mid (shortest_record (get_or xs i d).0 (payload_of (get_or xs i d).1)) (shortest_records (records_of (drop (i + 1) xs)))
    ∙ ap (λ (ys : List (ℕ × Unknown)). mid ++ shortest_records (records_of ys)) (sym (drop_more xs i d h)) ∙ before

pub writable_group : (rs : List Record) → AreWritable rs → IsWritableGroup (group_of rs)
writable_group [] h = tt
writable_group (r ∷ rs) h = (h.0, h.1, writable_group rs h.2)

pub group_writable : (rs : List Record) → IsWritableGroup (group_of rs) → AreWritable rs
group_writable [] h = tt
group_writable (r ∷ rs) h = (h.0, h.1, group_writable rs h.2)

pub wrote_three :
    (a b c d p q r : List ℕ) → b ≡ p → c ≡ q → d ≡ r → ((a ++ b) ++ c) ++ d ≡ a ++ ((p ++ q) ++ r)
wrote_three a b c d p q r e f g =
    ap (λ (z : List ℕ). z ++ d) (append_assoc a b c) ∙ append_assoc a (b ++ c) d
    ∙ ap (λ (z : List ℕ). a ++ ((z ++ c) ++ d)) e ∙ ap (λ (z : List ℕ). a ++ ((p ++ z) ++ d)) f ∙ ap (λ (z : List ℕ). a ++ ((p ++ q) ++ z)) g

pub in_range_group : (rs : List Record) → AreInRange rs → IsInRangeGroup (group_of rs)
in_range_group [] h = tt
in_range_group (r ∷ rs) h = (h.0, in_range_group rs h.1)
