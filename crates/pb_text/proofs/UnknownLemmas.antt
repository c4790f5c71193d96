-- Unknown records.
use Rattle.std.proofs.Common.{◌≡◌, ℕ, ◌+◌, ◌-◌, ◌<◌, ◌≤◌, max, List, [], ◌∷◌, ◌++◌, length, drop, get_or, refl, sym, ap, ap₂, ◌∙◌, subst, arith, append_assoc, append-nil}
use Rattle.std.proofs.lemmas.List.{drop_more}
use Rattle.pb_wire.specs.Exact.{IsSomeText}
use Rattle.pb_wire.specs.Grammar.{IsText}
use Rattle.pb_wire.specs.Limits.{Bounds, full}
use Rattle.pb_wire.specs.Record.{Payload, Record, depth, group_depth, group_of, records_depth}
use Rattle.pb_wire.specs.Record as wire
use Rattle.pb_wire.specs.RecordIter as shown
use Rattle.pb_wire.specs.Schema.{blank}
use Rattle.pb_wire.specs.Unknown.{payload_of, records_of}
use Rattle.pb_wire.specs.declared.unknown.Unknown.{Unknown}
use Rattle.pb_listing.specs.Borrowed.{IsBorrowed, limits_inside}
use Rattle.pb_listing.proofs.Borrowing.{text_inside}
use Rattle.pb_text.specs.declared.form.Layout.{Layout}
use Rattle.pb_text.specs.Unknown.{AreRecordLines, AreRecordsLines, IsEmbedded, limits_with, more_lines, no_lines}

-- STORED RECORDS

abbrev pub records_depth_from : ℕ → List (ℕ × Unknown) → ℕ
records_depth_from i xs = group_depth (group_of (records_of (drop i xs)))

from_item : (xs : List (ℕ × Unknown)) (i : ℕ) (x : ℕ × Unknown) → i < length xs → x ≡ get_or xs i x → drop i xs ≡ x ∷ drop (i + 1) xs
from_item xs i x below is = drop_more xs i x below ∙ ap (λ (y : ℕ × Unknown). y ∷ drop (i + 1) xs) (sym is)

pub records_deep :
    (xs : List (ℕ × Unknown)) (i : ℕ) (x : ℕ × Unknown) → i < length xs → x ≡ get_or xs i x
    → records_depth_from i xs ≡ max (depth (payload_of x.1)) (records_depth_from (i + 1) xs)
records_deep xs i x below is = ap (λ (ys : List (ℕ × Unknown)). group_depth (group_of (records_of ys))) (from_item xs i x below is)

-- a record and those after it
pub records_join :
    (layout : Layout) (levels level : ℕ) (xs : List (ℕ × Unknown)) (i : ℕ) (x : ℕ × Unknown) → i < length xs → x ≡ get_or xs i x
    → (first rest : List ℕ) → AreRecordLines layout levels level x.0 (payload_of x.1) first
    → AreRecordsLines layout levels level (group_of (records_of (drop (i + 1) xs))) rest
    → AreRecordsLines layout levels level (group_of (records_of (drop i xs))) (first ++ rest)
records_join layout levels level xs i x below is first rest one others =
    subst (λ (ys : List (ℕ × Unknown)). AreRecordsLines layout levels level (group_of (records_of ys)) (first ++ rest)) (sym (from_item xs i x below is))
    (more_lines {first = first} {rest = rest} one others refl)

-- nothing is left
pub records_none :
    (layout : Layout) (levels level : ℕ) (xs : List (ℕ × Unknown)) → xs ≡ [] → AreRecordsLines layout levels level (group_of (records_of xs)) []
records_none layout levels level xs none =
    subst (λ (ys : List (ℕ × Unknown)). AreRecordsLines layout levels level (group_of (records_of ys)) []) (sym none) (no_lines refl)

-- records nest as deep as a group of them
pub depth_of_group : (rs : List Record) → records_depth rs ≡ group_depth (group_of rs)
depth_of_group [] = refl
depth_of_group (r ∷ rs) = ap (max (depth r.payload)) (depth_of_group rs)

-- BORROWED RECORDS

module _ (layout : Layout) where
  -- the lines of some records, and of the next
  pub embedded_more :
      (levels level : ℕ) (rs : List Record) (r : Record) (s t : List ℕ) → AreRecordsLines layout levels level (group_of rs) s
      → AreRecordLines layout levels level r.number r.payload t → AreRecordsLines layout levels level (group_of (rs ++ r ∷ [])) (s ++ t)
  embedded_more levels level [] r s t (no_lines e) is =
      more_lines {first = t} {rest = []} is (no_lines refl) (ap (λ (l : List ℕ). l ++ t) e ∙ sym (append-nil t))
  embedded_more levels level (d ∷ ds) r s t (more_lines {first = first} {rest = rest} h others e) is =
      more_lines {first = first} {rest = rest ++ t} h (embedded_more levels level ds r rest t others is)
      (ap (λ (l : List ℕ). l ++ t) e ∙ append_assoc first rest t)

  -- the lines of a record, by its payload
  pub record_as :
      (levels level : ℕ) (r : Record) (number : ℕ) (p : Payload) (s : List ℕ) → number ≡ r.number → r.payload ≡ p
      → AreRecordLines layout levels level number p s → AreRecordLines layout levels level r.number r.payload s
  record_as levels level r number p s same payload is =
      subst (λ (k : ℕ). AreRecordLines layout levels level k r.payload s) same
      (subst (λ (q : Payload). AreRecordLines layout levels level number q s) (sym payload) is)

-- the limits inside a group leave one level less
pub limits_below : (levels : ℕ) → levels ≤ 10 → 1 ≤ levels → limits_inside ((100 - levels) + 1) ≡ limits_with (levels - 1)
limits_below levels few some = let same : (100 - levels) + 1 ≡ 100 - (levels - 1) = omega arith in ap limits_inside same

-- the records inside a group
pub group_inside :
    (levels number : ℕ) (r : Record) (s : List ℕ) → levels ≤ 10 → IsBorrowed (100 - levels) r (number, shown.group s)
    → (rs : List Record) × (r.payload ≡ wire.group (group_of rs)) × (1 ≤ levels) × IsText blank tt (limits_with (levels - 1)) s rs
group_inside levels number r s few is =
    let inside = text_inside (100 - levels) number r s is in
    let low = inside.2 in
    let some : 1 ≤ levels = omega (arith, low) in
    (inside.0, inside.1, some, subst (λ (l : Bounds). IsText blank tt l s inside.0) (limits_below levels few some) inside.3)

-- BYTES

pub no_levels : (levels : ℕ) (s : List ℕ) → levels ≡ 0 → IsEmbedded levels s → ⊥
no_levels levels s none is = let some = is.0 in omega (arith, some, none)

bounds : ℕ → ℕ → Bounds
bounds bytes depth = record { bytes = bytes; depth = depth }

-- the limits that are made of these numbers
pub made_limits : (levels bytes depth : ℕ) (l : Bounds) → l ≡ record { bytes = bytes; depth = depth } → bytes ≡ full.bytes → depth ≡ levels → levels ≤ 10 → l ≡ limits_with levels
unfolding bounds
made_limits levels bytes depth l is b d few = let same : depth ≡ 100 - (100 - levels) = omega (arith, d, few) in is ∙ ap₂ bounds b same

pub some_record : (levels : ℕ) (s : List ℕ) → 1 ≤ length s → 0 < levels → IsSomeText blank tt (limits_with levels) s → IsEmbedded levels s
some_record levels s some low ([], text) = let none = ap length text.spelled in absurd (omega (arith, some, none))
some_record levels s some low (r ∷ rs, text) = (low, (r, rs, text))

pub embedded_text : (levels : ℕ) (s : List ℕ) → IsEmbedded levels s → IsSomeText blank tt (limits_with levels) s
embedded_text levels s (low, (r, rs, text)) = (r ∷ rs, text)
