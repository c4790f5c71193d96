-- Payloads that are listed as messages.
use Rattle.std.proofs.Common.{◌≡◌, ℕ, suc, ◌+◌, ◌<◌, ◌≤◌, List, [], ◌∷◌, ◌++◌, length, refl, sym, ap, ◌∙◌, subst, arith, append_assoc, append-nil, length-append, add-one, ap₂, codes, decimal, inl, inr, ◌-◌}
use Rattle.std.specs.Prelude.{◌==◌, false, None, Some, Ok, Err}
use Rattle.pb_wire.specs.Record.{Payload, Record, group_of}
use Rattle.pb_wire.specs.Record as wire
use Rattle.pb_wire.specs.Spell.{AreRecords}
use Rattle.pb_wire.specs.Varint.{EndsOnce}
use Rattle.pb_wire.specs.Exact.{Exactly, IsSomeText}
use Rattle.pb_wire.specs.Fault.{Fault}
use Rattle.pb_wire.specs.Grammar.{HasFault, IsText}
use Rattle.pb_wire.specs.Limits.{Bounds, full}
use Rattle.pb_wire.specs.RecordIter.{Gives, NextGives, Seen, all_ok, without_path}
use Rattle.pb_wire.specs.RecordIter as shown
use Rattle.pb_wire.specs.Rest.{Rest}
use Rattle.pb_wire.specs.Schema.{blank}
use Rattle.pb_wire.specs.declared.fault.WireFault.{WireFault}
use Rattle.pb_wire.specs.declared.iter.Payload as given
use Rattle.pb_listing.specs.Borrowed.{IsBorrowed, limits_inside}
use Rattle.pb_listing.specs.NestedListing.{AreNestedLines, AreRecordLines, IsMessage, a_group, a_message, a_varint, eight_bytes, four_bytes, more_lines, no_lines, other_bytes}
use Rattle.pb_listing.specs.RawListing.{line, record_lines}

-- ---- whether bytes are a list of records

-- what an iterator over bytes has left: only records, if the bytes are a list of records, and else records and then the fault
pub record AreLeft (limits : Bounds) (b : List ℕ) (s : Rest) : Type 0 where
  pub text : IsSomeText blank tt limits b → (xs : List (ℕ × Seen)) × Gives s (all_ok xs)
  pub fault : (f : Fault) → HasFault blank tt limits b f → (xs : List (ℕ × Seen)) × Gives s (all_ok xs ++ Err (without_path f) ∷ [])

module _ (limits : Bounds) (b : List ℕ) where
  -- a record came
  pub left_after : (s t : Rest) (y : ℕ × given.Payload) → AreLeft limits b s → NextGives s (Some (Ok y)) t → AreLeft limits b t
  left_after s t y left step = record { text = λ is. of_text (left.text is); fault = λ f has. of_fault f (left.fault f has) }
    where
      of_text : (xs : List (ℕ × Seen)) × Gives s (all_ok xs) → (xs : List (ℕ × Seen)) × Gives t (all_ok xs)
      of_text ([], gives) = let e = (step.first [] gives).1 in absurd (cc)
      of_text (x ∷ xs, gives) =
          let first = step.first (all_ok (x ∷ xs)) gives in
          let e = first.1 in
          let rest : all_ok xs ≡ first.0 = cc in
          (xs, subst (Gives t) (sym rest) first.2)

      of_fault :
          (f : Fault) → (xs : List (ℕ × Seen)) × Gives s (all_ok xs ++ Err (without_path f) ∷ []) → (xs : List (ℕ × Seen)) × Gives t (all_ok xs ++ Err (without_path f) ∷ [])
      of_fault f ([], gives) = let e = (step.first (Err (without_path f) ∷ []) gives).1 in absurd (cc)
      of_fault f (x ∷ xs, gives) =
          let first = step.first (all_ok (x ∷ xs) ++ Err (without_path f) ∷ []) gives in
          let e = first.1 in
          let rest : all_ok xs ++ Err (without_path f) ∷ [] ≡ first.0 = cc in
          (xs, subst (Gives t) (sym rest) first.2)

  -- a fault came
  pub no_text : (s t : Rest) (w : WireFault) → AreLeft limits b s → NextGives s (Some (Err w)) t → IsSomeText blank tt limits b → ⊥
  no_text s t w left step is = by (left.text is)
    where
      by : (xs : List (ℕ × Seen)) × Gives s (all_ok xs) → ⊥
      by ([], gives) = let e = (step.first [] gives).1 in cc
      by (x ∷ xs, gives) = let e = (step.first (all_ok (x ∷ xs)) gives).1 in cc

  -- no fault came
  pub some_text :
      (s t : Rest) → Exactly (IsSomeText blank tt limits b) (HasFault blank tt limits b) → AreLeft limits b s → NextGives s None t → IsSomeText blank tt limits b
  some_text s t told left step = elim told.either [ inl is ↦ is | inr has ↦ absurd (by has.0 (left.fault has.0 has.1)) ]
    where
      by : (f : Fault) → (xs : List (ℕ × Seen)) × Gives s (all_ok xs ++ Err (without_path f) ∷ []) → ⊥
      by f ([], gives) = let e = (step.first (Err (without_path f) ∷ []) gives).0 in cc
      by f (x ∷ xs, gives) = let e = (step.first (all_ok (x ∷ xs) ++ Err (without_path f) ∷ []) gives).0 in cc

-- ---- whether there is a record

has_byte : (b : List ℕ) → EndsOnce b → 1 ≤ length b
has_byte [] ends = absurd ends
has_byte (x ∷ xs) ends = omega arith

pub record_has_byte : (r : Record) (rs : List Record) (b : List ℕ) → AreRecords (r ∷ rs) b → 1 ≤ length b
record_has_byte r rs b (first, others, spelled, more, joined) =
    let tag = has_byte spelled.tag spelled.tagged.ends in
    let whole = ap length joined ∙ length-append first others in
    let part = ap length spelled.joined ∙ length-append spelled.tag spelled.body in
    omega (arith, tag, whole, part)

pub has_some : (xs : List ℕ) → false ≡ (length xs == 0) → 1 ≤ length xs
has_some [] some = absurd (cc)
has_some (x ∷ xs) some = omega arith

bounds : ℕ → ℕ → Bounds
bounds bytes depth = record { bytes = bytes; depth = depth }

-- the limits of what is inside one level more
pub inside_limits :
    (level bytes depth : ℕ) (l : Bounds) → l ≡ record { bytes = bytes; depth = depth } → bytes ≡ full.bytes → depth ≡ 100 - suc level
    → l ≡ limits_inside (suc level)
unfolding bounds
inside_limits level bytes depth l is b d = is ∙ ap₂ bounds b d

-- a list of records, if there are bytes, has one
pub some_record :
    (level : ℕ) (s : List ℕ) → 1 ≤ length s → level < 100 → IsSomeText blank tt (limits_inside (suc level)) s → IsMessage level s
some_record level s some low ([], text) = let none = ap length text.spelled in absurd (omega (arith, some, none))
some_record level s some low (r ∷ rs, text) = (low, (r, rs, text))

pub message_text : (level : ℕ) (s : List ℕ) → IsMessage level s → IsSomeText blank tt (limits_inside (suc level)) s
message_text level s (low, (r, rs, text)) = (r ∷ rs, text)

pub message_has_byte : (level : ℕ) (s : List ℕ) → IsMessage level s → 1 ≤ length s
message_has_byte level s (low, (r, rs, text)) = record_has_byte r rs s text.spelled

-- ---- lines

-- the lines of some records, and of the next
pub nested_more :
    (level : ℕ) (rs : List Record) (r : Record) (s t : List ℕ) → AreNestedLines level (group_of rs) s → AreRecordLines level r.number r.payload t
    → AreNestedLines level (group_of (rs ++ r ∷ [])) (s ++ t)
nested_more level [] r s t (no_lines e) is = more_lines {first = t} {rest = []} is (no_lines refl) (ap (λ (l : List ℕ). l ++ t) e ∙ sym (append-nil t))
nested_more level (d ∷ ds) r s t (more_lines {first = first} {rest = rest} h others e) is =
    more_lines {first = first} {rest = rest ++ t} h (nested_more level ds r rest t others is) (ap (λ (l : List ℕ). l ++ t) e ∙ append_assoc first rest t)

-- the lines of a record, by its payload
record_as : (level : ℕ) (r : Record) (number : ℕ) (p : Payload) (s : List ℕ) → number ≡ r.number → r.payload ≡ p → AreRecordLines level number p s → AreRecordLines level r.number r.payload s
record_as level r number p s same payload is =
    subst (λ (k : ℕ). AreRecordLines level k r.payload s) same (subst (λ (q : Payload). AreRecordLines level number q s) (sym payload) is)

-- the lines between which records are put: of a group
pub group_lines_of :
    (level number : ℕ) (r : Record) (rs : List Record) (inside : List ℕ) → number ≡ r.number → r.payload ≡ wire.group (group_of rs)
    → AreNestedLines (level + 1) (group_of rs) inside
    → AreRecordLines level r.number r.payload (line level (decimal number ++ codes " group {") ++ inside ++ line level (codes "}"))
group_lines_of level number r rs inside same payload is =
    record_as level r number (wire.group (group_of rs)) _ same payload
    (a_group {inside = inside} (subst (λ (l : ℕ). AreNestedLines l (group_of rs) inside) (add-one level) is) refl)

-- and of a message
pub message_lines_of :
    (level number : ℕ) (r : Record) (s : List ℕ) (first : Record) (rs : List Record) (inside : List ℕ) → number ≡ r.number → r.payload ≡ wire.len s → level < 100
    → IsText blank tt (limits_inside (suc level)) s (first ∷ rs) → AreNestedLines (level + 1) (group_of (first ∷ rs)) inside
    → AreRecordLines level r.number r.payload
    (line level (decimal number ++ codes " len " ++ decimal (length s) ++ codes " {") ++ inside ++ line level (codes "}"))
message_lines_of level number r s first rs inside same payload low text is =
    record_as level r number (wire.len s) _ same payload
    (a_message {inside = inside} {r = first} {rs = rs} low text (subst (λ (l : ℕ). AreNestedLines l (group_of (first ∷ rs)) inside) (add-one level) is) refl)

-- the lines of a payload that is no message
pub bytes_lines_of :
    (level number : ℕ) (r : Record) (s : List ℕ) → number ≡ r.number → r.payload ≡ wire.len s → ¬ IsMessage level s
    → AreRecordLines level r.number r.payload (record_lines [] level number (wire.len s))
bytes_lines_of level number r s same payload other = record_as level r number (wire.len s) _ same payload (other_bytes other refl)

-- the lines of a record without a payload of bytes
pub varint_lines_of :
    (level number n : ℕ) (r : Record) → IsBorrowed level r (number, shown.varint n)
    → AreRecordLines level r.number r.payload (record_lines [] level r.number r.payload)
varint_lines_of level number n r is =
    let payload = is.shown.payload in
    subst (λ (p : Payload). AreRecordLines level r.number p (record_lines [] level r.number p)) (sym payload) (a_varint refl)

pub eight_lines_of :
    (level number n : ℕ) (r : Record) → IsBorrowed level r (number, shown.fixed64 n)
    → AreRecordLines level r.number r.payload (record_lines [] level r.number r.payload)
eight_lines_of level number n r is =
    let payload = is.shown.payload in
    subst (λ (p : Payload). AreRecordLines level r.number p (record_lines [] level r.number p)) (sym payload) (eight_bytes refl)

pub four_lines_of :
    (level number n : ℕ) (r : Record) → IsBorrowed level r (number, shown.fixed32 n)
    → AreRecordLines level r.number r.payload (record_lines [] level r.number r.payload)
four_lines_of level number n r is =
    let payload = is.shown.payload in
    subst (λ (p : Payload). AreRecordLines level r.number p (record_lines [] level r.number p)) (sym payload) (four_bytes refl)
