-- Small inputs for a message with groups and closed enums, and their faults, worked out by the rules.
use Rattle.std.proofs.Common.{ℕ, ◌+◌, ◌*◌, ◌<◌, List, [], ◌∷◌, length, refl, arith, None, Some, lit<, lit≤}
use Rattle.std.proofs.lemmas.List.Elements.{All-nil, All-cons}
use Rattle.pb_wire.specs.Varint.{IsVarint}
use Rattle.pb_wire.specs.Record.{len}
use Rattle.pb_wire.specs.Ranges.{IsNumber}
use Rattle.pb_wire.specs.Schema.{a_varint}
use Rattle.pb_wire.specs.Schema as wire
use Rattle.pb_wire.specs.Limits.{Bounds}
use Rattle.pb_wire.specs.Fault.{Fault, fault, step, inside, Place, HasTag, HasLength, IsHigh, VarintFault, TagFault, text_at}
use Rattle.pb_wire.specs.Sound.{AllSound, AreElements, Sound, varint_element}
use Rattle.pb_wire.specs.Grammar.{Bad, RecordFault, HasFault}
use Rattle.pb_wire.specs.declared.fault.Cause.TheVariants.{Truncated, PastEnd, WrongEnd}
use Rattle.pb_wire.proofs.Places.{moves_nothing}
use Rattle.pb_schema.specs.Context.{a_message, schema_of}
use Rattle.pb_schema.proofs.Samples.{pool_q}

abbrev limits : Bounds
limits = record { bytes = 9; depth = 9 }

abbrev HasTheFault : List ℕ → Fault → Type 0
HasTheFault b f = HasFault (schema_of pool_q) (a_message 0) limits b f

-- a number of one byte
one_byte : (n : ℕ) → n < 128 → IsVarint n (n ∷ [])
one_byte n small = record { size = lit≤ tt; ends = small; value = omega arith }

-- the place of these bytes, with no known end
abbrev from : ℕ → List ℕ → Place
from at rest = record { at = at; known = None; rest = rest }

-- a tag of one byte
tag_here : (k w at : ℕ) (rest : List ℕ) → IsNumber k → w < 6 → 8 * k + w < 128 → HasTag (from at ((8 * k + w) ∷ rest)) k w (from (at + 1) rest)
tag_here k w at rest is type small = record {
  tag = ((8 * k + w) ∷ [], one_byte (8 * k + w) small, record { given = refl; within = tt; at = refl; known = refl });
  number = is;
  type = type;
}

-- a length of one byte
length_here : (n at : ℕ) (rest : List ℕ) → n < 128 → HasLength (from at (n ∷ rest)) n (from (at + 1) rest)
length_here n at rest small = record {
  length_is = (n ∷ [], one_byte n small, record { given = refl; within = tt; at = refl; known = refl });
  small = omega (arith, small);
  within = tt;
}

-- the group of the field 3 comes first, and has a message of its type, where this fault is
in_the_group :
    (b : List ℕ) (g : Fault) → length b < 9 → RecordFault (schema_of pool_q) (wire.in_group 3 (a_message 1)) [] 8 (from 1 b) g
    → HasTheFault (0x1b ∷ b) (inside (step 3 []) g)
in_the_group b g fits bad =
    HasFault.bad (omega (arith, fits))
    (Bad.at_record ([], refl, AllSound.none) (moves_nothing (text_at (0x1b ∷ b))) (λ h. cc, λ h e. cc)
    (RecordFault.in_a_group (tag_here 3 3 0 b (lit< tt, lit< tt) (lit< tt) (lit< tt))
    (Bad.at_record ([], refl, AllSound.none) (moves_nothing (from 1 b)) (λ h. cc) bad) refl))

cut_in_a_group : HasTheFault (0x1b ∷ 0x08 ∷ 0x96 ∷ []) (fault 3 (step 3 [] ∷ step 1 [] ∷ []) Truncated)
cut_in_a_group =
    in_the_group (0x08 ∷ 0x96 ∷ []) (fault 3 (step 1 [] ∷ []) Truncated) (lit< tt)
    (RecordFault.varint (tag_here 1 0 1 (0x96 ∷ []) (lit< tt, lit< tt) (lit< tt) (lit< tt))
    (VarintFault.cut_short (lit< tt) (All-cons IsHigh _ [] (lit≤ tt) (All-nil IsHigh)) (λ h. cc) refl) refl)

-- an end of another number
a_wrong_end : HasTheFault (0x1b ∷ 0x24 ∷ []) (fault 1 (step 3 [] ∷ []) WrongEnd)
a_wrong_end =
    in_the_group (0x24 ∷ []) (fault 1 [] WrongEnd) (lit< tt)
    (RecordFault.tag (TagFault.wrong_end {m = 3} (tag_here 4 4 1 [] (lit< tt, lit< tt) (lit< tt) (lit< tt)) refl (λ h. omega (arith, h)) refl))

-- a list in the group is read by the group's type
a_list_in_a_group : HasTheFault (0x1b ∷ 0x12 ∷ 0x01 ∷ 0x96 ∷ []) (fault 3 (step 3 [] ∷ step 2 [] ∷ []) PastEnd)
a_list_in_a_group =
    in_the_group (0x12 ∷ 0x01 ∷ 0x96 ∷ []) (fault 3 (step 2 [] ∷ []) PastEnd) (lit< tt)
    (RecordFault.in_a_list (tag_here 2 2 1 (0x01 ∷ 0x96 ∷ []) (lit< tt, lit< tt) (lit< tt) (lit< tt)) refl (length_here 1 2 (0x96 ∷ []) (lit< tt)) (
      [],
      record { at = 3; known = Some 1; rest = 0x96 ∷ [] },
      AreElements.no_elements,
      moves_nothing (record { at = 3; known = Some 1; rest = 0x96 ∷ [] }),
      (λ h. cc),
      VarintFault.past_end (lit< tt) (All-cons IsHigh _ [] (lit≤ tt) (All-nil IsHigh)) refl refl,
    ) refl)

-- two elements of a closed enum in one record, of which one isn't declared, are one record of its number
two_elements : AreElements a_varint (0x01 ∷ 0x07 ∷ [])
two_elements =
    AreElements.element {first = 0x01 ∷ []} {others = 0x07 ∷ []} (varint_element {n = 1} (one_byte 1 (lit< tt)))
    (AreElements.element {first = 0x07 ∷ []} {others = []} (varint_element {n = 7} (one_byte 7 (lit< tt))) AreElements.no_elements refl) refl

behind_two_elements : HasTheFault (0x2a ∷ 0x02 ∷ 0x01 ∷ 0x07 ∷ 0x2a ∷ 0x01 ∷ 0x96 ∷ []) (fault 6 (record { number = 5; occurrence = 1 } ∷ []) PastEnd)
behind_two_elements =
    HasFault.bad (lit≤ tt)
    (Bad.at_record {q = from 4 (0x2a ∷ 0x01 ∷ 0x96 ∷ [])} {front = 0x2a ∷ 0x02 ∷ 0x01 ∷ 0x07 ∷ []} (
      record { number = 5; payload = len (0x01 ∷ 0x07 ∷ []) } ∷ [],
      (
        0x2a ∷ 0x02 ∷ 0x01 ∷ 0x07 ∷ [],
        [],
        record {
          number = (lit< tt, lit< tt);
          tag = 0x2a ∷ [];
          tagged = one_byte 42 (lit< tt);
          body = 0x02 ∷ 0x01 ∷ 0x07 ∷ [];
          follows = (lit< tt, 0x02 ∷ [], one_byte 2 (lit< tt), refl);
          joined = refl;
        },
        refl,
        refl,
      ),
      AllSound.one (Sound.a_list refl two_elements) AllSound.none,
    ) (record { given = refl; within = tt; at = refl; known = refl }) (λ h. cc, λ h g. cc)
    (RecordFault.in_a_list (tag_here 5 2 4 (0x01 ∷ 0x96 ∷ []) (lit< tt, lit< tt) (lit< tt) (lit< tt)) refl (length_here 1 5 (0x96 ∷ []) (lit< tt)) (
      [],
      record { at = 6; known = Some 1; rest = 0x96 ∷ [] },
      AreElements.no_elements,
      moves_nothing (record { at = 6; known = Some 1; rest = 0x96 ∷ [] }),
      (λ h. cc),
      VarintFault.past_end (lit< tt) (All-cons IsHigh _ [] (lit≤ tt) (All-nil IsHigh)) refl refl,
    ) refl))
