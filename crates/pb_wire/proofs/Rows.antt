-- Small texts, their records and their faults, worked out by the rules.
use Rattle.std.proofs.Common.{◌≡◌, ◌≢◌, ℕ, ◌+◌, ◌*◌, ◌%◌, ◌^◌, ◌<◌, ◌≤◌, List, [], ◌∷◌, ◌++◌, length, drop, refl, sym, ap, ◌∙◌, arith}
use Rattle.std.proofs.Common.{subst, codes, Some, None, inl, lit<, lit≤}
use Rattle.std.specs.Fmt.{digits}
use Rattle.std.proofs.lemmas.List.Elements.{All-nil, All-cons, All-replicate}
use Rattle.pb_wire.specs.Varint.{IsVarint, EndsOnce, groups_value, shortest, shortest_within}
use Rattle.pb_wire.specs.Zigzag.{zigzag, unzigzag}
use Rattle.std.specs.Prelude.{pos, negsuc}
use Rattle.pb_wire.specs.Record.{varint, fixed64, len, group, fixed32, no_more, more, Record}
use Rattle.pb_wire.specs.Ranges.{IsNumber}
use Rattle.pb_wire.specs.Spell.{Spells, shortest_records}
use Rattle.pb_wire.specs.Fault.{Fault, fault, step, HasTag, IsHigh, VarintFault, FixedFault, LengthFault, TagFault}
use Rattle.pb_wire.specs.Schema.{blank, records}
use Rattle.pb_wire.specs.Sound.{Sound, AllSound}
use Rattle.pb_wire.specs.Grammar.{Bad, RecordFault, IsText, HasFault}
use Rattle.pb_wire.specs.declared.fault.Cause.TheVariants.{Truncated, PastEnd, VarintTooLong, TagTooLarge, NumberZero, BadType, StrayEnd, WrongEnd, LengthTooLarge, TooDeep, InputTooLarge}
use Rattle.pb_wire.specs.Inside.{first_varint, after_varint, named_length, front_within, records_spelled, records_inside}
use Rattle.pb_wire.specs.PathText.{path_text}
use Rattle.pb_wire.proofs.Places.{moves_nothing}

-- a tag of one byte
tag_here : (k w at : ℕ) (rest : List ℕ) → IsNumber k → w < 6 → 8 * k + w < 128 → HasTag (record { at = at; known = None; rest = (8 * k + w) ∷ rest }) k w (record { at = at + 1; known = None; rest = rest })
tag_here k w at rest is type small = record {
  tag = ((8 * k + w) ∷ [], record { size = lit≤ tt; ends = small; value = omega arith }, record { given = refl; within = tt; at = refl; known = refl });
  number = is;
  type = type;
}

-- a fault of the first record
first : {b : List ℕ} {f : Fault} {bytes depth : ℕ} → length b ≤ bytes → b ≢ [] → RecordFault blank (records tt) [] depth (record { at = 0; known = None; rest = b }) f → HasFault blank tt (record { bytes = bytes; depth = depth }) b f
first {b} fits some bad = HasFault.bad fits (Bad.at_record ([], refl, AllSound.none) (moves_nothing (record { at = 0; known = None; rest = b })) (λ h. cc, λ h. some) bad)

-- ---- numbers

shortest_of_minus_two : shortest 18446744073709551614 ≡ 0xfe ∷ 0xff ∷ 0xff ∷ 0xff ∷ 0xff ∷ 0xff ∷ 0xff ∷ 0xff ∷ 0xff ∷ 0x01 ∷ []
unfolding shortest shortest_within
shortest_of_minus_two = refl

an_overlong_varint : IsVarint 150 (0x96 ∷ 0x81 ∷ 0x00 ∷ [])
an_overlong_varint = record { size = lit≤ tt; ends = (lit≤ tt, (lit≤ tt, lit< tt)); value = refl }

-- the bits of a tenth byte above its lowest are dropped
the_greatest_varint : IsVarint 18446744073709551615 (0xff ∷ 0xff ∷ 0xff ∷ 0xff ∷ 0xff ∷ 0xff ∷ 0xff ∷ 0xff ∷ 0xff ∷ 0x7f ∷ [])
the_greatest_varint = record {
  size = lit≤ tt;
  ends = (lit≤ tt, (lit≤ tt, (lit≤ tt, (lit≤ tt, (lit≤ tt, (lit≤ tt, (lit≤ tt, (lit≤ tt, (lit≤ tt, lit< tt)))))))));
  value = refl;
}

-- of a tenth byte of 2 nothing is left
a_tenth_byte_of_two : IsVarint 9223372036854775807 (0xff ∷ 0xff ∷ 0xff ∷ 0xff ∷ 0xff ∷ 0xff ∷ 0xff ∷ 0xff ∷ 0xff ∷ 0x02 ∷ [])
a_tenth_byte_of_two = record {
  size = lit≤ tt;
  ends = (lit≤ tt, (lit≤ tt, (lit≤ tt, (lit≤ tt, (lit≤ tt, (lit≤ tt, (lit≤ tt, (lit≤ tt, (lit≤ tt, lit< tt)))))))));
  value = refl;
}

shortest_of_0 : shortest 0 ≡ 0x00 ∷ []
unfolding shortest shortest_within
shortest_of_0 = refl

shortest_of_127 : shortest 127 ≡ 0x7f ∷ []
unfolding shortest shortest_within
shortest_of_127 = refl

shortest_of_128 : shortest 128 ≡ 0x80 ∷ 0x01 ∷ []
unfolding shortest shortest_within
shortest_of_128 = refl

-- the ends of four bytes, and of eight
zigzag_of_the_greatest_32 : zigzag (pos 2147483647) ≡ 4294967294
zigzag_of_the_greatest_32 = refl

zigzag_of_the_least_32 : zigzag (negsuc 2147483647) ≡ 4294967295
zigzag_of_the_least_32 = refl

zigzag_of_the_greatest_64 : zigzag (pos 9223372036854775807) ≡ 18446744073709551614
zigzag_of_the_greatest_64 = refl

zigzag_of_the_least_64 : zigzag (negsuc 9223372036854775807) ≡ 18446744073709551615
zigzag_of_the_least_64 = refl

unzigzag_of_0 : unzigzag 0 ≡ pos 0
unzigzag_of_0 = refl

unzigzag_of_1 : unzigzag 1 ≡ negsuc 0
unzigzag_of_1 = refl

unzigzag_of_the_greatest : unzigzag 18446744073709551615 ≡ negsuc 9223372036854775807
unzigzag_of_the_greatest = refl

zigzag_of_minus_two : zigzag (negsuc 1) ≡ 3
zigzag_of_minus_two = refl

unzigzag_of_four : unzigzag 4 ≡ pos 2
unzigzag_of_four = refl

-- ---- accepted

overlong_is_read : IsText blank tt (record { bytes = 9; depth = 0 }) (0x08 ∷ 0x96 ∷ 0x81 ∷ 0x00 ∷ []) (record { number = 1; payload = varint 150 } ∷ [])
overlong_is_read = record {
  size = lit≤ tt;
  spelled = (
    0x08 ∷ 0x96 ∷ 0x81 ∷ 0x00 ∷ [],
    [],
    record {
      number = (lit< tt, lit< tt);
      tag = 0x08 ∷ [];
      tagged = record { size = lit≤ tt; ends = lit< tt; value = refl };
      body = 0x96 ∷ 0x81 ∷ 0x00 ∷ [];
      follows = (lit< tt, an_overlong_varint);
      joined = refl;
    },
    refl,
    refl,
  );
  sound = AllSound.one Sound.is_varint AllSound.none;
}

a_group_in_short : shortest_records (record { number = 20; payload = group (more 1 (varint 1) no_more) } ∷ []) ≡ 0xa3 ∷ 0x01 ∷ 0x08 ∷ 0x01 ∷ 0xa4 ∷ 0x01 ∷ []
unfolding shortest shortest_within
a_group_in_short = refl

each_type_in_short :
    shortest_records (
    record { number = 1; payload = varint 150 } ∷ record { number = 2; payload = fixed64 1 } ∷ record { number = 3; payload = len (0x07 ∷ 0x08 ∷ []) }
    ∷ record { number = 4; payload = fixed32 0x01020304 } ∷ []
    )
    ≡ 0x08 ∷ 0x96 ∷ 0x01 ∷ 0x11 ∷ 0x01 ∷ 0x00 ∷ 0x00 ∷ 0x00 ∷ 0x00 ∷ 0x00 ∷ 0x00 ∷ 0x00 ∷ 0x1a ∷ 0x02 ∷ 0x07 ∷ 0x08 ∷ 0x25 ∷ 0x04 ∷ 0x03 ∷ 0x02 ∷ 0x01 ∷ []
unfolding shortest shortest_within
each_type_in_short = refl

-- ---- refused

ends_right : (tag end : List ℕ) → 0x0b ∷ 0x14 ∷ [] ≡ tag ++ end → EndsOnce tag → EndsOnce end → groups_value end % 2 ^ 64 ≡ 12 → ⊥
ends_right [] end e once ends value = once
ends_right (a ∷ []) end e once ends value = omega (arith, subst (λ (b : List ℕ). groups_value b % 2 ^ 64 ≡ 12) (sym (ap (λ (b : List ℕ). drop 1 b) e)) value)
ends_right (a ∷ b ∷ []) end e once ends value = subst EndsOnce (sym (ap (λ (b : List ℕ). drop 2 b) e)) ends
ends_right (a ∷ b ∷ c ∷ cs) end e once ends value = omega (arith, ap (λ (b : List ℕ). length b) e)

-- a group of the number 1 with the end tag of the number 2
no_other_end : ¬ Spells (record { number = 1; payload = group no_more }) (0x0b ∷ 0x14 ∷ [])
no_other_end h =
    let (inside, end, none, ended, split) = h.follows in
    ends_right h.tag end (h.joined ∙ ap (λ (b : List ℕ). h.tag ++ b) (split ∙ ap (λ (b : List ℕ). b ++ end) none)) h.tagged.ends ended.ends ended.value

-- ---- faults

cut_in_a_tag : HasFault blank tt (record { bytes = 9; depth = 9 }) (0x80 ∷ []) (fault 1 [] Truncated)
cut_in_a_tag = first (lit≤ tt) (λ h. cc) (RecordFault.tag (TagFault.token (VarintFault.cut_short (lit< tt) (All-cons IsHigh _ [] (lit≤ tt) (All-nil IsHigh)) (λ h. cc) refl)))

-- a tag of ten bytes whose last one says that more follow
a_long_varint :
    HasFault blank tt (record { bytes = 10; depth = 9 }) (0x80 ∷ 0x80 ∷ 0x80 ∷ 0x80 ∷ 0x80 ∷ 0x80 ∷ 0x80 ∷ 0x80 ∷ 0x80 ∷ 0x80 ∷ [])
    (fault 0 [] VarintTooLong)
a_long_varint = first (lit≤ tt) (λ h. cc) (RecordFault.tag (TagFault.token (VarintFault.too_long (lit≤ tt) (All-replicate IsHigh 10 0x80 (lit≤ tt)) refl)))

cut_in_a_value : HasFault blank tt (record { bytes = 9; depth = 9 }) (0x08 ∷ 0x96 ∷ []) (fault 2 (step 1 [] ∷ []) Truncated)
cut_in_a_value =
    first (lit≤ tt) (λ h. cc)
    (RecordFault.varint (tag_here 1 0 0 (0x96 ∷ []) (lit< tt, lit< tt) (lit< tt) (lit< tt))
    (VarintFault.cut_short (lit< tt) (All-cons IsHigh _ [] (lit≤ tt) (All-nil IsHigh)) (λ h. cc) refl) refl)

behind_a_record :
    (k : ℕ) → IsNumber k → 8 * k < 128
    → HasFault blank tt (record { bytes = 9; depth = 9 }) ((8 * k) ∷ 0x01 ∷ 0x08 ∷ 0x96 ∷ []) (fault 4 (step 1 (record { number = k; payload = varint 1 } ∷ []) ∷ []) Truncated)
behind_a_record k is small =
    HasFault.bad (lit≤ tt)
    (Bad.at_record {q = record { at = 2; known = None; rest = 0x08 ∷ 0x96 ∷ [] }} {front = (8 * k) ∷ 0x01 ∷ []} (
      record { number = k; payload = varint 1 } ∷ [],
      (
        (8 * k) ∷ 0x01 ∷ [],
        [],
        record {
          number = is;
          tag = (8 * k) ∷ [];
          tagged = record { size = lit≤ tt; ends = small; value = omega arith };
          body = 0x01 ∷ [];
          follows = (lit< tt, record { size = lit≤ tt; ends = lit< tt; value = refl });
          joined = refl;
        },
        refl,
        refl,
      ),
      AllSound.one Sound.is_varint AllSound.none,
    ) (record { given = refl; within = tt; at = refl; known = refl }) (λ h. cc, λ h g. cc)
    (RecordFault.varint (tag_here 1 0 2 (0x96 ∷ []) (lit< tt, lit< tt) (lit< tt) (lit< tt))
    (VarintFault.cut_short (lit< tt) (All-cons IsHigh _ [] (lit≤ tt) (All-nil IsHigh)) (λ h. cc) refl) refl))

-- the same after a record of that number, and after one of another number
cut_in_a_second_value : HasFault blank tt (record { bytes = 9; depth = 9 }) (0x08 ∷ 0x01 ∷ 0x08 ∷ 0x96 ∷ []) (fault 4 (record { number = 1; occurrence = 1 } ∷ []) Truncated)
cut_in_a_second_value = behind_a_record 1 (lit< tt, lit< tt) (lit< tt)

cut_behind_another : HasFault blank tt (record { bytes = 9; depth = 9 }) (0x10 ∷ 0x01 ∷ 0x08 ∷ 0x96 ∷ []) (fault 4 (record { number = 1; occurrence = 0 } ∷ []) Truncated)
cut_behind_another = behind_a_record 2 (lit< tt, lit< tt) (lit< tt)

-- the bytes of one record are no records of their own
cut_behind_bytes :
    HasFault blank tt (record { bytes = 9; depth = 9 }) (0x0a ∷ 0x02 ∷ 0x01 ∷ 0x07 ∷ 0x08 ∷ 0x96 ∷ [])
    (fault 6 (record { number = 1; occurrence = 1 } ∷ []) Truncated)
cut_behind_bytes =
    HasFault.bad (lit≤ tt)
    (Bad.at_record {q = record { at = 4; known = None; rest = 0x08 ∷ 0x96 ∷ [] }} {front = 0x0a ∷ 0x02 ∷ 0x01 ∷ 0x07 ∷ []} (
      record { number = 1; payload = len (0x01 ∷ 0x07 ∷ []) } ∷ [],
      (
        0x0a ∷ 0x02 ∷ 0x01 ∷ 0x07 ∷ [],
        [],
        record {
          number = (lit< tt, lit< tt);
          tag = 0x0a ∷ [];
          tagged = record { size = lit≤ tt; ends = lit< tt; value = refl };
          body = 0x02 ∷ 0x01 ∷ 0x07 ∷ [];
          follows = (lit< tt, 0x02 ∷ [], record { size = lit≤ tt; ends = lit< tt; value = refl }, refl);
          joined = refl;
        },
        refl,
        refl,
      ),
      AllSound.one (Sound.some_bytes refl) AllSound.none,
    ) (record { given = refl; within = tt; at = refl; known = refl }) (λ h. cc, λ h g. cc)
    (RecordFault.varint (tag_here 1 0 4 (0x96 ∷ []) (lit< tt, lit< tt) (lit< tt) (lit< tt))
    (VarintFault.cut_short (lit< tt) (All-cons IsHigh _ [] (lit≤ tt) (All-nil IsHigh)) (λ h. cc) refl) refl))

a_number_of_zero : HasFault blank tt (record { bytes = 9; depth = 9 }) (0x07 ∷ []) (fault 0 [] NumberZero)
a_number_of_zero =
    first (lit≤ tt) (λ h. cc)
    (RecordFault.tag (TagFault.number_zero {n = 7} {q = record { at = 1; known = None; rest = [] }}
    (0x07 ∷ [], record { size = lit≤ tt; ends = lit< tt; value = refl }, record { given = refl; within = tt; at = refl; known = refl }) (lit< tt) refl))

-- the number 0 in an overlong tag
an_overlong_number_of_zero : HasFault blank tt (record { bytes = 9; depth = 9 }) (0x80 ∷ 0x00 ∷ []) (fault 0 [] NumberZero)
an_overlong_number_of_zero =
    first (lit≤ tt) (λ h. cc)
    (RecordFault.tag (TagFault.number_zero {n = 0} {q = record { at = 2; known = None; rest = [] }}
    (0x80 ∷ 0x00 ∷ [], record { size = lit≤ tt; ends = (lit≤ tt, lit< tt); value = refl }, record { given = refl; within = tt; at = refl; known = refl }) (lit< tt) refl))

a_wire_type_of_seven : HasFault blank tt (record { bytes = 9; depth = 9 }) (0x0f ∷ []) (fault 0 [] BadType)
a_wire_type_of_seven =
    first (lit≤ tt) (λ h. cc)
    (RecordFault.tag (TagFault.bad_type {n = 15} {q = record { at = 1; known = None; rest = [] }}
    (0x0f ∷ [], record { size = lit≤ tt; ends = lit< tt; value = refl }, record { given = refl; within = tt; at = refl; known = refl })
    (lit≤ tt) (lit< tt) (lit≤ tt) refl))

an_end_alone : HasFault blank tt (record { bytes = 9; depth = 9 }) (0x0c ∷ []) (fault 0 [] StrayEnd)
an_end_alone = first (lit≤ tt) (λ h. cc) (RecordFault.tag (TagFault.stray_end (tag_here 1 4 0 [] (lit< tt, lit< tt) (lit< tt) (lit< tt)) refl refl))

a_large_tag : HasFault blank tt (record { bytes = 9; depth = 9 }) (0x80 ∷ 0x80 ∷ 0x80 ∷ 0x80 ∷ 0x10 ∷ []) (fault 0 [] TagTooLarge)
a_large_tag =
    first (lit≤ tt) (λ h. cc)
    (RecordFault.tag (TagFault.too_large {n = 4294967296} {q = record { at = 5; known = None; rest = [] }} (
      0x80 ∷ 0x80 ∷ 0x80 ∷ 0x80 ∷ 0x10 ∷ [],
      record { size = lit≤ tt; ends = (lit≤ tt, (lit≤ tt, (lit≤ tt, (lit≤ tt, lit< tt)))); value = refl },
      record { given = refl; within = tt; at = refl; known = refl },
    ) (lit≤ tt) refl))

-- an end of another number than that of the group that is open
an_end_of_another : HasFault blank tt (record { bytes = 9; depth = 9 }) (0x0b ∷ 0x14 ∷ []) (fault 1 (step 1 [] ∷ []) WrongEnd)
an_end_of_another =
    first (lit≤ tt) (λ h. cc)
    (RecordFault.in_a_group (tag_here 1 3 0 (0x14 ∷ []) (lit< tt, lit< tt) (lit< tt) (lit< tt))
    (Bad.at_record ([], refl, AllSound.none) (moves_nothing (record { at = 1; known = None; rest = 0x14 ∷ [] })) (λ h. cc)
    (RecordFault.tag (TagFault.wrong_end {m = 1} (tag_here 2 4 1 [] (lit< tt, lit< tt) (lit< tt) (lit< tt)) refl (λ h. omega (arith, h)) refl)))
    refl)

-- and two groups down
a_wrong_end : HasFault blank tt (record { bytes = 9; depth = 9 }) (0x0b ∷ 0x13 ∷ 0x0c ∷ []) (fault 2 (step 1 [] ∷ step 2 [] ∷ []) WrongEnd)
a_wrong_end =
    first (lit≤ tt) (λ h. cc)
    (RecordFault.in_a_group (tag_here 1 3 0 (0x13 ∷ 0x0c ∷ []) (lit< tt, lit< tt) (lit< tt) (lit< tt))
    (Bad.at_record ([], refl, AllSound.none) (moves_nothing (record { at = 1; known = None; rest = 0x13 ∷ 0x0c ∷ [] })) (λ h. cc)
    (RecordFault.in_a_group (tag_here 2 3 1 (0x0c ∷ []) (lit< tt, lit< tt) (lit< tt) (lit< tt))
    (Bad.at_record ([], refl, AllSound.none) (moves_nothing (record { at = 2; known = None; rest = 0x0c ∷ [] })) (λ h. cc)
    (RecordFault.tag (TagFault.wrong_end {m = 2} (tag_here 1 4 2 [] (lit< tt, lit< tt) (lit< tt) (lit< tt)) refl (λ h. omega (arith, h)) refl)))
    refl)) refl)

a_group_too_deep : HasFault blank tt (record { bytes = 9; depth = 0 }) (0x0b ∷ []) (fault 0 (step 1 [] ∷ []) TooDeep)
a_group_too_deep = first (lit≤ tt) (λ h. cc) (RecordFault.group_too_deep (tag_here 1 3 0 [] (lit< tt, lit< tt) (lit< tt) (lit< tt)) refl refl)

a_large_length : HasFault blank tt (record { bytes = 9; depth = 9 }) (0x12 ∷ 0xff ∷ 0xff ∷ 0xff ∷ 0xff ∷ 0x0f ∷ []) (fault 1 (step 2 [] ∷ []) LengthTooLarge)
a_large_length =
    first (lit≤ tt) (λ h. cc)
    (RecordFault.length_of (tag_here 2 2 0 (0xff ∷ 0xff ∷ 0xff ∷ 0xff ∷ 0x0f ∷ []) (lit< tt, lit< tt) (lit< tt) (lit< tt)) tt
    (LengthFault.too_large {n = 4294967295} {q = record { at = 6; known = None; rest = [] }} (
      0xff ∷ 0xff ∷ 0xff ∷ 0xff ∷ 0x0f ∷ [],
      record { size = lit≤ tt; ends = (lit≤ tt, (lit≤ tt, (lit≤ tt, (lit≤ tt, lit< tt)))); value = refl },
      record { given = refl; within = tt; at = refl; known = refl },
    ) (lit≤ tt) refl) refl)

-- a length of 5, after which the input has one byte
a_length_past_the_end : HasFault blank tt (record { bytes = 9; depth = 9 }) (0x0a ∷ 0x05 ∷ 0x01 ∷ []) (fault 3 (step 1 [] ∷ []) Truncated)
a_length_past_the_end =
    first (lit≤ tt) (λ h. cc)
    (RecordFault.cut_payload (tag_here 1 2 0 (0x05 ∷ 0x01 ∷ []) (lit< tt, lit< tt) (lit< tt) (lit< tt)) (inl refl) (record {
      size = 5;
      payload = record { at = 2; known = None; rest = 0x01 ∷ [] };
      length_is = record {
        length_is = (0x05 ∷ [], record { size = lit≤ tt; ends = lit< tt; value = refl }, record { given = refl; within = tt; at = refl; known = refl });
        small = lit< tt;
        within = tt;
      };
      cut = lit< tt;
      fault_is = refl;
    }) refl)

-- the same in a frame whose end it passes
a_length_past_the_frame : Bad blank (records tt) 9 (record { at = 0; known = Some 3; rest = 0x0a ∷ 0x05 ∷ 0x01 ∷ [] }) (fault 1 (step 1 [] ∷ []) PastEnd)
a_length_past_the_frame =
    Bad.at_record ([], refl, AllSound.none) (moves_nothing (record { at = 0; known = Some 3; rest = 0x0a ∷ 0x05 ∷ 0x01 ∷ [] })) (λ h. cc, λ h. cc)
    (RecordFault.length_of {k = 1} {q = record { at = 1; known = Some 2; rest = 0x05 ∷ 0x01 ∷ [] }} (record {
      tag = (0x0a ∷ [], record { size = lit≤ tt; ends = lit< tt; value = refl }, record { given = refl; within = lit≤ tt; at = refl; known = refl });
      number = (lit< tt, lit< tt);
      type = lit< tt;
    }) tt
    (LengthFault.past_end {n = 5} {q = record { at = 2; known = Some 1; rest = 0x01 ∷ [] }} (
      0x05 ∷ [],
      record { size = lit≤ tt; ends = lit< tt; value = refl },
      record { given = refl; within = lit≤ tt; at = refl; known = refl },
    ) (lit< tt) (λ h. omega (arith, h)) refl) refl)

cut_in_four_bytes : HasFault blank tt (record { bytes = 9; depth = 9 }) (0x0d ∷ 0x01 ∷ 0x02 ∷ 0x03 ∷ []) (fault 4 (step 1 [] ∷ []) Truncated)
cut_in_four_bytes =
    first (lit≤ tt) (λ h. cc)
    (RecordFault.fixed32 (tag_here 1 5 0 (0x01 ∷ 0x02 ∷ 0x03 ∷ []) (lit< tt, lit< tt) (lit< tt) (lit< tt)) (FixedFault.cut_short tt (lit< tt) refl) refl)

-- a value that would pass the end of its frame, which is one byte further on
past_the_frame : Bad blank (records tt) 9 (record { at = 2; known = Some 2; rest = 0x08 ∷ 0x96 ∷ 0x01 ∷ [] }) (fault 3 (step 1 [] ∷ []) PastEnd)
past_the_frame =
    Bad.at_record ([], refl, AllSound.none) (moves_nothing (record { at = 2; known = Some 2; rest = 0x08 ∷ 0x96 ∷ 0x01 ∷ [] })) (λ h. cc, λ h. cc)
    (RecordFault.varint {k = 1} {q = record { at = 3; known = Some 1; rest = 0x96 ∷ 0x01 ∷ [] }} (record {
      tag = (0x08 ∷ [], record { size = lit≤ tt; ends = lit< tt; value = refl }, record { given = refl; within = lit≤ tt; at = refl; known = refl });
      number = (lit< tt, lit< tt);
      type = lit< tt;
    })
    (VarintFault.past_end (lit< tt) (All-cons IsHigh _ [] (lit≤ tt) (All-nil IsHigh)) refl refl) refl)

-- what is cut at the limit is too large
too_large_in_a_value : HasFault blank tt (record { bytes = 2; depth = 9 }) (0x08 ∷ 0x96 ∷ 0x01 ∷ []) (fault 2 [] InputTooLarge)
too_large_in_a_value =
    HasFault.bad_front (lit< tt)
    (Bad.at_record ([], refl, AllSound.none) (moves_nothing (record { at = 0; known = None; rest = 0x08 ∷ 0x96 ∷ [] })) (λ h. cc, λ h g. cc)
    (RecordFault.varint (tag_here 1 0 0 (0x96 ∷ []) (lit< tt, lit< tt) (lit< tt) (lit< tt))
    (VarintFault.cut_short (lit< tt) (All-cons IsHigh _ [] (lit≤ tt) (All-nil IsHigh)) (λ h. cc) refl) refl)) refl

-- ---- what lies inside a payload

abbrev inside : List Record
inside = record { number = 1; payload = varint 5 } ∷ []

inside_a_length : records_inside (len (0x08 ∷ 0x05 ∷ [])) ≡ inside
unfolding records_spelled front_within first_varint after_varint named_length
inside_a_length = refl

inside_a_group : records_inside (group (more 1 (varint 5) no_more)) ≡ inside
inside_a_group = refl

inside_a_number : records_inside (varint 5) ≡ []
inside_a_number = refl

-- ---- paths as they are printed

no_path : path_text [] ≡ codes "-"
no_path = refl

a_path : path_text (step 3 [] ∷ step 12 [] ∷ []) ≡ codes "3[0].12[0]"
unfolding digits
a_path = refl
