-- Worked rows: floats in decimal, and payloads that are listed as messages.
use Rattle.std.proofs.Common.{ℕ, List, [], ◌∷◌, refl, codes, arith, lit<, lit≤}
use Rattle.std.specs.Prelude.{true, false}
use Rattle.std.specs.Float.{binary32, binary64, nan, inf}
use Rattle.std.specs.Fmt.{digits}
use Rattle.hex.specs.Hex.{encode_with}
use Rattle.pb_wire.specs.Record.{Record, varint, len}
use Rattle.pb_wire.specs.Spell.{Spells}
use Rattle.pb_wire.specs.Grammar.{IsText}
use Rattle.pb_wire.specs.Schema.{blank}
use Rattle.pb_wire.specs.Sound.{AllSound, Sound}
use Rattle.pb_listing.specs.Borrowed.{limits_inside}
use Rattle.pb_listing.specs.FloatText.{IsDecimal}
use Rattle.pb_listing.specs.NestedListing.{IsMessage, IsNestedListing, a_message, a_varint, more_lines, no_lines, other_bytes}
use Rattle.pb_listing.proofs.NestedLemmas.{message_has_byte}

-- FLOATS

not_a_number : IsDecimal binary32 13 5 nan (codes "nan")
not_a_number = refl

infinite : IsDecimal binary64 16 4 (inf false) (codes "inf")
infinite = refl

minus_infinite : IsDecimal binary64 16 4 (inf true) (codes "-inf")
minus_infinite = refl

-- PAYLOADS

abbrev a_varint_one : Record
a_varint_one = record { number = 1; payload = varint 1 }

-- 08 01 is a record
abbrev eight_one : List ℕ
eight_one = 0x08 ∷ 0x01 ∷ []

spelled : Spells a_varint_one eight_one
spelled = record {
  number = (lit< tt, lit< tt);
  tag = 0x08 ∷ [];
  tagged = record { size = lit≤ tt; ends = lit< tt; value = refl };
  body = 0x01 ∷ [];
  follows = (lit< tt, record { size = lit≤ tt; ends = lit< tt; value = refl });
  joined = refl;
}

is_text : IsText blank tt (limits_inside 1) eight_one (a_varint_one ∷ [])
is_text = record { size = lit≤ tt; spelled = (eight_one, [], spelled, refl, refl); sound = AllSound.one Sound.is_varint AllSound.none }

-- 0a 02 08 01
a_message_in_a_payload : IsNestedListing (record { number = 1; payload = len eight_one } ∷ []) (codes "1 len 2 {\n  1 varint 1\n}\n")
unfolding digits encode_with
a_message_in_a_payload =
    more_lines {first = codes "1 len 2 {\n  1 varint 1\n}\n"} {rest = []}
    (a_message {inside = codes "  1 varint 1\n"} {r = a_varint_one} {rs = []} (lit< tt) is_text
    (more_lines {first = codes "  1 varint 1\n"} {rest = []} (a_varint refl) (no_lines refl) refl) refl)
    (no_lines refl) refl

no_message : IsMessage 0 [] → ⊥
no_message h = let some = message_has_byte 0 [] h in omega (arith, some)

-- 0a 00
an_empty_payload : IsNestedListing (record { number = 1; payload = len [] } ∷ []) (codes "1 len 0\n")
unfolding digits encode_with
an_empty_payload = more_lines {first = codes "1 len 0\n"} {rest = []} (other_bytes no_message refl) (no_lines refl) refl

-- at the deepest level no payload is a message
too_deep : IsMessage 100 eight_one → ⊥
too_deep h = let low = h.0 in omega (arith, low)
