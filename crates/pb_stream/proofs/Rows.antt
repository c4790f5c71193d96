-- Small inputs with the frame or the fault that they begin with, worked out by the rules.
use Rattle.std.proofs.Common.{◌≡◌, ℕ, ◌<◌, ◌≤◌, List, [], ◌∷◌, ◌++◌, length, refl, ap, arith, ◌-◌, Some, None, lit<, lit≤}
use Rattle.std.specs.Prelude.{pos}
use Rattle.std.proofs.lemmas.List.Elements.{All-nil, All-cons}
use Rattle.pb_wire.specs.Varint.{IsVarint, shortest, shortest_within}
use Rattle.pb_wire.specs.Record.{varint}
use Rattle.pb_wire.specs.Fault.{Fault, fault, step, IsHigh, Reads, VarintFault, text_at}
use Rattle.pb_wire.specs.Sound as sound
use Rattle.pb_wire.specs.Grammar.{Bad, RecordFault}
use Rattle.pb_wire.specs.Limits.{Bounds}
use Rattle.pb_wire.specs.Inside.{records_spelled, front_within, first_varint, after_varint, named_length}
use Rattle.pb_wire.specs.declared.fault.Cause.TheVariants.{Truncated, PastEnd, LengthTooLarge}
use Rattle.pb_wire.proofs.Places.{moves_nothing}
use Rattle.pb_schema.specs.declared.types.Kind.TheVariants as kind
use Rattle.pb_schema.specs.declared.types.Shape.TheVariants as shape
use Rattle.pb_schema.specs.Types.{Types}
use Rattle.pb_schema.specs.Scalar.{int32}
use Rattle.pb_value.specs.Data.{Message, no_fields, field, body, scalar}
use Rattle.pb_value.specs.Data as values
use Rattle.pb_value.specs.Value.{value, value_within}
use Rattle.pb_value.specs.Derives.{Text}
use Rattle.pb_stream.specs.Frame.{Frame, FrameFault}
use Rattle.pb_stream.specs.Taking.{IsInFrame, in_length, whole_length, in_text}
use Rattle.pb_stream.specs.Writing.{frame_of}

-- one type, with an int32 of the number 1
abbrev pool : Types
pool = record {
  files = [];
  messages = record { name = []; file = 0; parent = None; fields = record { name = []; number = 1; kind = kind.Int32; shape = shape.Implicit } ∷ []; oneofs = [] } ∷ [];
  enums = [];
}

abbrev limits : Bounds
limits = record { bytes = 100; depth = 1 }

abbrev holding : ℕ → Message
holding n = body (field 1 (values.one (scalar (int32 (pos n)))) no_fields) []

-- a length of one byte
one_byte : (n : ℕ) → n < 128 → IsVarint n (n ∷ [])
one_byte n small = record { size = lit≤ tt; ends = small; value = omega arith }

length_here : (n : ℕ) (rest : List ℕ) → n < 128 → Reads (text_at (n ∷ rest)) n (record { at = 1; known = None; rest = rest })
length_here n rest small = (n ∷ [], one_byte n small, record { given = refl; within = tt; at = refl; known = refl })

-- ---- frames

a_text : Text pool 0 limits (0x08 ∷ 0x96 ∷ 0x01 ∷ []) (holding 150)
unfolding value value_within records_spelled front_within first_varint after_varint named_length
a_text = record {
  size = lit≤ tt;
  derives = record {
    records = record { number = 1; payload = varint 150 } ∷ [];
    spelled = (
      0x08 ∷ 0x96 ∷ 0x01 ∷ [],
      [],
      record {
        number = (lit< tt, lit< tt);
        tag = 0x08 ∷ [];
        tagged = one_byte 8 (lit< tt);
        body = 0x96 ∷ 0x01 ∷ [];
        follows = (lit< tt, record { size = lit≤ tt; ends = (lit≤ tt, lit< tt); value = refl });
        joined = refl;
      },
      refl,
      refl,
    );
    sound = sound.one sound.is_varint sound.none;
    valued = refl;
  };
}

an_empty_text : Text pool 0 limits [] (body no_fields [])
unfolding value value_within
an_empty_text = record { size = lit≤ tt; derives = record { records = []; spelled = refl; sound = sound.none; valued = refl } }

first_frame : Frame pool 0 limits (0x03 ∷ 0x08 ∷ 0x96 ∷ 0x01 ∷ 0x00 ∷ 0x02 ∷ 0x08 ∷ []) (holding 150) (0x00 ∷ 0x02 ∷ 0x08 ∷ [])
first_frame = record { front = 0x03 ∷ []; text = 0x08 ∷ 0x96 ∷ 0x01 ∷ []; joined = refl; counted = one_byte 3 (lit< tt); derives = a_text }

second_frame : Frame pool 0 limits (0x00 ∷ 0x02 ∷ 0x08 ∷ []) (body no_fields []) (0x02 ∷ 0x08 ∷ [])
second_frame = record { front = 0x00 ∷ []; text = []; joined = refl; counted = one_byte 0 (lit< tt); derives = an_empty_text }

-- a length in more bytes than it needs
overlong_length : Frame pool 0 limits (0x83 ∷ 0x00 ∷ 0x08 ∷ 0x96 ∷ 0x01 ∷ []) (holding 150) []
overlong_length = record {
  front = 0x83 ∷ 0x00 ∷ [];
  text = 0x08 ∷ 0x96 ∷ 0x01 ∷ [];
  joined = refl;
  counted = record { size = lit≤ tt; ends = (lit≤ tt, lit< tt); value = refl };
  derives = a_text;
}

written : frame_of (0x08 ∷ 0x96 ∷ 0x01 ∷ []) ≡ 0x03 ∷ 0x08 ∷ 0x96 ∷ 0x01 ∷ []
unfolding shortest shortest_within
written = refl

empty_written : frame_of [] ≡ 0x00 ∷ []
unfolding shortest shortest_within
empty_written = refl

-- ---- faults

cut_in_the_length : FrameFault pool 0 limits (0x80 ∷ []) (fault 1 [] Truncated)
cut_in_the_length = FrameFault.no_length (λ h. cc) (VarintFault.cut_short (lit< tt) (All-cons IsHigh _ [] (lit≤ tt) (All-nil IsHigh)) (λ h. cc) refl)

-- a text that is above the limit, though it is there
above_the_limit : FrameFault pool 0 (record { bytes = 2; depth = 1 }) (0x03 ∷ 0x08 ∷ 0x96 ∷ 0x01 ∷ []) (fault 0 [] LengthTooLarge)
above_the_limit = FrameFault.too_large (length_here 3 (0x08 ∷ 0x96 ∷ 0x01 ∷ []) (lit< tt)) (lit< tt) refl

-- what begins with the tag of the number 1, after a length of one byte
a_value :
    {n : ℕ} {rest : List ℕ} {f g : Fault} → n < 128 → n ≤ 100 → 0 < n → VarintFault (record { at = 2; known = Some (n - 1); rest = rest }) g
    → f ≡ record g { path = step 1 [] ∷ g.path } → FrameFault pool 0 limits (n ∷ 0x08 ∷ rest) f
a_value {n} {rest} small within some bad is =
    FrameFault.in_text (length_here n (0x08 ∷ rest) small) within
    (Bad.at_record ([], refl, sound.none) (moves_nothing (record { at = 1; known = Some n; rest = 0x08 ∷ rest })) (λ h. let e : n ≡ 0 = cc in omega arith, λ h. absurd cc)
    (RecordFault.varint (record { tag = (0x08 ∷ [], one_byte 8 (lit< tt), record { given = refl; within = some; at = refl; known = refl }); number = (lit< tt, lit< tt); type = lit< tt }) bad is))

cut_in_the_text : FrameFault pool 0 limits (0x02 ∷ 0x08 ∷ []) (fault 2 (record { number = 1; occurrence = 0 } ∷ []) Truncated)
cut_in_the_text = a_value (lit< tt) (lit≤ tt) (lit< tt) (VarintFault.cut_short (lit< tt) (All-nil IsHigh) (λ h. cc) refl) refl

-- the text ends inside a value, whatever follows the frame
past_the_end : FrameFault pool 0 limits (0x01 ∷ 0x08 ∷ 0x05 ∷ []) (fault 2 (record { number = 1; occurrence = 0 } ∷ []) PastEnd)
past_the_end = a_value (lit< tt) (lit≤ tt) (lit< tt) (VarintFault.past_end (lit< tt) (All-nil IsHigh) refl refl) refl

-- ---- what may be taken

the_length_alone : IsInFrame limits (0x01 ∷ [])
the_length_alone = whole_length (one_byte 1 (lit< tt))

all_of_it : IsInFrame limits (0x01 ∷ 0x08 ∷ [])
all_of_it = in_text (0x08 ∷ []) refl (one_byte 1 (lit< tt)) (lit≤ tt) (lit≤ tt)

-- not a byte more
no_further : IsInFrame limits (0x01 ∷ 0x08 ∷ 0x05 ∷ []) → ⊥
no_further (in_length small (high, more)) = omega arith
no_further (whole_length h) = let e = h.ends in omega (arith, e.0)
no_further (in_text {n = n} {front = front} text e h within few) = judge front text e h few
  where
    judge : (front text : List ℕ) → 0x01 ∷ 0x08 ∷ 0x05 ∷ [] ≡ front ++ text → IsVarint n front → length text ≤ n → ⊥
    judge [] text e h few = h.ends
    judge (b ∷ []) text e h few =
        let rest : 0x08 ∷ 0x05 ∷ [] ≡ text = cc in let first : 0x01 ≡ b = cc in let size : 2 ≡ length text = ap length rest in let is = h.value in
        omega (arith, first, size, is, few)
    judge (b ∷ c ∷ bs) text e h few = let first : 0x01 ≡ b = cc in let ends = h.ends in omega (arith, first, ends.0)

-- nor any of the text where the length is above the limit
none_of_it : IsInFrame (record { bytes = 2; depth = 1 }) (0x03 ∷ 0x08 ∷ []) → ⊥
none_of_it (in_length small (high, more)) = omega arith
none_of_it (whole_length h) = let e = h.ends in omega (arith, e.0)
none_of_it (in_text {n = n} {front = front} text e h within few) = judge front text e h few
  where
    judge : (front text : List ℕ) → 0x03 ∷ 0x08 ∷ [] ≡ front ++ text → IsVarint n front → length text ≤ n → ⊥
    judge [] text e h few = h.ends
    judge (b ∷ []) text e h few = let first : 0x03 ≡ b = cc in let is = h.value in omega (arith, first, is, within)
    judge (b ∷ c ∷ bs) text e h few = let first : 0x03 ≡ b = cc in let ends = h.ends in omega (arith, first, ends.0)
