-- Values as C says them: a kind and a number, with strings and bytes in a list beside them.
use Rattle.std.specs.Prelude.{List, Option, Some, ◌==◌, ◌||◌, if◌then◌else◌, option_map}
use Rattle.std.specs.List.{slice_get}
use Rattle.pb_schema.specs.Scalar.{float, double, enum, bytes}
use Rattle.pb_value.specs.Data.{Datum, scalar, message, empty}
use Rattle.pb_c_message.specs.declared.value.PlainValue.{PlainValue}
use Rattle.pb_c_message.specs.Places.{Bytes, int32_said, uint32_said, key_said}

-- Bits of a float and a double, the number of an enum's value, bytes by their index, a group or message without fields, and what a key may be.
abbrev pub value_said : List Bytes → PlainValue → Option Datum
value_said given v =
    if v.kind == 1 then Some (scalar (double v.number)) else
    (if v.kind == 2 then option_map (λ n. scalar (float n)) (uint32_said v.number) else
    (if v.kind == 10 || v.kind == 11 then Some (message empty) else
    (if v.kind == 12 then option_map (λ b. scalar (bytes b.now)) (slice_get given v.number) else
    (if v.kind == 14 then option_map (λ z. scalar (enum z)) (int32_said v.number) else option_map scalar (key_said given v.kind v.number)))))
