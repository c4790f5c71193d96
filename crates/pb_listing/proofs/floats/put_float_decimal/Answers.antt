use Rattle.std.proofs.Common.{◌∙◌, sym}
use Rattle.std.specs.Prelude.{from_bits}
use Rattle.std.specs.Float.{binary32}
use Rattle.pb_listing.specs.FloatText.{IsDecimal}
use Rattle.pb_listing.proofs.DecimalLemmas.{nan_printed, number_printed}
use Rattle.pb_listing.proofs.MeantLemmas.{puts_known}
use Rattle.pb_listing.proofs.floats.put_float_decimal.Goals as goal

pub returns-then-is_nan : goal.returns-then-is_nan
returns-then-is_nan g c =
    puts_known (IsDecimal binary32 13 5 (from_bits binary32 c.args.bits))
    (nan_printed binary32 13 5 _ _ c.f32_from_bits_with_nan-number.ensures (sym c.is_nan.ensures.value ∙ c.if-is_nan.true)) c.put.ensures

pub returns-else-is_nan : goal.returns-else-is_nan
returns-else-is_nan g c =
    puts_known (IsDecimal binary32 13 5 (from_bits binary32 c.args.bits))
    (number_printed binary32 13 5 _ _ _ c.f32_from_bits_with_nan-number.ensures (sym c.is_nan.ensures.value ∙ c.if-is_nan.false) c.format.ensures.parses
    c.format.ensures.layout c.format.ensures.word)
    (rw c.as_bytes.ensures.value at c.put-else-is_nan.ensures)
