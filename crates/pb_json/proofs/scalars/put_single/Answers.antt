use Rattle.std.proofs.Common.{◌∙◌, sym}
use Rattle.std.specs.Prelude.{from_bits}
use Rattle.std.specs.Float.{binary32}
use Rattle.pb_json.specs.JsonText.{IsJsonText}
use Rattle.pb_json.specs.Mapping.{float_json}
use Rattle.pb_json.proofs.FloatLemmas.{finite_written, infinite_written, nan_written}
use Rattle.pb_json.proofs.PrintLemmas.{prints_known}
use Rattle.pb_json.proofs.scalars.put_single.Goals as goal

pub returns-then-is_nan : goal.returns-then-is_nan
returns-then-is_nan g c = λ layout indent.
    prints_known (IsJsonText layout indent (float_json binary32 (from_bits binary32 c.args.bits)))
    (nan_written layout indent binary32 _ _ c.f32_from_bits_with_nan-number.ensures (sym c.is_nan.ensures.value ∙ c.if-is_nan.true)) c.put_quoted.ensures

pub returns-then-is_finite : goal.returns-then-is_finite
returns-then-is_finite g c = λ layout indent.
    prints_known (IsJsonText layout indent (float_json binary32 (from_bits binary32 c.args.bits)))
    (finite_written layout indent binary32 _ _ _ c.f32_from_bits_with_nan-number.ensures (sym c.is_finite.ensures.value ∙ c.if-is_finite.true)
    c.format_finite.ensures.plain c.format_finite.ensures.parses c.format_finite.ensures.short) (rw c.as_bytes.ensures.value at c.put.ensures)

pub returns-else-is_finite : goal.returns-else-is_finite
returns-else-is_finite g c = λ layout indent.
    prints_known (IsJsonText layout indent (float_json binary32 (from_bits binary32 c.args.bits)))
    (infinite_written layout indent binary32 _ _ _ c.f32_from_bits_with_nan-number.ensures (sym c.is_nan.ensures.value ∙ c.if-is_nan.false)
    (sym c.is_finite.ensures.value ∙ c.if-is_finite.false) c.is_sign_negative.ensures) c.put_infinity.ensures
