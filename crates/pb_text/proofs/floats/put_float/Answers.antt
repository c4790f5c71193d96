use Rattle.std.proofs.Common.{◌∙◌, ap, sym, Some}
use Rattle.std.specs.Prelude.{from_bits}
use Rattle.std.specs.Float.{binary32}
use Rattle.pb_listing.proofs.MeantLemmas.{puts_known}
use Rattle.pb_text.specs.Numbers.{IsFloatText}
use Rattle.pb_text.proofs.FloatLemmas.{nan_written, number_written, word_written}
use Rattle.pb_text.proofs.floats.put_float.Goals as goal

pub returns-then-is_nan : goal.returns-then-is_nan
returns-then-is_nan g c =
    puts_known (IsFloatText binary32 (from_bits binary32 c.args.bits))
    (nan_written binary32 _ _ c.f32_from_bits_with_nan-number.ensures (sym c.is_nan.ensures.value ∙ c.if-is_nan.true)) c.put.ensures

pub put_finite_float-requires-clause-plain : goal.put_finite_float-requires-clause-plain
put_finite_float-requires-clause-plain g c = rw c.as_bytes-shortest.ensures.value (c.format.ensures.plain (sym c.is_finite.ensures.value ∙ c.if-is_finite.true))

pub put_finite_float-requires-clause-read : goal.put_finite_float-requires-clause-read
put_finite_float-requires-clause-read g c = rw c.as_bytes-shortest.ensures.value (c.format.ensures.parses ∙ ap Some c.f32_from_bits_with_nan-number.ensures)

pub returns-then-is_finite : goal.returns-then-is_finite
returns-then-is_finite g c =
    let put = c.put_finite_float.ensures in (
      put.0,
      number_written binary32 _ _ put.0 c.f32_from_bits_with_nan-number.ensures (sym c.is_finite.ensures.value ∙ c.if-is_finite.true) put.1.0 put.1.1,
      put.2,
    )

pub returns-else-is_finite : goal.returns-else-is_finite
returns-else-is_finite g c =
    puts_known (IsFloatText binary32 (from_bits binary32 c.args.bits))
    (word_written binary32 _ _ _ c.f32_from_bits_with_nan-number.ensures (sym c.is_nan.ensures.value ∙ c.if-is_nan.false)
    (sym c.is_finite.ensures.value ∙ c.if-is_finite.false) (c.format.ensures.word (sym c.is_finite.ensures.value ∙ c.if-is_finite.false)))
    (rw c.as_bytes-shortest.ensures.value at c.put-else-is_finite.ensures)
