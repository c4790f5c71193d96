use Rattle.std.proofs.Common.{◌∙◌, ap, sym, Some}
use Rattle.std.specs.Prelude.{from_bits}
use Rattle.std.specs.Float.{binary64}
use Rattle.pb_listing.proofs.MeantLemmas.{puts_known}
use Rattle.pb_text.specs.Numbers.{IsFloatText}
use Rattle.pb_text.proofs.FloatLemmas.{nan_written, number_written, word_written}
use Rattle.pb_text.proofs.floats.put_double.Goals as goal

pub returns-then-is_nan : goal.returns-then-is_nan
returns-then-is_nan g c =
    puts_known (IsFloatText binary64 (from_bits binary64 c.args.bits))
    (nan_written binary64 _ _ c.f64_from_bits_with_nan-number.ensures (sym c.is_nan.ensures.value ∙ c.if-is_nan.true)) c.put.ensures

pub put_finite_double-requires-clause-plain : goal.put_finite_double-requires-clause-plain
put_finite_double-requires-clause-plain g c = rw c.as_bytes-shortest.ensures.value (c.format.ensures.plain (sym c.is_finite.ensures.value ∙ c.if-is_finite.true))

pub put_finite_double-requires-clause-read : goal.put_finite_double-requires-clause-read
put_finite_double-requires-clause-read g c = rw c.as_bytes-shortest.ensures.value (c.format.ensures.parses ∙ ap Some c.f64_from_bits_with_nan-number.ensures)

pub returns-then-is_finite : goal.returns-then-is_finite
returns-then-is_finite g c =
    let put = c.put_finite_double.ensures in (
      put.0,
      number_written binary64 _ _ put.0 c.f64_from_bits_with_nan-number.ensures (sym c.is_finite.ensures.value ∙ c.if-is_finite.true) put.1.0 put.1.1,
      put.2,
    )

pub returns-else-is_finite : goal.returns-else-is_finite
returns-else-is_finite g c =
    puts_known (IsFloatText binary64 (from_bits binary64 c.args.bits))
    (word_written binary64 _ _ _ c.f64_from_bits_with_nan-number.ensures (sym c.is_nan.ensures.value ∙ c.if-is_nan.false)
    (sym c.is_finite.ensures.value ∙ c.if-is_finite.false) (c.format.ensures.word (sym c.is_finite.ensures.value ∙ c.if-is_finite.false)))
    (rw c.as_bytes-shortest.ensures.value at c.put-else-is_finite.ensures)
