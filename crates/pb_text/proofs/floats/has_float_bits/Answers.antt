use Rattle.std.proofs.Common.{◌∙◌, ap, sym, subst}
use Rattle.std.proofs.lemmas.Bool.{eqb-true}
use Rattle.std.specs.Prelude.{from_bits}
use Rattle.std.specs.Float.{binary32}
use lib.Dec.{T}
use lib.Ieee.Bits.{of_bits-to_bits}
use Rattle.pb_text.proofs.floats.has_float_bits.Goals as goal

pub returns : goal.returns
returns c = λ same.
    let number = c.args.number in
    let bits = sym c.f32_to_bits_with_nan.ensures ∙ eqb-true _ _ same in
    sym (of_bits-to_bits binary32 number (subst T (sym c.well_formed.0.1) tt)) ∙ ap (from_bits binary32) bits
