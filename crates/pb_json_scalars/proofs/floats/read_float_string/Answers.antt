use Rattle.std.proofs.Common.{◌≡◌, Option, Float, MatchOption, subst, sym, to_bits}
use Rattle.std.specs.Float.{binary32}
use Rattle.pb_json_scalars.specs.Numbers.{IsFloatText}
use Rattle.pb_json_scalars.proofs.floats.read_float_string.Goals as goal

pub returns-in-None-clause-all : goal.returns-in-None-clause-all
returns-in-None-clause-all c = λ bits is.
    let is_number : Option Float → Type 0 = λ o. MatchOption o (IsFloatText binary32 c.args.characters.now bits) (λ x. bits ≡ to_bits binary32 x) in
    c.read_float.ensures.all bits (subst is_number (sym c.in-None.ensures) is)
