use Rattle.std.proofs.Common.{Some, rules, refl}
use Rattle.std.specs.Prelude.{pos}
use Rattle.pb_schema.specs.Scalar.{uint32}
use Rattle.pb_json_scalars.specs.Keys.{IsKeyText}
use Rattle.pb_json_read.proofs.ScalarLemmas.{only_some, ranged_only}
use Rattle.pb_json_read.proofs.keys.uint32_key.Goals as goal

pub returns-in-Some : goal.returns-in-Some
returns-in-Some c =
    only_some _ uint32 c.in-Some.number _ refl
    (ranged_only (λ n. IsKeyText c.args.characters.now (pos n)) _ (Some c.in-Some.number) c.in-Some.ensures.read (search rules) c.in-Some.ensures.all)

pub returns-in-None : goal.returns-in-None
returns-in-None c = λ x h. absurd (let e = c.in-None.ensures.all h.0 h.1.0 h.1.1 in cc)
