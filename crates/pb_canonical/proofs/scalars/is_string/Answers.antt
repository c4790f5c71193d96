use Rattle.std.proofs.Common.{refl}
use Rattle.std.proofs.lemmas.Bool.{MatchBool-at_true}
use Rattle.std.proofs.lemmas.Str.{IsUtf8-from_ascii}
use Rattle.pb_canonical.proofs.scalars.is_string.Goals as goal

pub returns-then-is_ascii : goal.returns-then-is_ascii
returns-then-is_ascii c = (λ _. IsUtf8-from_ascii c.args.bytes.now (MatchBool-at_true _ _ c.if-is_ascii.true c.is_ascii.ensures.cases), λ _. refl)
