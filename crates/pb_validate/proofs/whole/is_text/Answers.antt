use Rattle.std.proofs.Common.{◌∙◌, sym, arith}
use Rattle.std.proofs.lemmas.Bool.{MatchBool-at_true, ltb-true}
use Rattle.std.proofs.lemmas.Str.{IsUtf8-from_ascii}
use Rattle.pb_validate.proofs.whole.is_text.Goals.{then-bytes-lt-SHORT, else-bytes-lt-SHORT}
use Rattle.pb_validate.proofs.whole.is_text.Goals as goal

pub returns-then-is_ascii : goal.returns-then-is_ascii
returns-then-is_ascii c =
    elim c.if-bytes-lt-SHORT.branch [
      | then-bytes-lt-SHORT w ↦ λ e. IsUtf8-from_ascii c.args.bytes.now (MatchBool-at_true _ _ (sym w.value-is ∙ e) w.is_ascii.ensures.cases)
      | else-bytes-lt-SHORT w ↦ λ e. absurd (let short = ltb-true _ _ (sym w.value-is ∙ e) in omega (arith, short, w.if-bytes-lt-SHORT.false))
    ]
