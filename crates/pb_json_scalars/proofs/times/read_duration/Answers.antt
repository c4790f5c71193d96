use Rattle.std.proofs.Common.{List, ℕ, eq-eqb, get_or, ap, ◌∙◌, true}
use Rattle.std.proofs.lemmas.List.{take_rest}
use Rattle.std.specs.Char.{is_ascii_digit}
use Rattle.std.specs.List.{prefix_len}
use Rattle.pb_json_scalars.specs.Clock.{unsigned_duration}
use Rattle.pb_json_scalars.proofs.times.read_duration.Goals as goal

pub returns-then-characters-eq45 : goal.returns-then-characters-eq45
returns-then-characters-eq45 c =
    rw (eq-eqb (get_or c.args.characters.now 0 0) 45 c.if-characters-eq45.true)
    (c.unsigned_duration.ensures ∙ ap (λ (l : List ℕ). unsigned_duration true (prefix_len is_ascii_digit l) l) (take_rest c.args.characters.now 1))
