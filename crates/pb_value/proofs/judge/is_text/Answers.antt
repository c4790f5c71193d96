use Rattle.std.proofs.lemmas.Str.{IsUtf8-string_bytes}
use Rattle.pb_value.proofs.judge.is_text.Goals as goal

pub returns-in-Text-clause-in_range : goal.returns-in-Text-clause-in_range
returns-in-Text-clause-in_range c = rw (c.in-Text.is) (λ _. IsUtf8-string_bytes c.args.text.now)
