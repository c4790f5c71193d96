use Rattle.std.proofs.Common.{sym, ◌∙◌}
use Rattle.pb_json.proofs.PrintLemmas.{always_err}
use Rattle.pb_json.proofs.messages.put_judged.Goals as goal

pub returns-then-declares_any-clause-memory : goal.returns-then-declares_any-clause-memory
returns-then-declares_any-clause-memory g c = always_err c.put_from_memory.result (sym c.declares_any.ensures ∙ c.if-declares_any.true)
