use Rattle.std.proofs.Common.{◌∙◌, sym}
use Rattle.pb_json.proofs.RefusalLemmas.{first_held}
use Rattle.pb_json.proofs.judging.value_cause.Goals as goal

pub returns-in-Some : goal.returns-in-Some
returns-in-Some c = c.held_cause.ensures ∙ sym (first_held c.args.fields.now.entries _ _ c.in-Some.ensures.first)
