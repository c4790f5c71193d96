use Rattle.std.proofs.Common.{◌≡◌, Some}
use Rattle.pb_json.specs.Answers.{refused_view}
use Rattle.pb_json.proofs.RefusalLemmas.{refused_below}
use Rattle.pb_json.proofs.error.JsonError.below.Goals as goal

pub returns-in-Refused : goal.returns-in-Refused
returns-in-Refused c = λ pool r h.
    let same : r ≡ Some (refused_view c.in-Refused.refusal) = rw c.in-Refused.is at h in
    refused_below pool c.args.number r _ c.below.result same (c.below.ensures pool)
