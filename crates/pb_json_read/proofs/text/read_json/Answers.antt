use Rattle.std.proofs.Common.{◌≡◌, ◌⊎◌, IfOk, IfErr, IsErrAnd, subst}
use Rattle.std.specs.Prelude.{MatchResult}
use Rattle.pb_value.specs.Data.{Message}
use Rattle.pb_json.specs.Given.{NamesGiven}
use Rattle.pb_json_read.specs.Answers.{IsReadBy, IsRefusedBy}
use Rattle.pb_json_read.specs.declared.error.JsonReadError.{JsonReadError}
use Rattle.pb_json_read.specs.Faults.{out_of_memory}
use Rattle.pb_json_read.proofs.text.read_json.Goals as goal

pub returns-clause-read : goal.returns-clause-read
returns-clause-read c =
    subst (λ (n : NamesGiven). IfOk c.read_json_by-2.result (λ m. IsReadBy c.args.pool.now c.args.rules n c.args.message_type.0 c.args.bytes.now m.body))
    c.none.ensures c.read_json_by-2.ensures.read

pub returns-clause-fault : goal.returns-clause-fault
returns-clause-fault c =
    subst (λ (n : NamesGiven). IfErr c.read_json_by-2.result (λ e. (e ≡ out_of_memory) ⊎ IsRefusedBy c.args.pool.now c.args.rules n c.args.message_type.0 c.args.bytes.now e))
    c.none.ensures c.read_json_by-2.ensures.fault

pub returns-clause-accepted : goal.returns-clause-accepted
returns-clause-accepted c =
    subst (λ (n : NamesGiven). (v : Message) → IsReadBy c.args.pool.now c.args.rules n c.args.message_type.0 c.args.bytes.now v
    → MatchResult c.read_json_by-2.result (λ m. m.body ≡ v) (λ e. e ≡ out_of_memory)) c.none.ensures c.read_json_by-2.ensures.accepted

pub returns-clause-refused : goal.returns-clause-refused
returns-clause-refused c =
    subst (λ (n : NamesGiven). (f : JsonReadError) → IsRefusedBy c.args.pool.now c.args.rules n c.args.message_type.0 c.args.bytes.now f
    → IsErrAnd c.read_json_by-2.result (λ e. (e ≡ out_of_memory) ⊎ (e ≡ f))) c.none.ensures c.read_json_by-2.ensures.refused
