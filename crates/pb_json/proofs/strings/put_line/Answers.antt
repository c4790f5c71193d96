use Rattle.std.proofs.Common.{◌≤◌, ◌*◌, arith, ℕ}
use Rattle.std.proofs.lemmas.List.{take-replicate}
use Rattle.pb_output.proofs.SinkLemmas.{puts_then}
use Rattle.pb_json.proofs.strings.put_line.Goals as goal

pub returns-in-Indented : goal.returns-in-Indented
returns-in-Indented g c =
    let few : 2 * c.args.indent ≤ 512 = omega (arith, c.requires) in
    let blank : ℕ = 32 in
    let blanks = take-replicate (2 * c.args.indent) 512 blank few in
    rw c.in-Indented.is (puts_then c.put.ensures (rw blanks at c.put-in-Indented.ensures))
