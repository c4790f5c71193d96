use Rattle.std.proofs.Common.{◌≤◌, ◌*◌, ℕ, List, arith, subst}
use Rattle.std.proofs.lemmas.List.{take-replicate}
use Rattle.pb_output.specs.Sink.{Puts}
use Rattle.pb_text.proofs.lines.put_indent.Goals as goal

pub returns-in-Lines : goal.returns-in-Lines
returns-in-Lines g c =
    let few : 2 * c.args.level ≤ 440 = omega (arith, c.requires) in
    rw c.in-Lines.is
    (subst (λ (s : List ℕ). Puts g.O.Output.written g.O.Output.failures c.args.out.now c.put.new.out c.args.sink.now c.put.new.self s)
    (take-replicate {X = ℕ} (2 * c.args.level) 440 32 few) c.put.ensures)
