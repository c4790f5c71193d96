use Rattle.std.proofs.Common.{ℕ, sym, ap, ◌∙◌, arith}
use Rattle.pb_json_text.specs.Loops.Machine.{finish}
use Rattle.pb_json_text.proofs.Steps.{end_at}
use Rattle.pb_json_text.proofs.bytes.next_byte.Goals as goal

pub returns-then-at-bytes-clause-fault : goal.returns-then-at-bytes-clause-fault
returns-then-at-bytes-clause-fault c m s =
    c.blanks_end-at.ensures.runs m s ∙ end_at c.args.bytes.now c.blanks_end-at.result m (let e = c.if-at-bytes.true in omega arith)
    ∙ ap (λ (n : ℕ). finish m n) (sym c.end.ensures.byte)
