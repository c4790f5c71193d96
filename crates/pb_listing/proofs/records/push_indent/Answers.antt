use Rattle.std.proofs.Common.{◌≤◌, ◌*◌, ◌++◌, ◌∙◌, ap, arith, ℕ, List}
use Rattle.std.proofs.lemmas.List.{take-replicate}
use Rattle.pb_listing.proofs.records.push_indent.Goals as goal

pub returns-then-level-gt0-clause-after : goal.returns-then-level-gt0-clause-after
returns-then-level-gt0-clause-after c =
    let few : 2 * c.args.level ≤ 202 = omega (arith, c.requires.low) in
    c.push.ensures.after ∙ ap (λ (l : List ℕ). c.args.buffer.now ++ l) (take-replicate (2 * c.args.level) 202 32 few)
