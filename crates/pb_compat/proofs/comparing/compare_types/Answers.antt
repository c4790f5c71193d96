use Rattle.std.proofs.Common.{subst}
use Rattle.pb_compat.specs.Walk.{Follows}
use Rattle.pb_compat.proofs.NumberLemmas.{follow_all}
use Rattle.pb_compat.proofs.comparing.compare_types.Goals as goal

pub returns-clause-followed : goal.returns-clause-followed
returns-clause-followed c =
    follow_all c.args.old.now c.args.new.now (c.args.old_type.0, c.args.new_type.0) c.in_ok-numbers.numbers.items c.in_ok-numbers.ensures c.args.index c.args.pairs.now c.follow.new.self
    (subst (λ ns. Follows c.args.old.now c.args.new.now c.args.index (c.args.old_type.0, c.args.new_type.0) ns c.args.pairs.now c.follow.new.self) c.deref.ensures.value c.in_ok-follow.ensures)
