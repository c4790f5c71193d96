-- The part goes into its slot, which is what closing it makes of its parent.
use Rattle.std.proofs.Common.{sym, subst}
use Rattle.std.proofs.lemmas.Result.{on_ok_weaker}
use Rattle.pb_decode_parts.specs.Open.Parents.{Scope, Reached}
use Rattle.pb_decode_parts.specs.Open.PartView.{part_view}
use Rattle.pb_decode_parts.proofs.GroupLemmas.{part_closes}
use Rattle.pb_decode_parts.proofs.close.close_part.Goals as goal

pub returns-clause-closes : goal.returns-clause-closes
returns-clause-closes c =
    λ m depth levels base p0 q w parents inner group s closes.
    on_ok_weaker c.count_one.result
    (λ more. subst (λ (z : Scope). Reached c.args.pool.now m depth levels base p0 parents (part_view c.put_part.new.outer) z w) (sym more)
    (part_closes (part_view c.put_part.new.outer) s closes c.in_ok-put_part.ensures))
    c.count_one.ensures.more
