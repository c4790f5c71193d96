use Rattle.std.proofs.Common.{◌≡◌, map, sym, subst}
use Rattle.std.specs.Prelude.{Bool}
use Rattle.std.specs.Bool.{Decides}
use Rattle.pb_schema.specs.View.{file_view}
use Rattle.pb_schema.proofs.PoolEq.{views_decide, files_decide}
use Rattle.pb_schema.proofs.pool.same.same_files.Goals as goal

pub returns : goal.returns
returns c =
    subst (λ (r : Bool). Decides r (map file_view c.args.a.now ≡ map file_view c.args.b.now)) (sym c.eq.ensures) (views_decide _ file_view files_decide c.args.a.now c.args.b.now)
