use Rattle.std.proofs.Common.{[], ◌∷◌, refl}
use Rattle.pb_graphs.proofs.FlatLemmas.{grows}
use Rattle.pb_graphs.proofs.flat.FlatGraph.push_target.Goals as goal

pub returns : goal.returns
returns c = grows c.args.self.now _ (c.args.target ∷ []) c.requires c.in_ok-push.ensures.items refl
