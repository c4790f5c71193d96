use Rattle.std.proofs.Common.{ap, ◌&&◌}
use Rattle.pb_schema.proofs.NameSetLemmas.{IsSetOf-add}
use Rattle.pb_schema.proofs.names.set.AddedNames.add.Goals as goal

pub returns : goal.returns
returns c before was =
    IsSetOf-add c.args.self.now _ c.args.name.items before was c.in_ok-is_new.ensures.names (ap (λ b. c.args.self.now.differ && b) c.in_ok-is_new.ensures.is_new)
