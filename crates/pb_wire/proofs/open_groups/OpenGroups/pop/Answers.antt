use Rattle.std.proofs.Common.{◌≡◌, ◌<◌, ◌-◌, length, reverse, take, ap, ◌∙◌, arith}
use Rattle.std.proofs.lemmas.List.{length-reverse, length-take-le}
use Rattle.pb_wire.proofs.Nesting.{drop-reverse}
use Rattle.pb_wire.proofs.open_groups.OpenGroups.pop.Goals as goal

pub returns : goal.returns
returns c =
    let within = c.self.invariant in
    let size : length (reverse (take c.self.inside.len c.self.inside.numbers)) ≡ c.self.inside.len =
    length-reverse (take c.self.inside.len c.self.inside.numbers) ∙ length-take-le c.self.inside.len c.self.inside.numbers (omega arith) in
    let some : 0 < c.self.inside.len = let n = ap length c.self.view_is in omega arith in
    rw (← c.self.view_is) (drop-reverse c.self.inside.numbers (c.self.inside.len - 1) c.self.inside.len (omega arith) (omega arith))
