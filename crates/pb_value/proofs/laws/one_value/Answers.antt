use Rattle.std.proofs.Common.{sym, ap, ◌∙◌}
use Rattle.pb_wire.proofs.Unique.{same_records}
use Rattle.pb_value.specs.Value.{value}
use Rattle.pb_value.proofs.laws.one_value.Goals as goal

pub returns : goal.returns
returns c =
    λ pool m d e b v w h g. h.valued ∙ ap (value pool m) (same_records h.records g.records b h.spelled g.spelled) ∙ sym g.valued
