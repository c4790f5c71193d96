use Rattle.std.proofs.Common.{ℤ, Option, subst}
use Rattle.pb_json_read.specs.Scalars.{IsNamed, IsOnly}
use Rattle.pb_json_read.proofs.scalars.read_enum_name.Goals as goal

pub returns : goal.returns
returns c =
    let only = rw c.as_bytes.ensures.value at c.number_meant.ensures in
    subst (λ (o : Option ℤ). IsOnly (IsNamed o c.args.name.now) c.number_meant.result) c.number_in-named.ensures only
