use Rattle.std.proofs.Common.{rules}
use Rattle.std.proofs.lemmas.List.Elements.{recursion_from_All, All-from_get_or}
use Rattle.pb_wire.specs.Ranges.{IsByte, AreBytes}
use Rattle.pb_canonical.proofs.SplitLemmas.{payload_range}
use Rattle.pb_canonical.proofs.scalars.scalar_first.Goals as goal

pub returns-in_ok-payload-in-2-clause-in_range : goal.returns-in_ok-payload-in-2-clause-in_range
returns-in_ok-payload-in-2-clause-in_range c =
    let range : AreBytes c.args.bytes.now = recursion_from_All IsByte c.args.bytes.now (All-from_get_or IsByte c.args.bytes.now 0 (λ i h. let fits = c.type_inv.bytes i in search (rules, fits))) in
    payload_range c.args.bytes.now c.in_ok-payload-in-2.payload.now c.in_ok-payload-in-2.rest.now range c.in_ok-payload-in-2.ensures.split
