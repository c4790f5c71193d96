use Rattle.std.proofs.Common.{rules}
use Rattle.std.proofs.lemmas.List.Elements.{recursion_from_All, All-from_get_or}
use Rattle.pb_wire.specs.Ranges.{IsByte}
use Rattle.pb_canonical.proofs.ScalarLemmas.{bytes_written, bytes_fit}
use Rattle.pb_canonical.proofs.scalars.is_written_bytes.Goals as goal

pub returns : goal.returns
returns c = (
  λ e.
      bytes_written c.args.pool.now c.args.kind c.args.bytes.now
      (recursion_from_All IsByte c.args.bytes.now (All-from_get_or IsByte c.args.bytes.now 0 (λ i h. let fits = c.type_inv.bytes i in search (rules, fits))))
      (c.is_bytes.ensures.0 e),
  λ x. c.is_bytes.ensures.1 (bytes_fit c.args.pool.now c.args.kind c.args.bytes.now x),
)
