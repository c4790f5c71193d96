use Rattle.std.proofs.Common.{rules}
use Rattle.std.specs.Prelude.{All}
use Rattle.std.proofs.lemmas.List.Elements.{All-from_get_or}
use Rattle.pb_wire.specs.Ranges.{IsByte}
use Rattle.pb_json.proofs.AnyLemmas.{opened_of, opened_pool}
use Rattle.pb_json.proofs.anys.open.Goals as goal

pub returns-clause-opened : goal.returns-clause-opened
returns-clause-opened c =
    let bytes : All IsByte c.args.bytes.now = All-from_get_or IsByte c.args.bytes.now 0 (λ i h. let fits = c.type_inv.bytes i in search (rules, fits)) in
    opened_of c.args.pool.now c.args.id.0 c.args.bytes.now bytes _ _ c.decode.ensures.of_type c.decode.ensures.value c.decode.ensures.fault c.opened.ensures

pub returns-clause-pool : goal.returns-clause-pool
returns-clause-pool c =
    let bytes : All IsByte c.args.bytes.now = All-from_get_or IsByte c.args.bytes.now 0 (λ i h. let fits = c.type_inv.bytes i in search (rules, fits)) in
    opened_pool c.args.pool.now c.args.id.0 c.args.bytes.now bytes _ _ c.decode.ensures.of_type c.opened.ensures
