use Rattle.std.proofs.Common.{◌≤◌, arith, refl, rules}
use Rattle.std.proofs.lemmas.List.Elements.{All-from_get_or, recursion_from_All}
use Rattle.pb_wire.specs.Fault.{fault}
use Rattle.pb_wire.specs.Limits.{full}
use Rattle.pb_wire.specs.Ranges.{AreBytes, IsByte}
use Rattle.pb_value.proofs.ValueLemmas.{derived_is_well_formed}
use Rattle.pbtool_command.proofs.check.judge.Goals as goal

pub returns-in-Ok-clause-valid : goal.returns-in-Ok-clause-valid
returns-in-Ok-clause-valid c =
    let ok = c.in-Ok.ensures.ok in
    let bytes : AreBytes c.args.bytes.now =
    recursion_from_All IsByte c.args.bytes.now (All-from_get_or IsByte c.args.bytes.now 0 (λ i h. let fits = c.type_inv.bytes i in search (rules, fits))) in
    (ok.0, derived_is_well_formed c.args.pool.now c.messages-types.ensures.rules c.args.message_type.0 full.depth c.args.bytes.now ok.0 (omega arith) bytes ok.1.derives, ok.1)

pub returns-in-Err-Fault-clause-refused : goal.returns-in-Err-Fault-clause-refused
returns-in-Err-Fault-clause-refused c =
    (fault c.in-Err-Fault.byte c.in-Err-Fault.path.items c.in-Err-Fault.cause, rw c.in-Err-Fault.field-0-is at c.in-Err-Fault.ensures.fault, refl)
