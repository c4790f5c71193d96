-- A set makes one pool or has one fault, so what was answered is all that may be.
use Rattle.std.proofs.Common.{All, arith, rules, sym, ◌∙◌}
use Rattle.std.proofs.lemmas.List.Elements.{All-from_get_or}
use Rattle.pb_wire.specs.Ranges.{IsByte}
use Rattle.pb_c.proofs.OneLenientSet.{one_lenient_set}
use Rattle.pb_c_handles.specs.Held.{types_held}
use Rattle.pb_c.specs.PoolFault.{TellsFault}
use Rattle.pb_c.specs.SetPool.{HasLenientFault, IsLenientSet, LenientSetFails, LenientSetMakes}
use Rattle.pb_c.proofs.Exact.{accepted, told}
use Rattle.pb_c.proofs.OneSetPool.{never_both, one_fault, one_types}
use Rattle.pb_c.proofs.StepBounds.{of_set}
use Rattle.pb_c.proofs.pool.link_lenient.mb_pool_link_lenient.Goals as goal

pub returns-clause-accepted : goal.returns-clause-accepted
returns-clause-accepted c =
    let set = c.args.set.now in
    let bytes : All IsByte set = All-from_get_or IsByte set 0 (λ i h. let fits = c.type_inv.set i in search (rules, fits)) in
    let one = one_lenient_set set bytes in
    accepted (LenientSetMakes set) (LenientSetFails set) (never_both (IsLenientSet set) (HasLenientFault set) one) c.link_leniently.result (types_held c.link_leniently.new.pool)
    (λ w. TellsFault w c.link_leniently.result c.args.fault.now c.link_leniently.new.fault c.args.path.now c.link_leniently.new.path c.args.refusal.now c.link_leniently.new.refusal c.args.text.now c.link_leniently.new.text)
    c.link_leniently.ensures.made c.link_leniently.ensures.refused (one_types (IsLenientSet set) (HasLenientFault set) one)

pub returns-clause-told : goal.returns-clause-told
returns-clause-told c =
    let set = c.args.set.now in
    let bytes : All IsByte set = All-from_get_or IsByte set 0 (λ i h. let fits = c.type_inv.set i in search (rules, fits)) in
    let one = one_lenient_set set bytes in
    told (LenientSetMakes set) (LenientSetFails set) (never_both (IsLenientSet set) (HasLenientFault set) one) c.link_leniently.result (types_held c.link_leniently.new.pool)
    (λ w. TellsFault w c.link_leniently.result c.args.fault.now c.link_leniently.new.fault c.args.path.now c.link_leniently.new.path c.args.refusal.now c.link_leniently.new.refusal c.args.text.now c.link_leniently.new.text)
    c.link_leniently.ensures.made c.link_leniently.ensures.refused (one_fault (IsLenientSet set) (HasLenientFault set) one)

pub returns-clause-steps : goal.returns-clause-steps
returns-clause-steps c is =
    let set = c.args.set.now in
    let bad = c.link_leniently.ensures.refused (λ done. omega (arith, is, done)) (λ memory. omega (arith, is, memory)) in
    of_set (IsLenientSet set) (HasLenientFault set) set (λ f h. h) c.args.fault.now c.link_leniently.new.fault c.args.path.now c.link_leniently.new.path bad.0 bad.1
    (sym bad.2.refusal.answer_is ∙ is) bad.2.bytes
