use Rattle.std.proofs.Common.{arith, subst, sym}
use Rattle.pb_wire.specs.Exact.{IsSomeText}
use Rattle.pb_wire.specs.Limits.{Bounds}
use Rattle.pb_wire.specs.Schema.{blank}
use Rattle.pb_listing.proofs.NestedLemmas.{has_some}
use Rattle.pb_text.proofs.UnknownLemmas.{embedded_text, made_limits, some_record}
use Rattle.pb_text.proofs.embedded.is_embedded.Goals as goal

pub returns-in-Some-clause-yes : goal.returns-in-Some-clause-yes
returns-in-Some-clause-yes c = λ yes.
    let s = c.args.bytes.now in
    let same = made_limits c.args.levels _ _ c.in-Some.limits c.in-Some.ensures.1 c.max_bytes.ensures.same (omega arith) c.requires in
    some_record c.args.levels s (has_some s c.if-is_empty.ensures) (omega arith)
    (subst (λ (l : Bounds). IsSomeText blank tt l s) same (c.are_records.ensures.yes yes))

pub returns-in-Some-clause-no : goal.returns-in-Some-clause-no
returns-in-Some-clause-no c = λ other embedded.
    let s = c.args.bytes.now in
    let same = made_limits c.args.levels _ _ c.in-Some.limits c.in-Some.ensures.1 c.max_bytes.ensures.same (omega arith) c.requires in
    c.are_records.ensures.no other (subst (λ (l : Bounds). IsSomeText blank tt l s) (sym same) (embedded_text c.args.levels s embedded))
