use Rattle.std.proofs.Common.{arith, subst, sym}
use Rattle.pb_wire.specs.Exact.{IsSomeText}
use Rattle.pb_wire.specs.Limits.{Bounds}
use Rattle.pb_wire.specs.Schema.{blank}
use Rattle.pb_listing.proofs.NestedLemmas.{has_some, inside_limits, message_text, some_record}
use Rattle.pb_listing.proofs.nested.is_message.Goals as goal

pub returns-in-Some-clause-yes : goal.returns-in-Some-clause-yes
returns-in-Some-clause-yes c = λ yes.
    let s = c.args.bytes.now in
    let same = inside_limits c.args.level _ _ c.in-Some.limits c.in-Some.ensures.1 c.max_bytes.ensures.same (omega arith) in
    some_record c.args.level s (has_some s c.if-is_empty.ensures) c.requires
    (subst (λ (l : Bounds). IsSomeText blank tt l s) same (c.is_list_of_records.ensures.yes yes))

pub returns-in-Some-clause-no : goal.returns-in-Some-clause-no
returns-in-Some-clause-no c = λ other message.
    let s = c.args.bytes.now in
    let same = inside_limits c.args.level _ _ c.in-Some.limits c.in-Some.ensures.1 c.max_bytes.ensures.same (omega arith) in
    c.is_list_of_records.ensures.no other (subst (λ (l : Bounds). IsSomeText blank tt l s) (sym same) (message_text c.args.level s message))
