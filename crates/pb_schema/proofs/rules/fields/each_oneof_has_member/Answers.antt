use Rattle.std.proofs.Common.{◌≡◌, ◌<◌, ◌↔◌, ℕ, IsTrue, List, map, length, subst, string_bytes, arith}
use Rattle.std.specs.List.{AllByRecursion}
use Rattle.std.proofs.lemmas.List.{length-map}
use Rattle.pb_schema.specs.declared.types.Field.{Field}
use Rattle.pb_schema.specs.Loops.Members.{AreMembers}
use Rattle.pb_schema.specs.View.{field_view}
use Rattle.pb_schema.specs.Rules.{HasMember}
use Rattle.pb_schema.proofs.OrderLemmas.{iff_trans}
use Rattle.pb_schema.proofs.RuleLemmas.{members_all}
use Rattle.pb_schema.proofs.rules.fields.each_oneof_has_member.Goals as goal

pub returns : goal.returns
returns c =
    let fs = map field_view c.args.message.now.fields.items in
    let bits = c.in_ok-members.members.items in
    let n = c.len.result in
    let size : n ≡ length (map string_bytes c.args.message.now.oneofs.items) = omega (arith, length-map c.args.message.now.oneofs.items string_bytes, c.args.message.now.oneofs.ok.0, c.len.ensures) in
    let tested = subst (λ l. IsTrue c.all_set.result ↔ AllByRecursion IsTrue l) c.deref-2.ensures.value c.all_set.ensures in
    let all = members_all n fs bits (subst (λ (l : List Field). AreMembers n (map field_view l) bits) c.deref.ensures.value c.in_ok-members.ensures) in
    iff_trans tested (subst (λ (m : ℕ). AllByRecursion IsTrue bits ↔ ((o : ℕ) → o < m → HasMember o fs)) size all)
