use Rattle.std.proofs.Common.{◌≡◌, true, refl, sym, ◌∙◌, ap, subst}
use Rattle.std.specs.List.{each_same}
use Rattle.std.specs.Prelude.{is_some}
use Rattle.pb_names.specs.NameHash.{name_hash}
use Rattle.pb_names.specs.NameIndex.{IsPutAt, IsPutOther, first_of, other_of}
use Rattle.pb_names.proofs.NameIndexLemmas.{puts_other}
use Rattle.pb_names.proofs.name_set.put.Goals as goal

pub returns-in_ok-insert-clause-put : goal.returns-in_ok-insert-clause-put
returns-in_ok-insert-clause-put c =
    let name = c.args.name.now.items in
    let first = first_of c.args.by_hash.now in
    let same : c.in_ok-clone.field-0.items ≡ name = each_same name c.in_ok-clone.field-0.items c.in_ok-clone.ensures.cases.0 in
    let taken : is_some (first (name_hash name)) ≡ true = ap (λ x. is_some (first (name_hash x))) (sym c.deref.ensures.value) ∙ ap (λ h. is_some (first h)) (sym c.name_hash-hash.ensures) ∙ sym c.contains_key.ensures ∙ c.if-contains_key.true in
    let puts : IsPutOther name c.args.index (other_of c.args.others.now) (other_of c.insert.new.self) = subst (λ x. IsPutOther x c.args.index (other_of c.args.others.now) (other_of c.insert.new.self)) same (puts_other c.in_ok-clone.field-0.items c.args.others.now c.insert.new.self c.args.index c.in_ok-insert.ensures.updates) in
    subst (λ b. IsPutAt name c.args.index b first (other_of c.args.others.now) first (other_of c.insert.new.self)) (sym taken) ((λ h. refl), puts)
