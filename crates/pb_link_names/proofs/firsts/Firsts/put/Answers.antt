use Rattle.std.proofs.Common.{◌≡◌, true, false, refl, sym, ◌∙◌, ap, subst, Some}
use Rattle.std.specs.BTreeMap.{Updates}
use Rattle.std.specs.Ordering.{nat_cmp}
use Rattle.pb_names.specs.NameHash.{name_hash}
use Rattle.pb_link_names.specs.Firsts.{is_kept_for_another, kept_at}
use Rattle.pb_link_names.proofs.FirstsLemmas.{put_among_others, put_for_hash}
use Rattle.pb_link_names.proofs.firsts.Firsts.put.Goals as goal

pub returns-in_ok-insert-clause-put : goal.returns-in_ok-insert-clause-put
returns-in_ok-insert-clause-put c =
    let another = ap (λ h. is_kept_for_another c.args.name.now (kept_at c.args.self.now h)) (sym c.name_hash-hash.ensures) ∙ sym c.is_kept_for_another.ensures ∙ c.if-is_kept_for_another.true in
    put_among_others c.args.self.now (record { by_hash = c.args.self.now.by_hash; others = c.insert.new.self }) c.args.name c.args.place refl another c.in_ok-insert.ensures.updates

pub returns-in_ok-insert-2-clause-put : goal.returns-in_ok-insert-2-clause-put
returns-in_ok-insert-2-clause-put c =
    let own = ap (λ h. is_kept_for_another c.args.name.now (kept_at c.args.self.now h)) (sym c.name_hash-hash.ensures) ∙ sym c.is_kept_for_another.ensures ∙ c.if-is_kept_for_another.false in
    let updates = subst (λ h. Updates nat_cmp c.args.self.now.by_hash c.insert-else-is_kept_for_another.new.self h (Some (c.args.name, c.args.place))) c.name_hash-hash.ensures c.in_ok-insert-2.ensures.updates in
    put_for_hash c.args.self.now (record { by_hash = c.insert-else-is_kept_for_another.new.self; others = c.args.self.now.others }) c.args.name c.args.place refl own updates
