use Rattle.std.proofs.Common.{rules, position, ◌≡◌, ◌∷◌, ◌++◌, [], ℕ, Vec, Global, sym, ◌∙◌, ap, subst, length}
use Rattle.std.proofs.lemmas.List.{length-map, map-append}
use Rattle.std.specs.Str.{bytes_eq}
use Rattle.pb_names.specs.NameIndex.{IsIndex, IsPut, first_of, other_of, texts}
use Rattle.pb_names.proofs.NameIndexLemmas.{IsIndex-push}
use Rattle.pb_names.proofs.name_set.NameSet.push.Goals as goal

pub invariant_of-self-2 : goal.invariant_of-self-2
invariant_of-self-2 c =
    let names = texts c.self.inside.names.items in
    let name = c.args.name.items in
    let first = first_of c.self.inside.by_hash in
    let other = other_of c.self.inside.others in
    let size : c.len-index.result ≡ length names = search (rules, c.len-index.ensures, length-map) in
    let put : IsPut name (length names) first other (first_of c.put.new.by_hash) (other_of c.put.new.others) = subst (λ n. IsPut name n first other (first_of c.put.new.by_hash) (other_of c.put.new.others)) size c.in_ok-put.ensures.put in
    let more : names ++ name ∷ [] ≡ texts c.push_reserved.new.self.items = sym (map-append (λ (n : Vec ℕ Global). n.items) c.self.inside.names.items (c.args.name ∷ [])) ∙ ap (λ l. texts (l ++ c.args.name ∷ [])) (sym c.in_ok-reserve.ensures.items) ∙ ap texts (sym c.push_reserved.ensures.items) in
    subst (λ l. IsIndex l (first_of c.put.new.by_hash) (other_of c.put.new.others)) more (IsIndex-push names first other name c.self.invariant (ap (position (bytes_eq name)) c.self.view_is ∙ c.requires) (first_of c.put.new.by_hash) (other_of c.put.new.others) put)
