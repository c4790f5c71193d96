use Rattle.std.proofs.Common.{◌≡◌, ◌∷◌, ◌++◌, [], not, sym, ◌∙◌, ap, Some, None, position, if◌then◌else◌}
use Rattle.std.specs.Str.{bytes_eq}
use Rattle.pb_names.proofs.NameIndexLemmas.{found_known, found_unknown, new_position}
use Rattle.pb_names.proofs.name_set.NameSet.add_full.Goals as goal

pub returns-in-Some-clause-is_new : goal.returns-in-Some-clause-is_new
returns-in-Some-clause-is_new c =
    let at : position (bytes_eq c.args.name.items) c.args.self.now ≡ Some c.in-Some.index = ap (λ x. position (bytes_eq x) c.args.self.now) (sym c.deref.ensures.value) ∙ sym c.index_of.ensures ∙ c.in-Some.is in
    ap not (sym (found_known c.args.name.items c.args.self.now c.in-Some.index at))

pub returns-in-Some-clause-names : goal.returns-in-Some-clause-names
returns-in-Some-clause-names c =
    let at : position (bytes_eq c.args.name.items) c.args.self.now ≡ Some c.in-Some.index = ap (λ x. position (bytes_eq x) c.args.self.now) (sym c.deref.ensures.value) ∙ sym c.index_of.ensures ∙ c.in-Some.is in
    ap (λ b. if b then c.args.self.now else c.args.self.now ++ c.args.name.items ∷ []) (sym (found_known c.args.name.items c.args.self.now c.in-Some.index at))

pub returns-in_ok-index-in-None-clause-index : goal.returns-in_ok-index-in-None-clause-index
returns-in_ok-index-in-None-clause-index c =
    let at : position (bytes_eq c.args.name.items) c.args.self.now ≡ None = ap (λ x. position (bytes_eq x) c.args.self.now) (sym c.deref.ensures.value) ∙ sym c.index_of.ensures ∙ c.in-None.is in
    ap (position (bytes_eq c.args.name.items)) c.in_ok-index-in-None.ensures.names ∙ new_position c.args.self.now (λ _. None) (λ _. None) c.args.name.items at ∙ ap Some (sym c.in_ok-index-in-None.ensures.index)

pub returns-in_ok-index-in-None-clause-is_new : goal.returns-in_ok-index-in-None-clause-is_new
returns-in_ok-index-in-None-clause-is_new c =
    let at : position (bytes_eq c.args.name.items) c.args.self.now ≡ None = ap (λ x. position (bytes_eq x) c.args.self.now) (sym c.deref.ensures.value) ∙ sym c.index_of.ensures ∙ c.in-None.is in
    ap not (sym (found_unknown c.args.name.items c.args.self.now at))

pub returns-in_ok-index-in-None-clause-names : goal.returns-in_ok-index-in-None-clause-names
returns-in_ok-index-in-None-clause-names c =
    let at : position (bytes_eq c.args.name.items) c.args.self.now ≡ None = ap (λ x. position (bytes_eq x) c.args.self.now) (sym c.deref.ensures.value) ∙ sym c.index_of.ensures ∙ c.in-None.is in
    c.in_ok-index-in-None.ensures.names ∙ ap (λ b. if b then c.args.self.now else c.args.self.now ++ c.args.name.items ∷ []) (sym (found_unknown c.args.name.items c.args.self.now at))
