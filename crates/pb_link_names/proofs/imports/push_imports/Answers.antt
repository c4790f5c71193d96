use Rattle.std.proofs.Common.{◌≡◌, ◌∙◌, [], List, ℕ, ℤ, Option, map, ap, sym, subst, arith}
use Rattle.std.specs.Prelude.{filter_map, option_and_then, string_bytes}
use Rattle.std.proofs.lemmas.Grind.{common_steps}
use Rattle.pb_declarations.specs.View.{file_view}
use Rattle.pb_graphs.specs.Flat.{Grows}
use Rattle.pb_graphs.proofs.FlatLemmas.{grows_none}
use Rattle.pb_link_names.specs.Firsts.{first_at}
use Rattle.pb_link_names.specs.Sees.{file_named, import_at}
use Rattle.pb_link_names.specs.Graphs.{target_at}
use Rattle.pb_link_names.proofs.GraphLemmas.{all_targets, public_targets, filter_alike}
use Rattle.pb_link_names.proofs.imports.push_imports.Goals as goal

pub returns-then-is_empty-clause-all : goal.returns-then-is_empty-clause-all
returns-then-is_empty-clause-all c files same =
    let t = first_at c.args.firsts.now in
    subst (λ l. Grows l c.args.all.now c.push_named.new.graph)
    (ap (λ l. filter_map t (map string_bytes l)) c.deref.ensures.value ∙ filter_alike t (file_named files) same (map string_bytes c.args.file.now.imports.items))
    c.in_ok-push_named.ensures

pub returns-then-is_empty-clause-public : goal.returns-then-is_empty-clause-public
returns-then-is_empty-clause-public c files same =
    let f = c.args.file.now in
    let h = c.if-is_empty.ensures in
    let g = c.is_empty.ensures in
    let none : f.public.items ≡ [] = grind (arith, common_steps, g, h, c.if-is_empty.true) in
    subst (λ l. Grows l c.args.public.now c.args.public.now) (sym (ap (filter_map (λ z. option_and_then (file_named files) (import_at (file_view f) z))) none)) (grows_none c.args.public.now)

pub returns-clause-all : goal.returns-clause-all
returns-clause-all c files same =
    let t = first_at c.args.firsts.now in
    let names = map string_bytes c.args.file.now.imports.items in
    let targets = c.in_ok-targets.ensures ∙ ap (λ l. map t (map string_bytes l)) c.deref-2.ensures.value in
    subst (λ l. Grows l c.args.all.now c.push_all.new.graph) (ap (filter_map (λ (o : Option ℕ). o)) (c.deref-3.ensures.value ∙ targets) ∙ all_targets t (file_named files) same names) c.in_ok-push_all.ensures

pub returns-clause-public : goal.returns-clause-public
returns-clause-public c files same =
    let t = first_at c.args.firsts.now in
    let names = map string_bytes c.args.file.now.imports.items in
    let targets = c.in_ok-targets.ensures ∙ ap (λ l. map t (map string_bytes l)) c.deref-2.ensures.value in
    subst (λ l. Grows l c.args.public.now c.push_public.new.graph) (
    ap (λ (l : List (Option ℕ)). filter_map (target_at l) c.deref-5.result.now) (c.deref-4.ensures.value ∙ targets)
    ∙ ap (λ (zs : List ℤ). filter_map (target_at (map t names)) zs) c.deref-5.ensures.value
    ∙ public_targets t (file_named files) same (file_view c.args.file.now) c.args.file.now.public.items
    )
    c.in_ok-push_public.ensures
