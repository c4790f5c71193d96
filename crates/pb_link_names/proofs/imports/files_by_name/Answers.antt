use Rattle.std.proofs.Common.{◌≡◌, ◌-◌, ◌+◌, ◌<◌, ◌∙◌, Some, sym, List, ℕ, map, take, drop, length, get_or, false, true, ◌&&◌, not, ap, cond, subst, arith}
use Rattle.std.specs.Prelude.{string_bytes}
use Rattle.std.specs.String.{string_len}
use Rattle.std.specs.List.{position_from}
use Rattle.std.specs.Str.{bytes_eq}
use Rattle.std.proofs.lemmas.List.{length-map, length-set, get_or-set_same, get_or-set_other}
use Rattle.pb_schema.proofs.LookupLemmas.{get_viewed}
use Rattle.pb_declarations.specs.Decls.{DeclaredFile}
use Rattle.pb_declarations.specs.declared.decl.FileDecl.{FileDecl}
use Rattle.pb_declarations.specs.View.{file_view}
use Rattle.pb_link_names.specs.Firsts.{first_at}
use Rattle.pb_link_names.specs.Sees.{file_named}
use Rattle.pb_link_names.specs.Graphs.{is_file}
use Rattle.pb_link_names.proofs.FirstsLemmas.{firsts_more, position_from-first}
use Rattle.pb_link_names.proofs.GraphLemmas.{Marked, marked_more, all_marked, marks_alike, name_stands}
use Rattle.pb_link_names.proofs.imports.files_by_name.Goals as goal

pub overflow_sub-start : goal.overflow_sub-start
overflow_sub-start c =
    let size : c.len.result ≡ length (string_bytes c.index-files-index.result.name) = omega (arith, c.len.ensures ∙ ap (λ (f : FileDecl). string_len f.name) (sym c.index-files-index.is), c.index-files-index.result.name.bytes.ok.0) in
    (name_stands c.args.files.now c.loop-index.index c.index-files-index.result c.loop-index.end c.len.result (omega arith) c.loop-index.invariant.0 c.index-files-index.is c.loop-index.invariant.4 size).begins

pub loop-index-preserved : goal.loop-index-preserved
loop-index-preserved c =
    let F = map file_view c.args.files.now in
    let k = c.loop-index.index - 1 in
    let g = file_view c.index-files-index.result in
    let t = first_at c.loop-index.firsts in
    let held = c.unmark.new.marks.items in
    let at = get_viewed file_view c.args.files.now k c.index-files-index.result (omega arith) c.index-files-index.is in
    let end = c.loop-index.end in
    let start = end - c.len.result in
    let size : c.len.result ≡ length (string_bytes c.index-files-index.result.name) = omega (arith, c.len.ensures ∙ ap (λ (f : FileDecl). string_len f.name) (sym c.index-files-index.is), c.index-files-index.result.name.bytes.ok.0) in
    let stands = name_stands c.args.files.now c.loop-index.index c.index-files-index.result end c.len.result (omega arith) c.loop-index.invariant.0 c.index-files-index.is c.loop-index.invariant.4 size in
    let named : take (end - start) (drop start c.args.names.now) ≡ g.name = ap (λ (l : List ℕ). take (end - start) (drop start l)) c.requires ∙ stands.is in
    let inside : k < length held = omega (arith, c.unmark.ensures.size, c.loop-index.invariant.2) in
    let up : c.loop-index.index ≡ k + 1 = omega arith in (
      omega arith,
      λ name. firsts_more (λ (f : DeclaredFile). bytes_eq name f.name) F k c.loop-index.index g _ _ up at (c.loop-index.invariant.1 name) (c.in_ok-later.ensures.put name ∙ ap (λ (n : List ℕ). cond (bytes_eq name n) (Some k) (t name)) named),
      length-set held k true ∙ c.unmark.ensures.size ∙ c.loop-index.invariant.2,
      marked_more F t (first_at c.put.new.self) c.loop-index.marks.items _ k g at (λ name. c.in_ok-later.ensures.put name ∙ ap (λ (n : List ℕ). cond (bytes_eq name n) (Some k) (t name)) named)
          (get_or-set_same held k true false inside)
          (λ i ne. get_or-set_other held k i true false ne ∙ c.unmark.ensures.unmarked i ∙ ap (λ o. get_or c.loop-index.marks.items i false && not (is_file o i)) (c.in_ok-later.ensures.later ∙ ap t named))
          (subst (Marked F t c.loop-index.marks.items) up c.loop-index.invariant.3),
      stands.before,
      omega (arith, c.loop-index.invariant.5),
    )

pub returns-clause-named : goal.returns-clause-named
returns-clause-named c name =
    let t = λ (f : DeclaredFile). bytes_eq name f.name in
    let F = map file_view c.args.files.now in
    let done : c.loop-index.index ≡ 0 = omega arith in
    c.loop-index.invariant.1 name ∙ ap (λ n. position_from t n (drop n F)) done ∙ position_from-first t F

pub returns-clause-marked : goal.returns-clause-marked
returns-clause-marked c =
    let F = map file_view c.args.files.now in
    let t = first_at c.loop-index.firsts in
    let done : c.loop-index.index ≡ 0 = omega arith in
    all_marked t 0 F c.loop-index.marks.items (c.loop-index.invariant.2 ∙ sym (length-map c.args.files.now file_view))
    (λ i f there. let at : i ≡ 0 + i = omega arith in c.loop-index.invariant.3.each i f (omega arith) there ∙ ap (is_file (t f.name)) at)
    ∙ marks_alike t (file_named F) (λ name. c.loop-index.invariant.1 name ∙ ap (λ n. position_from (λ (f : DeclaredFile). bytes_eq name f.name) n (drop n F)) done ∙ position_from-first (λ (f : DeclaredFile). bytes_eq name f.name) F) 0 F
