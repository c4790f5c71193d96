use Rattle.std.proofs.Common.{◌≡◌, ℕ, length, map, drop, reverse, sym, ap, ◌∙◌, subst, arith}
use Rattle.std.proofs.lemmas.List.{map_push, reverse-reverse}
use Rattle.pb_declarations.specs.View.{file_view}
use Rattle.pb_link.specs.ToDecls.{numbered, decls_of}
use Rattle.pb_link.specs.Nested.{inside_view, inside_file, AreInside}
use Rattle.pb_link.proofs.DeclaredLemmas.{map-reverse}
use Rattle.pb_link.proofs.NestedLemmas.{popped, file_more, decls_end}
use Rattle.pb_link.proofs.declaring.pool_decls.Goals as goal

pub loop-inside-init : goal.loop-inside-init
loop-inside-init c =
    let ts = c.args.pool.now in
    let size = c.in_ok-places.ensures.size in
    record {
      within = omega (arith, size);
      places = subst (λ (n : ℕ). AreInside n (inside_file ts (numbered ts) ts.enums) c.in_ok-places.places.items) (sym size) c.in_ok-places.ensures;
      made = ap (map file_view) c.in_ok-decls.ensures.items ∙ ap reverse (sym (decls_end ts (length c.in_ok-places.places.items) (omega (arith, size))));
    }

pub file_decl-requires-clause-inside : goal.file_decl-requires-clause-inside
file_decl-requires-clause-inside c =
    let ts = c.args.pool.now in
    let p = popped (length c.loop-inside.places.items) (inside_file ts (numbered ts) ts.enums) c.loop-inside.places.items c.pop.new.self.items c.in-Some.inside c.in-Some.ensures.items c.loop-inside.invariant.places in
    let index : length c.pop.new.self.items ≡ c.len-index.result = omega (arith, c.len-index.ensures, c.pop.new.self.ok.0) in
    subst (λ (n : ℕ). inside_view c.in-Some.inside ≡ inside_file ts (numbered ts) ts.enums n) index p.1

pub loop-inside-preserved : goal.loop-inside-preserved
loop-inside-preserved c =
    let ts = c.args.pool.now in
    let p = popped (length c.loop-inside.places.items) (inside_file ts (numbered ts) ts.enums) c.loop-inside.places.items c.pop.new.self.items c.in-Some.inside c.in-Some.ensures.items c.loop-inside.invariant.places in
    let index : c.len-index.result ≡ length c.pop.new.self.items = omega (arith, c.len-index.ensures, c.pop.new.self.ok.0) in
    let count = p.0 in
    let within = c.loop-inside.invariant.within in
    let more = file_more ts (length c.loop-inside.places.items) c.len-index.result (file_view c.in_ok-decl.decl) (map file_view c.loop-inside.decls.items) (map file_view c.push.new.self.items) (omega (arith, index, count, within)) (omega (arith, index, count)) c.in_ok-decl.ensures c.loop-inside.invariant.made (ap (map file_view) c.in_ok-push.ensures.items ∙ map_push file_view c.loop-inside.decls.items c.in_ok-decl.decl) in
    record {
      within = omega (arith, count, within);
      places = p.2;
      made = more ∙ ap (λ (n : ℕ). reverse (drop n (decls_of ts))) index;
    }

pub returns-clause-decls : goal.returns-clause-decls
returns-clause-decls c =
    let ts = c.args.pool.now in
    let none : length c.loop-inside.places.items ≡ 0 = omega (arith, c.in_default.ensures.cases.0, c.loop-inside.places.ok.0) in
    ap (map file_view) c.reverse.ensures.items ∙ map-reverse file_view c.loop-inside.decls.items
    ∙ ap reverse (c.loop-inside.invariant.made ∙ ap (λ (n : ℕ). reverse (drop n (decls_of ts))) none)
    ∙ reverse-reverse (decls_of ts)
