use Rattle.std.proofs.Common.{◌≡◌, ◌<◌, ◌^◌, ℕ, pos, length, map, sym, ap, ◌∙◌, subst, arith, rules, List, Option, Some}
use Rattle.std.specs.Prelude.{string_bytes, slice_get}
use Rattle.std.specs.List.{enumerate_from}
use Rattle.pb_schema.specs.Types.{FileView}
use Rattle.pb_schema.specs.View.{file_view as view_of_file}
use Rattle.pb_schema.specs.Names.{name_at}
use Rattle.pb_declarations.specs.Decls.{messages_of}
use Rattle.pb_declarations.specs.View.{message_view, service_view}
use Rattle.pb_link.specs.Nested.{Insides, inside_view}
use Rattle.pb_link.specs.ToDecls.{declared_file}
use Rattle.pb_link.proofs.DeclarableLemmas.{all_at}
use Rattle.pb_link.proofs.DeclaredLemmas.{listed_size, viewed_get, map-reverse}
use Rattle.pb_link.proofs.NestedLemmas.{in_file_whole}
use Rattle.pb_link.proofs.declaring.file_decl.Goals as goal

some_same : {A : Type 0} {o : Option A} (a b : A) → o ≡ Some a → o ≡ Some b → a ≡ b
some_same a b h k = cc

pub indexes-requires : goal.indexes-requires
indexes-requires c =
    let ts = c.args.pool.now in
    let f = c.index-files-index.result in
    let size = listed_size view_of_file c.files.result.now ts.files c.files.ensures.listed in
    let within = c.requires.within in
    let there : slice_get ts.files c.args.index ≡ Some (view_of_file f) = viewed_get view_of_file c.files.result.now ts.files c.args.index f c.files.ensures.listed (omega (arith, size, within)) c.index-files-index.is in
    subst (λ (l : List ℕ). length l < 2 ^ 31) (sym c.deref-2.ensures.value) (all_at (λ (v : FileView). length v.imports < 2 ^ 31) ts.files c.args.index (view_of_file f) c.files.ensures.rules.files.few_imports there)

pub returns : goal.returns
returns c v at =
    let ts = c.args.pool.now in
    let i = c.args.index in
    let f = c.index-files-index.result in
    let size = listed_size view_of_file c.files.result.now ts.files c.files.ensures.listed in
    let within = c.requires.within in
    let there : slice_get ts.files i ≡ Some (view_of_file f) = viewed_get view_of_file c.files.result.now ts.files i f c.files.ensures.listed (omega (arith, size, within)) c.index-files-index.is in
    let named : string_bytes c.in_ok-name.name ≡ string_bytes f.name = search rules in
    let packed : string_bytes c.in_ok-package.package ≡ string_bytes f.«package» = search rules in
    (λ k. record {
      name = named k;
      package_name = packed k;
      imports = (c.in_ok-imports.ensures ∙ (λ j. map (name_at (map (λ (u : FileView). u.name) (c.files-2.ensures.listed j))) (c.deref.ensures.value j))) k;
      public_indexes = (c.in_ok-public.ensures ∙ ap (λ (l : List ℕ). map (λ (e : ℕ × ℕ). pos e.0) (enumerate_from 0 l)) c.deref-2.ensures.value) k;
      messages = messages_of ((ap (map message_view) c.reverse.ensures.items ∙ map-reverse message_view c.args.inside.messages.items ∙ in_file_whole ts i (inside_view c.args.inside) c.requires.inside) k);
      enums = ap (λ (x : Insides). x.enums) c.requires.inside k;
      services = map service_view (c.new.ensures.items k);
      is_proto2 = f.proto2;
    })
    ∙ ap (λ (u : FileView). declared_file ts (i, u)) (some_same (view_of_file f) v there at)
