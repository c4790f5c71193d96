use Rattle.std.proofs.Common.{ℕ, List, Option, true, map, refl, sym, subst}
use Rattle.std.proofs.lemmas.List.{length-map}
use Rattle.pb_schema.specs.declared.names.declared.Declarations.{Declarations}
use Rattle.pb_schema.specs.View.{file_view, message_view, types_of}
use Rattle.pb_schema.specs.Nesting.{ParentsStandBefore}
use Rattle.pb_schema.specs.Names.{message_name}
use Rattle.pb_schema.specs.Names.Tree.{full_names_of, ArePackages}
use Rattle.pb_schema.specs.Names.Declared.{HaveNames}
use Rattle.pb_schema.proofs.PackageLemmas.{packages_kept}
use Rattle.pb_schema.proofs.DeclareLemmas.{declared_rules}
use Rattle.pb_schema.proofs.rules.full_names_meet_rules.Goals as goal

pub returns : goal.returns
returns c =
    let ts = types_of c.args.files.now c.args.messages.now c.args.enums.now in
    let F = map file_view c.args.files.now in
    let M = map message_view c.args.messages.now in
    let scopes = c.in_ok-packages.packages.items in
    let begun = full_names_of c.add_packages.new.tree in
    let named = full_names_of c.add_messages.new.declared.tree in
    let parents = subst (ParentsStandBefore M) (sym (length-map c.args.messages.now message_view)) c.requires.parents in
    let packs = c.in_ok-packages.ensures c.new-tree.ensures.tree c.requires.packages in
    let messages = c.in_ok-names.ensures F (record {
      tree = packs.tree;
      packages = subst (λ (l : List (Option ℕ)). ArePackages begun l F) (sym c.deref.ensures.value) packs.packages;
      words = c.requires.message_words;
      parents = parents;
    }) in
    let enums = c.in_ok-add_enums.ensures F M (record {
      tree = messages.added.tree;
      packages = subst (λ (l : List (Option ℕ)). ArePackages named l F) (sym c.deref-2.ensures.value) (packages_kept begun named scopes F messages.added.kept packs.packages);
      messages = subst (λ (l : List ℕ). HaveNames named l (map (message_name F M) M)) (sym c.deref-3.ensures.value) messages.names;
      words = c.requires.enum_words;
      parents = parents;
    }) in
    let start : Declarations = record { tree = c.add_packages.new.tree; differ = true } in
    declared_rules ts c.new-tree.result c.add_packages.new.tree scopes c.in_ok-names.names.items start c.add_messages.new.declared c.add_enums.new.declared c.new-tree.ensures.empty packs refl refl messages enums
