-- Where imports have no cycle the rule of cycles fails nowhere.
use Rattle.std.proofs.Common.{◌≡◌, ℕ, zero, suc, ◌≤◌, List, map, length, false, not, refl, sym, arith, Option, Some, None}
use Rattle.std.specs.Prelude.{position}
use Rattle.std.proofs.lemmas.Bool.{false≢true}
use Rattle.pb_declarations.specs.Decls.{DeclaredFile}
use Rattle.pb_graphs.specs.Flat.{lists_of}
use Rattle.pb_graphs.specs.Cycles.{IsAcyclic}
use Rattle.pb_link_names.specs.Graphs.{AreImports}
use Rattle.pb_link_names.specs.declared.imports.Imports.{Imports}
use Rattle.pb_link_names.specs.Declarations.{Declaration}
use Rattle.pb_link_names.specs.TypeRefs.{file_in}
use Rattle.pb_link_names.specs.declared.declaration.Declaration.{Declaration as DeclarationValue}
use Rattle.pb_link_names.specs.View.{declaration_view}
use Rattle.pb_link_rules.specs.declared.cause.LinkCause.TheVariants as cause
use Rattle.pb_link_rules.specs.Rules.{World}
use Rattle.pb_link_rules.specs.Link.{holds, IsWorldOf}
use Rattle.pb_link_rules.specs.Tables.{holds_table}
use Rattle.pb_link_names.proofs.GraphLemmas.{taken}
use Rattle.pb_link_rules.proofs.NamesLemmas.{cycle_told, cycle_apart}
use Rattle.pb_link_rules.proofs.TableLemmas.{IsHeldBefore, held_more, none_failing}

not_cyclic : (files : List DeclaredFile) (w : World) (m : Imports) (place : ℕ) (d : Declaration) → AreImports files m → IsWorldOf files w → IsAcyclic (lists_of m.all)
    → not (holds w place d cause.ImportCycle) ≡ false
not_cyclic files w m place d are world free = by_file (file_in d.item) refl
  where
    by_file : (f : Option DeclaredFile) → file_in d.item ≡ f → not (holds w place d cause.ImportCycle) ≡ false
    by_file None is = sym (cycle_apart w place d is)
    by_file (Some f) is = sym (cycle_told files w m place d f false are world is (λ h. absurd (false≢true h), λ way. absurd (free d.file way)))

held_up_to : (files : List DeclaredFile) (w : World) (m : Imports) (row : List DeclarationValue) → AreImports files m → IsWorldOf files w → w.declared ≡ map declaration_view row
    → IsAcyclic (lists_of m.all) → (i : ℕ) → i ≤ length row → IsHeldBefore w i
held_up_to files w m row are world is free zero within = λ q less. absurd (omega (arith, less))
held_up_to files w m row are world is free (suc i) within =
    let here = taken row i (omega (arith, within)) in
    λ q less.
    held_more w row i here.0 is (omega (arith, within)) here.1 (not_cyclic files w m i (declaration_view here.0) are world free)
    (held_up_to files w m row are world is free i (omega (arith, within))) q (omega (arith, less))

pub none_cyclic : (files : List DeclaredFile) (w : World) (m : Imports) (row : List DeclarationValue) → AreImports files m → IsWorldOf files w → w.declared ≡ map declaration_view row
    → IsAcyclic (lists_of m.all) → None ≡ position not (holds_table w cause.ImportCycle)
none_cyclic files w m row are world is free =
    none_failing w row (length row) is (omega arith) (held_up_to files w m row are world is free (length row) (omega arith))
