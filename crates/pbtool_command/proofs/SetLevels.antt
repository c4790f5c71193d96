-- The set of sources that link nests at most 100 levels deep.
use Rattle.std.proofs.Common.{ℕ, ◌≤◌, List, [], ◌∷◌, arith, subst, sym}
use Rattle.std.specs.List.{AllByRecursion}
use Rattle.pb_value.specs.Data.{message_depth}
use Rattle.pb_declarations.specs.Decls.{DeclaredFile}
use Rattle.pb_descr_message.specs.Writing.{set_body}
use Rattle.pb_declarations.specs.Nests.{all_nest}
use Rattle.pb_descr_message.proofs.NestLemmas.{set_levels}
use Rattle.pb_link.specs.Resolved.{Resolves}
use Rattle.pb_link.proofs.EnumMapLemmas.{lists_within}
use Rattle.pb_link.proofs.ResolvedNestLemmas.{resolved_within}
use Rattle.pb_source.proofs.NestLemmas.{source_nests_in}
use Rattle.pbtool_files.specs.declared.set_file.Reading.{Reading}
use Rattle.pbtool_files.specs.declared.set_file.Reading.TheVariants.{Strict, Lenient}
use Rattle.pbtool_command.specs.CompileAnswer.{IsLinkedAs}
use Rattle.pbtool_command.specs.Gathering.{IsSourceBy}

-- some bytes are a source of the file
abbrev pub HasSource : DeclaredFile → Type 0
HasSource f = (reading : Reading) × (name : List ℕ) × (bytes : List ℕ) × IsSourceBy reading name bytes f

how_deep : (reading : Reading) (name bytes : List ℕ) (f : DeclaredFile) → IsSourceBy reading name bytes f → all_nest f.messages ≤ 65
how_deep Strict name bytes f s = source_nests_in _ name bytes f s
how_deep Lenient name bytes f s = source_nests_in _ name bytes f s

each_nests : (fs : List DeclaredFile) → AllByRecursion HasSource fs → AllByRecursion (λ f. all_nest f.messages ≤ 65) fs
each_nests [] h = tt
each_nests (f ∷ fs) h = (how_deep h.0.0 h.0.1 h.0.2 f h.0.3, each_nests fs h.1)

-- so do the files that are linked
linked_nest :
    (reading : Reading) (files linked : List DeclaredFile) → IsLinkedAs reading files linked
    → AllByRecursion (λ f. all_nest f.messages ≤ 65) files → AllByRecursion (λ f. all_nest f.messages ≤ 65) linked
linked_nest Strict files linked same h = subst (λ fs. AllByRecursion (λ f. all_nest f.messages ≤ 65) fs) (sym same) h
linked_nest Lenient files linked lists h = lists_within files linked 65 lists h

pub set_fits :
    (reading : Reading) (files linked answer : List DeclaredFile) → AllByRecursion HasSource files → IsLinkedAs reading files linked
    → Resolves linked answer → message_depth (set_body answer) ≤ 100
set_fits reading files linked answer h l r =
    let levels = set_levels answer 65 (resolved_within linked answer 65 r (linked_nest reading files linked l (each_nests files h))) in omega arith
