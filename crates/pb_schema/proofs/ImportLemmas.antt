-- Imports as a graph.
use Rattle.std.proofs.Common.{◌≡◌, ℕ, zero, suc, ◌<◌, ◌↔◌, List, [], ◌∷◌, map, length, refl, sym, ap, subst, Contains}
use Rattle.std.specs.List.{AllByRecursion}
use Rattle.std.proofs.lemmas.List.{length-map}
use Rattle.std.proofs.lemmas.List.Elements.{All-contains, All-from_recursion}
use Rattle.pb_graphs.specs.Reach.{next_of, Reached, begun, further as led, IsGraph}
use Rattle.pb_graphs.specs.Cycles.{IsAcyclic}
use Rattle.pb_graphs.proofs.ContainsLemmas.{Contains-none}
use Rattle.pb_schema.specs.declared.types.FileInfo.{FileInfo}
use Rattle.pb_schema.specs.View.{file_view}
use Rattle.pb_schema.specs.Types.{FileView}
use Rattle.pb_schema.specs.Rules.{ImportsNameFiles, NoFileReachesItself}
use Rattle.pb_schema.specs.Imports.{imports_of, Reaches, directly, further}

-- the imports of a file of the list are in range
pub imports_within : (P : ℕ → Type 0) (files : List FileView) (k : ℕ) → AllByRecursion (λ f. AllByRecursion P f.imports) files → (j : ℕ) → Contains (imports_of files k) j → P j
imports_within P [] k all j at = Contains-none j at
imports_within P (f ∷ fs) zero all j at = All-contains P f.imports j (All-from_recursion P f.imports all.0) at
imports_within P (f ∷ fs) (suc k) all j at = imports_within P fs k all.1 j at

-- where files lead
abbrev pub graph_of_files : List FileView → List (List ℕ)
graph_of_files files = map (λ f. f.imports) files

pub next_files : (files : List FileView) (k : ℕ) → next_of (graph_of_files files) k ≡ imports_of files k
next_files [] k = refl
next_files (f ∷ fs) zero = refl
next_files (f ∷ fs) (suc k) = next_files fs k

pub viewed_graph : (files : List FileInfo) → map (λ f. f.imports.items) files ≡ graph_of_files (map file_view files)
viewed_graph [] = refl
viewed_graph (f ∷ fs) = ap (λ l. f.imports.items ∷ l) (viewed_graph fs)

lie_within : (P : ℕ → Type 0) (files : List FileView) → AllByRecursion (λ f. AllByRecursion P f.imports) files → AllByRecursion (AllByRecursion P) (graph_of_files files)
lie_within P [] all = tt
lie_within P (f ∷ fs) all = (all.0, lie_within P fs all.1)

pub is_graph : (files : List FileInfo) → ImportsNameFiles (map file_view files) → IsGraph (map (λ f. f.imports.items) files)
is_graph files all =
    let views = map file_view files in
    let e : length views ≡ length (graph_of_files views) = sym (length-map views (λ (f : FileView). f.imports)) in
    subst IsGraph (sym (viewed_graph files)) (subst (λ n. AllByRecursion (AllByRecursion (λ j. j < n)) (graph_of_files views)) e (lie_within (λ j. j < length views) views all))

-- what is reached along the graph from some files that a file reaches, among them its imports
pub reaches_from : (files : List FileView) (i : ℕ) (starts : List ℕ) → ((j : ℕ) → Contains starts j → Reaches files i j) → (j : ℕ) → Reached (graph_of_files files) starts j → Reaches files i j
reaches_from files i starts right j (begun among) = right j among
reaches_from files i starts right j (led {k} way among) = further (reaches_from files i starts right k way) (subst (λ l. Contains l j) (next_files files k) among)

pub reached_by : (files : List FileView) (i : ℕ) (starts : List ℕ) → ((j : ℕ) → Contains (imports_of files i) j → Contains starts j) → (j : ℕ) → Reaches files i j → Reached (graph_of_files files) starts j
reached_by files i starts all j (directly among) = begun (all j among)
reached_by files i starts all j (further {k} way among) = led (reached_by files i starts all k way) (subst (λ l. Contains l j) (sym (next_files files k)) among)

-- the graph of imports has no cycle exactly where no file reaches itself
pub acyclic_files : (files : List FileInfo) → IsAcyclic (map (λ f. f.imports.items) files) ↔ NoFileReachesItself (map file_view files)
acyclic_files files = (
  λ free i r. subst IsAcyclic (viewed_graph files) free i (reached_by views i (next_of graph i) (λ j at. subst (λ l. Contains l j) (sym (next_files views i)) at) i r),
  λ none. subst IsAcyclic (sym (viewed_graph files)) (λ i r. none i (reaches_from views i (next_of graph i) (λ j at. directly (subst (λ l. Contains l j) (next_files views i) at)) i r)),
)
  where
    views : List FileView
    views = map file_view files

    graph : List (List ℕ)
    graph = graph_of_files views
