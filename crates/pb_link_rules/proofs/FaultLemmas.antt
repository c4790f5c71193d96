-- What the walk tells, as a fault of files.
use Rattle.std.proofs.Common.{◌≡◌, ℕ, ◌<◌, List, map, length, get_or, Some, None, sym, ap, ◌∙◌, subst}
use Rattle.std.specs.Prelude.{slice_get}
use Rattle.std.proofs.lemmas.List.{length-map}
use Rattle.std.proofs.lemmas.Option.{none-some, slice_get_within}
use Rattle.pb_schema.proofs.LookupLemmas.{get_viewed}
use Rattle.pb_declarations.specs.declared.decl.FileDecl.{FileDecl}
use Rattle.pb_declarations.specs.View.{file_view}
use Rattle.pb_declarations.specs.Decls.{DeclaredFile}
use Rattle.pb_link_rules.specs.declared.cause.LinkCause.{LinkCause}
use Rattle.pb_link_names.specs.declared.declaration.Declaration.{Declaration as DeclarationValue}
use Rattle.pb_link_rules.specs.declared.error.LinkError.{LinkError}
use Rattle.pb_link_rules.specs.declared.error.LinkError.TheVariants.{Fault, Memory}
use Rattle.pb_link_names.specs.Declarations.{Declaration, full_name}
use Rattle.pb_link_names.specs.Sees.{file_of}
use Rattle.pb_link_rules.specs.Rules.{World}
use Rattle.pb_link_rules.specs.Link.{IsWorldOf, first_fault}
use Rattle.pb_link_rules.specs.Faults.{LinkFault, IsUnlinked, TellsLinkFault}
use Rattle.pb_link_names.specs.View.{declaration_view}
use Rattle.pb_link_rules.proofs.ExactLemmas.{first-told}
use Rattle.pb_link_rules.proofs.FirstLemmas.{first_fault-first}
use Rattle.pb_link_rules.proofs.ThereLemmas.{has_file}

some_same : {A : Type 0} (a b : A) → Some a ≡ Some b → a ≡ b
some_same a b h = cc

-- WHERE NOTHING IS TOLD

pub silent_fault : (files : List DeclaredFile) (w : World) (file name : List ℕ) (c : LinkCause) → IsWorldOf files w → first_fault w 0 w.declared ≡ None → LinkFault files file name c → ⊥
silent_fault files w file name c world silent fault = none-some (fault.place, c) (sym silent ∙ first-told files w world fault.place c (fault.world, fault.is_world, fault.fails_first))

-- WHERE A FAULT IS TOLD

-- the place that the walk tells is that of a declaration
pub told_within : (w : World) (p : ℕ) (c : LinkCause) → first_fault w 0 w.declared ≡ Some (p, c) → p < length w.declared
told_within w p c told =
    let fails = (first_fault-first w p c told).fails in
    slice_get_within w.declared p fails.0 fails.1

pub row_within : (w : World) (row : List DeclarationValue) (p : ℕ) (c : LinkCause) → w.declared ≡ map declaration_view row → first_fault w 0 w.declared ≡ Some (p, c) → p < length row
row_within w row p c declared told =
    let P : ℕ → Type 0 = λ n. p < n in
    subst P (ap length declared ∙ length-map row declaration_view) (told_within w p c told)

pub told_there : (w : World) (row : List DeclarationValue) (p : ℕ) (c : LinkCause) (x : DeclarationValue) → w.declared ≡ map declaration_view row → first_fault w 0 w.declared ≡ Some (p, c) → x ≡ get_or row p x → slice_get w.declared p ≡ Some (declaration_view x)
told_there w row p c x declared told there = subst (λ ds. slice_get ds p ≡ Some (declaration_view x)) (sym declared) (get_viewed declaration_view row p x (row_within w row p c declared told) there)

-- and its file is there
pub file_within : (files : List FileDecl) (w : World) (p : ℕ) (d : Declaration) → IsWorldOf (map file_view files) w → slice_get w.declared p ≡ Some d → d.file < length files
file_within files w p d world there =
    let P : ℕ → Type 0 = λ n. d.file < n in
    subst P (length-map (map file_view files) (file_of (map file_view files)) ∙ length-map files file_view) (has_file (map file_view files) w world p d there)

pub file_there : (files : List FileDecl) (w : World) (p : ℕ) (d : Declaration) (f : FileDecl) → IsWorldOf (map file_view files) w → slice_get w.declared p ≡ Some d → f ≡ get_or files d.file f → slice_get (map file_view files) d.file ≡ Some (file_view f)
file_there files w p d f world there is = get_viewed file_view files d.file f (file_within files w p d world there) is

pub told_refused : (files : List DeclaredFile) (w : World) (p : ℕ) (c : LinkCause) (d : Declaration) (f : DeclaredFile) (e : LinkError) → IsWorldOf files w → first_fault w 0 w.declared ≡ Some (p, c) → slice_get w.declared p ≡ Some d → slice_get files d.file ≡ Some f → TellsLinkFault f.name (full_name d) c e → IsUnlinked files e
told_refused files w p c d f Memory world told there in_file tells = tt
told_refused files w p c d f (Fault file name cause) world told there in_file tells = record {
  world = w;
  is_world = world;
  place = p;
  fails_first = let P : LinkCause → Type 0 = λ k. first_fault w 0 w.declared ≡ Some (p, k) in first_fault-first w p cause (subst P (sym tells.2) told);
  declaration = d;
  there = there;
  named = tells.1;
  file = f;
  in_file = in_file;
  file_named = tells.0;
}

-- a fault of these files names what is where the walk reported one
abbrev pub SameFault : List DeclaredFile → List ℕ → List ℕ → LinkCause → DeclaredFile → Declaration → LinkCause → Type 0
SameFault files file name e f d c = (f.name ≡ file) × (full_name d ≡ name) × (c ≡ e)

pub same_fault : (files : List DeclaredFile) (w : World) (p : ℕ) (c e : LinkCause) (d : Declaration) (f : DeclaredFile) (file name : List ℕ) → IsWorldOf files w → first_fault w 0 w.declared ≡ Some (p, c) → slice_get w.declared p ≡ Some d → slice_get files d.file ≡ Some f → LinkFault files file name e → SameFault files file name e f d c
same_fault files w p c e d f file name world told there in_file fault =
    let both = some_same (p, c) (fault.place, e) (sym told ∙ first-told files w world fault.place e (fault.world, fault.is_world, fault.fails_first)) in
    let same_place : p ≡ fault.place = ap (λ q. q.0) both in
    let same_row : w.declared ≡ fault.world.declared = world.declared ∙ sym fault.is_world.declared in
    let same : d ≡ fault.declaration = some_same d fault.declaration (sym there ∙ ap (λ n. slice_get w.declared n) same_place ∙ ap (λ ds. slice_get ds fault.place) same_row ∙ fault.there) in
    let same_file : f ≡ fault.file = some_same f fault.file (sym in_file ∙ ap (λ x. slice_get files x.file) same ∙ fault.in_file) in
    (ap (λ g. g.name) same_file ∙ sym fault.file_named, ap full_name same ∙ sym fault.named, ap (λ q. q.1) both)

tells_same : (file name other_file other_name : List ℕ) (c k : LinkCause) (e : LinkError) → file ≡ other_file → name ≡ other_name → c ≡ k → TellsLinkFault file name c e → TellsLinkFault other_file other_name k e
tells_same file name other_file other_name c k Memory f n s tells = tt
tells_same file name other_file other_name c k (Fault told_file told_name told) f n s tells = (tells.0 ∙ f, tells.1 ∙ n, tells.2 ∙ s)

pub told_fault : (files : List DeclaredFile) (w : World) (p : ℕ) (c k : LinkCause) (d : Declaration) (f : DeclaredFile) (e : LinkError) (file name : List ℕ) → IsWorldOf files w → first_fault w 0 w.declared ≡ Some (p, c) → slice_get w.declared p ≡ Some d → slice_get files d.file ≡ Some f → TellsLinkFault f.name (full_name d) c e → LinkFault files file name k → TellsLinkFault file name k e
told_fault files w p c k d f e file name world told there in_file tells fault =
    let same = same_fault files w p c k d f file name world told there in_file fault in
    tells_same f.name (full_name d) file name c k e same.0 same.1 same.2 tells
