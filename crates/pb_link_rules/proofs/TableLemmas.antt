-- What the tables tell at a place is what holds of the declaration there.
use Rattle.std.proofs.Common.{◌≡◌, ℕ, zero, suc, ◌+◌, ◌<◌, ◌≤◌, ⊎_elim, List, [], ◌∷◌, length, map, drop, get_or, Bool, true, false, not, cond, ◌==◌, Option, Some, None, refl, sym, ap, ◌∙◌, subst, arith}
use Rattle.std.specs.Prelude.{position}
use Rattle.std.specs.List.{enumerate_from, position_from}
use Rattle.std.specs.Cmp.{unsigned_Decides}
use Rattle.std.proofs.lemmas.Bool.{cases_eq, false≢true}
use Rattle.std.proofs.lemmas.List.FromFn.{length-enumerate_from}
use Rattle.std.proofs.lemmas.List.Quantifiers.{position-Some}
use Rattle.std.proofs.lemmas.List.{length-map, get_or-map}
use Rattle.pb_link_rules.specs.declared.cause.LinkCause.{LinkCause}
use Rattle.pb_link_rules.specs.declared.cause.LinkCause.TheVariants as cause
use Rattle.pb_link_names.specs.declared.declaration.Declaration.{Declaration as DeclarationValue}
use Rattle.pb_link_names.specs.declared.found.TypeNames.TheVariants as type_names
use Rattle.pb_link_rules.specs.declared.names.Names.{Names}
use Rattle.pb_link_rules.specs.declared.names.At.{At}
use Rattle.pb_link_names.specs.Declarations.{Declaration}
use Rattle.pb_link_names.specs.Sees.{Sight}
use Rattle.pb_link_rules.specs.Rules.{World, lookups}
use Rattle.pb_link_rules.specs.Link.{holds, first_cause, first_told, first_fault}
use Rattle.pb_declarations.specs.Decls.{DeclaredFile}
use Rattle.pb_link_rules.specs.Judging.{world_of}
use Rattle.pb_link_rules.specs.Tables.{holds_table, AreTablesOf, TellsAt, is_elsewhere, at_place}
use Rattle.pb_link_names.specs.View.{declaration_view, type_names_view}
use Rattle.pb_link_rules.proofs.FirstLemmas.{not_fails, first_cause-none}
use Rattle.pb_link_names.proofs.FirstsLemmas.{position_from-first}
use Rattle.pb_link_names.proofs.MarkLemmas.{marks_at}
use Rattle.pb_link_rules.proofs.WalkLemmas.{told_some, told_none}

pub held_at : (w : World) (c : LinkCause) (row : List DeclarationValue) (table : List Bool) (i : ℕ) (x : DeclarationValue) → w.declared ≡ map declaration_view row → table ≡ holds_table w c → i < length row → x ≡ get_or row i x → get_or table i false ≡ holds w i (declaration_view x) c
held_at w c row table i x declared is h there =
    let f : ℕ × Declaration → Bool = λ e. holds w e.0 e.1 c in
    marks_at f declaration_view row table i x false (is ∙ ap (λ ds. map f (enumerate_from 0 ds)) declared) h there

-- THE FIRST PLACE AT WHICH THE RULE OF CYCLES FAILS

-- it holds before a place
abbrev pub IsHeldBefore : World → ℕ → Type 0
IsHeldBefore w i = (q : ℕ) → q < i → get_or (holds_table w cause.ImportCycle) q false ≡ true

fails_at : (t : List Bool) (n i : ℕ) → i < length t → get_or t i false ≡ false → ((q : ℕ) → q < i → get_or t q false ≡ true) → position_from not n t ≡ Some (n + i)
fails_at [] n i h here before = absurd (omega (arith, h))
fails_at (b ∷ t) n zero h here before = ap (λ x. cond (not x) (Some n) (position_from not (n + 1) t)) here ∙ ap Some (omega arith)
fails_at (b ∷ t) n (suc i) h here before =
    ap (λ x. cond (not x) (Some n) (position_from not (n + 1) t)) (before 0 (omega arith)) ∙ fails_at t (n + 1) i (omega (arith, h)) here (λ q less. before (suc q) (omega (arith, less))) ∙ ap Some (omega arith)

never_fails : (t : List Bool) (n : ℕ) → ((q : ℕ) → q < length t → get_or t q false ≡ true) → position_from not n t ≡ None
never_fails [] n all = refl
never_fails (b ∷ t) n all =
    ap (λ x. cond (not x) (Some n) (position_from not (n + 1) t)) (all 0 (omega arith)) ∙ never_fails t (n + 1) (λ q less. all (suc q) (omega (arith, less)))

-- up to the first place at which it fails, that place tells where
elsewhere : (t : List Bool) (i : ℕ) → i < length t → ((q : ℕ) → q < i → get_or t q false ≡ true) → is_elsewhere (position not t) i ≡ get_or t i false
elsewhere t i h before = by (get_or t i false) refl
  where
    apart : (first : ℕ) → get_or t i false ≡ true → not (get_or t first false) ≡ true → (first == i) ≡ false
    apart first here fails = same (first == i) refl
      where
        same : (b : Bool) → (first == i) ≡ b → (first == i) ≡ false
        same true e = absurd (false≢true (ap not (sym here) ∙ ap (λ k. not (get_or t k false)) (sym ((unsigned_Decides first i).0 e)) ∙ fails))
        same false e = e

    other : (o : Option ℕ) → position not t ≡ o → get_or t i false ≡ true → is_elsewhere o i ≡ true
    other None e here = refl
    other (Some first) e here = ap not (apart first here (position-Some not t first false e).1)

    by : (b : Bool) → get_or t i false ≡ b → is_elsewhere (position not t) i ≡ get_or t i false
    by true e = other (position not t) refl e ∙ sym e
    by false e = ap (λ o. is_elsewhere o i) (sym (position_from-first not t) ∙ fails_at t 0 i h e before) ∙ itself ∙ sym e
      where
        itself : not (0 + i == i) ≡ false
        itself = ap not ((unsigned_Decides (0 + i) i).1 (omega arith))

rules_size : (w : World) (row : List DeclarationValue) → w.declared ≡ map declaration_view row → length (holds_table w cause.ImportCycle) ≡ length row
rules_size w row is =
    length-map (enumerate_from 0 w.declared) (λ (e : ℕ × Declaration). holds w e.0 e.1 cause.ImportCycle) ∙ length-enumerate_from 0 w.declared ∙ ap length is ∙ length-map row declaration_view

pub held_more : (w : World) (row : List DeclarationValue) (i : ℕ) (x : DeclarationValue) → w.declared ≡ map declaration_view row → i < length row → x ≡ get_or row i x → not (holds w i (declaration_view x) cause.ImportCycle) ≡ false → IsHeldBefore w i → IsHeldBefore w (i + 1)
held_more w row i x is h there here before q less =
    ⊎_elim (λ e. subst (λ k. get_or (holds_table w cause.ImportCycle) k false ≡ true) (sym e) (held_at w cause.ImportCycle row (holds_table w cause.ImportCycle) i x is refl h there ∙ not_fails (holds w i (declaration_view x) cause.ImportCycle) here)) (λ ne. before q (omega (arith, less, ne))) (cases_eq q i)

pub first_failing : (w : World) (row : List DeclarationValue) (i : ℕ) (x : DeclarationValue) → w.declared ≡ map declaration_view row → i < length row → x ≡ get_or row i x → true ≡ not (holds w i (declaration_view x) cause.ImportCycle) → IsHeldBefore w i → Some i ≡ position not (holds_table w cause.ImportCycle)
first_failing w row i x is h there fails before =
    let t = holds_table w cause.ImportCycle in
    sym (sym (position_from-first not t) ∙ fails_at t 0 i (omega (arith, h, rules_size w row is)) (held_at w cause.ImportCycle row t i x is refl h there ∙ not_so (holds w i (declaration_view x) cause.ImportCycle) fails) before ∙ ap Some (omega arith))
  where
    not_so : (b : Bool) → true ≡ not b → b ≡ false
    not_so true e = e
    not_so false e = refl

pub none_failing : (w : World) (row : List DeclarationValue) (i : ℕ) → w.declared ≡ map declaration_view row → length row ≤ i → IsHeldBefore w i → None ≡ position not (holds_table w cause.ImportCycle)
none_failing w row i is past before =
    let t = holds_table w cause.ImportCycle in
    sym (sym (position_from-first not t) ∙ never_fails t 0 (λ q less. before q (omega (arith, less, past, rules_size w row is))))

-- WHAT THE TABLES TELL
pub tells_at : (w : World) (row : List DeclarationValue) (n : Names) (map_marks : List Bool) (i : ℕ) (x : DeclarationValue) → AreTablesOf w (map declaration_view row) n map_marks → IsHeldBefore w i → i < length row → x ≡ get_or row i x → TellsAt w i (declaration_view x) (at_place n map_marks i)
tells_at w row n map_marks i x tables before h there = record {
  file_is_first = held_at w cause.TwoFiles row n.file_is_first.items i x tables.declared tables.names.of_files.file_is_first h there;
  imports_are_there = held_at w cause.MissingImport row n.imports_are_there.items i x tables.declared tables.names.of_files.imports_are_there h there;
  reaches_no_cycle = ap (λ o. is_elsewhere o i) tables.names.of_files.first_cycle ∙ elsewhere (holds_table w cause.ImportCycle) i (omega (arith, h, rules_size w row tables.declared)) before ∙ held_at w cause.ImportCycle row (holds_table w cause.ImportCycle) i x tables.declared refl h there;
  is_free = held_at w cause.NameTaken row n.is_free.items i x tables.declared tables.names.of_names.is_free h there;
  is_map_right = held_at w cause.BadMap row map_marks i x tables.declared tables.maps h there;
  found = sym (get_or-map type_names_view n.found.items i type_names.None [] inside) ∙ ap (λ l. get_or l i []) shown ∙ get_or-map (lookups w) (map declaration_view row) i (declaration_view x) [] there_seen ∙ ap (lookups w) (get_or-map declaration_view row i x (declaration_view x) h ∙ ap declaration_view (sym there));
}
  where
    shown : map type_names_view n.found.items ≡ map (lookups w) (map declaration_view row)
    shown = tables.names.of_names.found ∙ ap (map (lookups w)) tables.declared

    there_seen : i < length (map declaration_view row)
    there_seen = let P : ℕ → Type 0 = λ m. i < m in subst P (sym (length-map row declaration_view)) h

    inside : i < length n.found.items
    inside = let P : ℕ → Type 0 = λ m. i < m in subst P (sym (sym (length-map n.found.items type_names_view) ∙ ap length shown ∙ length-map (map declaration_view row) (lookups w) ∙ length-map row declaration_view)) h

-- what holds of each sight holds of the world's
pub of_world : (files : List DeclaredFile) (ds : List Declaration) (P : World → Type 0) → ((s : Sight) → P (world_of files ds s)) → (w : World) → w.files ≡ files → w.declared ≡ ds → P w
of_world files ds P all w in_files is =
    let Q : List Declaration → Type 0 = λ l. P (world_of w.files l w.sight) in
    let R : List DeclaredFile → Type 0 = λ fs. P (world_of fs ds w.sight) in
    subst Q (sym is) (subst R (sym in_files) (all w.sight))

-- A WALK: of all worlds with these tables, what is reported comes from a place on, and no file before it reaches itself
abbrev pub IsWalked : List DeclaredFile → List DeclarationValue → Names → List Bool → ℕ → Type 0
IsWalked files row n map_marks i = (w : World) → w.files ≡ files → AreTablesOf w (map declaration_view row) n map_marks → (first_told (first_cause w) 0 (map declaration_view row) ≡ first_told (first_cause w) i (map declaration_view (drop i row))) × IsHeldBefore w i

-- a judge of what the tables tell
abbrev pub IsJudged : List DeclaredFile → List DeclarationValue → DeclarationValue → At → Option LinkCause → Type 0
IsJudged files row x at told = (s : Sight) (place : ℕ) → TellsAt (world_of files (map declaration_view row) s) place (declaration_view x) at → told ≡ first_cause (world_of files (map declaration_view row) s) place (declaration_view x)

pub walk_begins : (files : List DeclaredFile) (row : List DeclarationValue) (n : Names) (map_marks : List Bool) → IsWalked files row n map_marks 0
walk_begins files row n map_marks w in_files tables = (refl, λ q less. absurd (omega (arith, less)))

cause_at : (files : List DeclaredFile) (row : List DeclarationValue) (n : Names) (map_marks : List Bool) (i : ℕ) (x : DeclarationValue) (at : At) (told : Option LinkCause) → i < length row → x ≡ get_or row i x → at ≡ at_place n map_marks i → IsJudged files row x at told → (s : Sight) → AreTablesOf (world_of files (map declaration_view row) s) (map declaration_view row) n map_marks → IsHeldBefore (world_of files (map declaration_view row) s) i → told ≡ first_cause (world_of files (map declaration_view row) s) i (declaration_view x)
cause_at files row n map_marks i x at told h there is judged s tables before =
    let w = world_of files (map declaration_view row) s in
    let P : At → Type 0 = λ a. TellsAt w i (declaration_view x) a in
    judged s i (subst P (sym is) (tells_at w row n map_marks i x tables before h there))

pub walked_some : (files : List DeclaredFile) (row : List DeclarationValue) (n : Names) (map_marks : List Bool) (i : ℕ) (x : DeclarationValue) (at : At) (told : Option LinkCause) (c : LinkCause) → i < length row → x ≡ get_or row i x → at ≡ at_place n map_marks i → told ≡ Some c → IsJudged files row x at told → IsWalked files row n map_marks i → (w : World) → w.files ≡ files → AreTablesOf w (map declaration_view row) n map_marks → Some (i, c) ≡ first_fault w 0 w.declared
walked_some files row n map_marks i x at told c h there is some judged walked w in_files tables =
    of_world files (map declaration_view row) (λ v. AreTablesOf v (map declaration_view row) n map_marks → Some (i, c) ≡ first_fault v 0 v.declared) all w in_files tables.declared tables
  where
    all : (s : Sight) → AreTablesOf (world_of files (map declaration_view row) s) (map declaration_view row) n map_marks → Some (i, c) ≡ first_told (first_cause (world_of files (map declaration_view row) s)) 0 (map declaration_view row)
    all s t =
        let v = world_of files (map declaration_view row) s in
        sym (told_some (first_cause v) declaration_view row i x c (first_told (first_cause v) 0 (map declaration_view row)) h there (walked v refl t).0 (sym (cause_at files row n map_marks i x at told h there is judged s t (walked v refl t).1) ∙ some))

pub walked_none : (files : List DeclaredFile) (row : List DeclarationValue) (n : Names) (map_marks : List Bool) (i : ℕ) (x : DeclarationValue) (at : At) (told : Option LinkCause) → i < length row → x ≡ get_or row i x → at ≡ at_place n map_marks i → told ≡ None → IsJudged files row x at told → IsWalked files row n map_marks i → IsWalked files row n map_marks (i + 1)
walked_none files row n map_marks i x at told h there is none judged walked w in_files tables =
    of_world files (map declaration_view row) (λ v. AreTablesOf v (map declaration_view row) n map_marks → (first_told (first_cause v) 0 (map declaration_view row) ≡ first_told (first_cause v) (i + 1) (map declaration_view (drop (i + 1) row))) × IsHeldBefore v (i + 1)) all w in_files tables.declared tables
  where
    all : (s : Sight) → AreTablesOf (world_of files (map declaration_view row) s) (map declaration_view row) n map_marks → (first_told (first_cause (world_of files (map declaration_view row) s)) 0 (map declaration_view row) ≡ first_told (first_cause (world_of files (map declaration_view row) s)) (i + 1) (map declaration_view (drop (i + 1) row))) × IsHeldBefore (world_of files (map declaration_view row) s) (i + 1)
    all s t =
        let v = world_of files (map declaration_view row) s in
        let nothing = sym (cause_at files row n map_marks i x at told h there is judged s t (walked v refl t).1) ∙ none in (
          told_none (first_cause v) declaration_view row i x (first_told (first_cause v) 0 (map declaration_view row)) h there (walked v refl t).0 nothing,
          held_more v row i x refl h there (ap not (first_cause-none v i (declaration_view x) nothing cause.ImportCycle)) (walked v refl t).1,
        )
