-- What the statements of a file come to, one after another.
use Rattle.std.proofs.Common.{◌≡◌, ◌≤◌, ℕ, List, [], ◌∷◌, ◌++◌, length, length-append, Bool, true, false, ◌||◌, refl, ap, ◌∙◌, arith, Ok}
use Rattle.std.specs.Prelude.{if◌then◌else◌}
use Rattle.pb_source_tokens.specs.declared.grammar.Grammar.{Grammar}
use Rattle.pb_source_tokens.specs.declared.symbol.Placed.{Placed}
use Rattle.pb_source_tokens.specs.Language.{all_rules}
use Rattle.pb_source_tokens.specs.Readers.Given.{symbols_from}
use Rattle.pb_source_tokens.proofs.UntilSteps.{length_from}
use Rattle.pb_source.specs.Meaning.{FileStatement, all_said, packages_said}
use Rattle.pb_source.specs.PartsView.{OnePackage}
use Rattle.pb_source.specs.Readers.Lines.{is_package, file_statement_reader}
use Rattle.pb_source.proofs.FileLaws.{Once, count, counted, at_most_one, reads_file_statement}
use Rattle.pb_source.proofs.SaidSteps.{all_said-push}

-- ---- at most one package

-- whether a package has been said, of which there is at most one
abbrev pub Packaged : Bool → List FileStatement → Type 0
Packaged said ss = length (all_said packages_said ss) ≡ count said

pub or_if : (a b : Bool) → (a || b) ≡ (if a then true else b)
or_if true b = refl
or_if false b = refl

-- what is read after a package is none
pub read_once : (grammar : Grammar) → (ps : List Placed) (here after : ℕ) (said : Bool) (s : FileStatement)
    → ((n : ℕ) → length ps ≤ n → file_statement_reader grammar n said all_rules (symbols_from ps here) ≡ Ok (s, symbols_from ps after)) → Once said s
read_once grammar ps here after said s h =
    let r = reads_file_statement grammar (length ps) said in
    let t = r.sound all_rules (symbols_from ps here) s (symbols_from ps after) (let e = length_from ps here in omega arith) (h (length ps) (omega arith)) in
    t.derived.0

pub packaged_on : (said : Bool) (ss : List FileStatement) (s : FileStatement) → Packaged said ss → Once said s → Packaged (if said then true else is_package s) (ss ++ s ∷ [])
packaged_on said ss s h o =
    let c = counted said s o in
    ap length (all_said-push packages_said ss s) ∙ length-append (all_said packages_said ss) (packages_said s) ∙ (omega arith)

pub one_package : (said : Bool) (ss : List FileStatement) → Packaged said ss → OnePackage ss
one_package said ss h = let l = at_most_one said in omega arith
