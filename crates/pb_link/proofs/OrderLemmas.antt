-- Declarations stand by file, and so do the message types.
use Rattle.std.proofs.Common.{◌≡◌, ℕ, zero, suc, ◌+◌, ◌<◌, ◌≤◌, ⊎_elim, List, [], ◌∷◌, length, refl, sym, ap, ◌∙◌, arith, Option, Some, None}
use Rattle.std.specs.Prelude.{slice_get, filter_map}
use Rattle.std.specs.List.{AllByRecursion, cons_option}
use Rattle.std.proofs.lemmas.Option.{none-some}
use Rattle.pb_schema.specs.Types.{MessageView}
use Rattle.pb_schema.specs.Rules.{InOrder, FilesRise}
use Rattle.pb_declarations.specs.Decls.{DeclaredFile}
use Rattle.pb_link_names.specs.Declarations.{Declaration, file_declared, files_declared}
use Rattle.pb_link_rules.specs.Rules.{World}
use Rattle.pb_link_rules.specs.Link.{IsWorldOf}
use Rattle.pb_link.specs.PoolOf.{message_type, pool_of}
use Rattle.pb_link_names.proofs.BehindLemmas.{AreBuilt, built_file, get_split}
use Rattle.pb_link_rules.proofs.ThereLemmas.{all_types}
use Rattle.pb_link.proofs.TypeLemmas.{of_message}

-- each element stands so to all later ones
abbrev AllPairs : {X : Type 0} → (X → X → Type 0) → List X → Type 0
AllPairs R [] = Unit {0}
AllPairs R (x ∷ xs) = AllByRecursion (R x) xs × AllPairs R xs

pub in_order : {X : Type 0} (R : X → X → Type 0) (xs : List X) → AllPairs R xs → InOrder R xs
in_order R [] h = tt
in_order R (x ∷ []) h = tt
in_order R (x ∷ y ∷ zs) h = (h.0.0, in_order R (y ∷ zs) h.1)

pairs_option : {Y : Type 0} (R : Y → Y → Type 0) (o : Option Y) (ys : List Y) → ((y : Y) → o ≡ Some y → AllByRecursion (R y) ys) → AllPairs R ys → AllPairs R (cons_option o ys)
pairs_option R None ys first rest = rest
pairs_option R (Some y) ys first rest = (first y refl, rest)

pub pairs_of : {X Y : Type 0} (R : Y → Y → Type 0) (h : X → Option Y) (xs : List X) → ((k l : ℕ) (a b : X) (y z : Y) → k < l → slice_get xs k ≡ Some a → slice_get xs l ≡ Some b → h a ≡ Some y → h b ≡ Some z → R y z) → AllPairs R (filter_map h xs)
pairs_of R h [] each = tt
pairs_of R h (x ∷ xs) each = pairs_option R (h x) (filter_map h xs)
    (λ y made. all_types (R y) h xs (λ l b z there gives. each 0 (suc l) x b y z (omega arith) refl there made gives))
    (pairs_of R h xs (λ k l a b y z less first second one two. each (suc k) (suc l) a b y z (omega (arith, less)) first second one two))

pub get-less : {X : Type 0} (xs : List X) (i : ℕ) (x : X) → slice_get xs i ≡ Some x → i < length xs
get-less [] i x h = absurd (none-some x h)
get-less (y ∷ xs) zero x h = omega arith
get-less (y ∷ xs) (suc i) x h = omega (arith, get-less xs i x h)

-- what one file declares is of that file
one_file : (file place : ℕ) (ds : List Declaration) → AreBuilt (λ d. d.file ≡ file) place ds → (n k : ℕ) (d : Declaration) → k < n → slice_get ds k ≡ Some d → d.file ≡ file
one_file file place ds built zero k d less there = absurd (omega (arith, less))
one_file file place ds built (suc n) k d less there = ⊎_elim (λ is. is) (λ h. h.4.1.file ∙ one_file file place ds built n h.0 h.1 (omega (arith, less, h.2)) h.3) (built.around k d there)

pub of_file : (file place : ℕ) (f : DeclaredFile) (k : ℕ) (d : Declaration) → slice_get (file_declared file place f) k ≡ Some d → d.file ≡ file
of_file file place f k d there = one_file file place (file_declared file place f) (built_file (λ x. x.file ≡ file) file place f refl) (suc k) k d (omega arith) there

pub at_least : (start place : ℕ) (fs : List DeclaredFile) (k : ℕ) (d : Declaration) → slice_get (files_declared start place fs) k ≡ Some d → start ≤ d.file
at_least start place [] k d there = absurd (none-some d there)
at_least start place (f ∷ fs) k d there =
    let own = file_declared start place f in
    ⊎_elim (λ front. omega (arith, of_file start place f k d front)) (λ back. omega (arith, at_least (start + 1) (place + length own) fs back.0 d back.2)) (get_split own (files_declared (start + 1) (place + length own) fs) k d there)

files_rise : (start place : ℕ) (fs : List DeclaredFile) (k l : ℕ) (d e : Declaration) → k < l → slice_get (files_declared start place fs) k ≡ Some d → slice_get (files_declared start place fs) l ≡ Some e → d.file ≤ e.file
files_rise start place [] k l d e less first second = absurd (none-some d first)
files_rise start place (f ∷ fs) k l d e less first second =
    let own = file_declared start place f in
    let rest = files_declared (start + 1) (place + length own) fs in
    ⊎_elim
    (λ one. ⊎_elim
    (λ two. omega (arith, of_file start place f k d one, of_file start place f l e two))
    (λ two. omega (arith, of_file start place f k d one, at_least (start + 1) (place + length own) fs two.0 e two.2))
    (get_split own rest l e second))
    (λ one. ⊎_elim
    (λ two. absurd (omega (arith, less, one.1, get-less own l e two)))
    (λ two. files_rise (start + 1) (place + length own) fs one.0 two.0 d e (omega (arith, less, one.1, two.1)) one.2 two.2)
    (get_split own rest l e second))
    (get_split own rest k d first)

pub declared_by_file : (files : List DeclaredFile) (w : World) → IsWorldOf files w → (k l : ℕ) (d e : Declaration) → k < l → slice_get w.declared k ≡ Some d → slice_get w.declared l ≡ Some e → d.file ≤ e.file
declared_by_file files w world k l d e less first second = files_rise 0 0 files k l d e less (ap (λ ds. slice_get ds k) (sym world.declared) ∙ first) (ap (λ ds. slice_get ds l) (sym world.declared) ∙ second)

pub messages_rise : (files : List DeclaredFile) (w : World) → IsWorldOf files w → FilesRise (pool_of files w).messages
messages_rise files w world = in_order (λ s t. s.file ≤ t.file) (pool_of files w).messages (pairs_of (λ s t. s.file ≤ t.file) (message_type w) w.declared (λ k l a b s t less first second one two. same_files a b s t (of_message w a s one) (of_message w b t two) (declared_by_file files w world k l a b less first second)))
  where
    same_files : (a b : Declaration) (s t : MessageView) → s.file ≡ a.file → t.file ≡ b.file → a.file ≤ b.file → s.file ≤ t.file
    same_files a b s t e f h = omega (arith, e, f, h)
