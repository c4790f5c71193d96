-- Kinds of statements by tables of words and signs, and bodies in braces.
use Rattle.std.proofs.Common.{◌≡◌, ℕ, ◌≤◌, List, [], ◌∷◌, ◌++◌, length, Bool, true, false, ◌||◌, codes, refl, ap, sym, ◌∙◌, Option, Some, arith}
use Rattle.std.specs.Prelude.{if◌then◌else◌}
use Rattle.std.specs.Str.{bytes_eq}
use Rattle.std.proofs.lemmas.Bool.{false≢true, or_parts}
use Rattle.pb_source_tokens.specs.Symbols.{Symbol, sign}
use Rattle.pb_source_tokens.specs.Language.{Language, ◌▸◌, one, Rules}
use Rattle.pb_source_tokens.specs.Phrases.{mark, Until}
use Rattle.pb_source_tokens.specs.Readers.Forms.{Reader, first_passes, mark_reader}
use Rattle.pb_source_tokens.proofs.ReaderLaws.{Reads}
use Rattle.pb_source_tokens.proofs.Compose.{never, reads_behind}
use Rattle.pb_source_tokens.proofs.Heads.{headed_one}
use Rattle.pb_source_tokens.proofs.SymbolTests.{reads_mark}
use Rattle.pb_source_tokens.proofs.Loops.{reads_until}
use Rattle.pb_source_tokens.proofs.KindLemmas.{first_kind}
use Rattle.pb_source.specs.Readers.Lines.{is_closing, braced, kind_in}

abbrev pub in_table : {K : Type 0} → List (List ℕ × Option K) → List ℕ → Bool
in_table [] w = false
in_table (e ∷ es) w = bytes_eq w e.0 || in_table es w

-- a word that the table doesn't have is of the other kind
pub kind_other : {K : Type 0} (es : List (List ℕ × Option K)) (other : Option K) (w : List ℕ) → in_table es w ≡ false → kind_in es other w ≡ other
kind_other [] other w h = refl
kind_other (e ∷ es) other w h = let x = or_parts (bytes_eq w e.0) (in_table es w) h in rw x.0 (kind_other es other w x.1)

-- the kind stands in no row
abbrev pub NoRow : {K : Type 0} → List (List ℕ × Option K) → K → Type 0
NoRow [] k = Unit {0}
NoRow (e ∷ es) k = (e.1 ≡ Some k → ⊥) × NoRow es k

pub not_in_table : {K : Type 0} (es : List (List ℕ × Option K)) (k : K) (w : List ℕ) → NoRow es k → kind_in es (Some k) w ≡ Some k → in_table es w ≡ false
not_in_table [] k w n h = refl
not_in_table (e ∷ es) k w n h = by_test (bytes_eq w e.0) refl (not_in_table es k w n.1)
  where
    by_test : (b : Bool) → bytes_eq w e.0 ≡ b → (kind_in es (Some k) w ≡ Some k → in_table es w ≡ false) → in_table (e ∷ es) w ≡ false
    by_test true f rest = absurd (n.0 (ap (λ b. if b then e.1 else kind_in es (Some k) w) (sym f) ∙ h))
    by_test false f rest = ap (λ b. b || in_table es w) f ∙ rest (ap (λ b. if b then e.1 else kind_in es (Some k) w) (sym f) ∙ h)

pub in_front : {K : Type 0} (es fs : List (List ℕ × Option K)) (w : List ℕ) → in_table (es ++ fs) w ≡ false → in_table es w ≡ false
in_front [] fs w h = refl
in_front (e ∷ es) fs w h = let x = or_parts (bytes_eq w e.0) (in_table (es ++ fs) w) h in ap (λ b. b || in_table es w) x.0 ∙ in_front es fs w x.1

pub in_both : {K : Type 0} (es fs : List (List ℕ × Option K)) (w : List ℕ) → in_table es w ≡ false → in_table fs w ≡ false → in_table (es ++ fs) w ≡ false
in_both [] fs w h k = k
in_both (e ∷ es) fs w h k = let x = or_parts (bytes_eq w e.0) (in_table es w) h in ap (λ b. b || in_table (es ++ fs) w) x.0 ∙ in_both es fs w x.1 k

-- the kind of what begins with a symbol
pub kind_one : {K : Type 0} (kind : Symbol → Option K) (s : Symbol) (c : List Symbol) → one s c → first_kind kind c ≡ kind s
kind_one kind s c d = ap (first_kind kind) d

pub kind_then : {K : Type 0} {S : Language} (kind : Symbol → Option K) (s : Symbol) (c : List Symbol) → (one s ▸ S) c → first_kind kind c ≡ kind s
kind_then kind s c (a, b, ha, hb, j) = ap (first_kind kind) (j ∙ ap (λ a. a ++ b) ha)

pub kind_front : {K : Type 0} (kind : Symbol → Option K) (k : K) (test : Symbol → Bool) → ((s : Symbol) → test s ≡ true → kind s ≡ Some k) → (c : List Symbol) → first_passes test c ≡ true → first_kind kind c ≡ Some k
kind_front kind k test f [] h = absurd (false≢true h)
kind_front kind k test f (s ∷ c) h = f s h

-- "{" { item } "}"
pub reads_braced : {I : Type 0} {n : ℕ} {Item : Rules → I → Language} {item : Reader I} → Reads n never Item item
    → ((rules : Rules) (i : I) (c rest : List Symbol) → Item rules i c → first_passes is_closing (c ++ rest) ≡ false)
    → ((rules : Rules) (i : I) (c : List Symbol) → Item rules i c → 1 ≤ length c)
    → Reads n never (λ rules is. mark "{" ▸ Until (Item rules) (mark "}") is) (braced n item)
reads_braced {I} {n} {Item} {item} ri not_closing full =
    reads_behind {L = λ rules. mark "{"} (reads_mark (codes "{"))
    (reads_until n is_closing Item (λ rules u. mark "}") item (mark_reader (codes "}")) ri (reads_mark (codes "}"))
    (λ rules u c d. headed_one is_closing (sign (codes "}")) refl c d) not_closing full n (omega arith))
