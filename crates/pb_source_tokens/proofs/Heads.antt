-- The symbols that words begin with.
use Rattle.std.proofs.Common.{◌≡◌, ℕ, ◌≤◌, List, [], ◌∷◌, ◌++◌, length, Bool, true, false, refl, ap, ◌∙◌, arith}
use Rattle.std.proofs.lemmas.Bool.{false≢true}
use Rattle.pb_source_tokens.specs.Symbols.{Symbol, word, number, text, sign}
use Rattle.pb_source_tokens.specs.Language.{Language, ◌▸◌, one}
use Rattle.pb_source_tokens.specs.Phrases.{Separated}
use Rattle.pb_source_tokens.specs.Readers.Forms.{first_passes, is_mark, is_keyword}
use Rattle.pb_source_tokens.proofs.ReaderLaws.{IsStop}
use Rattle.pb_source_tokens.proofs.Parts.{passes_front}

-- each word begins with a symbol that passes
abbrev pub Headed : (Symbol → Bool) → Language → Type 0
Headed test R = (c : List Symbol) → R c → first_passes test c ≡ true

pub headed_one : (test : Symbol → Bool) (s : Symbol) → test s ≡ true → Headed test (one s)
headed_one test s h c d = ap (first_passes test) d ∙ h

pub headed_then : {R S : Language} (test : Symbol → Bool) → Headed test R → Headed test (R ▸ S)
headed_then test h c (a, b, ha, hb, j) = ap (first_passes test) j ∙ passes_front test a b (h a ha)

pub headed_separated : {I : Type 0} (Item : I → Language) (separator : Language) (test : Symbol → Bool) → ((i : I) → Headed test (Item i)) → (is : List I) → Headed test (Separated Item separator is)
headed_separated Item separator test h [] c d = absurd d
headed_separated Item separator test h (i ∷ []) c d = h i c d
headed_separated Item separator test h (i ∷ j ∷ is) c (a, b, ha, hb, k) = ap (first_passes test) k ∙ passes_front test a b (h i a ha)

-- no symbol passes both
abbrev pub Apart : (Symbol → Bool) → (Symbol → Bool) → Type 0
Apart test other = (s : Symbol) → test s ≡ true → other s ≡ false

pub fails_front : (test other : Symbol → Bool) → Apart test other → (c rest : List Symbol) → first_passes test c ≡ true → first_passes other (c ++ rest) ≡ false
fails_front test other apart [] rest h = absurd (false≢true h)
fails_front test other apart (s ∷ c) rest h = apart s h

pub fails_alone : (test other : Symbol → Bool) → Apart test other → (c : List Symbol) → first_passes test c ≡ true → first_passes other c ≡ false
fails_alone test other apart [] h = absurd (false≢true h)
fails_alone test other apart (s ∷ c) h = apart s h

pub stops_front : (test other : Symbol → Bool) → Apart test other → (c rest : List Symbol) → first_passes test c ≡ true → IsStop other (c ++ rest)
stops_front test other apart [] rest h = absurd (false≢true h)
stops_front test other apart (s ∷ c) rest h = apart s h

pub filled_front : (test : Symbol → Bool) (c : List Symbol) → first_passes test c ≡ true → 1 ≤ length c
filled_front test [] h = absurd (false≢true h)
filled_front test (s ∷ c) h = omega arith

-- where nothing that stops passes, the rest does not pass
pub fails_rest : (other : Symbol → Bool) (rest : List Symbol) → IsStop other rest → first_passes other rest ≡ false
fails_rest other [] s = refl
fails_rest other (t ∷ rest) s = s

pub stops_rest : (other : Symbol → Bool) (rest : List Symbol) → first_passes other rest ≡ false → IsStop other rest
stops_rest other [] s = tt
stops_rest other (t ∷ rest) s = s

abbrev pub is_a_word : Symbol → Bool
is_a_word (word w) = true
is_a_word (number w) = false
is_a_word (text b) = false
is_a_word (sign c) = false

abbrev pub is_a_sign : Symbol → Bool
is_a_sign (sign c) = true
is_a_sign (word w) = false
is_a_sign (number w) = false
is_a_sign (text b) = false

pub word_or_sign : (w : List ℕ) → Apart is_a_word (is_mark w)
word_or_sign w (word v) h = refl
word_or_sign w (number v) h = absurd (false≢true h)
word_or_sign w (text v) h = absurd (false≢true h)
word_or_sign w (sign v) h = absurd (false≢true h)

pub sign_or_word : (w : List ℕ) → Apart is_a_sign (is_keyword w)
sign_or_word w (sign v) h = refl
sign_or_word w (number v) h = absurd (false≢true h)
sign_or_word w (text v) h = absurd (false≢true h)
sign_or_word w (word v) h = absurd (false≢true h)

-- the symbols that begin with one symbol do so whatever follows
pub front_of_one : {S : Language} (test : Symbol → Bool) (s : Symbol) (c rest : List Symbol) → (one s ▸ S) c → first_passes test (c ++ rest) ≡ test s
front_of_one test s c rest (a, b, ha, hb, j) = ap (λ z. first_passes test (z ++ rest)) (j ∙ ap (λ z. z ++ b) ha)

pub front_of : (test : Symbol → Bool) (s : Symbol) (c rest : List Symbol) → one s c → first_passes test (c ++ rest) ≡ test s
front_of test s c rest h = ap (λ z. first_passes test (z ++ rest)) h
