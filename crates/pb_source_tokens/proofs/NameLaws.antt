-- The readers of names and types read them.
use Rattle.std.proofs.Common.{◌≡◌, ℕ, List, [], ◌∷◌, ◌++◌, Bool, true, false, codes, refl, ap, sym, ◌∙◌, subst, Option, Some, None, arith, inl, inr}
use Rattle.std.proofs.lemmas.Bool.{false≢true}
use Rattle.pb_declarations.specs.declared.decl.TypeCode.{TypeCode}
use Rattle.pb_declarations.specs.declared.decl.TypeCode.TheVariants as code
use Rattle.pb_source_tokens.specs.Symbols.{Symbol, word, number, text, sign}
use Rattle.pb_source_tokens.specs.Language.{Language, ◌▸◌, Rules}
use Rattle.pb_source_tokens.specs.Said.{TypeSaid, a_scalar, a_name, joined}
use Rattle.pb_source_tokens.specs.Phrases.{name, mark, fullname, typename, typed, key_type, scalar_code}
use Rattle.pb_source_tokens.specs.Readers.Forms.{first_passes, mark_reader}
use Rattle.pb_source_tokens.specs.Readers.Phrases.{is_dot, word_in, name_reader, fullname_reader, typename_reader, type_of_word, type_of, type_reader, key_in, key_reader}
use Rattle.pb_source_tokens.proofs.ReaderLaws.{Reads}
use Rattle.pb_source_tokens.proofs.Compose.{never, any_stop, Mapped, Behind, reads_mapped, reads_behind, reads_either, said_so}
use Rattle.pb_source_tokens.proofs.Heads.{headed_one, headed_then, headed_separated, fails_front, fails_rest, is_a_word, word_or_sign, filled_front}
use Rattle.pb_source_tokens.proofs.SymbolTests.{some_same, reads_plain, reads_mark}
use Rattle.pb_source_tokens.proofs.Loops.{reads_separated}

pub reads_name : {n : ℕ} {e : Symbol → Bool} → Reads n e (λ rules. name) name_reader
unfolding name_reader
reads_name = reads_plain {R = name} word_in (word []) [] refl to (λ w c d. (word w, refl, d))
  where
    to : (s : Symbol) (v : List ℕ) → word_in s ≡ Some v → name v (s ∷ [])
    to (word w) v h = ap (λ w. word w ∷ []) (some_same h)
    to (number w) v h = absurd (cc h)
    to (text w) v h = absurd (cc h)
    to (sign w) v h = absurd (cc h)

pub name_first : (w : List ℕ) (c : List Symbol) → name w c → first_passes is_a_word c ≡ true
name_first w = headed_one is_a_word (word w) refl

pub fullname_first : (ws : List (List ℕ)) (c : List Symbol) → fullname ws c → first_passes is_a_word c ≡ true
fullname_first = headed_separated name (mark ".") is_a_word name_first

pub dot_fails : (c rest : List Symbol) → first_passes is_a_word c ≡ true → first_passes is_dot (c ++ rest) ≡ false
dot_fails c rest h = fails_front is_a_word is_dot (word_or_sign (codes ".")) c rest h

dot_passes : {S : Language} (c : List Symbol) → (mark "." ▸ S) c → first_passes is_dot c ≡ true
dot_passes c d = headed_then is_dot (headed_one is_dot (sign (codes ".")) refl) c d

-- names of words joined by dots are read as far as no dot follows
pub reads_fullname : (n : ℕ) → Reads n is_dot (λ rules. fullname) (fullname_reader n)
unfolding fullname_reader
reads_fullname n =
    reads_separated n never is_dot is_dot (λ rules. name) (λ rules u. mark ".") name_reader (mark_reader (codes ".")) reads_name (reads_mark (codes "."))
    (λ rules u c h. headed_one is_dot (sign (codes ".")) refl c h) (λ rest s. (any_stop rest, fails_rest is_dot rest s)) (λ rules u c rest h. any_stop (c ++ rest))
    (λ rules w c h. filled_front is_a_word c (name_first w c h)) n (omega arith)

pub reads_typename : (n : ℕ) → Reads n is_dot (λ rules. typename) (typename_reader n)
unfolding typename_reader
reads_typename n =
    said_so {Q = λ rules. typename}
    (reads_either is_dot (reads_behind {L = λ rules. mark "."} (reads_mark (codes ".")) (reads_mapped (λ ws. 46 ∷ joined ws) (reads_fullname n))) (reads_mapped joined (reads_fullname n))
    (λ rules v c d. dot_passes c d) (λ rules v c rest d s. dot_fails c rest (fullname_first d.0 c d.2)))
    (λ rules v c d. elim d [ inl x ↦ inr (x.3.0, x.3.1, (x.0, x.1, x.2, x.3.2, x.4)) | inr x ↦ inl x ])
    (λ rules v c d. elim d [ inl x ↦ inr x | inr x ↦ inl (x.2.0, x.2.1, x.2.2, (x.0, x.1, x.2.3), x.2.4) ])

-- ---- types

same_word : (w v : List ℕ) (c : List Symbol) → name w c → name v c → w ≡ v
same_word w v c h k = let e : word w ∷ [] ≡ word v ∷ [] = sym h ∙ k in cc e

no_dots : (w v : List ℕ) (c : List Symbol) {S : Language} → (name w ▸ mark "." ▸ S) c → name v c → ⊥
no_dots w v c (a, b, ha, (x, y, hx, hy, k), j) h =
    let e : c ≡ word w ∷ sign (codes ".") ∷ y = j ∙ ap (λ a. a ++ b) ha ∙ ap (λ b. word w ∷ b) (k ∙ ap (λ x. x ++ y) hx) in absurd (cc (e, h))

abbrev pub Dotted : Rules → TypeSaid → Language
Dotted = Behind (λ rules. mark ".") (Mapped (λ ws. a_name (46 ∷ joined ws)) (λ rules. fullname))

abbrev pub Undotted : Rules → TypeSaid → Language
Undotted = Mapped type_of (λ rules. fullname)

dotted_typed : (rules : Rules) (t : TypeSaid) (c : List Symbol) → Dotted rules t c → typed t c
dotted_typed rules t c (a, b, ha, (ws, e, hb), j) =
    subst (λ t. typed t c) (sym e) (inr (ws, refl, (a, b, ha, hb, j)), λ w d. absurd (false≢true (ap (first_passes is_dot) (sym d) ∙ dot_passes {S = fullname ws} c (a, b, ha, hb, j))))

word_typed : (w : List ℕ) (c : List Symbol) (o : Option TypeCode) → scalar_code w ≡ o → name w c → typed (type_of_word w o) c
word_typed w c None h d = (inl (w ∷ [], refl, d), λ v k. ap scalar_code (same_word v w c k d) ∙ h)
word_typed w c (Some k) h d = (w, h, d)

pub undotted_typed : (rules : Rules) (t : TypeSaid) (c : List Symbol) → Undotted rules t c → typed t c
undotted_typed rules t c ([], e, d) = absurd d
undotted_typed rules t c (w ∷ [], e, d) = subst (λ t. typed t c) (sym e) (word_typed w c (scalar_code w) refl d)
undotted_typed rules t c (w ∷ v ∷ ws, e, d) = subst (λ t. typed t c) (sym e) (inl (w ∷ v ∷ ws, refl, d), λ u k. absurd (no_dots w u c {S = fullname (v ∷ ws)} d k))

named_so : (n : List ℕ) (ws : List (List ℕ)) (c : List Symbol) → n ≡ joined ws → fullname ws c → ((w : List ℕ) → name w c → scalar_code w ≡ None) → a_name n ≡ type_of ws
named_so n [] c e d f = absurd d
named_so n (w ∷ []) c e d f = ap a_name e ∙ ap (type_of_word w) (sym (f w d))
named_so n (w ∷ v ∷ ws) c e d f = ap a_name e

pub typed_so : (rules : Rules) (t : TypeSaid) (c : List Symbol) → typed t c → Rattle.std.proofs.Common.◌⊎◌ (Dotted rules t c) (Undotted rules t c)
typed_so rules (a_scalar k) c (w, h, d) = inr (w ∷ [], ap (type_of_word w) (sym h), d)
typed_so rules (a_name n) c (inl (ws, e, d), f) = inr (ws, named_so n ws c e d f, d)
typed_so rules (a_name n) c (inr (ws, e, (a, b, ha, hb, j)), f) = inl (a, b, ha, (ws, ap a_name e, hb), j)

pub reads_type : (n : ℕ) → Reads n is_dot (λ rules. typed) (type_reader n)
unfolding type_reader
reads_type n =
    said_so {Q = λ rules. typed}
    (reads_either is_dot (reads_behind {L = λ rules. mark "."} (reads_mark (codes ".")) (reads_mapped (λ ws. a_name (46 ∷ joined ws)) (reads_fullname n))) (reads_mapped type_of (reads_fullname n))
    (λ rules v c d. dot_passes c d) (λ rules v c rest d s. dot_fails c rest (fullname_first d.0 c d.2)))
    (λ rules v c d. elim d [ inl x ↦ dotted_typed rules v c x | inr x ↦ undotted_typed rules v c x ])
    typed_so

pub reads_key : {n : ℕ} {e : Symbol → Bool} → Reads n e (λ rules. key_type) key_reader
unfolding key_reader
reads_key = reads_plain {R = key_type} key_in (word (codes "int32")) code.Int32 refl to (λ k c d. (word d.0, d.1, d.2))
  where
    to : (s : Symbol) (k : TypeCode) → key_in s ≡ Some k → key_type k (s ∷ [])
    to (word w) k h = (w, h, refl)
    to (number w) k h = absurd (cc h)
    to (text w) k h = absurd (cc h)
    to (sign w) k h = absurd (cc h)
