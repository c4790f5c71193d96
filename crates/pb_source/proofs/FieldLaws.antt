-- The readers of fields and maps read them.
use Rattle.std.proofs.Common.{◌≡◌, ℕ, suc, List, [], ◌∷◌, ◌++◌, Bool, true, false, not, codes, refl, ap, sym, ◌∙◌, subst, append_assoc, append-nil, Option, arith, ◌⊎◌, inl, inr}
use Rattle.std.specs.Str.{bytes_eq}
use Rattle.std.proofs.lemmas.Bool.{false≢true}
use Rattle.std.proofs.lemmas.Slice.Eq.{bytes_eq-Decides}
use Rattle.pb_declarations.specs.Decls.{DeclaredField}
use Rattle.pb_source_tokens.specs.declared.grammar.Grammar.{Grammar}
use Rattle.pb_source_tokens.specs.Symbols.{Symbol, word, number, text, sign}
use Rattle.pb_source_tokens.specs.Language.{Language, ◌▸◌, ◌or◌, Rules}
use Rattle.pb_source_tokens.specs.Said.{TypeSaid, a_scalar, a_name}
use Rattle.pb_source_tokens.specs.Phrases.{keyword, mark, name, fullname, counted, field_end, key_type, typed}
use Rattle.pb_source_tokens.specs.Readers.Forms.{first_passes, is_keyword, is_mark}
use Rattle.pb_source_tokens.specs.Readers.Phrases.{is_dot, type_of}
use Rattle.pb_source_tokens.proofs.ReaderLaws.{Reads, IsStop}
use Rattle.pb_source_tokens.proofs.Parts.{Answered, reads_answer, reads_less}
use Rattle.pb_source_tokens.proofs.Compose.{never, Mapped, Both, Behind, reads_mapped, reads_both, reads_both_so, reads_behind, reads_either, said_so}
use Rattle.pb_source_tokens.proofs.Heads.{Headed, headed_one, headed_then, headed_separated, fails_front, fails_rest, stops_front, is_a_word, word_or_sign, front_of_one}
use Rattle.pb_source_tokens.proofs.SymbolTests.{reads_mark, reads_keyword}
use Rattle.pb_source_tokens.proofs.NameLaws.{reads_name, name_first, reads_fullname, reads_type, reads_key, Undotted, Dotted, undotted_typed, typed_so}
use Rattle.pb_source_tokens.proofs.OptionLaws.{reads_counted, reads_field_end, mark_stops}
use Rattle.pb_source.specs.Syntaxes.{is_proto2}
use Rattle.pb_source.specs.declared.kind.Label.{Label}
use Rattle.pb_source.specs.declared.kind.Label.TheVariants.{Unlabelled}
use Rattle.pb_source.specs.Meaning.{MapDecl, MessageStatement}
use Rattle.pb_source.specs.Grammar.{lined, field, map_line}
use Rattle.pb_source.specs.Readers.Lines.{a_single, field_tail_reader, field_from, field_reader, map_from, map_tail_reader, dotted_reader, of_map_reader, map_rest_reader, map_reader}

-- ---- fields

-- word "=" integer [ opts ] ";"
abbrev pub Tail : (grammar : Grammar) → Rules → List ℕ × (ℕ × Option Bool) → Language
Tail grammar rules x = name x.0 ▸ mark "=" ▸ counted rules x.1.0 ▸ field_end grammar rules x.1.1

pub reads_field_tail : (grammar : Grammar) → (n : ℕ) → Reads n never (Tail grammar) (field_tail_reader grammar n)
unfolding field_tail_reader
reads_field_tail grammar n = reads_both reads_name (reads_behind {L = λ rules. mark "="} (reads_mark (codes "=")) (reads_both reads_counted (reads_field_end grammar n)))

tail_first : (grammar : Grammar) → (rules : Rules) (x : List ℕ × (ℕ × Option Bool)) (c : List Symbol) → Tail grammar rules x c → first_passes is_a_word c ≡ true
tail_first grammar rules x c d = headed_then is_a_word (name_first x.0) c d

tail_stops : (grammar : Grammar) → (rules : Rules) (x : List ℕ × (ℕ × Option Bool)) (c rest : List Symbol) → Tail grammar rules x c → IsStop is_dot (c ++ rest)
tail_stops grammar rules x c rest d = stops_front is_a_word is_dot (word_or_sign (codes ".")) c rest (tail_first grammar rules x c d)

pub reads_field : (grammar : Grammar) → (n : ℕ) (l : Label) → Reads n never (λ rules. field grammar rules l) (field_reader grammar n l)
unfolding field_reader
reads_field grammar n l =
    said_so {Q = λ rules. field grammar rules l}
    (reads_mapped (field_from l) (reads_both_so (reads_type n) (reads_field_tail grammar n) (λ rules x c rest d s. tail_stops grammar rules x c rest d)))
    (λ rules f c d. (d.0.0, d.0.1.0, d.0.1.1.0, d.0.1.1.1, d.1, d.2)) (λ rules f c d. ((d.0, (d.1, (d.2, d.3))), d.4, d.5))

-- a word, or a dot
abbrev pub begins_type : Symbol → Bool
begins_type (word w) = true
begins_type (sign c) = bytes_eq c (codes ".")
begins_type (number w) = false
begins_type (text b) = false

pub typed_first : (t : TypeSaid) → Headed begins_type (typed t)
typed_first (a_scalar k) c (w, h, d) = headed_one begins_type (word w) refl c d
typed_first (a_name n) c (inl (ws, e, d), f) = headed_separated name (mark ".") begins_type (λ w. headed_one begins_type (word w) refl) ws c d
typed_first (a_name n) c (inr (ws, e, d), f) = headed_then begins_type (headed_one begins_type (sign (codes ".")) refl) c d

pub field_first : (grammar : Grammar) → (rules : Rules) (l : Label) (f : DeclaredField) → Headed begins_type (field grammar rules l f)
field_first grammar rules l f c (t, w, n, p, e, d) = headed_then begins_type (typed_first t) c d

-- ---- maps

abbrev MapTail : (grammar : Grammar) → Rules → MapDecl → Language
MapTail grammar =
    Behind (λ rules. mark "<") (Mapped map_from
    (Both (λ rules. key_type) (Behind (λ rules. mark ",") (Both (λ rules. typed) (Behind (λ rules. mark ">") (Tail grammar))))))

reads_map_tail : (grammar : Grammar) → (n : ℕ) → Reads n never (MapTail grammar) (map_tail_reader grammar n)
unfolding map_tail_reader
reads_map_tail grammar n =
    reads_behind {L = λ rules. mark "<"} (reads_mark (codes "<"))
    (reads_mapped map_from
    (reads_both reads_key
    (reads_behind {L = λ rules. mark ","} (reads_mark (codes ","))
    (reads_both_so (reads_type n) (reads_behind {L = λ rules. mark ">"} (reads_mark (codes ">")) (reads_field_tail grammar n))
    (λ rules x c rest d s. mark_stops {S = Tail grammar rules x} (codes ">") c rest refl d)))))

-- { "." word }
abbrev Words : Rules → List (List ℕ) → Language
Words rules ws = (mark "." ▸ fullname ws) or Answered [] rules ws

reads_dotted : (n : ℕ) → Reads n is_dot Words (dotted_reader n)
unfolding dotted_reader
reads_dotted n =
    reads_either is_dot (reads_behind {L = λ rules. mark "."} (reads_mark (codes ".")) (reads_fullname n)) (reads_answer n is_dot [])
    (λ rules ws c d. headed_then is_dot (headed_one is_dot (sign (codes ".")) refl) c d)
    (λ rules ws c rest d s. ap (λ c. first_passes is_dot (c ++ rest)) d.1 ∙ fails_rest is_dot rest s)

abbrev OfMap : (grammar : Grammar) → Rules → DeclaredField → Language
OfMap grammar = Mapped (field_from Unlabelled) (Both (Mapped (λ ws. type_of (codes "map" ∷ ws)) Words) (Tail grammar))

reads_of_map : (grammar : Grammar) → (n : ℕ) → Reads n never (OfMap grammar) (of_map_reader grammar n)
unfolding of_map_reader
reads_of_map grammar n =
    reads_mapped (field_from Unlabelled)
    (reads_both_so (reads_mapped (λ ws. type_of (codes "map" ∷ ws)) (reads_dotted n)) (reads_less (suc n) n never (Tail grammar) (field_tail_reader grammar (suc n)) (omega arith) (reads_field_tail grammar (suc n)))
    (λ rules x c rest d s. tail_stops grammar rules x c rest d))

not_less : (grammar : Grammar) → (rules : Rules) (f : DeclaredField) (c rest : List Symbol) → OfMap grammar rules f c → first_passes (is_mark (codes "<")) (c ++ rest) ≡ false
not_less grammar rules f c rest (x, e, (a, b, (ws, i, inl d), hb, j)) =
    ap (λ c. first_passes (is_mark (codes "<")) (c ++ rest)) j ∙ ap (first_passes (is_mark (codes "<"))) (append_assoc a b rest)
    ∙ front_of_one {S = fullname ws} (is_mark (codes "<")) (sign (codes ".")) a (b ++ rest) d
not_less grammar rules f c rest (x, e, (a, b, (ws, i, inr d), hb, j)) =
    ap (λ c. first_passes (is_mark (codes "<")) (c ++ rest)) (j ∙ ap (λ a. a ++ b) d.1)
    ∙ fails_front is_a_word (is_mark (codes "<")) (word_or_sign (codes "<")) b rest (tail_first grammar rules x.1 b hb)

-- what follows the word `map`, where each field has a label, or where it may have none
abbrev MapRest : Bool → (grammar : Grammar) → Rules → MessageStatement → Language
MapRest true grammar = Mapped MessageStatement.a_map (MapTail grammar)
MapRest false grammar = λ rules st. Mapped MessageStatement.a_map (MapTail grammar) rules st or Mapped a_single (OfMap grammar) rules st

abbrev MapOrField : Bool → (grammar : Grammar) → Rules → MessageStatement → Language
MapOrField labelled grammar = Behind (λ rules. keyword "map") (MapRest labelled grammar)

abbrev MapOrNamed : Bool → (grammar : Grammar) → Rules → MessageStatement → Language
MapOrNamed labelled grammar rules st ts =
    ((m : MapDecl) × (st ≡ MessageStatement.a_map m) × map_line grammar rules m ts)
    ⊎ ((f : DeclaredField) × (st ≡ a_single f) × (first_passes (is_keyword (codes "map")) ts ≡ true) × lined (not labelled) (field grammar rules Unlabelled f) ts)

-- a map field, or a field without a label whose type begins with the word `map`
abbrev pub MapLine : (grammar : Grammar) → Rules → MessageStatement → Language
MapLine grammar = MapOrNamed (is_proto2 grammar) grammar

words_behind : (rules : Rules) (w : List ℕ) (ws : List (List ℕ)) (a p : List Symbol) → name w a → Words rules ws p → fullname (w ∷ ws) (a ++ p)
words_behind rules w [] a p ha (inl (s, t, hs, ht, i)) = absurd ht
words_behind rules w (v ∷ ws) a p ha (inl d) = (a, p, ha, d, refl)
words_behind rules w ws a p ha (inr (e, i)) = subst (λ ws. fullname (w ∷ ws) (a ++ p)) (sym e) (ap (λ p. a ++ p) i ∙ append-nil a ∙ ha)

behind_words : (rules : Rules) (w : List ℕ) (ws : List (List ℕ)) (u : List Symbol) → fullname (w ∷ ws) u → (p : List Symbol) × (u ≡ word w ∷ p) × Words rules ws p
behind_words rules w [] u d = ([], d, inr (refl, refl))
behind_words rules w (v ∷ ws) u (a, b, ha, hb, j) = (b, j ∙ ap (λ a. a ++ b) ha, inl hb)

to_map_line : (labelled : Bool) (grammar : Grammar) → (rules : Rules) (st : MessageStatement) (c : List Symbol) → MapOrField labelled grammar rules st c → MapOrNamed labelled grammar rules st c
to_map_line true grammar rules st c (a, b, ha, (m, e, (s, t, hs, (x, i, d), k)), j) = inl (map_from x, e ∙ ap MessageStatement.a_map i, (a, b, ha, (s, t, hs, d, k), j))
to_map_line false grammar rules st c (a, b, ha, inl (m, e, (s, t, hs, (x, i, d), k)), j) = inl (map_from x, e ∙ ap MessageStatement.a_map i, (a, b, ha, (s, t, hs, d, k), j))
to_map_line false grammar rules st c (a, b, ha, inr (f, e, (x, i, (p, q, (ws, k, dw), hq, l))), j) =
    inr (
      f,
      e,
      headed_then {S = λ ts. Unit {0}} (is_keyword (codes "map")) (headed_one (is_keyword (codes "map")) (word (codes "map")) refl) c (a, b, ha, tt, j),
      (
        x.0,
        x.1.0,
        x.1.1.0,
        x.1.1.1,
        i,
        (a ++ p, q, undotted_typed rules x.0 (a ++ p) (codes "map" ∷ ws, k, words_behind rules (codes "map") ws a p ha dw), hq, j ∙ ap (λ b. a ++ b) l ∙ sym (append_assoc a p q)),
      ),
    )

module _ (grammar : Grammar) (rules : Rules) (st : MessageStatement) (c : List Symbol) (f : DeclaredField) (e : st ≡ a_single f) (h : first_passes (is_keyword (codes "map")) c ≡ true)
    (t : TypeSaid) (x : List ℕ × (ℕ × Option Bool)) (i : f ≡ field_from Unlabelled (t, x)) (u r : List Symbol) (hr : (Tail grammar) rules x r) (j : c ≡ u ++ r) where
  no_dot : Dotted rules t u → ⊥
  no_dot (a, b, ha, hb, k) =
      let s : c ≡ sign (codes ".") ∷ (b ++ r) = j ∙ ap (λ u. u ++ r) (k ∙ ap (λ a. a ++ b) ha) in
      false≢true (sym (ap (first_passes (is_keyword (codes "map"))) s) ∙ h)

  of_words : Undotted rules t u → MapOrField false grammar rules st c
  of_words ([], k, d) = absurd d
  of_words (w ∷ ws, k, d) =
      let z = behind_words rules w ws u d in
      let s : c ≡ word w ∷ (z.0 ++ r) = j ∙ ap (λ u. u ++ r) z.1 in
      let is_it : w ≡ codes "map" = (bytes_eq-Decides w (codes "map")).0 (sym (ap (first_passes (is_keyword (codes "map"))) s) ∙ h) in (
        word (codes "map") ∷ [],
        z.0 ++ r,
        refl,
        inr (f, e, ((t, x), i, (z.0, r, (ws, k ∙ ap (λ w. type_of (w ∷ ws)) is_it, z.2), hr, refl))),
        s ∙ ap (λ w. word w ∷ (z.0 ++ r)) is_it,
      )

  of_typed : Dotted rules t u ⊎ Undotted rules t u → MapOrField false grammar rules st c
  of_typed (inl d) = absurd (no_dot d)
  of_typed (inr d) = of_words d

of_map_line : (labelled : Bool) (grammar : Grammar) → (rules : Rules) (st : MessageStatement) (c : List Symbol) → MapOrNamed labelled grammar rules st c → MapOrField labelled grammar rules st c
of_map_line true grammar rules st c (inl (m, e, (a, b, ha, (s, t, hs, d, k), j))) =
    (a, b, ha, (m, e, (s, t, hs, ((m.key, (m.value, (m.name, (m.number, m.packed)))), refl, d), k)), j)
of_map_line true grammar rules st c (inr (f, e, h, d)) = absurd d
of_map_line false grammar rules st c (inl (m, e, (a, b, ha, (s, t, hs, d, k), j))) =
    (a, b, ha, inl (m, e, (s, t, hs, ((m.key, (m.value, (m.name, (m.number, m.packed)))), refl, d), k)), j)
of_map_line false grammar rules st c (inr (f, e, h, (t, w, n, p, i, (u, r, hu, hr, j)))) = of_typed grammar rules st c f e h t (w, (n, p)) i u r hr j (typed_so rules t u hu)

reads_map_rest : (labelled : Bool) (grammar : Grammar) (n : ℕ) → Reads n never (MapRest labelled grammar) (map_rest_reader labelled grammar n)
reads_map_rest true grammar n = reads_mapped MessageStatement.a_map (reads_less (suc n) n never (MapTail grammar) (map_tail_reader grammar (suc n)) (omega arith) (reads_map_tail grammar (suc n)))
reads_map_rest false grammar n =
    (reads_either (is_mark (codes "<")) (reads_mapped MessageStatement.a_map (reads_less (suc n) n never (MapTail grammar) (map_tail_reader grammar (suc n)) (omega arith) (reads_map_tail grammar (suc n))))
    (reads_mapped a_single (reads_of_map grammar n))
    (λ rules st c d. headed_then (is_mark (codes "<")) (headed_one (is_mark (codes "<")) (sign (codes "<")) refl) c d.2)
    (λ rules st c rest d s. not_less grammar rules d.0 c rest d.2))

pub reads_map : (grammar : Grammar) → (n : ℕ) → Reads n never (MapLine grammar) (map_reader grammar n)
unfolding map_reader
reads_map grammar n =
    said_so {Q = MapLine grammar}
    (reads_behind {L = λ rules. keyword "map"} (reads_keyword (codes "map")) (reads_map_rest (is_proto2 grammar) grammar n))
    (to_map_line (is_proto2 grammar) grammar) (of_map_line (is_proto2 grammar) grammar)

pub map_line_first : (grammar : Grammar) → (rules : Rules) (st : MessageStatement) (c : List Symbol) → MapLine grammar rules st c → first_passes (is_keyword (codes "map")) c ≡ true
map_line_first grammar rules st c (inl (m, e, d)) = headed_then (is_keyword (codes "map")) (headed_one (is_keyword (codes "map")) (word (codes "map")) refl) c d
map_line_first grammar rules st c (inr (f, e, h, d)) = h
