-- The readers of ranges, and of texts that are UTF-8, read them.
use Rattle.std.proofs.Common.{◌≡◌, ℕ, ℤ, pos, List, [], ◌∷◌, ◌++◌, Bool, true, false, codes, refl, ap, sym, ◌∙◌, subst, append-nil, Some, arith, inl, inr, IsUtf8}
use Rattle.std.specs.Str.{is_utf8}
use Rattle.std.proofs.lemmas.Bool.{false≢true}
use Rattle.std.proofs.lemmas.Str.{IsUtf8-from_is_utf8, is_utf8-from_IsUtf8}
use Rattle.pb_source_tokens.specs.declared.rule.Rule.TheVariants.{TextsValid as texts_valid}
use Rattle.pb_source_tokens.specs.Symbols.{Symbol, word, number, text, sign}
use Rattle.pb_source_tokens.specs.Language.{Language, ◌or◌, Rules}
use Rattle.pb_source_tokens.specs.Phrases.{keyword, unsigned, signed, range, utf8_text, end_behind, message_range, enum_range}
use Rattle.pb_source_tokens.specs.Readers.Forms.{Reader, answer, preceded, mapped, choice, first_passes, is_keyword, keyword_reader}
use Rattle.pb_source_tokens.specs.Readers.Phrases.{is_text, counted_reader, signed_reader, range_reader, message_range_reader, enum_range_reader, utf8_in, utf8_reader}
use Rattle.pb_source_tokens.proofs.ReaderLaws.{Reads, Chained, reads_chain}
use Rattle.pb_source_tokens.proofs.Parts.{Answered, reads_answer}
use Rattle.pb_source_tokens.proofs.Compose.{never, any_stop, Mapped, Behind, reads_mapped, reads_behind, reads_either, said_so}
use Rattle.pb_source_tokens.proofs.Heads.{Headed, headed_one, headed_then, Apart, fails_front, fails_rest}
use Rattle.pb_source_tokens.proofs.SymbolTests.{Keeps, reads_judged, reads_keyword}
use Rattle.pb_source_tokens.proofs.OptionLaws.{reads_counted, reads_signed}

-- ---- texts

-- the empty text is UTF-8
pub nil_valid : is_utf8 [] ≡ true
nil_valid = is_utf8-from_IsUtf8 [] ([], (refl, refl))

pub reads_utf8 : {n : ℕ} {e : Symbol → Bool} → Reads n e utf8_text utf8_reader
unfolding utf8_reader
reads_utf8 = reads_judged texts_valid utf8_in (text []) [] (ap (λ b. Some ([], b)) nil_valid) to from
  where
    to : (rules : Rules) (s : Symbol) (v : List ℕ) (ok : Bool) → utf8_in s ≡ Some (v, ok) → Keeps texts_valid rules ok → utf8_text rules v (s ∷ [])
    to rules (text b) v ok h k =
        let p : ◌≡◌ {A = List ℕ × Bool} (b, is_utf8 b) (v, ok) = cc h in
        let e : b ≡ v = ap (λ x. x.0) p in
        (elim k [ inl t ↦ inl (subst (λ b. IsUtf8 b) e (IsUtf8-from_is_utf8 b (ap (λ x. x.1) p ∙ t))) | inr r ↦ inr r ], ap (λ b. text b ∷ []) e)
    to rules (word b) v ok h k = absurd (cc h)
    to rules (number b) v ok h k = absurd (cc h)
    to rules (sign b) v ok h k = absurd (cc h)

    from : (rules : Rules) (v : List ℕ) (c : List Symbol) → utf8_text rules v c → (s : Symbol) × (ok : Bool) × (utf8_in s ≡ Some (v, ok)) × Keeps texts_valid rules ok × (c ≡ s ∷ [])
    from rules v c (k, d) = (text v, is_utf8 v, refl, elim k [ inl u ↦ inl (is_utf8-from_IsUtf8 v u) | inr r ↦ inr r ], d)

pub utf8_first : (rules : Rules) (v : List ℕ) → Headed is_text (utf8_text rules v)
utf8_first rules v c (k, d) = headed_one is_text (text v) refl c d

-- ---- ranges

-- a number, or a sign before one
abbrev pub begins_bound : Symbol → Bool
begins_bound (number w) = true
begins_bound (sign c) = true
begins_bound (word w) = false
begins_bound (text b) = false

bound_or_word : (w : List ℕ) → Apart begins_bound (is_keyword w)
bound_or_word w (number v) h = refl
bound_or_word w (sign v) h = refl
bound_or_word w (word v) h = absurd (false≢true h)
bound_or_word w (text v) h = absurd (false≢true h)

abbrev pub is_to : Symbol → Bool
is_to = is_keyword (codes "to")

module _ (B : Rules → ℤ → Language) (bound : Reader ℤ) (end : ℤ → ℤ) (greatest : ℤ) (first : (rules : Rules) (z : ℤ) → Headed begins_bound (B rules z)) where
  abbrev UpTo : ℤ → Rules → ℤ × ℤ → Language
  UpTo a rules r = Mapped {A = Unit {0}} (λ _. (a, greatest)) (λ rules u. keyword "max") rules r or Mapped (λ z. (a, end z)) B rules r

  abbrev End : ℤ → Rules → ℤ × ℤ → Language
  End a rules r = Behind (λ rules. keyword "to") (UpTo a) rules r or Answered (a, end a) rules r

  to_range : (rules : Rules) (r : ℤ × ℤ) (c : List Symbol) → Chained B End rules r c → range (B rules) end greatest r c
  to_range rules r c (a, (x, y, hx, inl (p, q, hp, inl (u, e, hm), i), j)) =
      subst (λ r. range (B rules) end greatest r c) (sym e) (inr (inr (refl, (x, y, hx, (p, q, hp, hm, i), j))))
  to_range rules r c (a, (x, y, hx, inl (p, q, hp, inr (m, e, hm), i), j)) =
      subst (λ r. range (B rules) end greatest r c) (sym e) (inr (inl (m, refl, (x, y, hx, (p, q, hp, hm, i), j))))
  to_range rules r c (a, (x, y, hx, inr (e, k), j)) =
      subst (λ r. range (B rules) end greatest r c) (sym e) (inl (refl, subst (B rules a) (sym (j ∙ ap (λ y. x ++ y) k ∙ append-nil x)) hx))

  ends_so : (r : ℤ × ℤ) (z : ℤ) → r.1 ≡ z → ◌≡◌ {A = ℤ × ℤ} r (r.0, z)
  ends_so r z h = ap (λ z. (r.0, z)) h

  of_range : (rules : Rules) (r : ℤ × ℤ) (c : List Symbol) → range (B rules) end greatest r c → Chained B End rules r c
  of_range rules r c (inl (e, d)) = (r.0, (c, [], d, inr (ends_so r (end r.0) e, refl), sym (append-nil c)))
  of_range rules r c (inr (inl (m, e, (x, y, hx, (p, q, hp, hm, i), j)))) = (r.0, (x, y, hx, inl (p, q, hp, inr (m, ends_so r (end m) e, hm), i), j))
  of_range rules r c (inr (inr (e, (x, y, hx, (p, q, hp, hm, i), j)))) = (r.0, (x, y, hx, inl (p, q, hp, inl (tt, ends_so r greatest e, hm), i), j))

  reads_end : (n : ℕ) (a : ℤ) → Reads n never B bound → Reads n is_to (End a)
      (choice is_to (preceded (keyword_reader (codes "to")) (choice (is_keyword (codes "max")) (mapped (λ _. (a, greatest)) (keyword_reader (codes "max"))) (mapped (λ z. (a, end z)) bound))) (answer (a, end a)))
  reads_end n a rb =
      reads_either {p = preceded (keyword_reader (codes "to")) (choice (is_keyword (codes "max")) (mapped (λ _. (a, greatest)) (keyword_reader (codes "max"))) (mapped (λ z. (a, end z)) bound))}
      is_to
      (Rattle.pb_source_tokens.proofs.Parts.reads_stop n never is_to (Behind (λ rules. keyword "to") (UpTo a))
      (preceded (keyword_reader (codes "to")) (choice (is_keyword (codes "max")) (mapped (λ _. (a, greatest)) (keyword_reader (codes "max"))) (mapped (λ z. (a, end z)) bound)))
      (λ rest s. any_stop rest)
      (reads_behind {L = λ rules. keyword "to"} {S = UpTo a} (reads_keyword (codes "to"))
      (reads_either (is_keyword (codes "max")) (reads_mapped {A = Unit {0}} {R = λ rules u. keyword "max"} (λ _. (a, greatest)) (reads_keyword (codes "max"))) (reads_mapped (λ z. (a, end z)) rb)
      (λ rules r c d. headed_one (is_keyword (codes "max")) (word (codes "max")) refl c d.2)
      (λ rules r c rest d s. fails_front begins_bound (is_keyword (codes "max")) (bound_or_word (codes "max")) c rest (first rules d.0 c d.2)))))
      (reads_answer n is_to (a, end a))
      (λ rules r c d. headed_then is_to (headed_one is_to (word (codes "to")) refl) c d)
      (λ rules r c rest d s. ap (λ c. first_passes is_to (c ++ rest)) d.1 ∙ fails_rest is_to rest s)

  pub reads_range : (n : ℕ) → Reads n never B bound → Reads n is_to (λ rules. range (B rules) end greatest) (range_reader bound end greatest)
  unfolding range_reader
  reads_range n rb =
      said_so {Q = λ rules. range (B rules) end greatest}
      (reads_chain n n never is_to B End bound
      (λ a. choice is_to (preceded (keyword_reader (codes "to")) (choice (is_keyword (codes "max")) (mapped (λ _. (a, greatest)) (keyword_reader (codes "max"))) (mapped (λ z. (a, end z)) bound))) (answer (a, end a)))
      rb (λ a. reads_end n a rb) (λ rules a r c rest d s. any_stop (c ++ rest)) (λ rules a c d. omega arith))
      to_range of_range

  pub range_first : (rules : Rules) (r : ℤ × ℤ) (c : List Symbol) → range (B rules) end greatest r c → first_passes begins_bound c ≡ true
  range_first rules r c (inl (e, d)) = first rules r.0 c d
  range_first rules r c (inr (inl (m, e, d))) = headed_then begins_bound (first rules r.0) c d
  range_first rules r c (inr (inr (e, d))) = headed_then begins_bound (first rules r.0) c d

unsigned_first : (rules : Rules) (z : ℤ) → Headed begins_bound (unsigned rules z)
unsigned_first rules z c (n, e, (k, (w, h, d))) = headed_one begins_bound (number w) refl c d

signed_first : (rules : Rules) (z : ℤ) → Headed begins_bound (signed rules z)
signed_first rules z c (inl (n, e, (k, (w, h, d)))) = headed_one begins_bound (number w) refl c d
signed_first rules z c (inr (n, e, d)) = headed_then begins_bound (headed_one begins_bound (sign (codes "-")) refl) c d

pub reads_message_range : (n : ℕ) → Reads n is_to message_range message_range_reader
reads_message_range n = reads_range unsigned (mapped pos counted_reader) end_behind (pos 536870912) unsigned_first n (reads_mapped pos reads_counted)

pub message_range_first : (rules : Rules) (r : ℤ × ℤ) (c : List Symbol) → message_range rules r c → first_passes begins_bound c ≡ true
message_range_first = range_first unsigned (mapped pos counted_reader) end_behind (pos 536870912) unsigned_first

pub reads_enum_range : (n : ℕ) → Reads n is_to enum_range enum_range_reader
reads_enum_range n = reads_range signed signed_reader (λ z. z) (pos 2147483647) signed_first n reads_signed

pub enum_range_first : (rules : Rules) (r : ℤ × ℤ) (c : List Symbol) → enum_range rules r c → first_passes begins_bound c ≡ true
enum_range_first = range_first signed signed_reader (λ z. z) (pos 2147483647) signed_first
