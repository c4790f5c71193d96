-- The readers of the line of `reserved` read it.
use Rattle.std.proofs.Common.{◌≡◌, ℕ, ℤ, List, true, false, codes, refl, ◌⊎◌, inl, inr}
use Rattle.std.proofs.lemmas.Bool.{false≢true}
use Rattle.pb_source_tokens.specs.Symbols.{Symbol, word, number, text, sign}
use Rattle.pb_source_tokens.specs.Language.{Language, ◌or◌, Rules}
use Rattle.pb_source_tokens.specs.Phrases.{keyword, mark, range, utf8_text}
use Rattle.pb_source_tokens.proofs.RangeLaws.{reads_utf8, utf8_first, begins_bound, is_to}
use Rattle.pb_source_tokens.specs.Readers.Forms.{Reader, first_passes, is_keyword}
use Rattle.pb_source_tokens.specs.Readers.Phrases.{is_text}
use Rattle.pb_source_tokens.proofs.ReaderLaws.{Reads}
use Rattle.pb_source_tokens.proofs.Compose.{never, reads_mapped, reads_behind, reads_before_so, reads_either, said_so}
use Rattle.pb_source_tokens.proofs.Heads.{headed_one, headed_then, headed_separated, Apart, fails_front, filled_front}
use Rattle.pb_source_tokens.proofs.SymbolTests.{reads_mark, reads_keyword}
use Rattle.pb_source_tokens.proofs.OptionLaws.{reads_listed, stops_listed}
use Rattle.pb_source.specs.Grammar.{ranges_line, names_line}
use Rattle.pb_source.specs.Readers.Lines.{reserved_reader}

bound_or_text : Apart begins_bound is_text
bound_or_text (number v) h = refl
bound_or_text (sign v) h = refl
bound_or_text (word v) h = absurd (false≢true h)
bound_or_text (text v) h = absurd (false≢true h)

module _ {A : Type 0} (Range : Rules → (ℤ × ℤ) → Language) (range : Reader (ℤ × ℤ)) (of_ranges : List (ℤ × ℤ) → A) (of_names : List (List ℕ) → A)
    (first : (rules : Rules) (r : ℤ × ℤ) (c : List Symbol) → Range rules r c → first_passes begins_bound c ≡ true) where
  abbrev pub Reserved : Rules → A → Language
  Reserved rules v ts =
      ((ns : List (List ℕ)) × (v ≡ of_names ns) × names_line rules ns ts) ⊎ ((rs : List (ℤ × ℤ)) × (v ≡ of_ranges rs) × ranges_line (Range rules) rs ts)

  pub reads_reserved : (n : ℕ) → Reads n is_to Range range → Reads n never Reserved (reserved_reader n range of_ranges of_names)
  unfolding reserved_reader
  reads_reserved n rr =
      said_so {Q = Reserved}
      (reads_behind {L = λ rules. keyword "reserved"} (reads_keyword (codes "reserved"))
      (reads_either is_text
      (reads_mapped of_names (reads_before_so {L = λ rules. mark ";"} (reads_listed never reads_utf8 refl (λ rules v c d. filled_front is_text c (utf8_first rules v c d))) (reads_mark (codes ";"))
      (λ rules u c rest d s. stops_listed never (codes ";") c rest refl refl d)))
      (reads_mapped of_ranges (reads_before_so {L = λ rules. mark ";"} (reads_listed is_to rr refl (λ rules r c d. filled_front begins_bound c (first rules r c d))) (reads_mark (codes ";"))
      (λ rules u c rest d s. stops_listed is_to (codes ";") c rest refl refl d)))
      (λ rules v c d. headed_then is_text (headed_separated (utf8_text rules) (mark ",") is_text (utf8_first rules) d.0) c d.2)
      (λ rules v c rest d s. fails_front begins_bound is_text bound_or_text c rest (headed_then begins_bound (headed_separated (Range rules) (mark ",") begins_bound (first rules) d.0) c d.2))))
      (λ rules v c d. elim d.3 [ inl x ↦ inl (x.0, x.1, (d.0, d.1, d.2, x.2, d.4)) | inr x ↦ inr (x.0, x.1, (d.0, d.1, d.2, x.2, d.4)) ])
      (λ rules v c d. elim d [ inl x ↦ (x.2.0, x.2.1, x.2.2, inl (x.0, x.1, x.2.3), x.2.4) | inr x ↦ (x.2.0, x.2.1, x.2.2, inr (x.0, x.1, x.2.3), x.2.4) ])

  pub reserved_first : (rules : Rules) (v : A) (c : List Symbol) → Reserved rules v c → first_passes (is_keyword (codes "reserved")) c ≡ true
  reserved_first rules v c (inl (ns, e, d)) = headed_then (is_keyword (codes "reserved")) (headed_one (is_keyword (codes "reserved")) (word (codes "reserved")) refl) c d
  reserved_first rules v c (inr (rs, e, d)) = headed_then (is_keyword (codes "reserved")) (headed_one (is_keyword (codes "reserved")) (word (codes "reserved")) refl) c d
