-- The readers of blocks of `extend` and of ranges of extensions read them.
use Prim.Native.String.{String}
use Rattle.std.proofs.Common.{◌≡◌, ℕ, List, [], ◌∷◌, ◌++◌, Bool, true, false, not, ◌||◌, codes, refl, ap, sym, ◌∙◌, subst, Option, Some, None, ◌⊎◌, inl, inr, ℤ}
use Rattle.std.specs.Str.{bytes_eq}
use Rattle.std.proofs.lemmas.Bool.{false≢true}
use Rattle.std.proofs.lemmas.Slice.Eq.{bytes_eq-Decides}
use Rattle.pb_declarations.specs.Decls.{DeclaredField, DeclaredMessage}
use Rattle.pb_source_tokens.specs.declared.grammar.Grammar.{Grammar}
use Rattle.pb_source_tokens.specs.Symbols.{Symbol, word, number, text, sign}
use Rattle.pb_source_tokens.specs.Language.{Language, ◌▸◌, ◌or◌, Rules}
use Rattle.pb_source_tokens.specs.Phrases.{keyword, mark, BeginsNot, Until, Listed, typename, message_range, assignment, value_end}
use Rattle.pb_source_tokens.specs.Readers.Forms.{Reader, mapped, preceded, keyword_reader, first_passes}
use Rattle.pb_source_tokens.specs.Readers.Phrases.{is_comma, message_range_reader}
use Rattle.pb_source_tokens.proofs.ReaderLaws.{Reads, IsStop}
use Rattle.pb_source_tokens.proofs.Compose.{never, Mapped, reads_mapped, reads_behind, reads_behind_so, reads_some, said_so}
use Rattle.pb_source_tokens.proofs.Heads.{filled_front, stops_rest, front_of_one}
use Rattle.pb_source_tokens.proofs.SymbolTests.{reads_mark, reads_keyword}
use Rattle.pb_source_tokens.proofs.KindLemmas.{first_kind, ByKind, Offers, kinds_fail, kinds_filled, reads_kinds}
use Rattle.pb_source_tokens.proofs.NameLaws.{reads_typename}
use Rattle.pb_source_tokens.proofs.OptionLaws.{reads_listed, stops_listed, mark_stops, reads_value_end}
use Rattle.pb_source_tokens.proofs.RangeLaws.{reads_message_range, message_range_first, begins_bound, is_to}
use Rattle.pb_source.specs.declared.kind.Label.{Label}
use Rattle.pb_source.specs.declared.kind.Label.TheVariants.{Unlabelled, Repeated}
use Rattle.pb_source.specs.Meaning.{Member, MessageStatement, those_said}
use Rattle.pb_source.specs.Syntaxes.{is_lenient, is_proto2, optional_label}
use Rattle.pb_source.specs.declared.kind.ExtendKind.{ExtendKind}
use Rattle.pb_source.specs.declared.kind.ExtendKind.TheVariants as kind
use Rattle.pb_source.specs.Grammar.{field, member, lined, beyond_strict, in_proto2, but_proto2, extension, extend, extensions}
use Rattle.pb_source.specs.Readers.Lines.{Nested, is_closing, taken, dropped, group_in, extend_kind, extension_line, field_reader, labelled_reader, extension_reader, extend_reader, extensions_reader}
use Rattle.pb_source.proofs.StatementKinds.{kind_other, not_in_table, kind_one, kind_then, reads_braced}
use Rattle.pb_source.proofs.FieldLaws.{reads_field, begins_type, field_first}
use Rattle.pb_source.proofs.BodyLaws.{Silent, reads_silent_end, not_empty_then, closing_of_none}
use Rattle.pb_source.proofs.GrammarLines.{lined_kept, lined_on, extended_single}
use Rattle.pb_source.proofs.GroupLaws.{Nests, reads_labelled}

-- ---- lines that only some of the grammars have

pub offers_lined : {X A : Type 0} {n : ℕ} (b : Bool) (g : X → A) (L : Rules → X → Language) (p : Reader X) → Reads n never L p
    → Offers n never (Mapped g (λ rules x. lined b (L rules x))) (taken b (mapped g p))
offers_lined true g L p r = reads_mapped g r
offers_lined false g L p r = λ rules s c d. d.2

-- ---- extensions

abbrev label_words : List (List ℕ × Option ExtendKind)
label_words = (codes "repeated", Some kind.Repeated) ∷ (codes "optional", Some kind.Optional) ∷ (codes "required", Some kind.Required) ∷ []

begins_field : (c : List Symbol) → BeginsNot ("repeated" ∷ "optional" ∷ "required" ∷ []) c → first_passes begins_type c ≡ true → first_kind extend_kind c ≡ Some kind.Field
begins_field [] b h = absurd (false≢true h)
begins_field (word w ∷ c) b h = kind_other label_words (Some kind.Field) w b
begins_field (sign w ∷ c) b h = ap extend_kind (ap sign ((bytes_eq-Decides w (codes ".")).0 h))
begins_field (number w ∷ c) b h = absurd (false≢true h)
begins_field (text w ∷ c) b h = absurd (false≢true h)

field_begins : (c : List Symbol) → first_kind extend_kind c ≡ Some kind.Field → BeginsNot ("repeated" ∷ "optional" ∷ "required" ∷ []) c
field_begins [] h = tt
field_begins (word w ∷ c) h = not_in_table label_words kind.Field w ((λ e. cc e), ((λ e. cc e), ((λ e. cc e), tt))) h
field_begins (number w ∷ c) h = tt
field_begins (text w ∷ c) h = tt
field_begins (sign w ∷ c) h = tt

module _ (grammar : Grammar) (n : ℕ) (Body : Rules → List MessageStatement → Language) (nested : Nested) (nests : Nests grammar n Body nested) where
  -- a field or a group after the word of its label
  abbrev Labelled : String → Label → Rules → Member → Language
  Labelled w l rules x = keyword w ▸ member grammar rules (Body rules) l x

  abbrev Line : ExtendKind → Rules → Option DeclaredMessage → Language
  Line kind.Empty = Silent None (λ rules. mark ";")
  Line kind.Repeated = Mapped group_in (Labelled "repeated" Repeated)
  Line kind.Optional = Mapped group_in (Labelled "optional" (optional_label grammar))
  Line kind.Required = Mapped group_in (λ rules x. in_proto2 grammar (Labelled "required" Unlabelled rules x))
  Line kind.Field = Mapped (λ _. None) (λ rules f. but_proto2 grammar (field grammar rules Unlabelled f))

  offers : (k : ExtendKind) → Offers n never (Line k) (extension_line grammar n nested k)
  offers kind.Empty = reads_silent_end None
  offers kind.Repeated = reads_mapped group_in (reads_labelled grammar n "repeated" Repeated Body nested nests)
  offers kind.Optional = reads_mapped group_in (reads_labelled grammar n "optional" (optional_label grammar) Body nested nests)
  offers kind.Required =
      offers_lined (is_proto2 grammar) group_in (Labelled "required" Unlabelled) (labelled_reader grammar n (codes "required") Unlabelled nested)
      (reads_labelled grammar n "required" Unlabelled Body nested nests)
  offers kind.Field = offers_lined (not (is_proto2 grammar)) (λ _. None) (λ rules f. field grammar rules Unlabelled f) (field_reader grammar n Unlabelled) (reads_field grammar n Unlabelled)

  filled : (k : ExtendKind) (rules : Rules) (o : Option DeclaredMessage) → Line k rules o [] → ⊥
  filled kind.Empty rules o d = cc d.2
  filled kind.Repeated rules o d = not_empty_then (word (codes "repeated")) d.2
  filled kind.Optional rules o d = not_empty_then (word (codes "optional")) d.2
  filled kind.Required rules o d = not_empty_then (word (codes "required")) (lined_kept (is_proto2 grammar) (Labelled "required" Unlabelled rules d.0) [] d.2)
  filled kind.Field rules o d = false≢true (field_first grammar rules Unlabelled d.0 [] (lined_kept (not (is_proto2 grammar)) (field grammar rules Unlabelled d.0) [] d.2))

  to_extension : (rules : Rules) (o : Option DeclaredMessage) (c : List Symbol) → ByKind extend_kind Line rules o c → extension grammar rules (Body rules) o c
  to_extension rules o c (kind.Empty, h, (u, e, d)) = inl (e, d)
  to_extension rules o c (kind.Repeated, h, (x, e, d)) = inr (x, e, inl d)
  to_extension rules o c (kind.Optional, h, (x, e, d)) = inr (x, e, inr (inl d))
  to_extension rules o c (kind.Required, h, (x, e, d)) = inr (x, e, inr (inr (inl d)))
  to_extension rules o c (kind.Field, h, (f, e, d)) =
      inr ((f, None), e, inr (inr (inr (lined_on (not (is_proto2 grammar)) (field grammar rules Unlabelled f) (extended_single grammar rules (f, None)) c (λ x. (f, refl, field_begins c h, x)) d))))

  of_single : (rules : Rules) (o : Option DeclaredMessage) (x : Member) (c : List Symbol) → o ≡ x.1 → lined (not (is_proto2 grammar)) (extended_single grammar rules x) c → ByKind extend_kind Line rules o c
  of_single rules o x c e d =
      let s = lined_kept (not (is_proto2 grammar)) (extended_single grammar rules x) c d in (
        kind.Field,
        begins_field c s.2 (field_first grammar rules Unlabelled s.0 c s.3),
        (s.0, e ∙ ap (λ x. x.1) s.1, lined_on (not (is_proto2 grammar)) (extended_single grammar rules x) (field grammar rules Unlabelled s.0) c (λ _. s.3) d),
      )

  of_extension : (rules : Rules) (o : Option DeclaredMessage) (c : List Symbol) → extension grammar rules (Body rules) o c → ByKind extend_kind Line rules o c
  of_extension rules o c (inl (e, d)) = (kind.Empty, kind_one extend_kind (sign (codes ";")) c d, (tt, e, d))
  of_extension rules o c (inr (x, e, inl d)) = (kind.Repeated, kind_then extend_kind (word (codes "repeated")) c d, (x, e, d))
  of_extension rules o c (inr (x, e, inr (inl d))) = (kind.Optional, kind_then extend_kind (word (codes "optional")) c d, (x, e, d))
  of_extension rules o c (inr (x, e, inr (inr (inl d)))) =
      (kind.Required, kind_then extend_kind (word (codes "required")) c (lined_kept (is_proto2 grammar) (Labelled "required" Unlabelled rules x) c d), (x, e, d))
  of_extension rules o c (inr (x, e, inr (inr (inr d)))) = of_single rules o x c e d

  reads_extension : Reads n never (λ rules. extension grammar rules (Body rules)) (extension_reader grammar n nested)
  unfolding extension_reader
  reads_extension =
      said_so {Q = λ rules. extension grammar rules (Body rules)}
      (reads_kinds n never extend_kind Line (extension_line grammar n nested) offers filled (λ rules. (None, sign (codes ";") ∷ [], (kind.Empty, refl, (tt, refl, refl))))) to_extension of_extension

  pub reads_extend : Reads n never (λ rules. extend grammar rules (Body rules)) (extend_reader grammar n nested)
  unfolding extend_reader
  reads_extend =
      said_so {Q = λ rules. extend grammar rules (Body rules)}
      (reads_behind {L = λ rules. keyword "extend"} (reads_keyword (codes "extend"))
      (reads_behind_so {L = λ rules ts. (t : List ℕ) × typename t ts} (reads_some (reads_typename n))
      (reads_mapped those_said (reads_braced reads_extension
      (λ rules o c rest d. kinds_fail extend_kind Line is_closing (closing_of_none extend_kind refl) rules o c rest (of_extension rules o c d))
      (λ rules o c d. kinds_filled extend_kind Line rules o c (of_extension rules o c d))))
      (λ rules ms c rest d s. mark_stops {S = Until (extension grammar rules (Body rules)) (mark "}") d.0} (codes "{") c rest refl d.2)))
      (λ rules ms c d. (d.3.2.0, d.3.3.0, d.3.3.1, (d.0, d.1, d.2, (d.3.0, d.3.1, d.3.2.1, d.3.3.2, d.3.4), d.4)))
      (λ rules ms c d. (d.3.0, d.3.1, d.3.2, (d.3.3.0, d.3.3.1, (d.0, d.3.3.2), (d.1, d.2, d.3.3.3), d.3.3.4), d.3.4))

module _ (grammar : Grammar) where
  -- a line that the strict grammar has not
  abbrev pub Beyond : {A : Type 0} → A → (Rules → Language) → Rules → A → Language
  Beyond v L = Silent v (λ rules. beyond_strict grammar (L rules))

  -- ---- ranges of extensions

  ends_ranges : (rules : Rules) (c rest : List Symbol) → value_end grammar rules c → IsStop (λ s. is_to s || is_comma s) (c ++ rest)
  ends_ranges rules c rest (inl d) = stops_listed is_to (codes ";") c rest refl refl d
  ends_ranges rules c rest (inr (us, d)) =
      stops_rest (λ s. is_to s || is_comma s) (c ++ rest)
      (front_of_one {S = Listed (λ _. assignment grammar rules) us ▸ mark "]" ▸ mark ";"} (λ s. is_to s || is_comma s) (sign (codes "[")) c rest d)

  pub reads_extensions : (n : ℕ) → Reads n never (λ rules (u : Unit {0}). extensions grammar rules) (extensions_reader grammar n)
  unfolding extensions_reader
  reads_extensions n =
      said_so {Q = λ rules (u : Unit {0}). extensions grammar rules}
      (reads_behind {L = λ rules. keyword "extensions"} (reads_keyword (codes "extensions"))
      (reads_behind_so {L = λ rules ts. (rs : List (ℤ × ℤ)) × Listed (message_range rules) rs ts}
      (reads_some (reads_listed is_to (reads_message_range n) refl (λ rules r c d. filled_front begins_bound c (message_range_first rules r c d)))) (reads_value_end grammar n)
      (λ rules u c rest d s. ends_ranges rules c rest d)))
      (λ rules u c d. (d.3.2.0, (d.0, d.1, d.2, (d.3.0, d.3.1, d.3.2.1, d.3.3, d.3.4), d.4)))
      (λ rules u c d. (d.1.0, d.1.1, d.1.2, (d.1.3.0, d.1.3.1, (d.0, d.1.3.2), d.1.3.3, d.1.3.4), d.1.4))

-- what the strict grammar has not is offered in the others
pub offers_beyond : {A : Type 0} {n : ℕ} (grammar : Grammar) (v : A) (L : Rules → Language) (p : Reader (Unit {0})) → Reads n never (λ rules (u : Unit {0}). L rules) p
    → Offers n never (Beyond grammar v L) (dropped grammar v p)
offers_beyond grammar v L p r = offers_lined (is_lenient grammar) (λ _. v) (λ rules u. L rules) p r

pub beyond_filled : {A : Type 0} (grammar : Grammar) (v : A) (L : Rules → Language) (rules : Rules) (s : A) → (L rules [] → ⊥) → Beyond grammar v L rules s [] → ⊥
beyond_filled grammar v L rules s none d = none (lined_kept (is_lenient grammar) (L rules) [] d.2)

pub beyond_kind : {K : Type 0} (grammar : Grammar) (kind : Symbol → Option K) (k : K) (L : Language) (c : List Symbol) → (L c → first_kind kind c ≡ Some k)
    → beyond_strict grammar L c → first_kind kind c ≡ Some k
beyond_kind grammar kind k L c f d = f (lined_kept (is_lenient grammar) L c d)
