-- The readers of oneofs read them.
use Rattle.std.proofs.Common.{◌≡◌, ℕ, List, [], ◌∷◌, Bool, true, false, codes, refl, ap, sym, subst, Option, Some, None, inl, inr}
use Rattle.std.specs.Str.{bytes_eq}
use Rattle.std.proofs.lemmas.Bool.{false≢true}
use Rattle.std.proofs.lemmas.Slice.Eq.{bytes_eq-Decides}
use Rattle.pb_source_tokens.specs.declared.grammar.Grammar.{Grammar}
use Rattle.pb_source_tokens.specs.Symbols.{Symbol, word, number, text, sign}
use Rattle.pb_source_tokens.specs.Language.{Language, Rules}
use Rattle.pb_source_tokens.specs.Phrases.{keyword, mark, BeginsNot, option}
use Rattle.pb_source_tokens.specs.Readers.Forms.{first_passes}
use Rattle.pb_source_tokens.proofs.ReaderLaws.{Reads}
use Rattle.pb_source_tokens.proofs.Compose.{never, Mapped, reads_mapped, reads_both, reads_behind, said_so}
use Rattle.pb_source_tokens.proofs.SymbolTests.{reads_keyword}
use Rattle.pb_source_tokens.proofs.KindLemmas.{first_kind, ByKind, Offers, kinds_fail, kinds_filled, reads_kinds}
use Rattle.pb_source_tokens.proofs.NameLaws.{reads_name}
use Rattle.pb_source.specs.declared.kind.Label.TheVariants.{Unlabelled}
use Rattle.pb_source.specs.declared.kind.OneofKind.{OneofKind}
use Rattle.pb_source.specs.declared.kind.OneofKind.TheVariants as kind
use Rattle.pb_source.specs.Meaning.{Member, MessageStatement, those_said}
use Rattle.pb_source.specs.Grammar.{member, oneof_statement, oneof}
use Rattle.pb_source.specs.Readers.Lines.{Nested, is_closing, oneof_kind, oneof_line, oneof_statement_reader, oneof_reader}
use Rattle.pb_source.proofs.StatementKinds.{kind_other, not_in_table, kind_one, kind_then, reads_braced}
use Rattle.pb_source.proofs.BodyLaws.{Silent, reads_silent_end, reads_silent_option, not_empty_then, closing_of_none}
use Rattle.pb_source.proofs.FieldLaws.{begins_type}
use Rattle.pb_source.proofs.GroupLaws.{Nests, reads_member, member_first}

begins_field : (c : List Symbol) → BeginsNot ("option" ∷ []) c → first_passes begins_type c ≡ true → first_kind oneof_kind c ≡ Some kind.Field
begins_field [] b h = absurd (false≢true h)
begins_field (word w ∷ c) b h = kind_other ((codes "option", Some kind.Option) ∷ []) (Some kind.Field) w b
begins_field (sign w ∷ c) b h = ap oneof_kind (ap sign ((bytes_eq-Decides w (codes ".")).0 h))
begins_field (number w ∷ c) b h = absurd (false≢true h)
begins_field (text w ∷ c) b h = absurd (false≢true h)

field_begins : (c : List Symbol) → first_kind oneof_kind c ≡ Some kind.Field → BeginsNot ("option" ∷ []) c
field_begins [] h = tt
field_begins (word w ∷ c) h = not_in_table ((codes "option", Some kind.Option) ∷ []) kind.Field w ((λ e. cc e), tt) h
field_begins (number w ∷ c) h = tt
field_begins (text w ∷ c) h = tt
field_begins (sign w ∷ c) h = tt

module _ (grammar : Grammar) (n : ℕ) (Body : Rules → List MessageStatement → Language) (nested : Nested) (nests : Nests grammar n Body nested) where
  abbrev Line : OneofKind → Rules → Option Member → Language
  Line kind.Empty = Silent None (λ rules. mark ";")
  Line kind.Option = Silent None (option grammar)
  Line kind.Field = Mapped Some (λ rules. member grammar rules (Body rules) Unlabelled)

  offers : (k : OneofKind) → Offers n never (Line k) (oneof_line grammar n nested k)
  offers kind.Empty = reads_silent_end None
  offers kind.Option = reads_silent_option grammar None
  offers kind.Field = reads_mapped Some (reads_member grammar n Unlabelled Body nested nests)

  filled : (k : OneofKind) (rules : Rules) (o : Option Member) → Line k rules o [] → ⊥
  filled kind.Empty rules o d = cc d.2
  filled kind.Option rules o d = not_empty_then (word (codes "option")) d.2
  filled kind.Field rules o d = false≢true (member_first grammar rules (Body rules) Unlabelled d.0 [] d.2)

  to_oneof : (rules : Rules) (o : Option Member) (c : List Symbol) → ByKind oneof_kind Line rules o c → oneof_statement grammar rules (Body rules) o c
  to_oneof rules o c (kind.Empty, h, (u, e, d)) = subst (λ o. oneof_statement grammar rules (Body rules) o c) (sym e) (inr d)
  to_oneof rules o c (kind.Option, h, (u, e, d)) = subst (λ o. oneof_statement grammar rules (Body rules) o c) (sym e) (inl d)
  to_oneof rules o c (kind.Field, h, (x, e, d)) = subst (λ o. oneof_statement grammar rules (Body rules) o c) (sym e) (field_begins c h, d)

  of_oneof : (rules : Rules) (o : Option Member) (c : List Symbol) → oneof_statement grammar rules (Body rules) o c → ByKind oneof_kind Line rules o c
  of_oneof rules None c (inl d) = (kind.Option, kind_then oneof_kind (word (codes "option")) c d, (tt, refl, d))
  of_oneof rules None c (inr d) = (kind.Empty, kind_one oneof_kind (sign (codes ";")) c d, (tt, refl, d))
  of_oneof rules (Some x) c (b, d) = (kind.Field, begins_field c b (member_first grammar rules (Body rules) Unlabelled x c d), (x, refl, d))

  reads_oneof_statement : Reads n never (λ rules. oneof_statement grammar rules (Body rules)) (oneof_statement_reader grammar n nested)
  unfolding oneof_statement_reader
  reads_oneof_statement =
      said_so {Q = λ rules. oneof_statement grammar rules (Body rules)}
      (reads_kinds n never oneof_kind Line (oneof_line grammar n nested) offers filled (λ rules. (None, sign (codes ";") ∷ [], (kind.Empty, refl, (tt, refl, refl)))))
      to_oneof of_oneof

  pub reads_oneof : Reads n never (λ rules x. oneof grammar rules (Body rules) x.0 x.1) (oneof_reader grammar n nested)
  unfolding oneof_reader
  reads_oneof =
      said_so {Q = λ rules x. oneof grammar rules (Body rules) x.0 x.1}
      (reads_behind {L = λ rules. keyword "oneof"} (reads_keyword (codes "oneof"))
      (reads_both reads_name (reads_mapped those_said
      (reads_braced reads_oneof_statement
      (λ rules o c rest d. kinds_fail oneof_kind Line is_closing (closing_of_none oneof_kind refl) rules o c rest (of_oneof rules o c d))
      (λ rules o c d. kinds_filled oneof_kind Line rules o c (of_oneof rules o c d))))))
      (λ rules x c d. (d.3.3.0, d.3.3.1, (d.0, d.1, d.2, (d.3.0, d.3.1, d.3.2, d.3.3.2, d.3.4), d.4)))
      (λ rules x c d. (d.2.0, d.2.1, d.2.2, (d.2.3.0, d.2.3.1, d.2.3.2, (d.0, d.1, d.2.3.3), d.2.3.4), d.2.4))
