-- The readers of groups read them, and those of what is a field or a group.
use Prim.Native.String.{String}
use Rattle.std.proofs.Common.{◌≡◌, ℕ, List, [], ◌∷◌, ◌++◌, Bool, true, false, not, ◌||◌, codes, refl, ap, sym, subst, ◌∙◌, Option, Some, None, ◌⊎◌, inl, inr, lit≤}
use Rattle.std.specs.Prelude.{if◌then◌else◌}
use Rattle.std.specs.Str.{bytes_eq}
use Rattle.std.proofs.lemmas.Bool.{false≢true}
use Rattle.std.proofs.Math.Bool.{or-false}
use Rattle.pb_declarations.specs.Decls.{DeclaredField}
use Rattle.pb_declarations.specs.declared.decl.TypeCode.TheVariants as code
use Rattle.pb_source_tokens.specs.declared.grammar.Grammar.{Grammar}
use Rattle.pb_source_tokens.specs.declared.rule.Rule.TheVariants.{NestsBounded as nests_bounded}
use Rattle.pb_source_tokens.specs.Symbols.{Symbol, word, number, text, sign}
use Rattle.pb_source_tokens.specs.Language.{Language, ◌▸◌, Rules, Begins}
use Rattle.pb_source_tokens.specs.Said.{a_scalar}
use Rattle.pb_source_tokens.specs.Phrases.{keyword, mark, name, counted, group_end, BeginsNot, Until}
use Rattle.pb_source_tokens.specs.Readers.Forms.{Reader, mapped, first_passes, is_keyword, keyword_reader, symbol, plain}
use Rattle.pb_source_tokens.specs.Readers.Phrases.{group_end_reader}
use Rattle.pb_source_tokens.proofs.ReaderLaws.{Reads, IsStop}
use Rattle.pb_source_tokens.proofs.Compose.{never, Mapped, Both, reads_mapped, reads_both, reads_behind, reads_either, said_so}
use Rattle.pb_source_tokens.proofs.Guards.{reads_guarded}
use Rattle.pb_source_tokens.proofs.Heads.{Headed, headed_one, headed_then}
use Rattle.pb_source_tokens.proofs.SymbolTests.{is_the_word, reads_plain, reads_mark, reads_keyword}
use Rattle.pb_source_tokens.proofs.KindLemmas.{ByKind, reads_kinds}
use Rattle.pb_source_tokens.proofs.OptionLaws.{reads_counted, reads_group_end}
use Rattle.pb_source.specs.declared.kind.Label.{Label}
use Rattle.pb_source.specs.Syntaxes.{is_proto2}
use Rattle.pb_source.specs.Meaning.{Member, MessageStatement, field_of, group_field, message_of}
use Rattle.pb_source.specs.Grammar.{field, lined, begins_capital, group_name, group_head, group, member, message_statement, body}
use Rattle.pb_source.specs.Readers.Lines.{Nested, is_group, if_capital, group_name_in, group_name_reader, group_head_reader, group_from, group_reader, alone, field_reader}
use Rattle.pb_source.specs.Readers.Lines.{if_ungrouped, ungrouped_reader, grouped_reader, member_by, member_reader, labelled_reader}
use Rattle.pb_source.proofs.GrammarLines.{lined_kept}
use Rattle.pb_source.proofs.FieldLaws.{reads_field, begins_type, field_first}

-- ---- groups

capital_so : (b : Bool) (w v : List ℕ) → if_capital b w ≡ Some v → (b ≡ true) × (w ≡ v)
capital_so true w v h = (refl, cc h)
capital_so false w v h = absurd (cc h)

name_some : (s : Symbol) (w : List ℕ) → group_name_in s ≡ Some w → group_name w (s ∷ [])
name_some (word v) w h = let p = capital_so (begins_capital v) v w h in (subst (λ w. begins_capital w ≡ true) p.1 p.0, ap (λ w. word w ∷ []) p.1)
name_some (number v) w h = absurd (cc h)
name_some (text v) w h = absurd (cc h)
name_some (sign v) w h = absurd (cc h)

reads_group_name : {n : ℕ} {e : Symbol → Bool} → Reads n e (λ rules. group_name) group_name_reader
reads_group_name = reads_plain {R = group_name} group_name_in (word (codes "G")) (codes "G") refl name_some (λ w c d. (word w, ap (λ b. if_capital b w) d.0, d.1))

module _ (grammar : Grammar) where
  abbrev Head : Rules → List ℕ × (ℕ × Option Bool) → Language
  Head rules x = group_head grammar rules x.0 x.1.0 x.1.1

  reads_group_head : (n : ℕ) → Reads n never Head (group_head_reader grammar n)
  unfolding group_head_reader
  reads_group_head n =
      reads_behind {L = λ rules. keyword "group"} (reads_keyword (codes "group"))
      (reads_both reads_group_name (reads_behind {L = λ rules. mark "="} (reads_mark (codes "=")) (reads_both reads_counted (reads_group_end grammar n))))

  module _ (n : ℕ) (l : Label) (Body : Rules → List MessageStatement → Language) (p : Reader (List MessageStatement)) (rp : Reads n never Body p) where
    reads_group : Reads n never (λ rules. group grammar rules (Body rules) l) (group_reader grammar n l p)
    reads_group =
        said_so {Q = λ rules. group grammar rules (Body rules) l}
        (reads_mapped (group_from l) (reads_both (reads_group_head n) rp))
        (λ rules x c d. (d.0.0.0, d.0.0.1.0, d.0.0.1.1, d.0.1, d.1, d.2))
        (λ rules x c d. (((d.0, (d.1, d.2)), d.3), d.4, d.5))

  group_first : (rules : Rules) (Body : List MessageStatement → Language) (l : Label) (x : Member) → Headed is_group (group grammar rules Body l x)
  group_first rules Body l x c d = headed_then is_group (headed_then is_group (headed_one is_group (word (codes "group")) refl)) c d.5

  -- ---- fields that no `group` begins

  abbrev Ungrouped : Label → Rules → Member → Language
  Ungrouped l rules x ts = (f : DeclaredField) × (x ≡ (f, None)) × BeginsNot ("group" ∷ []) ts × field grammar rules l f ts

  abbrev Singles : Label → Rules → Member → Language
  Singles l = ByKind if_ungrouped (λ _. Mapped alone (λ rules. field grammar rules l))

  not_so : (b : Bool) (u : Unit {0}) → (if b then None else Some tt) ≡ Some u → b ≡ false
  not_so true u h = absurd (cc h)
  not_so false u h = refl

  ungrouped_so : (w : List ℕ) → bytes_eq w (codes "group") ≡ false → if_ungrouped (word w) ≡ Some tt
  ungrouped_so w h = rw h refl

  to_ungrouped : (l : Label) (rules : Rules) (x : Member) (c : List Symbol) → Singles l rules x c → Ungrouped l rules x c
  to_ungrouped l rules x [] (u, h, (f, e, d)) = (f, e, tt, d)
  to_ungrouped l rules x (word w ∷ c) (u, h, (f, e, d)) = (f, e, ap (λ b. b || false) (not_so (bytes_eq w (codes "group")) u h), d)
  to_ungrouped l rules x (number w ∷ c) (u, h, (f, e, d)) = (f, e, tt, d)
  to_ungrouped l rules x (text w ∷ c) (u, h, (f, e, d)) = (f, e, tt, d)
  to_ungrouped l rules x (sign w ∷ c) (u, h, (f, e, d)) = (f, e, tt, d)

  of_ungrouped : (l : Label) (rules : Rules) (x : Member) (c : List Symbol) → Ungrouped l rules x c → Singles l rules x c
  of_ungrouped l rules x [] (f, e, b, d) = absurd (false≢true (field_first grammar rules l f [] d))
  of_ungrouped l rules x (word w ∷ c) (f, e, b, d) = (tt, ungrouped_so w (sym (or-false (bytes_eq w (codes "group"))) ∙ b), (f, e, d))
  of_ungrouped l rules x (number w ∷ c) (f, e, b, d) = (tt, refl, (f, e, d))
  of_ungrouped l rules x (text w ∷ c) (f, e, b, d) = (tt, refl, (f, e, d))
  of_ungrouped l rules x (sign w ∷ c) (f, e, b, d) = (tt, refl, (f, e, d))

  -- int32 a = 1;
  some_field : (l : Label) (rules : Rules) → (x : Member) × (c : List Symbol) × Singles l rules x c
  some_field l rules =
      let f = field_of l (a_scalar code.Int32) (codes "a") 1 None in (
        (f, None),
        word (codes "int32") ∷ word (codes "a") ∷ sign (codes "=") ∷ number (codes "1") ∷ sign (codes ";") ∷ [],
        (
          tt,
          refl,
          (
            f,
            refl,
            (
              a_scalar code.Int32,
              codes "a",
              1,
              None,
              refl,
              (
                word (codes "int32") ∷ [],
                _,
                (codes "int32", refl, refl),
                (
                  word (codes "a") ∷ [],
                  _,
                  refl,
                  (sign (codes "=") ∷ [], _, refl, (number (codes "1") ∷ [], sign (codes ";") ∷ [], (inl (lit≤ tt), (codes "1", refl, refl)), inl (refl, refl), refl), refl),
                  refl,
                ),
                refl,
              ),
            ),
          ),
        ),
      )

  reads_ungrouped : (n : ℕ) (l : Label) → Reads n never (Ungrouped l) (ungrouped_reader grammar n l)
  unfolding ungrouped_reader
  reads_ungrouped n l =
      said_so {Q = Ungrouped l}
      (reads_kinds n never if_ungrouped (λ _. Mapped alone (λ rules. field grammar rules l)) (λ _. Some (mapped alone (field_reader grammar n l))) (λ _. reads_mapped alone (reads_field grammar n l))
      (λ u rules x d. false≢true (field_first grammar rules l d.0 [] d.2)) (some_field l))
      (to_ungrouped l) (of_ungrouped l)

  not_grouped : (l : Label) (rules : Rules) (x : Member) (c rest : List Symbol) → Ungrouped l rules x c → first_passes is_group (c ++ rest) ≡ false
  not_grouped l rules x [] rest (f, e, b, d) = absurd (false≢true (field_first grammar rules l f [] d))
  not_grouped l rules x (word w ∷ c) rest (f, e, b, d) = sym (or-false (bytes_eq w (codes "group"))) ∙ b
  not_grouped l rules x (number w ∷ c) rest d = refl
  not_grouped l rules x (text w ∷ c) rest d = refl
  not_grouped l rules x (sign w ∷ c) rest d = refl

  -- ---- fields and groups, by what nests

  -- what nests is read so: each message that may nest, up to its closing brace
  abbrev pub Nests : ℕ → (Rules → List MessageStatement → Language) → Nested → Type 0
  Nests n Body Nested.none = (rules : Rules) (ss : List MessageStatement) (c : List Symbol) → Body rules ss c → ⊥
  Nests n Body (Nested.beyond p) =
      Reads n never (λ rules. body grammar rules 1) p
      × ((rules : Rules) (ss : List MessageStatement) (c : List Symbol) → Body rules ss c → (rules nests_bounded ≡ false) × body grammar rules 1 ss c)
      × ((rules : Rules) (ss : List MessageStatement) (c : List Symbol) → rules nests_bounded ≡ false → body grammar rules 1 ss c → Body rules ss c)
  Nests n Body (Nested.inside p) = Reads n never Body p

  abbrev Grouped : (Rules → List MessageStatement → Language) → Label → Rules → Member → Language
  Grouped Body l rules = group grammar rules (Body rules) l

  -- group G = 1 { }
  some_group : (l : Label) (rules : Rules) (s : Symbol) → is_group s ≡ true → Begins (Grouped (λ rules. body grammar rules 1) l rules) (s ∷ [])
  some_group l rules s h = subst (λ s. Begins (Grouped (λ rules. body grammar rules 1) l rules) (s ∷ [])) (sym (is_the_word (codes "group") s h)) (
    (group_field l (codes "G") 1 None, Some (message_of (codes "G") [])),
    word (codes "G") ∷ sign (codes "=") ∷ number (codes "1") ∷ sign (codes "{") ∷ sign (codes "}") ∷ [],
    (
      codes "G",
      1,
      None,
      [],
      refl,
      (
        word (codes "group") ∷ word (codes "G") ∷ sign (codes "=") ∷ number (codes "1") ∷ sign (codes "{") ∷ [],
        sign (codes "}") ∷ [],
        (
          word (codes "group") ∷ [],
          _,
          refl,
          (
            word (codes "G") ∷ [],
            _,
            (refl, refl),
            (sign (codes "=") ∷ [], _, refl, (number (codes "1") ∷ [], sign (codes "{") ∷ [], (inl (lit≤ tt), (codes "1", refl, refl)), inl (refl, refl), refl), refl),
            refl,
          ),
          refl,
        ),
        refl,
        refl,
      ),
    ),
  )

  module _ (n : ℕ) (l : Label) (Body : Rules → List MessageStatement → Language) where
    abbrev EitherOf : Rules → Member → Language
    EitherOf rules x ts = Ungrouped l rules x ts ⊎ Grouped Body l rules x ts

    group_on : (B C : List MessageStatement → Language) (rules : Rules) (x : Member) (c : List Symbol) → ((ss : List MessageStatement) (c : List Symbol) → B ss c → C ss c)
        → group grammar rules B l x c → group grammar rules C l x c
    group_on B C rules x c f (w, k, packed, ss, e, (a, b, ha, hb, j)) = (w, k, packed, ss, e, (a, b, ha, f ss b hb, j))

    reads_grouped : (nested : Nested) → Nests n Body nested → Reads n never EitherOf (grouped_reader grammar n l nested)
    reads_grouped Nested.none h =
        said_so {Q = EitherOf} (reads_ungrouped n l) (λ rules x c d. inl d) none
      where
        none : (rules : Rules) (x : Member) (c : List Symbol) → EitherOf rules x c → Ungrouped l rules x c
        none rules x c (inl d) = d
        none rules x c (inr (w, k, packed, ss, e, (a, b, ha, hb, j))) = absurd (h rules ss b hb)
    reads_grouped (Nested.inside p) h =
        said_so {Q = EitherOf}
        (reads_either is_group (reads_group n l Body p h) (reads_ungrouped n l) (λ rules x c d. group_first rules (Body rules) l x c d) (λ rules x c rest d s. not_grouped l rules x c rest d))
        to from
      where
        to : (rules : Rules) (x : Member) (c : List Symbol) → Grouped Body l rules x c ⊎ Ungrouped l rules x c → EitherOf rules x c
        to rules x c (inl d) = inr d
        to rules x c (inr d) = inl d

        from : (rules : Rules) (x : Member) (c : List Symbol) → EitherOf rules x c → Grouped Body l rules x c ⊎ Ungrouped l rules x c
        from rules x c (inl d) = inr d
        from rules x c (inr d) = inl d
    reads_grouped (Nested.beyond p) h =
        said_so {Q = EitherOf}
        (reads_guarded n never nests_bounded is_group (Grouped (λ rules. body grammar rules 1) l) (Ungrouped l) (group_reader grammar n l p) (ungrouped_reader grammar n l)
        (reads_group n l (λ rules. body grammar rules 1) p h.0) (reads_ungrouped n l)
        (λ rules x c d. group_first rules (body grammar rules 1) l x c d) (λ rules x c rest d s. not_grouped l rules x c rest d) (some_group l))
        to from
      where
        to : (rules : Rules) (x : Member) (c : List Symbol) → ((rules nests_bounded ≡ false) × Grouped (λ rules. body grammar rules 1) l rules x c) ⊎ Ungrouped l rules x c → EitherOf rules x c
        to rules x c (inl (k, d)) = inr (group_on (body grammar rules 1) (Body rules) rules x c (λ ss c d. h.2 rules ss c k d) d)
        to rules x c (inr d) = inl d

        from : (rules : Rules) (x : Member) (c : List Symbol) → EitherOf rules x c → ((rules nests_bounded ≡ false) × Grouped (λ rules. body grammar rules 1) l rules x c) ⊎ Ungrouped l rules x c
        from rules x c (inl d) = inr d
        from rules x c (inr (w, k, packed, ss, e, (a, b, ha, hb, j))) = let z = h.1 rules ss b hb in inl (z.0, (w, k, packed, ss, e, (a, b, ha, z.1, j)))

    -- in the syntax that has groups, and in the others
    abbrev MemberIn : Bool → Rules → Member → Language
    MemberIn two rules x ts =
        ((f : DeclaredField) × (x ≡ (f, None)) × BeginsNot (if two then "group" ∷ [] else []) ts × field grammar rules l f ts) ⊎ lined two (group grammar rules (Body rules) l x) ts

    begins_any : (c : List Symbol) → BeginsNot [] c
    begins_any [] = tt
    begins_any (word w ∷ c) = refl
    begins_any (number w ∷ c) = tt
    begins_any (text w ∷ c) = tt
    begins_any (sign w ∷ c) = tt

    reads_member_in : (two : Bool) (nested : Nested) → Nests n Body nested → Reads n never (MemberIn two) (member_by two grammar n l nested)
    reads_member_in true nested h = reads_grouped nested h
    reads_member_in false nested h =
        said_so {Q = MemberIn false} (reads_mapped alone (reads_field grammar n l)) (λ rules x c d. inl (d.0, d.1, begins_any c, d.2)) from
      where
        from : (rules : Rules) (x : Member) (c : List Symbol) → MemberIn false rules x c → Mapped alone (λ rules. field grammar rules l) rules x c
        from rules x c (inl (f, e, b, d)) = (f, e, d)
        from rules x c (inr d) = absurd d

    pub reads_member : (nested : Nested) → Nests n Body nested → Reads n never (λ rules. member grammar rules (Body rules) l) (member_reader grammar n l nested)
    reads_member nested h = reads_member_in (is_proto2 grammar) nested h

  pub member_first : (rules : Rules) (Body : List MessageStatement → Language) (l : Label) (x : Member) → Headed begins_type (member grammar rules Body l x)
  member_first rules Body l x c (inl (f, e, b, d)) = field_first grammar rules l f c d
  member_first rules Body l x c (inr d) =
      headed_then begins_type (headed_then begins_type (headed_one begins_type (word (codes "group")) refl)) c (lined_kept (is_proto2 grammar) (group grammar rules Body l x) c d).5

  -- after the word of a label
  pub reads_labelled : (n : ℕ) (w : String) (l : Label) (Body : Rules → List MessageStatement → Language) (nested : Nested) → Nests n Body nested
      → Reads n never (λ rules x. keyword w ▸ member grammar rules (Body rules) l x) (labelled_reader grammar n (codes w) l nested)
  reads_labelled n w l Body nested h = reads_behind {L = λ rules. keyword w} (reads_keyword (codes w)) (reads_member n l Body nested h)
