-- A reader of a language tells exactly the faults, and reads exactly the words.
use Rattle.std.proofs.Common.{◌≡◌, ◌≢◌, ℕ, suc, ◌+◌, ◌-◌, ◌<◌, ◌≤◌, List, [], ◌∷◌, ◌++◌, length, take, drop, Bool, true, false, refl, ap, sym, ◌∙◌, subst, append_assoc, append-nil, length-append, Option, Some, None, Result, Ok, Err, arith, ◌⊎◌, inl, inr}
use Rattle.std.proofs.lemmas.Bool.{cases_lt}
use Rattle.std.proofs.lemmas.List.{append_cancel_right, take-append-le, take-append-drop, take-take}
use Rattle.std.proofs.Math.Seq.{take-append_seam}
use Rattle.pb_source_tokens.specs.Symbols.{Symbol}
use Rattle.pb_source_tokens.specs.Language.{Language, Rules, all_rules, without, cause_of, reported, Begins}
use Rattle.pb_source_tokens.specs.declared.rule.Rule.{Rule}
use Rattle.pb_source_tokens.specs.declared.rule.Rule.TheVariants.{NumbersFit as numbers_fit, OptionsKnown as options_known, SyntaxFirst as syntax_first, NestsBounded as nests_bounded, TextsValid as texts_valid}
use Rattle.pb_source_tokens.specs.Readers.Forms.{Reader}
use Rattle.pb_source_tokens.specs.declared.fault.SourceCause.{SourceCause}
use Rattle.pb_source_tokens.specs.declared.fault.SourceCause.TheVariants.{Unexpected}
use Rattle.pb_source_tokens.proofs.ReaderLaws.{Reads, Refused, leaves}
use Rattle.pb_source.specs.SyntaxFault.{IsCause, Fault}

leaves_itself : (r : Rule) → leaves (without r) (Some r) ≡ true
leaves_itself numbers_fit = refl
leaves_itself options_known = refl
leaves_itself syntax_first = refl
leaves_itself nests_bounded = refl
leaves_itself texts_valid = refl

-- a cause is of one rule
same_rule : (r s : Rule) → (cause_of r ≡ cause_of s) ⊎ (leaves (without r) (Some s) ≡ false)
same_rule numbers_fit numbers_fit = inl refl
same_rule options_known options_known = inl refl
same_rule syntax_first syntax_first = inl refl
same_rule nests_bounded nests_bounded = inl refl
same_rule texts_valid texts_valid = inl refl
same_rule numbers_fit _ = inr refl
same_rule options_known _ = inr refl
same_rule syntax_first _ = inr refl
same_rule nests_bounded _ = inr refl
same_rule texts_valid _ = inr refl

not_unexpected : (s : Rule) → Unexpected ≡ reported (Some s) → ⊥
not_unexpected numbers_fit e = cc e
not_unexpected options_known e = cc e
not_unexpected syntax_first e = cc e
not_unexpected nests_bounded e = cc e
not_unexpected texts_valid e = cc e

take_front : (front : List Symbol) (x : List Symbol) → take (length front) (front ++ x) ≡ front
take_front front x = take-append_seam front x

take_more : (front : List Symbol) (t : Symbol) (x : List Symbol) → take (suc (length front)) (front ++ t ∷ x) ≡ front ++ t ∷ []
take_more [] t x = refl
take_more (s ∷ front) t x = ap (λ r. s ∷ r) (take_more front t x)

-- what begins with a front that begins a word begins one
begins_less : {A : Type 0} (R : A → Language) (a b : List Symbol) → Begins R (a ++ b) → Begins R a
begins_less R a b (v, more, d) = (v, b ++ more, subst (R v) (append_assoc a b more) d)

module _ {A : Type 0} (e : Symbol → Bool) (File : Rules → A → Language) (p : ℕ → Reader A) (reads : (n : ℕ) → Reads n e File (p n)) where
  -- where the rules hold, these symbols are refused so, however far the reader may go
  abbrev pub Refuses : Rules → List Symbol → List Symbol → Option Rule → Type 0
  Refuses rules ts rest why = (n : ℕ) → length ts ≤ n → p n rules ts ≡ Err (rest, why)

  no_word : (rules : Rules) (front : List Symbol) (t : Symbol) (x : List Symbol) (why : Option Rule)
      → ((n : ℕ) → length (front ++ t ∷ x) ≤ n → p n rules (front ++ t ∷ x) ≡ Err (t ∷ x, why)) → ¬ Begins (File rules) (front ++ t ∷ [])
  no_word rules front t x why h (v, more, d) =
      let n = length (front ++ t ∷ x) + length (front ++ t ∷ more) in
      let j : (front ++ t ∷ []) ++ more ≡ front ++ t ∷ more = append_assoc front (t ∷ []) more in
      let w : File rules v (front ++ t ∷ more) = subst (File rules v) j d in
      let e : (front ++ t ∷ more) ++ [] ≡ front ++ t ∷ more = append-nil (front ++ t ∷ more) in
      let reads_it : p n rules ((front ++ t ∷ more) ++ []) ≡ Ok (v, []) = (reads n).complete rules v (front ++ t ∷ more) [] (subst (λ ts. length ts ≤ n) (sym e) (omega arith)) w tt in
      let refuses_it : p n rules (front ++ t ∷ more) ≡ Err (t ∷ more, why) = (reads n).stuck rules front t x more why (omega arith) (omega arith) (h n (omega arith)) in
      absurd (disjoint (sym reads_it ∙ ap (λ ts. p n rules ts) e ∙ refuses_it))
    where
      disjoint : {B C : Type 0} {b : B} {c : C} → Ok b ≡ Err c → ⊥
      disjoint h = cc h

  -- refused with a symbol: nothing with it begins a word, and the cause is exact
  at_symbol : (front : List Symbol) (t : Symbol) (x : List Symbol) (why : Option Rule)
      → ((n : ℕ) → length (front ++ t ∷ x) ≤ n → p n all_rules (front ++ t ∷ x) ≡ Err (t ∷ x, why)) → IsCause File (front ++ t ∷ []) (reported why)
  at_symbol front t x None h =
      IsCause.no_rule (λ r. no_word (without r) front t x None (λ n l. (reads n).same (without r) (front ++ t ∷ x) (t ∷ x) None l refl (h n l)))
  at_symbol front t x (Some r) h =
      let n = length (front ++ t ∷ x) in
      let a = (reads n).allowed (without r) (front ++ t ∷ x) (t ∷ x) (Some r) (omega arith) (leaves_itself r) (h n (omega arith)) in
      let same_end : t ∷ x ≡ a.symbol ∷ a.more = a.left in
      let same_front : front ≡ a.front = append_cancel_right front a.front (t ∷ x) (a.joined ∙ ap (λ r. a.front ++ r) (sym same_end)) in
      let same_symbol : a.symbol ≡ t = head_is a.symbol t a.more x (sym same_end) in
      IsCause.a_rule r (subst (Begins (File (without r))) (ap (λ c. c ++ a.symbol ∷ []) (sym same_front) ∙ ap (λ s. front ++ s ∷ []) same_symbol) a.begins)
    where
      head_is : (s t : Symbol) (xs ys : List Symbol) → s ∷ xs ≡ t ∷ ys → s ≡ t
      head_is s t xs ys h = cc h

  -- what is refused has the fault that is reported
  pub refused_so : (ts rest : List Symbol) (why : Option Rule) → ts ≢ [] → Refuses all_rules ts rest why → Fault File ts (length ts - length rest) (reported why)
  refused_so ts [] why some h =
      let n = length ts in
      let none : why ≡ None = (reads n).at_end all_rules ts why (omega arith) (h n (omega arith)) in
      let r = (reads n).refused all_rules ts [] why (omega arith) (h n (omega arith)) in
      let all : ts ≡ r.front = r.joined ∙ append-nil r.front in
      subst (λ w. Fault File ts (length ts - 0) (reported w)) (sym none)
      (subst (λ k. Fault File ts k Unexpected) (whole_length (length ts))
      (Fault.at_end some (subst (Begins (File all_rules)) (sym all) r.begins)
      (λ v d. contradiction ((reads n).complete all_rules v ts [] (subst (λ c. length c ≤ n) (sym (append-nil ts)) (omega arith)) d tt) (ap (λ c. p n all_rules c) (append-nil ts) ∙ h n (omega arith)))))
    where
      whole_length : (n : ℕ) → n ≡ n - 0
      whole_length n = omega arith

      contradiction : {B C : Type 0} {o : Result B C} {b : B} {c : C} → o ≡ Ok b → o ≡ Err c → ⊥
      contradiction f g = cc (f, g)
  refused_so ts (t ∷ x) why some h =
      let n = length ts in
      let r = (reads n).refused all_rules ts (t ∷ x) why (omega arith) (h n (omega arith)) in
      let h' : (m : ℕ) → length (r.front ++ t ∷ x) ≤ m → p m all_rules (r.front ++ t ∷ x) ≡ Err (t ∷ x, why) =
      λ m l. ap (λ c. p m all_rules c) (sym r.joined) ∙ h m (subst (λ c. length c ≤ m) (sym r.joined) l) in
      let k : length ts ≡ length r.front + suc (length x) = ap length r.joined ∙ length-append r.front (t ∷ x) in
      let place : length r.front ≡ length ts - length (t ∷ x) = omega arith in
      subst (λ k. Fault File ts k (reported why)) place
      (subst (λ c. Fault File c (length r.front) (reported why)) (sym r.joined)
      (Fault.at_symbol (subst (λ m. length r.front < m) (sym (length-append r.front (t ∷ x))) (omega arith))
      (subst (Begins (File all_rules)) (sym (take_front r.front (t ∷ x))) r.begins)
      (λ b. no_word all_rules r.front t x why h' (subst (Begins (File all_rules)) (take_more r.front t x) b))
      (subst (λ c. IsCause File c (reported why)) (sym (take_more r.front t x)) (at_symbol r.front t x why h'))))

  -- and nothing else
  pub only_so : (ts rest : List Symbol) (why : Option Rule) (k : ℕ) (c : SourceCause) → ts ≢ [] → Refuses all_rules ts rest why → Fault File ts k c
      → (k ≡ length ts - length rest) × (c ≡ reported why)
  only_so ts rest why k c some h f = by_fault rest why h f
    where
      F : List Symbol → Type 0
      F = Begins (File all_rules)

      reading : (rest : List Symbol) (why : Option Rule) → Refuses all_rules ts rest why → Refused (File all_rules) ts rest
      reading rest why h = (reads (length ts)).refused all_rules ts rest why (omega arith) (h (length ts) (omega arith))

      moved : (front : List Symbol) (t : Symbol) (x : List Symbol) (why : Option Rule) → ts ≡ front ++ t ∷ x → Refuses all_rules ts (t ∷ x) why → Refuses all_rules (front ++ t ∷ x) (t ∷ x) why
      moved front t x why j h m l = ap (λ c. p m all_rules c) (sym j) ∙ h m (subst (λ c. length c ≤ m) (sym j) l)

      at_the_end : (why : Option Rule) → Refuses all_rules ts [] why → why ≡ None
      at_the_end why h = (reads (length ts)).at_end all_rules ts why (omega arith) (h (length ts) (omega arith))

      same_cause : (front : List Symbol) (t : Symbol) (x : List Symbol) (why : Option Rule) (c : SourceCause)
          → Refuses all_rules (front ++ t ∷ x) (t ∷ x) why → IsCause File (front ++ t ∷ []) c → c ≡ reported why
      same_cause front t x None c h (IsCause.a_rule r b) =
          absurd (no_word (without r) front t x None (λ n l. (reads n).same (without r) (front ++ t ∷ x) (t ∷ x) None l refl (h n l)) b)
      same_cause front t x (Some s) c h (IsCause.a_rule r b) =
          elim (same_rule r s) [
            | inl e ↦ e
            | inr e ↦ absurd (no_word (without r) front t x (Some s) (λ n l. (reads n).same (without r) (front ++ t ∷ x) (t ∷ x) (Some s) l e (h n l)) b)
          ]
      same_cause front t x None c h (IsCause.no_rule g) = refl
      same_cause front t x (Some s) c h (IsCause.no_rule g) = absurd (refuted (at_symbol front t x (Some s) h) refl)
        where
          refuted : {d : SourceCause} → IsCause File (front ++ t ∷ []) d → d ≡ reported (Some s) → ⊥
          refuted (IsCause.a_rule r b) e = g r b
          refuted (IsCause.no_rule _) e = not_unexpected s e

      by_fault : (rest : List Symbol) (why : Option Rule) {k : ℕ} {c : SourceCause} → Refuses all_rules ts rest why → Fault File ts k c → (k ≡ length ts - length rest) × (c ≡ reported why)
      by_fault rest why h (Fault.no_symbols e n) = absurd (some e)
      by_fault [] why h (Fault.at_end _ b none) = (omega arith, ap reported (sym (at_the_end why h)))
      by_fault (t ∷ x) why h (Fault.at_end _ b none) =
          let r = reading (t ∷ x) why h in
          absurd (no_word all_rules r.front t x why (moved r.front t x why r.joined h)
          (begins_less (File all_rules) (r.front ++ t ∷ []) x (subst F (r.joined ∙ sym (append_assoc r.front (t ∷ []) x)) b)))
      by_fault [] why h (Fault.at_symbol {k} l b never w) =
          let r = reading [] why h in
          absurd (never (begins_less (File all_rules) (take (suc k) ts) (drop (suc k) ts) (subst F (sym (r.joined ∙ append-nil r.front) ∙ sym (take-append-drop (suc k) ts)) r.begins)))
      by_fault (t ∷ x) why h (Fault.at_symbol {k} {c} l b never w) =
          let r = reading (t ∷ x) why h in
          let size : length ts ≡ length r.front + suc (length x) = ap length r.joined ∙ length-append r.front (t ∷ x) in
          let place : length r.front ≡ length ts - length (t ∷ x) = omega arith in
          let h' = moved r.front t x why r.joined h in
          let early : k < length r.front → ⊥ = λ z. never (begins_less (File all_rules) (take (suc k) ts) (drop (suc k) r.front)
          (subst F (sym (ap (λ c. c ++ drop (suc k) r.front) (ap (take (suc k)) r.joined ∙ take-append-le (suc k) r.front (t ∷ x) (omega arith)) ∙ take-append-drop (suc k) r.front)) r.begins)) in
          let late : length r.front < k → ⊥ = λ z. no_word all_rules r.front t x why h'
          (begins_less (File all_rules) (r.front ++ t ∷ []) (drop (suc (length r.front)) (take k ts)) (subst F (beyond r.front t x k r.joined z) b)) in
          let same : k ≡ length r.front = meet k (length r.front) early late in
          (same ∙ place, same_cause r.front t x why c h' (subst (λ z. IsCause File z c) (ap (λ k. take (suc k) ts) same ∙ ap (take (suc (length r.front))) r.joined ∙ take_more r.front t x) w))
        where
          meet : (a b : ℕ) → (a < b → ⊥) → (b < a → ⊥) → a ≡ b
          meet a b f g = elim (cases_lt a b) [ inl h ↦ absurd (f h) | inr h ↦ elim (cases_lt b a) [ inl z ↦ absurd (g z) | inr z ↦ omega arith ] ]

          beyond : (front : List Symbol) (t : Symbol) (x : List Symbol) (k : ℕ) → ts ≡ front ++ t ∷ x → length front < k
              → take k ts ≡ (front ++ t ∷ []) ++ drop (suc (length front)) (take k ts)
          beyond front t x k j z =
              sym (take-append-drop (suc (length front)) (take k ts))
              ∙ ap (λ c. c ++ drop (suc (length front)) (take k ts)) (take-take (suc (length front)) k ts (omega arith) ∙ ap (take (suc (length front))) j ∙ take_more front t x)

  -- words are read, and no word is refused
  pub words_read : (ts : List Symbol) (v : A) (n : ℕ) → length ts ≤ n → File all_rules v ts → p n all_rules ts ≡ Ok (v, [])
  words_read ts v n l d = ap (p n all_rules) (sym (append-nil ts)) ∙ (reads n).complete all_rules v ts [] (subst (λ c. length c ≤ n) (sym (append-nil ts)) l) d tt

  pub read_words : (ts : List Symbol) (v : A) (n : ℕ) → length ts ≤ n → p n all_rules ts ≡ Ok (v, []) → File all_rules v ts
  read_words ts v n l h = let a = (reads n).sound all_rules ts v [] l h in subst (File all_rules v) (sym (a.joined ∙ append-nil a.taken)) a.derived
