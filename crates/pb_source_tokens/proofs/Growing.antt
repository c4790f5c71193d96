-- A reader that may go further answers the same, but where it came to the end of how far it might go.
use Rattle.std.proofs.Common.{◌≡◌, ℕ, zero, suc, ◌+◌, ◌-◌, List, [], ◌∷◌, ◌++◌, Bool, true, false, codes, refl, ap, ◌∙◌, Option, Some, None, Ok, Err, ◌⊎◌, inl, inr}
use Rattle.std.specs.Prelude.{if◌then◌else◌}
use Rattle.pb_source_tokens.specs.declared.rule.Rule.{Rule}
use Rattle.pb_source_tokens.specs.declared.rule.Rule.TheVariants.{OptionsKnown as options_known}
use Rattle.pb_source_tokens.specs.declared.bracket.Bracket.{Bracket}
use Rattle.pb_source_tokens.specs.declared.bracket.Bracket.TheVariants.{Curly}
use Rattle.pb_source_tokens.specs.declared.grammar.Grammar.{Grammar}
use Rattle.pb_source_tokens.specs.declared.grammar.Grammar.TheVariants.{Strict, Lenient}
use Rattle.pb_source_tokens.specs.declared.grammar.Syntax.TheVariants.{Proto2, Proto3}
use Rattle.pb_source_tokens.specs.Symbols.{Symbol}
use Rattle.pb_source_tokens.specs.Language.{Rules}
use Rattle.pb_source_tokens.specs.Said.{a_name, joined, last_said}
use Rattle.pb_source_tokens.specs.Phrases.{is_the_name}
use Rattle.pb_source_tokens.specs.Readers.Forms.{Outcome, Reader, on_outcome, answer, chain, mapped, both, preceded, before, choice, by_kind, on_kind, if_some, guarded, ruled, first_passes, symbol, plain, judged, tested, is_mark, keyword_reader, mark_reader, until, separated, to_end}
use Rattle.pb_source_tokens.specs.Readers.Phrases.{is_word, numeral_reader, open_after, closed_reader, aggregate_reader, signed_value_reader, unquoted_reader, part_reader, name_reader, plus_or_minus_reader, integer_in, part_in, truth_in, type_of, is_dot, is_text, is_number, is_comma, if_allowed, listed, fullname_reader, typename_reader, constant_reader, optname_reader, assignment_reader, option_reader, said_reader, setting_reader, field_option_reader, options_reader, ended_reader, value_end_reader, type_reader}

-- the second may go further than the first
pub record Grows {A : Type 0} (p q : Reader A) : Type 0 where
  pub grows : (rules : Rules) (ts : List Symbol) → (q rules ts ≡ p rules ts) ⊎ ((why : Option Rule) × (p rules ts ≡ Err ([], why)))

pub grows_same : {A : Type 0} (p : Reader A) → Grows p p
grows_same p = record { grows = λ rules ts. inl refl }

-- ---- readers that are built of readers

pub grows_chain : {A B : Type 0} {p q : Reader A} {f g : A → Reader B} → Grows p q → ((v : A) → Grows (f v) (g v)) → Grows (chain p f) (chain q g)
grows_chain {A} {B} {p} {q} {f} {g} r s = record { grows = λ rules ts. first rules ts (r.grows rules ts) }
  where
    onward : (rules : Rules) (o : Outcome A) → (on_outcome o (λ v rest. g v rules rest) ≡ on_outcome o (λ v rest. f v rules rest))
        ⊎ ((why : Option Rule) × (on_outcome o (λ v rest. f v rules rest) ≡ Err ([], why)))
    onward rules (Ok x) = (s x.0).grows rules x.1
    onward rules (Err e) = inl refl

    joined : (rules : Rules) (ts : List Symbol) → q rules ts ≡ p rules ts
        → (on_outcome (p rules ts) (λ v rest. g v rules rest) ≡ on_outcome (p rules ts) (λ v rest. f v rules rest))
        ⊎ ((why : Option Rule) × (on_outcome (p rules ts) (λ v rest. f v rules rest) ≡ Err ([], why)))
        → (chain q g rules ts ≡ chain p f rules ts) ⊎ ((why : Option Rule) × (chain p f rules ts ≡ Err ([], why)))
    joined rules ts e (inl h) = inl (ap (λ o. on_outcome o (λ v rest. g v rules rest)) e ∙ h)
    joined rules ts e (inr h) = inr h

    first : (rules : Rules) (ts : List Symbol) → (q rules ts ≡ p rules ts) ⊎ ((why : Option Rule) × (p rules ts ≡ Err ([], why)))
        → (chain q g rules ts ≡ chain p f rules ts) ⊎ ((why : Option Rule) × (chain p f rules ts ≡ Err ([], why)))
    first rules ts (inl e) = joined rules ts e (onward rules (p rules ts))
    first rules ts (inr (why, e)) = inr (why, ap (λ o. on_outcome o (λ v rest. f v rules rest)) e)

pub grows_mapped : {A B : Type 0} {p q : Reader A} (g : A → B) → Grows p q → Grows (mapped g p) (mapped g q)
grows_mapped g r = grows_chain r (λ v. grows_same (answer (g v)))

pub grows_both : {A B : Type 0} {p q : Reader A} {r s : Reader B} → Grows p q → Grows r s → Grows (both p r) (both q s)
grows_both g h = grows_chain g (λ v. grows_mapped (λ w. (v, w)) h)

pub grows_behind : {B : Type 0} {p q : Reader (Unit {0})} {r s : Reader B} → Grows p q → Grows r s → Grows (preceded p r) (preceded q s)
grows_behind g h = grows_chain g (λ _. h)

pub grows_before : {A : Type 0} {p q : Reader A} {r s : Reader (Unit {0})} → Grows p q → Grows r s → Grows (before p r) (before q s)
grows_before g h = grows_chain g (λ v. grows_mapped (λ _. v) h)

pub grows_choice : {A : Type 0} {p q r s : Reader A} (test : Symbol → Bool) → Grows p q → Grows r s → Grows (choice test p r) (choice test q s)
grows_choice {A} {p} {q} {r} {s} test g h = record { grows = λ rules ts. pick rules ts (first_passes test ts) }
  where
    pick : (rules : Rules) (ts : List Symbol) (b : Bool) → ((if b then q rules ts else s rules ts) ≡ (if b then p rules ts else r rules ts))
        ⊎ ((why : Option Rule) × ((if b then p rules ts else r rules ts) ≡ Err ([], why)))
    pick rules ts true = g.grows rules ts
    pick rules ts false = h.grows rules ts

abbrev pub GrowsSome : {A : Type 0} → Option (Reader A) → Option (Reader A) → Type 0
GrowsSome None None = Unit {0}
GrowsSome None (Some q) = ⊥
GrowsSome (Some p) None = ⊥
GrowsSome (Some p) (Some q) = Grows p q

pub grows_kinds : {K A : Type 0} (kind : Symbol → Option K) (p q : K → Option (Reader A)) → ((k : K) → GrowsSome (p k) (q k))
    → Grows (by_kind kind p) (by_kind kind q)
grows_kinds {K} {A} kind p q g = record { grows = at }
  where
    some : (rules : Rules) (ts : List Symbol) (x y : Option (Reader A)) → GrowsSome x y → (if_some y rules ts ≡ if_some x rules ts)
        ⊎ ((why : Option Rule) × (if_some x rules ts ≡ Err ([], why)))
    some rules ts None None h = inl refl
    some rules ts None (Some y) h = absurd h
    some rules ts (Some x) None h = absurd h
    some rules ts (Some x) (Some y) h = h.grows rules ts

    of : (rules : Rules) (ts : List Symbol) (o : Option K) → (on_kind q o rules ts ≡ on_kind p o rules ts)
        ⊎ ((why : Option Rule) × (on_kind p o rules ts ≡ Err ([], why)))
    of rules ts None = inl refl
    of rules ts (Some k) = some rules ts (p k) (q k) (g k)

    at : (rules : Rules) (ts : List Symbol) → (by_kind kind q rules ts ≡ by_kind kind p rules ts)
        ⊎ ((why : Option Rule) × (by_kind kind p rules ts ≡ Err ([], why)))
    at rules [] = inl refl
    at rules (s ∷ ts) = of rules (s ∷ ts) (kind s)

pub grows_guarded : {A : Type 0} {p q r s : Reader A} (rule : Rule) (test : Symbol → Bool) → Grows p q → Grows r s
    → Grows (guarded rule test p r) (guarded rule test q s)
grows_guarded {A} {p} {q} {r} {s} rule test g h = record { grows = λ rules ts. pick rules ts (first_passes test ts) }
  where
    under : (rules : Rules) (ts : List Symbol) (b : Bool) → (ruled b rule ts (q rules ts) ≡ ruled b rule ts (p rules ts))
        ⊎ ((why : Option Rule) × (ruled b rule ts (p rules ts) ≡ Err ([], why)))
    under rules ts true = inl refl
    under rules ts false = g.grows rules ts

    pick : (rules : Rules) (ts : List Symbol) (b : Bool)
        → ((if b then ruled (rules rule) rule ts (q rules ts) else s rules ts) ≡ (if b then ruled (rules rule) rule ts (p rules ts) else r rules ts))
        ⊎ ((why : Option Rule) × ((if b then ruled (rules rule) rule ts (p rules ts) else r rules ts) ≡ Err ([], why)))
    pick rules ts true = under rules ts (rules rule)
    pick rules ts false = h.grows rules ts

-- ---- repetition

pub grows_until : {I : Type 0} {p q : Reader I} {r s : Reader (Unit {0})} (n : ℕ) (test : Symbol → Bool) (front : List I) → Grows p q → Grows r s
    → Grows (until n test p r front) (until (suc n) test q s front)
grows_until zero test front g h = record { grows = λ rules ts. inr (None, refl) }
grows_until {I} {p} {q} {r} {s} (suc n) test front g h =
    let step = grows_choice test (grows_mapped (λ _. front) h) (grows_chain g (λ i. grows_until n test (front ++ i ∷ []) g h)) in
    record { grows = λ rules ts. step.grows rules ts }

grows_separated : {I : Type 0} {p q : Reader I} {r s : Reader (Unit {0})} (n : ℕ) (test : Symbol → Bool) → Grows p q → Grows r s
    → Grows (separated n test p r) (separated (suc n) test q s)
grows_separated zero test g h = record { grows = λ rules ts. inr (None, refl) }
grows_separated {I} {p} {q} {r} {s} (suc n) test g h =
    let step =
    grows_chain g (λ i. grows_choice test (grows_behind h (grows_mapped (λ is. i ∷ is) (grows_separated n test g h))) (grows_same (answer (i ∷ [])))) in
    record { grows = λ rules ts. step.grows rules ts }

pub grows_to_end : {I : Type 0} {p q : Bool → Reader I} (n : ℕ) (marks : I → Bool) (marked : Bool) (front : List I) → ((b : Bool) → Grows (p b) (q b))
    → Grows (to_end n marks p marked front) (to_end (suc n) marks q marked front)
grows_to_end {I} {p} {q} zero marks marked front g = record { grows = at }
  where
    at : (rules : Rules) (ts : List Symbol) → (to_end 1 marks q marked front rules ts ≡ to_end 0 marks p marked front rules ts)
        ⊎ ((why : Option Rule) × (to_end 0 marks p marked front rules ts ≡ Err ([], why)))
    at rules [] = inl refl
    at rules (s ∷ ts) = inr (None, refl)
grows_to_end {I} {p} {q} (suc n) marks marked front g =
    record { grows = λ rules ts. at (grows_chain (g marked) (λ i. grows_to_end n marks (if marked then true else marks i) (front ++ i ∷ []) g)) rules ts }
  where
    at : Grows (chain (p marked) (λ i. to_end n marks p (if marked then true else marks i) (front ++ i ∷ [])))
        (chain (q marked) (λ i. to_end (suc n) marks q (if marked then true else marks i) (front ++ i ∷ [])))
        → (rules : Rules) (ts : List Symbol) → (to_end (suc (suc n)) marks q marked front rules ts ≡ to_end (suc n) marks p marked front rules ts)
        ⊎ ((why : Option Rule) × (to_end (suc n) marks p marked front rules ts ≡ Err ([], why)))
    at step rules [] = inl refl
    at step rules (s ∷ ts) = step.grows rules (s ∷ ts)

pub grows_listed : {I : Type 0} {p q : Reader I} (n : ℕ) → Grows p q → Grows (listed n p) (listed (suc n) q)
grows_listed n g = grows_separated n is_comma g (grows_same (mark_reader (codes ",")))

-- ---- the lines of the grammar

pub grows_fullname : (n : ℕ) → Grows (fullname_reader n) (fullname_reader (suc n))
unfolding fullname_reader
grows_fullname n = grows_separated n is_dot (grows_same name_reader) (grows_same (mark_reader (codes ".")))

pub grows_typename : (n : ℕ) → Grows (typename_reader n) (typename_reader (suc n))
unfolding typename_reader
grows_typename n =
    grows_choice is_dot (grows_behind (grows_same (mark_reader (codes "."))) (grows_mapped (λ ws. 46 ∷ joined ws) (grows_fullname n)))
    (grows_mapped joined (grows_fullname n))

grows_aggregate : (n : ℕ) → Grows (aggregate_reader n) (aggregate_reader (suc n))
unfolding aggregate_reader
grows_aggregate n = grows_behind (grows_same (mark_reader (codes "{"))) (grows_closed n (Curly ∷ []))
  where
    grows_closed : (n : ℕ) (bs : List Bracket) → Grows (closed_reader n bs) (closed_reader (suc n) bs)
    grows_closed zero [] = record { grows = λ rules ts. inl refl }
    grows_closed zero (b ∷ bs) = record { grows = λ rules ts. inr (None, refl) }
    grows_closed (suc n) [] = record { grows = λ rules ts. inl refl }
    grows_closed (suc n) (b ∷ bs) = grows_chain (grows_same (symbol (plain (open_after (b ∷ bs))))) (grows_closed n)

grows_signed_value : (g : Grammar) (n : ℕ) → Grows (signed_value_reader g n) (signed_value_reader g (suc n))
unfolding signed_value_reader
grows_signed_value Strict n =
    grows_behind (grows_same plus_or_minus_reader)
    (grows_choice is_number (grows_same (mapped (λ _. tt) (symbol (plain integer_in)))) (grows_mapped (λ _. tt) (grows_fullname n)))
grows_signed_value (Lenient s) n =
    grows_behind (grows_same plus_or_minus_reader) (grows_choice is_word (grows_mapped (λ _. tt) (grows_fullname n)) (grows_same numeral_reader))

grows_unquoted : (g : Grammar) (n : ℕ) → Grows (unquoted_reader g n) (unquoted_reader g (suc n))
unfolding unquoted_reader
grows_unquoted Strict n = grows_signed_value Strict n
grows_unquoted (Lenient s) n = grows_choice (is_mark (codes "{")) (grows_aggregate n) (grows_signed_value (Lenient Proto3) n)

grows_constant : (g : Grammar) (n : ℕ) → Grows (constant_reader g n) (constant_reader g (suc n))
unfolding constant_reader
grows_constant g n = grows_choice is_text (grows_same (tested is_text)) (grows_unquoted g n)

grows_part : (g : Grammar) (n : ℕ) → Grows (part_reader g n) (part_reader g (suc n))
unfolding part_reader
grows_part Strict n = grows_same (symbol (judged options_known part_in))
grows_part (Lenient s) n =
    grows_choice (is_mark (codes "("))
    (grows_behind (grows_same (mark_reader (codes "("))) (grows_before (grows_mapped (λ _. codes "(") (grows_typename n)) (grows_same (mark_reader (codes ")")))))
    (grows_same name_reader)

grows_optname : (g : Grammar) (n : ℕ) → Grows (optname_reader g n) (optname_reader g (suc n))
unfolding optname_reader
grows_optname g n = grows_separated n is_dot (grows_part g n) (grows_same (mark_reader (codes ".")))

grows_assignment : (g : Grammar) (n : ℕ) → Grows (assignment_reader g n) (assignment_reader g (suc n))
unfolding assignment_reader
grows_assignment g n = grows_behind (grows_mapped (λ _. tt) (grows_optname g n)) (grows_behind (grows_same (mark_reader (codes "="))) (grows_constant g n))

pub grows_option : (g : Grammar) (n : ℕ) → Grows (option_reader g n) (option_reader g (suc n))
unfolding option_reader
grows_option g n = grows_behind (grows_same (keyword_reader (codes "option"))) (grows_before (grows_assignment g n) (grows_same (mark_reader (codes ";"))))

grows_said : (g : Grammar) (n : ℕ) (b : Bool) → Grows (said_reader g n b) (said_reader g (suc n) b)
grows_said g n true = grows_same (mapped Some (symbol (plain truth_in)))
grows_said g n false = grows_mapped (λ _. None) (grows_constant g n)

pub grows_setting : (g : Grammar) (n : ℕ) (v : List ℕ) → Grows (setting_reader g n v) (setting_reader g (suc n) v)
unfolding setting_reader
grows_setting g n v = grows_chain (grows_optname g n) (λ name. grows_behind (grows_same (mark_reader (codes "="))) (grows_said g n (is_the_name v name)))

grows_field_option : (g : Grammar) (n : ℕ) → Grows (field_option_reader g n) (field_option_reader g (suc n))
unfolding field_option_reader
grows_field_option g n =
    grows_kinds (if_allowed g) (λ _. Some (setting_reader g n (codes "packed"))) (λ _. Some (setting_reader g (suc n) (codes "packed")))
    (λ k. grows_setting g n (codes "packed"))

grows_options : {I : Type 0} {p q : Reader I} (close : List ℕ) (n : ℕ) → Grows p q → Grows (options_reader close n p) (options_reader close (suc n) q)
unfolding options_reader
grows_options close n g = grows_behind (grows_same (mark_reader (codes "[")))
    (grows_before (grows_listed n g) (grows_same (preceded (mark_reader (codes "]")) (mark_reader close))))

pub grows_ended : (close : List ℕ) (g : Grammar) (n : ℕ) → Grows (ended_reader close g n) (ended_reader close g (suc n))
unfolding ended_reader
grows_ended close g n = grows_choice (is_mark (codes "[")) (grows_mapped (last_said None) (grows_options close n (grows_field_option g n)))
    (grows_same (mapped (λ _. None) (mark_reader close)))

pub grows_value_end : (g : Grammar) (n : ℕ) → Grows (value_end_reader g n) (value_end_reader g (suc n))
unfolding value_end_reader
grows_value_end g n = grows_choice (is_mark (codes "[")) (grows_mapped (λ _. tt) (grows_options (codes ";") n (grows_assignment g n))) (grows_same (mark_reader (codes ";")))

pub grows_type : (n : ℕ) → Grows (type_reader n) (type_reader (suc n))
unfolding type_reader
grows_type n =
    grows_choice is_dot (grows_behind (grows_same (mark_reader (codes "."))) (grows_mapped (λ ws. a_name (46 ∷ joined ws)) (grows_fullname n)))
    (grows_mapped type_of (grows_fullname n))
