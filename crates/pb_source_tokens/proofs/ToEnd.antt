-- Readers of items up to the end, each by whether a marked one stands before it.
use Rattle.std.proofs.Common.{◌≡◌, ℕ, zero, suc, ◌+◌, ◌≤◌, List, [], ◌∷◌, ◌++◌, length, Bool, true, false, refl, ap, sym, ◌∙◌, subst, append_assoc, append-nil, length-append, Option, None, Ok, Err, arith, ◌⊎◌, inl, inr}
use Rattle.std.specs.Prelude.{if◌then◌else◌}
use Rattle.std.proofs.lemmas.Bool.{false≢true}
use Rattle.pb_source_tokens.specs.declared.rule.Rule.{Rule}
use Rattle.pb_source_tokens.specs.Symbols.{Symbol}
use Rattle.pb_source_tokens.specs.Language.{Language, ◌▸◌, nothing, Rules, all_rules}
use Rattle.pb_source_tokens.specs.Readers.Forms.{Refusal, Outcome, Reader, chain, on_rest, to_end}
use Rattle.pb_source_tokens.proofs.ReaderLaws.{Reads, IsStop, Taken, Refused, Allowed, leaves, Chained, reads_chain}
use Rattle.pb_source_tokens.proofs.Parts.{ok_parts, reads_as, reads_less}
use Rattle.pb_source_tokens.proofs.Compose.{never, any_stop}
use Rattle.pb_source_tokens.proofs.Loops.{reads_none}

-- nothing may follow
abbrev pub always : Symbol → Bool
always _ = true

-- ---- the value at the end, or a reader

module _ {I : Type 0} (n : ℕ) (front : List I) (R : Rules → List I → Language) (p : Reader (List I)) (rp : Reads n always R p)
    (filled : (rules : Rules) (v : List I) → R rules v [] → ⊥) where
  abbrev ended : Reader (List I)
  ended rules ts = on_rest front ts (p rules ts)

  abbrev pub OrEnd : Rules → List I → Language
  OrEnd rules v ts = ((v ≡ front) × (ts ≡ [])) ⊎ R rules v ts

  apart : {o : Outcome (List I)} {x : List I × List Symbol} {y : Refusal} → o ≡ Err y → o ≡ Ok x → ⊥
  apart h k = cc (h, k)

  end_sound : (rules : Rules) (ts : List Symbol) (v : List I) (rest : List Symbol) → length ts ≤ n → ended rules ts ≡ Ok (v, rest) → Taken (OrEnd rules) ts v rest
  end_sound rules [] v rest l h = let q = ok_parts {v = front} {w = v} {x = []} {y = rest} h in record { taken = []; joined = q.1; derived = inl (sym q.0, refl) }
  end_sound rules (s ∷ ts) v rest l h = let a = rp.sound rules (s ∷ ts) v rest l h in record { taken = a.taken; joined = a.joined; derived = inr a.derived }

  end_complete : (rules : Rules) (v : List I) (c rest : List Symbol) → length (c ++ rest) ≤ n → OrEnd rules v c → IsStop always rest → ended rules (c ++ rest) ≡ Ok (v, rest)
  end_complete rules v c (t ∷ rest) l d stop = absurd (false≢true (sym stop))
  end_complete rules v (s ∷ c) [] l (inr d) stop = rp.complete rules v (s ∷ c) [] l d stop
  end_complete rules v [] [] l (inr d) stop = absurd (filled rules v d)
  end_complete rules v [] [] l (inl d) stop = ap (λ v. Ok (v, [])) (sym d.0)
  end_complete rules v (s ∷ c) [] l (inl d) stop = absurd (cc d.1)

  end_again : (rules : Rules) (c : List Symbol) (v : List I) (t : Symbol) (x y : List Symbol) → length (c ++ t ∷ x) ≤ n → length (c ++ t ∷ y) ≤ n
      → ended rules (c ++ t ∷ x) ≡ Ok (v, t ∷ x) → ended rules (c ++ t ∷ y) ≡ Ok (v, t ∷ y)
  end_again rules [] v t x y l k h = rp.again rules [] v t x y l k h
  end_again rules (s ∷ c) v t x y l k h = rp.again rules (s ∷ c) v t x y l k h

  end_refused : (rules : Rules) (ts rest : List Symbol) (why : Option Rule) → length ts ≤ n → ended rules ts ≡ Err (rest, why) → Refused (OrEnd rules) ts rest
  end_refused rules [] rest why l h = absurd (apart h refl)
  end_refused rules (s ∷ ts) rest why l h =
      let a = rp.refused rules (s ∷ ts) rest why l h in record { front = a.front; joined = a.joined; begins = (a.begins.0, a.begins.1, inr a.begins.2) }

  end_at_end : (rules : Rules) (ts : List Symbol) (why : Option Rule) → length ts ≤ n → ended rules ts ≡ Err ([], why) → why ≡ None
  end_at_end rules [] why l h = absurd (apart h refl)
  end_at_end rules (s ∷ ts) why l h = rp.at_end rules (s ∷ ts) why l h

  end_stuck :
      (rules : Rules) (front : List Symbol) (t : Symbol) (x y : List Symbol) (why : Option Rule) → length (front ++ t ∷ x) ≤ n → length (front ++ t ∷ y) ≤ n
      → ended rules (front ++ t ∷ x) ≡ Err (t ∷ x, why) → ended rules (front ++ t ∷ y) ≡ Err (t ∷ y, why)
  end_stuck rules [] t x y why l k h = rp.stuck rules [] t x y why l k h
  end_stuck rules (s ∷ c) t x y why l k h = rp.stuck rules (s ∷ c) t x y why l k h

  end_kept : (rules : Rules) (ts : List Symbol) (v : List I) (rest : List Symbol) → length ts ≤ n → ended all_rules ts ≡ Ok (v, rest) → ended rules ts ≡ Ok (v, rest)
  end_kept rules [] v rest l h = h
  end_kept rules (s ∷ ts) v rest l h = rp.kept rules (s ∷ ts) v rest l h

  end_same : (rules : Rules) (ts rest : List Symbol) (why : Option Rule) → length ts ≤ n → leaves rules why ≡ false → ended all_rules ts ≡ Err (rest, why) → ended rules ts ≡ Err (rest, why)
  end_same rules [] rest why l z h = h
  end_same rules (s ∷ ts) rest why l z h = rp.same rules (s ∷ ts) rest why l z h

  end_allowed : (rules : Rules) (ts rest : List Symbol) (why : Option Rule) → length ts ≤ n → leaves rules why ≡ true → ended all_rules ts ≡ Err (rest, why) → Allowed (OrEnd rules) ts rest
  end_allowed rules [] rest why l z h = absurd (apart h refl)
  end_allowed rules (s ∷ ts) rest why l z h =
      let a = rp.allowed rules (s ∷ ts) rest why l z h in
      record { front = a.front; symbol = a.symbol; more = a.more; left = a.left; joined = a.joined; begins = (a.begins.0, a.begins.1, inr a.begins.2) }

  reads_or_end : Reads n always OrEnd ended
  reads_or_end = record {
    sound = end_sound;
    complete = end_complete;
    again = end_again;
    refused = end_refused;
    at_end = end_at_end;
    stuck = end_stuck;
    some_word = λ rules. (front, [], inl (refl, refl));
    kept = end_kept;
    same = end_same;
    allowed = end_allowed;
  }

-- ---- items up to the end

module _ {I : Type 0} (N : ℕ) (marks : I → Bool) (Item : Bool → Rules → I → Language) (item : Bool → Reader I) (ri : (b : Bool) → Reads N never (Item b) (item b))
    (full : (b : Bool) (rules : Rules) (i : I) (c : List Symbol) → Item b rules i c → 1 ≤ length c) where
  abbrev pub next : Bool → I → Bool
  next b i = if b then true else marks i

  -- { item }, each by whether a marked one stands before it
  abbrev pub Each : Bool → Rules → List I → Language
  Each b rules [] = nothing
  Each b rules (i ∷ is) = Item b rules i ▸ Each (next b i) rules is

  -- those of front, and those that are read
  abbrev From : List I → Bool → Rules → List I → Language
  From front b rules is c = (js : List I) × (is ≡ front ++ js) × Each b rules js c

  abbrev Rest : List I → Bool → Rules → List I → Language
  Rest front b = Chained (Item b) (λ i. From (front ++ i ∷ []) (next b i))

  rest_full : (front : List I) (b : Bool) (rules : Rules) (is : List I) (c : List Symbol) → Rest front b rules is c → 1 ≤ length c
  rest_full front b rules is c (i, (x, y, hx, hy, j)) =
      let f = full b rules i x hx in let l : length c ≡ length x + length y = ap length j ∙ length-append x y in omega arith

  not_empty : (front : List I) (b : Bool) (rules : Rules) (is : List I) → Rest front b rules is [] → ⊥
  not_empty front b rules is d = let f = rest_full front b rules is [] d in omega arith

  some_rest : (front : List I) (b : Bool) (rules : Rules) → (is : List I) × (c : List Symbol) × Rest front b rules is c
  some_rest front b rules =
      let a = (ri b).some_word rules in (front ++ a.0 ∷ [], a.1, (a.0, (a.1, [], a.2, ([], sym (append-nil (front ++ a.0 ∷ [])), refl), sym (append-nil a.1))))

  refuses : Reader (List I)
  refuses rules ts = Err ([], None)

  to_from : (front : List I) (b : Bool) (rules : Rules) (is : List I) (c : List Symbol) → ((is ≡ front) × (c ≡ [])) ⊎ Rest front b rules is c → From front b rules is c
  to_from front b rules is c (inl d) = ([], d.0 ∙ sym (append-nil front), d.1)
  to_from front b rules is c (inr (i, (x, y, hx, (js, e, d), j))) = (i ∷ js, e ∙ append_assoc front (i ∷ []) js, (x, y, hx, d, j))

  of_from : (front : List I) (b : Bool) (rules : Rules) (is : List I) (c : List Symbol) → From front b rules is c → ((is ≡ front) × (c ≡ [])) ⊎ Rest front b rules is c
  of_from front b rules is c ([], e, d) = inl (e ∙ append-nil front, d)
  of_from front b rules is c (i ∷ js, e, (x, y, hx, hy, j)) = inr (i, (x, y, hx, (js, e ∙ sym (append_assoc front (i ∷ []) js), hy), j))

  reads_from : (n : ℕ) → n ≤ N → (b : Bool) (front : List I) → Reads n always (From front b) (to_end n marks item b front)
  unfolding refuses
  reads_from zero l b front =
      reads_as zero always (λ rules v ts. ((v ≡ front) × (ts ≡ [])) ⊎ Rest front b rules v ts) (From front b) (to_end zero marks item b front)
      (reads_or_end zero front (Rest front b) refuses (reads_none always (Rest front b) refuses (λ rules ts. refl) (some_rest front b) (rest_full front b)) (not_empty front b))
      (to_from front b) (of_from front b)
  reads_from (suc n) l b front =
      reads_as (suc n) always (λ rules v ts. ((v ≡ front) × (ts ≡ [])) ⊎ Rest front b rules v ts) (From front b) (to_end (suc n) marks item b front)
      (reads_or_end (suc n) front (Rest front b) (chain (item b) (λ i. to_end n marks item (next b i) (front ++ i ∷ [])))
      (reads_chain (suc n) n never always (Item b) (λ i. From (front ++ i ∷ []) (next b i)) (item b) (λ i. to_end n marks item (next b i) (front ++ i ∷ []))
      (reads_less N (suc n) never (Item b) (item b) l (ri b)) (λ i. reads_from n (omega arith) (next b i) (front ++ i ∷ []))
      (λ rules v w c rest d s. any_stop (c ++ rest)) (λ rules i c d. let f = full b rules i c d in omega arith))
      (not_empty front b))
      (to_from front b) (of_from front b)

  pub reads_to_end : (n : ℕ) → n ≤ N → (b : Bool) → Reads n always (Each b) (to_end n marks item b [])
  reads_to_end n l b =
      reads_as n always (From [] b) (Each b) (to_end n marks item b []) (reads_from n l b [])
      (λ rules is c d. subst (λ is. Each b rules is c) (sym d.1) d.2) (λ rules is c d. (is, refl, d))
