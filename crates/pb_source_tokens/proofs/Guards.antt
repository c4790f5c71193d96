-- What a rule forbids, where it holds, by the symbol that stands first.
use Rattle.std.proofs.Common.{◌≡◌, ℕ, ◌≤◌, List, [], ◌∷◌, ◌++◌, length, Bool, true, false, not, refl, ap, sym, ◌∙◌, Option, Some, None, Ok, Err, ◌⊎◌, inl, inr}
use Rattle.std.proofs.lemmas.Bool.{false≢true}
use Rattle.std.proofs.lemmas.List.{append_cancel_right}
use Rattle.pb_source_tokens.specs.Symbols.{Symbol}
use Rattle.pb_source_tokens.specs.Language.{Language, Rules, all_rules, Begins}
use Rattle.pb_source_tokens.specs.declared.rule.Rule.{Rule}
use Rattle.pb_source_tokens.specs.Readers.Forms.{Refusal, Outcome, Reader, first_passes, guarded}
use Rattle.pb_source_tokens.proofs.ReaderLaws.{Reads, IsStop, Taken, Refused, Allowed, leaves}
use Rattle.pb_source_tokens.proofs.Parts.{passes_at, passes_front, err_parts}

module _ {A : Type 0} (n : ℕ) (e : Symbol → Bool) (r : Rule) (test : Symbol → Bool) (R S : Rules → A → Language) (p q : Reader A) (rp : Reads n e R p) (rq : Reads n e S q)
    (begins : (rules : Rules) (v : A) (c : List Symbol) → R rules v c → first_passes test c ≡ true)
    (begins_not : (rules : Rules) (v : A) (c rest : List Symbol) → S rules v c → IsStop e rest → first_passes test (c ++ rest) ≡ false)
    (starts : (rules : Rules) (s : Symbol) → test s ≡ true → Begins (R rules) (s ∷ [])) where
  abbrev pub Unless : Rules → A → Language
  Unless rules v ts = ((rules r ≡ false) × R rules v ts) ⊎ S rules v ts

  data Seen (rules : Rules) (ts : List Symbol) : Type 0 where
    forbidden : first_passes test ts ≡ true → rules r ≡ true → guarded r test p q rules ts ≡ Err (ts, Some r) → Seen rules ts
    taken : first_passes test ts ≡ true → rules r ≡ false → guarded r test p q rules ts ≡ p rules ts → Seen rules ts
    other : first_passes test ts ≡ false → guarded r test p q rules ts ≡ q rules ts → Seen rules ts

  on_forbidden : (rules : Rules) (ts : List Symbol) → first_passes test ts ≡ true → rules r ≡ true → guarded r test p q rules ts ≡ Err (ts, Some r)
  on_forbidden rules ts h k = rw (h, k) refl

  on_taken : (rules : Rules) (ts : List Symbol) → first_passes test ts ≡ true → rules r ≡ false → guarded r test p q rules ts ≡ p rules ts
  on_taken rules ts h k = rw (h, k) refl

  on_other : (rules : Rules) (ts : List Symbol) → first_passes test ts ≡ false → guarded r test p q rules ts ≡ q rules ts
  on_other rules ts h = rw h refl

  seen : (rules : Rules) (ts : List Symbol) → Seen rules ts
  seen rules ts = by_tests (first_passes test ts) (rules r) refl refl
    where
      by_tests : (b c : Bool) → first_passes test ts ≡ b → rules r ≡ c → Seen rules ts
      by_tests true true h k = Seen.forbidden h k (on_forbidden rules ts h k)
      by_tests true false h k = Seen.taken h k (on_taken rules ts h k)
      by_tests false c h k = Seen.other h (on_other rules ts h)

  apart : {o : Outcome A} {x : A × List Symbol} {y : Refusal} → o ≡ Err y → o ≡ Ok x → ⊥
  apart f g = cc (f, g)

  parts : {x y : List Symbol} {c d : Option Rule} {o : Outcome A} → o ≡ Err (x, c) → o ≡ Err (y, d) → (x ≡ y) × (c ≡ d)
  parts {x} {y} {c} {d} f g = err_parts {A = A} {x = x} {y = y} {c = c} {d = d} (sym f ∙ g)

  guard_sound : (rules : Rules) (ts : List Symbol) (v : A) (rest : List Symbol) → length ts ≤ n → guarded r test p q rules ts ≡ Ok (v, rest) → Taken (Unless rules) ts v rest
  guard_sound rules ts v rest l h = by_seen (seen rules ts)
    where
      by_seen : Seen rules ts → Taken (Unless rules) ts v rest
      by_seen (Seen.forbidden _ _ f) = absurd (apart f h)
      by_seen (Seen.taken _ k f) = let a = rp.sound rules ts v rest l (sym f ∙ h) in record { taken = a.taken; joined = a.joined; derived = inl (k, a.derived) }
      by_seen (Seen.other _ f) = let a = rq.sound rules ts v rest l (sym f ∙ h) in record { taken = a.taken; joined = a.joined; derived = inr a.derived }

  guard_complete : (rules : Rules) (v : A) (c rest : List Symbol) → length (c ++ rest) ≤ n → Unless rules v c → IsStop e rest → guarded r test p q rules (c ++ rest) ≡ Ok (v, rest)
  guard_complete rules v c rest l (inl d) stop = on_taken rules (c ++ rest) (passes_front test c rest (begins rules v c d.1)) d.0 ∙ rp.complete rules v c rest l d.1 stop
  guard_complete rules v c rest l (inr d) stop = on_other rules (c ++ rest) (begins_not rules v c rest d stop) ∙ rq.complete rules v c rest l d stop

  guard_again : (rules : Rules) (c : List Symbol) (v : A) (t : Symbol) (x y : List Symbol) → length (c ++ t ∷ x) ≤ n → length (c ++ t ∷ y) ≤ n
      → guarded r test p q rules (c ++ t ∷ x) ≡ Ok (v, t ∷ x) → guarded r test p q rules (c ++ t ∷ y) ≡ Ok (v, t ∷ y)
  guard_again rules c v t x y l k h = by_seen (seen rules (c ++ t ∷ x))
    where
      by_seen : Seen rules (c ++ t ∷ x) → guarded r test p q rules (c ++ t ∷ y) ≡ Ok (v, t ∷ y)
      by_seen (Seen.forbidden _ _ f) = absurd (apart f h)
      by_seen (Seen.taken a b f) = on_taken rules (c ++ t ∷ y) (sym (passes_at test c t x y) ∙ a) b ∙ rp.again rules c v t x y l k (sym f ∙ h)
      by_seen (Seen.other a f) = on_other rules (c ++ t ∷ y) (sym (passes_at test c t x y) ∙ a) ∙ rq.again rules c v t x y l k (sym f ∙ h)

  guard_refused : (rules : Rules) (ts rest : List Symbol) (why : Option Rule) → length ts ≤ n → guarded r test p q rules ts ≡ Err (rest, why) → Refused (Unless rules) ts rest
  guard_refused rules ts rest why l h = by_seen (seen rules ts)
    where
      by_seen : Seen rules ts → Refused (Unless rules) ts rest
      by_seen (Seen.forbidden _ _ f) = let a = rq.some_word rules in record { front = []; joined = (parts f h).0; begins = (a.0, a.1, inr a.2) }
      by_seen (Seen.taken _ k f) = let a = rp.refused rules ts rest why l (sym f ∙ h) in record { front = a.front; joined = a.joined; begins = (a.begins.0, a.begins.1, inl (k, a.begins.2)) }
      by_seen (Seen.other _ f) = let a = rq.refused rules ts rest why l (sym f ∙ h) in record { front = a.front; joined = a.joined; begins = (a.begins.0, a.begins.1, inr a.begins.2) }

  guard_at_end : (rules : Rules) (ts : List Symbol) (why : Option Rule) → length ts ≤ n → guarded r test p q rules ts ≡ Err ([], why) → why ≡ None
  guard_at_end rules ts why l h = by_seen (seen rules ts)
    where
      by_seen : Seen rules ts → why ≡ None
      by_seen (Seen.forbidden a _ f) = absurd (false≢true (ap (first_passes test) (sym (parts f h).0) ∙ a))
      by_seen (Seen.taken _ k f) = rp.at_end rules ts why l (sym f ∙ h)
      by_seen (Seen.other _ f) = rq.at_end rules ts why l (sym f ∙ h)

  guard_stuck :
      (rules : Rules) (front : List Symbol) (t : Symbol) (x y : List Symbol) (why : Option Rule) → length (front ++ t ∷ x) ≤ n → length (front ++ t ∷ y) ≤ n
      → guarded r test p q rules (front ++ t ∷ x) ≡ Err (t ∷ x, why) → guarded r test p q rules (front ++ t ∷ y) ≡ Err (t ∷ y, why)
  guard_stuck rules c t x y why l k h = by_seen (seen rules (c ++ t ∷ x))
    where
      by_seen : Seen rules (c ++ t ∷ x) → guarded r test p q rules (c ++ t ∷ y) ≡ Err (t ∷ y, why)
      by_seen (Seen.forbidden a b f) =
          let e = parts f h in
          let none : c ≡ [] = append_cancel_right c [] (t ∷ x) e.0 in
          on_forbidden rules (c ++ t ∷ y) (sym (passes_at test c t x y) ∙ a) b ∙ ap (λ c. Err (c ++ t ∷ y, Some r)) none ∙ ap (λ w. Err (t ∷ y, w)) e.1
      by_seen (Seen.taken a b f) = on_taken rules (c ++ t ∷ y) (sym (passes_at test c t x y) ∙ a) b ∙ rp.stuck rules c t x y why l k (sym f ∙ h)
      by_seen (Seen.other a f) = on_other rules (c ++ t ∷ y) (sym (passes_at test c t x y) ∙ a) ∙ rq.stuck rules c t x y why l k (sym f ∙ h)

  guard_some_word : (rules : Rules) → (v : A) × (c : List Symbol) × Unless rules v c
  guard_some_word rules = let a = rq.some_word rules in (a.0, a.1, inr a.2)

  guard_kept : (rules : Rules) (ts : List Symbol) (v : A) (rest : List Symbol) → length ts ≤ n → guarded r test p q all_rules ts ≡ Ok (v, rest) → guarded r test p q rules ts ≡ Ok (v, rest)
  guard_kept rules ts v rest l h = by_seen (seen all_rules ts)
    where
      by_seen : Seen all_rules ts → guarded r test p q rules ts ≡ Ok (v, rest)
      by_seen (Seen.forbidden _ _ f) = absurd (apart f h)
      by_seen (Seen.taken _ k f) = absurd (false≢true (sym k))
      by_seen (Seen.other a f) = on_other rules ts a ∙ rq.kept rules ts v rest l (sym f ∙ h)

  not_false : (b : Bool) → not b ≡ false → b ≡ true
  not_false true h = refl
  not_false false h = absurd (false≢true (sym h))

  not_true : (b : Bool) → not b ≡ true → b ≡ false
  not_true true h = absurd (false≢true h)
  not_true false h = refl

  guard_same : (rules : Rules) (ts rest : List Symbol) (why : Option Rule) → length ts ≤ n → leaves rules why ≡ false → guarded r test p q all_rules ts ≡ Err (rest, why)
      → guarded r test p q rules ts ≡ Err (rest, why)
  guard_same rules ts rest why l z h = by_seen (seen all_rules ts)
    where
      by_seen : Seen all_rules ts → guarded r test p q rules ts ≡ Err (rest, why)
      by_seen (Seen.forbidden a _ f) =
          let e = parts f h in
          on_forbidden rules ts a (not_false (rules r) (ap (leaves rules) e.1 ∙ z)) ∙ sym f ∙ h
      by_seen (Seen.taken _ k f) = absurd (false≢true (sym k))
      by_seen (Seen.other a f) = on_other rules ts a ∙ rq.same rules ts rest why l z (sym f ∙ h)

  guard_allowed : (rules : Rules) (ts rest : List Symbol) (why : Option Rule) → length ts ≤ n → leaves rules why ≡ true → guarded r test p q all_rules ts ≡ Err (rest, why)
      → Allowed (Unless rules) ts rest
  guard_allowed rules ts rest why l z h = by_seen ts l (seen all_rules ts) h
    where
      by_seen : (ts : List Symbol) → length ts ≤ n → Seen all_rules ts → guarded r test p q all_rules ts ≡ Err (rest, why) → Allowed (Unless rules) ts rest
      by_seen [] l (Seen.forbidden a _ f) h = absurd (false≢true a)
      by_seen (s ∷ ts) l (Seen.forbidden a _ f) h =
          let e = parts f h in
          let b = starts rules s a in
          record { front = []; symbol = s; more = ts; left = sym e.0; joined = refl; begins = (b.0, b.1, inl (not_true (rules r) (ap (leaves rules) e.1 ∙ z), b.2)) }
      by_seen ts l (Seen.taken _ k f) h = absurd (false≢true (sym k))
      by_seen ts l (Seen.other a f) h =
          let b = rq.allowed rules ts rest why l z (sym f ∙ h) in
          record { front = b.front; symbol = b.symbol; more = b.more; left = b.left; joined = b.joined; begins = (b.begins.0, b.begins.1, inr b.begins.2) }

  pub reads_guarded : Reads n e Unless (guarded r test p q)
  reads_guarded = record {
    sound = guard_sound;
    complete = guard_complete;
    again = guard_again;
    refused = guard_refused;
    at_end = guard_at_end;
    stuck = guard_stuck;
    some_word = guard_some_word;
    kept = guard_kept;
    same = guard_same;
    allowed = guard_allowed;
  }
