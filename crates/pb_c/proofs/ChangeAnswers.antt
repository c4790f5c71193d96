-- From how a change ended to what is answered.
use Rattle.std.proofs.Common.{◌≡◌, ◌≢◌, ◌⊎◌, inl, inr, ℕ, Option, Some, None, refl, sym, ap, subst, arith, ◌∙◌}
use Rattle.pb_value.specs.Dynamic.{Dynamic}
use Rattle.pb_value.specs.declared.error.ValueError.{ValueError}
use Rattle.pb_value.specs.declared.error.ValueError.TheVariants as value
use Rattle.pb_place.specs.declared.error.ChangeError.TheVariants as change
use Rattle.pb_c_message.specs.Ends.{Outcome, made, unmade, memory}
use Rattle.pb_c_message.specs.declared.unchanged.Unchanged.{Unchanged}
use Rattle.pb_c_message.specs.declared.unchanged.Unchanged.TheVariants.{BadPlace, BadValue, Refused}
use Rattle.pb_c.specs.Message.Changes.{cause_answer, unmade_answer, IsChanged, IsChangeAnswer}

cause_answers : (e : ValueError) → IsChangeAnswer (cause_answer e)
cause_answers value.Memory = inr (inr (inr (inr (inl refl))))
cause_answers value.NoSuchField = inr (inr (inr (inr (inr (omega arith, omega arith)))))
cause_answers value.WrongKind = inr (inr (inr (inr (inr (omega arith, omega arith)))))
cause_answers value.WrongShape = inr (inr (inr (inr (inr (omega arith, omega arith)))))
cause_answers value.DefaultStored = inr (inr (inr (inr (inr (omega arith, omega arith)))))
cause_answers value.TwoMembers = inr (inr (inr (inr (inr (omega arith, omega arith)))))
cause_answers value.KnownAsUnknown = inr (inr (inr (inr (inr (omega arith, omega arith)))))
cause_answers value.TooDeep = inr (inr (inr (inr (inr (omega arith, omega arith)))))
cause_answers value.OtherType = inr (inr (inr (inr (inr (omega arith, omega arith)))))
cause_answers value.NoSuchValue = inr (inr (inr (inr (inr (omega arith, omega arith)))))

pub is_answer : (u : Unchanged) → IsChangeAnswer (unmade_answer u)
is_answer BadPlace = inr (inr (inl refl))
is_answer BadValue = inr (inr (inr (inl refl)))
is_answer (Refused change.Absent) = inr (inl refl)
is_answer (Refused (change.Refused e)) = cause_answers e

-- none of them is that of an empty handle
pub not_empty : (a : ℕ) → IsChangeAnswer a → a ≡ 3 → ⊥
not_empty a (inl e) is = omega (arith, e, is)
not_empty a (inr (inl e)) is = omega (arith, e, is)
not_empty a (inr (inr (inl e))) is = omega (arith, e, is)
not_empty a (inr (inr (inr (inl e)))) is = omega (arith, e, is)
not_empty a (inr (inr (inr (inr (inl e))))) is = omega (arith, e, is)
not_empty a (inr (inr (inr (inr (inr both))))) is = let low = both.0 in omega (arith, low, is)

cause_apart : (e : ValueError) → cause_answer e ≢ 0
cause_apart value.Memory = λ is. omega (arith, is)
cause_apart value.NoSuchField = λ is. omega (arith, is)
cause_apart value.WrongKind = λ is. omega (arith, is)
cause_apart value.WrongShape = λ is. omega (arith, is)
cause_apart value.DefaultStored = λ is. omega (arith, is)
cause_apart value.TwoMembers = λ is. omega (arith, is)
cause_apart value.KnownAsUnknown = λ is. omega (arith, is)
cause_apart value.TooDeep = λ is. omega (arith, is)
cause_apart value.OtherType = λ is. omega (arith, is)
cause_apart value.NoSuchValue = λ is. omega (arith, is)

unmade_apart : (u : Unchanged) → unmade_answer u ≢ 0
unmade_apart BadPlace = λ is. omega (arith, is)
unmade_apart BadValue = λ is. omega (arith, is)
unmade_apart (Refused change.Absent) = λ is. omega (arith, is)
unmade_apart (Refused (change.Refused e)) = cause_apart e

abbrev or_else : {A : Type 0} → A → Option A → A
or_else a None = a
or_else a (Some b) = b

some_same : {A : Type 0} (a b : A) → Some a ≡ Some b → a ≡ b
some_same a b e = ap (or_else a) e

abbrev made_or : Dynamic → Outcome → Dynamic
made_or v (made w) = w
made_or v (unmade u) = v

abbrev unmade_or : Unchanged → Outcome → Unchanged
unmade_or u (made w) = u
unmade_or u (unmade x) = x

made_unmade : (w : Dynamic) (u : Unchanged) → made w ≡ unmade u → ⊥
made_unmade w u e = absurd (cc)

module _ (ends : Dynamic → Outcome → Type 0) (one : (v : Dynamic) (o r : Outcome) → ends v o → ends v r → o ≡ r) (v : Dynamic) (answer : ℕ) where
  of_held : (u : Dynamic) (o : Outcome) → Some v ≡ Some u → ends u o → ends v o
  of_held u o held is = subst (λ d. ends d o) (sym (some_same v u held)) is

  -- the change was made
  pub changed : (w : Dynamic) → answer ≡ 0 → ends v (made w) → IsChanged ends (Some v) (Some w) answer
  changed w was is = record {
    done = λ _. (v, w, refl, refl, is);
    refused = λ other. absurd (other was);
    kept = λ other. absurd (other was);
    makes = λ u x held also. inl (was, ap (λ o. Some (made_or w o)) (one v (made w) (made x) is (of_held u (made x) held also)));
    refuses = λ u y held also. absurd (made_unmade w y (one v (made w) (unmade y) is (of_held u (unmade y) held also)));
  }

  ran_out : (u : Unchanged) → answer ≡ unmade_answer u → u ≡ memory → answer ≡ 14
  ran_out u was is = was ∙ ap unmade_answer is

  apart : (u : Unchanged) → answer ≡ unmade_answer u → answer ≢ 0
  apart u was is = unmade_apart u (sym was ∙ is)

  -- it was not made
  pub unchanged : (u : Unchanged) (new : Dynamic) → answer ≡ unmade_answer u → new ≡ v → (u ≡ memory) ⊎ ends v (unmade u) → IsChanged ends (Some v) (Some new) answer
  unchanged u new was same (inl is) = record {
    done = λ e. absurd (apart u was e);
    refused = λ a b other. absurd (other (ran_out u was is));
    kept = λ _. ap Some same;
    makes = λ d w held also. inr (ran_out u was is);
    refuses = λ d y held also. inr (ran_out u was is);
  }
  unchanged u new was same (inr is) = record {
    done = λ e. absurd (apart u was e);
    refused = λ a b c. (v, u, refl, was, is);
    kept = λ _. ap Some same;
    makes = λ d w held also. absurd (made_unmade w u (one v (made w) (unmade u) (of_held d (made w) held also) is));
    refuses = λ d y held also. inl (was ∙ ap (λ o. unmade_answer (unmade_or u o)) (one v (unmade u) (unmade y) is (of_held d (unmade y) held also)));
  }

none_some : {A : Type 0} (a : A) → None ≡ Some a → ⊥
none_some a e = absurd (cc)

-- no message is held
pub nothing :
    (ends : Dynamic → Outcome → Type 0) (old new : Option Dynamic) (answer : ℕ) → old ≡ None → new ≡ old → answer ≡ 3 → IsChanged ends old new answer
nothing ends old new answer none same was = record {
  done = λ e. absurd (omega (arith, e, was));
  refused = λ a b c. absurd (b was);
  kept = λ _. same;
  makes = λ v w held also. absurd (none_some v (sym none ∙ held));
  refuses = λ v u held also. absurd (none_some v (sym none ∙ held));
}
