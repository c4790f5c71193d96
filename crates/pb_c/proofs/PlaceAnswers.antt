-- What is answered of a place.
use Rattle.std.proofs.Common.{◌≡◌, inl, inr, ℕ, List, Option, Some, None, refl, sym, ap, subst, arith, ◌∙◌}
use Rattle.pb_value.specs.Dynamic.{Dynamic}
use Rattle.pb_place.specs.At.{Seen}
use Rattle.pb_c_message.specs.Answers.{Answers, IsMissed}
use Rattle.pb_c_message.specs.Places.{Bytes, places}
use Rattle.pb_c_message.specs.declared.miss.Miss.{Miss}
use Rattle.pb_c_message.specs.declared.miss.Miss.TheVariants.{Absent, BadPlace, Memory}
use Rattle.pb_c_message.specs.declared.value.PlainValue.{PlainValue}
use Rattle.pb_c_message.proofs.OneAnswer.{one_answer, said_answer}
use Rattle.pb_c.specs.Message.Places.{miss_number, HeldAnswers, HasNoPlace, IsAnswered}

abbrev or_else : {A : Type 0} → A → Option A → A
or_else a None = a
or_else a (Some b) = b

some_same : {A : Type 0} (a b : A) → Some a ≡ Some b → a ≡ b
some_same a b e = ap (or_else a) e

some_none : {A : Type 0} (a : A) → Some a ≡ None → ⊥
some_none a e = absurd (cc)

module _ {A : Type 0} (asked : Seen → Option A) (keys : List Bytes) (place : List PlainValue) (v : Dynamic) (answer : ℕ) (Reported : A → Type 0) where
  -- what the one message has
  one_held : (a b : Option A) → Answers asked keys place v a → HeldAnswers asked keys place (Some v) b → a ≡ b
  one_held a b is (w, same, also) = one_answer asked keys place v a b is (subst (λ u. Answers asked keys place u b) (sym (some_same v w same)) also)

  is_said : (b : Option A) → HeldAnswers asked keys place (Some v) b → places keys place ≡ None → ⊥
  is_said b (w, held, also) bad = said_answer asked keys place w b also bad

  has_place : (a : Option A) → Answers asked keys place v a → HasNoPlace keys place (Some v) → ⊥
  has_place a is (w, held, bad) = said_answer asked keys place v a is bad

  -- what is there is reported
  pub done : (a : A) → Answers asked keys place v (Some a) → Reported a → answer ≡ 0 → IsAnswered asked keys place (Some v) answer Reported
  done a is reported was = record {
    found = λ _. (a, (v, refl, is), reported);
    absent = λ e. absurd (omega (arith, e, was));
    no_place = λ e. absurd (omega (arith, e, was));
    reported = λ b also. inl (was, subst Reported (some_same a b (one_held (Some a) (Some b) is also)) reported);
    missing = λ also. absurd (some_none a (one_held (Some a) None is also));
    unsaid = λ bad. absurd (has_place (Some a) is bad);
  }

  -- nothing is
  pub missed : (e : Miss) → IsMissed (Answers asked keys place v None) keys place e → answer ≡ miss_number e → IsAnswered asked keys place (Some v) answer Reported
  missed Absent is was = record {
    found = λ e. absurd (omega (arith, e, was));
    absent = λ _. (v, refl, is);
    no_place = λ e. absurd (omega (arith, e, was));
    reported = λ b also. absurd (some_none b (sym (one_held None (Some b) is also)));
    missing = λ also. inl was;
    unsaid = λ bad. absurd (has_place None is bad);
  }
  missed BadPlace is was = record {
    found = λ e. absurd (omega (arith, e, was));
    absent = λ e. absurd (omega (arith, e, was));
    no_place = λ _. (v, refl, is);
    reported = λ b also. absurd (is_said (Some b) also is);
    missing = λ also. absurd (is_said None also is);
    unsaid = λ bad. inl was;
  }
  missed Memory is was = record {
    found = λ e. absurd (omega (arith, e, was));
    absent = λ e. absurd (omega (arith, e, was));
    no_place = λ e. absurd (omega (arith, e, was));
    reported = λ b also. inr was;
    missing = λ also. inr was;
    unsaid = λ bad. inr was;
  }

-- no message is held
module _
    {A : Type 0} (asked : Seen → Option A) (keys : List Bytes) (place : List PlainValue) (held : Option Dynamic) (answer : ℕ) (Reported : A → Type 0)
    (none : held ≡ None) where
  none_answers : (b : Option A) → HeldAnswers asked keys place held b → ⊥
  none_answers b (w, is, also) = some_none w (sym is ∙ none)

  none_unsaid : HasNoPlace keys place held → ⊥
  none_unsaid (w, is, bad) = some_none w (sym is ∙ none)

  pub nothing : answer ≡ 3 → IsAnswered asked keys place held answer Reported
  nothing was = record {
    found = λ e. absurd (omega (arith, e, was));
    absent = λ e. absurd (omega (arith, e, was));
    no_place = λ e. absurd (omega (arith, e, was));
    reported = λ b also. absurd (none_answers (Some b) also);
    missing = λ also. absurd (none_answers None also);
    unsaid = λ bad. absurd (none_unsaid bad);
  }
