-- Of the members of a oneof that is not crowded an old message sets at most one.
use Rattle.std.proofs.Common.{◌≡◌, ◌≢◌, ℕ, ◌+◌, List, [], ◌∷◌, map, Bool, true, false, not, cond, ◌||◌, Option, Some, None, refl, sym, ◌∙◌, ap, subst, arith}
use Rattle.std.specs.Prelude.{◌==◌, option_map, option_and_then, IfSome, if◌then◌else◌}
use Rattle.std.specs.List.{list_all, list_any, cons_option}
use Rattle.pb_schema.specs.declared.types.Shape.{Shape}
use Rattle.pb_schema.specs.declared.types.Shape.TheVariants as shape
use Rattle.pb_schema.specs.Types.{FieldView, Types, field_numbered}
use Rattle.pb_schema.specs.Oneofs.{is_member, members, member_numbers}
use Rattle.pb_value.specs.Data.{Fields, no_fields, field}
use Rattle.pb_value.specs.Oneof.{is_member_at}
use Rattle.pb_value.specs.WellFormed.{IsOfShape, IsHeld, holds_declared, AreFields, RisesFrom, oneof_of, oneof_at, HasNoMember, HasOneMemberEach}
use Rattle.pb_value.proofs.Options.{some_of}
use Rattle.pb_value.proofs.Numbers.{number_is}
use Rattle.pb_compat.specs.Oneofs.{share_oneof, at_most_one, shapes_of, is_crowded}
use Rattle.pb_compat.proofs.OnlyLemmas.{EachField, AtMostOne, rises_lower}
use Rattle.pb_compat.proofs.FieldLemmas.{and_both}

-- the number is among these
abbrev pub has : List ℕ → ℕ → Bool
has ns n = list_any (λ i. i == n) ns

-- both are members of a oneof
abbrev pub Share : Shape → Shape → Type 0
Share s t = (o : ℕ) × (oneof_of s ≡ Some o) × (oneof_of t ≡ Some o)

member_of : (o : ℕ) (s : Shape) → is_member o s ≡ true → oneof_of s ≡ Some o
member_of o (shape.OneofMember p) e = ap (λ (q : ℕ). Some q) (sym (number_is o p e))
member_of o shape.Implicit e = absurd (cc)
member_of o shape.Explicit e = absurd (cc)
member_of o (shape.List p) e = absurd (cc)
member_of o (shape.Map key) e = absurd (cc)

pub share_both : (s t : Shape) → share_oneof s t ≡ true → Share s t
share_both (shape.OneofMember o) t e = (o, refl, member_of o t e)
share_both shape.Implicit t e = absurd (cc)
share_both shape.Explicit t e = absurd (cc)
share_both (shape.List p) t e = absurd (cc)
share_both (shape.Map key) t e = absurd (cc)

-- two that share with a third
pub share_three : (r s t : Shape) → Share r s → Share r t → Share s t
share_three r s t a b = let e = a.1 in let f = b.1 in let same : a.0 ≡ b.0 = cc in (a.0, a.2, b.2 ∙ ap (λ (i : ℕ). Some i) (sym same))

pub share_turned : (s t : Shape) → Share s t → Share t s
share_turned s t a = (a.0, a.2, a.1)

-- what is said of all shapes of some numbers is said of each
each_shares : (fs : List FieldView) (s : Shape) (ns : List ℕ) (n : ℕ) (f : FieldView) → list_all (share_oneof s) (shapes_of fs ns) ≡ true → has ns n ≡ true → field_numbered n fs ≡ Some f → Share s f.shape
each_shares fs s [] n f all here found = absurd (cc)
each_shares fs s (i ∷ ns) n f all here found = by (i == n) refl (field_numbered i fs) refl all here (each_shares fs s ns n f)
  where
    by : (b : Bool) → (i == n) ≡ b → (o : Option FieldView) → field_numbered i fs ≡ o → list_all (share_oneof s) (cons_option (option_map (λ f. f.shape) o) (shapes_of fs ns)) ≡ true → (b || has ns n) ≡ true
        → (list_all (share_oneof s) (shapes_of fs ns) ≡ true → has ns n ≡ true → field_numbered n fs ≡ Some f → Share s f.shape) → Share s f.shape
    by b e None at all here later = next b e here
      where
        next : (b : Bool) → (i == n) ≡ b → (b || has ns n) ≡ true → Share s f.shape
        next false e here = later all here found
        next true e here = let z : field_numbered n fs ≡ None = ap (λ (k : ℕ). field_numbered k fs) (sym (number_is i n e)) ∙ at in absurd (cc)
    by true e (Some g) at all here later =
        let z : field_numbered n fs ≡ Some g = ap (λ (k : ℕ). field_numbered k fs) (sym (number_is i n e)) ∙ at in
        let same : g ≡ f = cc in
        subst (λ (x : FieldView). Share s x.shape) same (share_both s g.shape (and_both (share_oneof s g.shape) (list_all (share_oneof s) (shapes_of fs ns)) all).0)
    by false e (Some g) at all here later = later (and_both (share_oneof s g.shape) (list_all (share_oneof s) (shapes_of fs ns)) all).1 here found

-- two of some numbers that differ
pub two_share : (fs : List FieldView) (ns : List ℕ) (n k : ℕ) (f g : FieldView) → at_most_one (shapes_of fs ns) ≡ true → has ns n ≡ true → has ns k ≡ true → n ≢ k → field_numbered n fs ≡ Some f → field_numbered k fs ≡ Some g → Share f.shape g.shape
two_share fs [] n k f g most here there differ found_f found_g = absurd (cc)
two_share fs (i ∷ ns) n k f g most here there differ found_f found_g =
    by (i == n) refl (i == k) refl (field_numbered i fs) refl most here there (λ m a b. two_share fs ns n k f g m a b differ found_f found_g)
  where
    clash : {x : FieldView} {o : Option FieldView} → o ≡ None → o ≡ Some x → ⊥
    clash p q = cc

    at_i : (j : ℕ) → (i == j) ≡ true → field_numbered i fs ≡ field_numbered j fs
    at_i j e = ap (λ (z : ℕ). field_numbered z fs) (number_is i j e)

    by : (b : Bool) → (i == n) ≡ b → (c : Bool) → (i == k) ≡ c → (o : Option FieldView) → field_numbered i fs ≡ o → at_most_one (cons_option (option_map (λ f. f.shape) o) (shapes_of fs ns)) ≡ true
        → (b || has ns n) ≡ true → (c || has ns k) ≡ true
        → (at_most_one (shapes_of fs ns) ≡ true → has ns n ≡ true → has ns k ≡ true → Share f.shape g.shape) → Share f.shape g.shape
    by true e c d None at most here there later = absurd (clash (sym (at_i n e) ∙ at) found_f)
    by false e true d None at most here there later = absurd (clash (sym (at_i k d) ∙ at) found_g)
    by false e false d None at most here there later = later most here there
    by true e true d (Some x) at most here there later = absurd (differ (sym (number_is i n e) ∙ number_is i k d))
    by true e false d (Some x) at most here there later =
        let z : field_numbered n fs ≡ Some x = sym (at_i n e) ∙ at in
        let same : x ≡ f = cc in
        subst (λ (y : FieldView). Share y.shape g.shape) same (each_shares fs x.shape ns k g most there found_g)
    by false e true d (Some x) at most here there later =
        let z : field_numbered k fs ≡ Some x = sym (at_i k d) ∙ at in
        let same : x ≡ g = cc in
        share_turned g.shape f.shape (subst (λ (y : FieldView). Share y.shape f.shape) same (each_shares fs x.shape ns n f most here found_f))
    by false e false d (Some x) at most here there later =
        share_three x.shape f.shape g.shape (each_shares fs x.shape ns n f most here found_f) (each_shares fs x.shape ns k g most there found_g)

-- a member is among the numbers of the members
pub member_listed : (o n : ℕ) (gs : List FieldView) → is_member_at o (field_numbered n gs) ≡ true → has (member_numbers o gs) n ≡ true
member_listed o n [] e = absurd (cc)
member_listed o n (g ∷ gs) e = by (g.number == n) refl e (member_listed o n gs)
  where
    or_true : (b : Bool) → (b || true) ≡ true
    or_true true = refl
    or_true false = refl

    put : (b : Bool) → has (member_numbers o gs) n ≡ true → has (map (λ (f : FieldView). f.number) (if b then g ∷ members o gs else members o gs)) n ≡ true
    put true rest = ap (λ (c : Bool). (g.number == n) || c) rest ∙ or_true (g.number == n)
    put false rest = rest

    by : (b : Bool) → (g.number == n) ≡ b → is_member_at o (cond b (Some g) (field_numbered n gs)) ≡ true → (is_member_at o (field_numbered n gs) ≡ true → has (member_numbers o gs) n ≡ true)
        → has (map (λ (f : FieldView). f.number) (if is_member o g.shape then g ∷ members o gs else members o gs)) n ≡ true
    by true q e later =
        ap (λ (b : Bool). has (map (λ (f : FieldView). f.number) (if b then g ∷ members o gs else members o gs)) n) e ∙ ap (λ (b : Bool). b || has (member_numbers o gs) n) q
    by false q e later = put (is_member o g.shape) (later e)

-- OLD MESSAGES

module _ (old : Types) (all gs : List FieldView) (o : ℕ) (calm : is_crowded all gs o ≡ false) where
  abbrev pub member_number : ℕ → Bool
  member_number k = is_member_at o (field_numbered k gs)

  most : at_most_one (shapes_of all (member_numbers o gs)) ≡ true
  most = by (at_most_one (shapes_of all (member_numbers o gs))) calm
    where
      by : (b : Bool) → not b ≡ false → b ≡ true
      by true e = refl
      by false e = absurd (cc)

  others : (n : ℕ) (f : FieldView) (fs : Fields) → field_numbered n all ≡ Some f → member_number n ≡ true → RisesFrom (n + 1) fs → AreFields old all fs → IfSome (oneof_at all n) (λ i. HasNoMember all i fs) → EachField (λ k h. member_number k ≡ false) fs
  others n f no_fields found own rises w alone = tt
  others n f (field k h fs) found own rises w alone =
      let at = some_of (field_numbered k all) (λ (g : FieldView). IsOfShape g.shape h × IsHeld old g.shape g.kind h × (holds_declared old g.kind h ≡ true)) w.0 in
      let here = rises.0 in
      let later = rises_lower (n + 1) (k + 1) fs (omega (arith, here)) rises.1 in
      (by at.0 at.1 (member_number k) refl alone, others n f fs found own later w.1 (rest (oneof_at all n) alone))
    where
      rest : (x : Option ℕ) → IfSome x (λ i. HasNoMember all i (field k h fs)) → IfSome x (λ i. HasNoMember all i fs)
      rest None v = tt
      rest (Some i) v = v.1

      refused : (x y : Option ℕ) (i : ℕ) → x ≡ Some i → y ≡ Some i → IfSome x (λ j. (y ≢ Some j) × HasNoMember all j fs) → ⊥
      refused None y i e d v = absurd (cc)
      refused (Some j) y i e d v = let same : i ≡ j = cc in v.0 (subst (λ (z : ℕ). y ≡ Some z) same d)

      by : (g : FieldView) → field_numbered k all ≡ Some g → (b : Bool) → member_number k ≡ b → IfSome (oneof_at all n) (λ i. HasNoMember all i (field k h fs)) → member_number k ≡ false
      by g at false e v = e
      by g at true e v =
          let up = rises.0 in
          let share = two_share all (member_numbers o gs) n k f g most (member_listed o n gs own) (member_listed o k gs e) (λ z. omega (arith, up, z)) found at in
          absurd (refused (oneof_at all n) (oneof_at all k) share.0 (ap (option_and_then (λ (x : FieldView). oneof_of x.shape)) found ∙ share.1) (ap (option_and_then (λ (x : FieldView). oneof_of x.shape)) at ∙ share.2) v)

  pub at_most_one_set : (low : ℕ) (fs : Fields) → RisesFrom low fs → AreFields old all fs → HasOneMemberEach all fs → AtMostOne member_number fs
  at_most_one_set low no_fields rises w alone = tt
  at_most_one_set low (field n h fs) rises w alone =
      let at = some_of (field_numbered n all) (λ (g : FieldView). IsOfShape g.shape h × IsHeld old g.shape g.kind h × (holds_declared old g.kind h ≡ true)) w.0 in
      (λ own. others n at.0 fs at.1 own rises.1 w.1 alone.0, at_most_one_set (n + 1) fs rises.1 w.1 alone.1)
