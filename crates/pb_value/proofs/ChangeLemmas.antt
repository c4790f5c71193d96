-- A change of one field keeps a message well formed.
use Rattle.std.proofs.Common.{◌≡◌, ◌≢◌, ℕ, ◌<◌, ◌≤◌, ◌+◌, max, List, Option, Some, None, IfSome, Ordering, Less, Equal, Greater, nat_cmp, arith, inl, inr, refl, sym, ap, ◌∙◌, subst, option_and_then, Result, Ok, Err, OnOk, OnErr}
use Rattle.std.specs.Prelude.{◌⊎◌, Bool, true, false, ◌==◌, if◌then◌else◌}
use Rattle.std.proofs.lemmas.Bool.Decides.{nat_tests, eqb_tells}
use Rattle.pb_schema.specs.declared.types.Shape.{Shape}
use Rattle.pb_schema.specs.declared.types.Shape.TheVariants as shape
use Rattle.std.specs.Ordering.{match_ordering, MatchOrdering}
use Rattle.std.specs.Cmp.{ranks}
use Rattle.pb_schema.specs.Types.{FieldView, Types, message_fields, field_numbered}
use Rattle.pb_value.specs.Data.{Holding, Fields, no_fields, field, Message, body, put_field, drop_field, holding_depth, fields_depth, fields_of, unknown_of}
use Rattle.pb_value.specs.WellFormed.{AreFields, RisesFrom, HasNoMember, HasOneMemberEach, oneof_of, oneof_at, IsHeld, IsWellFormed, holds_declared}
use Rattle.pb_schema.specs.Oneofs.{is_member}
use Rattle.pb_value.specs.Judge.{has_shape, is_absence}
use Rattle.pb_value.specs.Oneof.{is_member_at, member_set}
use Rattle.pb_value.specs.Change.{other_than, gives_way, drop_some, stored_at, with_fields, Allowed}
use Rattle.pb_value.proofs.JudgeLemmas.{IsOfShape-stored}
pub use Rattle.pb_value.specs.WellFormed.{CanStand}
pub use Rattle.pb_value.proofs.Options.{if_some, at_some, some_of}
use Rattle.pb_value.proofs.Numbers.{self_equal}

by_ordering : {A : Type 0} (P : A → Type 0) (n k : ℕ) (x y z : A) (o : Ordering) → MatchOrdering o (n < k) (n ≡ k) (k < n) → (n < k → P x) → (n ≡ k → P y) → (k < n → P z) → P (match_ordering o x y z)
by_ordering P n k x y z Less h a b c = a h
by_ordering P n k x y z Equal h a b c = b h
by_ordering P n k x y z Greater h a b c = c h

-- a fact of a choice by the order of two numbers
pub by_order : {A : Type 0} (P : A → Type 0) (n k : ℕ) (x y z : A) → (n < k → P x) → (n ≡ k → P y) → (k < n → P z) → P (match_ordering (nat_cmp n k) x y z)
by_order P n k x y z = by_ordering P n k x y z (nat_cmp n k) (ranks n k)

pub AreFields-drop_field : (pool : Types) (all : List FieldView) (n : ℕ) (fs : Fields) → AreFields pool all fs → AreFields pool all (drop_field n fs)
AreFields-drop_field pool all n no_fields w = tt
AreFields-drop_field pool all n (field k g fs) w =
    by_order (AreFields pool all) n k _ _ _ (λ _. (w.0, AreFields-drop_field pool all n fs w.1)) (λ _. w.1) (λ _. (w.0, AreFields-drop_field pool all n fs w.1))

RisesFrom-lower : (low high : ℕ) (fs : Fields) → low ≤ high → RisesFrom high fs → RisesFrom low fs
RisesFrom-lower low high no_fields l w = tt
RisesFrom-lower low high (field k g fs) l w = let here = w.0 in (omega arith, w.1)

pub RisesFrom-drop_field : (low n : ℕ) (fs : Fields) → RisesFrom low fs → RisesFrom low (drop_field n fs)
RisesFrom-drop_field low n no_fields w = tt
RisesFrom-drop_field low n (field k g fs) w =
    let here = w.0 in
    by_order (RisesFrom low) n k _ _ _ (λ _. (w.0, RisesFrom-drop_field (k + 1) n fs w.1)) (λ _. RisesFrom-lower low (k + 1) fs (omega arith) w.1) (λ _. (w.0, RisesFrom-drop_field (k + 1) n fs w.1))

HasNoMember-drop_field : (all : List FieldView) (o n : ℕ) (fs : Fields) → HasNoMember all o fs → HasNoMember all o (drop_field n fs)
HasNoMember-drop_field all o n no_fields w = tt
HasNoMember-drop_field all o n (field k g fs) w =
    by_order (HasNoMember all o) n k _ _ _ (λ _. (w.0, HasNoMember-drop_field all o n fs w.1)) (λ _. w.1) (λ _. (w.0, HasNoMember-drop_field all o n fs w.1))

IfSome-weaker : {A : Type 0} (x : Option A) (P Q : A → Type 0) → ((a : A) → P a → Q a) → IfSome x P → IfSome x Q
IfSome-weaker None P Q f h = tt
IfSome-weaker (Some a) P Q f h = f a h

pub HasOneMemberEach-drop_field : (all : List FieldView) (n : ℕ) (fs : Fields) → HasOneMemberEach all fs → HasOneMemberEach all (drop_field n fs)
HasOneMemberEach-drop_field all n no_fields w = tt
HasOneMemberEach-drop_field all n (field k g fs) w =
    let later : HasOneMemberEach all (field k g (drop_field n fs)) = (IfSome-weaker (oneof_at all k) _ _ (λ o a. HasNoMember-drop_field all o n fs a) w.0, HasOneMemberEach-drop_field all n fs w.1) in
    by_order (HasOneMemberEach all) n k _ _ _ (λ _. later) (λ _. w.1) (λ _. later)

fields_depth-drop_field : (n : ℕ) (fs : Fields) → fields_depth (drop_field n fs) ≤ fields_depth fs
fields_depth-drop_field n no_fields = omega arith
fields_depth-drop_field n (field k g fs) =
    let more = fields_depth-drop_field n fs in
    by_order (λ gs. fields_depth gs ≤ max (holding_depth g) (fields_depth fs)) n k _ _ _ (λ _. omega arith) (λ _. omega arith) (λ _. omega arith)

pub IsWellFormed-drop_field : (pool : Types) (m n : ℕ) (v : Message) → IsWellFormed pool m v → IsWellFormed pool m (body (drop_field n (fields_of v)) (unknown_of v))
IsWellFormed-drop_field pool m n (body fs us) w =
    let q = w.parts in
    record {
      parts = (AreFields-drop_field pool (message_fields pool m) n fs q.0, RisesFrom-drop_field 0 n fs q.1, HasOneMemberEach-drop_field (message_fields pool m) n fs q.2, q.3);
      depth = omega (arith, w.depth, fields_depth-drop_field n fs);
    }

-- PUTTING A FIELD

pub AreFields-put_field : (pool : Types) (all : List FieldView) (n : ℕ) (h : Holding) (fs : Fields) → CanStand pool all n h → AreFields pool all fs → AreFields pool all (put_field n h fs)
AreFields-put_field pool all n h no_fields ok w = (ok, tt)
AreFields-put_field pool all n h (field k g fs) ok w =
    by_order (AreFields pool all) n k _ _ _ (λ _. (ok, w)) (λ e. (subst (λ (i : ℕ). CanStand pool all i h) e ok, w.1)) (λ _. (w.0, AreFields-put_field pool all n h fs ok w.1))

pub RisesFrom-put_field : (low n : ℕ) (h : Holding) (fs : Fields) → low ≤ n → RisesFrom low fs → RisesFrom low (put_field n h fs)
RisesFrom-put_field low n h no_fields l w = (l, tt)
RisesFrom-put_field low n h (field k g fs) l w =
    by_order (RisesFrom low) n k _ _ _ (λ b. (l, (omega arith, w.1))) (λ _. w) (λ a. (w.0, RisesFrom-put_field (k + 1) n h fs (omega arith) w.1))

HasNoMember-put_field : (all : List FieldView) (o n : ℕ) (h : Holding) (fs : Fields) → oneof_at all n ≢ Some o → HasNoMember all o fs → HasNoMember all o (put_field n h fs)
HasNoMember-put_field all o n h no_fields other w = (other, tt)
HasNoMember-put_field all o n h (field k g fs) other w =
    by_order (HasNoMember all o) n k _ _ _ (λ _. (other, w)) (λ _. w) (λ _. (w.0, HasNoMember-put_field all o n h fs other w.1))

-- each field but that of number n is no member of the oneof of number n
NoOther : List FieldView → ℕ → Fields → Type 0
NoOther all n no_fields = Unit {0}
NoOther all n (field k g fs) = (k ≢ n → (o : ℕ) → oneof_at all n ≡ Some o → oneof_at all k ≢ Some o) × NoOther all n fs

no_member_above : (all : List FieldView) (n low o : ℕ) (fs : Fields) → NoOther all n fs → RisesFrom low fs → n < low → oneof_at all n ≡ Some o → HasNoMember all o fs
unfolding NoOther
no_member_above all n low o no_fields h w l e = tt
no_member_above all n low o (field k g fs) h w l e =
    let here = w.0 in
    (h.0 (λ q. absurd (let z : k ≡ n = q in omega (arith, z))) o e, no_member_above all n (k + 1) o fs h.1 w.1 (omega arith) e)

HasOneMemberEach-put_field :
    (all : List FieldView) (n low : ℕ) (h : Holding) (fs : Fields) → NoOther all n fs → RisesFrom low fs → HasOneMemberEach all fs → HasOneMemberEach all (put_field n h fs)
unfolding NoOther
HasOneMemberEach-put_field all n low h no_fields other rises w = (if_some (oneof_at all n) (λ (o : ℕ). HasNoMember all o no_fields) (λ o e. tt), tt)
HasOneMemberEach-put_field all n low h (field k g fs) other rises w =
    by_order (HasOneMemberEach all) n k _ _ _
    (λ b. (if_some (oneof_at all n) (λ (o : ℕ). HasNoMember all o (field k g fs)) (λ o e. (other.0 (λ q. absurd (let z : k ≡ n = q in omega (arith, z))) o e, no_member_above all n (k + 1) o fs other.1 rises.1 (omega arith) e)), w))
    (λ _. w)
    (λ a. (
      if_some (oneof_at all k) (λ (o : ℕ). HasNoMember all o (put_field n h fs))
          (λ o e. HasNoMember-put_field all o n h fs (λ q. other.0 (λ z. absurd (omega (arith, z))) o q e) (at_some (oneof_at all k) (λ (p : ℕ). HasNoMember all p fs) o w.0 e)),
      HasOneMemberEach-put_field all n (k + 1) h fs other.1 rises.1 w.1,
    ))

pub fields_depth-put_field : (n : ℕ) (h : Holding) (fs : Fields) (top : ℕ) → holding_depth h ≤ top → fields_depth fs ≤ top → fields_depth (put_field n h fs) ≤ top
fields_depth-put_field n h no_fields top a b = omega arith
fields_depth-put_field n h (field k g fs) top a b =
    by_order (λ gs. fields_depth gs ≤ top) n k _ _ _ (λ _. omega arith) (λ _. omega arith)
    (λ _. let more = fields_depth-put_field n h fs top a (omega arith) in omega arith)

-- what `member_set` says
pub oneof_at-member : (all : List FieldView) (o n : ℕ) → is_member_at o (field_numbered n all) ≡ false → oneof_at all n ≢ Some o
oneof_at-member all o n e = told (field_numbered n all) e
  where
    own : (s : Shape) → is_member o s ≡ false → oneof_of s ≢ Some o
    own (shape.OneofMember p) e = λ q. let same : p ≡ o = cc in let yes : (o == p) ≡ true = rw same (self_equal o) in cc
    own shape.Implicit e = λ q. cc
    own shape.Explicit e = λ q. cc
    own (shape.List p) e = λ q. cc
    own (shape.Map k) e = λ q. cc

    told : (f : Option FieldView) → is_member_at o f ≡ false → option_and_then (λ (g : FieldView). oneof_of g.shape) f ≢ Some o
    told None e = λ q. cc
    told (Some f) e = own f.shape e

pub member-oneof_at : (all : List FieldView) (o n : ℕ) → is_member_at o (field_numbered n all) ≡ true → oneof_at all n ≡ Some o
member-oneof_at all o n e = told (field_numbered n all) e
  where
    same : (a b : ℕ) → (a == b) ≡ true → b ≡ a
    same a b q = grind (arith, nat_tests)

    own : (s : Shape) → is_member o s ≡ true → oneof_of s ≡ Some o
    own (shape.OneofMember p) e = ap (λ (q : ℕ). Some q) (same o p e)
    own shape.Implicit e = absurd (cc)
    own shape.Explicit e = absurd (cc)
    own (shape.List p) e = absurd (cc)
    own (shape.Map k) e = absurd (cc)

    told : (f : Option FieldView) → is_member_at o f ≡ true → option_and_then (λ (g : FieldView). oneof_of g.shape) f ≡ Some o
    told None e = absurd (cc)
    told (Some f) e = own f.shape e

equal_of : (n : ℕ) (z : Ordering) → MatchOrdering z (n < n) (n ≡ n) (n < n) → z ≡ Equal
equal_of n Less h = absurd (omega (arith, h))
equal_of n Equal h = refl
equal_of n Greater h = absurd (omega (arith, h))

-- what the member that is set says of the others
unfoldable pub MemberSays : List FieldView → ℕ → Fields → Option ℕ → Type 0
MemberSays all o fs None = HasNoMember all o fs
MemberSays all o fs (Some k) = (oneof_at all k ≡ Some o) × HasNoMember all o (drop_field k fs)

pub member_says : (all : List FieldView) (o : ℕ) (fs : Fields) → HasOneMemberEach all fs → MemberSays all o fs (member_set all o fs)
unfolding MemberSays
member_says all o no_fields w = tt
member_says all o (field n g fs) w = by_test (is_member_at o (field_numbered n all)) refl (member_says all o fs w.1)
  where
    self : nat_cmp n n ≡ Equal
    self = equal_of n (nat_cmp n n) (ranks n n)

    later : (k : Option ℕ) → oneof_at all n ≢ Some o → MemberSays all o fs k → MemberSays all o (field n g fs) k
    later None apart h = (apart, h)
    later (Some k) apart h = (
      h.0,
      by_order (HasNoMember all o) k n (field n g (drop_field k fs)) fs (field n g (drop_field k fs)) (λ _. (apart, h.1))
          (λ e. absurd (apart (ap (λ (i : ℕ). oneof_at all i) (sym e) ∙ h.0))) (λ _. (apart, h.1)),
    )

    by_test :
        (b : Bool) → is_member_at o (field_numbered n all) ≡ b → MemberSays all o fs (member_set all o fs)
        → MemberSays all o (field n g fs) (if b then Some n else member_set all o fs)
    by_test true e h =
        let own = member-oneof_at all o n e in (
          own,
          subst (λ (z : Ordering). HasNoMember all o (match_ordering z (field n g (drop_field n fs)) fs (field n g (drop_field n fs)))) (sym self)
              (at_some (oneof_at all n) (λ (p : ℕ). HasNoMember all p fs) o w.0 own),
        )
    by_test false e h = later (member_set all o fs) (oneof_at-member all o n e) h

none_is_no_other : (all : List FieldView) (o n : ℕ) (fs : Fields) → oneof_at all n ≡ Some o → HasNoMember all o fs → NoOther all n fs
unfolding NoOther
none_is_no_other all o n no_fields own h = tt
none_is_no_other all o n (field k g fs) own h =
    ((λ _ p e. let same : o ≡ p = cc in subst (λ (q : ℕ). oneof_at all k ≢ Some q) same h.0), none_is_no_other all o n fs own h.1)

no_other : (all : List FieldView) (o n : ℕ) (fs : Fields) → oneof_at all n ≡ Some o → HasNoMember all o (drop_field n fs) → NoOther all n fs
unfolding NoOther
no_other all o n no_fields own h = tt
no_other all o n (field k g fs) own h = by_cases (nat_cmp n k) (ranks n k) (λ w. no_other all o n fs own w) h
  where
    head : oneof_at all k ≢ Some o → k ≢ n → (p : ℕ) → oneof_at all n ≡ Some p → oneof_at all k ≢ Some p
    head apart _ p e = let same : o ≡ p = cc in subst (λ (q : ℕ). oneof_at all k ≢ Some q) same apart

    by_cases :
        (z : Ordering) → MatchOrdering z (n < k) (n ≡ k) (k < n) → (HasNoMember all o (drop_field n fs) → NoOther all n fs)
        → HasNoMember all o (match_ordering z (field k g (drop_field n fs)) fs (field k g (drop_field n fs))) → NoOther all n (field k g fs)
    by_cases Less r later w = (head w.0, later w.1)
    by_cases Equal r later w = ((λ q. absurd (q (sym r))), none_is_no_other all o n fs own w)
    by_cases Greater r later w = (head w.0, later w.1)

-- WHERE ANOTHER MEMBER GIVES WAY

oneof_at-None : (all : List FieldView) (n : ℕ) (fs : Fields) → oneof_at all n ≡ None → NoOther all n fs
unfolding NoOther
oneof_at-None all n no_fields e = tt
oneof_at-None all n (field k g fs) e = ((λ _ o q. absurd (cc)), oneof_at-None all n fs e)

pub oneof_at-shape : (all : List FieldView) (n : ℕ) (f : FieldView) → field_numbered n all ≡ Some f → oneof_at all n ≡ oneof_of f.shape
oneof_at-shape all n f e = ap (λ (x : Option FieldView). option_and_then (λ (g : FieldView). oneof_of g.shape) x) e

way_given : (all : List FieldView) (o n : ℕ) (fs : Fields) (k : Option ℕ) → oneof_at all n ≡ Some o → MemberSays all o fs k → NoOther all n (drop_some (other_than n k) fs)
unfolding MemberSays
way_given all o n fs None own h = none_is_no_other all o n fs own h
way_given all o n fs (Some k) own h = by_test (k == n) refl
  where
    same : (k == n) ≡ true → k ≡ n
    same e = grind (arith, nat_tests)

    by_test : (b : Bool) → (k == n) ≡ b → NoOther all n (drop_some (if b then None else Some k) fs)
    by_test true e = no_other all o n fs own (subst (λ (i : ℕ). HasNoMember all o (drop_field i fs)) (same e) h.1)
    by_test false e = none_is_no_other all o n (drop_field k fs) own h.1

NoOther-gives_way :
    (all : List FieldView) (n : ℕ) (s : Shape) (fs : Fields) → oneof_at all n ≡ oneof_of s → HasOneMemberEach all fs → NoOther all n (drop_some (gives_way all s n fs) fs)
NoOther-gives_way all n (shape.OneofMember o) fs own w = way_given all o n fs (member_set all o fs) own (member_says all o fs w)
NoOther-gives_way all n shape.Implicit fs own w = oneof_at-None all n fs own
NoOther-gives_way all n shape.Explicit fs own w = oneof_at-None all n fs own
NoOther-gives_way all n (shape.List p) fs own w = oneof_at-None all n fs own
NoOther-gives_way all n (shape.Map k) fs own w = oneof_at-None all n fs own

-- fields that a message of a type may have
record AreKept (pool : Types) (all : List FieldView) (fs : Fields) : Type 0 where
  fields : AreFields pool all fs
  rises : RisesFrom 0 fs
  members : HasOneMemberEach all fs
  depth : fields_depth fs ≤ 100

AreKept-drop_some : (pool : Types) (all : List FieldView) (k : Option ℕ) (fs : Fields) → AreKept pool all fs → AreKept pool all (drop_some k fs)
AreKept-drop_some pool all None fs w = w
AreKept-drop_some pool all (Some k) fs w = record {
  fields = AreFields-drop_field pool all k fs w.fields;
  rises = RisesFrom-drop_field 0 k fs w.rises;
  members = HasOneMemberEach-drop_field all k fs w.members;
  depth = omega (arith, w.depth, fields_depth-drop_field k fs);
}

-- a content that is stored keeps a message well formed
pub IsWellFormed-stored :
    (pool : Types) (m n : ℕ) (h : Holding) (v : Message) (f : FieldView) → field_numbered n (message_fields pool m) ≡ Some f → has_shape f.shape h ≡ true
    → IsHeld pool f.shape f.kind h → holds_declared pool f.kind h ≡ true → holding_depth h ≤ 100 → IsWellFormed pool m v
    → IsWellFormed pool m (body (stored_at (message_fields pool m) f.shape n h (fields_of v)) (unknown_of v))
IsWellFormed-stored pool m n h (body fs us) f found shaped held declared depth w = by_test (is_absence f.shape h) refl
  where
    by_test :
        (b : Bool) → is_absence f.shape h ≡ b
        → IsWellFormed pool m (body (if b then drop_field n fs else put_field n h (drop_some (gives_way (message_fields pool m) f.shape n fs) fs)) us)
    by_test true e = IsWellFormed-drop_field pool m n (body fs us) w
    by_test false e =
        let old : AreKept pool (message_fields pool m) fs = record { fields = w.parts.0; rises = w.parts.1; members = w.parts.2; depth = omega (arith, w.depth) } in
        let kept = AreKept-drop_some pool (message_fields pool m) (gives_way (message_fields pool m) f.shape n fs) fs old in
        let stands : CanStand pool (message_fields pool m) n h = rw found (IsOfShape-stored f.shape h shaped e, held, declared) in
        let other = NoOther-gives_way (message_fields pool m) n f.shape fs (oneof_at-shape (message_fields pool m) n f found) w.parts.2 in
        record {
          parts = (
            AreFields-put_field pool (message_fields pool m) n h (drop_some (gives_way (message_fields pool m) f.shape n fs) fs) stands kept.fields,
            RisesFrom-put_field 0 n h (drop_some (gives_way (message_fields pool m) f.shape n fs) fs) (omega arith) kept.rises,
            HasOneMemberEach-put_field (message_fields pool m) n 0 h (drop_some (gives_way (message_fields pool m) f.shape n fs) fs) other kept.rises kept.members,
            w.parts.3,
          );
          depth = omega (arith, w.depth, fields_depth-put_field n h (drop_some (gives_way (message_fields pool m) f.shape n fs) fs) 100 depth kept.depth);
        }

-- TWO CHANGES OF FIELDS IN EITHER ORDER

put_front : (n low : ℕ) (h : Holding) (fs : Fields) → n < low → RisesFrom low fs → put_field n h fs ≡ field n h fs
put_front n low h no_fields l w = refl
put_front n low h (field k g fs) l w =
    let here = w.0 in
    by_order (λ x. x ≡ field n h (field k g fs)) n k (field n h (field k g fs)) (field k h fs) (field k g (put_field n h fs)) (λ _. refl)
    (λ e. absurd (omega (arith, e))) (λ a. absurd (omega (arith, a)))

less_of : (n k : ℕ) → n < k → nat_cmp n k ≡ Less
less_of n k l = told (nat_cmp n k) (ranks n k)
  where
    told : (z : Ordering) → MatchOrdering z (n < k) (n ≡ k) (k < n) → z ≡ Less
    told Less r = refl
    told Equal r = absurd (omega (arith, r))
    told Greater r = absurd (omega (arith, r))

greater_of : (n k : ℕ) → k < n → nat_cmp n k ≡ Greater
greater_of n k l = told (nat_cmp n k) (ranks n k)
  where
    told : (z : Ordering) → MatchOrdering z (n < k) (n ≡ k) (k < n) → z ≡ Greater
    told Less r = absurd (omega (arith, r))
    told Equal r = absurd (omega (arith, r))
    told Greater r = refl

-- dropping another field than the one that stands first
drop_other : (k n : ℕ) (h : Holding) (fs : Fields) → k ≢ n → drop_field k (field n h fs) ≡ field n h (drop_field k fs)
drop_other k n h fs d =
    by_order (λ x. x ≡ field n h (drop_field k fs)) k n (field n h (drop_field k fs)) fs (field n h (drop_field k fs)) (λ _. refl) (λ e. absurd (d e)) (λ _. refl)

drop_first : (k : ℕ) (h : Holding) (fs : Fields) → drop_field k (field k h fs) ≡ fs
drop_first k h fs = ap (λ (z : Ordering). match_ordering z (field k h (drop_field k fs)) fs (field k h (drop_field k fs))) (equal_of k (nat_cmp k k) (ranks k k))

put_later : (n j : ℕ) (h g : Holding) (fs : Fields) → j < n → put_field n h (field j g fs) ≡ field j g (put_field n h fs)
put_later n j h g fs l = ap (λ (z : Ordering). match_ordering z (field n h (field j g fs)) (field j h fs) (field j g (put_field n h fs))) (greater_of n j l)

put_before : (n j : ℕ) (h g : Holding) (fs : Fields) → n < j → put_field n h (field j g fs) ≡ field n h (field j g fs)
put_before n j h g fs l = ap (λ (z : Ordering). match_ordering z (field n h (field j g fs)) (field j h fs) (field j g (put_field n h fs))) (less_of n j l)

put_here : (n : ℕ) (h g : Holding) (fs : Fields) → put_field n h (field n g fs) ≡ field n h fs
put_here n h g fs = ap (λ (z : Ordering). match_ordering z (field n h (field n g fs)) (field n h fs) (field n g (put_field n h fs))) (equal_of n (nat_cmp n n) (ranks n n))

pub drop_field-put_field : (n k low : ℕ) (h : Holding) (fs : Fields) → k ≢ n → RisesFrom low fs → drop_field k (put_field n h fs) ≡ put_field n h (drop_field k fs)
drop_field-put_field n k low h no_fields d w = drop_other k n h no_fields d
drop_field-put_field n k low h (field j g fs) d w = by_place (ranks_of n j) (eqb_tells k j) (drop_field-put_field n k (j + 1) h fs d w.1)
  where
    ranks_of : (a b : ℕ) → (a < b) ⊎ ((a ≡ b) ⊎ (b < a))
    ranks_of a b = told (nat_cmp a b) (ranks a b)
      where
        told : (z : Ordering) → MatchOrdering z (a < b) (a ≡ b) (b < a) → (a < b) ⊎ ((a ≡ b) ⊎ (b < a))
        told Less r = inl r
        told Equal r = inr (inl r)
        told Greater r = inr (inr r)

    by_place :
        (n < j) ⊎ ((n ≡ j) ⊎ (j < n)) → ((k == j ≡ true) × (k ≡ j)) ⊎ ((k == j ≡ false) × (k ≢ j))
        → drop_field k (put_field n h fs) ≡ put_field n h (drop_field k fs)
        → drop_field k (put_field n h (field j g fs)) ≡ put_field n h (drop_field k (field j g fs))
    by_place (inl b) (inl e) later =
        ap (drop_field k) (put_before n j h g fs b) ∙ drop_other k n h (field j g fs) d
        ∙ ap (field n h) (ap (λ (i : ℕ). drop_field i (field j g fs)) e.1 ∙ drop_first j g fs)
        ∙ sym (put_front n (j + 1) h fs (omega arith) w.1)
        ∙ ap (put_field n h) (sym (ap (λ (i : ℕ). drop_field i (field j g fs)) e.1 ∙ drop_first j g fs))
    by_place (inl b) (inr e) later =
        ap (drop_field k) (put_before n j h g fs b) ∙ drop_other k n h (field j g fs) d ∙ ap (field n h) (drop_other k j g fs e.1)
        ∙ sym (put_before n j h g (drop_field k fs) b) ∙ ap (put_field n h) (sym (drop_other k j g fs e.1))
    by_place (inr (inl b)) e later =
        let apart : k ≢ j = λ q. d (q ∙ sym b) in
        ap (λ (i : ℕ). drop_field k (put_field i h (field j g fs))) b ∙ ap (drop_field k) (put_here j h g fs) ∙ drop_other k j h fs apart
        ∙ sym (put_here j h g (drop_field k fs)) ∙ ap (put_field j h) (sym (drop_other k j g fs apart)) ∙ ap (λ (i : ℕ). put_field i h (drop_field k (field j g fs))) (sym b)
    by_place (inr (inr b)) (inl e) later =
        ap (drop_field k) (put_later n j h g fs b) ∙ ap (λ (i : ℕ). drop_field i (field j g (put_field n h fs))) e.1 ∙ drop_first j g (put_field n h fs)
        ∙ ap (put_field n h) (sym (ap (λ (i : ℕ). drop_field i (field j g fs)) e.1 ∙ drop_first j g fs))
    by_place (inr (inr b)) (inr e) later =
        ap (drop_field k) (put_later n j h g fs b) ∙ drop_other k j g (put_field n h fs) e.1 ∙ ap (field j g) later
        ∙ sym (put_later n j h g (drop_field k fs) b) ∙ ap (put_field n h) (sym (drop_other k j g fs e.1))

other_apart : (n : ℕ) (o : Option ℕ) (k : ℕ) → other_than n o ≡ Some k → k ≢ n
other_apart n None k e = absurd (cc)
other_apart n (Some j) k e = by_test (j == n) refl e
  where
    apart : (j == n) ≡ false → j ≢ n
    apart q = grind (arith, nat_tests)

    by_test : (b : Bool) → (j == n) ≡ b → (if b then None else Some j) ≡ Some k → k ≢ n
    by_test true q e = absurd (cc)
    by_test false q e = let same : j ≡ k = cc in subst (λ (i : ℕ). i ≢ n) same (apart q)

pub gives_way-apart : (all : List FieldView) (s : Shape) (n k : ℕ) (fs : Fields) → gives_way all s n fs ≡ Some k → k ≢ n
gives_way-apart all (shape.OneofMember o) n k fs e = other_apart n (member_set all o fs) k e
gives_way-apart all shape.Implicit n k fs e = absurd (cc)
gives_way-apart all shape.Explicit n k fs e = absurd (cc)
gives_way-apart all (shape.List p) n k fs e = absurd (cc)
gives_way-apart all (shape.Map l) n k fs e = absurd (cc)

-- one field put, and then the member that gave way dropped
pub drop_some-put_field :
    (all : List FieldView) (s : Shape) (n low : ℕ) (h : Holding) (fs : Fields) (k : Option ℕ) → k ≡ gives_way all s n fs → RisesFrom low fs
    → drop_some k (put_field n h fs) ≡ put_field n h (drop_some (gives_way all s n fs) fs)
drop_some-put_field all s n low h fs None e w = ap (λ (x : Option ℕ). put_field n h (drop_some x fs)) e
drop_some-put_field all s n low h fs (Some k) e w =
    drop_field-put_field n k low h fs (gives_way-apart all s n k fs (sym e)) w ∙ ap (λ (x : Option ℕ). put_field n h (drop_some x fs)) e

-- what `store` leaves behind
pub stored_done :
    (all : List FieldView) (s : Shape) (n : ℕ) (h : Holding) (old put new : Message) (k : Option ℕ) → is_absence s h ≡ false
    → put ≡ with_fields old (put_field n h (fields_of old)) → new ≡ with_fields put (drop_some k (fields_of put)) → k ≡ gives_way all s n (fields_of old)
    → RisesFrom 0 (fields_of old) → new ≡ with_fields old (stored_at all s n h (fields_of old))
stored_done all s n h (body fs us) put new k kept first dropped way rises =
    dropped ∙ ap (λ (v : Message). with_fields v (drop_some k (fields_of v))) first
    ∙ ap (λ (gs : Fields). body gs us) (drop_some-put_field all s n 0 h fs k way rises
    ∙ sym (ap (λ (b : Bool). if b then drop_field n fs else put_field n h (drop_some (gives_way all s n fs) fs)) kept))

-- a content that may be set keeps a message well formed
pub IsWellFormed-set :
    (pool : Types) (m n : ℕ) (s : Shape) (h : Holding) (v : Message) → Allowed pool m n s h → IsWellFormed pool m v
    → IsWellFormed pool m (with_fields v (stored_at (message_fields pool m) s n h (fields_of v)))
IsWellFormed-set pool m n s h v ok w =
    let f = some_of (field_numbered n (message_fields pool m))
    (λ (f : FieldView). (f.shape ≡ s) × (has_shape f.shape h ≡ true) × IsHeld pool f.shape f.kind h × (holding_depth h ≤ 100) × (holds_declared pool f.kind h ≡ true)) ok in
    subst (λ (x : Shape). IsWellFormed pool m (with_fields v (stored_at (message_fields pool m) x n h (fields_of v)))) f.2.0
    (IsWellFormed-stored pool m n h v f.0 f.1 f.2.1 f.2.2 f.2.4 f.2.3 w)

-- a fact of a message that a call either changed or left
pub either_way : {T F : Type 0} (r : Result T F) (P : Message → Type 0) (new changed old : Message) → OnOk r (new ≡ changed) → OnErr r (new ≡ old) → P changed → P old → P new
either_way (Ok x) P new changed old a b p q = subst P (sym a) p
either_way (Err e) P new changed old a b p q = subst P (sym b) q
