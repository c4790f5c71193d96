-- Some of the fields of a message, and their canonical records.
use Rattle.std.proofs.Common.{◌≡◌, ◌≢◌, ℕ, ◌+◌, ◌≤◌, List, [], ◌++◌, Bool, true, false, Option, Some, None, refl, sym, ◌∙◌, ap, subst, arith, inl, inr}
use Rattle.std.specs.Prelude.{filter, ◌⊎◌, ◌==◌, if◌then◌else◌, IfSome}
use Rattle.std.specs.List.{AllByRecursion}
use Rattle.std.proofs.lemmas.List.Elements.{filter-append}
use Rattle.pb_wire.specs.Record.{Record}
use Rattle.pb_schema.specs.Types.{FieldView, Types, field_numbered}
use Rattle.pb_value.specs.Data.{Holding, Fields, no_fields, field, get_field}
use Rattle.pb_value.specs.Canon.{canon_holding, canon_fields, by_field}
use Rattle.pb_value.specs.WellFormed.{AreFields, RisesFrom, oneof_at, HasNoMember, HasOneMemberEach}
use Rattle.pb_value.proofs.Lists.{filter_all, filter_none}
use Rattle.pb_value.proofs.ListLemmas.{all_append}
use Rattle.pb_value.proofs.FieldExtent.{get_field-below, get_field-first, get_field-later, equal_or_not}
use Rattle.pb_value.proofs.Numbers.{self_equal, not_equal}
use Rattle.pb_compat.specs.Agrees.{fields_only}

-- EACH FIELD

abbrev pub EachField : (ℕ → Holding → Type 0) → Fields → Type 0
EachField P no_fields = Unit {0}
EachField P (field k h fs) = P k h × EachField P fs

pub each_only : (P : ℕ → Holding → Type 0) (p : ℕ → Bool) (fs : Fields) → EachField P fs → EachField P (fields_only p fs)
each_only P p no_fields w = tt
each_only P p (field k h fs) w = by (p k) (each_only P p fs w.1)
  where
    by : (b : Bool) → EachField P (fields_only p fs) → EachField P (if b then field k h (fields_only p fs) else fields_only p fs)
    by true rest = (w.0, rest)
    by false rest = rest

pub each_weaker : (P Q : ℕ → Holding → Type 0) → ((k : ℕ) (h : Holding) → P k h → Q k h) → (fs : Fields) → EachField P fs → EachField Q fs
each_weaker P Q f no_fields w = tt
each_weaker P Q f (field k h fs) w = (f k h w.0, each_weaker P Q f fs w.1)

pub each_all : (P : ℕ → Holding → Type 0) → ((k : ℕ) (h : Holding) → P k h) → (fs : Fields) → EachField P fs
each_all P f no_fields = tt
each_all P f (field k h fs) = (f k h, each_all P f fs)

-- the field of a number alone
abbrev pub single : ℕ → Option Holding → Fields
single k None = no_fields
single k (Some h) = field k h no_fields

pub rises_lower : (low high : ℕ) (fs : Fields) → low ≤ high → RisesFrom high fs → RisesFrom low fs
rises_lower low high no_fields l w = tt
rises_lower low high (field k h fs) l w = (omega (arith, l, w.0), w.1)

pub rises_only : (p : ℕ → Bool) (low : ℕ) (fs : Fields) → RisesFrom low fs → RisesFrom low (fields_only p fs)
rises_only p low no_fields w = tt
rises_only p low (field k h fs) w = by (p k) (rises_only p (k + 1) fs w.1)
  where
    by : (b : Bool) → RisesFrom (k + 1) (fields_only p fs) → RisesFrom low (if b then field k h (fields_only p fs) else fields_only p fs)
    by true rest = (w.0, rest)
    by false rest = let here = w.0 in rises_lower low (k + 1) (fields_only p fs) (omega (arith, here)) rest

pub fields_of_only : (pool : Types) (all : List FieldView) (p : ℕ → Bool) (fs : Fields) → AreFields pool all fs → AreFields pool all (fields_only p fs)
fields_of_only pool all p no_fields w = tt
fields_of_only pool all p (field k h fs) w = by (p k) (fields_of_only pool all p fs w.1)
  where
    by : (b : Bool) → AreFields pool all (fields_only p fs) → AreFields pool all (if b then field k h (fields_only p fs) else fields_only p fs)
    by true rest = (w.0, rest)
    by false rest = rest

no_member_only : (all : List FieldView) (p : ℕ → Bool) (o : ℕ) (fs : Fields) → HasNoMember all o fs → HasNoMember all o (fields_only p fs)
no_member_only all p o no_fields w = tt
no_member_only all p o (field k h fs) w = by (p k) (no_member_only all p o fs w.1)
  where
    by : (b : Bool) → HasNoMember all o (fields_only p fs) → HasNoMember all o (if b then field k h (fields_only p fs) else fields_only p fs)
    by true rest = (w.0, rest)
    by false rest = rest

pub one_member_only : (all : List FieldView) (p : ℕ → Bool) (fs : Fields) → HasOneMemberEach all fs → HasOneMemberEach all (fields_only p fs)
one_member_only all p no_fields w = tt
one_member_only all p (field k h fs) w = by (p k) (one_member_only all p fs w.1)
  where
    at : (o : Option ℕ) → IfSome o (λ i. HasNoMember all i fs) → IfSome o (λ i. HasNoMember all i (fields_only p fs))
    at None v = tt
    at (Some i) v = no_member_only all p i fs v

    by : (b : Bool) → HasOneMemberEach all (fields_only p fs) → HasOneMemberEach all (if b then field k h (fields_only p fs) else fields_only p fs)
    by true rest = (at (oneof_at all k) w.0, rest)
    by false rest = rest

-- WHAT STANDS AT A NUMBER

pub get_only : (p : ℕ → Bool) (k : ℕ) (fs : Fields) → p k ≡ true → get_field k (fields_only p fs) ≡ get_field k fs
get_only p k no_fields e = refl
get_only p k (field n h fs) e = by (p n) refl (equal_or_not k n) (get_only p k fs e)
  where
    by : (b : Bool) → p n ≡ b → (k ≡ n) ⊎ (k ≢ n) → get_field k (fields_only p fs) ≡ get_field k fs
        → get_field k (if b then field n h (fields_only p fs) else fields_only p fs) ≡ get_field k (field n h fs)
    by true q (inl z) rest =
        ap (λ (i : ℕ). get_field i (field n h (fields_only p fs))) z ∙ get_field-first n h (fields_only p fs) ∙ sym (ap (λ (i : ℕ). get_field i (field n h fs)) z ∙ get_field-first n h fs)
    by true q (inr d) rest = get_field-later k n h (fields_only p fs) d ∙ rest ∙ sym (get_field-later k n h fs d)
    by false q (inl z) rest = let y : p n ≡ true = subst (λ (i : ℕ). p i ≡ true) z e in absurd (cc)
    by false q (inr d) rest = rest ∙ sym (get_field-later k n h fs d)

pub none_only : (p : ℕ → Bool) (k : ℕ) (fs : Fields) → get_field k fs ≡ None → get_field k (fields_only p fs) ≡ None
none_only p k no_fields e = refl
none_only p k (field n h fs) e = by (equal_or_not k n) (none_only p k fs)
  where
    clash : {h : Holding} {o : Option Holding} → o ≡ Some h → o ≡ None → ⊥
    clash p q = cc

    put : (b : Bool) → k ≢ n → get_field k (fields_only p fs) ≡ None → get_field k (if b then field n h (fields_only p fs) else fields_only p fs) ≡ None
    put true d rest = get_field-later k n h (fields_only p fs) d ∙ rest
    put false d rest = rest

    by : (k ≡ n) ⊎ (k ≢ n) → (get_field k fs ≡ None → get_field k (fields_only p fs) ≡ None) → get_field k (fields_only p (field n h fs)) ≡ None
    by (inl z) later = absurd (clash (ap (λ (i : ℕ). get_field i (field n h fs)) z ∙ get_field-first n h fs) e)
    by (inr d) later = put (p n) d (later (sym (get_field-later k n h fs d) ∙ e))

pub only_number : (k low : ℕ) (fs : Fields) → RisesFrom low fs → fields_only (λ n. n == k) fs ≡ single k (get_field k fs)
only_number k low no_fields w = refl
only_number k low (field n h fs) w = by (equal_or_not k n) (only_number k (n + 1) fs w.1)
  where
    by : (k ≡ n) ⊎ (k ≢ n) → fields_only (λ i. i == k) fs ≡ single k (get_field k fs) → fields_only (λ i. i == k) (field n h fs) ≡ single k (get_field k (field n h fs))
    by (inl z) rest =
        let none : get_field k fs ≡ None = get_field-below k (n + 1) fs (omega (arith, z)) w.1 in
        let here : get_field k (field n h fs) ≡ Some h = ap (λ (i : ℕ). get_field i (field n h fs)) z ∙ get_field-first n h fs in
        let own : (n == k) ≡ true = ap (λ (i : ℕ). n == i) z ∙ self_equal n in
        ap (λ (b : Bool). if b then field n h (fields_only (λ i. i == k) fs) else fields_only (λ i. i == k) fs) own
        ∙ ap (field n h) (rest ∙ ap (single k) none) ∙ ap (λ (i : ℕ). field i h no_fields) (sym z) ∙ ap (single k) (sym here)
    by (inr d) rest =
        ap (λ (b : Bool). if b then field n h (fields_only (λ i. i == k) fs) else fields_only (λ i. i == k) fs) (not_equal n k (λ z. d (sym z)))
        ∙ rest ∙ ap (single k) (sym (get_field-later k n h fs d))

-- AT MOST ONE

-- at most one of the fields has a number that the test lets through
abbrev pub AtMostOne : (ℕ → Bool) → Fields → Type 0
AtMostOne p no_fields = Unit {0}
AtMostOne p (field n h fs) = (p n ≡ true → EachField (λ k x. p k ≡ false) fs) × AtMostOne p fs

only_none : (p : ℕ → Bool) (fs : Fields) → EachField (λ k x. p k ≡ false) fs → fields_only p fs ≡ no_fields
only_none p no_fields w = refl
only_none p (field n h fs) w = ap (λ (b : Bool). if b then field n h (fields_only p fs) else fields_only p fs) w.0 ∙ only_none p fs w.1

pub only_one : (p : ℕ → Bool) (fs : Fields) → AtMostOne p fs → (fields_only p fs ≡ no_fields) ⊎ ((n : ℕ) × (h : Holding) × (fields_only p fs ≡ field n h no_fields))
only_one p no_fields w = inl refl
only_one p (field n h fs) w = by (p n) refl (only_one p fs w.1)
  where
    by : (b : Bool) → p n ≡ b → (fields_only p fs ≡ no_fields) ⊎ ((k : ℕ) × (x : Holding) × (fields_only p fs ≡ field k x no_fields))
        → ((if b then field n h (fields_only p fs) else fields_only p fs) ≡ no_fields) ⊎ ((k : ℕ) × (x : Holding) × ((if b then field n h (fields_only p fs) else fields_only p fs) ≡ field k x no_fields))
    by true q rest = inr (n, h, ap (field n h) (only_none p fs (w.0 q)))
    by false q rest = rest

-- RECORDS

-- the records of each field, one field after another
abbrev pub records_by : (ℕ → Holding → List Record) → Fields → List Record
records_by R no_fields = []
records_by R (field k h fs) = R k h ++ records_by R fs

pub canon_by : (pool : Types) (all : List FieldView) (R : ℕ → Holding → List Record) (fs : Fields) → EachField (λ k h. by_field (field_numbered k all) (λ f. canon_holding pool f h) ≡ R k h) fs → canon_fields pool all fs ≡ records_by R fs
canon_by pool all R no_fields w = refl
canon_by pool all R (field k h fs) w = ap (λ (l : List Record). l ++ canon_fields pool all fs) w.0 ∙ ap (λ (l : List Record). R k h ++ l) (canon_by pool all R fs w.1)

-- a test of records that says the same of all records of a field
pub filter_only : (R : ℕ → Holding → List Record) (q : Record → Bool) (p : ℕ → Bool) (fs : Fields) → EachField (λ k h. AllByRecursion (λ r. q r ≡ p k) (R k h)) fs
    → filter q (records_by R fs) ≡ records_by R (fields_only p fs)
filter_only R q p no_fields w = refl
filter_only R q p (field k h fs) w = filter-append q (R k h) (records_by R fs) ∙ by (p k) w.0 (filter_only R q p fs w.1)
  where
    by : (b : Bool) → AllByRecursion (λ r. q r ≡ b) (R k h) → filter q (records_by R fs) ≡ records_by R (fields_only p fs)
        → filter q (R k h) ++ filter q (records_by R fs) ≡ records_by R (if b then field k h (fields_only p fs) else fields_only p fs)
    by true pass rest = ap (λ (l : List Record). l ++ filter q (records_by R fs)) (filter_all q (R k h) pass) ∙ ap (λ (l : List Record). R k h ++ l) rest
    by false fail rest = ap (λ (l : List Record). l ++ filter q (records_by R fs)) (filter_none q (R k h) fail) ∙ rest

pub all_records : (R : ℕ → Holding → List Record) (P : Record → Type 0) (fs : Fields) → EachField (λ k h. AllByRecursion P (R k h)) fs → AllByRecursion P (records_by R fs)
all_records R P no_fields w = tt
all_records R P (field k h fs) w = all_append P (R k h) (records_by R fs) w.0 (all_records R P fs w.1)

-- a fact of each field that is found by its number
pub each_found : (P : ℕ → Holding → Type 0) (low : ℕ) (fs : Fields) → RisesFrom low fs → ((k : ℕ) (h : Holding) → get_field k fs ≡ Some h → P k h) → EachField P fs
each_found P low no_fields w f = tt
each_found P low (field n h fs) w f = (f n h (get_field-first n h fs), each_found P (n + 1) fs w.1 later)
  where
    clash : {x : Holding} {o : Option Holding} → o ≡ None → o ≡ Some x → ⊥
    clash p q = cc

    later : (k : ℕ) (x : Holding) → get_field k fs ≡ Some x → P k x
    later k x e = by (equal_or_not k n)
      where
        by : (k ≡ n) ⊎ (k ≢ n) → P k x
        by (inl z) = absurd (clash (get_field-below k (n + 1) fs (omega (arith, z)) w.1) e)
        by (inr d) = f k x (get_field-later k n h fs d ∙ e)

-- what a test lets through passes it
pub each_passes : (p : ℕ → Bool) (fs : Fields) → EachField (λ k h. p k ≡ true) (fields_only p fs)
each_passes p no_fields = tt
each_passes p (field k h fs) = by (p k) refl (each_passes p fs)
  where
    by : (b : Bool) → p k ≡ b → EachField (λ i x. p i ≡ true) (fields_only p fs) → EachField (λ i x. p i ≡ true) (if b then field k h (fields_only p fs) else fields_only p fs)
    by true e rest = (e, rest)
    by false e rest = rest

pub each_both : (P Q : ℕ → Holding → Type 0) (fs : Fields) → EachField P fs → EachField Q fs → EachField (λ k h. P k h × Q k h) fs
each_both P Q no_fields v w = tt
each_both P Q (field k h fs) v w = ((v.0, w.0), each_both P Q fs v.1 w.1)
