-- The member of a oneof that is set, found among the numbers of its members.
use Rattle.std.proofs.Common.{◌≡◌, ◌≢◌, ℕ, zero, suc, ◌+◌, ◌<◌, ◌≤◌, List, [], ◌∷◌, ◌++◌, map, length, take, get_or, Option, Some, None, Ordering, Less, Equal, Greater, nat_cmp, refl, sym, ◌∙◌, ap, subst, arith}
use Rattle.std.specs.Prelude.{Bool, true, false, ◌==◌, if◌then◌else◌, is_some, slice_get}
use Rattle.std.specs.List.{AllByRecursion}
use Rattle.std.specs.Ordering.{match_ordering, MatchOrdering}
use Rattle.std.specs.Cmp.{ranks}
use Rattle.std.proofs.lemmas.List.{take_more}
use Rattle.std.proofs.lemmas.Bool.{false≢true}
use Rattle.pb_schema.specs.Types.{FieldView, MessageView, Types, field_numbered, message_fields, fields_of_message}
use Rattle.pb_schema.specs.Rules.{IsPool, FieldNumbersDiffer}
use Rattle.pb_schema.specs.Names.{AllDiffer}
use Rattle.pb_schema.specs.Oneofs.{is_member, members, member_numbers}
use Rattle.pb_value.specs.Data.{Holding, Fields, no_fields, field, get_field}
use Rattle.pb_value.specs.WellFormed.{HasNoMember, HasOneMemberEach, oneof_at}
use Rattle.pb_value.specs.Oneof.{is_member_at, member_set}
use Rattle.pb_value.proofs.ChangeLemmas.{by_order, member-oneof_at}
use Rattle.pb_value.proofs.Options.{at_some}
use Rattle.pb_value.proofs.Numbers.{self_equal, number_is, not_equal}

-- no field of these numbers is set
abbrev pub NoneSet : Fields → List ℕ → Type 0
NoneSet fs ns = AllByRecursion (λ n. is_some (get_field n fs) ≡ false) ns

NoneSet-push : (fs : Fields) (ns : List ℕ) (n : ℕ) → NoneSet fs ns → is_some (get_field n fs) ≡ false → NoneSet fs (ns ++ n ∷ [])
NoneSet-push fs [] n none e = (e, tt)
NoneSet-push fs (k ∷ ks) n none e = (none.0, NoneSet-push fs ks n none.1 e)

pub NoneSet-more : (fs : Fields) (ns : List ℕ) (i : ℕ) → i < length ns → NoneSet fs (take i ns) → is_some (get_field (get_or ns i 0) fs) ≡ false → NoneSet fs (take (i + 1) ns)
NoneSet-more fs ns i h none e =
    subst (NoneSet fs) (sym (take_more ns i 0 h)) (NoneSet-push fs (take i ns) (get_or ns i 0) none e)

pub NoneSet-all : (fs : Fields) (ns : List ℕ) (i : ℕ) → length ns ≤ i → NoneSet fs (take i ns) → NoneSet fs ns
NoneSet-all fs [] i h none = tt
NoneSet-all fs (n ∷ ns) zero h none = absurd (omega (arith, h))
NoneSet-all fs (n ∷ ns) (suc i) h none = (none.0, NoneSet-all fs ns i (omega (arith, h)) none.1)

-- a set field of another number
no_member_get : (all : List FieldView) (o n : ℕ) (fs : Fields) → HasNoMember all o fs → is_some (get_field n fs) ≡ true → oneof_at all n ≢ Some o
no_member_get all o n no_fields none e = absurd (false≢true e)
no_member_get all o n (field k h fs) none e =
    by_place (nat_cmp n k) (ranks n k) e (no_member_get all o n fs none.1)
  where
    by_place : (z : Ordering) → MatchOrdering z (n < k) (n ≡ k) (k < n) → is_some (match_ordering z (get_field n fs) (Some h) (get_field n fs)) ≡ true → (is_some (get_field n fs) ≡ true → oneof_at all n ≢ Some o) → oneof_at all n ≢ Some o
    by_place Less r e later = later e
    by_place Equal r e later = λ q. none.0 (ap (oneof_at all) (sym r) ∙ q)
    by_place Greater r e later = later e

-- the member that is set is the one that is found
pub member_found : (all : List FieldView) (o n : ℕ) (fs : Fields) → HasOneMemberEach all fs → is_member_at o (field_numbered n all) ≡ true → is_some (get_field n fs) ≡ true → Some n ≡ member_set all o fs
member_found all o n no_fields one is e = absurd (false≢true e)
member_found all o n (field k h fs) one is e =
    by_place (nat_cmp n k) (ranks n k) e (member_found all o n fs one.1 is)
  where
    own : oneof_at all n ≡ Some o
    own = member-oneof_at all o n is

    first : n ≡ k → Some n ≡ (if is_member_at o (field_numbered k all) then Some k else member_set all o fs)
    first same = ap Some same ∙ sym (ap (λ b. if b then Some k else member_set all o fs) (ap (λ (i : ℕ). is_member_at o (field_numbered i all)) (sym same) ∙ is))

    by_member : (b : Bool) → is_member_at o (field_numbered k all) ≡ b → is_some (get_field n fs) ≡ true → (is_some (get_field n fs) ≡ true → Some n ≡ member_set all o fs) → Some n ≡ (if b then Some k else member_set all o fs)
    by_member true q e later = absurd (no_member_get all o n fs (at_some (oneof_at all k) (λ (p : ℕ). HasNoMember all p fs) o one.0 (member-oneof_at all o k q)) e own)
    by_member false q e later = later e

    by_place : (z : Ordering) → MatchOrdering z (n < k) (n ≡ k) (k < n) → is_some (match_ordering z (get_field n fs) (Some h) (get_field n fs)) ≡ true → (is_some (get_field n fs) ≡ true → Some n ≡ member_set all o fs) → Some n ≡ (if is_member_at o (field_numbered k all) then Some k else member_set all o fs)
    by_place Less r e later = by_member (is_member_at o (field_numbered k all)) refl e later
    by_place Equal r e later = first r
    by_place Greater r e later = by_member (is_member_at o (field_numbered k all)) refl e later

-- where no member is set there is none to be found
numbered_member : (all : List FieldView) (o n : ℕ) (P : ℕ → Type 0) → is_member_at o (field_numbered n all) ≡ true → AllByRecursion P (member_numbers o all) → P n
numbered_member [] o n P is each = absurd (false≢true is)
numbered_member (f ∷ fs) o n P is each = by_tests (f.number == n) refl (is_member o f.shape) refl (numbered_member fs o n P) is each
  where
    by_tests : (a : Bool) → (f.number == n) ≡ a → (b : Bool) → is_member o f.shape ≡ b → (is_member_at o (field_numbered n fs) ≡ true → AllByRecursion P (member_numbers o fs) → P n) → is_member_at o (if a then Some f else field_numbered n fs) ≡ true → AllByRecursion P (map (λ (g : FieldView). g.number) (if b then f ∷ members o fs else members o fs)) → P n
    by_tests true p true q later is each = subst P (number_is f.number n p) each.0
    by_tests true p false q later is each = absurd (false≢true (sym q ∙ is))
    by_tests false p true q later is each = later is each.1
    by_tests false p false q later is each = later is each

set_later : (n k : ℕ) (h : Holding) (fs : Fields) → is_some (get_field n (field k h fs)) ≡ false → is_some (get_field n fs) ≡ false
set_later n k h fs e = by_place (nat_cmp n k) e
  where
    by_place : (z : Ordering) → is_some (match_ordering z (get_field n fs) (Some h) (get_field n fs)) ≡ false → is_some (get_field n fs) ≡ false
    by_place Less e = e
    by_place Equal e = absurd (false≢true (sym e))
    by_place Greater e = e

none_later : (k : ℕ) (h : Holding) (fs : Fields) (ns : List ℕ) → NoneSet (field k h fs) ns → NoneSet fs ns
none_later k h fs [] none = tt
none_later k h fs (n ∷ ns) none = (set_later n k h fs none.0, none_later k h fs ns none.1)

set_here : (k : ℕ) (h : Holding) (fs : Fields) → is_some (get_field k (field k h fs)) ≡ true
set_here k h fs = by_order (λ (r : Option Holding). is_some r ≡ true) k k (get_field k fs) (Some h) (get_field k fs) (λ l. absurd (omega (arith, l))) (λ _. refl) (λ l. absurd (omega (arith, l)))

pub member_missing : (all : List FieldView) (o : ℕ) (fs : Fields) → NoneSet fs (member_numbers o all) → None ≡ member_set all o fs
member_missing all o no_fields none = refl
member_missing all o (field k h fs) none = by_member (is_member_at o (field_numbered k all)) refl (member_missing all o fs (none_later k h fs (member_numbers o all) none))
  where
    by_member : (b : Bool) → is_member_at o (field_numbered k all) ≡ b → None ≡ member_set all o fs → None ≡ (if b then Some k else member_set all o fs)
    by_member true q later = absurd (false≢true (sym (numbered_member all o k (λ n. is_some (get_field n (field k h fs)) ≡ false) q none) ∙ set_here k h fs))
    by_member false q later = later

-- each number of a member is that of a field that is a member

past_first : (g : FieldView) (gs fs : List FieldView) → AllByRecursion (λ n. g.number ≢ n) (map (λ (f : FieldView). f.number) fs) → AllByRecursion (λ f. field_numbered f.number gs ≡ Some f) fs → AllByRecursion (λ f. field_numbered f.number (g ∷ gs) ≡ Some f) fs
past_first g gs [] apart each = tt
past_first g gs (f ∷ fs) apart each =
    (ap (λ b. if b then Some g else field_numbered f.number gs) (not_equal g.number f.number apart.0) ∙ each.0, past_first g gs fs apart.1 each.1)

found_itself : (all : List FieldView) → AllDiffer (map (λ (f : FieldView). f.number) all) → AllByRecursion (λ f. field_numbered f.number all ≡ Some f) all
found_itself [] differ = tt
found_itself (g ∷ gs) differ =
    (ap (λ b. if b then Some g else field_numbered g.number gs) (self_equal g.number), past_first g gs gs differ.0 (found_itself gs differ.1))

members_among : (all : List FieldView) (o : ℕ) (fs : List FieldView) → AllByRecursion (λ f. field_numbered f.number all ≡ Some f) fs → AllByRecursion (λ n. is_member_at o (field_numbered n all) ≡ true) (member_numbers o fs)
members_among all o [] each = tt
members_among all o (f ∷ fs) each = by_member (is_member o f.shape) refl (members_among all o fs each.1)
  where
    by_member : (b : Bool) → is_member o f.shape ≡ b → AllByRecursion (λ n. is_member_at o (field_numbered n all) ≡ true) (member_numbers o fs) → AllByRecursion (λ n. is_member_at o (field_numbered n all) ≡ true) (map (λ (g : FieldView). g.number) (if b then f ∷ members o fs else members o fs))
    by_member true is later = (ap (is_member_at o) each.0 ∙ is, later)
    by_member false is later = later

at_place : (P : ℕ → Type 0) (ns : List ℕ) (i : ℕ) → AllByRecursion P ns → i < length ns → P (get_or ns i 0)
at_place P [] i each h = absurd (omega (arith, h))
at_place P (k ∷ ks) zero each h = each.0
at_place P (k ∷ ks) (suc i) each h = at_place P ks i each.1 (omega (arith, h))

pub named_member : (all : List FieldView) (o i : ℕ) → AllDiffer (map (λ (f : FieldView). f.number) all) → i < length (member_numbers o all) → is_member_at o (field_numbered (get_or (member_numbers o all) i 0) all) ≡ true
named_member all o i differ h = at_place (λ k. is_member_at o (field_numbered k all) ≡ true) (member_numbers o all) i (members_among all o all (found_itself all differ)) h

-- the fields of a message of a pool have numbers that differ
pub pool_differ : (pool : Types) (m : ℕ) → IsPool pool → m < length pool.messages → AllDiffer (map (λ (f : FieldView). f.number) (message_fields pool m))
pool_differ pool m ok h = of_message pool.messages m ok.fields.numbers_differ h
  where
    of_message : (ms : List MessageView) (m : ℕ) → AllByRecursion FieldNumbersDiffer ms → m < length ms → AllDiffer (map (λ (f : FieldView). f.number) (fields_of_message (slice_get ms m)))
    of_message [] m all h = absurd (omega (arith, h))
    of_message (t ∷ ts) zero all h = all.0
    of_message (t ∷ ts) (suc m) all h = of_message ts m all.1 (omega (arith, h))
