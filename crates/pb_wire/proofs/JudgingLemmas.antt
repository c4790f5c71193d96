-- Bytes that are judged as records.
use Rattle.std.proofs.Common.{◌≡◌, ℕ, zero, suc, ◌+◌, ◌-◌, ◌<◌, ◌≤◌, List, [], ◌∷◌, ◌++◌, length, length-append, take, drop, refl, sym, ap, subst, ◌∙◌, arith, Option, Some, None, Bool, true, false, cond, nat_lt, Ok, Err, Result}
use Rattle.std.specs.Prelude.{reverse, filter, ◌==◌, map, if◌then◌else◌, IfOk, IfErr, MatchResult, IsErrAnd}
use Rattle.std.proofs.lemmas.List.{reverse-append, take_at, length-take}
use Rattle.std.proofs.lemmas.List.Elements.{filter-append}
use Rattle.std.proofs.lemmas.Bool.{eq-eqb, ne_eqb}
use Rattle.pb_wire.specs.Record.{Record, Payload}
use Rattle.pb_wire.specs.Spell.{AreRecords}
use Rattle.pb_wire.specs.Fault.{Fault, fault, step, Place, place, HasTag, Moves}
use Rattle.pb_wire.specs.Schema.{Schema}
use Rattle.pb_wire.specs.Limits.{Bounds}
use Rattle.pb_wire.specs.Rest.{Rest}
use Rattle.pb_wire.specs.RecordIter.{start}
use Rattle.pb_wire.specs.Exact.{IsSomeText}
use Rattle.pb_wire.specs.Grammar.{RecordFault, HasFault}
use Rattle.pb_wire.specs.Reading.{Front, ReadsAll, ReadsValue, BadRecord, BadFrom, IfFault, IfRawFault, opened}
use Rattle.pb_wire.specs.declared.fault.Cause.TheVariants.{TooDeep}
use Rattle.pb_wire.specs.declared.fault.PathStep.{PathStep}
use Rattle.pb_wire.specs.declared.fault.WireFault.{WireFault}
use Rattle.pb_wire.specs.declared.fault.ReadError.{ReadError}
use Rattle.pb_wire.specs.declared.fault.ReadError.TheVariants as errors
use Rattle.pb_wire.specs.declared.fault.RawError.{RawError}
use Rattle.pb_wire.specs.declared.fault.RawError.TheVariants as raw
use Rattle.pb_wire.proofs.ReadingLemmas.{bad_from, group_value}
use Rattle.pb_wire.proofs.ExactLemmas.{text_not_both, one_text_fault}

-- the bytes from one place to a later one
pub bytes_between : (b front : List ℕ) (at here : ℕ) → Moves (place b at) front (place b here) → front ≡ take (here - at) (drop at b)
bytes_between b front at here moves =
    let size : length front ≡ here - at = let e = moves.at in omega (arith, e) in
    sym (ap (take (here - at)) moves.given ∙ take_at front (drop here b) (here - at) size)

-- whole records lie between the places
pub records_between :
    (depth_left : ℕ) (b : List ℕ) (at here : ℕ) (rs : List Record) → Front depth_left (place b at) rs (place b here) → AreRecords rs (take (here - at) (drop at b))
records_between depth_left b at here rs front = subst (AreRecords rs) (bytes_between b front.spelled.0 at here front.spelled.2) front.spelled.1

-- a group that may not begin
pub too_deep_record :
    (depth_left k : ℕ) (p q : Place) (w : WireFault) (steps : List PathStep) → HasTag p k 3 q → depth_left ≡ 0 → steps ≡ [] → w ≡ record { byte = p.at; cause = TooDeep }
    → BadRecord depth_left k p steps w
too_deep_record depth_left k p q w steps tag none no_steps is = λ o before. rw (no_steps, is) (RecordFault.group_too_deep tag none refl)

-- a fault in a group
pub group_record :
    (depth_left k : ℕ) (p q : Place) (steps : List PathStep) (e : ReadError) → 0 < depth_left → HasTag p k 3 q → IfFault e (BadFrom (depth_left - 1) (Some k) q steps)
    → IfFault e (BadRecord depth_left k p steps)
group_record depth_left k p q steps errors.Memory some tag bad = tt
group_record zero k p q steps (errors.Fault w) some tag bad = absurd (omega arith)
group_record (suc n) k p q steps (errors.Fault w) some tag bad =
    let e : suc n - 1 ≡ n = omega arith in
    let inner = rw e at bad in
    λ o before. RecordFault.in_a_group tag inner refl

-- the records of a group, as its payload
pub group_read :
    (depth_left k : ℕ) (p q : Place) → 0 < depth_left → (rs : List Record) × ReadsAll (depth_left - 1) (Some k) p rs q → (payload : Payload) × ReadsValue depth_left k 3 p payload q
group_read depth_left k p q some (rs, all) = (_, group_value depth_left k p q rs some all)

-- a record has a fault, after a prefix of whole records
pub bad_behind :
    (innermost : Option ℕ) (b : List ℕ) (at here depth_left k : ℕ) (rs : List Record) (old new : List PathStep) (e : ReadError)
    → (innermost ≡ None → here < length b) → Front depth_left (place b at) rs (place b here)
    → new ≡ old ++ step k rs ∷ [] → IfFault e (BadRecord depth_left k (place b here) old) → IfFault e (BadFrom depth_left innermost (place b at) new)
bad_behind innermost b at here depth_left k rs old new errors.Memory goes front e bad = tt
bad_behind innermost b at here depth_left k rs old new (errors.Fault w) goes front e bad =
    let last : reverse new ≡ step k rs ∷ reverse old = ap reverse e ∙ reverse-append old (step k rs ∷ []) in
    rw last (bad_from innermost b at here depth_left rs (fault w.byte (step k rs ∷ reverse old) w.cause) goes front (bad (opened innermost) rs))

-- ---- how many records have a number

-- how many of these have the number
abbrev pub count : {A : Type 0} → (A → ℕ) → ℕ → List A → ℕ
count number k xs = length (filter (λ x. number x == k) xs)

-- it is determined by the field numbers alone
count_numbers : {A : Type 0} (number : A → ℕ) (k : ℕ) (xs : List A) → count number k xs ≡ count (λ n. n) k (map number xs)
count_numbers number k [] = refl
count_numbers {A} number k (x ∷ xs) = by_test (number x == k) (count_numbers number k xs)
  where
    these : List A
    these = filter (λ y. number y == k) xs

    those : List ℕ
    those = filter (λ n. n == k) (map number xs)

    by_test : (t : Bool) → length these ≡ length those → length (cond t (x ∷ these) these) ≡ length (cond t (number x ∷ those) those)
    by_test true e = ap suc e
    by_test false e = e

pub same_count_of :
    {A B : Type 0} (f : A → ℕ) (g : B → ℕ) (k : ℕ) (xs : List A) (ys : List B) → map f xs ≡ map g ys → count f k xs ≡ count g k ys
same_count_of f g k xs ys e = count_numbers f k xs ∙ ap (count (λ n. n) k) e ∙ sym (count_numbers g k ys)

count-push : {A : Type 0} (number : A → ℕ) (k : ℕ) (xs : List A) (x : A) → count number k (xs ++ x ∷ []) ≡ count number k xs + (if number x == k then 1 else 0)
count-push {A} number k xs x =
    ap length (filter-append (λ y. number y == k) xs (x ∷ [])) ∙ length-append (filter (λ y. number y == k) xs) (filter (λ y. number y == k) (x ∷ []))
    ∙ ap (λ (n : ℕ). count number k xs + n) (by_test (number x == k))
  where
    by_test : (t : Bool) → length (cond t (x ∷ []) []) ≡ (if t then 1 else 0)
    by_test true = refl
    by_test false = refl

pub count_one_more : {A : Type 0} (number : A → ℕ) (k : ℕ) (xs : List A) (x : A) → number x ≡ k → count number k (xs ++ x ∷ []) ≡ count number k xs + 1
count_one_more number k xs x is = count-push number k xs x ∙ ap (λ (t : Bool). count number k xs + (if t then 1 else 0)) (eq-eqb (number x) k is)

pub count_as_before : {A : Type 0} (number : A → ℕ) (k : ℕ) (xs : List A) (x : A) → (number x ≡ k → ⊥) → count number k (xs ++ x ∷ []) ≡ count number k xs
count_as_before number k xs x is_not = count-push number k xs x ∙ ap (λ (t : Bool). count number k xs + (if t then 1 else 0)) (ne_eqb (number x) k is_not) ∙ omega arith

-- no iterator gives more items than there are bytes and one
pub items_bound : (limits : Bounds) (b : List ℕ) (s : Rest) → s ≡ start limits b → length s.text - s.at + (if s.is_cut then 1 else 0) ≤ length b + 1
items_bound limits b s is = rw is (let n = length-take limits.bytes b in let one = at_most_one (nat_lt limits.bytes (length b)) in omega arith)
  where
    at_most_one : (t : Bool) → (if t then 1 else 0) ≤ 1
    at_most_one true = omega arith
    at_most_one false = omega arith

-- ---- what a judge's answer shows, if it is always right

-- a text is accepted
pub text_accepted :
    (S : Schema) (c : S.Context) (limits : Bounds) (b : List ℕ) (r : Result Unit RawError) → IfErr r (λ e. IfRawFault e (HasFault S c limits b))
    → IsSomeText S c limits b → MatchResult r (λ _. Unit {0}) (λ e. e ≡ raw.Memory)
text_accepted S c limits b (Ok u) fault text = tt
text_accepted S c limits b (Err raw.Memory) fault text = refl
text_accepted S c limits b (Err (raw.Fault byte path cause)) fault text = absurd (text_not_both fault text)

-- a fault is reported
pub fault_told :
    (S : Schema) (c : S.Context) (limits : Bounds) (b : List ℕ) (r : Result Unit RawError) → IfOk r (λ _. IsSomeText S c limits b)
    → IfErr r (λ e. IfRawFault e (HasFault S c limits b)) → (f : Fault) → HasFault S c limits b f → IsErrAnd r (λ e. IfRawFault e (λ g. g ≡ f))
fault_told S c limits b (Ok u) text fault f h = text_not_both h text
fault_told S c limits b (Err raw.Memory) text fault f h = tt
fault_told S c limits b (Err (raw.Fault byte path cause)) text fault f h = one_text_fault fault h
