-- The walk over all declarations in order tells the least fault of all.
use Rattle.std.proofs.Common.{◌≡◌, ℕ, zero, suc, ◌+◌, ◌<◌, ◌≤◌, ◌⊎◌, inl, inr, List, [], ◌∷◌, Bool, true, false, not, ◌&&◌, Option, Some, None, refl, sym, ap, ◌∙◌, subst, arith, add-zero, zero-add, ⊎_elim}
use Rattle.std.specs.Prelude.{find, cond, slice_get, nat_le}
use Rattle.std.specs.List.{list_all}
use Rattle.std.proofs.lemmas.Bool.{false≢true, leb-true}
use Rattle.std.proofs.lemmas.Option.{none-some}
use Rattle.pb_link_rules.specs.declared.cause.LinkCause.{LinkCause}
use Rattle.pb_link_rules.specs.declared.cause.LinkCause.TheVariants as cause
use Rattle.pb_link_names.specs.Declarations.{Declaration}
use Rattle.pb_link_rules.specs.Rules.{World}
use Rattle.pb_link_rules.specs.CauseName.{cause_number}
use Rattle.pb_link_rules.specs.Link.{holds, NothingFails, FailsFirst, all_causes, first_cause, or_later, first_fault}

-- no cause has a greater number than one after it
abbrev is_rising : List LinkCause → Bool
is_rising [] = true
is_rising (c ∷ cs) = list_all (λ e. nat_le (cause_number c) (cause_number e)) cs && is_rising cs

-- the cause is among some
data IsAmong (c : LinkCause) : List LinkCause → Type 0 where
  first : {cs : List LinkCause} → IsAmong c (c ∷ cs)
  later : {e : LinkCause} {cs : List LinkCause} → IsAmong c cs → IsAmong c (e ∷ cs)

some_same : {A : Type 0} (a b : A) → Some a ≡ Some b → a ≡ b
some_same a b h = cc

and_left : (a b : Bool) → (a && b) ≡ true → a ≡ true
and_left true b h = refl
and_left false b h = h

and_right : (a b : Bool) → (a && b) ≡ true → b ≡ true
and_right true b h = h
and_right false b h = absurd (false≢true h)

all_among : (test : LinkCause → Bool) (cs : List LinkCause) (c : LinkCause) → list_all test cs ≡ true → IsAmong c cs → test c ≡ true
all_among test [] c all among = elim among [ ]
all_among test (x ∷ cs) c all (first) = and_left (test c) (list_all test cs) all
all_among test (x ∷ cs) c all (later among) = all_among test cs c (and_right (test x) (list_all test cs) all) among

abbrev Least : (LinkCause → Bool) → List LinkCause → LinkCause → Type 0
Least test cs c = (test c ≡ true) × ((e : LinkCause) → IsAmong e cs → test e ≡ true → cause_number c ≤ cause_number e)

first_least : (test : LinkCause → Bool) (x : LinkCause) (cs : List LinkCause) → is_rising (x ∷ cs) ≡ true → (e : LinkCause) → IsAmong e (x ∷ cs) → cause_number x ≤ cause_number e
first_least test x cs rising e (first) = omega arith
first_least test x cs rising e (later among) = leb-true (cause_number x) (cause_number e) (all_among (λ v. nat_le (cause_number x) (cause_number v)) cs e (and_left (list_all (λ v. nat_le (cause_number x) (cause_number v)) cs) (is_rising cs) rising) among)

later_least : (test : LinkCause → Bool) (x : LinkCause) (cs : List LinkCause) (c : LinkCause) → test x ≡ false → Least test cs c → (e : LinkCause) → IsAmong e (x ∷ cs) → test e ≡ true → cause_number c ≤ cause_number e
later_least test x cs c fails least e (first) passes = absurd (false≢true (sym fails ∙ passes))
later_least test x cs c fails least e (later among) passes = least.1 e among passes

find_step : (test : LinkCause → Bool) (x : LinkCause) (cs : List LinkCause) (c : LinkCause) (b : Bool) → test x ≡ b → cond b (Some x) (find test cs) ≡ Some c → is_rising (x ∷ cs) ≡ true → (find test cs ≡ Some c → Least test cs c) → Least test (x ∷ cs) c
find_step test x cs c true same found rising rest =
    let there : x ≡ c = some_same x c found in
    subst (λ v. Least test (x ∷ cs) v) there (same, λ e among passes. first_least test x cs rising e among)
find_step test x cs c false same found rising rest = ((rest found).0, later_least test x cs c same (rest found))

-- what is found passes, and no other that passes has a lesser number
find_least : (test : LinkCause → Bool) (cs : List LinkCause) (c : LinkCause) → find test cs ≡ Some c → is_rising cs ≡ true → (test c ≡ true) × ((e : LinkCause) → IsAmong e cs → test e ≡ true → cause_number c ≤ cause_number e)
find_least test [] c found rising = absurd (none-some c found)
find_least test (x ∷ cs) c found rising = find_step test x cs c (test x) refl found rising (λ later. find_least test cs c later (and_right (list_all (λ v. nat_le (cause_number x) (cause_number v)) cs) (is_rising cs) rising))

-- where nothing is found, nothing passes
find_none : (test : LinkCause → Bool) (cs : List LinkCause) → find test cs ≡ None → (e : LinkCause) → IsAmong e cs → test e ≡ false
find_none test [] none e among = elim among [ ]
find_none test (x ∷ cs) none e among = step (test x) refl none e among (λ rest. find_none test cs rest)
  where
    step : (b : Bool) → test x ≡ b → cond b (Some x) (find test cs) ≡ None → (e : LinkCause) → IsAmong e (x ∷ cs) → (find test cs ≡ None → (v : LinkCause) → IsAmong v cs → test v ≡ false) → test e ≡ false
    step true same none e among rest = absurd (none-some x (sym none))
    step false same none e (first) rest = same
    step false same none e (later among) rest = rest none e among

every_cause : (c : LinkCause) → IsAmong c all_causes
every_cause cause.TwoFiles = first
every_cause cause.MissingImport = later first
every_cause cause.ImportCycle = later (later first)
every_cause cause.BadName = later (later (later first))
every_cause cause.NameTaken = later (later (later (later first)))
every_cause cause.NotFound = later (later (later (later (later first))))
every_cause cause.NotVisible = later (later (later (later (later (later first)))))
every_cause cause.NotAType = later (later (later (later (later (later (later first))))))
every_cause cause.BadNumber = later (later (later (later (later (later (later (later first)))))))
every_cause cause.NumberTaken = later (later (later (later (later (later (later (later (later first))))))))
every_cause cause.Reserved = later (later (later (later (later (later (later (later (later (later first)))))))))
every_cause cause.BadOneof = later (later (later (later (later (later (later (later (later (later (later first))))))))))
every_cause cause.BadMap = later (later (later (later (later (later (later (later (later (later (later (later first)))))))))))
every_cause cause.BadPacked = later (later (later (later (later (later (later (later (later (later (later (later (later first))))))))))))
every_cause cause.BadEnum = later (later (later (later (later (later (later (later (later (later (later (later (later (later first)))))))))))))
every_cause cause.KindMismatch = later (later (later (later (later (later (later (later (later (later (later (later (later (later (later first))))))))))))))
every_cause cause.BadRange = later (later (later (later (later (later (later (later (later (later (later (later (later (later (later (later first)))))))))))))))
every_cause cause.ClosedEnum = later (later (later (later (later (later (later (later (later (later (later (later (later (later (later (later (later first))))))))))))))))

not_false : (b : Bool) → not b ≡ true → b ≡ false
not_false true h = absurd (false≢true h)
not_false false h = refl

not_true : (b : Bool) → b ≡ false → not b ≡ true
not_true b h = ap not h

pub not_fails : (b : Bool) → not b ≡ false → b ≡ true
not_fails true h = refl
not_fails false h = absurd (false≢true (sym h))

-- the least cause at a place
pub first_cause-least : (w : World) (place : ℕ) (d : Declaration) (c : LinkCause) → first_cause w place d ≡ Some c → (holds w place d c ≡ false) × ((e : LinkCause) → holds w place d e ≡ false → cause_number c ≤ cause_number e)
first_cause-least w place d c told =
    let least = find_least (λ e. not (holds w place d e)) all_causes c told refl in
    (not_false (holds w place d c) least.0, λ e fails. least.1 e (every_cause e) (not_true (holds w place d e) fails))

pub first_cause-none : (w : World) (place : ℕ) (d : Declaration) → first_cause w place d ≡ None → (e : LinkCause) → holds w place d e ≡ true
first_cause-none w place d told e = not_fails (holds w place d e) (find_none (λ v. not (holds w place d v)) all_causes told e (every_cause e))

-- of some declarations, which stand at a place and after it, a rule fails first at an index, with this cause
pub record IsEarliest (w : World) (place : ℕ) (ds : List Declaration) (at : ℕ) (c : LinkCause) : Type 0 where
  pub declaration : Declaration
  pub there : slice_get ds at ≡ Some declaration
  pub fails : holds w (place + at) declaration c ≡ false
  pub earliest : (i : ℕ) (e : LinkCause) (d : Declaration) → slice_get ds i ≡ Some d → holds w (place + i) d e ≡ false → (at < i) ⊎ ((at ≡ i) × (cause_number c ≤ cause_number e))

pub walk_told : (w : World) (place : ℕ) (ds : List Declaration) (p : ℕ) (c : LinkCause) → first_fault w place ds ≡ Some (p, c) → (at : ℕ) × (p ≡ place + at) × IsEarliest w place ds at c
walk_told w place [] p c told = absurd (none-some (p, c) told)
walk_told w place (d ∷ ds) p c told = step (first_cause w place d) refl told (λ later. walk_told w (place + 1) ds p c later)
  where
    here : (e : LinkCause) → first_cause w place d ≡ Some e → (p : ℕ) → (c : LinkCause) → place ≡ p → e ≡ c → IsEarliest w place (d ∷ ds) 0 c
    here e same p c at that = subst (λ v. IsEarliest w place (d ∷ ds) 0 v) that (record {
      declaration = d;
      there = refl;
      fails = subst (λ n. holds w n d e ≡ false) (sym (add-zero place)) (first_cause-least w place d e same).0;
      earliest = none_before e same;
    })
      where
        none_before : (e : LinkCause) → first_cause w place d ≡ Some e → (i : ℕ) (v : LinkCause) (b : Declaration) → slice_get (d ∷ ds) i ≡ Some b → holds w (place + i) b v ≡ false → (0 < i) ⊎ ((0 ≡ i) × (cause_number e ≤ cause_number v))
        none_before e same zero v b there fails =
            inr (refl, (first_cause-least w place d e same).1 v (subst (λ n. holds w n d v ≡ false) (add-zero place) (subst (λ x. holds w (place + 0) x v ≡ false) (sym (some_same d b there)) fails)))
        none_before e same (suc i) v b there fails = inl (omega arith)

    further : first_cause w place d ≡ None → (at : ℕ) → IsEarliest w (place + 1) ds at c → IsEarliest w place (d ∷ ds) (suc at) c
    further same at rest = record {
      declaration = rest.declaration;
      there = rest.there;
      fails = subst (λ n. holds w n rest.declaration c ≡ false) (move at) rest.fails;
      earliest = none_before;
    }
      where
        move : (i : ℕ) → place + 1 + i ≡ place + suc i
        move i = omega arith

        none_before : (i : ℕ) (v : LinkCause) (b : Declaration) → slice_get (d ∷ ds) i ≡ Some b → holds w (place + i) b v ≡ false → (suc at < i) ⊎ ((suc at ≡ i) × (cause_number c ≤ cause_number v))
        none_before zero v b there fails =
            absurd (false≢true (sym fails ∙ subst (λ x. holds w (place + 0) x v ≡ true) (some_same d b there) (subst (λ n. holds w n d v ≡ true) (sym (add-zero place)) (first_cause-none w place d same v))))
        none_before (suc i) v b there fails =
            ⊎_elim (λ less. inl (omega (arith, less))) (λ both. inr (ap suc both.0, both.1)) (rest.earliest i v b there (subst (λ n. holds w n b v ≡ false) (sym (move i)) fails))

    step : (o : Option LinkCause) → first_cause w place d ≡ o → or_later place o (first_fault w (place + 1) ds) ≡ Some (p, c) → (first_fault w (place + 1) ds ≡ Some (p, c) → (at : ℕ) × (p ≡ place + 1 + at) × IsEarliest w (place + 1) ds at c) → (at : ℕ) × (p ≡ place + at) × IsEarliest w place (d ∷ ds) at c
    step (Some e) same told rest =
        let pair : (place, e) ≡ (p, c) = some_same (place, e) (p, c) told in
        (0, sym (ap (λ q. q.0) pair) ∙ sym (add-zero place), here e same p c (ap (λ q. q.0) pair) (ap (λ q. q.1) pair))
    step None same told rest = let r = rest told in (suc r.0, omega (arith, r.1), further same r.0 r.2)

pub walk_silent : (w : World) (place : ℕ) (ds : List Declaration) → first_fault w place ds ≡ None → (i : ℕ) (d : Declaration) → slice_get ds i ≡ Some d → (c : LinkCause) → holds w (place + i) d c ≡ true
walk_silent w place [] silent i d there c = absurd (none-some d there)
walk_silent w place (b ∷ ds) silent i d there c = step (first_cause w place b) refl silent i there (λ later. walk_silent w (place + 1) ds later)
  where
    step : (o : Option LinkCause) → first_cause w place b ≡ o → or_later place o (first_fault w (place + 1) ds) ≡ None → (i : ℕ) → slice_get (b ∷ ds) i ≡ Some d → (first_fault w (place + 1) ds ≡ None → (i : ℕ) (d : Declaration) → slice_get ds i ≡ Some d → (c : LinkCause) → holds w (place + 1 + i) d c ≡ true) → holds w (place + i) d c ≡ true
    step (Some e) same silent i there rest = absurd (none-some (place, e) (sym silent))
    step None same silent zero there rest = subst (λ x. holds w (place + 0) x c ≡ true) (some_same b d there) (subst (λ n. holds w n b c ≡ true) (sym (add-zero place)) (first_cause-none w place b same c))
    step None same silent (suc i) there rest = let move : place + 1 + i ≡ place + suc i = omega arith in subst (λ n. holds w n d c ≡ true) move (rest silent i d there c)

-- THE LAW: what the walk over all declarations tells is the least fault, and where it tells nothing, nothing fails

pub first_fault-first : (w : World) (p : ℕ) (c : LinkCause) → first_fault w 0 w.declared ≡ Some (p, c) → FailsFirst w p c
first_fault-first w p c told =
    let r = walk_told w 0 w.declared p c told in
    let same : r.0 ≡ p = omega (arith, r.1) in
    record {
      fails = (r.2.declaration, subst (λ n. slice_get w.declared n ≡ Some r.2.declaration) same r.2.there, subst (λ n. holds w n r.2.declaration c ≡ false) (sym r.1) r.2.fails);
      first = λ i e f. subst (λ n. (n < i) ⊎ ((n ≡ i) × (cause_number c ≤ cause_number e))) same (r.2.earliest i e f.0 f.1 (subst (λ n. holds w n f.0 e ≡ false) (sym (zero-add i)) f.2));
    }

pub first_fault-none : (w : World) → first_fault w 0 w.declared ≡ None → NothingFails w
first_fault-none w silent i c fails = false≢true (sym fails.2 ∙ subst (λ n. holds w n fails.0 c ≡ true) (zero-add i) (walk_silent w 0 w.declared silent i fails.0 fails.1 c))
