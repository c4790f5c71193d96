-- The walk that looks for cycles.
use Rattle.std.proofs.Common.{◌≡◌, ◌≢◌, ℕ, zero, suc, ◌+◌, ◌-◌, ◌<◌, ◌≤◌, List, [], ◌∷◌, ◌++◌, true, ⊎_elim, length, set, replicate, refl, sym, ◌∙◌, ap, subst, arith, Contains, Option, Some, None, sum_by}
use Rattle.std.specs.Prelude.{slice_get}
use Rattle.std.specs.List.{AllByRecursion}
use Rattle.std.proofs.lemmas.List.{length-set, length-replicate, get_or-set_same, get_or-set_other}
use Rattle.std.proofs.lemmas.List.Sums.{sum_by_push}
use Rattle.std.proofs.lemmas.List.Elements.{All-contains, Contains-push, Contains-push_cases, Contains-append_left}
use Rattle.std.proofs.lemmas.Bool.{cases_eq}
use Rattle.pb_graphs.proofs.ReachLemmas.{next_within}
use Rattle.pb_graphs.proofs.ContainsLemmas.{Contains-none, Contains-first, Contains-later, Contains-cases}
use Rattle.pb_graphs.specs.declared.cycles.Progress.{Progress}
use Rattle.pb_graphs.specs.declared.cycles.Progress.TheVariants.{Unseen, Open, Done}
use Rattle.pb_graphs.specs.Reach.{next_of, begun, further, IsGraph}
use Rattle.pb_graphs.specs.Cycles.{LeadsOn}
use Rattle.pb_graphs.specs.Walks.{progress_of, AreDone, AreSettled, AnswersWalk}

some_same : {x y : ℕ} {o : Option ℕ} → o ≡ Some x → o ≡ Some y → x ≡ y
some_same p q = cc

none_some : {x : ℕ} → ◌≡◌ {A = Option ℕ} None (Some x) → ⊥
none_some p = cc

not_seen : {p : Progress} → p ≡ Unseen → p ≡ Done → ⊥
not_seen a b = cc

not_unseen : {p : Progress} → p ≡ Unseen → p ≡ Open → ⊥
not_unseen a b = cc

not_open : {p : Progress} → p ≡ Open → p ≡ Done → ⊥
not_open a b = cc

pub at_index : (xs : List ℕ) (i x : ℕ) → slice_get xs i ≡ Some x → Contains xs x
at_index [] i x e = absurd (none_some e)
at_index (y ∷ ys) zero x e = subst (Contains (y ∷ ys)) (some_same refl e) (Contains-first y ys)
at_index (y ∷ ys) (suc i) x e = Contains-later x y ys (at_index ys i x e)

index_within : (xs : List ℕ) (i x : ℕ) → slice_get xs i ≡ Some x → i < length xs
index_within [] i x e = absurd (none_some e)
index_within (y ∷ ys) zero x e = omega arith
index_within (y ∷ ys) (suc i) x e = let h : i < length ys = index_within ys i x e in omega arith

index_past : (xs : List ℕ) (i : ℕ) → slice_get xs i ≡ None → length xs ≤ i
index_past [] i e = omega arith
index_past (y ∷ ys) zero e = absurd (none_some (sym e))
index_past (y ∷ ys) (suc i) e = let h : length ys ≤ i = index_past ys i e in omega arith

-- the element with its index
place : (xs : List ℕ) (x : ℕ) → Contains xs x → (i : ℕ) × (i < length xs) × (slice_get xs i ≡ Some x)
place [] x h = Contains-none x h
place (y ∷ ys) x h =
    ⊎_elim (λ e. (zero, omega arith, ap Some e)) (λ later. let p = place ys x later in (suc p.0, omega (arith, p.1), p.2)) (Contains-cases x y ys h)

pub record Becomes (i : ℕ) (p : Progress) (old new : List Progress) : Type 0 where
  pub size : length new ≡ length old
  pub here : progress_of new i ≡ p
  pub others : (k : ℕ) → k ≢ i → progress_of new k ≡ progress_of old k

pub becomes-set : (i : ℕ) (p : Progress) (old : List Progress) → i < length old → Becomes i p old (set old i p)
becomes-set i p old h = record {
  size = length-set old i p;
  here = get_or-set_same old i p Unseen h;
  others = λ k ne. get_or-set_other old i k p Unseen ne;
}

-- one that wasn't done before a change of another kind stays as it was
still_done : (i : ℕ) (p : Progress) (old new : List Progress) → Becomes i p old new → (progress_of old i ≢ Done) → (k : ℕ) → progress_of old k ≡ Done → progress_of new k ≡ Done
still_done i p old new b was k done =
    ⊎_elim (λ e. absurd (was (subst (λ m. progress_of old m ≡ Done) e done))) (λ ne. b.others k ne ∙ done) (cases_eq k i)

-- THE PATH

-- what stands in the list of an index before a place is done
abbrev TargetsDone : List (List ℕ) → List Progress → ℕ → ℕ → Type 0
TargetsDone graph progress f n = (i j : ℕ) → i < n → slice_get (next_of graph f) i ≡ Some j → progress_of progress j ≡ Done

pub record IsEntry (graph : List (List ℕ)) (progress : List Progress) (e : ℕ × ℕ) : Type 0 where
  pub within : e.0 < length graph
  pub open_now : progress_of progress e.0 ≡ Open
  pub bound : e.1 ≤ length (next_of graph e.0)
  pub done : TargetsDone graph progress e.0 e.1

abbrev LeadsTo : List (List ℕ) → ℕ → (ℕ × ℕ) → Type 0
LeadsTo graph j e = LeadsOn graph e.0 j × (e.0 ≢ j)

-- each index of the path leads on to those after it, which are others
abbrev IsPath : List (List ℕ) → List (ℕ × ℕ) → Type 0
IsPath graph [] = Unit {0}
IsPath graph (e ∷ es) = AllByRecursion (λ d. LeadsTo graph d.0 e) es × IsPath graph es

all_push : {X : Type 0} (P : X → Type 0) (xs : List X) (x : X) → AllByRecursion P xs → P x → AllByRecursion P (xs ++ x ∷ [])
all_push P [] x all p = (p, tt)
all_push P (y ∷ ys) x all p = (all.0, all_push P ys x all.1 p)

all_front : {X : Type 0} (P : X → Type 0) (xs : List X) (x : X) → AllByRecursion P (xs ++ x ∷ []) → AllByRecursion P xs × P x
all_front P [] x all = (tt, all.0)
all_front P (y ∷ ys) x all = let rest = all_front P ys x all.1 in ((all.0, rest.0), rest.1)

path-push : (graph : List (List ℕ)) (es : List (ℕ × ℕ)) (j n : ℕ) → IsPath graph es → ((e : ℕ × ℕ) → Contains es e → LeadsTo graph j e) → IsPath graph (es ++ (j, n) ∷ [])
path-push graph [] j n path all = (tt, tt)
path-push graph (e ∷ es) j n path all = (
  all_push (λ (d : ℕ × ℕ). LeadsTo graph d.0 e) es (j, n) path.0 (all e (Contains-first e es)),
  path-push graph es j n path.1 (λ d at. all d (Contains-later d e es at)),
)

path-front : (graph : List (List ℕ)) (es : List (ℕ × ℕ)) (j n : ℕ) → IsPath graph (es ++ (j, n) ∷ []) → IsPath graph es × ((e : ℕ × ℕ) → Contains es e → LeadsTo graph j e)
path-front graph [] j n path = (tt, λ e at. Contains-none e at)
path-front graph (e ∷ es) j n path =
    let first = all_front (λ (d : ℕ × ℕ). LeadsTo graph d.0 e) es (j, n) path.0 in
    let rest = path-front graph es j n path.1 in (
      (first.0, rest.0),
      λ d at. ⊎_elim (λ is. subst (λ x. LeadsTo graph j x) is first.1) (λ later. rest.1 d later) (Contains-cases d e es at),
    )

-- The walk: what is done, the indexes of the path, and no other index is open.
pub record Walk (graph : List (List ℕ)) (progress : List Progress) (path : List (ℕ × ℕ)) : Type 0 where
  pub done : AreDone graph progress
  pub entries : (e : ℕ × ℕ) → Contains path e → IsEntry graph progress e
  pub leads : IsPath graph path
  pub open_ones : (k : ℕ) → progress_of progress k ≡ Open → (n : ℕ) × Contains path (k, n)

-- a target that wasn't seen goes onto the path
pub walk-push : (graph : List (List ℕ)) (old new : List Progress) (path : List (ℕ × ℕ)) (j : ℕ) → Walk graph old path → j < length graph → progress_of old j ≡ Unseen → ((e : ℕ × ℕ) → Contains path e → LeadsOn graph e.0 j) → Becomes j Open old new → Walk graph new (path ++ (j, 0) ∷ [])
walk-push graph old new path j w within was from b = record {
  done = record {
    size = b.size ∙ w.done.size;
    closed = λ i k e at. still k (w.done.closed i k (before i e) at);
    acyclic = λ i e. w.done.acyclic i (before i e);
  };
  entries = λ e at. ⊎_elim (λ old_one. kept e (w.entries e old_one)) (λ is. subst (IsEntry graph new) is this) (Contains-push_cases path (j, 0) e at);
  leads = path-push graph path j 0 w.leads (λ e at. (from e at, λ same. not_unseen was (subst (λ k. progress_of old k ≡ Open) same (w.entries e at).open_now)));
  open_ones = λ k e. ⊎_elim (λ same. (0, subst (λ m. Contains (path ++ (j, 0) ∷ []) (m, 0)) (sym same) (Contains-push path (j, 0)))) (λ ne. let p = w.open_ones k (sym (b.others k ne) ∙ e) in (p.0, Contains-append_left path ((j, 0) ∷ []) (k, p.0) p.1)) (cases_eq k j);
}
  where
    still : (k : ℕ) → progress_of old k ≡ Done → progress_of new k ≡ Done
    still = still_done j Open old new b (not_seen was)

    before : (k : ℕ) → progress_of new k ≡ Done → progress_of old k ≡ Done
    before k e = ⊎_elim (λ same. absurd (not_open b.here (subst (λ m. progress_of new m ≡ Done) same e))) (λ ne. sym (b.others k ne) ∙ e) (cases_eq k j)

    kept : (e : ℕ × ℕ) → IsEntry graph old e → IsEntry graph new e
    kept e is = record {
      within = is.within;
      open_now = b.others e.0 (λ same. not_unseen was (subst (λ k. progress_of old k ≡ Open) same is.open_now)) ∙ is.open_now;
      bound = is.bound;
      done = λ i k h at. still k (is.done i k h at);
    }

    this : IsEntry graph new (j, 0)
    this = record { within = within; open_now = b.here; bound = omega arith; done = λ i k h at. absurd (omega (arith, h)) }

-- a target that is done is passed
pub walk-advance : (graph : List (List ℕ)) (progress : List Progress) (path : List (ℕ × ℕ)) (f n j : ℕ) → Walk graph progress (path ++ (f, n) ∷ []) → slice_get (next_of graph f) n ≡ Some j → progress_of progress j ≡ Done → Walk graph progress (path ++ (f, n + 1) ∷ [])
walk-advance graph progress path f n j w at is =
    let top : IsEntry graph progress (f, n) = w.entries (f, n) (Contains-push path (f, n)) in
    let split = path-front graph path f n w.leads in
    let this : IsEntry graph progress (f, n + 1) = record {
      within = top.within;
      open_now = top.open_now;
      bound = omega (arith, index_within (next_of graph f) n j at);
      done = λ i k h get. ⊎_elim (λ same. subst (λ m. progress_of progress m ≡ Done) (some_same (subst (λ m. slice_get (next_of graph f) m ≡ Some j) (sym same) at) get) is) (λ ne. top.done i k (omega (arith, h, ne)) get) (cases_eq i n);
    } in
    record {
      done = w.done;
      entries = λ e h. ⊎_elim (λ old. w.entries e (Contains-append_left path ((f, n) ∷ []) e old)) (λ same. subst (IsEntry graph progress) same this) (Contains-push_cases path (f, n + 1) e h);
      leads = path-push graph path f (n + 1) split.0 split.1;
      open_ones = λ k e.
          let p = w.open_ones k e in
          ⊎_elim (λ old. (p.0, Contains-append_left path ((f, n + 1) ∷ []) (k, p.0) old)) (λ same. (n + 1, subst (λ m. Contains (path ++ (f, n + 1) ∷ []) (m, n + 1)) (ap (λ (x : ℕ × ℕ). x.0) same) (Contains-push path (f, n + 1)))) (Contains-push_cases path (f, n) (k, p.0) p.1);
    }

-- what an index leads on to is done where its targets are
all_done : (graph : List (List ℕ)) (progress : List Progress) (f j : ℕ) → AreDone graph progress → ((k : ℕ) → Contains (next_of graph f) k → progress_of progress k ≡ Done) → LeadsOn graph f j → progress_of progress j ≡ Done
all_done graph progress f j done targets (begun at) = targets j at
all_done graph progress f j done targets (further {k} r at) = done.closed k j (all_done graph progress f k done targets r) at

-- an index whose targets are done is done
pub walk-pop : (graph : List (List ℕ)) (old new : List Progress) (path : List (ℕ × ℕ)) (f n : ℕ) → Walk graph old (path ++ (f, n) ∷ []) → slice_get (next_of graph f) n ≡ None → Becomes f Done old new → Walk graph new path
walk-pop graph old new path f n w past b = record {
  done = record {
    size = b.size ∙ w.done.size;
    closed = λ i k e at. ⊎_elim (λ same. still k (targets k (subst (λ m. Contains (next_of graph m) k) same at))) (λ ne. still k (w.done.closed i k (sym (b.others i ne) ∙ e) at)) (cases_eq i f);
    acyclic = λ i e r. ⊎_elim (λ same. not_open top.open_now (all_done graph old f f w.done targets (subst (λ m. LeadsOn graph m m) same r))) (λ ne. w.done.acyclic i (sym (b.others i ne) ∙ e) r) (cases_eq i f);
  };
  entries = λ e at. kept e (split.1 e at) (w.entries e (Contains-append_left path ((f, n) ∷ []) e at));
  leads = split.0;
  open_ones = λ k e. ⊎_elim (λ same. absurd (not_open (subst (λ m. progress_of new m ≡ Open) same e) b.here)) (λ ne. others k ne (w.open_ones k (sym (b.others k ne) ∙ e))) (cases_eq k f);
}
  where
    top : IsEntry graph old (f, n)
    top = w.entries (f, n) (Contains-push path (f, n))

    split : IsPath graph path × ((e : ℕ × ℕ) → Contains path e → LeadsTo graph f e)
    split = path-front graph path f n w.leads

    still : (k : ℕ) → progress_of old k ≡ Done → progress_of new k ≡ Done
    still = still_done f Done old new b (λ e. not_open top.open_now e)

    targets : (k : ℕ) → Contains (next_of graph f) k → progress_of old k ≡ Done
    targets k at = let p = place (next_of graph f) k at in top.done p.0 k (omega (arith, p.1, index_past (next_of graph f) n past)) p.2

    kept : (e : ℕ × ℕ) → LeadsTo graph f e → IsEntry graph old e → IsEntry graph new e
    kept e leads is = record {
      within = is.within;
      open_now = b.others e.0 leads.1 ∙ is.open_now;
      bound = is.bound;
      done = λ i k h at. still k (is.done i k h at);
    }

    others : (k : ℕ) → k ≢ f → (m : ℕ) × Contains (path ++ (f, n) ∷ []) (k, m) → (m : ℕ) × Contains path (k, m)
    others k ne p = ⊎_elim (λ old_one. (p.0, old_one)) (λ same. absurd (ne (sym (ap (λ (x : ℕ × ℕ). x.0) same)))) (Contains-push_cases path (f, n) (k, p.0) p.1)

-- each index of the path leads on to the targets of the last one
pub walk-reaches : (graph : List (List ℕ)) (progress : List Progress) (path : List (ℕ × ℕ)) (f n j : ℕ) → Walk graph progress (path ++ (f, n) ∷ []) → slice_get (next_of graph f) n ≡ Some j → (e : ℕ × ℕ) → Contains (path ++ (f, n) ∷ []) e → LeadsOn graph e.0 j
walk-reaches graph progress path f n j w at e h =
    let there = at_index (next_of graph f) n j at in
    ⊎_elim (λ old. further ((path-front graph path f n w.leads).1 e old).0 there) (λ same. subst (λ (x : ℕ × ℕ). LeadsOn graph x.0 j) same (begun there)) (Contains-push_cases path (f, n) e h)

-- a target that is on the path leads back to itself
pub walk-cycle : (graph : List (List ℕ)) (progress : List Progress) (path : List (ℕ × ℕ)) (f n j : ℕ) → Walk graph progress (path ++ (f, n) ∷ []) → slice_get (next_of graph f) n ≡ Some j → progress_of progress j ≡ Open → LeadsOn graph j j
walk-cycle graph progress path f n j w at is =
    let p = w.open_ones j is in walk-reaches graph progress path f n j w at (j, p.0) p.1

pub walk-none : (graph : List (List ℕ)) (progress : List Progress) → AreSettled graph progress → Walk graph progress []
walk-none graph progress s = record {
  done = s.done;
  entries = λ e at. Contains-none e at;
  leads = tt;
  open_ones = λ k e. absurd (s.none_open k e);
}

pub walk-end : (graph : List (List ℕ)) (progress : List Progress) → Walk graph progress [] → AreSettled graph progress
walk-end graph progress w = record { done = w.done; none_open = λ k e. Contains-none (k, (w.open_ones k e).0) (w.open_ones k e).1 }

-- THE WORK THAT IS LEFT

abbrev weight : Progress → ℕ → ℕ
weight Unseen n = n + 2
weight Open n = 0
weight Done n = 0

-- of the indexes that were not seen
abbrev unseen_work : List (List ℕ) → List Progress → ℕ
unseen_work [] ps = 0
unseen_work (f ∷ fs) [] = 0
unseen_work (f ∷ fs) (p ∷ ps) = weight p (length f) + unseen_work fs ps

-- of an index of the path
abbrev entry_work : List (List ℕ) → (ℕ × ℕ) → ℕ
entry_work graph e = length (next_of graph e.0) + 1 - e.1

abbrev pub work : List (List ℕ) → List Progress → List (ℕ × ℕ) → ℕ
work graph progress path = unseen_work graph progress + sum_by (entry_work graph) path

unseen_work-becomes : (graph : List (List ℕ)) (ps : List Progress) (i : ℕ) (p : Progress) → i < length graph → i < length ps → unseen_work graph (set ps i p) + weight (progress_of ps i) (length (next_of graph i)) ≡ unseen_work graph ps + weight p (length (next_of graph i))
unseen_work-becomes [] ps i p h k = absurd (omega (arith, h))
unseen_work-becomes (f ∷ fs) [] i p h k = absurd (omega (arith, k))
unseen_work-becomes (f ∷ fs) (q ∷ ps) zero p h k = omega arith
unseen_work-becomes (f ∷ fs) (q ∷ ps) (suc i) p h k = let rest = unseen_work-becomes fs ps i p (omega (arith, h)) (omega (arith, k)) in omega (arith, rest)

pub work-push : (graph : List (List ℕ)) (ps : List Progress) (path : List (ℕ × ℕ)) (f n j : ℕ) → j < length graph → j < length ps → progress_of ps j ≡ Unseen → work graph (set ps j Open) (path ++ (f, n) ∷ [] ++ (j, 0) ∷ []) < work graph ps (path ++ (f, n) ∷ [])
work-push graph ps path f n j h k was =
    let less = unseen_work-becomes graph ps j Open h k in
    let two : ◌≡◌ {A = ℕ} (weight (progress_of ps j) (length (next_of graph j))) (length (next_of graph j) + 2) = ap (λ p. weight p (length (next_of graph j))) was in
    let more = sum_by_push (entry_work graph) (path ++ (f, n) ∷ []) (j, 0) in
    omega (arith, less, two, more)

pub work-advance : (graph : List (List ℕ)) (ps : List Progress) (path : List (ℕ × ℕ)) (f n j : ℕ) → slice_get (next_of graph f) n ≡ Some j → work graph ps (path ++ (f, n + 1) ∷ []) < work graph ps (path ++ (f, n) ∷ [])
work-advance graph ps path f n j at =
    omega (arith, sum_by_push (entry_work graph) path (f, n + 1), sum_by_push (entry_work graph) path (f, n), index_within (next_of graph f) n j at)

pub work-pop : (graph : List (List ℕ)) (ps : List Progress) (path : List (ℕ × ℕ)) (f n : ℕ) → Walk graph ps (path ++ (f, n) ∷ []) → work graph (set ps f Done) path < work graph ps (path ++ (f, n) ∷ [])
work-pop graph ps path f n w =
    let top : IsEntry graph ps (f, n) = w.entries (f, n) (Contains-push path (f, n)) in
    let less = unseen_work-becomes graph ps f Done top.within (omega (arith, top.within, w.done.size)) in
    let none : ◌≡◌ {A = ℕ} (weight (progress_of ps f) (length (next_of graph f))) 0 = ap (λ p. weight p (length (next_of graph f))) top.open_now in
    omega (arith, less, none, sum_by_push (entry_work graph) path (f, n), top.bound)

-- WHAT A WALK LEAVES

-- what was done stays so, and the start has been seen
pub record IsOnward (start : ℕ) (initial now : List Progress) : Type 0 where
  pub kept : (k : ℕ) → progress_of initial k ≡ Done → progress_of now k ≡ Done
  pub seen : progress_of now start ≢ Unseen

pub onward-becomes : (start i : ℕ) (p : Progress) (initial old new : List Progress) → IsOnward start initial old → progress_of old i ≢ Done → p ≢ Unseen → Becomes i p old new → IsOnward start initial new
onward-becomes start i p initial old new on was seen b = record {
  kept = λ k e. still_done i p old new b was k (on.kept k e);
  seen = λ e. ⊎_elim (λ same. seen (sym b.here ∙ subst (λ m. progress_of new m ≡ Unseen) same e)) (λ ne. on.seen (sym (b.others start ne) ∙ e)) (cases_eq start i);
}

open_seen : Open ≢ Unseen
open_seen e = cc

done_seen : Done ≢ Unseen
done_seen e = cc

pub onward-start : (start : ℕ) (initial : List Progress) → start < length initial → progress_of initial start ≡ Unseen → IsOnward start initial (set initial start Open)
onward-start start initial h was = record {
  kept = λ k e. still_done start Open initial (set initial start Open) (becomes-set start Open initial h) (not_seen was) k e;
  seen = λ e. open_seen (sym (becomes-set start Open initial h).here ∙ e);
}

pub onward-push : (start j : ℕ) (initial old : List Progress) → IsOnward start initial old → j < length old → progress_of old j ≡ Unseen → IsOnward start initial (set old j Open)
onward-push start j initial old on h was = onward-becomes start j Open initial old (set old j Open) on (not_seen was) open_seen (becomes-set j Open old h)

pub onward-pop : (graph : List (List ℕ)) (path : List (ℕ × ℕ)) (start f n : ℕ) (initial old : List Progress) → Walk graph old (path ++ (f, n) ∷ []) → IsOnward start initial old → IsOnward start initial (set old f Done)
onward-pop graph path start f n initial old w on =
    let top : IsEntry graph old (f, n) = w.entries (f, n) (Contains-push path (f, n)) in
    onward-becomes start f Done initial old (set old f Done) on (not_open top.open_now) done_seen (becomes-set f Done old (omega (arith, top.within, w.done.size)))

done_at_last : (p : Progress) → p ≢ Unseen → p ≢ Open → p ≡ Done
done_at_last Unseen a b = absurd (a refl)
done_at_last Open a b = absurd (b refl)
done_at_last Done a b = refl

pub walk-answers : (graph : List (List ℕ)) (start : ℕ) (initial now : List Progress) (path : List (ℕ × ℕ)) → length path ≡ 0 → Walk graph now path → IsOnward start initial now → AnswersWalk graph start initial now true
walk-answers graph start initial now [] e w on =
    let settled = walk-end graph now w in (settled, done_at_last (progress_of now start) on.seen (settled.none_open start), on.kept)
walk-answers graph start initial now (x ∷ xs) e w on = absurd (omega (arith, e))

none_seen : (n k : ℕ) → progress_of (replicate n Unseen) k ≡ Unseen
none_seen zero k = refl
none_seen (suc n) zero = refl
none_seen (suc n) (suc k) = none_seen n k

pub settled-none : (graph : List (List ℕ)) → AreSettled graph (replicate (length graph) Unseen)
settled-none graph = record {
  done = record {
    size = length-replicate (length graph) Unseen;
    closed = λ i j e at. absurd (not_seen (none_seen (length graph) i) e);
    acyclic = λ i e. absurd (not_seen (none_seen (length graph) i) e);
  };
  none_open = λ i e. not_unseen (none_seen (length graph) i) e;
}

-- an index that leads to another is there
reaching_is_there : (graph : List (List ℕ)) (i j : ℕ) → LeadsOn graph i j → i < length graph
reaching_is_there graph i j (begun at) = has_targets graph i j at
  where
    has_targets : (fs : List (List ℕ)) (k m : ℕ) → Contains (next_of fs k) m → k < length fs
    has_targets [] k m h = Contains-none m h
    has_targets (f ∷ fs) zero m h = omega arith
    has_targets (f ∷ fs) (suc k) m h = let rest : k < length fs = has_targets fs k m h in omega arith
reaching_is_there graph i j (further {k} r at) = reaching_is_there graph i k r

pub no_cycle : (graph : List (List ℕ)) (progress : List Progress) → AreSettled graph progress → ((k : ℕ) → k < length graph → progress_of progress k ≡ Done) → (i : ℕ) → ¬ LeadsOn graph i i
no_cycle graph progress s all i r = s.done.acyclic i (all i (reaching_is_there graph i i r)) r

pub top_of : (graph : List (List ℕ)) (progress : List Progress) (path : List (ℕ × ℕ)) (f n : ℕ) → Walk graph progress (path ++ (f, n) ∷ []) → IsEntry graph progress (f, n)
top_of graph progress path f n w = w.entries (f, n) (Contains-push path (f, n))

pub walk-start : (graph : List (List ℕ)) (progress : List Progress) (start : ℕ) → AreSettled graph progress → start < length graph → progress_of progress start ≡ Unseen → Walk graph (set progress start Open) ((start, 0) ∷ [])
walk-start graph progress start settled within was =
    walk-push graph progress (set progress start Open) [] start (walk-none graph progress settled) within was (λ e at. Contains-none e at) (becomes-set start Open progress (omega (arith, within, settled.done.size)))

-- a target is an index of the graph
pub target_is_there : (graph : List (List ℕ)) (f n j : ℕ) → IsGraph graph → slice_get (next_of graph f) n ≡ Some j → j < length graph
target_is_there graph f n j ok at = All-contains (λ k. k < length graph) (next_of graph f) j (next_within graph f (length graph) ok refl) (at_index (next_of graph f) n j at)
