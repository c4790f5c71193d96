-- Groups that are open inside one another.
use Rattle.std.proofs.Common.{◌≡◌, ◌≢◌, ℕ, zero, suc, ◌+◌, ◌-◌, ◌<◌, List, [], ◌∷◌, length, take, drop, refl, ◌∙◌, arith, Some, reverse}
use Rattle.std.specs.Prelude.{slice_get}
use Rattle.std.proofs.lemmas.List.{take_more, reverse-append}
use Rattle.pb_wire.specs.Record.{Payload, group, Record, group_of}
use Rattle.pb_wire.specs.Fault.{Fault, fault, step, inside, HasTag, place}
use Rattle.pb_wire.specs.declared.fault.PathStep.{PathStep}
use Rattle.pb_wire.specs.Schema.{blank, in_group}
use Rattle.pb_wire.specs.Grammar.{Bad, RecordFault}
use Rattle.pb_wire.specs.Reading.{Front, ReadsValue}
use Rattle.pb_wire.proofs.Behind.{behind}
use Rattle.pb_wire.proofs.ReadingLemmas.{front_none, front_push, group_value}

-- the numbers without the innermost, where the list has it first
pub drop-reverse : (xs : List ℕ) (m n : ℕ) → m + 1 ≡ n → m < length xs → reverse (take m xs) ≡ drop 1 (reverse (take n xs))
drop-reverse xs m n e within = let last = take_more xs m 0 within in rw (← e) (rw last (rw reverse-append refl))

module _ (b : List ℕ) (outer depth start : ℕ) where
  -- Inside the group `outer`, whose inside begins at `start` and has `depth` levels left, the groups of these numbers are open, innermost
  -- first and the last of them `outer` itself. At each level whole sound records lead on to the next group's start tag, and at the
  -- innermost, which has `depth_left` levels left, to `here`.
  abbrev pub Nested : ℕ → List ℕ → ℕ → Type 0
  Nested depth_left [] here = ⊥
  Nested depth_left (k ∷ []) here = (k ≡ outer) × (depth_left ≡ depth) × (rs : List Record) × Front depth_left (place b start) rs (place b here)
  Nested depth_left (k ∷ j ∷ ks) here =
      (tag : ℕ) × (from : ℕ) × Nested (suc depth_left) (j ∷ ks) tag × HasTag (place b tag) k 3 (place b from)
      × (rs : List Record) × Front depth_left (place b from) rs (place b here)

  -- each open group takes one of the levels
  pub nested_room : (depth_left : ℕ) (ks : List ℕ) (here : ℕ) → Nested depth_left ks here → depth_left + length ks ≡ suc depth
  nested_room depth_left [] here h = absurd h
  nested_room depth_left (k ∷ []) here h = let e = h.1 in omega (arith, e)
  nested_room depth_left (k ∷ j ∷ ks) here h = let e = nested_room (suc depth_left) (j ∷ ks) h.0 h.2 in omega (arith, e)

  pub nested_first : Nested depth (outer ∷ []) start
  nested_first = (refl, refl, [], front_none depth b start)

  -- one whole record more
  pub nested_more :
      (depth_left : ℕ) (ks : List ℕ) (here l w from next : ℕ) (payload : Payload) → Nested depth_left ks here → HasTag (place b here) l w (place b from)
      → ReadsValue depth_left l w (place b from) payload (place b next) → Nested depth_left ks next
  nested_more depth_left [] here l w from next payload h tag value = absurd h
  nested_more depth_left (k ∷ []) here l w from next payload h tag value = (h.0, h.1, _, front_push h.2 payload h.3 tag value)
  nested_more depth_left (k ∷ j ∷ ks) here l w from next payload h tag value = (h.0, h.1, h.2, h.3, _, front_push h.4 payload h.5 tag value)

  -- one group more
  pub nested_push :
      (depth_left : ℕ) (ks : List ℕ) (here l from : ℕ) → Nested depth_left ks here → 0 < depth_left → HasTag (place b here) l 3 (place b from)
      → Nested (depth_left - 1) (l ∷ ks) from
  nested_push depth_left [] here l from h some tag = absurd h
  nested_push zero (k ∷ ks) here l from h some tag = absurd (omega arith)
  nested_push (suc depth_left) (k ∷ ks) here l from h some tag =
      let e : suc depth_left - 1 ≡ depth_left = omega arith in rw e (here, from, h, tag, [], front_none depth_left b from)

  -- the innermost group ends, and others are open
  pub nested_pop :
      (depth_left : ℕ) (ks : List ℕ) (here k next : ℕ) → Nested depth_left ks here → slice_get ks 0 ≡ Some k → length ks ≢ 1
      → HasTag (place b here) k 4 (place b next) → Nested (suc depth_left) (drop 1 ks) next
  nested_pop depth_left [] here k next h first more tag = absurd h
  nested_pop depth_left (j ∷ []) here k next h first more tag = absurd (more refl)
  nested_pop depth_left (i ∷ j ∷ ks) here k next h first more tag =
      let same : k ≡ i = cc in
      let e : suc depth_left - 1 ≡ depth_left = omega arith in
      nested_more (suc depth_left) (j ∷ ks) h.0 i 3 h.1 next (group (group_of h.4)) h.2 h.3
      (group_value (suc depth_left) i (place b h.1) (place b next) h.4 (omega arith) (place b here, rw e h.5, (rw same at tag).tag))

  -- the outermost group ends
  pub nested_last :
      (depth_left : ℕ) (ks : List ℕ) (here k : ℕ) → Nested depth_left ks here → slice_get ks 0 ≡ Some k → length ks ≡ 1
      → (k ≡ outer) × (rs : List Record) × Front depth (place b start) rs (place b here)
  nested_last depth_left [] here k h first one = absurd h
  nested_last depth_left (j ∷ []) here k h first one = let same : k ≡ j = cc in (same ∙ h.0, h.2, rw h.1 at h.3)
  nested_last depth_left (i ∷ j ∷ ks) here k h first one = absurd (omega arith)

  faults :
      {before : List Record} (depth_left k : ℕ) (ks : List ℕ) (here : ℕ) (f : Fault) → Nested depth_left (k ∷ ks) here
      → RecordFault blank (in_group k tt) before depth_left (place b here) f
      → (path : List PathStep) × Bad blank (in_group outer tt) depth (place b start) (fault f.byte path f.cause)
  faults depth_left k [] here f h bad =
      let told = behind h.2 bad in
      let here : (path : List PathStep) × Bad blank (in_group k tt) depth_left (place b start) (fault f.byte path f.cause) =
      (told.0, Bad.at_record {o = in_group k tt} {depth_left = depth_left} (h.2, h.3.spelled.1, h.3.sound) h.3.spelled.2 (λ e. cc) told.1) in
      rw (h.0, h.1) at here
  faults depth_left k (j ∷ ks) here f h bad =
      let told = behind h.4 bad in
      faults {before = []} (suc depth_left) j ks h.0 (inside (step k []) (fault f.byte told.0 f.cause)) h.2
      (RecordFault.in_a_group h.3 (Bad.at_record (h.4, h.5.spelled.1, h.5.sound) h.5.spelled.2 (λ e. cc) told.1) refl)

  -- a fault in the innermost group, as a fault of the outermost
  pub nested_fault :
      {before : List Record} (depth_left : ℕ) (ks : List ℕ) (here k : ℕ) (f : Fault) → Nested depth_left ks here → slice_get ks 0 ≡ Some k
      → RecordFault blank (in_group k tt) before depth_left (place b here) f
      → (path : List PathStep) × Bad blank (in_group outer tt) depth (place b start) (fault f.byte path f.cause)
  nested_fault depth_left [] here k f h first bad = absurd h
  nested_fault depth_left (j ∷ ks) here k f h first bad = let same : k ≡ j = cc in faults depth_left j ks here f h (rw same at bad)
