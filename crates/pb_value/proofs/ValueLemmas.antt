-- The value of sound records in range is well formed, level by level.
use Rattle.std.proofs.Common.{◌≡◌, ℕ, zero, suc, ◌+◌, ◌<◌, ◌≤◌, List, [], ◌∷◌, arith, sym, ◌∙◌, subst, Option, Some, None, IfSome, IsSomeAnd}
use Rattle.std.specs.Prelude.{true, filter}
use Rattle.std.specs.List.{AllByRecursion}
use Rattle.pb_wire.specs.Record.{Record}
use Rattle.pb_wire.proofs.RangeLemmas.{spelled_in_range, spelled_writable}
use Rattle.pb_schema.specs.declared.types.Shape.{Shape}
use Rattle.pb_schema.specs.declared.types.Shape.TheVariants as shape
use Rattle.pb_schema.specs.Oneofs.{members}
use Rattle.pb_schema.specs.Types.{FieldView, MessageView, Types, message_fields, field_numbered}
use Rattle.pb_schema.specs.Rules.{IsPool, HasKeyKind, MayBeValue}
use Rattle.pb_schema.specs.Fits.{fits, fits_any}
use Rattle.pb_schema.specs.Closed.{known}
use Rattle.pb_schema.specs.Context.{a_message}
use Rattle.pb_value.specs.Data.{Holding, Fields, no_fields, field, Message, put_field, put_some, holding_depth, fields_depth, message_depth}
use Rattle.pb_value.specs.Value.{all_elements, counting, counting_as, held, fields_held, body_of, value_within, value}
use Rattle.pb_value.specs.WellFormed.{RisesFrom, oneof_at, HasNoMember, HasOneMemberEach, IsOfShape, IsHeld, AreFields, IsBody, IsWellFormed, holds_declared}
use Rattle.pb_value.specs.Meaning.{ValueIsWellFormed, DerivedIsWellFormed}
use Rattle.pb_value.proofs.ListLemmas.{all_weaker, all_filter, all_last_run}
use Rattle.pb_value.proofs.ChangeLemmas.{by_order, oneof_at-shape, RisesFrom-put_field, CanStand}
use Rattle.pb_value.proofs.JudgeLemmas.{fields_all, differ_at}
use Rattle.pb_value.proofs.FittingLemmas.{IsGood, AllGood, AllCount, all_good, all_count}
use Rattle.pb_value.proofs.HeldLemmas.{AllDeclared, IsStored, held-stored}
use Rattle.pb_value.proofs.KnownLemmas.{IsKnown, known-good, known-known, unknown-good, all_declared}
use Rattle.pb_value.proofs.Options.{if_some, at_some}
use Rattle.pb_value.proofs.Numbers.{found_each}
use Rattle.pb_value.proofs.OneMember.{last_number, member_last}

-- RECORDS THAT COUNT

module _ (pool : Types) (inner : ℕ → List Record → Message) where
  -- the records that count for a field are good and fit it
  pub counting_as-good :
      (t depth_left : ℕ) (s : Shape) (all : List FieldView) (f : FieldView) (rs : List Record) → AllGood pool (a_message t) depth_left rs
      → AllByRecursion (λ r. IsGood pool (a_message t) depth_left r × (fits f r ≡ true)) (counting_as inner s all f rs)
  counting_as-good t depth_left (shape.OneofMember o) all f rs h =
      all_last_run (IsGood pool (a_message t) depth_left) (fits f) (filter (fits_any (members o all)) rs)
      (all_weaker _ (IsGood pool (a_message t) depth_left) (λ r w. w.0) (filter (fits_any (members o all)) rs) (all_filter (IsGood pool (a_message t) depth_left) (fits_any (members o all)) rs h))
  counting_as-good t depth_left shape.Implicit all f rs h = all_filter (IsGood pool (a_message t) depth_left) (fits f) rs h
  counting_as-good t depth_left shape.Explicit all f rs h = all_filter (IsGood pool (a_message t) depth_left) (fits f) rs h
  counting_as-good t depth_left (shape.List p) all f rs h = all_filter (IsGood pool (a_message t) depth_left) (fits f) rs h
  counting_as-good t depth_left (shape.Map k) all f rs h = all_filter (IsGood pool (a_message t) depth_left) (fits f) rs h

  -- of a closed enum their values are declared
  pub counting-declared :
      (all : List FieldView) (f : FieldView) → field_numbered f.number all ≡ Some f → MayBeValue f.shape f.kind → (rs : List Record) → AllByRecursion (IsKnown pool all) rs
      → AllDeclared pool f.kind (all_elements f.kind (counting inner all f rs))
  counting-declared all f found may rs h = all_declared pool all f found may (counting inner all f rs) (each f.shape)
    where
      each : (s : Shape) → AllByRecursion (λ r. IsKnown pool all r × (fits f r ≡ true)) (counting_as inner s all f rs)
      each (shape.OneofMember o) =
          all_last_run (IsKnown pool all) (fits f) (filter (fits_any (members o all)) rs)
          (all_weaker _ (IsKnown pool all) (λ r w. w.0) (filter (fits_any (members o all)) rs) (all_filter (IsKnown pool all) (fits_any (members o all)) rs h))
      each shape.Implicit = all_filter (IsKnown pool all) (fits f) rs h
      each shape.Explicit = all_filter (IsKnown pool all) (fits f) rs h
      each (shape.List p) = all_filter (IsKnown pool all) (fits f) rs h
      each (shape.Map k) = all_filter (IsKnown pool all) (fits f) rs h

-- the keys and values of maps are of kinds that they may be of
pub keys_and_values : (pool : Types) (t : ℕ) → IsPool pool → AllByRecursion (λ f. HasKeyKind f.shape × MayBeValue f.shape f.kind) (message_fields pool t)
keys_and_values pool t rules =
    together (message_fields pool t) (fields_all (λ s f. HasKeyKind f.shape) pool pool.messages t rules.fields.shapes.keys) (fields_all (λ s f. MayBeValue f.shape f.kind) pool pool.messages t rules.fields.shapes.values)
  where
    together : (fs : List FieldView) → AllByRecursion (λ f. (s : MessageView) × HasKeyKind f.shape) fs → AllByRecursion (λ f. (s : MessageView) × MayBeValue f.shape f.kind) fs → AllByRecursion (λ f. HasKeyKind f.shape × MayBeValue f.shape f.kind) fs
    together [] a b = tt
    together (f ∷ fs) a b = ((a.0.1, b.0.1), together fs a.1 b.1)

-- FIELDS

-- a fact of each field
abbrev EachField : (ℕ → Holding → Type 0) → Fields → Type 0
EachField P no_fields = Unit {0}
EachField P (field n h fs) = P n h × EachField P fs

EachField-put_field : (P : ℕ → Holding → Type 0) (n : ℕ) (h : Holding) (fs : Fields) → P n h → EachField P fs → EachField P (put_field n h fs)
EachField-put_field P n h no_fields a w = (a, tt)
EachField-put_field P n h (field k g fs) a w =
    by_order (EachField P) n k _ _ _ (λ _. (a, w)) (λ e. (subst (λ (i : ℕ). P i h) e a, w.1)) (λ _. (w.0, EachField-put_field P n h fs a w.1))

EachField-put_some : (P : ℕ → Holding → Type 0) (n : ℕ) (o : Option Holding) (fs : Fields) → IfSome o (P n) → EachField P fs → EachField P (put_some n o fs)
EachField-put_some P n None fs a w = w
EachField-put_some P n (Some h) fs a w = EachField-put_field P n h fs a w

RisesFrom-put_some : (n : ℕ) (o : Option Holding) (fs : Fields) → RisesFrom 0 fs → RisesFrom 0 (put_some n o fs)
RisesFrom-put_some n None fs w = w
RisesFrom-put_some n (Some h) fs w = RisesFrom-put_field 0 n h fs (omega arith) w

-- A content that can stand at a number, this deep at most. Of a oneof it stands at the last number.
record Stands (pool : Types) (all : List FieldView) (top : ℕ) (last : ℕ → Option ℕ) (n : ℕ) (h : Holding) : Type 0 where
  allowed : CanStand pool all n h
  depth : holding_depth h ≤ top
  last_of_oneof : (o : ℕ) → oneof_at all n ≡ Some o → last o ≡ Some n

module _ (pool : Types) (all : List FieldView) (top : ℕ) (last : ℕ → Option ℕ) where
  AreFields-each : (fs : Fields) → EachField (Stands pool all top last) fs → AreFields pool all fs
  AreFields-each no_fields w = tt
  AreFields-each (field n h fs) w = (w.0.allowed, AreFields-each fs w.1)

  fields_depth-each : (fs : Fields) → EachField (Stands pool all top last) fs → fields_depth fs ≤ top
  fields_depth-each no_fields w = omega arith
  fields_depth-each (field n h fs) w = let here = w.0.depth in let more = fields_depth-each fs w.1 in omega (arith, here, more)

  no_other_member : (o n low : ℕ) (fs : Fields) → last o ≡ Some n → n < low → RisesFrom low fs → EachField (Stands pool all top last) fs → HasNoMember all o fs
  no_other_member o n low no_fields e l rises w = tt
  no_other_member o n low (field k g fs) e l rises w =
      let here = rises.0 in (
        λ q. let again = w.0.last_of_oneof o q in let same : n ≡ k = cc in omega (arith, same, here, l),
        no_other_member o n (k + 1) fs e (omega (arith, here, l)) rises.1 w.1,
      )

  HasOneMemberEach-each : (low : ℕ) (fs : Fields) → RisesFrom low fs → EachField (Stands pool all top last) fs → HasOneMemberEach all fs
  HasOneMemberEach-each low no_fields rises w = tt
  HasOneMemberEach-each low (field n h fs) rises w = (
    if_some (oneof_at all n) (λ (o : ℕ). HasNoMember all o fs) (λ o e. no_other_member o n (n + 1) fs (w.0.last_of_oneof o e) (omega arith) rises.1 w.1),
    HasOneMemberEach-each (n + 1) fs rises.1 w.1,
  )

-- ONE LEVEL

module _ (pool : Types) (rules : IsPool pool) (inner : ℕ → List Record → Message) (levels : ℕ)
    (inside : (m depth_left : ℕ) (rs : List Record) → depth_left < levels → AllGood pool (a_message m) depth_left rs → IsBody pool m (inner m rs) × (message_depth (inner m rs) ≤ depth_left)) where
  held-stands :
      (t depth_left : ℕ) (f : FieldView) (rs : List Record) → depth_left ≤ levels → field_numbered f.number (message_fields pool t) ≡ Some f → HasKeyKind f.shape × MayBeValue f.shape f.kind → AllGood pool (a_message t) depth_left rs
      → AllByRecursion (IsKnown pool (message_fields pool t)) rs
      → IfSome (held inner f (counting inner (message_fields pool t) f rs)) (Stands pool (message_fields pool t) depth_left (last_number (message_fields pool t) rs) f.number)
  held-stands t depth_left f rs l found key h is_known =
      let all = message_fields pool t in
      let cs = counting inner all f rs in
      let count : AllCount pool (a_message t) depth_left f.shape f.kind cs = all_count pool (a_message t) depth_left f found cs (counting_as-good pool inner t depth_left f.shape all f rs h) in
      let stored : IfSome (held inner f cs) (IsStored pool f.shape f.kind depth_left) = held-stored pool inner levels inside t depth_left f.shape f.kind cs l key.0 key.1 count (counting-declared pool inner all f found key.1 rs is_known) in
      if_some (held inner f cs) (Stands pool all depth_left (last_number all rs) f.number)
      (λ g e.
      let w : IsStored pool f.shape f.kind depth_left g = at_some (held inner f cs) (IsStored pool f.shape f.kind depth_left) g stored e in
      record {
        allowed = subst (λ (o : Option FieldView). IsSomeAnd o (λ x. IsOfShape x.shape g × IsHeld pool x.shape x.kind g × (holds_declared pool x.kind g ≡ true))) (sym found) (w.shaped, w.held, w.declared);
        depth = w.depth;
        last_of_oneof = λ o q. member_last inner f.shape f.kind all f rs g o (sym (oneof_at-shape all f.number f found) ∙ q) e;
      })

  fields_held-stand :
      (t depth_left : ℕ) (fs : List FieldView) (rs : List Record) → depth_left ≤ levels → AllByRecursion (λ f. field_numbered f.number (message_fields pool t) ≡ Some f) fs
      → AllByRecursion (λ f. HasKeyKind f.shape × MayBeValue f.shape f.kind) fs → AllGood pool (a_message t) depth_left rs → AllByRecursion (IsKnown pool (message_fields pool t)) rs
      → EachField (Stands pool (message_fields pool t) depth_left (last_number (message_fields pool t) rs)) (fields_held inner (message_fields pool t) fs rs)
      × RisesFrom 0 (fields_held inner (message_fields pool t) fs rs)
  fields_held-stand t depth_left [] rs l found keys h is_known = (tt, tt)
  fields_held-stand t depth_left (f ∷ fs) rs l found keys h is_known =
      let all = message_fields pool t in
      let more = fields_held-stand t depth_left fs rs l found.1 keys.1 h is_known in (
        EachField-put_some (Stands pool all depth_left (last_number all rs)) f.number (held inner f (counting inner all f rs)) (fields_held inner all fs rs) (held-stands t depth_left f rs l found.0 keys.0 h is_known) more.0,
        RisesFrom-put_some f.number (held inner f (counting inner all f rs)) (fields_held inner all fs rs) more.1,
      )

  body-good :
      (t depth_left : ℕ) (rs : List Record) → depth_left ≤ levels → AllGood pool (a_message t) depth_left rs
      → IsBody pool t (body_of inner pool (message_fields pool t) rs) × (message_depth (body_of inner pool (message_fields pool t) rs) ≤ depth_left)
  body-good t depth_left rs l h =
      let all = message_fields pool t in
      let ks = known pool all rs in
      let last = last_number all ks in
      let fs = fields_held inner all all ks in
      let w = fields_held-stand t depth_left all ks l (found_each all (differ_at pool pool.messages t rules.fields.numbers_differ)) (keys_and_values pool t rules) (known-good pool t depth_left all rs h) (known-known pool all rs) in
      let us = unknown-good pool t depth_left all rs h in
      let deep = fields_depth-each pool all depth_left last fs w.0 in (
        (AreFields-each pool all depth_left last fs w.0, w.1, HasOneMemberEach-each pool all depth_left last 0 fs w.1 w.0, us.0),
        omega (arith, deep, us.1),
      )

-- ALL LEVELS

pub within-good :
    (pool : Types) → IsPool pool → (levels m depth_left : ℕ) (rs : List Record) → depth_left < levels → AllGood pool (a_message m) depth_left rs
    → IsBody pool m (value_within pool levels m rs) × (message_depth (value_within pool levels m rs) ≤ depth_left)
unfolding value_within
within-good pool rules zero m depth_left rs l h = absurd (omega (arith, l))
within-good pool rules (suc levels) m depth_left rs l h =
    body-good pool rules (value_within pool levels) levels (λ n r ss. within-good pool rules levels n r ss) m depth_left rs (omega (arith, l)) h

pub value_is_well_formed : (pool : Types) → IsPool pool → ValueIsWellFormed pool
unfolding value
value_is_well_formed pool rules m depth rs l h =
    let good = within-good pool rules 101 m depth rs (omega (arith, l)) (all_good pool (a_message m) depth rs h.in_range h.writable h.sound) in
    record { parts = good.0; depth = omega (arith, l, good.1) }

pub derived_is_well_formed : (pool : Types) → IsPool pool → DerivedIsWellFormed pool
derived_is_well_formed pool rules m depth b v l bytes h =
    subst (IsWellFormed pool m) (sym h.valued)
    (value_is_well_formed pool rules m depth h.records l
    (record { in_range = spelled_in_range h.records b h.spelled bytes; writable = spelled_writable h.records b h.spelled; sound = h.sound }))
