-- From types of a comparison back to those with which it began, field by field.
use Rattle.std.proofs.Common.{◌≡◌, ℕ, zero, suc, ◌+◌, ◌≤◌, ◌<◌, length, List, [], ◌∷◌, Bool, true, false, ◌&&◌, Option, Some, None, IsSomeAnd, refl, sym, subst, arith, Contains}
use Rattle.std.specs.Prelude.{slice_get, is_some, nat_lt, IfOk, Result, Ok, Err, Vec}
use Rattle.std.specs.declared.alloc.AllocError.{AllocError}
use Rattle.std.specs.declared.alloc.Global.{Global}
use Rattle.std.proofs.lemmas.Bool.Decides.{nat_tests}
use Rattle.std.proofs.lemmas.Option.{slice_get_within}
use Rattle.pb_graphs.proofs.ContainsLemmas.{Contains-one}
use Rattle.pb_schema.specs.Rules.{IsPool}
use Rattle.pb_schema.specs.Types.{FieldView, Types, message_fields, field_numbered}
use Rattle.pb_value.specs.Data.{Message, message_depth}
use Rattle.pb_value.proofs.Options.{some_of}
use Rattle.pb_compat.specs.declared.difference.ComparedTypes.{ComparedTypes}
use Rattle.pb_compat.specs.declared.difference.Step.{Step}
use Rattle.pb_compat.specs.declared.pairs.Pairs.{Pairs}
use Rattle.pb_compat.specs.Agrees.{break_among}
use Rattle.pb_compat.specs.Fields.{differences_at}
use Rattle.pb_compat.specs.Nested.{AreLinked, IsReachedFrom, IsBuiltAt, IsBuiltRound, IsNestedWitness}
use Rattle.pb_compat.specs.Pairs.{leads, types_of, IsReachedBy, IsComparisonFrom}
use Rattle.pb_compat.specs.Walk.{pairs_of, IsWithin, AreCompared}
use Rattle.pb_compat.proofs.BuiltLemmas.{built_misread}
use Rattle.pb_compat.proofs.ComparedLemmas.{compared_all}
use Rattle.pb_compat.proofs.Lists.{all_got, contains_got}
use Rattle.pb_compat.proofs.RoundLemmas.{lead_of, round_built}
use Rattle.pb_compat.proofs.WitnessLemmas.{IsMisread, misread_shows}

-- THE PAIRS OF A COMPARISON

module _ (old new : Types) (starts : List (ℕ × ℕ)) where
  pub compared_linked : (ps : Pairs) (cs : List ComparedTypes) → AreCompared old new starts ps cs → slice_get (pairs_of ps) (length cs) ≡ None → AreLinked old new cs
  compared_linked ps cs compared ended = record {
    within = λ i c at. all_got (IsWithin old new) (pairs_of ps) i (types_of c) compared.walk.within (compared.pairs i c at);
    steps = λ i c s at by. let h = subst (IsReachedBy old new starts cs i c) by ((compared_all old new starts ps cs compared ended).steps i c at) in (h.1, h.2);
  }

  -- where the comparison began
  pub began_in : (cs : List ComparedTypes) → IsComparisonFrom old new starts cs → (start : ℕ × ℕ) (n i : ℕ) → IsReachedFrom cs start n i → Contains starts start
  began_in cs compared start zero i r =
      let c = some_of (slice_get cs i) (λ c. (c.reached_by ≡ None) × (types_of c ≡ start)) r in
      subst (Contains starts) c.2.1 (contains_got starts i (types_of c.0) (subst (IsReachedBy old new starts cs i c.0) c.2.0 (compared.steps i c.0 c.1)))
  began_in cs compared start (suc n) i r =
      let c = some_of (slice_get cs i) (λ c. IsSomeAnd c.reached_by (λ s. IsReachedFrom cs start n s.from)) r in
      let s = some_of c.0.reached_by (λ s. IsReachedFrom cs start n s.from) c.2 in
      began_in cs compared start n s.0.from s.2

pub began_with : (old new : Types) (first : ℕ × ℕ) (cs : List ComparedTypes) → IsComparisonFrom old new (first ∷ []) cs → (start : ℕ × ℕ) (n i : ℕ) → IsReachedFrom cs start n i → start ≡ first
began_with old new first cs compared start n i r = sym (Contains-one first start (began_in old new (first ∷ []) cs compared start n i r))

pub compared_began :
    (old new : Types) (first : ℕ × ℕ) (r : Result (Vec ComparedTypes Global) AllocError) → IfOk r (λ v. IsComparisonFrom old new (first ∷ []) v.items)
    → IfOk r (λ v. (start : ℕ × ℕ) (n i : ℕ) → IsReachedFrom v.items start n i → start ≡ first)
compared_began old new first (Ok v) h = began_with old new first v.items h
compared_began old new first (Err e) h = h

-- where a field leads to types of a comparison
module _ (old new : Types) (cs : List ComparedTypes) (linked : AreLinked old new cs) (at : ℕ) (c : ComparedTypes) (s : Step) (there : slice_get cs at ≡ Some c) (by : c.reached_by ≡ Some s) where
  pub step_within : s.from < length cs
  step_within =
      let d = some_of (slice_get cs s.from) (λ e. leads old new (types_of e) s.field ≡ Some (types_of c)) (linked.steps at c s there by).1 in
      slice_get_within cs s.from d.0 d.1

  pub step_field : (d : ComparedTypes) → slice_get cs s.from ≡ Some d → is_some (field_numbered s.field (message_fields old d.old.0)) ≡ true
  step_field d from =
      let e = some_of (slice_get cs s.from) (λ e. leads old new (types_of e) s.field ≡ Some (types_of c)) (linked.steps at c s there by).1 in
      let first = e.1 in
      let same : e.0 ≡ d = cc in
      let lead = lead_of old new d.old.0 d.new.0 s.field c.old.0 c.new.0 (subst (λ (x : ComparedTypes). leads old new (types_of x) s.field ≡ Some (types_of c)) same e.2) in
      subst (λ (o : Option FieldView). is_some o ≡ true) (sym lead.at.old_field) refl

-- CLIMBING

-- this many fields lead from the pair at an index to that at i
pub record IsClimb (cs : List ComparedTypes) (i fields at : ℕ) : Type 0 where
  pub onward : (start : ℕ × ℕ) (n : ℕ) → IsReachedFrom cs start n at → IsReachedFrom cs start (fields + n) i
  pub back : (start : ℕ × ℕ) (n : ℕ) → IsReachedFrom cs start n i → (rest : ℕ) × (n ≡ fields + rest) × IsReachedFrom cs start rest at

module _ (cs : List ComparedTypes) (i : ℕ) where
  climb_none : IsClimb cs i 0 i
  climb_none = record {
    onward = λ start n r. subst (λ (x : ℕ). IsReachedFrom cs start x i) (omega arith) r;
    back = λ start n r. (n, omega arith, r);
  }

  module _ (fields at : ℕ) (climb : IsClimb cs i fields at) (c : ComparedTypes) (there : slice_get cs at ≡ Some c) where
    climb_one : (s : Step) → c.reached_by ≡ Some s → IsClimb cs i (fields + 1) s.from
    climb_one s by = record {
      onward = λ start n r.
          let more : fields + suc n ≡ fields + 1 + n = omega arith in
          subst (λ (x : ℕ). IsReachedFrom cs start x i) more
          (climb.onward start (suc n)
          (subst (λ (o : Option ComparedTypes). IsSomeAnd o (λ d. IsSomeAnd d.reached_by (λ t. IsReachedFrom cs start n t.from))) (sym there)
          (subst (λ (o : Option Step). IsSomeAnd o (λ t. IsReachedFrom cs start n t.from)) (sym by) r)));
      back = λ start n r. let b = climb.back start n r in split start n b.0 b.1 b.2;
    }
      where
        split : (start : ℕ × ℕ) (n rest : ℕ) → n ≡ fields + rest → IsReachedFrom cs start rest at → (less : ℕ) × (n ≡ fields + 1 + less) × IsReachedFrom cs start less s.from
        split start n zero e r =
            let none = (subst (λ (o : Option ComparedTypes). IsSomeAnd o (λ d. (d.reached_by ≡ None) × (types_of d ≡ start))) there r).0 in
            absurd (cc)
        split start n (suc rest) e r = (
          rest,
          omega (arith, e),
          subst (λ (o : Option Step). IsSomeAnd o (λ t. IsReachedFrom cs start rest t.from)) by
              (subst (λ (o : Option ComparedTypes). IsSomeAnd o (λ d. IsSomeAnd d.reached_by (λ t. IsReachedFrom cs start rest t.from))) there r),
        )

    -- at the pair with which the comparison began
    climb_ended : c.reached_by ≡ None → IsReachedFrom cs (types_of c) fields i
    climb_ended none =
        let all : fields + zero ≡ fields = omega arith in
        subst (λ (x : ℕ). IsReachedFrom cs (types_of c) x i) all
        (climb.onward (types_of c) zero (subst (λ (o : Option ComparedTypes). IsSomeAnd o (λ d. (d.reached_by ≡ None) × (types_of d ≡ types_of c))) (sym there) (none, refl)))

    climb_all : c.reached_by ≡ None → (start : ℕ × ℕ) (n : ℕ) → IsReachedFrom cs start n i → n ≡ fields
    climb_all none start n r = let b = climb.back start n r in by b.0 b.1 b.2
      where
        by : (rest : ℕ) → n ≡ fields + rest → IsReachedFrom cs start rest at → n ≡ fields
        by zero e r = omega (arith, e)
        by (suc rest) e r =
            let some = subst (λ (o : Option ComparedTypes). IsSomeAnd o (λ d. IsSomeAnd d.reached_by (λ t. IsReachedFrom cs start rest t.from))) there r in
            absurd (subst (λ (o : Option Step). IsSomeAnd o (λ t. IsReachedFrom cs start rest t.from)) none some)

    climb_further : (s : Step) → c.reached_by ≡ Some s → (start : ℕ × ℕ) (n : ℕ) → IsReachedFrom cs start n i → fields + 1 ≤ n
    climb_further s by start n r = let b = (climb_one s by).back start n r in let e = b.1 in omega (arith, e)

-- WHAT IS BUILT ON THE WAY

-- a message of the pair at an index, round what was built for the pair at i
pub record IsBuiltUp (old new : Types) (cs : List ComparedTypes) (i k fields at : ℕ) (v : Message) : Type 0 where
  pub rules_old : IsPool old
  pub rules_new : IsPool new
  pub few : fields ≤ 99
  pub climb : IsClimb cs i fields at
  pub breaks : (c : ComparedTypes) → slice_get cs i ≡ Some c → break_among (differences_at old new c.old.0 c.new.0 k) ≡ true
  pub types : ComparedTypes
  pub there : slice_get cs at ≡ Some types
  pub depth : message_depth v ≤ fields + 1
  pub misread : IsMisread old new types.old.0 types.new.0 v

some_same : {X : Type 0} {x y : X} {o : Option X} → o ≡ Some x → o ≡ Some y → x ≡ y
some_same p q = cc

module _ (old new : Types) (cs : List ComparedTypes) (i k : ℕ) where
  pub built_first : IsPool old → IsPool new → (c : ComparedTypes) → slice_get cs i ≡ Some c → break_among (differences_at old new c.old.0 c.new.0 k) ≡ true → (v : Message) → IsBuiltAt old new c.old.0 c.new.0 k v
      → IsBuiltUp old new cs i k 0 i v
  built_first rules_old rules_new c at breaks v built =
      let p = built_misread old new rules_old rules_new c.old.0 c.new.0 k built.old_field built.new_field built.at v built.built in
      let deep = p.depth in
      record {
        rules_old = rules_old;
        rules_new = rules_new;
        few = omega arith;
        climb = climb_none cs i;
        breaks = λ d there. subst (λ (x : ComparedTypes). break_among (differences_at old new x.old.0 x.new.0 k) ≡ true) (some_same at there) breaks;
        types = c;
        there = at;
        depth = omega (arith, deep);
        misread = p.misread;
      }

  module _ (linked : AreLinked old new cs) (fields at : ℕ) (v : Message) (up : IsBuiltUp old new cs i k fields at v) (c : ComparedTypes) (there : slice_get cs at ≡ Some c) where
    pub built_next : (s : Step) → c.reached_by ≡ Some s → fields + 1 ≤ 99 → (d : ComparedTypes) → slice_get cs s.from ≡ Some d → (w : Message) → IsBuiltRound old new d.old.0 d.new.0 s.field v w
        → IsBuiltUp old new cs i k (fields + 1) s.from w
    built_next s by few d from w built =
        let same : up.types ≡ c = some_same up.there there in
        let step = some_of (slice_get cs s.from) (λ e. leads old new (types_of e) s.field ≡ Some (types_of c)) (linked.steps at c s there by).1 in
        let lead : leads old new (types_of d) s.field ≡ Some (types_of c) = subst (λ (x : ComparedTypes). leads old new (types_of x) s.field ≡ Some (types_of c)) (some_same step.1 from) step.2 in
        let misread : IsMisread old new c.old.0 c.new.0 v = subst (λ (x : ComparedTypes). IsMisread old new x.old.0 x.new.0 v) same up.misread in
        let deep = up.depth in
        let r = round_built old new up.rules_old up.rules_new d.old.0 d.new.0 s.field c.old.0 c.new.0 v w lead built misread (omega (arith, deep, few)) in
        let deeper = r.depth in
        record {
          rules_old = up.rules_old;
          rules_new = up.rules_new;
          few = few;
          climb = climb_one cs i fields at up.climb c there s by;
          breaks = up.breaks;
          types = d;
          there = from;
          depth = omega (arith, deep, deeper);
          misread = r.misread;
        }

    -- where the comparison began
    pub built_whole : c.reached_by ≡ None → IsNestedWitness old new cs i c.old.0 v
    built_whole none =
        let same : up.types ≡ c = some_same up.there there in
        let deep = up.depth in
        let few = up.few in
        let level : message_depth v ≤ 100 = omega (arith, deep, few) in
        record {
          fields = fields;
          start = types_of c;
          reached = climb_ended cs i fields at up.climb c there none;
          few = few;
          typed = refl;
          witness = misread_shows old new up.rules_old up.rules_new c.old.0 c.new.0 v (subst (λ (x : ComparedTypes). IsMisread old new x.old.0 x.new.0 v) same up.misread) level;
        }

    pub built_few : c.reached_by ≡ None → (start : ℕ × ℕ) (n : ℕ) → IsReachedFrom cs start n i → nat_lt n 100 ≡ true
    built_few none start n r = let all = climb_all cs i fields at up.climb c there none start n r in let few = up.few in below n (omega (arith, all, few))
      where
        below : (n : ℕ) → n < 100 → nat_lt n 100 ≡ true
        below n l = grind (arith, nat_tests)

    pub built_many : (s : Step) → c.reached_by ≡ Some s → fields ≡ 99 → (start : ℕ × ℕ) (n : ℕ) → IsReachedFrom cs start n i → nat_lt n 100 ≡ false
    built_many s by many start n r = let further = climb_further cs i fields at up.climb c there s by start n r in above n (omega (arith, many, further))
      where
        above : (n : ℕ) → 100 ≤ n → nat_lt n 100 ≡ false
        above n l = grind (arith, nat_tests)

pub none_shown : (b few : Bool) → few ≡ false → false ≡ (b && few)
none_shown true few e = sym e
none_shown false few e = refl

pub one_shown : (b few : Bool) → b ≡ true → few ≡ true → true ≡ (b && few)
one_shown true few h e = sym e
one_shown false few h e = absurd (cc)
