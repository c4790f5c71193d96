-- The messages that the call builds are well formed, and show the break.
use Rattle.std.proofs.Common.{◌≡◌, ◌≢◌, ℕ, ◌≤◌, [], Bool, true, false, not, ◌&&◌, Option, Some, None, Result, Ok, Err, IfOk, IfSome, IsSomeAnd, refl, sym, ◌∙◌, ap, subst, arith, inl, inr}
use Rattle.std.specs.Prelude.{IsTrue, ◌==◌}
use Rattle.pb_schema.specs.declared.types.Kind.{Kind}
use Rattle.pb_schema.specs.declared.types.Kind.TheVariants as kind
use Rattle.pb_schema.specs.declared.types.Shape.{Shape}
use Rattle.pb_schema.specs.declared.types.Shape.TheVariants as shape
use Rattle.pb_schema.specs.Kinds.{is_packable, is_key_kind, is_of_proto2}
use Rattle.pb_schema.specs.Rules.{IsPool, IsFieldOf, HasKeyKind, MayBePacked, MayBeValue}
use Rattle.pb_schema.specs.Scalar.{Scalar}
use Rattle.pb_schema.specs.Types.{FieldView, Types, message_fields, field_numbered}
use Rattle.pb_value.specs.Data.{Datum, scalar, message, Datums, no_datums, datum, Holding, one, list, map as map_of, no_fields, field, Message, body, put_field, message_depth}
use Rattle.pb_value.specs.WellFormed.{IsOfShape, IsDatum, key_of}
use Rattle.pb_value.proofs.BodyBack.{can_pack, numbers_differ}
use Rattle.pb_value.proofs.Numbers.{found_number, self_equal}
use Rattle.pb_value.proofs.Options.{some_of}
use Rattle.pb_compat.specs.Fields.{keeps_shape, is_list}
use Rattle.pb_compat.specs.Oneofs.{share_oneof}
use Rattle.pb_compat.specs.Samples.{IsValue, IsLostValue}
use Rattle.pb_compat.specs.Witness.{alone, IsContentOf, AreFieldsAt, is_one_by_one, partner_of, IsSettable, IsMadeOf, IsKeyOf, HoldsLost, IsLost, by_shape, by_key, by_values, IsPairOf, IsBuilt, of_one, of_two, IsWitness}
use Rattle.pb_compat.proofs.MapLemmas.{map_can, map_is_misread}
use Rattle.pb_compat.proofs.NeverLemmas.{implicit_default}
use Rattle.pb_compat.proofs.PackedLemmas.{packed_is_misread}
use Rattle.pb_compat.proofs.PairLemmas.{IsPairMisread, pair_is_misread}
use Rattle.pb_compat.proofs.PartnerLemmas.{partner_is}
use Rattle.pb_compat.proofs.ShownLemmas.{can_hold, one_is_misread, shape_is_misread}
use Rattle.pb_compat.proofs.FieldReadLemmas.{key_kinds, may_be_value}
use Rattle.pb_compat.proofs.WitnessLemmas.{CanHold, IsMisread, misread_shows}

-- FIELDS THAT ARE SET

pub settable : (pool : Types) (m n : ℕ) (f : FieldView) → IsPool pool → field_numbered n (message_fields pool m) ≡ Some f → IsFieldOf pool m f → IsSettable pool f
settable pool m n f rules found own = record { named = own.kind; key = own.key; unclosed = λ i. (implicit_default pool m n f rules found i).unclosed }

-- CONTENTS

-- a content that is made of a value and a key
pub content_made : (old : Types) (s : Shape) (k : Option Scalar) (d : Datum) (h : Holding) → IsKeyOf old s k → IsOfShape s h → IsMadeOf k d h → IsContentOf old s d h
content_made old s k d (one e) keyed shaped made = made
content_made old s k d (list ds) keyed shaped made = made
content_made old s k d (map_of es) keyed shaped made = by s keyed shaped
  where
    by : (s : Shape) → IsKeyOf old s k → IsOfShape s (map_of es) → IsContentOf old s d (map_of es)
    by (shape.Map key) keyed shaped = let under = some_of k (λ x. IsValue old key (scalar x)) keyed in let e = under.1 in let g = made.1 in let same : under.0 ≡ made.0 = cc in (made.0, subst (λ (x : Scalar). IsValue old key (scalar x)) same under.2, made.2)
    by shape.Implicit keyed shaped = absurd shaped
    by shape.Explicit keyed shaped = absurd shaped
    by (shape.OneofMember o) keyed shaped = absurd shaped
    by (shape.List p) keyed shaped = absurd shaped

-- ONE FIELD

key_of_proto3 : (key : Kind) → IsTrue (is_key_kind key) → is_of_proto2 key ≡ false
key_of_proto3 (kind.Enum i) can = refl
key_of_proto3 (kind.ClosedEnum i) can = absurd (cc)
key_of_proto3 (kind.Message i) can = absurd (cc)
key_of_proto3 (kind.Group i) can = absurd (cc)
key_of_proto3 key can = refl

module _ (old new : Types) (rules_old : IsPool old) (rules_new : IsPool new) (m n k : ℕ) (f g : FieldView) (at : AreFieldsAt old new m n k f g) where
  key_proto3 : (pool : Types) (i : ℕ) (x : FieldView) (key : Kind) → IsPool pool → field_numbered k (message_fields pool i) ≡ Some x → x.shape ≡ shape.Map key → is_of_proto2 key ≡ false
  key_proto3 pool i x key rules found maps = key_of_proto3 key (subst HasKeyKind maps (key_kinds pool i k x rules found))

  value_proto3 : (pool : Types) (i : ℕ) (x : FieldView) (key : Kind) → IsPool pool → field_numbered k (message_fields pool i) ≡ Some x → x.shape ≡ shape.Map key → is_of_proto2 x.kind ≡ false
  value_proto3 pool i x key rules found maps = subst (λ (s : Shape). MayBeValue s x.kind) maps (may_be_value pool i k x rules found)

  scalar_packed : (x : Datum) → is_packable f.kind ≡ true → IsDatum old f.kind x → (y : Scalar) × (x ≡ scalar y)
  scalar_packed (scalar y) packs w = (y, refl)
  scalar_packed (message v) packs w = absurd (by f.kind packs w)
    where
      by : (a : Kind) → is_packable a ≡ true → IsDatum old a (message v) → ⊥
      by (kind.Message i) packs w = absurd (cc)
      by (kind.Group i) packs w = absurd (cc)
      by a packs w = w

  map_stays : (s t : Shape) (key : Kind) → s ≡ shape.Map key → keeps_shape old new s t ≡ true → (l : Kind) × (t ≡ shape.Map l)
  map_stays (shape.Map key) (shape.Map l) c e keeps = (l, refl)
  map_stays (shape.Map key) t c e keeps = absurd (cc)
  map_stays shape.Implicit t c e keeps = absurd (cc)
  map_stays shape.Explicit t c e keeps = absurd (cc)
  map_stays (shape.OneofMember o) t c e keeps = absurd (cc)
  map_stays (shape.List p) t c e keeps = absurd (cc)

  -- values that are not kept, in each shape
  values_misread : (s : Shape) → f.shape ≡ s → (h : Holding) → keeps_shape old new f.shape g.shape ≡ true → (c : HoldsLost old new f g h) → IsMisread old new m n (alone k h)
  values_misread (shape.List true) e (list ds) keeps c =
      let packs : is_packable f.kind ≡ true = subst (λ (s : Shape). MayBePacked s f.kind) e (can_pack old m rules_old k f at.old_field) in
      let x = scalar_packed c.value packs c.lost.value.value in
      let lost : IsLostValue old new f.kind g.kind (scalar x.0) = subst (IsLostValue old new f.kind g.kind) x.1 c.lost in
      let listed : is_list g.shape ≡ true = subst (λ (s : Shape). keeps_shape old new s g.shape ≡ true) e keeps in
      subst (λ (es : Datums). IsMisread old new m n (alone k (list es))) (sym (c.made ∙ ap (λ (d : Datum). datum d no_datums) x.1))
      (packed_is_misread old new rules_old rules_new m n k f g x.0 at e listed lost.value (lost.in_packed packs))
  values_misread (shape.Map key) e (map_of es) keeps c =
      let stays = map_stays f.shape g.shape key e keeps in
      let under = some_of (key_of f.shape) (λ l. IsValue old l (scalar c.made.0)) c.made.1 in
      let keyed : IsValue old key (scalar c.made.0) = subst (λ (s : Shape). IsSomeAnd (key_of s) (λ l. IsValue old l (scalar c.made.0))) e c.made.1 in
      subst (λ es. IsMisread old new m n (alone k (map_of es))) (sym c.made.2)
      (map_is_misread old new rules_old rules_new m n k f g key stays.0 c.made.0 c.value at e stays.1 keyed c.lost.value
      (inr (c.lost.in_entry (value_proto3 old m f key rules_old at.old_field e) (value_proto3 new n g stays.0 rules_new at.new_field stays.1))))
  values_misread (shape.List true) e (one d) keeps c = absurd (subst (λ (s : Shape). IsOfShape s (one d)) e c.shaped)
  values_misread (shape.List true) e (map_of es) keeps c = absurd (subst (λ (s : Shape). IsOfShape s (map_of es)) e c.shaped)
  values_misread (shape.Map key) e (one d) keeps c = absurd (subst (λ (s : Shape). IsOfShape s (one d)) e c.shaped)
  values_misread (shape.Map key) e (list ds) keeps c = absurd (subst (λ (s : Shape). IsOfShape s (list ds)) e c.shaped)
  values_misread shape.Implicit e h keeps c = one_is_misread old new rules_old rules_new m n k f g c.value h at (ap is_one_by_one e) keeps c.made c.shaped c.lost.value c.lost.unlike
  values_misread shape.Explicit e h keeps c = one_is_misread old new rules_old rules_new m n k f g c.value h at (ap is_one_by_one e) keeps c.made c.shaped c.lost.value c.lost.unlike
  values_misread (shape.OneofMember o) e h keeps c = one_is_misread old new rules_old rules_new m n k f g c.value h at (ap is_one_by_one e) keeps c.made c.shaped c.lost.value c.lost.unlike
  values_misread (shape.List false) e h keeps c = one_is_misread old new rules_old rules_new m n k f g c.value h at (ap is_one_by_one e) keeps c.made c.shaped c.lost.value c.lost.unlike

  pub lost_misread : (h : Holding) → IsLost old new f g h → IsMisread old new m n (alone k h)
  lost_misread h (by_shape loses maps c) = shape_is_misread old new rules_old rules_new m n k f g c.value h at loses maps c.made c.shaped c.valued
  lost_misread h (by_values keeps c) = values_misread f.shape refl h keeps c
  lost_misread h (by_key c) =
      subst (λ (x : Holding). IsMisread old new m n (alone k x)) (sym c.made)
      (map_is_misread old new rules_old rules_new m n k f g c.key c.new_key c.under c.value at c.of_map c.to_map c.lost.value c.valued
      (inl (c.lost.in_entry (key_proto3 old m f c.key rules_old at.old_field c.of_map) (key_proto3 new n g c.new_key rules_new at.new_field c.to_map))))

  pub lost_can : (h : Holding) → IsLost old new f g h → CanHold old f h
  lost_can h (by_shape loses maps c) = can_hold old rules_old m k f at.old_field c.value h c.valued c.made c.shaped
  lost_can h (by_values keeps c) = can_hold old rules_old m k f at.old_field c.value h c.lost.value c.made c.shaped
  lost_can h (by_key c) = subst (CanHold old f) (sym c.made) (map_can old rules_old m k f at.old_field c.key c.under c.value c.of_map c.lost.value c.valued)

  -- TWO FIELDS

  pub pair_misread : (p : FieldView) (v : Message) → partner_of (message_fields old m) (message_fields new n) f g.shape ≡ Some p → IsPairOf old f p v → IsPairMisread old new m n v
  pair_misread p v e b = by g.shape refl e
    where
      number : f.number ≡ k
      number = found_number k (message_fields old m) f at.old_field

      split : (a b : Bool) → (not a && not b) ≡ true → (a ≡ false) × (b ≡ false)
      split true b e = absurd (cc)
      split false true e = absurd (cc)
      split false false e = (refl, refl)

      clash : true ≡ false → ⊥
      clash e = cc

      by : (s : Shape) → g.shape ≡ s → partner_of (message_fields old m) (message_fields new n) f s ≡ Some p → IsPairMisread old new m n v
      by shape.Implicit same e = absurd (cc)
      by shape.Explicit same e = absurd (cc)
      by (shape.List q) same e = absurd (cc)
      by (shape.Map key) same e = absurd (cc)
      by (shape.OneofMember o) same e =
          let fs = message_fields old m in
          let partner = partner_is fs (message_fields new n) o f p (numbers_differ new n rules_new) e in
          let q = partner.beside in
          let apart = split (f.number == p.number) (share_oneof f.shape p.shape) partner.apart in
          let other : p.number ≡ q.number = found_number q.number fs p partner.found in
          let differs : k ≢ p.number = λ z. clash (sym (ap (λ (i : ℕ). f.number == i) (sym z ∙ sym number) ∙ self_equal f.number) ∙ apart.0) in
          let also : AreFieldsAt old new m n p.number p q = record {
            old_field = ap (λ (i : ℕ). field_numbered i fs) other ∙ partner.found;
            new_field = ap (λ (i : ℕ). field_numbered i (message_fields new n)) other ∙ partner.there;
          } in
          let together : share_oneof g.shape q.shape ≡ true = ap (λ (s : Shape). share_oneof s q.shape) same ∙ partner.member in
          subst (IsPairMisread old new m n) (sym (b.same ∙ ap (λ (i : ℕ). body (put_field p.number b.second (field i b.first no_fields)) []) number))
          (pair_is_misread old new rules_old rules_new m n k p.number f g p q b.holds_first.value b.holds_second.value b.first b.second at also differs together apart.1
          b.holds_first.made b.holds_first.shaped b.holds_first.valued b.holds_second.made b.holds_second.shaped b.holds_second.valued)

  -- WHAT IS BUILT

  -- what is built is misread, and nests at most one level
  pub record IsBuiltMisread (v : Message) : Type 0 where
    pub misread : IsMisread old new m n v
    pub depth : message_depth v ≤ 1

  pub built_misread : (v : Message) → IsBuilt old new m n f g v → IsBuiltMisread v
  built_misread v (of_one h lost same) =
      let number : f.number ≡ k = found_number k (message_fields old m) f at.old_field in
      let deep = (lost_can h lost).depth in
      subst IsBuiltMisread (sym (same ∙ ap (λ (i : ℕ). alone i h) number)) record { misread = lost_misread h lost; depth = omega (arith, deep) }
  built_misread v (of_two p found pair) = let both = pair_misread p v found pair in record { misread = both.misread; depth = both.depth }

  pub built_shows : (v : Message) → IsBuilt old new m n f g v → IsWitness old new m n v
  built_shows v built =
      let b = built_misread v built in
      let deep = b.depth in
      misread_shows old new rules_old rules_new m n v b.misread (omega (arith, deep))

-- what is weaker holds of what is returned, if anything is
pub if_ok_some : {A E : Type 0} (r : Result (Option A) E) (P Q : A → Type 0) → ((a : A) → P a → Q a) → IfOk r (λ o. IfSome o P) → IfOk r (λ o. IfSome o Q)
if_ok_some (Ok (Some a)) P Q f h = f a h
if_ok_some (Ok None) P Q f h = tt
if_ok_some (Err e) P Q f h = tt
