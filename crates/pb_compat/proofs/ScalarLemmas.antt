-- Scalars that a new kind reads of what an old kind wrote.
use Rattle.std.proofs.Common.{◌≡◌, ◌≢◌, ⊎_elim, ℕ, zero, suc, ◌+◌, ℤ, pos, negsuc, ◌<◌, ◌≤◌, ◌^◌, ◌&&◌, ◌||◌, List, [], ◌∷◌, Bool, true, false, refl, sym, ◌∙◌, ap, subst, arith, inl, inr}
use Rattle.std.specs.Prelude.{IsSomeAnd, IsTrue, nat_le, ◌==◌, ◌⊎◌}
use Rattle.std.specs.List.{list_any}
use Rattle.std.specs.Int.{cast_unsigned, w32, w64}
use Rattle.std.specs.Int.RustNames.{FitsSigned}
use Rattle.std.specs.Ordering.{int_eq}
use Rattle.std.proofs.lemmas.Int.{ints}
use Rattle.std.proofs.lemmas.Bool.Decides.{Decides-int_eq, Decides-eqb, nat_tests}
use Rattle.pb_wire.specs.Record.{varint}
use Rattle.pb_schema.specs.declared.types.Kind.{Kind}
use Rattle.pb_schema.specs.declared.types.Kind.TheVariants as kind
use Rattle.pb_schema.specs.Types.{Types}
use Rattle.pb_schema.specs.Scalar.{Scalar, int32, int64, uint32, uint64, boolean, enum, text, is_default}
use Rattle.pb_schema.specs.Kinds.{IsOfKind, read}
use Rattle.pb_schema.specs.Closed.{declares, is_declared}
use Rattle.pb_schema.specs.EnumValues.{enum_values}
use Rattle.pb_schema.specs.ReadBack.{read-written}
use Rattle.pb_value.proofs.BytesLemmas.{AreBytes-IsUtf8}
use Rattle.pb_value.proofs.Numbers.{not_equal}
use Rattle.pb_value.proofs.FieldExtent.{equal_or_not}
use Rattle.pb_compat.specs.Scalars.{Meaning, integer, meaning, KeepsScalar, KeepsScalars, holds_number, holds_values, holds_int32, holds_uint32, holds_sint32, holds_text, declares_within, declares_others, keeps_scalars}
use Rattle.pb_compat.specs.Fields.{keeps_others}

-- what is read means the same
abbrev pub MeansTo : Types → Kind → Meaning → Scalar → Type 0
MeansTo new b m y = IsOfKind b y × IsTrue (is_declared new b y) × (meaning y ≡ m)

both : (a b : Bool) → (a && b) ≡ true → (a ≡ true) × (b ≡ true)
both true b e = (refl, e)
both false b e = absurd (cc)

-- a number that an enum declares if it declares all of some
module _ (pool : Types) (e : ℕ) where
  parts : (n : ℕ) → declares_within pool e (suc n) ≡ true → (((n == 0) || declares pool e (pos n)) ≡ true) × (declares pool e (negsuc n) ≡ true) × (declares_within pool e n ≡ true)
  unfolding declares_within
  parts n h =
      let last = both (((n == 0) || declares pool e (pos n)) && declares pool e (negsuc n)) (declares_within pool e n) h in
      let first = both ((n == 0) || declares pool e (pos n)) (declares pool e (negsuc n)) last.0 in (first.0, first.1, last.1)

  -- one of the first, or the last
  last_or_less : (n i : ℕ) → i < suc n → (i ≡ n) ⊎ (i < n)
  last_or_less n i l = by (equal_or_not i n)
    where
      by : (i ≡ n) ⊎ (i ≢ n) → (i ≡ n) ⊎ (i < n)
      by (inl e) = inl e
      by (inr d) = inr (omega (arith, l, d))

  within_pos : (n i : ℕ) → i < n → (i == 0) ≡ false → declares_within pool e n ≡ true → declares pool e (pos i) ≡ true
  within_pos zero i l some h = absurd (omega (arith, l))
  within_pos (suc n) i l some h =
      let each = parts n h in
      ⊎_elim (λ (same : i ≡ n). ap (λ (b : Bool). b || declares pool e (pos i)) (sym some) ∙ subst (λ (j : ℕ). ((j == 0) || declares pool e (pos j)) ≡ true) (sym same) each.0)
      (λ less. within_pos n i less some each.2) (last_or_less n i l)

  within_neg : (n i : ℕ) → i < n → declares_within pool e n ≡ true → declares pool e (negsuc i) ≡ true
  within_neg zero i l h = absurd (omega (arith, l))
  within_neg (suc n) i l h =
      let each = parts n h in
      ⊎_elim (λ (same : i ≡ n). subst (λ (j : ℕ). declares pool e (negsuc j) ≡ true) (sym same) each.1) (λ less. within_neg n i less each.2) (last_or_less n i l)

  below_half : (n : ℕ) → FitsSigned w32 (pos n) → n < 2 ^ 31
  below_half n h = grind (arith, ints)

  within_half : (n : ℕ) → FitsSigned w32 (negsuc n) → n < 2 ^ 31
  within_half n h = grind (arith, ints)

  pub declared_others : (z : ℤ) → FitsSigned w32 z → z ≢ pos 0 → declares_others pool e ≡ true → declares pool e z ≡ true
  unfolding declares_others
  declared_others (pos n) fits other h = within_pos (2 ^ 31) n (below_half n fits) (not_equal n 0 (λ q. other (ap pos q))) h
  declared_others (negsuc n) fits other h = within_neg (2 ^ 31) n (within_half n fits) h

  pub declared_all : (z : ℤ) → FitsSigned w32 z → (declares pool e (pos 0) && declares_others pool e) ≡ true → declares pool e z ≡ true
  declared_all (pos zero) fits h = (both (declares pool e (pos 0)) (declares_others pool e) h).0
  declared_all (pos (suc n)) fits h = declared_others (pos (suc n)) fits (λ q. no_zero n q) (both (declares pool e (pos 0)) (declares_others pool e) h).1
    where
      no_zero : (n : ℕ) → pos (suc n) ≢ pos 0
      no_zero n q = absurd (cc)
  declared_all (negsuc n) fits h = declared_others (negsuc n) fits (λ q. no_zero n q) (both (declares pool e (pos 0)) (declares_others pool e) h).1
    where
      no_zero : (n : ℕ) → negsuc n ≢ pos 0
      no_zero n q = absurd (cc)

  -- one that is not declared shows that not all are
  pub undeclared_other : (z : ℤ) → FitsSigned w32 z → z ≢ pos 0 → declares pool e z ≡ false → declares_others pool e ≡ false
  undeclared_other z fits other none = by (declares_others pool e) refl
    where
      clash : true ≡ false → ⊥
      clash q = cc

      by : (b : Bool) → declares_others pool e ≡ b → b ≡ false
      by true q = absurd (clash (sym (declared_others z fits other q) ∙ none))
      by false q = refl

  pub within_none : declares_within pool e 0 ≡ true
  unfolding declares_within
  within_none = refl

  -- they are all declared where those within 2 ^ 31 are
  pub others_all : declares_within pool e (2 ^ 31) ≡ true → declares_others pool e ≡ true
  unfolding declares_others
  others_all h = h

  pub within_more : (n : ℕ) → ((n == 0) || declares pool e (pos n)) ≡ true → declares pool e (negsuc n) ≡ true → declares_within pool e n ≡ true → declares_within pool e (suc n) ≡ true
  unfolding declares_within
  within_more n above below rest =
      ap (λ (b : Bool). (b && declares pool e (negsuc n)) && declares_within pool e n) above ∙ ap (λ (b : Bool). b && declares_within pool e n) below ∙ rest

  -- one step more, where neither number of a size is undeclared
  pub within_next : (n : ℕ) (b : Bool) → b ≡ true → b ≡ (((n == 0) || declares pool e (pos n)) && declares pool e (negsuc n)) → declares_within pool e n ≡ true → declares_within pool e (n + 1) ≡ true
  within_next n b none exact rest =
      let parts = both ((n == 0) || declares pool e (pos n)) (declares pool e (negsuc n)) (sym exact ∙ none) in
      let more : suc n ≡ n + 1 = omega arith in
      subst (λ (i : ℕ). declares_within pool e i ≡ true) more (within_more n parts.0 parts.1 rest)

bit_below : (n : ℕ) → nat_le n 1 ≡ true → n ≤ 1
bit_below n e = grind (arith, nat_tests)

module _ (new : Types) where
  -- a kind reads its own values back
  itself : (k : Kind) (x : Scalar) → IsOfKind k x → IsTrue (is_declared new k x) → KeepsScalar new k k x
  itself k x h d = subst (λ o. IsSomeAnd o (MeansTo new k (meaning x))) (sym (read-written k x h)) (h, d, refl)

  wider : (z : ℤ) → FitsSigned w32 z → FitsSigned w64 z
  wider z h = grind (arith, ints)

  plain : (n : ℕ) → FitsSigned w32 (pos n) → cast_unsigned w64 (pos n) ≡ n
  plain n h = grind (arith, ints)

  small : (n : ℕ) → FitsSigned w32 (pos n) → n < 2 ^ 32
  small n h = grind (arith, ints)

  small_long : (n : ℕ) → FitsSigned w32 (pos n) → n < 2 ^ 64
  small_long n h = grind (arith, ints)

  -- the kind reads the varint of a number as the number
  ReadsNumber : Kind → ℤ → Type 0
  ReadsNumber k z = IsSomeAnd (read k (varint (cast_unsigned w64 z))) (MeansTo new k (integer z))

  by_plain : (k : Kind) (n : ℕ) → FitsSigned w32 (pos n) → IsSomeAnd (read k (varint n)) (MeansTo new k (integer (pos n))) → IsSomeAnd (read k (varint (cast_unsigned w64 (pos n)))) (MeansTo new k (integer (pos n)))
  by_plain k n h r = subst (λ (i : ℕ). IsSomeAnd (read k (varint i)) (MeansTo new k (integer (pos n)))) (sym (plain n h)) r

  bit_number : (n : ℕ) → nat_le n 1 ≡ true → IsSomeAnd (read kind.Bool (varint n)) (MeansTo new kind.Bool (integer (pos n)))
  bit_number zero e = (tt, refl, refl)
  bit_number (suc zero) e = (tt, refl, refl)
  bit_number (suc (suc n)) e = absurd (omega (arith, bit_below (suc (suc n)) e))

  zero_number32 : (n : ℕ) → (n == 0) ≡ true → IsSomeAnd (read kind.Sint32 (varint n)) (MeansTo new kind.Sint32 (integer (pos n)))
  zero_number32 zero e = (omega arith, refl, refl)
  zero_number32 (suc n) e = absurd (omega (arith, (Decides-eqb (suc n) 0).0 e))

  zero_number64 : (n : ℕ) → (n == 0) ≡ true → IsSomeAnd (read kind.Sint64 (varint n)) (MeansTo new kind.Sint64 (integer (pos n)))
  zero_number64 zero e = (omega arith, refl, refl)
  zero_number64 (suc n) e = absurd (omega (arith, (Decides-eqb (suc n) 0).0 e))

  number_kept : (k : Kind) (z : ℤ) → FitsSigned w32 z → holds_number new k z ≡ true → IsSomeAnd (read k (varint (cast_unsigned w64 z))) (MeansTo new k (integer z))
  number_kept kind.Int32 z h e = itself kind.Int32 (int32 z) h refl
  number_kept kind.Int64 z h e = itself kind.Int64 (int64 z) (wider z h) refl
  number_kept (kind.Enum i) z h e = itself (kind.Enum i) (enum z) h refl
  number_kept (kind.ClosedEnum i) z h e = itself (kind.ClosedEnum i) (enum z) h e
  number_kept kind.Uint32 (pos n) h e = by_plain kind.Uint32 n h (itself kind.Uint32 (uint32 n) (small n h) refl)
  number_kept kind.Uint64 (pos n) h e = by_plain kind.Uint64 n h (itself kind.Uint64 (uint64 n) (small_long n h) refl)
  number_kept kind.Bool (pos n) h e = by_plain kind.Bool n h (bit_number n e)
  number_kept kind.Sint32 (pos n) h e = by_plain kind.Sint32 n h (zero_number32 n e)
  number_kept kind.Sint64 (pos n) h e = by_plain kind.Sint64 n h (zero_number64 n e)
  number_kept k z h e = absurd (cc)

  each_int32 : (k : Kind) (z : ℤ) → FitsSigned w32 z → holds_int32 new k ≡ true → holds_number new k z ≡ true
  each_int32 kind.Int32 z h e = refl
  each_int32 kind.Int64 z h e = refl
  each_int32 (kind.Enum i) z h e = refl
  each_int32 (kind.ClosedEnum i) z h e = declared_all new i.0 z h e
  each_int32 k z h e = absurd (cc)

  -- of an enum whose values are all held, a declared number is
  declared_held : (k : Kind) (z : ℤ) (values : List (List ℕ × ℤ)) → holds_values new k values ≡ true → list_any (λ v. int_eq v.1 z) values ≡ true → holds_number new k z ≡ true
  declared_held k z [] all any = absurd (cc)
  declared_held k z (v ∷ vs) all any = by (int_eq v.1 z) refl (both (holds_number new k v.1) (holds_values new k vs) all) (declared_held k z vs)
    where
      by : (t : Bool) → int_eq v.1 z ≡ t → (holds_number new k v.1 ≡ true) × (holds_values new k vs ≡ true) → (holds_values new k vs ≡ true → list_any (λ w. int_eq w.1 z) vs ≡ true → holds_number new k z ≡ true) → holds_number new k z ≡ true
      by true e h later = subst (λ (y : ℤ). holds_number new k y ≡ true) ((Decides-int_eq v.1 z).0 e) h.0
      by false e h later = later h.1 (subst (λ (t : Bool). (t || list_any (λ w. int_eq w.1 z) vs) ≡ true) e any)

  keeps_uint32 : (b : Kind) (n : ℕ) → n < 2 ^ 32 → holds_uint32 b ≡ true → KeepsScalar new kind.Uint32 b (uint32 n)
  keeps_uint32 kind.Uint32 n h e = itself kind.Uint32 (uint32 n) h refl
  keeps_uint32 kind.Uint64 n h e = itself kind.Uint64 (uint64 n) (omega (arith, h)) refl
  keeps_uint32 kind.Int64 n h e =
      let fits : FitsSigned w64 (pos n) = grind (arith, ints) in
      let same : cast_unsigned w64 (pos n) ≡ n = grind (arith, ints) in
      subst (λ (i : ℕ). IsSomeAnd (read kind.Int64 (varint i)) (MeansTo new kind.Int64 (integer (pos n)))) same (itself kind.Int64 (int64 (pos n)) fits refl)
  keeps_uint32 k n h e = absurd (cc)

  keeps_sint32 : (b : Kind) (z : ℤ) → FitsSigned w32 z → holds_sint32 b ≡ true → KeepsScalar new kind.Sint32 b (int32 z)
  keeps_sint32 kind.Sint32 z h e = itself kind.Sint32 (int32 z) h refl
  keeps_sint32 kind.Sint64 z h e = itself kind.Sint64 (int64 z) (wider z h) refl
  keeps_sint32 k z h e = absurd (cc)

  keeps_text : (b : Kind) (s : List ℕ) → IsOfKind kind.Text (text s) → holds_text b ≡ true → KeepsScalar new kind.Text b (text s)
  keeps_text kind.Text s h e = (h, refl, refl)
  keeps_text kind.Bytes s h e = (AreBytes-IsUtf8 s h, refl, refl)
  keeps_text k s h e = absurd (cc)

  keeps_bool : (k : Kind) (b : Bool) → (holds_number new k (pos 0) && holds_number new k (pos 1)) ≡ true → KeepsScalar new kind.Bool k (boolean b)
  keeps_bool k true e = number_kept k (pos 1) (grind (arith, ints)) (both (holds_number new k (pos 0)) (holds_number new k (pos 1)) e).1
  keeps_bool k false e = number_kept k (pos 0) (grind (arith, ints)) (both (holds_number new k (pos 0)) (holds_number new k (pos 1)) e).0

  pub scalars_kept : (old : Types) (a b : Kind) → keeps_scalars old new a b ≡ true → KeepsScalars old new a b
  scalars_kept old kind.Double kind.Double e x h d = itself kind.Double x h refl
  scalars_kept old kind.Double b e x h d = absurd (cc)
  scalars_kept old kind.Float kind.Float e x h d = itself kind.Float x h refl
  scalars_kept old kind.Float b e x h d = absurd (cc)
  scalars_kept old kind.Int64 kind.Int64 e x h d = itself kind.Int64 x h refl
  scalars_kept old kind.Int64 b e x h d = absurd (cc)
  scalars_kept old kind.Uint64 kind.Uint64 e x h d = itself kind.Uint64 x h refl
  scalars_kept old kind.Uint64 b e x h d = absurd (cc)
  scalars_kept old kind.Int32 b e (int32 z) h d = number_kept b z h (each_int32 b z h e)
  scalars_kept old kind.Int32 b e x h d = absurd h
  scalars_kept old kind.Fixed64 kind.Fixed64 e x h d = itself kind.Fixed64 x h refl
  scalars_kept old kind.Fixed64 b e x h d = absurd (cc)
  scalars_kept old kind.Fixed32 kind.Fixed32 e x h d = itself kind.Fixed32 x h refl
  scalars_kept old kind.Fixed32 b e x h d = absurd (cc)
  scalars_kept old kind.Bool b e (boolean x) h d = keeps_bool b x e
  scalars_kept old kind.Bool b e x h d = absurd h
  scalars_kept old kind.Text b e (text s) h d = keeps_text b s h e
  scalars_kept old kind.Text b e x h d = absurd h
  scalars_kept old kind.Bytes kind.Bytes e x h d = itself kind.Bytes x h refl
  scalars_kept old kind.Bytes b e x h d = absurd (cc)
  scalars_kept old kind.Uint32 b e (uint32 n) h d = keeps_uint32 b n h e
  scalars_kept old kind.Uint32 b e x h d = absurd h
  scalars_kept old kind.Sfixed32 kind.Sfixed32 e x h d = itself kind.Sfixed32 x h refl
  scalars_kept old kind.Sfixed32 b e x h d = absurd (cc)
  scalars_kept old kind.Sfixed64 kind.Sfixed64 e x h d = itself kind.Sfixed64 x h refl
  scalars_kept old kind.Sfixed64 b e x h d = absurd (cc)
  scalars_kept old kind.Sint32 b e (int32 z) h d = keeps_sint32 b z h e
  scalars_kept old kind.Sint32 b e x h d = absurd h
  scalars_kept old kind.Sint64 kind.Sint64 e x h d = itself kind.Sint64 x h refl
  scalars_kept old kind.Sint64 b e x h d = absurd (cc)
  scalars_kept old (kind.Enum i) b e (enum z) h d = number_kept b z h (each_int32 b z h e)
  scalars_kept old (kind.Enum i) b e x h d = absurd h
  scalars_kept old (kind.Message m) b e x h d = absurd (cc)
  scalars_kept old (kind.Group m) b e x h d = absurd (cc)
  scalars_kept old (kind.ClosedEnum i) b e (enum z) h d = number_kept b z h (declared_held b z (enum_values old i.0) e d)
  scalars_kept old (kind.ClosedEnum i) b e x h d = absurd h

  -- with implicit presence a default is not written
  number_other : (z : ℤ) → is_default (int32 z) ≡ false → z ≢ pos 0
  number_other (pos zero) d q = absurd (cc)
  number_other (pos (suc n)) d q = absurd (cc)
  number_other (negsuc n) d q = absurd (cc)

  value_other : (z : ℤ) → is_default (enum z) ≡ false → z ≢ pos 0
  value_other (pos zero) d q = absurd (cc)
  value_other (pos (suc n)) d q = absurd (cc)
  value_other (negsuc n) d q = absurd (cc)

  pub others_kept : (a b : Kind) → keeps_others new a b ≡ true → (x : Scalar) → IsOfKind a x → is_default x ≡ false → KeepsScalar new a b x
  others_kept kind.Bool (kind.ClosedEnum i) e (boolean true) h d = number_kept (kind.ClosedEnum i) (pos 1) (grind (arith, ints)) e
  others_kept kind.Bool (kind.ClosedEnum i) e (boolean false) h d = absurd (cc)
  others_kept kind.Bool (kind.ClosedEnum i) e x h d = absurd h
  others_kept kind.Int32 (kind.ClosedEnum i) e (int32 z) h d = number_kept (kind.ClosedEnum i) z h (declared_others new i.0 z h (number_other z d) e)
  others_kept kind.Int32 (kind.ClosedEnum i) e x h d = absurd h
  others_kept (kind.Enum j) (kind.ClosedEnum i) e (enum z) h d = number_kept (kind.ClosedEnum i) z h (declared_others new i.0 z h (value_other z d) e)
  others_kept (kind.Enum j) (kind.ClosedEnum i) e x h d = absurd h
  others_kept a b e x h d = absurd (cc)
