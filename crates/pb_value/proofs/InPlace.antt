-- A field's content changed in place: the view of the message then, and that it stays well formed.
use Rattle.std.proofs.Common.{◌≡◌, ◌<◌, ◌≤◌, ◌+◌, ℕ, zero, suc, List, [], ◌∷◌, length, slice_set, get_or, cond, Option, Some, None, Ordering, Less, Equal, Greater, nat_cmp, is_eq, arith, refl, sym, ap, ◌∙◌, subst}
use Rattle.std.specs.Map.{lookup, set_value}
use Rattle.std.specs.BTreeMap.{is_at}
use Rattle.std.specs.Ordering.{match_ordering, MatchOrdering}
use Rattle.std.specs.Cmp.{ranks}
use Rattle.pb_schema.specs.declared.types.Kind.{Kind}
use Rattle.pb_schema.specs.declared.types.Shape.{Shape}
use Rattle.pb_schema.specs.declared.types.Shape.TheVariants as shape
use Rattle.pb_schema.specs.Types.{FieldView, Types}
use Rattle.pb_value.specs.Change.{in_nth, in_list, in_field}
use Rattle.pb_value.specs.Data.{Datum, Datums, no_datums, datum, levels_of, datums_depth}
use Rattle.pb_value.specs.Data.{Holding, one, list, map, Fields, no_fields, field, get_field, holding_depth, fields_depth}
use Rattle.pb_value.specs.Inner.{nth_datum}
use Rattle.pb_value.specs.View.{value_view, values_view, content_view, fields_view}
use Rattle.pb_value.specs.WellFormed.{CanStand, IsOfShape, IsDatum, AreDatums, AreFields, RisesFrom, HasNoMember, HasOneMemberEach, oneof_at}
use Rattle.pb_value.specs.declared.body.Content.{Content}
use Rattle.pb_value.specs.declared.body.Value.{Value}
use Rattle.pb_value.proofs.ChangeLemmas.{by_order}
use Rattle.pb_value.proofs.Options.{if_some, at_some}

-- WHAT CODE CHANGES

pub fields_view-in_field :
    (n : ℕ) (c w : Content) (fs : List (ℕ × Content)) (change : Holding → Holding) → lookup (is_at (nat_cmp n)) fs ≡ Some c → content_view w ≡ change (content_view c)
    → fields_view (set_value (is_at (nat_cmp n)) fs w) ≡ in_field change n (fields_view fs)
fields_view-in_field n c w [] change found wrote = absurd (cc)
fields_view-in_field n c w (f ∷ fs) change found wrote = told (nat_cmp n f.0) (λ q. fields_view-in_field n c w fs change q wrote) found
  where
    told :
        (o : Ordering) → (lookup (is_at (nat_cmp n)) fs ≡ Some c → fields_view (set_value (is_at (nat_cmp n)) fs w) ≡ in_field change n (fields_view fs))
        → cond (is_eq o) (Some f.1) (lookup (is_at (nat_cmp n)) fs) ≡ Some c
        → fields_view (cond (is_eq o) ((f.0, w) ∷ fs) (f ∷ set_value (is_at (nat_cmp n)) fs w))
        ≡ match_ordering o (field f.0 (content_view f.1) (in_field change n (fields_view fs))) (field f.0 (change (content_view f.1)) (fields_view fs))
        (field f.0 (content_view f.1) (in_field change n (fields_view fs)))
    told Less later q = ap (field f.0 (content_view f.1)) (later q)
    told Equal later q = let same : f.1 ≡ c = cc in ap (λ (h : Holding). field f.0 h (fields_view fs)) (wrote ∙ ap (λ (x : Content). change (content_view x)) (sym same))
    told Greater later q = ap (field f.0 (content_view f.1)) (later q)

pub values_view-in_nth :
    (i : ℕ) (vs : List Value) (x w : Value) (change : Datum → Datum) → i < length vs → x ≡ get_or vs i x → value_view w ≡ change (value_view x)
    → values_view (slice_set vs i w) ≡ in_nth change i (values_view vs)
values_view-in_nth i [] x w change l at wrote = absurd (omega (arith, l))
values_view-in_nth zero (v ∷ vs) x w change l at wrote = rw (wrote, at)
values_view-in_nth (suc i) (v ∷ vs) x w change l at wrote = rw (values_view-in_nth i vs x w change (omega (arith, l)) at wrote)

pub nth_there : (i : ℕ) (vs : List Value) (x : Value) → i < length vs → x ≡ get_or vs i x → nth_datum (values_view vs) i ≡ Some (value_view x)
nth_there i [] x l at = absurd (omega (arith, l))
nth_there zero (v ∷ vs) x l at = ap (λ (y : Value). Some (value_view y)) (sym at)
nth_there (suc i) (v ∷ vs) x l at = nth_there i vs x (omega (arith, l)) at

pub nth_past : (i : ℕ) (vs : List Value) → length vs ≤ i → nth_datum (values_view vs) i ≡ None
nth_past i [] l = refl
nth_past zero (v ∷ vs) l = absurd (omega (arith, l))
nth_past (suc i) (v ∷ vs) l = nth_past i vs (omega (arith, l))

-- WELL-FORMED PARTS

pub fields_kept :
    (pool : Types) (all : List FieldView) (l n : ℕ) (change : Holding → Holding) (fs : Fields) → AreFields pool all fs → fields_depth fs ≤ l
    → ((h : Holding) → get_field n fs ≡ Some h → CanStand pool all n h → holding_depth h ≤ l → CanStand pool all n (change h) × (holding_depth (change h) ≤ l))
    → AreFields pool all (in_field change n fs) × (fields_depth (in_field change n fs) ≤ l)
fields_kept pool all l n change no_fields w deep kept = (w, deep)
fields_kept pool all l n change (field k g fs) w deep kept = told (nat_cmp n k) (ranks n k) (λ later. fields_kept pool all l n change fs w.1 (omega arith) later) kept
  where
    Kept : Option Holding → Type 0
    Kept o = (h : Holding) → o ≡ Some h → CanStand pool all n h → holding_depth h ≤ l → CanStand pool all n (change h) × (holding_depth (change h) ≤ l)

    told :
        (o : Ordering) → MatchOrdering o (n < k) (n ≡ k) (k < n)
        → (Kept (get_field n fs) → AreFields pool all (in_field change n fs) × (fields_depth (in_field change n fs) ≤ l))
        → Kept (match_ordering o (get_field n fs) (Some g) (get_field n fs))
        → AreFields pool all (match_ordering o (field k g (in_field change n fs)) (field k (change g) fs) (field k g (in_field change n fs)))
        × (fields_depth (match_ordering o (field k g (in_field change n fs)) (field k (change g) fs) (field k g (in_field change n fs))) ≤ l)
    told Less r later here = let more = later here in ((w.0, more.0), omega (arith, more.1))
    told Equal r later here =
        let now = here g refl (subst (λ (i : ℕ). CanStand pool all i g) (sym r) w.0) (omega arith) in
        ((subst (λ (i : ℕ). CanStand pool all i (change g)) r now.0, w.1), omega (arith, now.1))
    told Greater r later here = let more = later here in ((w.0, more.0), omega (arith, more.1))

pub RisesFrom-in_field : (change : Holding → Holding) (low n : ℕ) (fs : Fields) → RisesFrom low fs → RisesFrom low (in_field change n fs)
RisesFrom-in_field change low n no_fields w = tt
RisesFrom-in_field change low n (field k g fs) w =
    by_order (RisesFrom low) n k _ _ _ (λ _. (w.0, RisesFrom-in_field change (k + 1) n fs w.1)) (λ _. w) (λ _. (w.0, RisesFrom-in_field change (k + 1) n fs w.1))

HasNoMember-in_field : (all : List FieldView) (o : ℕ) (change : Holding → Holding) (n : ℕ) (fs : Fields) → HasNoMember all o fs → HasNoMember all o (in_field change n fs)
HasNoMember-in_field all o change n no_fields w = tt
HasNoMember-in_field all o change n (field k g fs) w =
    by_order (HasNoMember all o) n k _ _ _ (λ _. (w.0, HasNoMember-in_field all o change n fs w.1)) (λ _. w) (λ _. (w.0, HasNoMember-in_field all o change n fs w.1))

pub HasOneMemberEach-in_field : (all : List FieldView) (change : Holding → Holding) (n : ℕ) (fs : Fields) → HasOneMemberEach all fs → HasOneMemberEach all (in_field change n fs)
HasOneMemberEach-in_field all change n no_fields w = tt
HasOneMemberEach-in_field all change n (field k g fs) w =
    let later : HasOneMemberEach all (field k g (in_field change n fs)) = (
      if_some (oneof_at all k) (λ (o : ℕ). HasNoMember all o (in_field change n fs))
          (λ o e. HasNoMember-in_field all o change n fs (at_some (oneof_at all k) (λ (p : ℕ). HasNoMember all p fs) o w.0 e)),
      HasOneMemberEach-in_field all change n fs w.1,
    ) in
    by_order (HasOneMemberEach all) n k _ _ _ (λ _. later) (λ _. w) (λ _. later)

pub datums_kept :
    (pool : Types) (k : Kind) (l i : ℕ) (change : Datum → Datum) (ds : Datums) → AreDatums pool k ds → datums_depth ds ≤ l
    → ((d : Datum) → nth_datum ds i ≡ Some d → IsDatum pool k d → levels_of d ≤ l → IsDatum pool k (change d) × (levels_of (change d) ≤ l))
    → AreDatums pool k (in_nth change i ds) × (datums_depth (in_nth change i ds) ≤ l)
datums_kept pool k l i change no_datums w deep kept = (w, deep)
datums_kept pool k l zero change (datum d ds) w deep kept = let now = kept d refl w.0 (omega arith) in ((now.0, w.1), omega (arith, now.1))
datums_kept pool k l (suc i) change (datum d ds) w deep kept =
    let more = datums_kept pool k l i change ds w.1 (omega arith) kept in ((w.0, more.0), omega (arith, more.1))

pub list_shape : (s : Shape) (i : ℕ) (change : Datum → Datum) (h : Holding) → IsOfShape s h → IsOfShape s (in_list (in_nth change i) h)
list_shape s i change (one d) w = w
list_shape s i change (list no_datums) w = w
list_shape shape.Implicit i change (list (datum d ds)) w = absurd w
list_shape shape.Explicit i change (list (datum d ds)) w = absurd w
list_shape (shape.OneofMember o) i change (list (datum d ds)) w = absurd w
list_shape (shape.List p) zero change (list (datum d ds)) w = tt
list_shape (shape.List p) (suc i) change (list (datum d ds)) w = tt
list_shape (shape.Map k) i change (list (datum d ds)) w = absurd w
list_shape s i change (map es) w = w
