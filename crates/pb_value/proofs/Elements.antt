-- Another element in a list, or one less: what is left, and that a message stays well formed.
use Rattle.std.proofs.Common.{◌≡◌, ◌≤◌, ℕ, zero, suc, max, length, List, [], ◌∷◌, Option, Some, None, IsSomeAnd, option_map, Ordering, Less, Equal, Greater, nat_cmp, rules, arith, refl, sym, ap, ◌∙◌, subst}
use Rattle.std.specs.Prelude.{Bool, true, false, ◌==◌, ◌&&◌, if◌then◌else◌}
use Rattle.std.specs.List.{remove}
use Rattle.std.proofs.lemmas.Bool.Decides.{nat_tests}
use Rattle.std.specs.Ordering.{match_ordering}
use Rattle.pb_schema.specs.declared.types.Kind.{Kind}
use Rattle.pb_schema.specs.declared.types.Shape.{Shape}
use Rattle.pb_schema.specs.declared.types.Shape.TheVariants as shape
use Rattle.pb_schema.specs.Types.{FieldView, Types, message_fields, field_numbered}
use Rattle.pb_value.specs.Data.{Datum, Datums, no_datums, datum, levels_of, datums_depth}
use Rattle.pb_value.specs.Data.{Holding, one, list, map, Fields, no_fields, field, Message, body, fields_of, get_field, drop_field, holding_depth, fields_depth}
use Rattle.pb_value.specs.View.{value_view, values_view, content_view}
use Rattle.pb_value.specs.WellFormed.{CanStand, IsOfShape, IsHeld, AreDatums, IsWellFormed, datum_declared, datums_declared, holds_declared}
use Rattle.pb_value.specs.declared.body.Content.{Content, the_lemmas as content_lemmas}
use Rattle.pb_value.specs.declared.body.Content.TheVariants as content
use Rattle.pb_value.specs.declared.body.Value.{Value}
use Rattle.pb_value.proofs.ChangeLemmas.{IsWellFormed-drop_field}
use Rattle.pb_value.proofs.PartLemmas.{IsWellFormed-push}
use Rattle.pb_value.specs.Change.{with_fields, drop_nth, is_empty_list, holds_empty_list, put_nth, take_nth, in_nth, in_list, in_field, IsElement}
use Rattle.pb_value.proofs.InPlace.{datums_kept, fields_kept, list_shape, RisesFrom-in_field, HasOneMemberEach-in_field}
use Rattle.pb_value.proofs.Removed.{get_field-in_field, drop_field-in_field, in_field_depth}

-- ELEMENTS

pub values_view-remove : (i : ℕ) (vs : List Value) → values_view (remove vs i) ≡ drop_nth i (values_view vs)
values_view-remove zero [] = refl
values_view-remove (suc i) [] = refl
values_view-remove zero (v ∷ vs) = refl
values_view-remove (suc i) (v ∷ vs) = ap (datum (value_view v)) (values_view-remove i vs)

pub in_nth-past : (change : Datum → Datum) (i : ℕ) (vs : List Value) → length vs ≤ i → in_nth change i (values_view vs) ≡ values_view vs
in_nth-past change i [] l = refl
in_nth-past change zero (v ∷ vs) l = absurd (omega (arith, l))
in_nth-past change (suc i) (v ∷ vs) l = ap (datum (value_view v)) (in_nth-past change i vs (omega (arith, l)))

pub drop_nth-past : (i : ℕ) (vs : List Value) → length vs ≤ i → drop_nth i (values_view vs) ≡ values_view vs
drop_nth-past i [] l = refl
drop_nth-past zero (v ∷ vs) l = absurd (omega (arith, l))
drop_nth-past (suc i) (v ∷ vs) l = ap (datum (value_view v)) (drop_nth-past i vs (omega (arith, l)))

no_zero : (n : ℕ) → (suc n == 0) ≡ false
no_zero n = grind (arith, nat_tests)

pub empty_list : (vs : List Value) (n : ℕ) → n ≡ length vs → (n == 0) ≡ is_empty_list (list (values_view vs))
empty_list [] n e = rw e refl
empty_list (v ∷ vs) n e = ap (λ (k : ℕ). k == 0) e ∙ no_zero (length vs)

pub no_list : (c : Content) → ((v : _) → c ≡ content.List v → ⊥) → is_empty_list (content_view c) ≡ false
no_list c h = search (rules, content_lemmas)

AreDatums-drop_nth : (pool : Types) (k : Kind) (i : ℕ) (ds : Datums) → AreDatums pool k ds → AreDatums pool k (drop_nth i ds)
AreDatums-drop_nth pool k i no_datums w = w
AreDatums-drop_nth pool k zero (datum d ds) w = w.1
AreDatums-drop_nth pool k (suc i) (datum d ds) w = (w.0, AreDatums-drop_nth pool k i ds w.1)

drop_nth_depth : (i : ℕ) (ds : Datums) → datums_depth (drop_nth i ds) ≤ datums_depth ds
drop_nth_depth i no_datums = omega arith
drop_nth_depth zero (datum d ds) = omega arith
drop_nth_depth (suc i) (datum d ds) = let more = drop_nth_depth i ds in omega (arith, more)

both_true : (a b : Bool) → (a && b) ≡ true → (a ≡ true) × (b ≡ true)
both_true true true e = (refl, refl)
both_true true false e = absurd (cc)
both_true false b e = absurd (cc)

and_true : (a b : Bool) → a ≡ true → b ≡ true → (a && b) ≡ true
and_true a b p q = rw (p, q)

declared-drop_nth : (pool : Types) (k : Kind) (i : ℕ) (ds : Datums) → datums_declared pool k ds ≡ true → datums_declared pool k (drop_nth i ds) ≡ true
declared-drop_nth pool k i no_datums e = e
declared-drop_nth pool k zero (datum d ds) e = (both_true (datum_declared pool k d) (datums_declared pool k ds) e).1
declared-drop_nth pool k (suc i) (datum d ds) e =
    let both = both_true (datum_declared pool k d) (datums_declared pool k ds) e in
    and_true (datum_declared pool k d) (datums_declared pool k (drop_nth i ds)) both.0 (declared-drop_nth pool k i ds both.1)

declared-in_nth :
    (pool : Types) (k : Kind) (i : ℕ) (d : Datum) (ds : Datums) → datum_declared pool k d ≡ true → datums_declared pool k ds ≡ true
    → datums_declared pool k (in_nth (λ e. d) i ds) ≡ true
declared-in_nth pool k i d no_datums t e = e
declared-in_nth pool k zero d (datum f ds) t e =
    and_true (datum_declared pool k d) (datums_declared pool k ds) t (both_true (datum_declared pool k f) (datums_declared pool k ds) e).1
declared-in_nth pool k (suc i) d (datum f ds) t e =
    let both = both_true (datum_declared pool k f) (datums_declared pool k ds) e in
    and_true (datum_declared pool k f) (datums_declared pool k (in_nth (λ g. d) i ds)) both.0 (declared-in_nth pool k i d ds t both.1)

in_nth_depth : (i : ℕ) (d : Datum) (ds : Datums) → datums_depth (in_nth (λ e. d) i ds) ≤ max (datums_depth ds) (levels_of d)
in_nth_depth i d no_datums = omega arith
in_nth_depth zero d (datum f ds) = omega arith
in_nth_depth (suc i) d (datum f ds) = let more = in_nth_depth i d ds in omega (arith, more)

-- WHAT A FIELD HOLDS

some_left : (s : Shape) (ds es : Datums) → IsOfShape s (list ds) → is_empty_list (list es) ≡ false → IsOfShape s (list es)
some_left s ds no_datums w e = absurd (cc)
some_left shape.Implicit ds (datum d es) w e = absurd w
some_left shape.Explicit ds (datum d es) w e = absurd w
some_left (shape.OneofMember o) ds (datum d es) w e = absurd w
some_left (shape.List p) ds (datum d es) w e = tt
some_left (shape.Map k) ds (datum d es) w e = absurd w

removed_stands : (pool : Types) (all : List FieldView) (n i : ℕ) (h : Holding) → is_empty_list (in_list (drop_nth i) h) ≡ false → CanStand pool all n h → CanStand pool all n (in_list (drop_nth i) h)
removed_stands pool all n i (one d) full w = w
removed_stands pool all n i (map es) full w = w
removed_stands pool all n i (list ds) full w = of_field (field_numbered n all) w
  where
    of_field :
        (o : Option FieldView) → IsSomeAnd o (λ f. IsOfShape f.shape (list ds) × IsHeld pool f.shape f.kind (list ds) × (holds_declared pool f.kind (list ds) ≡ true))
        → IsSomeAnd o (λ f. IsOfShape f.shape (list (drop_nth i ds)) × IsHeld pool f.shape f.kind (list (drop_nth i ds)) × (holds_declared pool f.kind (list (drop_nth i ds)) ≡ true))
    of_field None a = absurd a
    of_field (Some f) a = (some_left f.shape ds (drop_nth i ds) a.0 full, AreDatums-drop_nth pool f.kind i ds a.1, declared-drop_nth pool f.kind i ds a.2)

removed_depth : (i : ℕ) (h : Holding) → holding_depth (in_list (drop_nth i) h) ≤ holding_depth h
removed_depth i (one d) = omega arith
removed_depth i (list ds) = drop_nth_depth i ds
removed_depth i (map es) = omega arith

replaced_depth : (i : ℕ) (d : Datum) (h : Holding) → holding_depth (in_list (in_nth (λ e. d) i) h) ≤ max (holding_depth h) (levels_of d)
replaced_depth i d (one e) = omega arith
replaced_depth i d (list ds) = in_nth_depth i d ds
replaced_depth i d (map es) = omega arith

replaced_stands :
    (pool : Types) (all : List FieldView) (l n i : ℕ) (d : Datum) (h : Holding) → CanStand pool all n (list (datum d no_datums)) → levels_of d ≤ l
    → CanStand pool all n h → holding_depth h ≤ l
    → CanStand pool all n (in_list (in_nth (λ e. d) i) h) × (holding_depth (in_list (in_nth (λ e. d) i) h) ≤ l)
replaced_stands pool all l n i d (one e) alone few w deep = (w, deep)
replaced_stands pool all l n i d (map es) alone few w deep = (w, deep)
replaced_stands pool all l n i d (list ds) alone few w deep = of_field (field_numbered n all) alone w
  where
    of_field :
        (o : Option FieldView)
        → IsSomeAnd o (λ f. IsOfShape f.shape (list (datum d no_datums)) × IsHeld pool f.shape f.kind (list (datum d no_datums)) × (holds_declared pool f.kind (list (datum d no_datums)) ≡ true))
        → IsSomeAnd o (λ f. IsOfShape f.shape (list ds) × IsHeld pool f.shape f.kind (list ds) × (holds_declared pool f.kind (list ds) ≡ true))
        → IsSomeAnd o (λ f. IsOfShape f.shape (list (in_nth (λ e. d) i ds)) × IsHeld pool f.shape f.kind (list (in_nth (λ e. d) i ds)) × (holds_declared pool f.kind (list (in_nth (λ e. d) i ds)) ≡ true))
        × (datums_depth (in_nth (λ e. d) i ds) ≤ l)
    of_field None a b = absurd a
    of_field (Some f) a b =
        let kept = datums_kept pool f.kind l i (λ e. d) ds b.1 deep (λ e found was shallow. (a.1.0, few)) in
        let known = (both_true (datum_declared pool f.kind d) true a.2).0 in
        ((list_shape f.shape i (λ e. d) (list ds) b.0, kept.0, declared-in_nth pool f.kind i d ds known b.2), kept.1)

-- FIELDS

-- a message with a list of this one value in a field, and nothing else
list_alone : ℕ → Datum → Message
list_alone n d = body (field n (list (datum d no_datums)) no_fields) []

nothing_is_well_formed : (pool : Types) (m : ℕ) → IsWellFormed pool m (body no_fields [])
nothing_is_well_formed pool m = record { parts = (tt, tt, tt, tt); depth = omega arith }

alone_is_well_formed : (pool : Types) (m n : ℕ) (d : Datum) → IsElement pool m n d → IsWellFormed pool m (list_alone n d)
unfolding list_alone
alone_is_well_formed pool m n d ok = IsWellFormed-push pool m n d (body no_fields []) ok (nothing_is_well_formed pool m)

-- with another element a message stays well formed
pub replaced_stays :
    (pool : Types) (m n i : ℕ) (d : Datum) (v : Message) → IsElement pool m n d → IsWellFormed pool m v → IsWellFormed pool m (with_fields v (put_nth n i d (fields_of v)))
unfolding list_alone
replaced_stays pool m n i d (body fs us) ok w =
    let alone = alone_is_well_formed pool m n d ok in
    let deep = w.depth in
    let own = alone.depth in
    let few : levels_of d ≤ 100 = omega (arith, own) in
    let kept = fields_kept pool (message_fields pool m) 100 n (in_list (in_nth (λ e. d) i)) fs w.parts.0 (omega (arith, deep))
    (λ h found a shallow. replaced_stands pool (message_fields pool m) 100 n i d h alone.parts.0.0 few a shallow) in
    record {
      parts = (
        kept.0,
        RisesFrom-in_field (in_list (in_nth (λ e. d) i)) 0 n fs w.parts.1,
        HasOneMemberEach-in_field (message_fields pool m) (in_list (in_nth (λ e. d) i)) n fs w.parts.2,
        w.parts.3,
      );
      depth = (let shallow = kept.1 in omega (arith, deep, shallow));
    }

-- and with one element less
pub taken_stays : (pool : Types) (m n i : ℕ) (v : Message) → IsWellFormed pool m v → IsWellFormed pool m (with_fields v (take_nth n i (fields_of v)))
taken_stays pool m n i (body fs us) w = told (holds_empty_list (get_field n (in_field change n fs))) refl
  where
    change : Holding → Holding
    change = in_list (drop_nth i)

    full : (h : Holding) → get_field n fs ≡ Some h → holds_empty_list (get_field n (in_field change n fs)) ≡ false → is_empty_list (change h) ≡ false
    full h found e = sym (ap holds_empty_list (get_field-in_field change n fs ∙ ap (option_map change) found)) ∙ e

    told : (b : Bool) → holds_empty_list (get_field n (in_field change n fs)) ≡ b → IsWellFormed pool m (body (if b then drop_field n (in_field change n fs) else in_field change n fs) us)
    told true e = subst (λ (gs : Fields). IsWellFormed pool m (body gs us)) (sym (drop_field-in_field change n fs)) (IsWellFormed-drop_field pool m n (body fs us) w)
    told false e =
        let deep = w.depth in
        let kept = fields_kept pool (message_fields pool m) 100 n change fs w.parts.0 (omega (arith, deep))
        (λ h found a d. (removed_stands pool (message_fields pool m) n i h (full h found e) a, (let c = removed_depth i h in omega (arith, c)))) in
        record {
          parts = (kept.0, RisesFrom-in_field change 0 n fs w.parts.1, HasOneMemberEach-in_field (message_fields pool m) change n fs w.parts.2, w.parts.3);
          depth = (let shallow = kept.1 in omega (arith, deep, shallow));
        }

-- it nests no deeper then
pub take_nth_depth : (n i : ℕ) (fs : Fields) → ((gs : Fields) → fields_depth (drop_field n gs) ≤ fields_depth gs) → fields_depth (take_nth n i fs) ≤ fields_depth fs
take_nth_depth n i fs dropped = told (holds_empty_list (get_field n (in_field (in_list (drop_nth i)) n fs)))
  where
    told : (b : Bool) → fields_depth (if b then drop_field n (in_field (in_list (drop_nth i)) n fs) else in_field (in_list (drop_nth i)) n fs) ≤ fields_depth fs
    told true = let a = dropped (in_field (in_list (drop_nth i)) n fs) in let b = in_field_depth (in_list (drop_nth i)) n fs (removed_depth i) in omega (arith, a, b)
    told false = in_field_depth (in_list (drop_nth i)) n fs (removed_depth i)

-- nor with another element deeper than that, or than before
pub put_nth_depth : (n i : ℕ) (d : Datum) (fs : Fields) → fields_depth (put_nth n i d fs) ≤ max (fields_depth fs) (levels_of d)
put_nth_depth n i d no_fields = omega arith
put_nth_depth n i d (field k g fs) = told (nat_cmp n k) (put_nth_depth n i d fs) (replaced_depth i d g)
  where
    change : Holding → Holding
    change = in_list (in_nth (λ e. d) i)

    told :
        (o : Ordering) → fields_depth (in_field change n fs) ≤ max (fields_depth fs) (levels_of d) → holding_depth (change g) ≤ max (holding_depth g) (levels_of d)
        → fields_depth (match_ordering o (field k g (in_field change n fs)) (field k (change g) fs) (field k g (in_field change n fs))) ≤ max (fields_depth (field k g fs)) (levels_of d)
    told Less later here = omega arith
    told Equal later here = omega arith
    told Greater later here = omega arith
