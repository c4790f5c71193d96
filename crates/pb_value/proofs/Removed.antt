-- An entry less of a map: what is left, and that a message stays well formed.
use Rattle.std.proofs.Common.{◌≡◌, ◌≤◌, ◌↔◌, ℕ, length, List, [], ◌∷◌, cond, Option, Some, None, IsSomeAnd, option_map, Ordering, Less, Equal, Greater, nat_cmp, is_eq, rules, arith, refl, sym, ap, ◌∙◌, subst, BTreeMap}
use Rattle.std.specs.Prelude.{Bool, true, false, IsTrue, if◌then◌else◌}
use Rattle.std.specs.Map.{remove_entry}
use Rattle.std.specs.BTreeMap.{is_at}
use Rattle.std.specs.Ordering.{match_ordering}
use Rattle.pb_schema.specs.declared.types.Kind.{Kind}
use Rattle.pb_schema.specs.declared.types.Shape.{Shape}
use Rattle.pb_schema.specs.declared.types.Shape.TheVariants as shape
use Rattle.pb_schema.specs.Types.{FieldView, Types, message_fields, field_numbered}
use Rattle.pb_schema.specs.Scalar.{Scalar, key_cmp}
use Rattle.pb_value.specs.Change.{with_fields, drop_entry, is_empty_map, holds_empty_map, remove_at, in_map, in_field}
use Rattle.pb_value.specs.Data.{Entries, no_entries, entry, is_same_key, entries_depth}
use Rattle.pb_value.specs.Data.{Holding, one, list, map, Fields, no_fields, field, Message, body, fields_of, get_field, drop_field, holding_depth, fields_depth}
use Rattle.pb_value.specs.KeyOrder.{map_key_cmp}
use Rattle.pb_value.specs.View.{key_view, value_view, content_view, entries_view}
use Rattle.pb_value.specs.WellFormed.{CanStand, IsOfShape, IsHeld, AreEntries, KeysRise, IsBelow, IsWellFormed, key_of, holds_declared}
use Rattle.pb_value.specs.declared.body.Content.{Content, the_lemmas as content_lemmas}
use Rattle.pb_value.specs.declared.body.Content.TheVariants as content
use Rattle.pb_value.specs.declared.body.MapKey.{MapKey}
use Rattle.pb_value.specs.declared.body.Value.{Value}
use Rattle.pb_value.proofs.ChangeLemmas.{IsWellFormed-drop_field}
use Rattle.pb_value.proofs.InnerLemmas.{same_key}
use Rattle.pb_value.proofs.KeyLemmas.{key_cmp-trans}
use Rattle.pb_value.proofs.InPlace.{fields_kept, RisesFrom-in_field, HasOneMemberEach-in_field}

-- ENTRIES

pub entries_view-remove_entry : (k : MapKey) (es : List (MapKey × Value)) → entries_view (remove_entry (is_at (map_key_cmp k)) es) ≡ drop_entry (key_view k) (entries_view es)
entries_view-remove_entry k [] = refl
entries_view-remove_entry k (e ∷ es) = told (is_eq (map_key_cmp k e.0)) (is_same_key (key_view k) (key_view e.0)) (same_key k e.0) (entries_view-remove_entry k es)
  where
    told :
        (a b : Bool) → a ≡ b → entries_view (remove_entry (is_at (map_key_cmp k)) es) ≡ drop_entry (key_view k) (entries_view es)
        → entries_view (cond a es (e ∷ remove_entry (is_at (map_key_cmp k)) es))
        ≡ (if b then entries_view es else entry (key_view e.0) (value_view e.1) (drop_entry (key_view k) (entries_view es)))
    told true true q later = refl
    told false false q later = ap (entry (key_view e.0) (value_view e.1)) later
    told true false q later = absurd (cc)
    told false true q later = absurd (cc)

AreEntries-drop_entry : (pool : Types) (key k : Kind) (x : Scalar) (es : Entries) → AreEntries pool key k es → AreEntries pool key k (drop_entry x es)
AreEntries-drop_entry pool key k x no_entries w = tt
AreEntries-drop_entry pool key k x (entry y d es) w = told (is_same_key x y) (AreEntries-drop_entry pool key k x es w.2)
  where
    told : (b : Bool) → AreEntries pool key k (drop_entry x es) → AreEntries pool key k (if b then es else entry y d (drop_entry x es))
    told true later = w.2
    told false later = (w.0, w.1, later)

below_next : (y z : Scalar) (es : Entries) → key_cmp y z ≡ Less → IsBelow z es → IsBelow y es
below_next y z no_entries a b = tt
below_next y z (entry u d es) a b = key_cmp-trans y z u a b

IsBelow-drop_entry : (y x : Scalar) (es : Entries) → IsBelow y es → KeysRise es → IsBelow y (drop_entry x es)
IsBelow-drop_entry y x no_entries b w = tt
IsBelow-drop_entry y x (entry z d es) b w = told (is_same_key x z)
  where
    told : (c : Bool) → IsBelow y (if c then es else entry z d (drop_entry x es))
    told true = below_next y z es b w.0
    told false = b

KeysRise-drop_entry : (x : Scalar) (es : Entries) → KeysRise es → KeysRise (drop_entry x es)
KeysRise-drop_entry x no_entries w = tt
KeysRise-drop_entry x (entry y d es) w = told (is_same_key x y) (KeysRise-drop_entry x es w.1)
  where
    told : (b : Bool) → KeysRise (drop_entry x es) → KeysRise (if b then es else entry y d (drop_entry x es))
    told true later = w.1
    told false later = (IsBelow-drop_entry y x es w.0 w.1, later)

drop_entry_depth : (x : Scalar) (es : Entries) → entries_depth (drop_entry x es) ≤ entries_depth es
drop_entry_depth x no_entries = omega arith
drop_entry_depth x (entry y d es) = told (is_same_key x y) (drop_entry_depth x es)
  where
    told : (b : Bool) → entries_depth (drop_entry x es) ≤ entries_depth es → entries_depth (if b then es else entry y d (drop_entry x es)) ≤ entries_depth (entry y d es)
    told true later = omega arith
    told false later = omega arith

-- WHAT A FIELD HOLDS

pub empty_map : (es : List (MapKey × Value)) (b : Bool) → IsTrue b ↔ (length es ≡ 0) → b ≡ is_empty_map (map (entries_view es))
empty_map [] true h = refl
empty_map [] false h = absurd (let e = h.1 refl in cc)
empty_map (e ∷ es) true h = absurd (let f : length (e ∷ es) ≡ 0 = h.0 refl in omega (arith, f))
empty_map (e ∷ es) false h = refl

pub no_map : (c : Content) → ((m : BTreeMap MapKey Value) → c ≡ content.Map m → ⊥) → is_empty_map (content_view c) ≡ false
no_map c h = search (rules, content_lemmas)

pub removed_depth : (x : Scalar) (h : Holding) → holding_depth (in_map (drop_entry x) h) ≤ holding_depth h
removed_depth x (one d) = omega arith
removed_depth x (list ds) = omega arith
removed_depth x (map es) = drop_entry_depth x es

some_entry : (s : Shape) (es gs : Entries) → IsOfShape s (map es) → is_empty_map (map gs) ≡ false → IsOfShape s (map gs)
some_entry s no_entries gs w e = absurd (no_shape s w)
  where
    no_shape : (s : Shape) → IsOfShape s (map no_entries) → ⊥
    no_shape shape.Implicit w = w
    no_shape shape.Explicit w = w
    no_shape (shape.OneofMember o) w = w
    no_shape (shape.List p) w = w
    no_shape (shape.Map k) w = w
some_entry s (entry x d es) no_entries w e = absurd (cc)
some_entry shape.Implicit (entry x d es) (entry y f gs) w e = absurd w
some_entry shape.Explicit (entry x d es) (entry y f gs) w e = absurd w
some_entry (shape.OneofMember o) (entry x d es) (entry y f gs) w e = absurd w
some_entry (shape.List p) (entry x d es) (entry y f gs) w e = absurd w
some_entry (shape.Map k) (entry x d es) (entry y f gs) w e = tt

removed_stands : (pool : Types) (all : List FieldView) (n : ℕ) (x : Scalar) (h : Holding) → is_empty_map (in_map (drop_entry x) h) ≡ false → CanStand pool all n h → CanStand pool all n (in_map (drop_entry x) h)
removed_stands pool all n x (one d) full w = w
removed_stands pool all n x (list ds) full w = w
removed_stands pool all n x (map es) full w = of_field (field_numbered n all) w
  where
    of_key : (k : Kind) (o : Option Kind) → IsSomeAnd o (λ key. AreEntries pool key k es × KeysRise es) → IsSomeAnd o (λ key. AreEntries pool key k (drop_entry x es) × KeysRise (drop_entry x es))
    of_key k None a = absurd a
    of_key k (Some key) a = (AreEntries-drop_entry pool key k x es a.0, KeysRise-drop_entry x es a.1)

    of_field :
        (o : Option FieldView) → IsSomeAnd o (λ f. IsOfShape f.shape (map es) × IsHeld pool f.shape f.kind (map es) × (holds_declared pool f.kind (map es) ≡ true))
        → IsSomeAnd o (λ f. IsOfShape f.shape (map (drop_entry x es)) × IsHeld pool f.shape f.kind (map (drop_entry x es)) × (holds_declared pool f.kind (map (drop_entry x es)) ≡ true))
    of_field None a = absurd a
    of_field (Some f) a = (some_entry f.shape es (drop_entry x es) a.0 full, of_key f.kind (key_of f.shape) a.1, refl)

-- FIELDS

pub in_field-none : (change : Holding → Holding) (n : ℕ) (fs : Fields) → get_field n fs ≡ None → in_field change n fs ≡ fs
in_field-none change n no_fields e = refl
in_field-none change n (field k g fs) e = told (nat_cmp n k) (in_field-none change n fs) e
  where
    told :
        (o : Ordering) → (get_field n fs ≡ None → in_field change n fs ≡ fs) → match_ordering o (get_field n fs) (Some g) (get_field n fs) ≡ None
        → match_ordering o (field k g (in_field change n fs)) (field k (change g) fs) (field k g (in_field change n fs)) ≡ field k g fs
    told Less later q = ap (field k g) (later q)
    told Equal later q = absurd (cc)
    told Greater later q = ap (field k g) (later q)

pub get_field-in_field : (change : Holding → Holding) (n : ℕ) (fs : Fields) → get_field n (in_field change n fs) ≡ option_map change (get_field n fs)
get_field-in_field change n no_fields = refl
get_field-in_field change n (field k g fs) = told (nat_cmp n k) refl (get_field-in_field change n fs)
  where
    told :
        (o : Ordering) → nat_cmp n k ≡ o → get_field n (in_field change n fs) ≡ option_map change (get_field n fs)
        → get_field n (match_ordering o (field k g (in_field change n fs)) (field k (change g) fs) (field k g (in_field change n fs)))
        ≡ option_map change (match_ordering o (get_field n fs) (Some g) (get_field n fs))
    told Less e later = ap (λ (z : Ordering). match_ordering z (get_field n (in_field change n fs)) (Some g) (get_field n (in_field change n fs))) e ∙ later
    told Equal e later = ap (λ (z : Ordering). match_ordering z (get_field n fs) (Some (change g)) (get_field n fs)) e
    told Greater e later = ap (λ (z : Ordering). match_ordering z (get_field n (in_field change n fs)) (Some g) (get_field n (in_field change n fs))) e ∙ later

pub drop_field-in_field : (change : Holding → Holding) (n : ℕ) (fs : Fields) → drop_field n (in_field change n fs) ≡ drop_field n fs
drop_field-in_field change n no_fields = refl
drop_field-in_field change n (field k g fs) = told (nat_cmp n k) refl (drop_field-in_field change n fs)
  where
    told :
        (o : Ordering) → nat_cmp n k ≡ o → drop_field n (in_field change n fs) ≡ drop_field n fs
        → drop_field n (match_ordering o (field k g (in_field change n fs)) (field k (change g) fs) (field k g (in_field change n fs)))
        ≡ match_ordering o (field k g (drop_field n fs)) fs (field k g (drop_field n fs))
    told Less e later =
        ap (λ (z : Ordering). match_ordering z (field k g (drop_field n (in_field change n fs))) (in_field change n fs) (field k g (drop_field n (in_field change n fs)))) e
        ∙ ap (field k g) later
    told Equal e later = ap (λ (z : Ordering). match_ordering z (field k (change g) (drop_field n fs)) fs (field k (change g) (drop_field n fs))) e
    told Greater e later =
        ap (λ (z : Ordering). match_ordering z (field k g (drop_field n (in_field change n fs))) (in_field change n fs) (field k g (drop_field n (in_field change n fs)))) e
        ∙ ap (field k g) later

pub in_field_depth : (change : Holding → Holding) (n : ℕ) (fs : Fields) → ((h : Holding) → holding_depth (change h) ≤ holding_depth h) → fields_depth (in_field change n fs) ≤ fields_depth fs
in_field_depth change n no_fields f = omega arith
in_field_depth change n (field k g fs) f = told (nat_cmp n k) (in_field_depth change n fs f) (f g)
  where
    told :
        (o : Ordering) → fields_depth (in_field change n fs) ≤ fields_depth fs → holding_depth (change g) ≤ holding_depth g
        → fields_depth (match_ordering o (field k g (in_field change n fs)) (field k (change g) fs) (field k g (in_field change n fs))) ≤ fields_depth (field k g fs)
    told Less later here = omega arith
    told Equal later here = omega arith
    told Greater later here = omega arith

-- without an entry a message stays well formed
pub removed_stays : (pool : Types) (m n : ℕ) (x : Scalar) (v : Message) → IsWellFormed pool m v → IsWellFormed pool m (with_fields v (remove_at n x (fields_of v)))
removed_stays pool m n x (body fs us) w = told (holds_empty_map (get_field n (in_field change n fs))) refl
  where
    change : Holding → Holding
    change = in_map (drop_entry x)

    full : (h : Holding) → get_field n fs ≡ Some h → holds_empty_map (get_field n (in_field change n fs)) ≡ false → is_empty_map (change h) ≡ false
    full h found e = sym (ap holds_empty_map (get_field-in_field change n fs ∙ ap (option_map change) found)) ∙ e

    told : (b : Bool) → holds_empty_map (get_field n (in_field change n fs)) ≡ b → IsWellFormed pool m (body (if b then drop_field n (in_field change n fs) else in_field change n fs) us)
    told true e = subst (λ (gs : Fields). IsWellFormed pool m (body gs us)) (sym (drop_field-in_field change n fs)) (IsWellFormed-drop_field pool m n (body fs us) w)
    told false e =
        let deep = w.depth in
        let kept = fields_kept pool (message_fields pool m) 100 n change fs w.parts.0 (omega (arith, deep))
        (λ h found a d. (removed_stands pool (message_fields pool m) n x h (full h found e) a, (let c = removed_depth x h in omega (arith, c)))) in
        record {
          parts = (kept.0, RisesFrom-in_field change 0 n fs w.parts.1, HasOneMemberEach-in_field (message_fields pool m) change n fs w.parts.2, w.parts.3);
          depth = (let shallow = kept.1 in omega (arith, deep, shallow));
        }

-- it nests no deeper then
pub remove_at_depth : (n : ℕ) (x : Scalar) (fs : Fields) → ((gs : Fields) → fields_depth (drop_field n gs) ≤ fields_depth gs) → fields_depth (remove_at n x fs) ≤ fields_depth fs
remove_at_depth n x fs dropped = told (holds_empty_map (get_field n (in_field (in_map (drop_entry x)) n fs)))
  where
    told : (b : Bool) → fields_depth (if b then drop_field n (in_field (in_map (drop_entry x)) n fs) else in_field (in_map (drop_entry x)) n fs) ≤ fields_depth fs
    told true = let a = dropped (in_field (in_map (drop_entry x)) n fs) in let b = in_field_depth (in_map (drop_entry x)) n fs (removed_depth x) in omega (arith, a, b)
    told false = in_field_depth (in_map (drop_entry x)) n fs (removed_depth x)
