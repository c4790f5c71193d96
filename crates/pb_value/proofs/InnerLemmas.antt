-- The messages that a well-formed message holds are well formed.
use Rattle.std.proofs.Common.{◌≡◌, ◌<◌, Ordering, Less, Equal, Greater, nat_cmp, ℕ, zero, suc, ◌≤◌, Option, Some, None, IsSomeAnd, option_and_then, option_map, arith, refl, sym, ap, ◌∙◌, subst, List, [], ◌∷◌, Bor}
use Rattle.std.specs.Prelude.{Bool, true, false, ◌==◌, if◌then◌else◌, string_bytes, length, slice_get}
use Rattle.std.specs.Map.{lookup}
use Rattle.std.specs.BTreeMap.{is_at}
use Rattle.std.specs.Slice.{IsItemAt}
use Rattle.std.proofs.lemmas.Option.{slice_get_past, slice_get_read}
use Rattle.std.specs.Ordering.{is_eq, MatchOrdering}
use Rattle.std.specs.Cmp.{ranks}
use Rattle.std.proofs.lemmas.Bool.Decides.{nat_tests}
use Rattle.std.proofs.lemmas.Map.Text.{is_eq-slice_cmp}
use Rattle.pb_schema.specs.declared.types.Kind.{Kind}
use Rattle.pb_schema.specs.declared.types.Shape.{Shape}
use Rattle.pb_schema.specs.Types.{FieldView, Types, message_fields, field_numbered}
use Rattle.pb_schema.specs.Scalar.{Scalar}
use Rattle.pb_schema.specs.Kinds.{message_of_kind}
use Rattle.pb_value.specs.Data.{Datum, scalar, message, Datums, no_datums, datum, Entries, no_entries, entry, Holding, one, list, map, Fields, no_fields, field, Message, body, fields_of, get_field, is_same_key, get_entry, levels_of, levels_in_entry, datums_depth, entries_depth, holding_depth, fields_depth}
use Rattle.pb_value.specs.WellFormed.{IsDatum, AreDatums, AreEntries, IsHeld, AreFields, IsBody, IsWellFormed, key_of, IsOfShape, KeysRise, holds_declared}
use Rattle.pb_value.specs.Inner.{only_datum, nth_datum, datum_at, datum_under, type_named, IsPart}
use Rattle.pb_value.specs.View.{key_view, value_view, values_view, entries_view}
use Rattle.pb_value.specs.KeyOrder.{map_key_cmp}
use Rattle.pb_value.specs.declared.body.MapKey.{MapKey}
use Rattle.pb_value.specs.declared.body.MapKey.TheVariants as map_key
use Rattle.pb_value.specs.declared.body.Value.{Value}
use Rattle.pb_value.proofs.ChangeLemmas.{by_order}

-- A VALUE OF A KIND

part-IsDatum : (pool : Types) (k : Kind) (d : Datum) → IsDatum pool k d → levels_in_entry d ≤ 100 → IsPart pool (message_of_kind k) d
part-IsDatum pool k (scalar x) w l = tt
part-IsDatum pool k (message b) w l = of_type (message_of_kind k) w
  where
    of_type : (o : Option ℕ) → IsSomeAnd o (λ m. IsBody pool m b) → IsSomeAnd o (λ m. IsWellFormed pool m b)
    of_type None h = absurd h
    of_type (Some m) h = record { parts = h; depth = l }

levels-levels_in_entry : (d : Datum) → levels_in_entry d ≤ levels_of d
levels-levels_in_entry (scalar x) = omega arith
levels-levels_in_entry (message b) = omega arith

nth_part : (pool : Types) (k : Kind) (ds : Datums) (i : ℕ) (d : Datum) → AreDatums pool k ds → datums_depth ds ≤ 100 → nth_datum ds i ≡ Some d → IsPart pool (message_of_kind k) d
nth_part pool k no_datums i d w l q = absurd (cc)
nth_part pool k (datum e es) zero d w l q =
    let same : e ≡ d = cc in
    subst (IsPart pool (message_of_kind k)) same (part-IsDatum pool k e w.0 (omega (arith, levels-levels_in_entry e)))
nth_part pool k (datum e es) (suc i) d w l q = nth_part pool k es i d w.1 (omega arith) q

entry_part :
    (pool : Types) (key k : Kind) (x : Scalar) (es : Entries) (d : Datum) → AreEntries pool key k es → entries_depth es ≤ 100 → get_entry x es ≡ Some d
    → IsPart pool (message_of_kind k) d
entry_part pool key k x no_entries d w l q = absurd (cc)
entry_part pool key k x (entry y e es) d w l q =
    by_test (is_same_key x y) (λ r. entry_part pool key k x es d w.2 (omega arith) r) q
  where
    by_test :
        (b : Bool) → (get_entry x es ≡ Some d → IsPart pool (message_of_kind k) d) → (if b then Some e else get_entry x es) ≡ Some d
        → IsPart pool (message_of_kind k) d
    by_test true later r =
        let same : e ≡ d = cc in
        subst (IsPart pool (message_of_kind k)) same (part-IsDatum pool k e w.1 (omega arith))
    by_test false later r = later r

-- WHAT A FIELD HOLDS

pub only_part : (pool : Types) (s : Shape) (k : Kind) (h : Holding) (d : Datum) → IsHeld pool s k h → holding_depth h ≤ 100 → only_datum h ≡ Some d → IsPart pool (message_of_kind k) d
only_part pool s k (one e) d w l q =
    let same : e ≡ d = cc in
    subst (IsPart pool (message_of_kind k)) same (part-IsDatum pool k e w (omega (arith, levels-levels_in_entry e)))
only_part pool s k (list ds) d w l q = absurd (cc)
only_part pool s k (map es) d w l q = absurd (cc)

pub at_part : (pool : Types) (s : Shape) (k : Kind) (i : ℕ) (h : Holding) (d : Datum) → IsHeld pool s k h → holding_depth h ≤ 100 → datum_at i h ≡ Some d → IsPart pool (message_of_kind k) d
at_part pool s k i (one e) d w l q = absurd (cc)
at_part pool s k i (list ds) d w l q = nth_part pool k ds i d w l q
at_part pool s k i (map es) d w l q = absurd (cc)

pub under_part :
    (pool : Types) (s : Shape) (k : Kind) (x : Scalar) (h : Holding) (d : Datum) → IsHeld pool s k h → holding_depth h ≤ 100 → datum_under x h ≡ Some d
    → IsPart pool (message_of_kind k) d
under_part pool s k x (one e) d w l q = absurd (cc)
under_part pool s k x (list ds) d w l q = absurd (cc)
under_part pool s k x (map es) d w l q = of_key (key_of s) w
  where
    of_key : (o : Option Kind) → IsSomeAnd o (λ key. AreEntries pool key k es × KeysRise es) → IsPart pool (message_of_kind k) d
    of_key None g = absurd g
    of_key (Some key) g = entry_part pool key k x es d g.0 l q

-- A content that stands at a field of number n
Stands : Types → List FieldView → ℕ → Holding → Type 0
Stands pool all n h = IsSomeAnd (field_numbered n all) (λ f. IsHeld pool f.shape f.kind h) × (holding_depth h ≤ 100)

stands : (pool : Types) (all : List FieldView) (n : ℕ) (h : Holding) (fs : Fields) → AreFields pool all fs → fields_depth fs ≤ 100 → get_field n fs ≡ Some h → Stands pool all n h
unfolding Stands
stands pool all n h no_fields w l e = absurd (cc)
stands pool all n h (field k g fs) w l e =
    by_order (λ (o : Option Holding). o ≡ Some h → Stands pool all n h) n k _ _ _ (λ _ q. stands pool all n h fs w.1 (omega arith) q)
    (λ same q. here same q) (λ _ q. stands pool all n h fs w.1 (omega arith) q) e
  where
    held : (o : Option FieldView) → IsSomeAnd o (λ f. IsOfShape f.shape g × IsHeld pool f.shape f.kind g × (holds_declared pool f.kind g ≡ true)) → IsSomeAnd o (λ f. IsHeld pool f.shape f.kind g)
    held None p = absurd p
    held (Some f) p = p.1

    here : n ≡ k → ◌≡◌ {A = Option Holding} (Some g) (Some h) → Stands pool all n h
    here same q =
        let content : g ≡ h = cc in
        subst (λ (x : Holding). IsSomeAnd (field_numbered n all) (λ f. IsHeld pool f.shape f.kind x) × (holding_depth x ≤ 100)) content
        (subst (λ (i : ℕ). IsSomeAnd (field_numbered i all) (λ f. IsHeld pool f.shape f.kind g)) (sym same) (held (field_numbered k all) w.0), omega arith)

-- a value of a field of a well-formed message, where each value that is taken so from what a field holds is a part
pub field_part :
    (pool : Types) (m n : ℕ) (v : Message) (h : Holding) (d : Datum)
    → ((s : Shape) (k : Kind) → IsHeld pool s k h → holding_depth h ≤ 100 → IsPart pool (message_of_kind k) d)
    → IsWellFormed pool m v → get_field n (fields_of v) ≡ Some h → IsPart pool (type_named pool m n) d
unfolding Stands
field_part pool m n (body fs us) h d taken w e =
    of_field (field_numbered n (message_fields pool m)) (stands pool (message_fields pool m) n h fs w.parts.0 (omega (arith, w.depth)) e)
  where
    of_field :
        (o : Option FieldView) → IsSomeAnd o (λ f. IsHeld pool f.shape f.kind h) × (holding_depth h ≤ 100)
        → IsPart pool (option_and_then (λ (f : FieldView). message_of_kind f.kind) o) d
    of_field None p = absurd p.0
    of_field (Some f) p = taken f.shape f.kind p.0 p.1

-- HOW THE CODE FINDS THEM

pub nth_datum-values : (vs : List Value) (i : ℕ) → nth_datum (values_view vs) i ≡ option_map value_view (slice_get vs i)
nth_datum-values [] i = refl
nth_datum-values (v ∷ vs) zero = refl
nth_datum-values (v ∷ vs) (suc i) = nth_datum-values vs i

same_number : (x y : ℕ) → is_eq (nat_cmp x y) ≡ (x == y)
same_number x y = told (nat_cmp x y) (ranks x y)
  where
    told : (o : Ordering) → MatchOrdering o (x < y) (x ≡ y) (y < x) → is_eq o ≡ (x == y)
    told Less r = grind (arith, nat_tests)
    told Equal r = grind (arith, nat_tests)
    told Greater r = grind (arith, nat_tests)

pub same_key : (a b : MapKey) → is_eq (map_key_cmp a b) ≡ is_same_key (key_view a) (key_view b)
same_key (map_key.I32 x) (map_key.I32 y) = refl
same_key (map_key.I64 x) (map_key.I64 y) = refl
same_key (map_key.U32 x) (map_key.U32 y) = same_number x y
same_key (map_key.U64 x) (map_key.U64 y) = same_number x y
same_key (map_key.Bool x) (map_key.Bool y) = refl
same_key (map_key.Text x) (map_key.Text y) = is_eq-slice_cmp (string_bytes x) (string_bytes y)
same_key a b = refl

pub get_entry-entries : (k : MapKey) (es : List (MapKey × Value)) → get_entry (key_view k) (entries_view es) ≡ option_map value_view (lookup (is_at (map_key_cmp k)) es)
get_entry-entries k [] = refl
get_entry-entries k (e ∷ es) = by_test (is_eq (map_key_cmp k e.0)) (is_same_key (key_view k) (key_view e.0)) (same_key k e.0) (get_entry-entries k es)
  where
    by_test :
        (a b : Bool) → a ≡ b → get_entry (key_view k) (entries_view es) ≡ option_map value_view (lookup (is_at (map_key_cmp k)) es)
        → (if b then Some (value_view e.1) else get_entry (key_view k) (entries_view es)) ≡ option_map value_view (if a then Some e.1 else lookup (is_at (map_key_cmp k)) es)
    by_test true true q later = refl
    by_test false false q later = later
    by_test true false q later = absurd (cc)
    by_test false true q later = absurd (cc)

value_of_ref : (r : Option (Bor Value)) → option_map (λ x. value_view x.now) r ≡ option_map value_view (option_map (λ x. x.now) r)
value_of_ref None = refl
value_of_ref (Some x) = refl

got : (r : Option (Bor Value)) (i : ℕ) (vs : List Value) → IsItemAt vs i r → option_map (λ x. x.now) r ≡ slice_get vs i
got None i vs h = sym (slice_get_past vs i h.3)
got (Some x) i vs h = sym (slice_get_read vs (length vs) i x.now refl h.3.0 h.1)

pub nth_datum-found :
    (r : Option (Bor Value)) (i : ℕ) (vs : List Value) → IsItemAt vs i r → option_map (λ x. value_view x.now) r ≡ nth_datum (values_view vs) i
nth_datum-found r i vs found = value_of_ref r ∙ ap (option_map value_view) (got r i vs found) ∙ sym (nth_datum-values vs i)

pub get_entry-found :
    (r : Option (Bor Value)) (k : MapKey) (es : List (MapKey × Value)) → option_map (λ x. x.now) r ≡ lookup (is_at (map_key_cmp k)) es
    → option_map (λ x. value_view x.now) r ≡ get_entry (key_view k) (entries_view es)
get_entry-found r k es found = value_of_ref r ∙ ap (option_map value_view) found ∙ sym (get_entry-entries k es)
