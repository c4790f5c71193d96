-- A message stays well formed where the message at a place in it is replaced by another one of its type.
use Rattle.std.proofs.Common.{◌≡◌, ◌<◌, ◌≤◌, ◌+◌, ℕ, zero, suc, max, List, [], ◌∷◌, Option, Some, None, IsSomeAnd, option_map, option_and_then, Ordering, Less, Equal, Greater, nat_cmp, rules, arith, refl, sym, ap, ◌∙◌, subst}
use Rattle.std.specs.Prelude.{Bool, true, false, ◌&&◌, if◌then◌else◌, pred, ◌-◌}
use Rattle.std.specs.Ordering.{match_ordering, MatchOrdering}
use Rattle.std.specs.Cmp.{ranks}
use Rattle.pb_schema.specs.declared.types.Kind.{Kind}
use Rattle.pb_schema.specs.declared.types.Shape.{Shape}
use Rattle.pb_schema.specs.declared.types.Shape.TheVariants as shape
use Rattle.pb_schema.specs.Types.{FieldView, Types, message_fields, field_numbered}
use Rattle.pb_schema.specs.Scalar.{Scalar}
use Rattle.pb_schema.specs.Kinds.{message_of_kind}
use Rattle.pb_value.specs.Data.{Datum, scalar, message, Datums, no_datums, datum, Entries, no_entries, entry, is_same_key, get_entry, levels_of, levels_in_entry, datums_depth, entries_depth}
use Rattle.pb_value.specs.Data.{Holding, one, list, map, Fields, no_fields, field, Message, body, fields_of, get_field, holding_depth, fields_depth, message_depth}
use Rattle.pb_value.specs.Dynamic.{Dynamic}
use Rattle.pb_value.specs.Inner.{nth_datum, type_named, as_message}
use Rattle.pb_value.specs.View.{key_view, value_view}
use Rattle.pb_value.specs.declared.body.Body.{Body}
use Rattle.pb_value.specs.declared.body.Value.{Value, the_lemmas as value_lemmas}
use Rattle.pb_value.specs.declared.body.Value.TheVariants as value
use Rattle.pb_value.specs.WellFormed.{CanStand, IsOfShape, IsDatum, AreDatums, AreEntries, KeysRise, IsBelow, IsHeld, AreFields, IsBody, IsWellFormed, RisesFrom, HasNoMember, HasOneMemberEach, oneof_at, key_of, datum_declared, datums_declared, holds_declared}
use Rattle.pb_value.specs.Change.{with_fields}
use Rattle.pb_value.proofs.InPlace.{fields_kept, RisesFrom-in_field, HasOneMemberEach-in_field, datums_kept, list_shape}
use Rattle.pb_place.specs.declared.step.PlaceStep.{PlaceStep}
use Rattle.pb_place.specs.declared.step.PlaceStep.TheVariants.{Field, Index, Key}
use Rattle.pb_place.specs.At.{content_part, value_part, as_part, message_part, part_at, seen}
use Rattle.pb_place.specs.Ask.{message_in}
use Rattle.pb_place.specs.Changed.{target, levels_above}
use Rattle.pb_value.specs.Edit.{dynamic}
use Rattle.pb_place.specs.Replaced.{in_nth, in_entry, in_field, value_or, in_datum, in_message, in_list, in_map, replaced, with_at}

-- WHERE NO MESSAGE IS

pub scalar_absent : (p : List PlaceStep) (pool : Types) (t : Option ℕ) (x : Scalar) → target p (content_part pool t (one (scalar x))) ≡ None
scalar_absent [] pool None x = refl
scalar_absent [] pool (Some m) x = refl
scalar_absent (Field n ∷ p) pool None x = refl
scalar_absent (Field n ∷ p) pool (Some m) x = refl
scalar_absent (Index i ∷ p) pool None x = refl
scalar_absent (Index i ∷ p) pool (Some m) x = refl
scalar_absent (Key k ∷ p) pool None x = refl
scalar_absent (Key k ∷ p) pool (Some m) x = refl

-- a value that is no message
abbrev is_scalar : Datum → Bool
is_scalar (scalar x) = true
is_scalar (message b) = false

scalar_value : (v : Value) → ((b : Body) → v ≡ value.Message b → ⊥) → is_scalar (value_view v) ≡ true
scalar_value v h = search (rules, value_lemmas)

datum_absent : (p : List PlaceStep) (pool : Types) (t : Option ℕ) (d : Datum) → is_scalar d ≡ true → target p (content_part pool t (one d)) ≡ None
datum_absent p pool t (scalar x) e = scalar_absent p pool t x
datum_absent p pool t (message b) e = absurd (cc)

pub value_absent : (p : List PlaceStep) (pool : Types) (t : Option ℕ) (v : Value) → ((b : Body) → v ≡ value.Message b → ⊥) → target p (content_part pool t (one (value_view v))) ≡ None
value_absent p pool t v h = datum_absent p pool t (value_view v) (scalar_value v h)

pub untyped_absent : (p : List PlaceStep) (pool : Types) (d : Datum) → target p (content_part pool None (one d)) ≡ None
untyped_absent [] pool d = refl
untyped_absent (Field n ∷ p) pool d = refl
untyped_absent (Index i ∷ p) pool d = refl
untyped_absent (Key k ∷ p) pool d = refl

index_absent : (i : ℕ) (p : List PlaceStep) (m : Option Dynamic) (d : Datum) → target (Index i ∷ p) (as_part m d) ≡ None
index_absent i p None d = refl
index_absent i p (Some v) d = refl

key_absent : (k : _) (p : List PlaceStep) (m : Option Dynamic) (d : Datum) → target (Key k ∷ p) (as_part m d) ≡ None
key_absent k p None d = refl
key_absent k p (Some v) d = refl

no_message : {A : Type 0} (o : Option Dynamic) (w : Dynamic) → o ≡ None → o ≡ Some w → A
no_message o w e q = absurd (cc)

-- FIELDS, LISTS AND MAPS WITH ONE PART CHANGED

entries_kept :
    (pool : Types) (key k : Kind) (l : ℕ) (x : Scalar) (change : Datum → Datum) (es : Entries) → AreEntries pool key k es → entries_depth es ≤ l
    → ((d : Datum) → get_entry x es ≡ Some d → IsDatum pool k d → suc (levels_in_entry d) ≤ l → IsDatum pool k (change d) × (suc (levels_in_entry (change d)) ≤ l))
    → AreEntries pool key k (in_entry change x es) × (entries_depth (in_entry change x es) ≤ l)
entries_kept pool key k l x change no_entries w deep kept = (w, deep)
entries_kept pool key k l x change (entry y d es) w deep kept = told (is_same_key x y) (λ later. entries_kept pool key k l x change es w.2 (omega arith) later) kept
  where
    Kept : Option Datum → Type 0
    Kept o = (e : Datum) → o ≡ Some e → IsDatum pool k e → suc (levels_in_entry e) ≤ l → IsDatum pool k (change e) × (suc (levels_in_entry (change e)) ≤ l)

    told :
        (b : Bool) → (Kept (get_entry x es) → AreEntries pool key k (in_entry change x es) × (entries_depth (in_entry change x es) ≤ l))
        → Kept (if b then Some d else get_entry x es)
        → AreEntries pool key k (if b then entry y (change d) es else entry y d (in_entry change x es))
        × (entries_depth (if b then entry y (change d) es else entry y d (in_entry change x es)) ≤ l)
    told true later here = let now = here d refl w.1 (omega arith) in ((w.0, now.0, w.2), omega (arith, now.1))
    told false later here = let more = later here in ((w.0, w.1, more.0), omega (arith, more.1))

IsBelow-in_entry : (y x : Scalar) (change : Datum → Datum) (es : Entries) → IsBelow y es → IsBelow y (in_entry change x es)
IsBelow-in_entry y x change no_entries h = tt
IsBelow-in_entry y x change (entry z d es) h = told (is_same_key x z)
  where
    told : (b : Bool) → IsBelow y (if b then entry z (change d) es else entry z d (in_entry change x es))
    told true = h
    told false = h

KeysRise-in_entry : (x : Scalar) (change : Datum → Datum) (es : Entries) → KeysRise es → KeysRise (in_entry change x es)
KeysRise-in_entry x change no_entries w = tt
KeysRise-in_entry x change (entry y d es) w = told (is_same_key x y) (KeysRise-in_entry x change es w.1)
  where
    told : (b : Bool) → KeysRise (in_entry change x es) → KeysRise (if b then entry y (change d) es else entry y d (in_entry change x es))
    told true later = w
    told false later = (IsBelow-in_entry y x change es w.0, later)

-- WHAT A FIELD HOLDS: ITS SHAPE, AND THE NUMBERS OF ENUMS IN IT

message_shape : (s : Shape) (change : Message → Message) (h : Holding) → IsOfShape s h → IsOfShape s (in_message change h)
message_shape s change (one (scalar x)) w = w
message_shape shape.Implicit change (one (message v)) w = w
message_shape shape.Explicit change (one (message v)) w = w
message_shape (shape.OneofMember o) change (one (message v)) w = w
message_shape (shape.List p) change (one (message v)) w = w
message_shape (shape.Map k) change (one (message v)) w = w
message_shape s change (list ds) w = w
message_shape s change (map es) w = w

map_shape : (s : Shape) (x : Scalar) (change : Datum → Datum) (h : Holding) → IsOfShape s h → IsOfShape s (in_map (in_entry change x) h)
map_shape s x change (one d) w = w
map_shape s x change (list ds) w = w
map_shape s x change (map no_entries) w = w
map_shape shape.Implicit x change (map (entry y d es)) w = absurd w
map_shape shape.Explicit x change (map (entry y d es)) w = absurd w
map_shape (shape.OneofMember o) x change (map (entry y d es)) w = absurd w
map_shape (shape.List p) x change (map (entry y d es)) w = absurd w
map_shape (shape.Map k) x change (map (entry y d es)) w = told (is_same_key x y)
  where
    told : (b : Bool) → IsOfShape (shape.Map k) (map (if b then entry y (change d) es else entry y d (in_entry change x es)))
    told true = tt
    told false = tt

shape_kept : (p : List PlaceStep) (new : Message) (s : Shape) (h : Holding) → IsOfShape s h → IsOfShape s (replaced p new h)
shape_kept [] new s h w = message_shape s (λ v. new) h w
shape_kept (Field n ∷ p) new s h w = message_shape s (λ v. with_fields v (in_field (replaced p new) n (fields_of v))) h w
shape_kept (Index i ∷ p) new s h w = list_shape s i (in_datum (replaced p new)) h w
shape_kept (Key k ∷ p) new s h w = map_shape s (key_view k) (in_datum (replaced p new)) h w

value_declared : (pool : Types) (k : Kind) (d : Datum) (h : Holding) → holds_declared pool k h ≡ datum_declared pool k d → datum_declared pool k (value_or d h) ≡ datum_declared pool k d
value_declared pool k d (one e) q = q
value_declared pool k d (list ds) q = refl
value_declared pool k d (map es) q = refl

nth_declared :
    (pool : Types) (k : Kind) (change : Datum → Datum) (i : ℕ) (ds : Datums) → ((d : Datum) → datum_declared pool k (change d) ≡ datum_declared pool k d)
    → datums_declared pool k (in_nth change i ds) ≡ datums_declared pool k ds
nth_declared pool k change i no_datums same = refl
nth_declared pool k change zero (datum d ds) same = ap (λ (b : Bool). b && datums_declared pool k ds) (same d)
nth_declared pool k change (suc i) (datum d ds) same = ap (λ (b : Bool). datum_declared pool k d && b) (nth_declared pool k change i ds same)

message_declared : (pool : Types) (k : Kind) (change : Message → Message) (h : Holding) → holds_declared pool k (in_message change h) ≡ holds_declared pool k h
message_declared pool k change (one (scalar x)) = refl
message_declared pool k change (one (message v)) = refl
message_declared pool k change (list ds) = refl
message_declared pool k change (map es) = refl

list_declared :
    (pool : Types) (k : Kind) (change : Datum → Datum) (i : ℕ) (h : Holding) → ((d : Datum) → datum_declared pool k (change d) ≡ datum_declared pool k d)
    → holds_declared pool k (in_list (in_nth change i) h) ≡ holds_declared pool k h
list_declared pool k change i (one d) same = refl
list_declared pool k change i (list ds) same = nth_declared pool k change i ds same
list_declared pool k change i (map es) same = refl

map_declared : (pool : Types) (k : Kind) (change : Entries → Entries) (h : Holding) → holds_declared pool k (in_map change h) ≡ holds_declared pool k h
map_declared pool k change (one d) = refl
map_declared pool k change (list ds) = refl
map_declared pool k change (map es) = refl

declared_kept : (p : List PlaceStep) (new : Message) (pool : Types) (k : Kind) (h : Holding) → holds_declared pool k (replaced p new h) ≡ holds_declared pool k h
declared_kept [] new pool k h = message_declared pool k (λ v. new) h
declared_kept (Field n ∷ p) new pool k h = message_declared pool k (λ v. with_fields v (in_field (replaced p new) n (fields_of v))) h
declared_kept (Index i ∷ p) new pool k h =
    list_declared pool k (in_datum (replaced p new)) i h (λ d. value_declared pool k d (replaced p new (one d)) (declared_kept p new pool k (one d)))
declared_kept (Key x ∷ p) new pool k h = map_declared pool k (in_entry (in_datum (replaced p new)) (key_view x)) h

-- THE MESSAGE AT A PLACE

-- so many levels less those that a place leads into
abbrev pub left_after : List PlaceStep → ℕ → ℕ
left_after [] l = l
left_after (Field n ∷ p) l = left_after p (pred l)
left_after (Index i ∷ p) l = left_after p l
left_after (Key k ∷ p) l = left_after p l

-- a message of a type nests at most so deep
abbrev pub Fits : Types → ℕ → ℕ → Message → Type 0
Fits pool m l v = IsBody pool m v × (suc (message_depth v) ≤ l)

-- the message that replaces another fits where that one did
abbrev pub Fills : List PlaceStep → ℕ → Dynamic → Message → Type 0
Fills p l w new = IsBody w.pool w.kind new × (suc (message_depth w.body) ≤ left_after p l → suc (message_depth new) ≤ left_after p l)

-- with the message at a place replaced so, a content is as well formed as it was
abbrev Keeps : List PlaceStep → Type 0
Keeps p =
    (pool : Types) (s : Shape) (k : Kind) (l : ℕ) (h : Holding) (w : Dynamic) (new : Message) → IsHeld pool s k h → holding_depth h ≤ l
    → target p (content_part pool (message_of_kind k) h) ≡ Some w → Fills p l w new → IsHeld pool s k (replaced p new h) × (holding_depth (replaced p new h) ≤ l)

-- the same of a message
abbrev MessageKeeps : List PlaceStep → Type 0
MessageKeeps p =
    (pool : Types) (m l : ℕ) (v : Message) (w : Dynamic) (new : Message) → Fits pool m l v → target p (message_part (dynamic pool m v)) ≡ Some w → Fills p l w new
    → Fits pool m l (with_at p new v)

end_keeps : MessageKeeps []
end_keeps pool m l v w new fits there fills =
    let same : dynamic pool m v ≡ w = cc in
    (subst (λ (x : Dynamic). IsBody x.pool x.kind new) (sym same) fills.0, fills.1 (subst (λ (x : Dynamic). suc (message_depth x.body) ≤ l) same fits.1))

field_keeps : (n : ℕ) (p : List PlaceStep) → Keeps p → MessageKeeps (Field n ∷ p)
field_keeps n p rec pool m zero v w new fits there fills = absurd (let deep = fits.1 in omega (arith, deep))
field_keeps n p rec pool m (suc l) (body fs us) w new fits there fills =
    let deep = fits.1 in
    let more = fields_kept pool (message_fields pool m) l n (replaced p new) fs fits.0.0 (omega (arith, deep)) stands in (
      (more.0, RisesFrom-in_field (replaced p new) 0 n fs fits.0.1, HasOneMemberEach-in_field (message_fields pool m) (replaced p new) n fs fits.0.2, fits.0.3),
      omega (arith, deep, more.1),
    )
  where
    of_field :
        (o : Option FieldView) (g : Holding) → IsSomeAnd o (λ f. IsOfShape f.shape g × IsHeld pool f.shape f.kind g × (holds_declared pool f.kind g ≡ true))
        → holding_depth g ≤ l → target p (content_part pool (option_and_then (λ (f : FieldView). message_of_kind f.kind) o) g) ≡ Some w
        → IsSomeAnd o (λ f. IsOfShape f.shape (replaced p new g) × IsHeld pool f.shape f.kind (replaced p new g) × (holds_declared pool f.kind (replaced p new g) ≡ true))
        × (holding_depth (replaced p new g) ≤ l)
    of_field None g a d e = absurd a
    of_field (Some f) g a d e =
        let more = rec pool f.shape f.kind l g w new a.1 d e fills in
        ((shape_kept p new f.shape g a.0, more.0, declared_kept p new pool f.kind g ∙ a.2), more.1)

    stands :
        (g : Holding) → get_field n fs ≡ Some g → CanStand pool (message_fields pool m) n g → holding_depth g ≤ l
        → CanStand pool (message_fields pool m) n (replaced p new g) × (holding_depth (replaced p new g) ≤ l)
    stands g found a d =
        of_field (field_numbered n (message_fields pool m)) g a d
        (subst (λ (o : Option Holding). option_and_then message_in (option_map seen (option_and_then (part_at p) (option_map (content_part pool (type_named pool m n)) o))) ≡ Some w) found there)

-- a value that is a message
one_keeps : (p : List PlaceStep) → MessageKeeps p → (pool : Types) (k : Kind) (l : ℕ) (v : Message) (w : Dynamic) (new : Message) → IsDatum pool k (message v)
    → suc (message_depth v) ≤ l → target p (content_part pool (message_of_kind k) (one (message v))) ≡ Some w → Fills p l w new
    → IsDatum pool k (message (with_at p new v)) × (suc (message_depth (with_at p new v)) ≤ l)
one_keeps p rec pool k l v w new held deep there fills = of_type (message_of_kind k) held there
  where
    of_type :
        (o : Option ℕ) → IsSomeAnd o (λ m. IsBody pool m v) → target p (content_part pool o (one (message v))) ≡ Some w
        → IsSomeAnd o (λ m. IsBody pool m (with_at p new v)) × (suc (message_depth (with_at p new v)) ≤ l)
    of_type None h e = absurd h
    of_type (Some m) h e = rec pool m l v w new (h, deep) e fills

-- a value that is changed as what a field holds
value_kept :
    (pool : Types) (s : Shape) (k : Kind) (l : ℕ) (d : Datum) (h : Holding) → IsDatum pool k d → levels_of d ≤ l → IsHeld pool s k h → holding_depth h ≤ l
    → IsDatum pool k (value_or d h) × (levels_of (value_or d h) ≤ l)
value_kept pool s k l d (one e) a b c q = (c, q)
value_kept pool s k l d (list ds) a b c q = (a, b)
value_kept pool s k l d (map es) a b c q = (a, b)

levels-entry : (d : Datum) → levels_of d ≤ suc (levels_in_entry d)
levels-entry (scalar x) = omega arith
levels-entry (message b) = omega arith

entry-levels : (d : Datum) (l : ℕ) → 1 ≤ l → levels_of d ≤ l → suc (levels_in_entry d) ≤ l
entry-levels (scalar x) l a b = omega arith
entry-levels (message v) l a b = omega arith

keeps : (p : List PlaceStep) → Keeps p
keeps [] pool s k l (one (scalar x)) w new held deep there fills = no_message _ w (scalar_absent [] pool (message_of_kind k) x) there
keeps [] pool s k l (one (message v)) w new held deep there fills = one_keeps [] end_keeps pool k l v w new held deep there fills
keeps [] pool s k l (list ds) w new held deep there fills = absurd (cc)
keeps [] pool s k l (map es) w new held deep there fills = absurd (cc)
keeps (Field n ∷ p) pool s k l (one (scalar x)) w new held deep there fills = no_message _ w (scalar_absent (Field n ∷ p) pool (message_of_kind k) x) there
keeps (Field n ∷ p) pool s k l (one (message v)) w new held deep there fills = one_keeps (Field n ∷ p) (field_keeps n p (keeps p)) pool k l v w new held deep there fills
keeps (Field n ∷ p) pool s k l (list ds) w new held deep there fills = absurd (cc)
keeps (Field n ∷ p) pool s k l (map es) w new held deep there fills = absurd (cc)
keeps (Index i ∷ p) pool s k l (one d) w new held deep there fills = no_message _ w (index_absent i p (as_message pool (message_of_kind k) d) d) there
keeps (Index i ∷ p) pool s k l (list ds) w new held deep there fills = in_elements (keeps p)
  where
    in_elements : Keeps p → AreDatums pool k (in_nth (in_datum (replaced p new)) i ds) × (datums_depth (in_nth (in_datum (replaced p new)) i ds) ≤ l)
    in_elements rec =
        datums_kept pool k l i (in_datum (replaced p new)) ds held deep
        (λ d found a b.
        let inner = subst (λ (o : Option Datum). option_and_then message_in (option_map seen (option_and_then (part_at p) (option_map (value_part pool (message_of_kind k)) o))) ≡ Some w) found there in
        let more = rec pool s k l (one d) w new a b inner fills in
        value_kept pool s k l d (replaced p new (one d)) a b more.0 more.1)
keeps (Index i ∷ p) pool s k l (map es) w new held deep there fills = absurd (cc)
keeps (Key x ∷ p) pool s k l (one d) w new held deep there fills = no_message _ w (key_absent x p (as_message pool (message_of_kind k) d) d) there
keeps (Key x ∷ p) pool s k l (list ds) w new held deep there fills = absurd (cc)
keeps (Key x ∷ p) pool s k l (map es) w new held deep there fills = in_entries (keeps p) (key_of s) held
  where
    one_entry :
        Keeps p → (d : Datum) → get_entry (key_view x) es ≡ Some d → IsDatum pool k d → suc (levels_in_entry d) ≤ l
        → IsDatum pool k (in_datum (replaced p new) d) × (suc (levels_in_entry (in_datum (replaced p new) d)) ≤ l)
    one_entry rec d found a b =
        let few : levels_of d ≤ l = let c = levels-entry d in omega (arith, c) in
        let inner = subst (λ (o : Option Datum). option_and_then message_in (option_map seen (option_and_then (part_at p) (option_map (value_part pool (message_of_kind k)) o))) ≡ Some w) found there in
        let more = rec pool s k l (one d) w new a few inner fills in
        let now = value_kept pool s k l d (replaced p new (one d)) a few more.0 more.1 in
        (now.0, entry-levels (in_datum (replaced p new) d) l (omega arith) now.1)

    in_entries :
        Keeps p → (o : Option Kind) → IsSomeAnd o (λ key. AreEntries pool key k es × KeysRise es)
        → IsSomeAnd o (λ key. AreEntries pool key k (in_entry (in_datum (replaced p new)) (key_view x) es) × KeysRise (in_entry (in_datum (replaced p new)) (key_view x) es))
        × (entries_depth (in_entry (in_datum (replaced p new)) (key_view x) es) ≤ l)
    in_entries rec None a = absurd a
    in_entries rec (Some key) a =
        let more = entries_kept pool key k l (key_view x) (in_datum (replaced p new)) es a.0 deep (one_entry rec) in
        ((more.0, KeysRise-in_entry (key_view x) (in_datum (replaced p new)) es a.1), more.1)

message_keeps : (p : List PlaceStep) → MessageKeeps p
message_keeps [] = end_keeps
message_keeps (Field n ∷ p) = field_keeps n p (keeps p)
message_keeps (Index i ∷ p) = λ pool m l v w new fits there fills. absurd (cc)
message_keeps (Key k ∷ p) = λ pool m l v w new fits there fills. absurd (cc)

left_levels : (p : List PlaceStep) (l : ℕ) → left_after p l ≡ l - levels_above p
left_levels [] l = omega arith
left_levels (Field n ∷ p) zero = left_levels p zero ∙ omega arith
left_levels (Field n ∷ p) (suc l) = left_levels p l ∙ omega arith
left_levels (Index i ∷ p) l = left_levels p l
left_levels (Key k ∷ p) l = left_levels p l

-- A well-formed message stays so where the one at a place in it is replaced by a well-formed one of its type that nests no deeper, or by no more
-- levels than are left there.
pub stays_well_formed :
    (p : List PlaceStep) (pool : Types) (m : ℕ) (v : Message) (w : Dynamic) (new : Message) (brings : ℕ) → IsWellFormed pool m v
    → target p (message_part (dynamic pool m v)) ≡ Some w → IsWellFormed w.pool w.kind new → message_depth new ≤ max (message_depth w.body) brings
    → brings ≤ 100 - levels_above p → IsWellFormed pool m (with_at p new v)
stays_well_formed p pool m v w new brings good there fresh grows few =
    let deep = good.depth in
    let levels = left_levels p 101 in
    let grown : suc (message_depth w.body) ≤ left_after p 101 → suc (message_depth new) ≤ left_after p 101 = λ h. omega (arith, levels) in
    let kept = message_keeps p pool m 101 v w new (good.parts, omega (arith, deep)) there (fresh.parts, grown) in
    let now = kept.1 in record { parts = kept.0; depth = omega (arith, now) }
