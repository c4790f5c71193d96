-- One more element of a list and one more entry of a map keep a message well formed.
use Rattle.std.proofs.Common.{◌≡◌, ℕ, ◌≤◌, suc, max, List, Option, Some, None, IfSome, IsSomeAnd, Ordering, Less, Equal, Greater, arith, refl, sym, ap, ◌∙◌, subst}
use Rattle.std.specs.Prelude.{Bool, true, ◌&&◌}
use Rattle.std.specs.Ordering.{match_ordering}
use Rattle.pb_wire.specs.Record.{Record}
use Rattle.pb_schema.specs.declared.types.Kind.{Kind}
use Rattle.pb_schema.specs.declared.types.Shape.{Shape}
use Rattle.pb_schema.specs.declared.types.Shape.TheVariants as shape
use Rattle.pb_schema.specs.Types.{FieldView, Types, message_fields, field_numbered}
use Rattle.pb_schema.specs.Scalar.{Scalar, key_cmp}
use Rattle.pb_schema.specs.Kinds.{IsOfKind}
use Rattle.pb_value.specs.Data.{Datum, Datums, no_datums, datum, Entries, no_entries, entry, Holding, one, list, map, Fields, no_fields, field, Message, body, fields_of, get_field, put_field, put_entry, joined_datums, levels_of, levels_in_entry, datums_depth, entries_depth, holding_depth, fields_depth}
use Rattle.pb_value.specs.Judge.{has_shape, IsKeyWithin}
use Rattle.pb_value.specs.WellFormed.{IsOfShape, IsDatum, AreDatums, AreEntries, KeysRise, IsHeld, AreFields, IsWellFormed, datum_declared, datums_declared, holds_declared}
use Rattle.pb_value.specs.Change.{stored_at, with_fields, elements_of, entries_of, pushed, inserted, push_at, insert_at, is_list, is_map, IsElement, IsEntry, AreKeys, FitsKeys}
use Rattle.pb_value.proofs.ChangeLemmas.{by_order, CanStand, IsWellFormed-stored}
use Rattle.pb_value.proofs.Options.{if_some, some_of}
use Rattle.pb_value.proofs.EntryLemmas.{KeysRise-put_entry}
use Rattle.pb_value.proofs.HeldLemmas.{AreDatums-joined, datums_declared-joined, datums_depth-joined}

-- WHAT A FIELD HOLDS

pub held_at : (pool : Types) (all : List FieldView) (n : ℕ) (h : Holding) (fs : Fields) → AreFields pool all fs → get_field n fs ≡ Some h → CanStand pool all n h
held_at pool all n h no_fields w e = absurd (cc)
held_at pool all n h (field k g fs) w e =
    by_order (λ (x : Option Holding). x ≡ Some h → CanStand pool all n h) n k (get_field n fs) (Some g) (get_field n fs)
    (λ _ q. held_at pool all n h fs w.1 q)
    (λ same q. let own : g ≡ h = cc in subst (λ (x : Holding). CanStand pool all n x) own (subst (λ (i : ℕ). CanStand pool all i g) (sym same) w.0))
    (λ _ q. held_at pool all n h fs w.1 q) e

depth_at : (n : ℕ) (h : Holding) (fs : Fields) → get_field n fs ≡ Some h → holding_depth h ≤ fields_depth fs
depth_at n h no_fields e = absurd (cc)
depth_at n h (field k g fs) e =
    by_order (λ (x : Option Holding). x ≡ Some h → holding_depth h ≤ max (holding_depth g) (fields_depth fs)) n k (get_field n fs) (Some g) (get_field n fs)
    (λ _ q. let more = depth_at n h fs q in omega arith)
    (λ _ q. let own : g ≡ h = cc in subst (λ (x : Holding). holding_depth x ≤ max (holding_depth g) (fields_depth fs)) own (omega arith))
    (λ _ q. let more = depth_at n h fs q in omega arith) e

-- what a field may hold, at most 100 levels deep
Held : Types → FieldView → Holding → Type 0
Held pool f h = IsHeld pool f.shape f.kind h × (holding_depth h ≤ 100) × (holds_declared pool f.kind h ≡ true)

held : (pool : Types) (m n : ℕ) (f : FieldView) (fs : Fields) (us : List Record) → field_numbered n (message_fields pool m) ≡ Some f → IsWellFormed pool m (body fs us) → IfSome (get_field n fs) (Held pool f)
unfolding Held
held pool m n f fs us found w =
    if_some (get_field n fs) (Held pool f)
    (λ h e.
    let there = subst (λ (x : Option FieldView). IsSomeAnd x (λ (g : FieldView). IsOfShape g.shape h × IsHeld pool g.shape g.kind h × (holds_declared pool g.kind h ≡ true))) found (held_at pool (message_fields pool m) n h fs w.parts.0 e) in (
      there.1,
      (let here = depth_at n h fs e in let all = w.depth in omega arith),
      there.2,
    ))

-- ELEMENTS

elements_held : (pool : Types) (f : FieldView) (o : Option Holding) → IfSome o (Held pool f) → AreDatums pool f.kind (elements_of o) × (datums_depth (elements_of o) ≤ 100) × (datums_declared pool f.kind (elements_of o) ≡ true)
unfolding Held
elements_held pool f None h = (tt, omega arith, refl)
elements_held pool f (Some (one d)) h = (tt, omega arith, refl)
elements_held pool f (Some (list ds)) h = h
elements_held pool f (Some (map es)) h = (tt, omega arith, refl)

has_shape-list : (s : Shape) (ds : Datums) → is_list s ≡ true → has_shape s (list ds) ≡ true
has_shape-list (shape.List p) ds e = refl
has_shape-list s ds e = absurd (cc)

stored_list :
    (all : List FieldView) (s : Shape) (n : ℕ) (ds : Datums) (d : Datum) (fs : Fields) → is_list s ≡ true
    → stored_at all s n (list (joined_datums ds (datum d no_datums))) fs ≡ put_field n (list (joined_datums ds (datum d no_datums))) fs
stored_list all (shape.List p) n no_datums d fs e = refl
stored_list all (shape.List p) n (datum x ds) d fs e = refl
stored_list all s n ds d fs e = absurd (cc)

pushed_to :
    (pool : Types) (m n : ℕ) (d : Datum) (f : FieldView) (v : Message) → field_numbered n (message_fields pool m) ≡ Some f → is_list f.shape ≡ true
    → IsDatum pool f.kind d → levels_of d ≤ 100 → datum_declared pool f.kind d ≡ true → IsWellFormed pool m v → IsWellFormed pool m (with_fields v (push_at n d (fields_of v)))
pushed_to pool m n d f (body fs us) found listed good depth declared w =
    let old = elements_held pool f (get_field n fs) (held pool m n f fs us found w) in
    let ds = elements_of (get_field n fs) in
    subst (λ (gs : Fields). IsWellFormed pool m (body gs us)) (stored_list (message_fields pool m) f.shape n ds d fs listed)
    (IsWellFormed-stored pool m n (pushed d (get_field n fs)) (body fs us) f found (has_shape-list f.shape (joined_datums ds (datum d no_datums)) listed)
    (AreDatums-joined pool f.kind ds (datum d no_datums) old.0 (good, tt)) (datums_declared-joined pool f.kind ds (datum d no_datums) old.2 (ap (λ (b : Bool). b && true) declared)) (datums_depth-joined ds (datum d no_datums) 100 old.1 (omega (arith, depth))) w)

-- one more element keeps a message well formed
pub IsWellFormed-push : (pool : Types) (m n : ℕ) (d : Datum) (v : Message) → IsElement pool m n d → IsWellFormed pool m v → IsWellFormed pool m (with_fields v (push_at n d (fields_of v)))
IsWellFormed-push pool m n d v ok w =
    let f = some_of (field_numbered n (message_fields pool m)) (λ (f : FieldView). (is_list f.shape ≡ true) × IsDatum pool f.kind d × (levels_of d ≤ 100) × (datum_declared pool f.kind d ≡ true)) ok in
    pushed_to pool m n d f.0 v f.1 f.2.0 f.2.1 f.2.2 f.2.3 w

-- ENTRIES

by_cases : {A : Type 0} (P : A → Type 0) (o : Ordering) (a b c : A) → P a → P b → P c → P (match_ordering o a b c)
by_cases P Less a b c p q r = p
by_cases P Equal a b c p q r = q
by_cases P Greater a b c p q r = r

AreEntries-put_entry :
    (pool : Types) (key k : Kind) (x : Scalar) (d : Datum) (es : Entries) → IsOfKind key x → IsDatum pool k d → AreEntries pool key k es
    → AreEntries pool key k (put_entry x d es)
AreEntries-put_entry pool key k x d no_entries a b w = (a, b, tt)
AreEntries-put_entry pool key k x d (entry y e es) a b w =
    by_cases (AreEntries pool key k) (key_cmp x y) (entry x d (entry y e es)) (entry y d es) (entry y e (put_entry x d es)) (a, b, w) (w.0, b, w.2)
    (w.0, w.1, AreEntries-put_entry pool key k x d es a b w.2)

entries_depth-put_entry :
    (x : Scalar) (d : Datum) (es : Entries) (top : ℕ) → suc (levels_in_entry d) ≤ top → entries_depth es ≤ top → entries_depth (put_entry x d es) ≤ top
entries_depth-put_entry x d no_entries top a b = omega arith
entries_depth-put_entry x d (entry y e es) top a b =
    let more = entries_depth-put_entry x d es top a (omega arith) in
    by_cases (λ (gs : Entries). entries_depth gs ≤ top) (key_cmp x y) (entry x d (entry y e es)) (entry y d es) (entry y e (put_entry x d es)) (omega arith) (omega arith) (omega arith)

-- the entries of a map in a well-formed message
record AreKept (pool : Types) (key k : Kind) (es : Entries) : Type 0 where
  entries : AreEntries pool key k es
  rise : KeysRise es
  depth : entries_depth es ≤ 100

entries_held : (pool : Types) (f : FieldView) (key : Kind) (o : Option Holding) → f.shape ≡ shape.Map key → IfSome o (Held pool f) → AreKept pool key f.kind (entries_of o)
unfolding Held
entries_held pool f key None e h = record { entries = tt; rise = tt; depth = omega arith }
entries_held pool f key (Some (one d)) e h = record { entries = tt; rise = tt; depth = omega arith }
entries_held pool f key (Some (list ds)) e h = record { entries = tt; rise = tt; depth = omega arith }
entries_held pool f key (Some (map es)) e h =
    let good = subst (λ (s : Shape). IsHeld pool s f.kind (map es)) e h.0 in
    record { entries = good.0; rise = good.1; depth = h.1 }

key_kind : (s : Shape) → is_map s ≡ true → (key : Kind) × (s ≡ shape.Map key)
key_kind (shape.Map key) e = (key, refl)
key_kind s e = absurd (cc)

stored_map :
    (all : List FieldView) (key : Kind) (n : ℕ) (x : Scalar) (d : Datum) (es : Entries) (fs : Fields)
    → stored_at all (shape.Map key) n (map (put_entry x d es)) fs ≡ put_field n (map (put_entry x d es)) fs
stored_map all key n x d no_entries fs = refl
stored_map all key n x d (entry y e es) fs =
    by_cases (λ (gs : Entries). stored_at all (shape.Map key) n (map gs) fs ≡ put_field n (map gs) fs) (key_cmp x y) (entry x d (entry y e es)) (entry y d es)
    (entry y e (put_entry x d es)) refl refl refl

inserted_to :
    (pool : Types) (m n : ℕ) (x : Scalar) (d : Datum) (f : FieldView) (key : Kind) (v : Message) → field_numbered n (message_fields pool m) ≡ Some f
    → f.shape ≡ shape.Map key → IsKeyWithin f.shape x → IsDatum pool f.kind d → suc (levels_in_entry d) ≤ 100 → IsWellFormed pool m v
    → IsWellFormed pool m (with_fields v (insert_at n x d (fields_of v)))
inserted_to pool m n x d f key (body fs us) found mapped own good depth w =
    let es = entries_of (get_field n fs) in
    let old = entries_held pool f key (get_field n fs) mapped (held pool m n f fs us found w) in
    let keyed : IsOfKind key x = subst (λ (s : Shape). IsKeyWithin s x) mapped own in
    let shaped : has_shape f.shape (map (put_entry x d es)) ≡ true = ap (λ (s : Shape). has_shape s (map (put_entry x d es))) mapped in
    let stands : IsHeld pool f.shape f.kind (map (put_entry x d es)) =
    subst (λ (s : Shape). IsHeld pool s f.kind (map (put_entry x d es))) (sym mapped)
    (AreEntries-put_entry pool key f.kind x d es keyed good old.entries, KeysRise-put_entry x d es old.rise) in
    subst (λ (gs : Fields). IsWellFormed pool m (body gs us))
    (ap (λ (s : Shape). stored_at (message_fields pool m) s n (map (put_entry x d es)) fs) mapped ∙ stored_map (message_fields pool m) key n x d es fs)
    (IsWellFormed-stored pool m n (inserted x d (get_field n fs)) (body fs us) f found shaped stands refl (entries_depth-put_entry x d es 100 depth old.depth) w)

the_entry : (pool : Types) (m n : ℕ) (x : Scalar) (d : Datum) → IsEntry pool m n x d → (f : FieldView) × (field_numbered n (message_fields pool m) ≡ Some f) × ((is_map f.shape ≡ true) × IsKeyWithin f.shape x × IsDatum pool f.kind d × (suc (levels_in_entry d) ≤ 100))
the_entry pool m n x d ok =
    some_of (field_numbered n (message_fields pool m)) (λ (f : FieldView). (is_map f.shape ≡ true) × IsKeyWithin f.shape x × IsDatum pool f.kind d × (suc (levels_in_entry d) ≤ 100)) ok

-- one more entry keeps a message well formed
pub IsWellFormed-insert :
    (pool : Types) (m n : ℕ) (x : Scalar) (d : Datum) (v : Message) → IsEntry pool m n x d → IsWellFormed pool m v
    → IsWellFormed pool m (with_fields v (insert_at n x d (fields_of v)))
IsWellFormed-insert pool m n x d v ok w =
    let f = the_entry pool m n x d ok in
    let key = key_kind f.0.shape f.2.0 in
    inserted_to pool m n x d f.0 key.0 v f.1 key.1 f.2.1 f.2.2 f.2.3 w

pub AreKeys-entries : (pool : Types) (key k : Kind) (es : Entries) → AreEntries pool key k es → AreKeys key es
AreKeys-entries pool key k no_entries h = tt
AreKeys-entries pool key k (entry x d es) h = (h.0, AreKeys-entries pool key k es h.2)

-- a key that may be put into a map is of the kind of those that stand there
pub FitsKeys-entry :
    (pool : Types) (m n : ℕ) (x : Scalar) (d : Datum) (v : Message) → IsEntry pool m n x d → IsWellFormed pool m v → FitsKeys x (entries_of (get_field n (fields_of v)))
FitsKeys-entry pool m n x d (body fs us) ok w =
    let f = the_entry pool m n x d ok in
    let key = key_kind f.0.shape f.2.0 in
    let old = entries_held pool f.0 key.0 (get_field n fs) key.1 (held pool m n f.0 fs us f.1 w) in
    (key.0, subst (λ (s : Shape). IsKeyWithin s x) key.1 f.2.1, AreKeys-entries pool key.0 f.0.kind (entries_of (get_field n fs)) old.entries)
