-- Which messages show that a change of a field breaks reading.
use Rattle.std.proofs.Common.{◌≡◌, ℕ, ◌<◌, ◌≤◌, ◌^◌, length, List, [], ◌∷◌, ◌++◌, Bool, true, false, not, ◌&&◌, Option, Some, refl, sym, ◌∙◌, ap, subst, arith, append-nil}
use Rattle.std.specs.Prelude.{if◌then◌else◌, IsSomeAnd}
use Rattle.std.specs.Int.{w32, w64, to_le_bytes}
use Rattle.std.proofs.lemmas.List.{length-append}
use Rattle.pb_wire.specs.Record.{Payload, varint, fixed64, len, group, fixed32, Record}
use Rattle.pb_wire.specs.Ranges.{IsInRange}
use Rattle.pb_wire.proofs.ShortestLemmas.{shortest-is_varint}
use Rattle.pb_wire.specs.Spell.{shortest_record, shortest_records}
use Rattle.pb_schema.specs.declared.types.Kind.{Kind}
use Rattle.pb_schema.specs.declared.types.Shape.{Shape}
use Rattle.pb_schema.specs.declared.types.Shape.TheVariants as shape
use Rattle.pb_schema.specs.Types.{FieldView, MessageView, Types, message_fields, field_numbered}
use Rattle.pb_schema.specs.Scalar.{Scalar}
use Rattle.pb_schema.specs.Kinds.{IsOfKind, written, read}
use Rattle.pb_schema.specs.Packed.{number_bytes, element_bytes}
use Rattle.pb_schema.specs.Rules.{IsPool, IsFieldNumber}
use Rattle.pb_value.specs.Data.{Datum, scalar, message, Datums, no_datums, datum, no_entries, entry, Holding, one, list, map as map_of, levels_of, entries_depth}
use Rattle.pb_value.specs.Canon.{payload_of, packed_bytes, canon_holding, canon_each, record_of, sealed, key_kind, is_packed}
use Rattle.pb_value.specs.WellFormed.{IsOfShape, IsHeld, key_of, datum_declared}
use Rattle.pb_value.proofs.CanonLemmas.{IsInRange-written}
use Rattle.pb_value.proofs.JudgeLemmas.{found_in, fields_all}
use Rattle.pb_value.proofs.Options.{some_of}
use Rattle.pb_compat.specs.Scalars.{meaning}
use Rattle.pb_compat.specs.Fields.{keeps_shape, is_map, is_list}
use Rattle.pb_compat.specs.Agrees.{HoldsSame, ValueHasNoUnknown}
use Rattle.pb_compat.specs.Samples.{IsValue, IsBare, IsUnlike, never, otherwise, apart}
use Rattle.pb_compat.specs.Witness.{alone, IsContentOf, AreFieldsAt, is_one_by_one, OneIsShown, ShapeIsShown}
use Rattle.pb_compat.proofs.NeverLemmas.{MayHold, implicit_default, never_one, never_list, one_is_no_map, list_is_list, map_is_map}
use Rattle.pb_compat.proofs.OtherwiseLemmas.{otherwise_one, otherwise_list, uncut_read, witness_apart, witness_otherwise}
use Rattle.pb_compat.proofs.ShortLemmas.{IsBrief, record_short, value_brief}
use Rattle.pb_compat.proofs.WitnessLemmas.{CanHold, IsMisread, alone_shows, witness_alone}

-- WHAT A FIELD CAN HOLD

pub field_number : (pool : Types) (m n : ℕ) (f : FieldView) → IsPool pool → field_numbered n (message_fields pool m) ≡ Some f → IsFieldNumber f.number
field_number pool m n f rules e =
    (found_in (λ (g : FieldView). (t : MessageView) × IsFieldNumber g.number) n (message_fields pool m) f (fields_all (λ t g. IsFieldNumber g.number) pool pool.messages m rules.fields.shapes.numbers) e).1

value_known : (d : Datum) → IsBare d → ValueHasNoUnknown d
value_known (scalar x) b = tt
value_known (message v) b = subst (λ m. ValueHasNoUnknown (message m)) (sym b) (refl, tt)

value_level : (d : Datum) → IsBare d → levels_of d ≤ 1
value_level (scalar x) b = omega arith
value_level (message v) b = subst (λ m. levels_of (message m) ≤ 1) (sym b) (omega arith)

-- CONTENTS OF ONE VALUE

number_length : (a : Kind) (x : Scalar) → IsOfKind a x → length (element_bytes a x) ≤ 10
number_length a x h = by (written a x) (IsInRange-written a x h)
  where
    by : (p : Payload) → IsInRange p → length (number_bytes p) ≤ 10
    by (varint i) r = (shortest-is_varint i r).size
    by (fixed64 i) r = let e : length (to_le_bytes w64 i) ≡ 8 = refl in omega (arith, e)
    by (fixed32 i) r = let e : length (to_le_bytes w32 i) ≡ 4 = refl in omega (arith, e)
    by (len s) r = omega arith
    by (group g) r = omega arith

packed_length : (old : Types) (a : Kind) (d : Datum) → IsValue old a d → length (packed_bytes a (datum d no_datums)) ≤ 10
packed_length old a (scalar x) v =
    let one = number_length a x v.value in
    let same = ap length (append-nil (element_bytes a x)) in
    omega (arith, one, same)
packed_length old a (message b) v = omega arith

entry_length : (old : Types) (key a : Kind) (x : Scalar) (d : Datum) → IsValue old key (scalar x) → IsValue old a d
    → length (shortest_records (record_of 1 (written key x) ∷ record_of 2 (payload_of old a d) ∷ [])) ≤ 42
entry_length old key a x d vx vd =
    let first = record_short 1 1 (written key x) (omega arith) (omega arith) (value_brief old key (scalar x) vx) in
    let second = record_short 2 1 (payload_of old a d) (omega arith) (omega arith) (value_brief old a d vd) in
    let all = length-append (shortest_record 1 (written key x)) (shortest_record 2 (payload_of old a d) ++ []) in
    let rest = length-append (shortest_record 2 (payload_of old a d)) [] in
    omega (arith, first, second, all, rest)

module _ (old : Types) (rules : IsPool old) (m k : ℕ) (f : FieldView) (found : field_numbered k (message_fields old m) ≡ Some f) where
  short_of : (c : ℕ) (p : Payload) (rs : List Record) → c < 2 ^ 10 → IsBrief c p → rs ≡ record_of f.number p ∷ [] → length (shortest_records rs) < 2 ^ 20
  short_of c p rs small brief same =
      let short = record_short f.number c p (field_number old m k f rules found).1 small brief in
      let bytes : length (shortest_records rs) ≡ length (shortest_record f.number p) =
      ap (λ (l : List Record). length (shortest_records l)) same ∙ ap length (append-nil (shortest_record f.number p)) in
      omega (arith, short, bytes, small)

  pub can_hold : (d : Datum) (h : Holding) → IsValue old f.kind d → IsContentOf old f.shape d h → IsOfShape f.shape h → CanHold old f h
  can_hold d (one e) v made shaped =
      subst (λ c. CanHold old f (one c)) (sym made) record {
        shaped = subst (λ c. IsOfShape f.shape (one c)) made shaped;
        held = v.value;
        declared = v.declared;
        known = value_known d v.bare;
        depth = let level = value_level d v.bare in omega (arith, level);
        short = short_of 1 (payload_of old f.kind d) (canon_holding old f (one d)) (omega arith) (value_brief old f.kind d v) refl;
      }
  can_hold d (list ds) v made shaped =
      subst (λ c. CanHold old f (list c)) (sym made) record {
        shaped = subst (λ c. IsOfShape f.shape (list c)) made shaped;
        held = (v.value, tt);
        declared = both (datum_declared old f.kind d) v.declared;
        known = (value_known d v.bare, tt);
        depth = let level = value_level d v.bare in omega (arith, level);
        short = by (is_packed f.shape) refl;
      }
    where
      both : (b : Bool) → b ≡ true → (b && true) ≡ true
      both true e = refl
      both false e = e

      by : (b : Bool) → is_packed f.shape ≡ b → length (shortest_records (canon_holding old f (list (datum d no_datums)))) < 2 ^ 20
      by true e =
          short_of 10 (len (packed_bytes f.kind (datum d no_datums))) (canon_holding old f (list (datum d no_datums))) (omega arith) (packed_length old f.kind d v)
          (ap (λ (b : Bool). if b then record_of f.number (len (packed_bytes f.kind (datum d no_datums))) ∷ [] else canon_each old f (datum d no_datums)) e)
      by false e =
          short_of 1 (payload_of old f.kind d) (canon_holding old f (list (datum d no_datums))) (omega arith) (value_brief old f.kind d v)
          (ap (λ (b : Bool). if b then record_of f.number (len (packed_bytes f.kind (datum d no_datums))) ∷ [] else canon_each old f (datum d no_datums)) e)
  can_hold d (map_of es) v made shaped = by f.shape refl made.1
    where
      x : Scalar
      x = made.0

      by : (s : Shape) → f.shape ≡ s → IsSomeAnd (key_of s) (λ key. IsValue old key (scalar x)) → CanHold old f (map_of es)
      by shape.Implicit e none = absurd none
      by shape.Explicit e none = absurd none
      by (shape.OneofMember o) e none = absurd none
      by (shape.List p) e none = absurd none
      by (shape.Map key) e vx =
          subst (λ c. CanHold old f (map_of c)) (sym made.2) record {
            shaped = subst (λ c. IsOfShape f.shape (map_of c)) made.2 shaped;
            held = subst (λ s. IsHeld old s f.kind (map_of (entry x d no_entries))) (sym e) ((vx.value, v.value, tt), (tt, tt));
            declared = refl;
            known = (value_known d v.bare, tt);
            depth = let level = value_level d v.bare in by_datum d level;
            short = short_of 42 (sealed (record_of 1 (written (key_kind f.shape f.kind) x) ∷ record_of 2 (payload_of old f.kind d) ∷ [])) (canon_holding old f (map_of (entry x d no_entries))) (omega arith)
                (subst (λ s. length (shortest_records (record_of 1 (written (key_kind s f.kind) x) ∷ record_of 2 (payload_of old f.kind d) ∷ [])) ≤ 42) (sym e) (entry_length old key f.kind x d vx v)) refl;
          }
        where
          by_datum : (c : Datum) → levels_of c ≤ 1 → entries_depth (entry x c no_entries) ≤ 1
          by_datum (scalar y) l = omega arith
          by_datum (message w) l = omega (arith, l)

module _ (old new : Types) (rules_old : IsPool old) (rules_new : IsPool new) (m n k : ℕ) (f g : FieldView) (at : AreFieldsAt old new m n k f g) where
  unpacked : (d : Datum) → is_packed f.shape ≡ false → canon_holding old f (list (datum d no_datums)) ≡ record_of f.number (payload_of old f.kind d) ∷ []
  unpacked d loose =
      ap (λ (b : Bool). if b then record_of f.number (len (packed_bytes f.kind (datum d no_datums))) ∷ [] else canon_each old f (datum d no_datums)) loose

  -- A FIELD OF ONE VALUE

  shown_one : (d : Datum) → is_map g.shape ≡ false → IsOfShape f.shape (one d) → IsValue old f.kind d → IsUnlike old new f.kind g.kind d → IsMisread old new m n (alone k (one d))
  shown_one d plain shaped v (never nv) =
      witness_alone old new rules_old rules_new m n k f g at.old_field at.new_field (one d) (can_hold old rules_old m k f at.old_field d (one d) v refl shaped)
      (λ o may same. never_one old new g.shape f.kind g.kind d o nv (implicit_default new n k g rules_new at.new_field) may same)
  shown_one d plain shaped v (apart u) =
      witness_apart old new rules_old rules_new m n k f g at.old_field at.new_field (one d) (can_hold old rules_old m k f at.old_field d (one d) v refl shaped) d refl v.value plain u
  shown_one (scalar x) plain shaped v (otherwise o) =
      let r = some_of (read g.kind (written f.kind x)) (λ y. meaning y ≡ meaning x → ⊥) o.0 in
      witness_otherwise old new rules_old rules_new m n k f g at.old_field at.new_field (one (scalar x)) (can_hold old rules_old m k f at.old_field (scalar x) (one (scalar x)) v refl shaped) (scalar x) refl v.value plain
      (uncut_read g.shape g.kind (written f.kind x) r.0 r.1) (λ inner same. otherwise_one old new inner f.number f.kind g.kind x o g.shape plain same)
  shown_one (message b) plain shaped v (otherwise o) = absurd o

  shown_list : (d : Datum) → is_packed f.shape ≡ false → is_list g.shape ≡ true → is_map g.shape ≡ false → IsOfShape f.shape (list (datum d no_datums)) → IsValue old f.kind d → IsUnlike old new f.kind g.kind d
      → IsMisread old new m n (alone k (list (datum d no_datums)))
  shown_list d loose listed plain shaped v (never nv) =
      witness_alone old new rules_old rules_new m n k f g at.old_field at.new_field (list (datum d no_datums)) (can_hold old rules_old m k f at.old_field d (list (datum d no_datums)) v refl shaped)
      (λ o may same. never_list old new g.shape f.kind g.kind d no_datums o nv may same)
  shown_list d loose listed plain shaped v (apart u) =
      witness_apart old new rules_old rules_new m n k f g at.old_field at.new_field (list (datum d no_datums)) (can_hold old rules_old m k f at.old_field d (list (datum d no_datums)) v refl shaped) d (unpacked d loose) v.value plain u
  shown_list (scalar x) loose listed plain shaped v (otherwise o) =
      let r = some_of (read g.kind (written f.kind x)) (λ y. meaning y ≡ meaning x → ⊥) o.0 in
      witness_otherwise old new rules_old rules_new m n k f g at.old_field at.new_field (list (datum (scalar x) no_datums)) (can_hold old rules_old m k f at.old_field (scalar x) (list (datum (scalar x) no_datums)) v refl shaped) (scalar x) (unpacked (scalar x) loose) v.value plain
      (uncut_read g.shape g.kind (written f.kind x) r.0 r.1) (λ inner same. otherwise_list old new inner f.number f.kind g.kind x o g.shape listed same)
  shown_list (message b) loose listed plain shaped v (otherwise o) = absurd o

no_map_kept : (old new : Types) (s t : Shape) (d : Datum) → IsOfShape s (one d) → keeps_shape old new s t ≡ true → is_map t ≡ false
no_map_kept old new shape.Implicit t d shaped keeps = turned (is_map t) keeps
  where
    turned : (b : Bool) → not b ≡ true → b ≡ false
    turned true e = absurd (cc)
    turned false e = refl
no_map_kept old new shape.Explicit t d shaped keeps = turned (is_map t) keeps
  where
    turned : (b : Bool) → not b ≡ true → b ≡ false
    turned true e = absurd (cc)
    turned false e = refl
no_map_kept old new (shape.OneofMember o) t d shaped keeps = turned (is_map t) keeps
  where
    turned : (b : Bool) → not b ≡ true → b ≡ false
    turned true e = absurd (cc)
    turned false e = refl
no_map_kept old new (shape.List p) t d shaped keeps = absurd shaped
no_map_kept old new (shape.Map key) t d shaped keeps = absurd shaped

list_kept : (old new : Types) (s t : Shape) (ds : Datums) → IsOfShape s (list ds) → keeps_shape old new s t ≡ true → is_list t ≡ true
list_kept old new (shape.List p) t ds shaped keeps = keeps
list_kept old new shape.Implicit t ds shaped keeps = absurd shaped
list_kept old new shape.Explicit t ds shaped keeps = absurd shaped
list_kept old new (shape.OneofMember o) t ds shaped keeps = absurd shaped
list_kept old new (shape.Map key) t ds shaped keeps = absurd shaped

one_by_one_open : (s : Shape) → is_one_by_one s ≡ true → is_packed s ≡ false
one_by_one_open (shape.List true) e = absurd (cc)
one_by_one_open (shape.List false) e = refl
one_by_one_open s e = refl

list_no_map : (t : Shape) → is_list t ≡ true → is_map t ≡ false
list_no_map (shape.Map key) e = absurd (cc)
list_no_map t e = refl

pub one_is_misread : (old new : Types) → IsPool old → IsPool new → (m n k : ℕ) (f g : FieldView) (d : Datum) (h : Holding) → AreFieldsAt old new m n k f g → is_one_by_one f.shape ≡ true → keeps_shape old new f.shape g.shape ≡ true
    → IsContentOf old f.shape d h → IsOfShape f.shape h → IsValue old f.kind d → IsUnlike old new f.kind g.kind d → IsMisread old new m n (alone k h)
one_is_misread old new rules_old rules_new m n k f g d (one e) at loose keeps made shaped v u =
    shown_one old new rules_old rules_new m n k f g at e (no_map_kept old new f.shape g.shape e shaped keeps) shaped (subst (IsValue old f.kind) (sym made) v) (subst (IsUnlike old new f.kind g.kind) (sym made) u)
one_is_misread old new rules_old rules_new m n k f g d (list ds) at loose keeps made shaped v u =
    let listed = list_kept old new f.shape g.shape ds shaped keeps in
    subst (λ (es : Datums). IsMisread old new m n (alone k (list es))) (sym made)
    (shown_list old new rules_old rules_new m n k f g at d (one_by_one_open f.shape loose) listed (list_no_map g.shape listed) (subst (λ (es : Datums). IsOfShape f.shape (list es)) made shaped) v u)
one_is_misread old new rules_old rules_new m n k f g d (map_of es) at loose keeps made shaped v u = by f.shape loose shaped
  where
    by : (s : Shape) → is_one_by_one s ≡ true → IsOfShape s (map_of es) → IsMisread old new m n (alone k (map_of es))
    by shape.Implicit e shaped = absurd shaped
    by shape.Explicit e shaped = absurd shaped
    by (shape.OneofMember o) e shaped = absurd shaped
    by (shape.List p) e shaped = absurd shaped
    by (shape.Map key) e shaped = absurd (cc)

pub one_is_shown : (old new : Types) → IsPool old → IsPool new → OneIsShown old new
one_is_shown old new rules_old rules_new m n k f g d h at loose keeps made shaped v u =
    alone_shows old new rules_old rules_new m n k f g at.old_field at.new_field h (can_hold old rules_old m k f at.old_field d h v made shaped)
    (one_is_misread old new rules_old rules_new m n k f g d h at loose keeps made shaped v u)

-- SHAPES

pub shape_is_misread : (old new : Types) → IsPool old → IsPool new → (m n k : ℕ) (f g : FieldView) (d : Datum) (h : Holding) → AreFieldsAt old new m n k f g → keeps_shape old new f.shape g.shape ≡ false
    → (is_map f.shape && is_map g.shape) ≡ false → IsContentOf old f.shape d h → IsOfShape f.shape h → IsValue old f.kind d → IsMisread old new m n (alone k h)
shape_is_misread old new rules_old rules_new m n k f g d h at loses maps made shaped v =
    witness_alone old new rules_old rules_new m n k f g at.old_field at.new_field h (can_hold old rules_old m k f at.old_field d h v made shaped)
    (λ o may same. by f.shape g.shape h loses maps shaped o may same)
  where
    all_maps : (b : Bool) → not b ≡ false → b ≡ true
    all_maps true e = refl
    all_maps false e = absurd (cc)

    by : (s t : Shape) (h : Holding) → keeps_shape old new s t ≡ false → (is_map s && is_map t) ≡ false → IsOfShape s h → (o : Option Holding) → MayHold old new t g.kind o → HoldsSame old new f.kind g.kind t h o → ⊥
    by shape.Implicit t (one d) loses maps shaped o may same = one_is_no_map old new t f.kind g.kind d o (all_maps (is_map t) loses) may same
    by shape.Explicit t (one d) loses maps shaped o may same = one_is_no_map old new t f.kind g.kind d o (all_maps (is_map t) loses) may same
    by (shape.OneofMember i) t (one d) loses maps shaped o may same = one_is_no_map old new t f.kind g.kind d o (all_maps (is_map t) loses) may same
    by (shape.List p) t (list (datum d ds)) loses maps shaped o may same = list_is_list old new t f.kind g.kind d ds o loses may same
    by (shape.Map key) t (map_of (entry x d es)) loses maps shaped o may same = map_is_map old new t f.kind g.kind x d es o maps may same
    by s t h loses maps shaped o may same = absurd shaped

pub shape_is_shown : (old new : Types) → IsPool old → IsPool new → ShapeIsShown old new
shape_is_shown old new rules_old rules_new m n k f g d h at loses maps made shaped v =
    alone_shows old new rules_old rules_new m n k f g at.old_field at.new_field h (can_hold old rules_old m k f at.old_field d h v made shaped)
    (shape_is_misread old new rules_old rules_new m n k f g d h at loses maps made shaped v)
