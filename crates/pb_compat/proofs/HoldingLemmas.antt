-- What a new field holds of the records that the content of an old field was written as.
use Rattle.std.proofs.Common.{◌≡◌, ℕ, pos, suc, ◌≤◌, List, [], ◌∷◌, ◌++◌, map, Bool, true, false, not, cond, Option, Some, None, option_map, refl, sym, ◌∙◌, ap, subst, arith, nat_cmp, Ordering, Less, Equal}
use Rattle.std.proofs.lemmas.Int.{ints}
use Rattle.std.specs.Prelude.{unwrap_or, option_and_then, IsTrue, ◌==◌}
use Rattle.std.specs.Ordering.{int_cmp}
use Rattle.pb_wire.specs.Record.{Record}
use Rattle.pb_wire.proofs.InsideLemmas.{records_spelled-shortest}
use Rattle.pb_schema.specs.declared.types.Kind.{Kind}
use Rattle.pb_schema.specs.declared.types.Kind.TheVariants as kind
use Rattle.pb_schema.specs.declared.types.Shape.{Shape}
use Rattle.pb_schema.specs.declared.types.Shape.TheVariants as shape
use Rattle.pb_schema.specs.Types.{Types}
use Rattle.pb_schema.specs.Scalar.{Scalar, int32, int64, uint32, uint64, boolean, text, bytes_cmp, key_cmp, is_default}
use Rattle.pb_schema.specs.Kinds.{wire_type_of, is_packable, is_key_kind, is_of_proto2, closed_enum, message_of_kind, default_of, IsOfKind, written}
use Rattle.pb_schema.specs.Closed.{is_declared}
use Rattle.pb_value.specs.Data.{Datum, scalar, message, Datums, no_datums, datum, Entries, no_entries, entry, Holding, one, list, map as map_of, no_fields, body, Message, levels_of, levels_in_entry}
use Rattle.pb_value.specs.Value.{last_of, all_elements, unless_default, unless_no_elements, unless_no_entries, one_value, list_values, missing, entry_key, entry_value, entry_of, held_as}
use Rattle.pb_value.specs.Canon.{payload_of, canon, canon_each, canon_entries, canon_holding, record_of, sealed}
use Rattle.pb_value.specs.WellFormed.{IsBelow, KeysRise, IsDatum, AreDatums, AreEntries, IsBody, datum_declared, datums_declared}
use Rattle.pb_value.proofs.CanonLemmas.{AreGood}
use Rattle.pb_value.proofs.HeldBack.{field_with, values, datums_of-values, entry_records, entry_records-good}
use Rattle.pb_value.proofs.KeyLemmas.{pairs, fold_pairs}
use Rattle.pb_value.proofs.Numbers.{self_equal}
use Rattle.pb_value.proofs.WrittenLemmas.{no_message, no_message_of}
use Rattle.pb_compat.specs.Scalars.{Meaning, integer, single, double_bits, octets, meaning, keeps_scalars}
use Rattle.pb_compat.specs.Fields.{keeps_kind, is_map}
use Rattle.pb_compat.specs.Agrees.{IsSameValue, AreSameValues, AreSameEntries, HoldsSame}
use Rattle.pb_compat.proofs.FieldLemmas.{and_both, read_as, all_read_as, kept_scalars, reads, written_wire, elements_as, packed_as}
use Rattle.pb_compat.proofs.ConvertLemmas.{default_only, IsRead, Reads, key_read}

-- THE ORDER OF KEYS

-- of keys of one kind the order is that of their meanings
meaning_cmp : Meaning → Meaning → Ordering
meaning_cmp (integer x) (integer y) = int_cmp x y
meaning_cmp (octets x) (octets y) = bytes_cmp x y
meaning_cmp (integer x) (single n) = Equal
meaning_cmp (integer x) (double_bits n) = Equal
meaning_cmp (integer x) (octets n) = Equal
meaning_cmp (octets x) (single n) = Equal
meaning_cmp (octets x) (double_bits n) = Equal
meaning_cmp (octets x) (integer n) = Equal
meaning_cmp (single x) m = Equal
meaning_cmp (double_bits x) m = Equal

nat_as_int : (x y : ℕ) → nat_cmp x y ≡ int_cmp (pos x) (pos y)
nat_as_int x y = grind (arith, ints)

key_means : (k : Kind) (x y : Scalar) → IsTrue (is_key_kind k) → IsOfKind k x → IsOfKind k y → key_cmp x y ≡ meaning_cmp (meaning x) (meaning y)
unfolding meaning_cmp
key_means kind.Double x y can h g = absurd (cc)
key_means kind.Float x y can h g = absurd (cc)
key_means kind.Bytes x y can h g = absurd (cc)
key_means (kind.Enum i) x y can h g = absurd (cc)
key_means (kind.ClosedEnum i) x y can h g = absurd (cc)
key_means (kind.Message i) x y can h g = absurd (cc)
key_means (kind.Group i) x y can h g = absurd (cc)
key_means kind.Int32 (int32 x) (int32 y) can h g = refl
key_means kind.Int32 (int32 x) y can h g = absurd g
key_means kind.Sint32 (int32 x) (int32 y) can h g = refl
key_means kind.Sint32 (int32 x) y can h g = absurd g
key_means kind.Sfixed32 (int32 x) (int32 y) can h g = refl
key_means kind.Sfixed32 (int32 x) y can h g = absurd g
key_means kind.Int64 (int64 x) (int64 y) can h g = refl
key_means kind.Int64 (int64 x) y can h g = absurd g
key_means kind.Sint64 (int64 x) (int64 y) can h g = refl
key_means kind.Sint64 (int64 x) y can h g = absurd g
key_means kind.Sfixed64 (int64 x) (int64 y) can h g = refl
key_means kind.Sfixed64 (int64 x) y can h g = absurd g
key_means kind.Uint32 (uint32 x) (uint32 y) can h g = nat_as_int x y
key_means kind.Uint32 (uint32 x) y can h g = absurd g
key_means kind.Fixed32 (uint32 x) (uint32 y) can h g = nat_as_int x y
key_means kind.Fixed32 (uint32 x) y can h g = absurd g
key_means kind.Uint64 (uint64 x) (uint64 y) can h g = nat_as_int x y
key_means kind.Uint64 (uint64 x) y can h g = absurd g
key_means kind.Fixed64 (uint64 x) (uint64 y) can h g = nat_as_int x y
key_means kind.Fixed64 (uint64 x) y can h g = absurd g
key_means kind.Bool (boolean true) (boolean true) can h g = refl
key_means kind.Bool (boolean true) (boolean false) can h g = refl
key_means kind.Bool (boolean false) (boolean true) can h g = refl
key_means kind.Bool (boolean false) (boolean false) can h g = refl
key_means kind.Bool (boolean x) y can h g = absurd g
key_means kind.Text (text x) (text y) can h g = refl
key_means kind.Text (text x) y can h g = absurd g
key_means k x y can h g = absurd h

pub key_order : (k l : Kind) (x y u v : Scalar) → IsTrue (is_key_kind k) → IsTrue (is_key_kind l) → IsOfKind k x → IsOfKind k y → IsOfKind l u → IsOfKind l v → meaning u ≡ meaning x → meaning v ≡ meaning y → key_cmp x y ≡ Less → key_cmp u v ≡ Less
key_order k l x y u v can can_too hx hy hu hv same_x same_y less =
    key_means l u v can_too hu hv ∙ ap (λ (m : Meaning). meaning_cmp m (meaning v)) same_x ∙ ap (meaning_cmp (meaning x)) same_y ∙ sym (key_means k x y can hx hy) ∙ less

abbrev pub AreKeys : Kind → Entries → Type 0
AreKeys l no_entries = Unit {0}
AreKeys l (entry y e es) = IsOfKind l y × AreKeys l es

module _ (old new : Types) (key l a b : Kind) (can : IsTrue (is_key_kind key)) (can_too : IsTrue (is_key_kind l)) where
  still_below : (x y : Scalar) (es ds : Entries) → IsOfKind key x → IsOfKind l y → meaning y ≡ meaning x → AreEntries old key a es → AreKeys l ds → AreSameEntries old new a b es ds → IsBelow x es → IsBelow y ds
  still_below x y no_entries no_entries hx hy same w keys sames below = tt
  still_below x y (entry u d es) (entry v e ds) hx hy same w keys sames below = key_order key l x u y v can can_too hx w.0 hy keys.0 same sames.0 below
  still_below x y es ds hx hy same w keys sames below = absurd sames

  pub still_rise : (es ds : Entries) → AreEntries old key a es → AreKeys l ds → AreSameEntries old new a b es ds → KeysRise es → KeysRise ds
  still_rise no_entries no_entries w keys sames rise = tt
  still_rise (entry x d es) (entry y e ds) w keys sames rise = (still_below x y es ds w.0 keys.0 sames.0 w.2 keys.1 sames.2 rise.0, still_rise es ds w.2 keys.1 sames.2 rise.1)
  still_rise es ds w keys sames rise = absurd sames

-- VALUES

list_values-none : (inner : ℕ → List Record → Message) (k : Kind) → list_values inner k [] ≡ []
list_values-none inner (kind.Message m) = refl
list_values-none inner (kind.Group m) = refl
list_values-none inner k = refl

-- a kind that is no closed enum has no undeclared values
pub open_declared : (pool : Types) (k : Kind) (d : Datum) → closed_enum k ≡ None → datum_declared pool k d ≡ true
open_declared pool k (scalar x) e = open_scalar k x e
  where
    open_scalar : (k : Kind) (x : Scalar) → closed_enum k ≡ None → is_declared pool k x ≡ true
    open_scalar (kind.ClosedEnum i) x e = absurd (cc)
    open_scalar k x e = refl
open_declared pool k (message v) e = refl

pub key_open : (k : Kind) → IsTrue (is_key_kind k) → closed_enum k ≡ None
key_open (kind.ClosedEnum i) can = absurd (cc)
key_open k can = refl

pub key_scalar : (k : Kind) → IsTrue (is_key_kind k) → message_of_kind k ≡ None
key_scalar (kind.Message i) can = absurd (cc)
key_scalar (kind.Group i) can = absurd (cc)
key_scalar k can = refl

pub no_closed_value : (k : Kind) → is_of_proto2 k ≡ false → closed_enum k ≡ None
no_closed_value (kind.ClosedEnum i) e = absurd (cc)
no_closed_value k e = refl

pub entry_level : (d : Datum) (levels : ℕ) → suc (levels_in_entry d) ≤ levels → levels_of d ≤ levels
entry_level (scalar x) levels l = omega arith
entry_level (message b) levels l = l

-- SHAPES

module _ (old new : Types) (inner : ℕ → List Record → Message) (a b : Kind) where
  -- each value of a list is read
  abbrev pub AllRead : Datums → Type 0
  AllRead no_datums = Unit {0}
  AllRead (datum d ds) = Reads old new inner a b d × AllRead ds

  -- each value of a map is read
  abbrev pub AllEntriesRead : Entries → Type 0
  AllEntriesRead no_entries = Unit {0}
  AllEntriesRead (entry x d es) = Reads old new inner a b d × AllEntriesRead es

  module _ (name : List ℕ) (n : ℕ) where
    pub single_read : (s t : Shape) (d : Datum) → not (is_map t) ≡ true → Reads old new inner a b d
        → HoldsSame old new a b t (one d) (held_as inner t b (record_of n (payload_of old a d) ∷ []))
    single_read s shape.Implicit d plain r =
        subst (λ (o : Option Datum). HoldsSame old new a b shape.Implicit (one d) (option_and_then unless_default o)) (sym (r.alone n)) (by r.value r.is_read r.same)
      where
        by : (y : Datum) → IsRead b y → IsSameValue old new a b d y → HoldsSame old new a b shape.Implicit (one d) (unless_default y)
        by (message w) h same = same
        by (scalar y) h same = by_default (is_default y) refl
          where
            by_default : (t : Bool) → is_default y ≡ t → HoldsSame old new a b shape.Implicit (one d) (cond (is_default y) None (Some (one (scalar y))))
            by_default true e =
                subst (λ (u : Bool). HoldsSame old new a b shape.Implicit (one d) (cond u None (Some (one (scalar y))))) (sym e)
                (refl, subst (λ (z : Scalar). IsSameValue old new a b d (scalar z)) (default_only b y h e) same)
            by_default false e = subst (λ (u : Bool). HoldsSame old new a b shape.Implicit (one d) (cond u None (Some (one (scalar y))))) (sym e) same
    single_read s shape.Explicit d plain r = subst (λ (o : Option Datum). HoldsSame old new a b shape.Explicit (one d) (option_map one o)) (sym (r.alone n)) r.same
    single_read s (shape.OneofMember o) d plain r = subst (λ (x : Option Datum). HoldsSame old new a b (shape.OneofMember o) (one d) (option_map one x)) (sym (r.alone n)) r.same
    single_read s (shape.List p) d plain r =
        subst (λ (l : List Datum). HoldsSame old new a b (shape.List p) (one d) (unless_no_elements l))
        (sym (r.listed n [] ∙ ap (λ (l : List Datum). r.value ∷ l) (list_values-none inner b))) r.same
    single_read s (shape.Map key) d plain r = absurd (cc)

    -- LISTS

    list_held : (s t : Shape) (d : Datum) (ds es : Datums) (xs : List Datum) → xs ≡ values es → AreSameValues old new a b (datum d ds) es
        → HoldsSame old new a b t (list (datum d ds)) (unless_no_elements xs)
    list_held s t d ds no_datums xs e same = absurd same
    list_held s t d ds (datum y ys) xs e same =
        subst (λ (o : Option Holding). HoldsSame old new a b t (list (datum d ds)) o) (sym (ap unless_no_elements e ∙ ap (λ (zs : Datums). Some (list (datum y zs))) (datums_of-values ys))) same

    each_read : (s : Shape) (ds : Datums) → AllRead ds → (es : Datums) × (list_values inner b (canon_each old (field_with name n a s) ds) ≡ values es) × AreSameValues old new a b ds es
    each_read s no_datums r = (no_datums, list_values-none inner b, tt)
    each_read s (datum d ds) r =
        let rest = each_read s ds r.1 in
        (datum r.0.value rest.0, r.0.listed n (canon_each old (field_with name n a s) ds) ∙ ap (λ (l : List Datum). r.0.value ∷ l) rest.1, (r.0.same, rest.2))

    same_packed : (ds : Datums) → keeps_scalars old new a b ≡ true → message_of_kind a ≡ None → AreDatums old a ds → datums_declared old a ds ≡ true → AreSameValues old new a b ds (all_read_as a b ds)
    same_packed no_datums keeps none h d = tt
    same_packed (datum (scalar x) ds) keeps none h d =
        let each = and_both (is_declared old a x) (datums_declared old a ds) d in
        ((reads old new a b keeps x h.0 each.0).1, same_packed ds keeps none h.1 each.1)
    same_packed (datum (message v) ds) keeps none h d = absurd (no_message_of old a v none h.0)

    pub packed_read : (t : Shape) (d : Datum) (ds : Datums) → (p : Bool) → t ≡ shape.List p → is_packable a ≡ true → keeps_kind old new a b ≡ true → AreDatums old a (datum d ds) → datums_declared old a (datum d ds) ≡ true
        → HoldsSame old new a b (shape.List p) (list (datum d ds)) (held_as inner (shape.List p) b (canon_holding old (field_with name n a (shape.List true)) (list (datum d ds))))
    packed_read t (scalar x) ds p e can keeps h d =
        let none = no_message a can in
        let scalars = kept_scalars old new a b none keeps in
        list_held (shape.List true) (shape.List p) (scalar x) ds (all_read_as a b (datum (scalar x) ds)) _ (packed_as old new a b scalars inner n x ds can h d) (same_packed (datum (scalar x) ds) scalars none h d)
    packed_read t (message v) ds p e can keeps h d = absurd (no_message_of old a v (no_message a can) h.0)

    pub unpacked_read : (p : Bool) (d : Datum) (ds : Datums) → AllRead (datum d ds)
        → HoldsSame old new a b (shape.List p) (list (datum d ds)) (held_as inner (shape.List p) b (canon_holding old (field_with name n a (shape.List false)) (list (datum d ds))))
    unpacked_read p d ds r =
        let read = each_read (shape.List false) (datum d ds) r in
        list_held (shape.List false) (shape.List p) d ds read.0 _ read.1 read.2

    -- MAPS

    map_held : (s t : Shape) (x : Scalar) (d : Datum) (es ds : Entries) (xs : List (Scalar × Datum)) → xs ≡ pairs ds → AreSameEntries old new a b (entry x d es) ds → KeysRise ds
        → HoldsSame old new a b t (map_of (entry x d es)) (unless_no_entries xs)
    map_held s t x d es no_entries xs e same rise = absurd same
    map_held s t x d es (entry y c ds) xs e same rise =
        subst (λ (o : Option Holding). HoldsSame old new a b t (map_of (entry x d es)) o) (sym (ap unless_no_entries e ∙ ap (λ (fs : Entries). Some (map_of fs)) (fold_pairs (entry y c ds) rise))) same

    module _ (good : (m : ℕ) (v : Message) → IsBody old m v → AreGood (canon old m v)) (key l : Kind) (can : IsTrue (is_key_kind key)) (keeps : keeps_scalars old new key l ≡ true) where
      read_key : (x : Scalar) (d : Datum) → IsOfKind key x → entry_key inner l (entry_records old key a x d) ≡ read_as key l x
      read_key x d h =
          let declared = open_declared old key (scalar x) (key_open key can) in
          ap (λ (t : Bool). unwrap_or (last_of (all_elements l (cond t (record_of 1 (written key x) ∷ []) []))) (default_of l)) (ap (λ (w : ℕ). w == wire_type_of l) (written_wire old new key l keeps x h declared) ∙ self_equal (wire_type_of l))
          ∙ ap (λ (ys : List Scalar). unwrap_or (last_of (ys ++ [])) (default_of l)) (elements_as old new key l keeps x h declared)

      read_value : (x : Scalar) (d : Datum) (r : Reads old new inner a b d) → entry_value inner b (entry_records old key a x d) ≡ r.value
      read_value x d r =
          ap (λ (t : Bool). unwrap_or (one_value inner b (cond t (record_of 2 (payload_of old a d) ∷ []) [])) (missing inner b)) (ap (λ (w : ℕ). w == wire_type_of b) r.wire ∙ self_equal (wire_type_of b))
          ∙ ap (λ (o : Option Datum). unwrap_or o (missing inner b)) (r.alone 2)

      read_entry : (x : Scalar) (d : Datum) → IsOfKind key x → IsDatum old a d → (r : Reads old new inner a b d) → entry_of inner l b (record_of n (sealed (entry_records old key a x d))) ≡ (read_as key l x, r.value)
      read_entry x d h w r =
          let g = entry_records-good old (λ m rs. body no_fields rs) 0 (λ m v u k. absurd (omega (arith, k))) good key a x d h w in
          ap (λ (rs : List Record). (entry_key inner l rs, entry_value inner b rs)) (records_spelled-shortest (entry_records old key a x d) g.in_range g.numbered)
          ∙ ap (λ (y : Scalar). (y, entry_value inner b (entry_records old key a x d))) (read_key x d h)
          ∙ ap (λ (e : Datum). (read_as key l x, e)) (read_value x d r)

      pub record ReadEntries (es : Entries) : Type 0 where
        pub entries : Entries
        pub are : map (entry_of inner l b) (canon_entries old (field_with name n a (shape.Map key)) es) ≡ pairs entries
        pub same : AreSameEntries old new a b es entries
        pub keys : AreKeys l entries

      entries_read : (es : Entries) → AreEntries old key a es → AllEntriesRead es → ReadEntries es
      entries_read no_entries w r = record { entries = no_entries; are = refl; same = tt; keys = tt }
      entries_read (entry x d es) w r =
          let rest = entries_read es w.2 r.1 in
          let declared = open_declared old key (scalar x) (key_open key can) in
          record {
            entries = entry (read_as key l x) r.0.value rest.entries;
            are =
                ap (λ (e : Scalar × Datum). e ∷ map (entry_of inner l b) (canon_entries old (field_with name n a (shape.Map key)) es)) (read_entry x d w.0 w.1 r.0)
                ∙ ap (λ (ps : List (Scalar × Datum)). (read_as key l x, r.0.value) ∷ ps) rest.are;
            same = ((reads old new key l keeps x w.0 declared).1, r.0.same, rest.same);
            keys = (key_read old new key l keeps x w.0 declared, rest.keys);
          }

      pub map_read : (can_too : IsTrue (is_key_kind l)) (x : Scalar) (d : Datum) (es : Entries) → AreEntries old key a (entry x d es) → KeysRise (entry x d es) → AllEntriesRead (entry x d es)
          → HoldsSame old new a b (shape.Map l) (map_of (entry x d es)) (held_as inner (shape.Map l) b (canon_holding old (field_with name n a (shape.Map key)) (map_of (entry x d es))))
      map_read can_too x d es w rise r =
          let read = entries_read (entry x d es) w r in
          map_held (shape.Map key) (shape.Map l) x d es read.entries _ read.are read.same (still_rise old new key l a b can can_too (entry x d es) read.entries w read.keys read.same rise)
