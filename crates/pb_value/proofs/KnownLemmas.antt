-- The records that count and those that are unknown: of joined records those of each part, and what is known of each of them.
use Rattle.std.proofs.Common.{◌≡◌, ◌^◌, ◌<◌, ◌≤◌, ◌%◌, ℕ, List, [], ◌∷◌, ◌++◌, map, arith, append-nil, refl, ap, ◌∙◌, subst, Option, Some, None}
use Rattle.std.proofs.lemmas.List.Elements.{filter-append}
use Rattle.std.proofs.lemmas.Grind.{flat_map-append}
use Rattle.std.specs.Prelude.{Bool, true, false, not, ◌&&◌, ◌==◌, filter, if◌then◌else◌}
use Rattle.std.specs.List.{AllByRecursion}
use Rattle.std.specs.Int.{cast_signed, w32}
use Rattle.pb_wire.specs.Varint.{groups_value}
use Rattle.pb_wire.specs.Record.{Payload, varint, fixed64, len, group, fixed32, Group, no_more, more, Record, records_depth, wire_type}
use Rattle.pb_wire.specs.Inside.{IsNumbered, IsNumberedGroup}
use Rattle.pb_wire.specs.Writable.{IsWritable, IsWritableGroup}
use Rattle.pb_wire.specs.Sound.{Sound}
use Rattle.pb_schema.specs.declared.types.Kind.{Kind}
use Rattle.pb_schema.specs.declared.types.Kind.TheVariants as kind
use Rattle.pb_schema.specs.declared.types.Shape.{Shape}
use Rattle.pb_schema.specs.declared.types.Shape.TheVariants as shape
use Rattle.pb_schema.specs.Types.{FieldView, Types, field_numbered}
use Rattle.pb_schema.specs.Scalar.{Scalar}
use Rattle.pb_schema.specs.Packed.{varints_of, elements}
use Rattle.pb_schema.specs.Fits.{fits, fits_any, fits_shape}
use Rattle.pb_schema.specs.Closed.{declares, declares_in, is_declared, closed_shaped, closed_of, is_list, is_list_field, is_undeclared, numbered, cut_as, cut_at, settled, counts, known, unknown}
use Rattle.pb_schema.specs.Rules.{MayBeValue}
use Rattle.pb_schema.specs.Context.{a_message}
use Rattle.pb_value.specs.Value.{all_elements}
use Rattle.pb_value.specs.WellFormed.{AreUnknown}
use Rattle.pb_value.proofs.BytesLemmas.{both}
use Rattle.pb_value.proofs.ListLemmas.{all_append, all_filter, all_weaker}
use Rattle.pb_value.proofs.SoundLemmas.{sound_depth}
use Rattle.pb_value.proofs.FittingLemmas.{IsGood, AllGood, same_number}

-- JOINED RECORDS

pub settled-append : (fs : List FieldView) (xs ys : List Record) → settled fs (xs ++ ys) ≡ settled fs xs ++ settled fs ys
settled-append fs xs ys = flat_map-append (λ (r : Record). cut_at (field_numbered r.number fs) r) xs ys

pub known-append : (pool : Types) (fs : List FieldView) (xs ys : List Record) → known pool fs (xs ++ ys) ≡ known pool fs xs ++ known pool fs ys
known-append pool fs xs ys = ap (filter (counts pool fs)) (settled-append fs xs ys) ∙ filter-append (counts pool fs) (settled fs xs) (settled fs ys)

pub unknown-append : (pool : Types) (fs : List FieldView) (xs ys : List Record) → unknown pool fs (xs ++ ys) ≡ unknown pool fs xs ++ unknown pool fs ys
unknown-append pool fs xs ys =
    ap (filter (λ (r : Record). not (counts pool fs r))) (settled-append fs xs ys) ∙ filter-append (λ (r : Record). not (counts pool fs r)) (settled fs xs) (settled fs ys)

-- WHAT IS CUT

-- a payload that stays as it is
abbrev pub IsUncut : Payload → Bool → Option ℕ → Type 0
IsUncut (varint i) b e = Unit {0}
IsUncut (fixed64 i) b e = Unit {0}
IsUncut (group g) b e = Unit {0}
IsUncut (fixed32 i) b e = Unit {0}
IsUncut (len s) true (Some e) = ⊥
IsUncut (len s) true None = Unit {0}
IsUncut (len s) false e = Unit {0}

-- a record that is no packed list of a closed enum
abbrev pub IsWhole : List FieldView → Record → Type 0
IsWhole fs r = IsUncut r.payload (is_list_field (field_numbered r.number fs)) (closed_of (field_numbered r.number fs))

pub uncut : (b : Bool) (e : Option ℕ) (n : ℕ) (p : Payload) → IsUncut p b e → cut_as b e n p ≡ record { number = n; payload = p } ∷ []
uncut true (Some e) n (len s) h = absurd h
uncut true (Some e) n (varint i) h = refl
uncut true (Some e) n (fixed64 i) h = refl
uncut true (Some e) n (group g) h = refl
uncut true (Some e) n (fixed32 i) h = refl
uncut true None n p h = refl
uncut false e n p h = refl

each_number : (Q : Record → Type 0) (n : ℕ) → ((i : ℕ) → i < 2 ^ 64 → Q (record { number = n; payload = varint i })) → (bs : List (List ℕ)) → AllByRecursion Q (numbered n (map (λ b. varint (groups_value b % 2 ^ 64)) bs))
each_number Q n f [] = tt
each_number Q n f (b ∷ bs) = (f (groups_value b % 2 ^ 64) (omega arith), each_number Q n f bs)

cut_each :
    (Q : Record → Type 0) (b : Bool) (e : Option ℕ) (n : ℕ) (p : Payload) → (IsUncut p b e → Q (record { number = n; payload = p })) → ((i : ℕ) → i < 2 ^ 64 → Q (record { number = n; payload = varint i }))
    → AllByRecursion Q (cut_as b e n p)
cut_each Q true (Some e) n (len s) own each = each_number Q n each (varints_of s)
cut_each Q true (Some e) n (varint i) own each = (own tt, tt)
cut_each Q true (Some e) n (fixed64 i) own each = (own tt, tt)
cut_each Q true (Some e) n (group g) own each = (own tt, tt)
cut_each Q true (Some e) n (fixed32 i) own each = (own tt, tt)
cut_each Q true None n p own each = (own (open_list p), tt)
  where
    open_list : (p : Payload) → IsUncut p true None
    open_list (varint i) = tt
    open_list (fixed64 i) = tt
    open_list (group g) = tt
    open_list (fixed32 i) = tt
    open_list (len s) = tt
cut_each Q false e n p own each = (own (no_list p), tt)
  where
    no_list : (p : Payload) → IsUncut p false e
    no_list (varint i) = tt
    no_list (fixed64 i) = tt
    no_list (group g) = tt
    no_list (fixed32 i) = tt
    no_list (len s) = tt

-- what records give to those that they are settled as
settled_each :
    (P Q : Record → Type 0) (fs : List FieldView) → ((r : Record) → P r → IsWhole fs r → Q r) → ((r : Record) (i : ℕ) → P r → i < 2 ^ 64 → Q (record { number = r.number; payload = varint i })) → (rs : List Record)
    → AllByRecursion P rs → AllByRecursion Q (settled fs rs)
settled_each P Q fs own each [] h = tt
settled_each P Q fs own each (r ∷ rs) h =
    all_append Q (cut_at (field_numbered r.number fs) r) (settled fs rs)
    (cut_each Q (is_list_field (field_numbered r.number fs)) (closed_of (field_numbered r.number fs)) r.number r.payload (own r h.0) (λ i l. each r i h.0 l))
    (settled_each P Q fs own each rs h.1)

any_record : (rs : List Record) → AllByRecursion (λ r. Unit {0}) rs
any_record [] = tt
any_record (r ∷ rs) = (tt, any_record rs)

-- settled records are whole
pub settled-whole : (fs : List FieldView) (rs : List Record) → AllByRecursion (IsWhole fs) (settled fs rs)
settled-whole fs rs = settled_each (λ r. Unit {0}) (IsWhole fs) fs (λ r h w. w) (λ r i h l. tt) rs (any_record rs)

-- and whole records are settled
pub settled-same : (fs : List FieldView) (rs : List Record) → AllByRecursion (IsWhole fs) rs → settled fs rs ≡ rs
settled-same fs [] h = refl
settled-same fs (r ∷ rs) h =
    ap (λ (l : List Record). l ++ settled fs rs) (uncut (is_list_field (field_numbered r.number fs)) (closed_of (field_numbered r.number fs)) r.number r.payload h.0)
    ∙ ap (λ (l : List Record). r ∷ l) (settled-same fs rs h.1)

-- settled records of good ones are good
pub settled-good : (pool : Types) (t depth_left : ℕ) (fs : List FieldView) (rs : List Record) → AllGood pool (a_message t) depth_left rs → AllGood pool (a_message t) depth_left (settled fs rs)
settled-good pool t depth_left fs rs h =
    settled_each (IsGood pool (a_message t) depth_left) (IsGood pool (a_message t) depth_left) fs (λ r g w. g)
    (λ r i g l. record { number = g.number; in_range = l; writable = tt; sound = Sound.is_varint }) rs h

pub known-good : (pool : Types) (t depth_left : ℕ) (fs : List FieldView) (rs : List Record) → AllGood pool (a_message t) depth_left rs → AllGood pool (a_message t) depth_left (known pool fs rs)
known-good pool t depth_left fs rs h =
    all_weaker _ (IsGood pool (a_message t) depth_left) (λ r w. w.0) (known pool fs rs) (all_filter (IsGood pool (a_message t) depth_left) (counts pool fs) (settled fs rs) (settled-good pool t depth_left fs rs h))

-- a record that counts, and is no packed list of a closed enum
pub record IsKnown (pool : Types) (fs : List FieldView) (r : Record) : Type 0 where
  pub whole : IsWhole fs r
  pub counting : counts pool fs r ≡ true

pub known-known : (pool : Types) (fs : List FieldView) (rs : List Record) → AllByRecursion (IsKnown pool fs) (known pool fs rs)
known-known pool fs rs =
    all_weaker _ (IsKnown pool fs) (λ r w. record { whole = w.0; counting = w.1 }) (known pool fs rs) (all_filter (IsWhole fs) (counts pool fs) (settled fs rs) (settled-whole fs rs))

-- ONE MORE RECORD

pub known-one : (pool : Types) (fs : List FieldView) (rs : List Record) (r : Record) → IsWhole fs r → counts pool fs r ≡ true → known pool fs (rs ++ r ∷ []) ≡ known pool fs rs ++ r ∷ []
known-one pool fs rs r w e =
    known-append pool fs rs (r ∷ []) ∙ ap (λ (l : List Record). known pool fs rs ++ filter (counts pool fs) l) (settled-same fs (r ∷ []) (w, tt))
    ∙ ap (λ (b : Bool). known pool fs rs ++ (if b then r ∷ [] else [])) e

pub known-none : (pool : Types) (fs : List FieldView) (rs : List Record) (r : Record) → IsWhole fs r → counts pool fs r ≡ false → known pool fs (rs ++ r ∷ []) ≡ known pool fs rs
known-none pool fs rs r w e =
    known-append pool fs rs (r ∷ []) ∙ ap (λ (l : List Record). known pool fs rs ++ filter (counts pool fs) l) (settled-same fs (r ∷ []) (w, tt))
    ∙ ap (λ (b : Bool). known pool fs rs ++ (if b then r ∷ [] else [])) e ∙ append-nil (known pool fs rs)

pub unknown-one : (pool : Types) (fs : List FieldView) (rs : List Record) (r : Record) → IsWhole fs r → counts pool fs r ≡ false → unknown pool fs (rs ++ r ∷ []) ≡ unknown pool fs rs ++ r ∷ []
unknown-one pool fs rs r w e =
    unknown-append pool fs rs (r ∷ []) ∙ ap (λ (l : List Record). unknown pool fs rs ++ filter (λ (x : Record). not (counts pool fs x)) l) (settled-same fs (r ∷ []) (w, tt))
    ∙ ap (λ (b : Bool). unknown pool fs rs ++ (if not b then r ∷ [] else [])) e

pub unknown-none : (pool : Types) (fs : List FieldView) (rs : List Record) (r : Record) → IsWhole fs r → counts pool fs r ≡ true → unknown pool fs (rs ++ r ∷ []) ≡ unknown pool fs rs
unknown-none pool fs rs r w e =
    unknown-append pool fs rs (r ∷ []) ∙ ap (λ (l : List Record). unknown pool fs rs ++ filter (λ (x : Record). not (counts pool fs x)) l) (settled-same fs (r ∷ []) (w, tt))
    ∙ ap (λ (b : Bool). unknown pool fs rs ++ (if not b then r ∷ [] else [])) e ∙ append-nil (unknown pool fs rs)

-- UNKNOWN RECORDS

mutual
  IsNumbered-IsWritable : (p : Payload) → IsWritable p → IsNumbered p
  IsNumbered-IsWritable (varint n) w = tt
  IsNumbered-IsWritable (fixed64 n) w = tt
  IsNumbered-IsWritable (len s) w = tt
  IsNumbered-IsWritable (group g) w = IsNumberedGroup-IsWritableGroup g w
  IsNumbered-IsWritable (fixed32 n) w = tt

  IsNumberedGroup-IsWritableGroup : (g : Group) → IsWritableGroup g → IsNumberedGroup g
  IsNumberedGroup-IsWritableGroup no_more w = tt
  IsNumberedGroup-IsWritableGroup (more k p g) w = (w.0, IsNumbered-IsWritable p w.1, IsNumberedGroup-IsWritableGroup g w.2)

pub unknown-good : (pool : Types) (t depth_left : ℕ) (fs : List FieldView) (rs : List Record) → AllGood pool (a_message t) depth_left rs → AreUnknown pool fs (unknown pool fs rs) × (records_depth (unknown pool fs rs) ≤ depth_left)
unknown-good pool t depth_left fs rs h = each (unknown pool fs rs) (all_filter (IsGood pool (a_message t) depth_left) (λ (r : Record). not (counts pool fs r)) (settled fs rs) (settled-good pool t depth_left fs rs h))
  where
    fails : (b : Bool) → not b ≡ true → b ≡ false
    fails true e = absurd (cc)
    fails false e = refl

    each : (us : List Record) → AllByRecursion (λ r. IsGood pool (a_message t) depth_left r × (not (counts pool fs r) ≡ true)) us → AreUnknown pool fs us × (records_depth us ≤ depth_left)
    each [] w = (tt, omega arith)
    each (u ∷ us) w =
        let good = w.0.0 in
        let here = sound_depth good.sound in
        let more = each us w.1 in
        (((good.number, good.in_range, IsNumbered-IsWritable u.payload good.writable, fails (counts pool fs u) w.0.1), more.0), omega (arith, here, more.1))

-- DECLARED NUMBERS

open_declared : (pool : Types) (o : Option ℕ) (xs : List Scalar) → o ≡ None → AllByRecursion (λ x. declares_in pool o x ≡ true) xs
open_declared pool o [] e = tt
open_declared pool o (x ∷ xs) e = (ap (λ (p : Option ℕ). declares_in pool p x) e, open_declared pool o xs e)

not_and : (a b : Bool) → (a && not b) ≡ true → b ≡ false
not_and true true e = absurd (cc)
not_and true false e = refl
not_and false b e = absurd (cc)

not_not : (b : Bool) → not b ≡ false → b ≡ true
not_not true e = refl
not_not false e = absurd (cc)

-- what a record that counts for a field gives has declared numbers
declared_as :
    (pool : Types) (s : Shape) (k : Kind) (p : Payload) → MayBeValue s k → fits_shape s k (wire_type p) ≡ true → is_undeclared pool (closed_shaped s k) p ≡ false → IsUncut p (is_list s) (closed_shaped s k)
    → AllByRecursion (λ x. is_declared pool k x ≡ true) (elements k p)
declared_as pool (shape.Map key) (kind.ClosedEnum e) p may fit undeclared uncut = absurd (cc)
declared_as pool (shape.Map key) k p may fit undeclared uncut = open_declared pool None (elements k p) refl
declared_as pool s (kind.ClosedEnum e) p may fit undeclared uncut = closed s p may fit undeclared uncut
  where
    of_number : (n : ℕ) → not (declares pool e.0 (cast_signed w32 (n % 2 ^ 32))) ≡ false → AllByRecursion (λ x. is_declared pool (kind.ClosedEnum e) x ≡ true) (elements (kind.ClosedEnum e) (varint n))
    of_number n h = (not_not (declares pool e.0 (cast_signed w32 (n % 2 ^ 32))) h, tt)

    closed : (s : Shape) (p : Payload) → MayBeValue s (kind.ClosedEnum e) → fits_shape s (kind.ClosedEnum e) (wire_type p) ≡ true → is_undeclared pool (closed_shaped s (kind.ClosedEnum e)) p ≡ false → IsUncut p (is_list s) (closed_shaped s (kind.ClosedEnum e))
        → AllByRecursion (λ x. is_declared pool (kind.ClosedEnum e) x ≡ true) (elements (kind.ClosedEnum e) p)
    closed shape.Implicit (varint n) may fit undeclared uncut = of_number n undeclared
    closed shape.Explicit (varint n) may fit undeclared uncut = of_number n undeclared
    closed (shape.OneofMember o) (varint n) may fit undeclared uncut = of_number n undeclared
    closed (shape.List q) (varint n) may fit undeclared uncut = of_number n undeclared
    closed (shape.Map key) p may fit undeclared uncut = absurd (cc)
    closed shape.Implicit (len t) may fit undeclared uncut = absurd (cc)
    closed shape.Explicit (len t) may fit undeclared uncut = absurd (cc)
    closed (shape.OneofMember o) (len t) may fit undeclared uncut = absurd (cc)
    closed (shape.List q) (len t) may fit undeclared uncut = absurd uncut
    closed s (fixed64 n) may fit undeclared uncut = tt
    closed s (fixed32 n) may fit undeclared uncut = tt
    closed s (group g) may fit undeclared uncut = tt
declared_as pool s k p may fit undeclared uncut = open_declared pool None (elements k p) refl

known_declared :
    (pool : Types) (all : List FieldView) (f : FieldView) (r : Record) → field_numbered f.number all ≡ Some f → MayBeValue f.shape f.kind → IsKnown pool all r → fits f r ≡ true
    → AllByRecursion (λ x. is_declared pool f.kind x ≡ true) (elements f.kind r.payload)
known_declared pool all f r found may h e =
    let here : field_numbered r.number all ≡ Some f = ap (λ (n : ℕ). field_numbered n all) (same_number f r e) ∙ found in
    declared_as pool f.shape f.kind r.payload may (both (r.number == f.number) (fits_shape f.shape f.kind (wire_type r.payload)) e).1
    (subst (λ (o : Option FieldView). is_undeclared pool (closed_of o) r.payload ≡ false) here (not_and (fits_any all r) (is_undeclared pool (closed_of (field_numbered r.number all)) r.payload) h.counting))
    (subst (λ (o : Option FieldView). IsUncut r.payload (is_list_field o) (closed_of o)) here h.whole)

-- so do the records that count for a field
pub all_declared :
    (pool : Types) (all : List FieldView) (f : FieldView) → field_numbered f.number all ≡ Some f → MayBeValue f.shape f.kind → (cs : List Record)
    → AllByRecursion (λ r. IsKnown pool all r × (fits f r ≡ true)) cs → AllByRecursion (λ x. is_declared pool f.kind x ≡ true) (all_elements f.kind cs)
all_declared pool all f found may [] h = tt
all_declared pool all f found may (r ∷ rs) h =
    all_append (λ x. is_declared pool f.kind x ≡ true) (elements f.kind r.payload) (all_elements f.kind rs) (known_declared pool all f r found may h.0.0 h.0.1) (all_declared pool all f found may rs h.1)
