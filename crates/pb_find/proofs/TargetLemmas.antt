-- Which records count for a field, and which end what was found.
use Rattle.std.proofs.Common.{◌≡◌, ◌≢◌, ℕ, List, [], ◌∷◌, length, refl, sym, ap, ◌∙◌, arith, Option, Some, None}
use Rattle.std.proofs.lemmas.Bool.Decides.{nat_tests}
use Rattle.std.specs.Prelude.{Bool, true, false, not, ◌&&◌, ◌==◌, if◌then◌else◌, option_and_then}
use Rattle.pb_wire.specs.Record.{Payload, Record, wire_type}
use Rattle.pb_wire.specs.Inside.{records_inside}
use Rattle.pb_wire.specs.Schema as wire
use Rattle.pb_wire.specs.Schema.{message}
use Rattle.pb_schema.specs.declared.types.Kind.{Kind}
use Rattle.pb_schema.specs.declared.types.Kind.TheVariants as kind
use Rattle.pb_schema.specs.declared.types.Shape.{Shape}
use Rattle.pb_schema.specs.declared.types.Shape.TheVariants as shape
use Rattle.pb_schema.specs.Types.{FieldView, Types, message_fields, field_numbered}
use Rattle.pb_schema.specs.Rules.{IsPool}
use Rattle.pb_schema.specs.Scalar.{Scalar}
use Rattle.pb_schema.specs.Oneofs.{is_member}
use Rattle.pb_schema.specs.Fits.{fits_type, fits_shape}
use Rattle.pb_schema.specs.Kinds.{wire_type_of, message_of_kind, closed_enum, read}
use Rattle.pb_schema.specs.Closed.{closed_shaped, closed_of, is_undeclared, counts}
use Rattle.pb_schema.specs.Context.{Context, a_message, schema_of, read_shaped, group_shaped, read_field, group_of_field}
use Rattle.pb_value.proofs.JudgeLemmas.{fits_any-found}
use Rattle.pb_value.proofs.BytesLemmas.{both}
use Rattle.pb_value.proofs.Numbers.{self_equal, number_is, not_equal, found_number}
use Rattle.pb_find.specs.Found.{is_single, if_single, target, shares_oneof, counts_for, is_rival, kept, after_typed, after_payload, after_record, after_records, found}
use Rattle.pb_find.specs.Walk.{record_at}

-- a record of a field's number counts just where it counts for the field
counts_found :
    (pool : Types) (m n : ℕ) (g : FieldView) (p : Payload) → IsPool pool → field_numbered n (message_fields pool m) ≡ Some g
    → counts_for pool g (record_at n p) ≡ counts pool (message_fields pool m) (record_at n p)
counts_found pool m n g p rules found =
    ap (λ (b : Bool). (b && fits_type g (wire_type p)) && declared (Some g)) (ap (λ (k : ℕ). n == k) (found_number n (message_fields pool m) g found) ∙ self_equal n)
    ∙ sym (ap (λ (b : Bool). b && declared (field_numbered n (message_fields pool m))) (fits_any-found pool m (record_at n p) g rules found)
    ∙ ap (λ (e : Option FieldView). fits_type g (wire_type p) && declared e) found)
  where
    declared : Option FieldView → Bool
    declared e = not (is_undeclared pool (closed_of e) p)

-- a record of a field that shares the target's oneof ends what was found just where it counts for that field
pub rival_counts :
    (pool : Types) (m n : ℕ) (f g : FieldView) (p : Payload) → IsPool pool → field_numbered n (message_fields pool m) ≡ Some g
    → shares_oneof f.shape (field_numbered n (message_fields pool m)) ≡ true
    → counts_for pool g (record_at n p) ≡ is_rival pool (message_fields pool m) f (record_at n p)
rival_counts pool m n f g p rules found shares =
    counts_found pool m n g p rules found ∙ sym (ap (λ (b : Bool). b && counts pool (message_fields pool m) (record_at n p)) shares)

-- a field that shares a oneof holds one value
pub fellow_single : (s : Shape) (g : FieldView) → shares_oneof s (Some g) ≡ true → is_single g.shape ≡ true
fellow_single shape.Implicit g e = absurd (cc)
fellow_single shape.Explicit g e = absurd (cc)
fellow_single (shape.OneofMember o) g e = by_shape g.shape e
  where
    by_shape : (t : Shape) → is_member o t ≡ true → is_single t ≡ true
    by_shape shape.Implicit e = absurd (cc)
    by_shape shape.Explicit e = absurd (cc)
    by_shape (shape.OneofMember q) e = refl
    by_shape (shape.List p) e = absurd (cc)
    by_shape (shape.Map key) e = absurd (cc)
fellow_single (shape.List p) g e = absurd (cc)
fellow_single (shape.Map key) g e = absurd (cc)

-- a target is a field of its number that holds one value
pub target_is : (pool : Types) (m n : ℕ) (f : FieldView) → target pool m n ≡ Some f → (field_numbered n (message_fields pool m) ≡ Some f) × (is_single f.shape ≡ true)
target_is pool m n f e = by_field (field_numbered n (message_fields pool m)) refl e
  where
    by_field : (o : Option FieldView) → field_numbered n (message_fields pool m) ≡ o → if_single o ≡ Some f → (field_numbered n (message_fields pool m) ≡ Some f) × (is_single f.shape ≡ true)
    by_field None at q = absurd (cc)
    by_field (Some g) at q = by_test (is_single g.shape) refl q
      where
        by_test : (b : Bool) → is_single g.shape ≡ b → (if b then Some g else None) ≡ Some f → (field_numbered n (message_fields pool m) ≡ Some f) × (is_single f.shape ≡ true)
        by_test false w z = absurd (cc)
        by_test true w z = let same : g ≡ f = cc in (at ∙ ap (λ (h : FieldView). Some h) same, ap (λ (h : FieldView). is_single h.shape) (sym same) ∙ w)

-- a target is that of its own number
pub target_own : (pool : Types) (m n : ℕ) (f : FieldView) → target pool m n ≡ Some f → target pool m f.number ≡ Some f
target_own pool m n f e = ap (λ (k : ℕ). target pool m k) (found_number n (message_fields pool m) f (target_is pool m n f e).0) ∙ e

-- it is the field that has the number, if that holds one value
pub target_from : (pool : Types) (m n : ℕ) (f : FieldView) → field_numbered n (message_fields pool m) ≡ Some f → is_single f.shape ≡ true → target pool m n ≡ Some f
target_from pool m n f e single = ap if_single e ∙ ap (λ (b : Bool). if b then Some f else None) single

pub single_by : (s : Shape) → ((p : Bool) → s ≡ shape.List p → ⊥) → ((k : Kind) → s ≡ shape.Map k → ⊥) → is_single s ≡ true
single_by shape.Implicit no_list no_map = refl
single_by shape.Explicit no_list no_map = refl
single_by (shape.OneofMember o) no_list no_map = refl
single_by (shape.List p) no_list no_map = absurd (no_list p refl)
single_by (shape.Map k) no_list no_map = absurd (no_map k refl)

-- where a path leads to a field
pub found_at :
    (pool : Types) (m n : ℕ) (path rest : List ℕ) (f : FieldView) (x : Option Scalar) (rs : List Record) → path ≡ n ∷ rest → target pool m n ≡ Some f
    → after_records (found pool rest) pool m rest (Some f) x rs ≡ found pool path m x rs
found_at pool m n path rest f x rs is at =
    sym (ap (λ (p : List ℕ). found pool p m x rs) is ∙ ap (λ (o : Option FieldView). after_records (found pool rest) pool m rest o x rs) at)

-- ---- how records of a target are read

no_map : (c : Context) (s : Shape) (k : Kind) → is_single s ≡ true → (read_shaped c s k ≡ read_shaped c shape.Explicit k) × (group_shaped s k ≡ group_shaped shape.Explicit k)
no_map c shape.Implicit k e = (refl, refl)
no_map c shape.Explicit k e = (refl, refl)
no_map c (shape.OneofMember o) k e = (refl, refl)
no_map c (shape.List p) k e = absurd (cc)
no_map c (shape.Map key) k e = absurd (cc)

single_type : (s : Shape) (k : Kind) (w : ℕ) → is_single s ≡ true → fits_shape s k w ≡ fits_shape shape.Explicit k w
single_type shape.Implicit k w e = refl
single_type shape.Explicit k w e = refl
single_type (shape.OneofMember o) k w e = refl
single_type (shape.List p) k w e = absurd (cc)
single_type (shape.Map key) k w e = absurd (cc)

module _ (pool : Types) (m : ℕ) (f : FieldView) (at : field_numbered f.number (message_fields pool m) ≡ Some f) (single : is_single f.shape ≡ true) where
  reads : (schema_of pool).reading (a_message m) f.number ≡ read_shaped (a_message m) shape.Explicit f.kind
  reads = ap (read_field (a_message m)) at ∙ (no_map (a_message m) f.shape f.kind single).0

  groups : (schema_of pool).group_context (a_message m) f.number ≡ group_shaped shape.Explicit f.kind
  groups = ap group_of_field at ∙ (no_map (a_message m) f.shape f.kind single).1

  -- a string
  pub reads_string : f.kind ≡ kind.Text → (schema_of pool).reading (a_message m) f.number ≡ wire.text
  reads_string is = reads ∙ ap (read_shaped (a_message m) shape.Explicit) is

  -- a message, and a group
  pub reads_message : (t w : ℕ) → message_of_kind f.kind ≡ Some t → w ≡ wire_type_of f.kind → (w ≢ 3) → (schema_of pool).reading (a_message m) f.number ≡ message (a_message t)
  reads_message t w is fit no_group = reads ∙ by_kind f.kind is fit
    where
      by_kind : (k : Kind) → message_of_kind k ≡ Some t → w ≡ wire_type_of k → read_shaped (a_message m) shape.Explicit k ≡ message (a_message t)
      by_kind (kind.Message j) is fit = let same : j.0 ≡ t = cc in ap (λ (i : ℕ). message (a_message i)) same
      by_kind (kind.Group j) is fit = absurd (no_group fit)
      by_kind k is fit = absurd (cc)

  pub reads_group : (t w : ℕ) → message_of_kind f.kind ≡ Some t → w ≡ wire_type_of f.kind → w ≡ 3 → (schema_of pool).group_context (a_message m) f.number ≡ a_message t
  reads_group t w is fit is_group = groups ∙ by_kind f.kind is fit
    where
      by_kind : (k : Kind) → message_of_kind k ≡ Some t → w ≡ wire_type_of k → group_shaped shape.Explicit k ≡ a_message t
      by_kind (kind.Group j) is fit = let same : j.0 ≡ t = cc in ap a_message same
      by_kind (kind.Message j) is fit = absurd (omega (arith, fit, is_group))
      by_kind k is fit = absurd (cc)

-- a message is of the wire type of a length, or of a group
pub message_type_of : (k : Kind) (t w : ℕ) → message_of_kind k ≡ Some t → w ≡ wire_type_of k → w ≢ 3 → w ≡ 2
message_type_of (kind.Message j) t w is fit no_group = fit
message_type_of (kind.Group j) t w is fit no_group = absurd (no_group fit)
message_type_of k t w is fit no_group = absurd (cc)

-- ---- what one record does

single_closed : (s : Shape) (k : Kind) → is_single s ≡ true → closed_shaped s k ≡ closed_enum k
single_closed shape.Implicit k e = refl
single_closed shape.Explicit k e = refl
single_closed (shape.OneofMember o) k e = refl
single_closed (shape.List p) k e = absurd (cc)
single_closed (shape.Map key) k e = absurd (cc)

pub closed_message : (k : Kind) (t : ℕ) → message_of_kind k ≡ Some t → closed_enum k ≡ None
closed_message (kind.Message j) t e = refl
closed_message (kind.Group j) t e = refl
closed_message k t e = absurd (cc)

-- which records count for a field of one value
module _ (pool : Types) (k : ℕ) (f : FieldView) (p : Payload) (single : is_single f.shape ≡ true) where
  fits_own : fits_type f (wire_type p) ≡ (wire_type p == wire_type_of f.kind)
  fits_own = single_type f.shape f.kind (wire_type p) single

  pub counts_is :
      counts_for pool f (record_at k p) ≡ (((k == f.number) && (wire_type p == wire_type_of f.kind)) && not (is_undeclared pool (closed_enum f.kind) p))
  counts_is =
      ap (λ (b : Bool). ((k == f.number) && b) && not (is_undeclared pool (closed_of (Some f)) p)) fits_own
      ∙ ap (λ (o : Option ℕ). ((k == f.number) && (wire_type p == wire_type_of f.kind)) && not (is_undeclared pool o p)) (single_closed f.shape f.kind single)

  -- it is of the field's number and wire type
  pub counts_fits : counts_for pool f (record_at k p) ≡ true → (k ≡ f.number) × (wire_type p ≡ wire_type_of f.kind)
  counts_fits e =
      let parts = both ((k == f.number) && (wire_type p == wire_type_of f.kind)) (not (is_undeclared pool (closed_enum f.kind) p)) (sym counts_is ∙ e) in
      let own = both (k == f.number) (wire_type p == wire_type_of f.kind) parts.0 in (number_is k f.number own.0, number_is (wire_type p) (wire_type_of f.kind) own.1)

  -- and one of an open type that is of these counts
  pub counts_open : k ≡ f.number → wire_type p ≡ wire_type_of f.kind → closed_enum f.kind ≡ None → counts_for pool f (record_at k p) ≡ true
  counts_open number fits open_enum =
      counts_is ∙ ap (λ (b : Bool). (b && (wire_type p == wire_type_of f.kind)) && not (is_undeclared pool (closed_enum f.kind) p)) (ap (λ (n : ℕ). k == n) (sym number) ∙ self_equal k)
      ∙ ap (λ (b : Bool). b && not (is_undeclared pool (closed_enum f.kind) p)) (ap (λ (n : ℕ). wire_type p == n) (sym fits) ∙ self_equal (wire_type p))
      ∙ ap (λ (o : Option ℕ). not (is_undeclared pool o p)) open_enum

-- what is found after a record
module _ (pool : Types) (m k : ℕ) (rest : List ℕ) (f : FieldView) (x : Option Scalar) (p : Payload) where
  abbrev result : Option Scalar
  result = after_record (found pool rest) pool m rest f x (record_at k p)

  abbrev ended : Option Scalar
  ended = if is_rival pool (message_fields pool m) f (record_at k p) then None else x

  -- that counts
  counting : counts_for pool f (record_at k p) ≡ true → after_payload (found pool rest) rest f x p ≡ result
  counting e = sym (ap (λ (b : Bool). if b then after_payload (found pool rest) rest f x p else ended) e)

  pub message_counts : (t : ℕ) → message_of_kind f.kind ≡ Some t → counts_for pool f (record_at k p) ≡ true → found pool rest t x (records_inside p) ≡ result
  message_counts t is e = sym (ap (λ (o : Option ℕ). after_typed (found pool rest) o rest f x p) is) ∙ counting e

  pub scalar_counts :
      message_of_kind f.kind ≡ None → length rest ≡ 0 → counts_for pool f (record_at k p) ≡ true → option_and_then (kept f.shape) (read f.kind p) ≡ result
  scalar_counts is ends e = by_rest rest refl ends ∙ counting e
    where
      by_rest : (l : List ℕ) → rest ≡ l → length rest ≡ 0 → option_and_then (kept f.shape) (read f.kind p) ≡ after_payload (found pool rest) rest f x p
      by_rest [] same ends =
          sym (ap (λ (o : Option ℕ). after_typed (found pool rest) o rest f x p) is ∙ ap (λ (l : List ℕ). after_typed (found pool rest) None l f x p) same)
      by_rest (n ∷ l) same ends = absurd (let more : length rest ≡ length (n ∷ l) = ap length same in omega (arith, more, ends))

  pub scalar_before : message_of_kind f.kind ≡ None → length rest ≢ 0 → counts_for pool f (record_at k p) ≡ true → x ≡ result
  scalar_before is more e = by_rest rest refl ∙ counting e
    where
      by_rest : (l : List ℕ) → rest ≡ l → x ≡ after_payload (found pool rest) rest f x p
      by_rest [] same = absurd (more (ap length same))
      by_rest (n ∷ l) same =
          sym (ap (λ (o : Option ℕ). after_typed (found pool rest) o rest f x p) is ∙ ap (λ (l : List ℕ). after_typed (found pool rest) None l f x p) same)

  -- that doesn't count
  not_counting : counts_for pool f (record_at k p) ≡ false → ended ≡ result
  not_counting e = sym (ap (λ (b : Bool). if b then after_payload (found pool rest) rest f x p else ended) e)

  pub rival_ends : counts_for pool f (record_at k p) ≡ false → is_rival pool (message_fields pool m) f (record_at k p) ≡ true → None ≡ result
  rival_ends none e = sym (ap (λ (b : Bool). if b then None else x) e) ∙ not_counting none

  pub other_stays : counts_for pool f (record_at k p) ≡ false → is_rival pool (message_fields pool m) f (record_at k p) ≡ false → x ≡ result
  other_stays none e = sym (ap (λ (b : Bool). if b then None else x) e) ∙ not_counting none

  pub no_fellow_stays : counts_for pool f (record_at k p) ≡ false → shares_oneof f.shape (field_numbered k (message_fields pool m)) ≡ false → x ≡ result
  no_fellow_stays none e = other_stays none (ap (λ (b : Bool). b && counts pool (message_fields pool m) (record_at k p)) e)

  pub stranger_stays : k ≢ f.number → shares_oneof f.shape (field_numbered k (message_fields pool m)) ≡ false → x ≡ result
  stranger_stays other e =
      no_fellow_stays (ap (λ (b : Bool). (b && fits_type f (wire_type p)) && not (is_undeclared pool (closed_of (Some f)) p)) (not_equal k f.number other)) e

pub not_nothing : (n : ℕ) → (n == 0) ≡ false → n ≢ 0
not_nothing n e = grind (arith, nat_tests, e)
