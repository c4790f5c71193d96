-- A whole payload after its length: how its record is read, what the part is worth with it, and how it is refused.
use Rattle.std.proofs.Common.{◌≡◌, ℕ, ◌<◌, ◌≤◌, ◌+◌, List, [], ◌∷◌, ◌++◌, length, take, refl, sym, ap, ◌∙◌, subst, arith, Option, Some, None, IsTrue, IsUtf8, ◌⊎◌, inl, inr}
use Rattle.std.specs.Prelude.{Bool, true, false, ◌==◌, if◌then◌else◌}
use Rattle.std.specs.Str.Lossy.{utf8_valid_len}
use Rattle.std.proofs.lemmas.Bool.{false≢true}
use Rattle.std.proofs.lemmas.List.{length-append}
use Rattle.std.proofs.lemmas.Str.{utf8_valid_len_le}
use Rattle.std.proofs.Math.Seq.{take-append_seam}
use Rattle.pb_wire.specs.Record.{len, Record}
use Rattle.pb_wire.specs.declared.fault.Cause.TheVariants.{Truncated, BadText}
use Rattle.pb_wire.specs.Fault.{fault, step as step_into, Place, Moves, input_end}
use Rattle.pb_wire.specs.Schema.{Reading, unread, text as text_reading, records, context_of}
use Rattle.pb_wire.specs.Sound.{Sound}
use Rattle.pb_wire.specs.Grammar.{Bad, RecordFault}
use Rattle.pb_schema.specs.declared.types.Kind.{Kind}
use Rattle.pb_schema.specs.declared.types.Kind.TheVariants as kind
use Rattle.pb_schema.specs.declared.types.Shape.{Shape}
use Rattle.pb_schema.specs.declared.types.Shape.TheVariants as shape
use Rattle.pb_schema.specs.Types.{FieldView, Types, message_fields, field_numbered}
use Rattle.pb_schema.specs.Rules.{IsPool}
use Rattle.pb_schema.specs.Scalar.{Scalar, text, bytes}
use Rattle.pb_schema.specs.Kinds.{wire_type_of, is_key_kind, message_of_kind, read, closed_enum}
use Rattle.pb_schema.specs.Packed.{elements}
use Rattle.pb_schema.specs.Fits.{fits_shape}
use Rattle.pb_schema.specs.Context.{Context, a_message as in_message, an_entry as in_entry, key_field, value_field, read_singular, read_listed, read_shaped, read_field, schema_of}
use Rattle.pb_value.specs.Data.{scalar}
use Rattle.pb_value.specs.Change.{IsSingle}
use Rattle.pb_value.proofs.StepLemmas.{self_equal}
use Rattle.pb_decode_parts.specs.declared.open.target.Target.{Target}
use Rattle.pb_decode_parts.specs.declared.open.target.Target.TheVariants as target
use Rattle.pb_decode_parts.specs.declared.tokens.step.Step.TheVariants as step
use Rattle.pb_decode_parts.specs.Values.Put.{scalar_kind, key_in, put_datum, put_record}
use Rattle.pb_decode_parts.specs.Open.Opened.{below}
use Rattle.pb_decode_parts.specs.declared.values.payload_value.PayloadError.{PayloadError}
use Rattle.pb_decode_parts.specs.declared.values.payload_value.PayloadError.TheVariants as error
use Rattle.pb_decode_parts.specs.Values.PayloadValue.{IsPayloadError, IfBadText, IsBytesTarget}
use Rattle.pb_decode_parts.specs.Open.Targets.{AtField, Means, part_context}
use Rattle.pb_decode_parts.specs.Open.Parents.{Part, message_part, entry_part, group_part, CanHold, Parent, path_of, next_step, Reached, Scope, one_more_in}
use Rattle.pb_decode_parts.specs.Tokens.After.{After}
use Rattle.pb_decode_parts.proofs.OpenedLemmas.{len_record}
use Rattle.pb_decode_parts.proofs.ParentLemmas.{part_of_context}
use Rattle.pb_decode_parts.proofs.AfterLemmas.{AtPayload, at_payload, reported_inside}
use Rattle.pb_decode_parts.proofs.KindLemmas.{undeclared_len}
use Rattle.pb_decode_parts.proofs.NumberSteps.{number_is, single_field, listed_field, no_key, no_entry_value, meant_type, scalar_record_reached}
use Rattle.pb_decode_parts.proofs.UnknownSteps.{unknown_part_reached}

-- HOW THE RECORD OF A VALUE IS READ

-- the kind is one of strings, and the payload read as one, or of bytes, which are not looked into
data ReadsBytes (r : Reading Context) (kd : Kind) : Type 0 where
  a_text : kd ≡ kind.Text → r ≡ text_reading → ReadsBytes r kd
  some_bytes : kd ≡ kind.Bytes → r ≡ unread → ReadsBytes r kd

singular_reading : (c : Context) (kd : Kind) → message_of_kind kd ≡ None → 2 ≡ wire_type_of kd → ReadsBytes (read_singular c kd) kd
singular_reading c kind.Text none type = a_text refl refl
singular_reading c kind.Bytes none type = some_bytes refl refl
singular_reading c (kind.Message m) none type = absurd (cc)
singular_reading c kd none type = absurd (omega (arith, type))

element_reading : (c : Context) (kd : Kind) → message_of_kind kd ≡ None → 2 ≡ wire_type_of kd → ReadsBytes (read_listed c kd) kd
element_reading c kind.Text none type = a_text refl refl
element_reading c kind.Bytes none type = some_bytes refl refl
element_reading c (kind.Message m) none type = absurd (cc)
element_reading c kd none type = absurd (omega (arith, type))

single_is : (c : Context) (s : Shape) (kd : Kind) → IsSingle s → read_shaped c s kd ≡ read_singular c kd
single_is c shape.Implicit kd single = refl
single_is c shape.Explicit kd single = refl
single_is c (shape.OneofMember o) kd single = refl
single_is c (shape.List p) kd single = absurd single
single_is c (shape.Map key) kd single = absurd single

key_no_message : (kd : Kind) → IsTrue (is_key_kind kd) → message_of_kind kd ≡ None
key_no_message (kind.Message m) can = absurd (false≢true can)
key_no_message (kind.Group m) can = absurd (false≢true can)
key_no_message kd can = refl

-- a field's reading, as what the schema says of its number
field_reading : (pool : Types) (t k : ℕ) (f : FieldView) → field_numbered k (message_fields pool t) ≡ Some f → (schema_of pool).reading (in_message t) k ≡ read_shaped (in_message t) f.shape f.kind
field_reading pool t k f found = ap (read_field (in_message t)) found

bytes_reading :
    (pool : Types) (now : Part) (k : ℕ) (meant : Target) (kd : Kind) → CanHold pool now → Means pool (part_context now) k 2 meant → scalar_kind meant ≡ Some kd
    → ReadsBytes ((schema_of pool).reading (part_context now) k) kd
bytes_reading pool (message_part t v) k (target.One k2 s) kd can means of =
    let type = meant_type pool (message_part t v) k 2 (target.One k2 s) kd means of in
    let (f, found, e, is_kind, is_shape, single, none) = single_field (field_numbered k (message_fields pool t)) k 2 k2 s means in
    let same : k2 ≡ kd = cc in
    subst (λ (z : Reading Context). ReadsBytes z kd)
    (sym (field_reading pool t k f found ∙ ap (λ (z : Shape). read_shaped (in_message t) z f.kind) is_shape ∙ ap (read_shaped (in_message t) s) (is_kind ∙ same) ∙ single_is (in_message t) s kd single))
    (singular_reading (in_message t) kd (ap message_of_kind (sym same) ∙ none) type)
bytes_reading pool (message_part t v) k (target.Element k2) kd can means of =
    let type = meant_type pool (message_part t v) k 2 (target.Element k2) kd means of in
    let (f, found, e, is_kind, (p, is_shape), none) = listed_field (field_numbered k (message_fields pool t)) k 2 k2 means in
    let same : k2 ≡ kd = cc in
    subst (λ (z : Reading Context). ReadsBytes z kd)
    (sym (field_reading pool t k f found ∙ ap (λ (z : Shape). read_shaped (in_message t) z f.kind) is_shape ∙ ap (read_listed (in_message t)) (is_kind ∙ same)))
    (element_reading (in_message t) kd (ap message_of_kind (sym same) ∙ none) type)
bytes_reading pool (message_part t v) k (target.Key k2) kd can means of = absurd (no_key (field_numbered k (message_fields pool t)) k 2 k2 means)
bytes_reading pool (message_part t v) k (target.EntryValue k2) kd can means of = absurd (no_entry_value (field_numbered k (message_fields pool t)) k 2 k2 means)
bytes_reading pool (entry_part key k3 y d) k (target.Key k2) kd can (is_key, first, type) of =
    let same : k2 ≡ kd = cc in
    let key_is : key ≡ kd = sym is_key ∙ same in
    subst (λ (z : ℕ). ReadsBytes ((schema_of pool).reading (in_entry key k3) z) kd) (sym first)
    (subst (λ (z : Kind). ReadsBytes (read_singular (in_entry key k3) z) kd) (sym key_is)
    (singular_reading (in_entry key k3) kd (key_no_message kd (subst (λ (z : Kind). IsTrue (is_key_kind z)) key_is can)) (type ∙ ap wire_type_of key_is)))
bytes_reading pool (entry_part key k3 y d) k (target.EntryValue k2) kd can (is_value, second, type, none) of =
    let same : k2 ≡ kd = cc in
    let value_is : k3 ≡ kd = sym is_value ∙ same in
    subst (λ (z : ℕ). ReadsBytes ((schema_of pool).reading (in_entry key k3) z) kd) (sym second)
    (subst (λ (z : Kind). ReadsBytes (read_singular (in_entry key k3) z) kd) (sym value_is)
    (singular_reading (in_entry key k3) kd (ap message_of_kind (sym value_is) ∙ none) (type ∙ ap wire_type_of value_is)))
bytes_reading pool (entry_part key k3 y d) k (target.One k2 s) kd can means of = absurd means
bytes_reading pool (entry_part key k3 y d) k (target.Element k2) kd can means of = absurd means
bytes_reading pool (group_part us) k (target.One k2 s) kd can means of = absurd (cc)
bytes_reading pool (group_part us) k (target.Element k2) kd can means of = absurd (cc)
bytes_reading pool (group_part us) k (target.Key k2) kd can means of = absurd (cc)
bytes_reading pool (group_part us) k (target.EntryValue k2) kd can means of = absurd (cc)
bytes_reading pool now k (target.Packed k2) kd can means of = absurd (cc)
bytes_reading pool now k (target.Message j s) kd can means of = absurd (cc)
bytes_reading pool now k (target.Entry k2 k3) kd can means of = absurd (cc)
bytes_reading pool now k target.Unknown kd can means of = absurd (cc)

-- AN UNKNOWN RECORD IS NOT LOOKED INTO

unfit_singular : (c : Context) (kd : Kind) → (2 ≡ wire_type_of kd → ⊥) → read_singular c kd ≡ unread
unfit_singular c kind.Text never = absurd (never refl)
unfit_singular c (kind.Message m) never = absurd (never refl)
unfit_singular c kd never = refl

not_equal : (a b : ℕ) → (a == b) ≡ false → a ≡ b → ⊥
not_equal a b differ same = false≢true (sym differ ∙ ap (λ (z : ℕ). a == z) (sym same) ∙ self_equal a)

-- a record with a length fits every list but one of groups
unfit_list : (c : Context) (p : Bool) (kd : Kind) → fits_shape (shape.List p) kd 2 ≡ false → read_listed c kd ≡ unread
unfit_list c p (kind.Group m) differ = refl
unfit_list c p kind.Text differ = absurd (false≢true (sym differ))
unfit_list c p kind.Bytes differ = absurd (false≢true (sym differ))
unfit_list c p (kind.Message m) differ = absurd (false≢true (sym differ))
unfit_list c p kd differ = absurd (false≢true (sym differ))

unfit_reading : (c : Context) (s : Shape) (kd : Kind) → fits_shape s kd 2 ≡ false → read_shaped c s kd ≡ unread
unfit_reading c shape.Implicit kd differ = unfit_singular c kd (not_equal 2 (wire_type_of kd) differ)
unfit_reading c shape.Explicit kd differ = unfit_singular c kd (not_equal 2 (wire_type_of kd) differ)
unfit_reading c (shape.OneofMember o) kd differ = unfit_singular c kd (not_equal 2 (wire_type_of kd) differ)
unfit_reading c (shape.List p) kd differ = unfit_list c p kd differ
unfit_reading c (shape.Map key) kd differ = absurd (false≢true (sym differ))

unfit_field : (t k : ℕ) (o : Option FieldView) → AtField o k 2 target.Unknown → read_field (in_message t) o ≡ unread
unfit_field t k None h = refl
unfit_field t k (Some f) h = unfit_reading (in_message t) f.shape f.kind h

unfit_entry : (key kd : Kind) (k : ℕ) → (k ≡ 1 → 2 ≡ wire_type_of key → ⊥) → (k ≡ 2 → 2 ≡ wire_type_of kd → ⊥) → read_field (in_entry key kd) (field_numbered k (key_field key ∷ value_field kd ∷ [])) ≡ unread
unfit_entry key kd k no_first no_second = by_tests (1 == k) refl (2 == k) refl
  where
    by_tests : (a : Bool) → (1 == k) ≡ a → (b : Bool) → (2 == k) ≡ b → read_field (in_entry key kd) (if a then Some (key_field key) else (if b then Some (value_field kd) else None)) ≡ unread
    by_tests true e b g = unfit_singular (in_entry key kd) key (no_first (sym (number_is 1 k e)))
    by_tests false e true g = unfit_singular (in_entry key kd) kd (no_second (sym (number_is 2 k g)))
    by_tests false e false g = refl

unknown_reading : (pool : Types) (now : Part) (k : ℕ) → Means pool (part_context now) k 2 target.Unknown → (schema_of pool).reading (part_context now) k ≡ unread
unknown_reading pool (message_part t v) k means = unfit_field t k (field_numbered k (message_fields pool t)) means
unknown_reading pool (entry_part key kd x d) k means = unfit_entry key kd k means.0 means.1
unknown_reading pool (group_part us) k means = refl

only_unknown : (meant : Target) → IsBytesTarget meant → scalar_kind meant ≡ None → meant ≡ target.Unknown
only_unknown (target.One k s) is of = absurd (cc)
only_unknown (target.Element k) is of = absurd (cc)
only_unknown (target.Key k) is of = absurd (cc)
only_unknown (target.EntryValue k) is of = absurd (cc)
only_unknown target.Unknown is of = refl
only_unknown (target.Packed k) is of = absurd is
only_unknown (target.Message j s) is of = absurd is
only_unknown (target.Entry key k) is of = absurd is

-- THE VALUE

-- the one value that a payload of strings or bytes gives, which is a key where the kind is one of keys
record Given (kd : Kind) (s : List ℕ) : Type 0 where
  value : Scalar
  reads : read kd (len s) ≡ Some value
  alone : elements kd (len s) ≡ value ∷ []
  keyed : IsTrue (is_key_kind kd) → key_in (scalar value) ≡ Some value

given : {r : Reading Context} (kd : Kind) (s : List ℕ) → ReadsBytes r kd → Given kd s
given kd s (a_text is re) = subst (λ (z : Kind). Given z s) (sym is) (record { value = text s; reads = refl; alone = refl; keyed = λ _. refl })
given kd s (some_bytes is re) = subst (λ (z : Kind). Given z s) (sym is) (record { value = bytes s; reads = refl; alone = refl; keyed = λ can. absurd (false≢true can) })

-- what is shown of a string that is not UTF-8 holds of the error
pub if_bad_text :
    (kd : Kind) (s : List ℕ) (e : PayloadError) (P : ℕ → Type 0) → IsPayloadError kd s e → ((valid : ℕ) → kd ≡ kind.Text → ¬ (IsUtf8 s) → valid ≡ utf8_valid_len s → P valid) → IfBadText e P
if_bad_text kd s (error.BadText valid) P (is, wrong, len_is) shown = shown valid is wrong len_is
if_bad_text kd s error.Memory P h shown = tt

pub bad_text_within : (kd : Kind) (s : List ℕ) (e : PayloadError) → IsPayloadError kd s e → IfBadText e (λ valid. valid ≤ length s)
bad_text_within kd s e h = if_bad_text kd s e (λ valid. valid ≤ length s) h (λ valid is wrong len_is. subst (λ (z : ℕ). z ≤ length s) (sym len_is) (utf8_valid_len_le s))

-- THE STEP: the payload that comes next is there in full, and leads from u to w
module _ {pool : Types} {m depth levels : ℕ} {base : List Record} {p0 u : Place} {parents : List Parent} {scope : Scope} {now : Part} (k : ℕ) (meant : Target) (n : ℕ) (begun : After pool m depth levels base p0 parents (step.Payload k meant n) now scope u)
    (can : CanHold pool now) where
  -- how the record is read where it has a value
  reads_here : (kd : Kind) (s : AtPayload pool m depth levels base p0 parents now scope k meant n u) → scalar_kind meant ≡ Some kd → ReadsBytes ((schema_of pool).reading (context_of s.reached.open_now) k) kd
  reads_here kd at of =
      subst (λ (c : Context). ReadsBytes ((schema_of pool).reading c k) kd) (sym (part_of_context now (context_of at.reached.open_now) at.reached.form)) (bytes_reading pool now k meant kd can at.means of)

  -- and where it is unknown
  unread_here : (s : AtPayload pool m depth levels base p0 parents now scope k meant n u) → meant ≡ target.Unknown → (schema_of pool).reading (context_of s.reached.open_now) k ≡ unread
  unread_here at unknown =
      ap (λ (c : Context). (schema_of pool).reading c k) (part_of_context now (context_of at.reached.open_now) at.reached.form)
      ∙ unknown_reading pool now k (subst (λ (z : Target). Means pool (part_context now) k 2 z) unknown at.means)

  payload_sound : (kd : Kind) (s : List ℕ) (c : Context) → ReadsBytes ((schema_of pool).reading c k) kd → (kd ≡ kind.Text → IsUtf8 s) → Sound (schema_of pool) c scope.depth_left k (len s)
  payload_sound kd s c (a_text is re) utf = Sound.a_text re (utf is)
  payload_sound kd s c (some_bytes is re) utf = Sound.some_bytes re

  -- where the part holds its value, the reader is after it
  pub payload_put : {w : Place} (kd : Kind) (s : List ℕ) (put : Part) → scalar_kind meant ≡ Some kd → IsPool pool → (kd ≡ kind.Text → IsUtf8 s) → length s ≡ n → Moves u s w
      → ((x : Scalar) → read kd (len s) ≡ Some x → put ≡ put_datum pool k meant now (scalar x)) → Reached pool m depth levels base p0 parents put (one_more_in k scope) w
  payload_put {w} kd s put of ok utf size moves made =
      let at = at_payload k meant n begun in
      let re = reads_here kd at of in
      let v = given kd s re in
      subst (λ (z : Part). Reached pool m depth levels base p0 parents z (one_more_in k scope) w) (sym (made v.value v.reads))
      (scalar_record_reached ok k (len s) v.value now meant kd can at.reached
      (len_record (context_of at.reached.open_now) scope.depth_left k n s at.has at.length_is size moves (payload_sound kd s (context_of at.reached.open_now) re utf)) at.means of v.alone v.keyed
      (meant_type pool now k 2 meant kd at.means of) (undeclared_len pool (closed_enum kd) s))

  -- where the part holds it as an unknown record, likewise
  pub unknown_payload_put : {w : Place} (s : List ℕ) (put : Part) → IsBytesTarget meant → scalar_kind meant ≡ None → IsPool pool → length s ≡ n → Moves u s w → put ≡ put_record k (len s) now
      → Reached pool m depth levels base p0 parents put (one_more_in k scope) w
  unknown_payload_put {w} s put is of ok size moves made =
      let at = at_payload k meant n begun in
      let unknown = only_unknown meant is of in
      subst (λ (z : Part). Reached pool m depth levels base p0 parents z (one_more_in k scope) w) (sym made)
      (unknown_part_reached ok k (len s) now can at.reached
      (len_record (context_of at.reached.open_now) scope.depth_left k n s at.has at.length_is size moves (Sound.some_bytes (unread_here at unknown)))
      (subst (λ (z : Target). Means pool (part_context now) k 2 z) unknown at.means))

  -- a string that is not UTF-8 is the fault of the whole, at its first wrong byte
  pub text_reported : {w : Place} (kd : Kind) (s : List ℕ) (valid : ℕ) → scalar_kind meant ≡ Some kd → length s ≡ n → Moves u s w → kd ≡ kind.Text → ¬ (IsUtf8 s) → valid ≡ utf8_valid_len s
      → Bad (schema_of pool) (records (in_message m)) depth p0 (below (path_of parents) (fault (u.at + valid) (next_step k scope ∷ []) BadText))
  text_reported {w} kd s valid of size moves is wrong len_is =
      let at = at_payload k meant n begun in
      let whole : take n u.rest ≡ s = ap (take n) moves.given ∙ ap (λ (z : ℕ). take z (s ++ w.rest)) (sym size) ∙ take-append_seam s w.rest in
      let given_size : length u.rest ≡ length s + length w.rest = ap length moves.given ∙ length-append s w.rest in
      reported_inside k 2 (fault (u.at + valid) [] BadText) at.reached at.has
      (RecordFault.bad_text at.has (as_text kd (reads_here kd at of) is) at.length_is (omega (arith, size, given_size)) (λ utf. wrong (subst IsUtf8 whole utf))
      (ap (λ (z : ℕ). fault (u.at + z) (step_into k at.reached.records_so_far ∷ []) BadText) (len_is ∙ ap utf8_valid_len (sym whole))))
    where
      as_text : {r : Reading Context} (kd : Kind) → ReadsBytes r kd → kd ≡ kind.Text → r ≡ text_reading
      as_text kd (a_text same re) is = re
      as_text kd (some_bytes same re) is = absurd (let both : kind.Bytes ≡ kind.Text = sym same ∙ is in cc)

  -- HOW IT IS READ: its bytes are not looked into, or are a string
  pub payload_reading : IsBytesTarget meant → (at : AtPayload pool m depth levels base p0 parents now scope k meant n u)
      → ((schema_of pool).reading (context_of at.reached.open_now) k ≡ unread) ⊎ ((schema_of pool).reading (context_of at.reached.open_now) k ≡ text_reading)
  payload_reading is at = by_kind (scalar_kind meant) refl
    where
      unread_or_text : {r : Reading Context} (kd : Kind) → ReadsBytes r kd → (r ≡ unread) ⊎ (r ≡ text_reading)
      unread_or_text kd (a_text same re) = inr re
      unread_or_text kd (some_bytes same re) = inl re

      by_kind : (o : Option Kind) → scalar_kind meant ≡ o → ((schema_of pool).reading (context_of at.reached.open_now) k ≡ unread) ⊎ ((schema_of pool).reading (context_of at.reached.open_now) k ≡ text_reading)
      by_kind (Some kd) of = unread_or_text kd (reads_here kd at of)
      by_kind None of = inl (unread_here at (only_unknown meant is of))

  -- A PAYLOAD THAT IS CUT: where the input ends inside it, that is the fault of the whole
  pub payload_cut : IsBytesTarget meant → length u.rest < n → Bad (schema_of pool) (records (in_message m)) depth p0 (below (path_of parents) (fault (input_end u) (next_step k scope ∷ []) Truncated))
  payload_cut is short =
      let at = at_payload k meant n begun in
      reported_inside k 2 (fault (input_end u) [] Truncated) at.reached at.has
      (RecordFault.cut_payload at.has (payload_reading is at) (record { size = n; payload = u; length_is = at.length_is; cut = short; fault_is = refl }) refl)
