-- A number that a closed enum doesn't declare: it goes among the unknown records of a message.
use Rattle.std.proofs.Common.{◌≡◌, ℕ, ◌<◌, List, length, refl, sym, ap, ◌∙◌, subst, Option, Some, None, IsTrue}
use Rattle.std.specs.Prelude.{Bool, true, false, not, ◌==◌, ◌&&◌}
use Rattle.std.proofs.lemmas.Bool.{false≢true}
use Rattle.pb_wire.specs.Record.{Payload, Record, wire_type}
use Rattle.pb_wire.specs.Fault.{Place}
use Rattle.pb_wire.specs.Schema.{context_of}
use Rattle.pb_schema.specs.declared.types.Kind.{Kind}
use Rattle.pb_schema.specs.declared.types.Kind.TheVariants as kind
use Rattle.pb_schema.specs.declared.types.Shape.{Shape}
use Rattle.pb_schema.specs.declared.types.Shape.TheVariants as shape
use Rattle.pb_schema.specs.Types.{FieldView, Types, message_fields, field_numbered}
use Rattle.pb_schema.specs.Rules.{IsPool}
use Rattle.pb_schema.specs.Kinds.{wire_type_of, closed_enum, is_key_kind, is_of_proto2}
use Rattle.pb_schema.specs.Fits.{fits_any}
use Rattle.pb_schema.specs.Closed.{closed_shaped, closed_of, is_undeclared}
use Rattle.pb_schema.specs.Context.{schema_of}
use Rattle.pb_value.specs.Data.{Message}
use Rattle.pb_value.specs.Change.{IsSingle}
use Rattle.pb_value.proofs.OneofLemmas.{pool_differ}
use Rattle.pb_value.proofs.StepLemmas.{self_equal}
use Rattle.pb_wire.specs.declared.scan.Number.{Number}
use Rattle.pb_decode_parts.specs.declared.open.target.Target.{Target}
use Rattle.pb_decode_parts.specs.declared.open.target.Target.TheVariants as target
use Rattle.pb_decode_parts.specs.declared.tokens.step.Step.{Step}
use Rattle.pb_decode_parts.specs.Tokens.Number.{number_view}
use Rattle.pb_decode_parts.specs.Tokens.Numbers.{Follows}
use Rattle.pb_decode_parts.specs.Values.Put.{scalar_kind, put_record}
use Rattle.pb_decode_parts.specs.Open.Targets.{Means, part_context}
use Rattle.pb_decode_parts.specs.Open.Parents.{Part, message_part, entry_part, group_part, CanHold, Parent, Reached, Scope, one_more_in}
use Rattle.pb_decode_parts.specs.Tokens.After.{tag, awaited, After}
use Rattle.pb_decode_parts.proofs.OpenedLemmas.{RecordTo}
use Rattle.pb_decode_parts.proofs.StepsOfParts.{unknown_reached}
use Rattle.pb_decode_parts.proofs.NumberSteps.{single_field, listed_field, no_key, no_entry_value, meant_type, number_record}
use Rattle.pb_decode_parts.proofs.KindLemmas.{own_whole}
use Rattle.pb_decode_parts.proofs.WellLemmas.{value_no_proto2}
use Rattle.pb_decode_parts.proofs.AfterLemmas.{at_tag}

single_closed : (s : Shape) (k : Kind) → IsSingle s → closed_shaped s k ≡ closed_enum k
single_closed shape.Implicit k single = refl
single_closed shape.Explicit k single = refl
single_closed (shape.OneofMember o) k single = refl
single_closed (shape.List p) k single = absurd single
single_closed (shape.Map key) k single = absurd single

key_open : (k : Kind) → IsTrue (is_key_kind k) → closed_enum k ≡ None
key_open (kind.ClosedEnum e) can = absurd (false≢true can)
key_open k can = refl

value_open : (k : Kind) → is_of_proto2 k ≡ false → closed_enum k ≡ None
value_open (kind.ClosedEnum e) none = absurd (false≢true (sym none))
value_open k none = refl

never_undeclared : (pool : Types) (k : Kind) (p : Payload) → closed_enum k ≡ None → is_undeclared pool (closed_enum k) p ≡ true → ⊥
never_undeclared pool k p none e = false≢true (sym (ap (λ (o : Option ℕ). is_undeclared pool o p) none) ∙ e)

never_counts : (b : Bool) → (b && false) ≡ false
never_counts true = refl
never_counts false = refl

own_type : (p : Payload) (f : FieldView) (k2 kd : Kind) → f.kind ≡ k2 → k2 ≡ kd → wire_type p ≡ wire_type_of kd → (wire_type p == wire_type_of f.kind) ≡ true
own_type p f k2 kd is same type = ap (λ (z : Kind). wire_type p == wire_type_of z) (is ∙ same) ∙ ap (λ (z : ℕ). z == wire_type_of kd) type ∙ self_equal (wire_type_of kd)

module _ {pool : Types} {m depth levels : ℕ} {base : List Record} {p0 : Place} {parents : List Parent} {scope : Scope} (ok : IsPool pool) (k : ℕ) (p : Payload) {q w : Place} where
  in_field : (t : ℕ) (v : Message) (f : FieldView) → t < length pool.messages → (st : Reached pool m depth levels base p0 parents (message_part t v) scope q)
      → RecordTo (schema_of pool) (context_of st.open_now) scope.depth_left q (record { number = k; payload = p }) w → field_numbered k (message_fields pool t) ≡ Some f → (wire_type p == wire_type_of f.kind) ≡ true
      → closed_shaped f.shape f.kind ≡ closed_enum f.kind → is_undeclared pool (closed_enum f.kind) p ≡ true → Reached pool m depth levels base p0 parents (put_record k p (message_part t v)) (one_more_in k scope) w
  in_field t v f within st to found own closed undeclared =
      let fs = message_fields pool t in
      unknown_reached t v st (pool_differ pool t ok within) (record { number = k; payload = p }) to (own_whole fs k f p found own)
      (ap (λ (o : Option FieldView). fits_any fs (record { number = k; payload = p }) && not (is_undeclared pool (closed_of o) p)) found
      ∙ ap (λ (e : Option ℕ). fits_any fs (record { number = k; payload = p }) && not (is_undeclared pool e p)) closed
      ∙ ap (λ (b : Bool). fits_any fs (record { number = k; payload = p }) && not b) undeclared ∙ never_counts (fits_any fs (record { number = k; payload = p })))

  pub undeclared_record_reached : (now : Part) (meant : Target) (kd : Kind) → CanHold pool now → (st : Reached pool m depth levels base p0 parents now scope q)
      → RecordTo (schema_of pool) (context_of st.open_now) scope.depth_left q (record { number = k; payload = p }) w → Means pool (part_context now) k (wire_type p) meant → scalar_kind meant ≡ Some kd → wire_type p ≡ wire_type_of kd
      → is_undeclared pool (closed_enum kd) p ≡ true → Reached pool m depth levels base p0 parents (put_record k p now) (one_more_in k scope) w
  undeclared_record_reached (message_part t v) (target.One k2 s) kd can st to means of type undeclared =
      let (f, found, e, is_kind, is_shape, single, none) = single_field (field_numbered k (message_fields pool t)) k (wire_type p) k2 s means in
      let same : k2 ≡ kd = cc in
      in_field t v f can.0 st to found (own_type p f k2 kd is_kind same type) (ap (λ (z : Shape). closed_shaped z f.kind) is_shape ∙ single_closed s f.kind single)
      (ap (λ (z : Kind). is_undeclared pool (closed_enum z) p) (is_kind ∙ same) ∙ undeclared)
  undeclared_record_reached (message_part t v) (target.Element k2) kd can st to means of type undeclared =
      let (f, found, e, is_kind, (b, is_shape), none) = listed_field (field_numbered k (message_fields pool t)) k (wire_type p) k2 means in
      let same : k2 ≡ kd = cc in
      in_field t v f can.0 st to found (own_type p f k2 kd is_kind same type) (ap (λ (z : Shape). closed_shaped z f.kind) is_shape)
      (ap (λ (z : Kind). is_undeclared pool (closed_enum z) p) (is_kind ∙ same) ∙ undeclared)
  undeclared_record_reached (message_part t v) (target.Key k2) kd can st to means of type undeclared = absurd (no_key (field_numbered k (message_fields pool t)) k (wire_type p) k2 means)
  undeclared_record_reached (message_part t v) (target.EntryValue k2) kd can st to means of type undeclared = absurd (no_entry_value (field_numbered k (message_fields pool t)) k (wire_type p) k2 means)
  undeclared_record_reached (entry_part key k3 y d) (target.Key k2) kd can st to means of type undeclared =
      let same : k2 ≡ kd = cc in
      let own : IsTrue (is_key_kind kd) = subst (λ (z : Kind). IsTrue (is_key_kind z)) (sym means.0 ∙ same) can in
      absurd (never_undeclared pool kd p (key_open kd own) undeclared)
  undeclared_record_reached (entry_part key k3 y d) (target.EntryValue k2) kd can st to means of type undeclared =
      let same : k2 ≡ kd = cc in
      let own : is_of_proto2 kd ≡ false = subst (λ (z : Kind). is_of_proto2 z ≡ false) (sym means.0 ∙ same) (value_no_proto2 key k3 y d st) in
      absurd (never_undeclared pool kd p (value_open kd own) undeclared)
  undeclared_record_reached (entry_part key k3 y d) (target.One k2 s) kd can st to means of type undeclared = absurd means
  undeclared_record_reached (entry_part key k3 y d) (target.Element k2) kd can st to means of type undeclared = absurd means
  undeclared_record_reached (group_part us) (target.One k2 s) kd can st to means of type undeclared = absurd (cc)
  undeclared_record_reached (group_part us) (target.Element k2) kd can st to means of type undeclared = absurd (cc)
  undeclared_record_reached (group_part us) (target.Key k2) kd can st to means of type undeclared = absurd (cc)
  undeclared_record_reached (group_part us) (target.EntryValue k2) kd can st to means of type undeclared = absurd (cc)
  undeclared_record_reached now (target.Packed k2) kd can st to means of type undeclared = absurd (cc)
  undeclared_record_reached now (target.Message j s) kd can st to means of type undeclared = absurd (cc)
  undeclared_record_reached now (target.Entry k2 k3) kd can st to means of type undeclared = absurd (cc)
  undeclared_record_reached now target.Unknown kd can st to means of type undeclared = absurd (cc)

-- THE STEP: where the part holds the undeclared number, the reader is after it
pub undeclared_put :
    {pool : Types} {m depth levels : ℕ} {base : List Record} {p0 u w : Place} {parents : List Parent} {scope : Scope} {next : Step} {now : Part} (k : ℕ) (a : Number) (meant : Target) (kd : Kind) (put : Part)
    → After pool m depth levels base p0 parents next now scope u → awaited next ≡ Some (tag k (wire_type (number_view a)) meant) → scalar_kind meant ≡ Some kd → IsPool pool → CanHold pool now
    → is_undeclared pool (closed_enum kd) (number_view a) ≡ true → Follows u (number_view a) w → put ≡ put_record k (number_view a) now → Reached pool m depth levels base p0 parents put (one_more_in k scope) w
undeclared_put {pool} {m} {depth} {levels} {base} {p0} {u} {w} {parents} {scope} {next} {now} k a meant kd put begun is of ok can undeclared follows made =
    let after = at_tag (tag k (wire_type (number_view a)) meant) begun is in
    subst (λ (z : Part). Reached pool m depth levels base p0 parents z (one_more_in k scope) w) (sym made)
    (undeclared_record_reached ok k (number_view a) now meant kd can after.reached (number_record (context_of after.reached.open_now) scope.depth_left k a after.has follows) after.means of
    (meant_type pool now k (wire_type (number_view a)) meant kd after.means of) undeclared)
