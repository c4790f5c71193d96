-- An unknown number: it goes among the unknown records of a part.
use Rattle.std.proofs.Common.{◌≡◌, ℕ, List, [], ◌∷◌, ◌++◌, refl, sym, ap, ◌∙◌, subst, Option, Some, None}
use Rattle.std.specs.Prelude.{Bool, true, false, not, ◌==◌, ◌&&◌}
use Rattle.std.proofs.lemmas.Bool.{false≢true}
use Rattle.pb_wire.specs.Record.{Payload, Record, wire_type}
use Rattle.pb_wire.specs.Fault.{Place}
use Rattle.pb_wire.specs.Schema.{context_of}
use Rattle.pb_schema.specs.declared.types.Kind.{Kind}
use Rattle.pb_schema.specs.declared.types.Shape.{Shape}
use Rattle.pb_schema.specs.declared.types.Shape.TheVariants as shape
use Rattle.pb_schema.specs.Types.{FieldView, Types, message_fields, field_numbered}
use Rattle.pb_schema.specs.Rules.{IsPool}
use Rattle.pb_schema.specs.Kinds.{wire_type_of}
use Rattle.pb_schema.specs.Fits.{fits_any, fits_shape}
use Rattle.pb_schema.specs.Closed.{closed_of, is_undeclared, counts}
use Rattle.pb_value.proofs.KnownLemmas.{IsWhole}
use Rattle.pb_schema.specs.Context.{schema_of}
use Rattle.pb_value.proofs.JudgeLemmas.{fits_any-found, fits_any-none}
use Rattle.pb_value.proofs.OneofLemmas.{pool_differ}
use Rattle.pb_wire.specs.declared.scan.Number.{Number}
use Rattle.pb_wire.specs.declared.scan.Number.TheVariants as number
use Rattle.pb_decode_parts.specs.declared.open.part.Slot.TheVariants as slot
use Rattle.pb_decode_parts.specs.declared.open.target.Target.{Target}
use Rattle.pb_decode_parts.specs.declared.open.target.Target.TheVariants as target
use Rattle.pb_decode_parts.specs.declared.tokens.step.Step.{Step}
use Rattle.pb_decode_parts.specs.Tokens.Number.{number_view}
use Rattle.pb_decode_parts.specs.Tokens.Numbers.{Follows}
use Rattle.pb_decode_parts.specs.Values.Put.{scalar_kind, put_record}
use Rattle.pb_decode_parts.specs.Open.Targets.{OfShape, AtField, Means, part_context}
use Rattle.pb_decode_parts.specs.Open.Parents.{Part, message_part, entry_part, group_part, CanHold, Parent, Reached, Scope, one_more_in}
use Rattle.pb_decode_parts.specs.Tokens.After.{tag, awaited, After}
use Rattle.pb_decode_parts.proofs.OpenedLemmas.{RecordTo}
use Rattle.pb_decode_parts.proofs.ParentLemmas.{one_more}
use Rattle.pb_decode_parts.proofs.StepsOfParts.{unknown_reached}
use Rattle.pb_decode_parts.proofs.EntrySteps.{dropped_reached}
use Rattle.pb_decode_parts.proofs.AfterLemmas.{at_tag}
use Rattle.pb_decode_parts.proofs.NumberSteps.{number_is, number_record}
use Rattle.pb_decode_parts.proofs.KindLemmas.{is_deep, by_two, deep_kind, deep_list, unfit_whole}
use Rattle.pb_value.proofs.StepLemmas.{self_equal}

-- A NUMBER IS OF NO OTHER PURPOSE than a scalar's or an unknown record's

-- targets of records of a length
abbrev IsDeep : Target → Type 0
IsDeep (target.Packed k) = Unit {0}
IsDeep (target.Message j s) = Unit {0}
IsDeep (target.Entry key k) = Unit {0}
IsDeep _ = ⊥

not_two : (a : Number) → is_deep (wire_type (number_view a)) ≡ true → ⊥
not_two (number.Varint n) e = false≢true e
not_two (number.I64 n) e = false≢true e
not_two (number.I32 n) e = false≢true e

deep_type : (k : Kind) (t : Shape) (n w : ℕ) (meant : Target) → fits_shape t k w ≡ true → OfShape k t n w meant → IsDeep meant → is_deep w ≡ true
deep_type k (shape.Map key) n w meant e h deep = by_two (w == 2) (w == 3) e
deep_type k (shape.List p) n w (target.Packed kd) e h deep = ap is_deep h.3
deep_type k (shape.List p) n w (target.Message j (slot.One s2 n2)) e h deep = absurd h
deep_type k (shape.List p) n w (target.Message j (slot.List n2)) e h deep = deep_list p k j.0 w h.0 e
deep_type k (shape.List p) n w (target.Message j (slot.Map n2)) e h deep = absurd h
deep_type k (shape.List p) n w (target.Message j slot.Entry) e h deep = absurd h
deep_type k (shape.List p) n w (target.Message j (slot.Unknown n2)) e h deep = absurd h
deep_type k (shape.List p) n w (target.Entry key2 k2) e h deep = absurd h
deep_type k shape.Implicit n w (target.Packed kd) e h deep = absurd h
deep_type k shape.Implicit n w (target.Entry key2 k2) e h deep = absurd h
deep_type k shape.Implicit n w (target.Message j (slot.One s2 n2)) e h deep = deep_kind k j.0 w h.0 e
deep_type k shape.Implicit n w (target.Message j (slot.List n2)) e h deep = absurd h
deep_type k shape.Implicit n w (target.Message j (slot.Map n2)) e h deep = absurd h
deep_type k shape.Implicit n w (target.Message j slot.Entry) e h deep = absurd h
deep_type k shape.Implicit n w (target.Message j (slot.Unknown n2)) e h deep = absurd h
deep_type k shape.Explicit n w (target.Packed kd) e h deep = absurd h
deep_type k shape.Explicit n w (target.Entry key2 k2) e h deep = absurd h
deep_type k shape.Explicit n w (target.Message j (slot.One s2 n2)) e h deep = deep_kind k j.0 w h.0 e
deep_type k shape.Explicit n w (target.Message j (slot.List n2)) e h deep = absurd h
deep_type k shape.Explicit n w (target.Message j (slot.Map n2)) e h deep = absurd h
deep_type k shape.Explicit n w (target.Message j slot.Entry) e h deep = absurd h
deep_type k shape.Explicit n w (target.Message j (slot.Unknown n2)) e h deep = absurd h
deep_type k (shape.OneofMember o) n w (target.Packed kd) e h deep = absurd h
deep_type k (shape.OneofMember o) n w (target.Entry key2 k2) e h deep = absurd h
deep_type k (shape.OneofMember o) n w (target.Message j (slot.One s2 n2)) e h deep = deep_kind k j.0 w h.0 e
deep_type k (shape.OneofMember o) n w (target.Message j (slot.List n2)) e h deep = absurd h
deep_type k (shape.OneofMember o) n w (target.Message j (slot.Map n2)) e h deep = absurd h
deep_type k (shape.OneofMember o) n w (target.Message j slot.Entry) e h deep = absurd h
deep_type k (shape.OneofMember o) n w (target.Message j (slot.Unknown n2)) e h deep = absurd h
deep_type k t n w (target.One kd s2) e h deep = absurd deep
deep_type k t n w (target.Element kd) e h deep = absurd deep
deep_type k t n w (target.Key kd) e h deep = absurd deep
deep_type k t n w (target.EntryValue kd) e h deep = absurd deep
deep_type k t n w target.Unknown e h deep = absurd deep

deep_field : (o : Option FieldView) (n w : ℕ) (meant : Target) → AtField o n w meant → IsDeep meant → is_deep w ≡ true
deep_field None n w (target.Packed k) h deep = absurd (cc)
deep_field None n w (target.Message j s) h deep = absurd (cc)
deep_field None n w (target.Entry key k) h deep = absurd (cc)
deep_field (Some f) n w (target.Packed k) h deep = deep_type f.kind f.shape n w (target.Packed k) h.0 h.1 tt
deep_field (Some f) n w (target.Message j s) h deep = deep_type f.kind f.shape n w (target.Message j s) h.0 h.1 tt
deep_field (Some f) n w (target.Entry key k) h deep = deep_type f.kind f.shape n w (target.Entry key k) h.0 h.1 tt
deep_field o n w meant h deep = absurd deep

only_unknown : (pool : Types) (now : Part) (k : ℕ) (a : Number) (meant : Target) → Means pool (part_context now) k (wire_type (number_view a)) meant → scalar_kind meant ≡ None → meant ≡ target.Unknown
only_unknown pool now k a (target.One k2 s) means of = absurd (cc)
only_unknown pool now k a (target.Element k2) means of = absurd (cc)
only_unknown pool now k a (target.Key k2) means of = absurd (cc)
only_unknown pool now k a (target.EntryValue k2) means of = absurd (cc)
only_unknown pool now k a target.Unknown means of = refl
only_unknown pool (message_part t v) k a (target.Packed k2) means of = absurd (not_two a (deep_field (field_numbered k (message_fields pool t)) k (wire_type (number_view a)) (target.Packed k2) means tt))
only_unknown pool (entry_part key k4 x d) k a (target.Packed k2) means of = absurd means
only_unknown pool (group_part us) k a (target.Packed k2) means of = means
only_unknown pool (message_part t v) k a (target.Entry k2 k3) means of = absurd (not_two a (deep_field (field_numbered k (message_fields pool t)) k (wire_type (number_view a)) (target.Entry k2 k3) means tt))
only_unknown pool (entry_part key k4 x d) k a (target.Entry k2 k3) means of = absurd means
only_unknown pool (group_part us) k a (target.Entry k2 k3) means of = means
only_unknown pool (message_part t v) k a (target.Message j (slot.One s2 n2)) means of = absurd (not_two a (deep_field (field_numbered k (message_fields pool t)) k (wire_type (number_view a)) (target.Message j (slot.One s2 n2)) means tt))
only_unknown pool (entry_part key k4 x d) k a (target.Message j (slot.One s2 n2)) means of = absurd means
only_unknown pool (group_part us) k a (target.Message j (slot.One s2 n2)) means of = means
only_unknown pool (message_part t v) k a (target.Message j (slot.List n2)) means of = absurd (not_two a (deep_field (field_numbered k (message_fields pool t)) k (wire_type (number_view a)) (target.Message j (slot.List n2)) means tt))
only_unknown pool (entry_part key k4 x d) k a (target.Message j (slot.List n2)) means of = absurd means
only_unknown pool (group_part us) k a (target.Message j (slot.List n2)) means of = means
only_unknown pool (message_part t v) k a (target.Message j (slot.Map n2)) means of = absurd (not_two a (deep_field (field_numbered k (message_fields pool t)) k (wire_type (number_view a)) (target.Message j (slot.Map n2)) means tt))
only_unknown pool (entry_part key k4 x d) k a (target.Message j (slot.Map n2)) means of = absurd means
only_unknown pool (group_part us) k a (target.Message j (slot.Map n2)) means of = means
only_unknown pool (message_part t v) k a (target.Message j slot.Entry) means of = absurd (not_two a (deep_field (field_numbered k (message_fields pool t)) k (wire_type (number_view a)) (target.Message j slot.Entry) means tt))
only_unknown pool (entry_part key k4 x d) k a (target.Message j slot.Entry) means of = absurd (not_two a (ap is_deep means.2 ∙ deep_kind k4 j.0 (wire_type_of k4) means.0 (self_equal (wire_type_of k4))))
only_unknown pool (group_part us) k a (target.Message j slot.Entry) means of = means
only_unknown pool (message_part t v) k a (target.Message j (slot.Unknown n2)) means of = absurd (not_two a (deep_field (field_numbered k (message_fields pool t)) k (wire_type (number_view a)) (target.Message j (slot.Unknown n2)) means tt))
only_unknown pool (entry_part key k4 x d) k a (target.Message j (slot.Unknown n2)) means of = absurd means
only_unknown pool (group_part us) k a (target.Message j (slot.Unknown n2)) means of = means

-- THE PART WITH IT

pub not_both : (a b c d : ℕ) → (a ≡ b → c ≡ d → ⊥) → ((a == b) && (c == d)) ≡ false
not_both a b c d never = by_tests (a == b) refl (c == d) refl
  where
    by_tests : (x : Bool) → (a == b) ≡ x → (y : Bool) → (c == d) ≡ y → (x && y) ≡ false
    by_tests true e true f = absurd (never (number_is a b e) (number_is c d f))
    by_tests true e false f = refl
    by_tests false e y f = refl

fits_nothing : (pool : Types) (t k : ℕ) (p : Payload) → IsPool pool → AtField (field_numbered k (message_fields pool t)) k (wire_type p) target.Unknown → fits_any (message_fields pool t) (record { number = k; payload = p }) ≡ false
fits_nothing pool t k p ok h = at_field (field_numbered k (message_fields pool t)) refl h
  where
    at_field : (o : Option FieldView) → field_numbered k (message_fields pool t) ≡ o → AtField o k (wire_type p) target.Unknown → fits_any (message_fields pool t) (record { number = k; payload = p }) ≡ false
    at_field None found h = fits_any-none pool t (record { number = k; payload = p }) ok found
    at_field (Some f) found h = fits_any-found pool t (record { number = k; payload = p }) f ok found ∙ h

-- a record that fits no field is whole, and doesn't count
pub unfit_unknown : (pool : Types) (t k : ℕ) (p : Payload) → IsPool pool → AtField (field_numbered k (message_fields pool t)) k (wire_type p) target.Unknown
    → IsWhole (message_fields pool t) (record { number = k; payload = p }) × (counts pool (message_fields pool t) (record { number = k; payload = p }) ≡ false)
unfit_unknown pool t k p ok h = (
  unfit_whole (field_numbered k (message_fields pool t)) p (λ f found. subst (λ (o : Option FieldView). AtField o k (wire_type p) target.Unknown) found h),
  ap (λ (b : Bool). b && not (is_undeclared pool (closed_of (field_numbered k (message_fields pool t))) p)) (fits_nothing pool t k p ok h),
)

-- an unknown record of any payload, in any part
pub unknown_part_reached :
    {pool : Types} {m depth levels : ℕ} {base : List Record} {p0 : Place} {parents : List Parent} {scope : Scope} {q w : Place} (ok : IsPool pool) (k : ℕ) (p : Payload) (now : Part) → CanHold pool now → (s : Reached pool m depth levels base p0 parents now scope q)
    → RecordTo (schema_of pool) (context_of s.open_now) scope.depth_left q (record { number = k; payload = p }) w → Means pool (part_context now) k (wire_type p) target.Unknown → Reached pool m depth levels base p0 parents (put_record k p now) (one_more_in k scope) w
unknown_part_reached {pool} ok k p (message_part t v) can s h means = unknown_reached t v s (pool_differ pool t ok can.0) (record { number = k; payload = p }) h (unfit_unknown pool t k p ok means).0 (unfit_unknown pool t k p ok means).1
unknown_part_reached ok k p (entry_part key kd x d) can s h means =
    dropped_reached key kd x d s (record { number = k; payload = p }) h (not_both k 1 (wire_type p) (wire_type_of key) means.0) (not_both k 2 (wire_type p) (wire_type_of kd) means.1)
unknown_part_reached ok k p (group_part us) can s h means =
    one_more s (record { number = k; payload = p }) (group_part (us ++ record { number = k; payload = p } ∷ [])) h tt (ap (λ (z : List Record). z ++ record { number = k; payload = p } ∷ []) s.worth)

-- THE STEP: where the part holds the unknown number, the reader is after it
pub unknown_put :
    {pool : Types} {m depth levels : ℕ} {base : List Record} {p0 u w : Place} {parents : List Parent} {scope : Scope} {next : Step} {now : Part} (k : ℕ) (a : Number) (meant : Target) (put : Part) → After pool m depth levels base p0 parents next now scope u
    → awaited next ≡ Some (tag k (wire_type (number_view a)) meant) → scalar_kind meant ≡ None → IsPool pool → CanHold pool now → Follows u (number_view a) w → put ≡ put_record k (number_view a) now → Reached pool m depth levels base p0 parents put (one_more_in k scope) w
unknown_put {pool} {m} {depth} {levels} {base} {p0} {u} {w} {parents} {scope} {next} {now} k a meant put begun is of ok can follows made =
    let after = at_tag (tag k (wire_type (number_view a)) meant) begun is in
    let unknown : meant ≡ target.Unknown = only_unknown pool now k a meant after.means of in
    subst (λ (z : Part). Reached pool m depth levels base p0 parents z (one_more_in k scope) w) (sym made)
    (unknown_part_reached ok k (number_view a) now can after.reached (number_record (context_of after.reached.open_now) scope.depth_left k a after.has follows)
    (subst (λ (z : Target). Means pool (part_context now) k (wire_type (number_view a)) z) unknown after.means))
