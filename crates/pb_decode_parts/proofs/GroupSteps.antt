-- A group is opened, of which no schema knows: in a message, in an entry, in a group.
use Rattle.std.proofs.Common.{◌≡◌, ℕ, zero, suc, ◌-◌, ◌<◌, List, [], ◌∷◌, ◌++◌, refl, sym, ap, ◌∙◌, subst, arith, Option, Some, None}
use Rattle.std.specs.Prelude.{Bool, true, false, ◌==◌, IsTrue}
use Rattle.pb_wire.specs.Record.{Payload, varint, fixed64, len, group, fixed32, Group, no_more, more, Record, group_of, records_in, wire_type}
use Rattle.pb_wire.specs.declared.fault.Cause.TheVariants.{TooDeep}
use Rattle.pb_wire.specs.Fault.{fault, Place, step as step_into, HasTag}
use Rattle.pb_wire.specs.Schema.{records, in_group, context_of}
use Rattle.pb_wire.specs.Grammar.{Bad, RecordFault}
use Rattle.pb_schema.specs.declared.types.Kind.{Kind}
use Rattle.pb_schema.specs.declared.types.Kind.TheVariants as kind
use Rattle.pb_schema.specs.declared.types.Shape.{Shape}
use Rattle.pb_schema.specs.declared.types.Shape.TheVariants as shape
use Rattle.pb_schema.specs.Types.{FieldView, Types, message_fields, field_numbered}
use Rattle.pb_schema.specs.Rules.{IsPool}
use Rattle.pb_schema.specs.Kinds.{wire_type_of, is_key_kind, message_of_kind}
use Rattle.pb_schema.specs.Fits.{fits, fits_shape}
use Rattle.std.proofs.lemmas.Bool.{false≢true}
use Rattle.pb_schema.specs.Context.{Context, a_message as in_message, unknown_group, group_of_kind, group_shaped, group_of_field, key_field, value_field, schema_of}
use Rattle.pb_value.specs.Data.{Message, body, fields_of, unknown_of}
use Rattle.pb_value.specs.Value.{last_of, all_elements, one_value, value_within}
use Rattle.pb_value.proofs.OneofLemmas.{pool_differ}
use Rattle.pb_value.proofs.StepLemmas.{filter-fails, self_equal}
use Rattle.pb_value.proofs.MessageSteps.{message_unknown}
use Rattle.pb_schema.specs.declared.types.MessageId.{MessageId}
use Rattle.pb_decode_parts.specs.declared.open.part.Slot.{Slot}
use Rattle.pb_decode_parts.specs.declared.open.part.Slot.TheVariants as slot
use Rattle.pb_decode_parts.specs.declared.open.target.Target.{Target}
use Rattle.pb_decode_parts.specs.declared.open.target.Target.TheVariants as target
use Rattle.pb_decode_parts.specs.Open.Opened as opened
use Rattle.pb_decode_parts.specs.Values.Put.{put_record}
use Rattle.pb_decode_parts.specs.Open.Targets.{OfShape, AtField, IsNoMessage, Means, part_context}
use Rattle.pb_decode_parts.specs.Open.Parents.{Part, message_part, entry_part, group_part, put_group, CanHold, IsWorth, Parent, Completes, inside, Scope, next_step, path_of, EndsAt, Reached, Takes}
use Rattle.pb_decode_parts.proofs.StepCounts.{counts_of_none}
use Rattle.pb_decode_parts.proofs.OpenedLemmas.{so_far_nothing}
use Rattle.pb_decode_parts.proofs.ParentLemmas.{ends_along, part_of_context}
use Rattle.pb_decode_parts.proofs.UnknownSteps.{not_both, unfit_unknown}
use Rattle.pb_decode_parts.proofs.AfterLemmas.{reported_inside}

-- A GROUP THAT FITS NO FIELD holds unknown records

unfit_kind : (k : Kind) → (3 == wire_type_of k) ≡ false → group_of_kind k ≡ unknown_group
unfit_kind (kind.Group m) e = absurd (false≢true (sym e))
unfit_kind k e = refl

unfit_list : (p : Bool) (k : Kind) → fits_shape (shape.List p) k 3 ≡ false → group_of_kind k ≡ unknown_group
unfit_list p (kind.Group m) e = absurd (false≢true (sym e))
unfit_list p k e = refl

unfit_shape : (s : Shape) (k : Kind) → fits_shape s k 3 ≡ false → group_shaped s k ≡ unknown_group
unfit_shape (shape.Map key) k e = refl
unfit_shape (shape.List p) k e = unfit_list p k e
unfit_shape shape.Implicit k e = unfit_kind k e
unfit_shape shape.Explicit k e = unfit_kind k e
unfit_shape (shape.OneofMember o) k e = unfit_kind k e

unfit_field : (o : Option FieldView) (k : ℕ) → AtField o k 3 target.Unknown → group_of_field o ≡ unknown_group
unfit_field None k h = refl
unfit_field (Some f) k h = unfit_shape f.shape f.kind h

pub group_unknown : (pool : Types) (now : Part) (k : ℕ) → Means pool (part_context now) k 3 target.Unknown → (schema_of pool).group_context (part_context now) k ≡ unknown_group
group_unknown pool (message_part t v) k means = unfit_field (field_numbered k (message_fields pool t)) k means
group_unknown pool (entry_part key kd x d) k means = refl
group_unknown pool (group_part us) k means = refl

-- A PART WITH AN UNKNOWN RECORD is worth the records with that record
unknown_worth :
    {pool : Types} (ok : IsPool pool) (levels : ℕ) (now : Part) (rs : List Record) (k w : ℕ) (p : Payload) → wire_type p ≡ w → CanHold pool now → 0 < levels → Means pool (part_context now) k w target.Unknown
    → IsWorth pool levels now rs → IsWorth pool levels (put_record k p now) (rs ++ record { number = k; payload = p } ∷ [])
unknown_worth {pool} ok zero now rs k w p type can some means worth = absurd (omega (arith, some))
unknown_worth {pool} ok (suc l) (message_part t v) rs k w p type can some means worth =
    ap (λ (y : Message). body (fields_of y) (unknown_of y ++ record { number = k; payload = p } ∷ [])) worth
    ∙ sym (message_unknown pool l t (pool_differ pool t ok can.0) rs (record { number = k; payload = p })
    (unfit_unknown pool t k p ok (subst (λ (z : ℕ). AtField (field_numbered k (message_fields pool t)) k z target.Unknown) (sym type) means)).0
    (unfit_unknown pool t k p ok (subst (λ (z : ℕ). AtField (field_numbered k (message_fields pool t)) k z target.Unknown) (sym type) means)).1)
unknown_worth {pool} ok (suc l) (entry_part key kd x d) rs k w p type can some means worth =
    let r : Record = record { number = k; payload = p } in
    let no_key : fits (key_field key) r ≡ false = not_both k 1 (wire_type p) (wire_type_of key) (λ one e. means.0 one (sym type ∙ e)) in
    let no_value : fits (value_field kd) r ≡ false = not_both k 2 (wire_type p) (wire_type_of kd) (λ two e. means.1 two (sym type ∙ e)) in (
      worth.0 ∙ ap (λ (z : List Record). last_of (all_elements key z)) (sym (filter-fails (fits (key_field key)) rs r no_key)),
      worth.1 ∙ ap (one_value (value_within pool (suc l)) kd) (sym (filter-fails (fits (value_field kd)) rs r no_value)),
    )
unknown_worth {pool} ok (suc l) (group_part us) rs k w p type can some means worth = ap (λ (z : List Record). z ++ record { number = k; payload = p } ∷ []) worth

group_again : (g : Group) → group_of (records_in g) ≡ g
group_again no_more = refl
group_again (more a b g) = ap (more a b) (group_again g)

group_put : (k : ℕ) (now : Part) (us : List Record) → put_group (slot.Unknown k) now us ≡ put_record k (group (group_of us)) now
group_put k (message_part t v) us = refl
group_put k (entry_part key kd x d) us = refl
group_put k (group_part vs) us = refl

group_goes : (k : ℕ) (now : Part) (us : List Record) → Takes (slot.Unknown k) now (group_part us)
group_goes k (message_part t v) us = tt
group_goes k (entry_part key kd x d) us = tt
group_goes k (group_part vs) us = tt

-- WHAT THE FIRST TAG OF A GROUP IS FOR that opens no message: an unknown group

group_kind : (k : Kind) → (3 == wire_type_of k) ≡ true → message_of_kind k ≡ None → ⊥
group_kind (kind.Group i) e none = cc
group_kind k e none = false≢true e

key_type : (k : Kind) → IsTrue (is_key_kind k) → 3 ≡ wire_type_of k → ⊥
key_type (kind.Group i) can type = false≢true can
key_type k can type = omega (arith, type)

value_type : (k : Kind) → message_of_kind k ≡ None → 3 ≡ wire_type_of k → ⊥
value_type k none type = group_kind k (ap (λ (z : ℕ). z == wire_type_of k) type ∙ self_equal (wire_type_of k)) none

no_group_shape : (s : Shape) (k : Kind) (n : ℕ) (meant : Target) → fits_shape s k 3 ≡ true → OfShape k s n 3 meant → IsNoMessage meant → meant ≡ target.Unknown
no_group_shape s k n (target.Message j t) fit h never = absurd never
no_group_shape s k n target.Unknown fit h never = refl
no_group_shape (shape.Map key) k n (target.Entry k2 k3) fit h never = absurd (false≢true fit)
no_group_shape (shape.Map key) k n (target.One k2 t) fit h never = absurd h
no_group_shape (shape.Map key) k n (target.Element k2) fit h never = absurd h
no_group_shape (shape.Map key) k n (target.Packed k2) fit h never = absurd h
no_group_shape (shape.Map key) k n (target.Key k2) fit h never = absurd h
no_group_shape (shape.Map key) k n (target.EntryValue k2) fit h never = absurd h
no_group_shape (shape.List p) k n (target.Element k2) fit h never = absurd (value_type k h.1 h.2)
no_group_shape (shape.List p) k n (target.Packed k2) fit h never = absurd (let two = h.3 in omega (arith, two))
no_group_shape (shape.List p) k n (target.One k2 t) fit h never = absurd h
no_group_shape (shape.List p) k n (target.Entry k2 k3) fit h never = absurd h
no_group_shape (shape.List p) k n (target.Key k2) fit h never = absurd h
no_group_shape (shape.List p) k n (target.EntryValue k2) fit h never = absurd h
no_group_shape shape.Implicit k n (target.One k2 t) fit h never = absurd (group_kind k fit h.2)
no_group_shape shape.Implicit k n (target.Element k2) fit h never = absurd h
no_group_shape shape.Implicit k n (target.Packed k2) fit h never = absurd h
no_group_shape shape.Implicit k n (target.Entry k2 k3) fit h never = absurd h
no_group_shape shape.Implicit k n (target.Key k2) fit h never = absurd h
no_group_shape shape.Implicit k n (target.EntryValue k2) fit h never = absurd h
no_group_shape shape.Explicit k n (target.One k2 t) fit h never = absurd (group_kind k fit h.2)
no_group_shape shape.Explicit k n (target.Element k2) fit h never = absurd h
no_group_shape shape.Explicit k n (target.Packed k2) fit h never = absurd h
no_group_shape shape.Explicit k n (target.Entry k2 k3) fit h never = absurd h
no_group_shape shape.Explicit k n (target.Key k2) fit h never = absurd h
no_group_shape shape.Explicit k n (target.EntryValue k2) fit h never = absurd h
no_group_shape (shape.OneofMember o) k n (target.One k2 t) fit h never = absurd (group_kind k fit h.2)
no_group_shape (shape.OneofMember o) k n (target.Element k2) fit h never = absurd h
no_group_shape (shape.OneofMember o) k n (target.Packed k2) fit h never = absurd h
no_group_shape (shape.OneofMember o) k n (target.Entry k2 k3) fit h never = absurd h
no_group_shape (shape.OneofMember o) k n (target.Key k2) fit h never = absurd h
no_group_shape (shape.OneofMember o) k n (target.EntryValue k2) fit h never = absurd h

no_group_field : (o : Option FieldView) (n : ℕ) (meant : Target) → AtField o n 3 meant → IsNoMessage meant → meant ≡ target.Unknown
no_group_field None n meant h never = h
no_group_field (Some f) n target.Unknown h never = refl
no_group_field (Some f) n (target.Message j t) h never = absurd never
no_group_field (Some f) n (target.One k2 t) h never = no_group_shape f.shape f.kind n (target.One k2 t) h.0 h.1 never
no_group_field (Some f) n (target.Element k2) h never = no_group_shape f.shape f.kind n (target.Element k2) h.0 h.1 never
no_group_field (Some f) n (target.Packed k2) h never = no_group_shape f.shape f.kind n (target.Packed k2) h.0 h.1 never
no_group_field (Some f) n (target.Entry k2 k3) h never = no_group_shape f.shape f.kind n (target.Entry k2 k3) h.0 h.1 never
no_group_field (Some f) n (target.Key k2) h never = no_group_shape f.shape f.kind n (target.Key k2) h.0 h.1 never
no_group_field (Some f) n (target.EntryValue k2) h never = no_group_shape f.shape f.kind n (target.EntryValue k2) h.0 h.1 never

pub no_message : (meant : Target) → ((j : MessageId) (s : Slot) → meant ≡ target.Message j s → ⊥) → IsNoMessage meant
no_message (target.Message j s) none = absurd (none j s refl)
no_message meant none = tt

pub unknown_group_means : (pool : Types) (now : Part) (n : ℕ) (meant : Target) → CanHold pool now → Means pool (part_context now) n 3 meant → IsNoMessage meant → Means pool (part_context now) n 3 target.Unknown
unknown_group_means pool now n meant can means never = subst (Means pool (part_context now) n 3) (is_unknown now can means) means
  where
    is_unknown : (now : Part) → CanHold pool now → Means pool (part_context now) n 3 meant → meant ≡ target.Unknown
    is_unknown (message_part t v) can means = no_group_field (field_numbered n (message_fields pool t)) n meant means never
    is_unknown (entry_part key kd x d) can means = of_entry meant means never
      where
        of_entry : (meant : Target) → Means pool (part_context (entry_part key kd x d)) n 3 meant → IsNoMessage meant → meant ≡ target.Unknown
        of_entry (target.Key k2) h never = absurd (key_type key can h.2)
        of_entry (target.EntryValue k2) h never = absurd (value_type kd h.3 h.2)
        of_entry target.Unknown h never = refl
        of_entry (target.Message j t) h never = absurd never
        of_entry (target.One k2 t) h never = absurd h
        of_entry (target.Element k2) h never = absurd h
        of_entry (target.Packed k2) h never = absurd h
        of_entry (target.Entry k2 k3) h never = absurd h
    is_unknown (group_part us) can means = means

-- A GROUP IS OPENED
pub group_opened :
    {pool : Types} {m depth levels : ℕ} {base : List Record} {p0 : Place} {parents : List Parent} {scope : Scope} {now : Part} {q u : Place} (k : ℕ) (inner : Scope) (content : List Record) → IsPool pool → CanHold pool now → Means pool (part_context now) k 3 target.Unknown
    → Reached pool m depth levels base p0 parents now scope q → 0 < scope.depth_left → HasTag q k 3 u → content ≡ [] → inner.depth_left ≡ scope.depth_left - 1 → inner.end ≡ scope.end → ((i : ℕ) → inner.counts i ≡ 0)
    → Reached pool m depth levels base p0 (record { part = now; number = k; slot = slot.Unknown k; group = true; scope = scope } ∷ parents) (group_part content) inner u
group_opened {pool} {m} {depth} {levels} {base} {p0} {parents} {scope} {now} {q} {u} k inner content ok can means s some tag nothing is_depth is_end none = record {
  open_now = in_group k unknown_group;
  inner = s.inner;
  path = s.path ++ step_into k s.records_so_far ∷ [];
  begin = u;
  earlier = [];
  records_so_far = [];
  held = inside s.held s.so_far (opened.a_group level tag (ap (in_group k) (sym (ap (λ (c : Context). (schema_of pool).group_context c k) (part_of_context now (context_of s.open_now) s.form) ∙ group_unknown pool now k means))) refl) s.form can s.deep completes refl s.counted s.ends refl (group_goes k now content, refl);
  form = refl;
  deep = (let deep = s.deep in omega (arith, deep, is_depth));
  so_far = so_far_nothing u;
  counted = counts_of_none inner.counts none;
  ends = subst (λ (z : Option ℕ). EndsAt u z) (sym is_end) (ends_along tag.tag.0 scope.end tag.tag.2 s.ends);
  bytes = s.bytes;
  worth = nothing;
}
  where
    level : scope.depth_left ≡ suc inner.depth_left
    level = omega (arith, some, is_depth)

    completes : Completes pool s.inner s.inner (record { part = now; number = k; slot = slot.Unknown k; group = true; scope = scope }) (s.earlier ++ s.records_so_far) (group_part content) []
    completes (group g) (group_part us) type form worth =
        subst (λ (z : Part). IsWorth pool s.inner z ((s.earlier ++ s.records_so_far) ++ record { number = k; payload = group g } ∷ []))
        (sym (group_put k now us ∙ ap (λ (z : List Record). put_record k (group (group_of z)) now) worth ∙ ap (λ (z : Group). put_record k (group z) now) (group_again g)))
        (unknown_worth ok s.inner now (s.earlier ++ s.records_so_far) k 3 (group g) refl can (let deep = s.deep in omega (arith, deep)) means s.worth)
    completes (varint a) (group_part us) type form worth = absurd (omega (arith, type))
    completes (fixed64 a) (group_part us) type form worth = absurd (omega (arith, type))
    completes (len a) (group_part us) type form worth = absurd (omega (arith, type))
    completes (fixed32 a) (group_part us) type form worth = absurd (omega (arith, type))
    completes pl (entry_part a b c d) type form worth = absurd form
    completes pl (message_part a b) type form worth = absurd form

-- NO LEVEL IS LEFT for a group
pub group_too_deep :
    {pool : Types} {m depth levels : ℕ} {base : List Record} {p0 : Place} {parents : List Parent} {scope : Scope} {now : Part} {q u : Place} (k : ℕ) → Reached pool m depth levels base p0 parents now scope q → HasTag q k 3 u → scope.depth_left ≡ 0
    → Bad (schema_of pool) (records (in_message m)) depth p0 (fault q.at (path_of parents ++ next_step k scope ∷ []) TooDeep)
group_too_deep {q = q} k s tag full = reported_inside k 3 (fault q.at [] TooDeep) s tag (RecordFault.group_too_deep tag full refl)
