-- A tag, the end of a group, or a length that is refused is the fault of the whole.
use Rattle.std.proofs.Common.{◌≡◌, ◌≢◌, ℕ, ◌-◌, ◌<◌, List, [], length, refl, sym, ap, ◌∙◌, subst, arith, Option, Some, None}
use Rattle.std.specs.Prelude.{Bool, true, false, ◌==◌, if◌then◌else◌}
use Rattle.std.proofs.lemmas.Bool.{false≢true}
use Rattle.std.proofs.lemmas.List.{append-nil}
use Rattle.pb_wire.specs.Record.{Record}
use Rattle.pb_wire.specs.declared.fault.PathStep.{PathStep}
use Rattle.pb_wire.specs.declared.fault.Cause.{Cause}
use Rattle.pb_wire.specs.Fault.{Fault, fault, inside as in_record, Place, Reads, HasTag, TagFault, LengthFault}
use Rattle.pb_wire.specs.Schema.{Reading, unread, text, packed, same_level, message as message_reading, Open, records, in_group, context_of, open_group}
use Rattle.pb_wire.specs.Grammar.{Bad, RecordFault, Begins, IsAllowed}
use Rattle.pb_wire.proofs.Places.{none_before, fewer}
use Rattle.pb_wire.proofs.Tokens.{ends_some}
use Rattle.pb_schema.specs.declared.types.Kind.{Kind}
use Rattle.pb_schema.specs.declared.types.Kind.TheVariants as kind
use Rattle.pb_schema.specs.declared.types.Shape.{Shape}
use Rattle.pb_schema.specs.declared.types.Shape.TheVariants as shape
use Rattle.pb_schema.specs.Types.{FieldView, Types, message_fields, field_numbered}
use Rattle.pb_schema.specs.Kinds.{message_of_kind}
use Rattle.pb_schema.specs.Fits.{fits_shape}
use Rattle.pb_schema.specs.Context.{Context, a_message as in_message, an_entry, key_field, value_field, read_singular, read_shaped, read_field, schema_of}
use Rattle.pb_decode_parts.specs.declared.open.part.Slot.TheVariants as slot
use Rattle.pb_decode_parts.specs.declared.open.target.Target.{Target}
use Rattle.pb_decode_parts.specs.declared.open.target.Target.TheVariants as target
use Rattle.pb_decode_parts.specs.declared.tokens.step.Step.{Step}
use Rattle.pb_decode_parts.specs.Open.Opened.{Begun, below}
use Rattle.pb_decode_parts.specs.Open.Opened as opened
use Rattle.pb_decode_parts.specs.Open.Targets.{OfShape, AtField, Means, part_context}
use Rattle.pb_decode_parts.specs.Open.Parents.{Part, message_part, entry_part, group_part, opening_type, open_type, Scope, Parent, next_step, path_of, Held, at_top, inside, Reached}
use Rattle.pb_decode_parts.specs.Tokens.After.{tag, awaited, HasLevelFor, After}
use Rattle.pb_decode_parts.specs.Open.Openings.{innermost_group}
use Rattle.pb_decode_parts.proofs.ParentLemmas.{part_of_context}
use Rattle.pb_decode_parts.proofs.AfterLemmas.{at_tag, reported_here, reported_inside}

-- TAGS

-- where there is a whole number a record begins
begins_at_number : {C : Type 0} (o : Open C) {q u : Place} {n : ℕ} → Reads q n u → Begins o q
begins_at_number {C} o {q} {u} {n} h = by_open o
  where
    not_at_end : q.known ≡ Some 0 → ⊥
    not_at_end e = let none = none_before h.0 h.2 e in let some = ends_some h.0 h.1.ends in omega (arith, none, some)

    not_in_nothing : q.rest ≡ [] → ⊥
    not_in_nothing e = let all = fewer h.0 h.2 in let some = ends_some h.0 h.1.ends in let nothing : length q.rest ≡ 0 = ap length e in omega (arith, all, some, nothing)

    by_open : (o : Open C) → Begins o q
    by_open (records c) = (not_at_end, λ known e. not_in_nothing e)
    by_open (in_group k c) = not_at_end

-- a tag that is refused, with no step of its own
tag_refused :
    {pool : Types} {m depth levels : ℕ} {base : List Record} {p0 : Place} {parents : List Parent} {scope : Scope} {now : Part} {q u : Place} {n : ℕ} (c : Cause)
    → (s : Reached pool m depth levels base p0 parents now scope q) → Reads q n u → TagFault (open_group s.open_now) q (fault q.at [] c) → Bad (schema_of pool) (records (in_message m)) depth p0 (fault q.at (path_of parents) c)
tag_refused {pool} {m} {depth} {p0 = p0} {parents} {q = q} c s h bad =
    subst (λ (z : List PathStep). Bad (schema_of pool) (records (in_message m)) depth p0 (fault q.at z c)) (append-nil (path_of parents))
    (reported_here (fault q.at [] c) s (begins_at_number s.open_now h) (RecordFault.tag bad))

-- whatever group is open
pub tag_reported :
    {pool : Types} {m depth levels : ℕ} {base : List Record} {p0 : Place} {parents : List Parent} {scope : Scope} {now : Part} {q : Place} (c : Cause)
    → Reached pool m depth levels base p0 parents now scope q → q.known ≢ Some 0 → q.rest ≢ [] → ((innermost : Option ℕ) → TagFault innermost q (fault q.at [] c)) → Bad (schema_of pool) (records (in_message m)) depth p0 (fault q.at (path_of parents) c)
tag_reported {pool} {m} {depth} {p0 = p0} {parents} {q = q} c s open_here some bad =
    subst (λ (z : List PathStep). Bad (schema_of pool) (records (in_message m)) depth p0 (fault q.at z c)) (append-nil (path_of parents))
    (reported_here (fault q.at [] c) s (goes s.open_now) (RecordFault.tag (bad (open_group s.open_now))))
  where
    goes : (o : Open Context) → Begins o q
    goes (records d) = (open_here, λ known. some)
    goes (in_group k d) = open_here

-- THE ENDS OF GROUPS

-- the group that is open innermost is that of the innermost parent
begun_open : (pool : Types) {a o : Open Context} {depth_left below n : ℕ} {q u : Place} (group : Bool) → Begun (schema_of pool) a depth_left n q o below u → opening_type group ≡ open_type o → open_group o ≡ (if group then Some n else None)
begun_open pool true (opened.a_message levels has re l is_open is_place) type = absurd (let two : 3 ≡ 2 = type ∙ ap open_type is_open in omega (arith, two))
begun_open pool false (opened.a_message levels has re l is_open is_place) type = ap open_group is_open
begun_open pool true (opened.a_value levels has re l is_open is_place) type = absurd (let two : 3 ≡ 2 = type ∙ ap open_type is_open in omega (arith, two))
begun_open pool false (opened.a_value levels has re l is_open is_place) type = ap open_group is_open
begun_open pool true (opened.a_group levels has is_open is_place) type = ap open_group is_open
begun_open pool false (opened.a_group levels has is_open is_place) type = absurd (let three : 2 ≡ 3 = type ∙ ap open_type is_open in omega (arith, three))

held_open :
    {pool : Types} {m depth levels : ℕ} {base : List Record} {p0 : Place} {parents : List Parent} {now : Part} {o : Open Context} {depth_left inner : ℕ} {path : List PathStep} {p : Place} {earlier : List Record}
    → Held pool m depth levels base p0 parents now o depth_left inner path p earlier → open_group o ≡ innermost_group parents
held_open (at_top v form is_open is_depth is_inner is_path is_place is_base goes_on) = ap open_group is_open
held_open {pool} (inside {parent = parent} up h begun form can deep completes is_path counts ends goes_on takes) = begun_open pool parent.group begun takes.1

-- the last tag of a group that is refused
pub end_reported :
    {pool : Types} {m depth levels : ℕ} {base : List Record} {p0 : Place} {parents : List Parent} {scope : Scope} {now : Part} {q u : Place} (c : Cause) (k : ℕ) (innermost : Option ℕ) → Reached pool m depth levels base p0 parents now scope q → HasTag q k 4 u
    → innermost ≡ innermost_group parents → TagFault innermost q (fault q.at [] c) → Bad (schema_of pool) (records (in_message m)) depth p0 (fault q.at (path_of parents) c)
end_reported {q = q} c k innermost s has is bad = tag_refused c s has.tag (subst (λ (z : Option ℕ). TagFault z q (fault q.at [] c)) (is ∙ sym (held_open s.held)) bad)

-- LENGTHS

allowed_below : (depth_left : ℕ) (r : Reading Context) → 0 < depth_left → IsAllowed depth_left r
allowed_below depth_left unread some = tt
allowed_below depth_left text some = tt
allowed_below depth_left (message_reading c) some = some
allowed_below depth_left (same_level c) some = tt
allowed_below depth_left (packed e) some = tt

-- what is no message may have any length
allowed_scalar : (depth_left t : ℕ) (s : Shape) (k : Kind) → message_of_kind k ≡ None → ((key : Kind) → s ≡ shape.Map key → ⊥) → IsAllowed depth_left (read_shaped (in_message t) s k)
allowed_scalar depth_left t (shape.Map key) k none never = absurd (never key refl)
allowed_scalar depth_left t s (kind.Message j) none never = absurd (cc)
allowed_scalar depth_left t (shape.List p) k none never = tt
allowed_scalar depth_left t shape.Implicit k none never = tt
allowed_scalar depth_left t shape.Explicit k none never = tt
allowed_scalar depth_left t (shape.OneofMember o) k none never = tt

allowed_unfit : (depth_left t : ℕ) (s : Shape) (k : Kind) → fits_shape s k 2 ≡ false → IsAllowed depth_left (read_shaped (in_message t) s k)
allowed_unfit depth_left t (shape.Map key) k e = absurd (false≢true (sym e))
allowed_unfit depth_left t (shape.List p) (kind.Message j) e = absurd (false≢true (sym e))
allowed_unfit depth_left t shape.Implicit (kind.Message j) e = absurd (false≢true (sym e))
allowed_unfit depth_left t shape.Explicit (kind.Message j) e = absurd (false≢true (sym e))
allowed_unfit depth_left t (shape.OneofMember o) (kind.Message j) e = absurd (false≢true (sym e))
allowed_unfit depth_left t (shape.List p) k e = tt
allowed_unfit depth_left t shape.Implicit k e = tt
allowed_unfit depth_left t shape.Explicit k e = tt
allowed_unfit depth_left t (shape.OneofMember o) k e = tt

allowed_shape : (depth_left t k : ℕ) (kd : Kind) (s : Shape) (meant : Target) → OfShape kd s k 2 meant → HasLevelFor depth_left meant → IsAllowed depth_left (read_shaped (in_message t) s kd)
allowed_shape depth_left t k kd s (target.Entry key k2) h some = allowed_below depth_left (read_shaped (in_message t) s kd) (some refl)
allowed_shape depth_left t k kd s (target.Message j (slot.One s2 n2)) h some = allowed_below depth_left (read_shaped (in_message t) s kd) (some refl)
allowed_shape depth_left t k kd s (target.Message j (slot.List n2)) h some = allowed_below depth_left (read_shaped (in_message t) s kd) (some refl)
allowed_shape depth_left t k kd s (target.Message j (slot.Map n2)) h some = allowed_below depth_left (read_shaped (in_message t) s kd) (some refl)
allowed_shape depth_left t k kd s (target.Message j (slot.Unknown n2)) h some = allowed_below depth_left (read_shaped (in_message t) s kd) (some refl)
allowed_shape depth_left t k kd (shape.Map key) (target.One k2 s2) h some = absurd h
allowed_shape depth_left t k kd (shape.Map key) (target.Element k2) h some = absurd h
allowed_shape depth_left t k kd (shape.Map key) (target.Packed k2) h some = absurd h
allowed_shape depth_left t k kd (shape.Map key) (target.Message j slot.Entry) h some = absurd h
allowed_shape depth_left t k kd (shape.Map key) (target.Key k2) h some = absurd h
allowed_shape depth_left t k kd (shape.Map key) (target.EntryValue k2) h some = absurd h
allowed_shape depth_left t k kd (shape.Map key) target.Unknown h some = absurd h
allowed_shape depth_left t k kd (shape.List p) (target.One k2 s2) h some = absurd h
allowed_shape depth_left t k kd (shape.List p) (target.Element k2) h some = allowed_scalar depth_left t (shape.List p) kd h.1 (λ key e. cc)
allowed_shape depth_left t k kd (shape.List p) (target.Packed k2) h some = allowed_scalar depth_left t (shape.List p) kd h.1 (λ key e. cc)
allowed_shape depth_left t k kd (shape.List p) (target.Message j slot.Entry) h some = absurd h
allowed_shape depth_left t k kd (shape.List p) (target.Key k2) h some = absurd h
allowed_shape depth_left t k kd (shape.List p) (target.EntryValue k2) h some = absurd h
allowed_shape depth_left t k kd (shape.List p) target.Unknown h some = absurd h
allowed_shape depth_left t k kd shape.Implicit (target.One k2 s2) h some = allowed_scalar depth_left t shape.Implicit kd h.2 (λ key e. cc)
allowed_shape depth_left t k kd shape.Implicit (target.Element k2) h some = absurd h
allowed_shape depth_left t k kd shape.Implicit (target.Packed k2) h some = absurd h
allowed_shape depth_left t k kd shape.Implicit (target.Message j slot.Entry) h some = absurd h
allowed_shape depth_left t k kd shape.Implicit (target.Key k2) h some = absurd h
allowed_shape depth_left t k kd shape.Implicit (target.EntryValue k2) h some = absurd h
allowed_shape depth_left t k kd shape.Implicit target.Unknown h some = absurd h
allowed_shape depth_left t k kd shape.Explicit (target.One k2 s2) h some = allowed_scalar depth_left t shape.Explicit kd h.2 (λ key e. cc)
allowed_shape depth_left t k kd shape.Explicit (target.Element k2) h some = absurd h
allowed_shape depth_left t k kd shape.Explicit (target.Packed k2) h some = absurd h
allowed_shape depth_left t k kd shape.Explicit (target.Message j slot.Entry) h some = absurd h
allowed_shape depth_left t k kd shape.Explicit (target.Key k2) h some = absurd h
allowed_shape depth_left t k kd shape.Explicit (target.EntryValue k2) h some = absurd h
allowed_shape depth_left t k kd shape.Explicit target.Unknown h some = absurd h
allowed_shape depth_left t k kd (shape.OneofMember o) (target.One k2 s2) h some = allowed_scalar depth_left t (shape.OneofMember o) kd h.2 (λ key e. cc)
allowed_shape depth_left t k kd (shape.OneofMember o) (target.Element k2) h some = absurd h
allowed_shape depth_left t k kd (shape.OneofMember o) (target.Packed k2) h some = absurd h
allowed_shape depth_left t k kd (shape.OneofMember o) (target.Message j slot.Entry) h some = absurd h
allowed_shape depth_left t k kd (shape.OneofMember o) (target.Key k2) h some = absurd h
allowed_shape depth_left t k kd (shape.OneofMember o) (target.EntryValue k2) h some = absurd h
allowed_shape depth_left t k kd (shape.OneofMember o) target.Unknown h some = absurd h

allowed_field : (depth_left t k : ℕ) (o : Option FieldView) (meant : Target) → AtField o k 2 meant → HasLevelFor depth_left meant → IsAllowed depth_left (read_field (in_message t) o)
allowed_field depth_left t k None meant h some = tt
allowed_field depth_left t k (Some f) target.Unknown h some = allowed_unfit depth_left t f.shape f.kind h
allowed_field depth_left t k (Some f) (target.One k2 s2) h some = allowed_shape depth_left t k f.kind f.shape (target.One k2 s2) h.1 some
allowed_field depth_left t k (Some f) (target.Element k2) h some = allowed_shape depth_left t k f.kind f.shape (target.Element k2) h.1 some
allowed_field depth_left t k (Some f) (target.Packed k2) h some = allowed_shape depth_left t k f.kind f.shape (target.Packed k2) h.1 some
allowed_field depth_left t k (Some f) (target.Message j s) h some = allowed_shape depth_left t k f.kind f.shape (target.Message j s) h.1 some
allowed_field depth_left t k (Some f) (target.Entry key k2) h some = allowed_shape depth_left t k f.kind f.shape (target.Entry key k2) h.1 some
allowed_field depth_left t k (Some f) (target.Key k2) h some = allowed_shape depth_left t k f.kind f.shape (target.Key k2) h.1 some
allowed_field depth_left t k (Some f) (target.EntryValue k2) h some = allowed_shape depth_left t k f.kind f.shape (target.EntryValue k2) h.1 some

-- in an entry nothing is a level below
allowed_explicit : (depth_left : ℕ) (key kd k : Kind) → IsAllowed depth_left (read_singular (an_entry key kd) k)
allowed_explicit depth_left key kd (kind.Message j) = tt
allowed_explicit depth_left key kd kind.Text = tt
allowed_explicit depth_left key kd k = tt

allowed_entry : (depth_left : ℕ) (key kd : Kind) (a b : Bool) → IsAllowed depth_left (read_field (an_entry key kd) (if a then Some (key_field key) else (if b then Some (value_field kd) else None)))
allowed_entry depth_left key kd true b = allowed_explicit depth_left key kd key
allowed_entry depth_left key kd false true = allowed_explicit depth_left key kd kd
allowed_entry depth_left key kd false false = tt

pub reads_allowed : (pool : Types) (now : Part) (k depth_left : ℕ) (meant : Target) → Means pool (part_context now) k 2 meant → HasLevelFor depth_left meant → IsAllowed depth_left ((schema_of pool).reading (part_context now) k)
reads_allowed pool (message_part t v) k depth_left meant h some = allowed_field depth_left t k (field_numbered k (message_fields pool t)) meant h some
reads_allowed pool (entry_part key kd x d) k depth_left meant h some = allowed_entry depth_left key kd (1 == k) (2 == k)
reads_allowed pool (group_part us) k depth_left meant h some = tt

-- a length that is refused, below the step of its record
pub length_refused :
    {pool : Types} {m depth levels : ℕ} {base : List Record} {p0 : Place} {parents : List Parent} {scope : Scope} {next : Step} {now : Part} {u : Place} (k : ℕ) (meant : Target) (g : Fault)
    → After pool m depth levels base p0 parents next now scope u → awaited next ≡ Some (tag k 2 meant) → LengthFault u g → Bad (schema_of pool) (records (in_message m)) depth p0 (below (path_of parents) (in_record (next_step k scope) g))
length_refused {pool} {scope = scope} {now = now} k meant g a is bad =
    let after = at_tag (tag k 2 meant) a is in
    reported_inside k 2 g after.reached after.has
    (RecordFault.length_of after.has
    (subst (λ (c : Context). IsAllowed scope.depth_left ((schema_of pool).reading c k)) (sym (part_of_context now (context_of after.reached.open_now) after.reached.form)) (reads_allowed pool now k scope.depth_left meant after.means after.has_level)) bad refl)
