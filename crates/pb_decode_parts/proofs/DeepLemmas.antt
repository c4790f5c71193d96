-- Records that open a level below: how they are read, and that they are too deep where no level is left.
use Rattle.std.proofs.Common.{◌≡◌, ℕ, List, [], ◌∷◌, ◌++◌, refl, sym, ap, ◌∙◌, subst, Option, Some, None}
use Rattle.std.specs.Prelude.{Bool, true, ◌==◌}
use Rattle.std.proofs.lemmas.Bool.{false≢true}
use Rattle.pb_wire.specs.Record.{Record}
use Rattle.pb_wire.specs.declared.fault.Cause.TheVariants.{TooDeep}
use Rattle.pb_wire.specs.Fault.{fault, Place, HasTag}
use Rattle.pb_wire.specs.Schema.{message as message_reading, records, context_of}
use Rattle.pb_wire.specs.Grammar.{Bad, RecordFault}
use Rattle.pb_schema.specs.declared.types.Kind.{Kind}
use Rattle.pb_schema.specs.declared.types.Kind.TheVariants as kind
use Rattle.pb_schema.specs.declared.types.Shape.{Shape}
use Rattle.pb_schema.specs.declared.types.Shape.TheVariants as shape
use Rattle.pb_schema.specs.Types.{FieldView, Types, message_fields, field_numbered}
use Rattle.pb_schema.specs.Kinds.{wire_type_of, message_of_kind}
use Rattle.pb_schema.specs.Fits.{fits_shape}
use Rattle.pb_schema.specs.Context.{Context, a_message as in_message, read_singular, read_listed, read_field, read_shaped, schema_of}
use Rattle.pb_decode_parts.specs.declared.open.part.Slot.TheVariants as slot
use Rattle.pb_decode_parts.specs.declared.open.target.Target.{Target}
use Rattle.pb_decode_parts.specs.declared.open.target.Target.TheVariants as target
use Rattle.pb_decode_parts.specs.Open.Targets.{OfShape, AtField, Means, part_context}
use Rattle.pb_decode_parts.specs.Open.Parents.{Part, message_part, entry_part, group_part, Scope, Parent, path_of, next_step, Reached}
use Rattle.pb_decode_parts.specs.Tokens.After.{goes_down}
use Rattle.pb_decode_parts.proofs.NumberSteps.{number_is}
use Rattle.pb_decode_parts.proofs.KindLemmas.{never_packed}
use Rattle.pb_decode_parts.proofs.AfterLemmas.{reported_inside}
use Rattle.pb_decode_parts.proofs.ParentLemmas.{part_of_context}

-- the record has a payload, which is read as a message
abbrev pub ReadsBelow : Types → Context → ℕ → ℕ → Type 0
ReadsBelow pool c k w = (w ≡ 2) × ((d : Context) × ((schema_of pool).reading c k ≡ message_reading d))

of_group : (w : ℕ) → (w == 3) ≡ true → (w ≡ 3 → ⊥) → ⊥
of_group w e start = start (number_is w 3 e)

below_single : (t j : ℕ) (k : Kind) (w : ℕ) → message_of_kind k ≡ Some j → (w == wire_type_of k) ≡ true → (w ≡ 3 → ⊥) → (w ≡ 2) × ((d : Context) × (read_singular (in_message t) k ≡ message_reading d))
below_single t j (kind.Message m) w is e start = (number_is w 2 e, (in_message m.0, refl))
below_single t j (kind.Group m) w is e start = absurd (of_group w e start)
below_single t j k w is e start = absurd (cc)

below_list : (t j : ℕ) (p : Bool) (k : Kind) (w : ℕ) → message_of_kind k ≡ Some j → fits_shape (shape.List p) k w ≡ true → (w ≡ 3 → ⊥) → (w ≡ 2) × ((d : Context) × (read_listed (in_message t) k ≡ message_reading d))
below_list t j p (kind.Message m) w is e start = (number_is w 2 (never_packed (w == 2) (w == 2) e), (in_message m.0, refl))
below_list t j p (kind.Group m) w is e start = absurd (of_group w (never_packed (w == 3) (w == 2) e) start)
below_list t j p k w is e start = absurd (cc)

below_shape : (t : ℕ) (k : Kind) (s : Shape) (n w : ℕ) (meant : Target) → fits_shape s k w ≡ true → OfShape k s n w meant → goes_down meant ≡ true → (w ≡ 3 → ⊥)
    → (w ≡ 2) × ((d : Context) × (read_shaped (in_message t) s k ≡ message_reading d))
below_shape t k (shape.Map key) n w (target.Entry key2 k2) e h deep start = (number_is w 2 e, (_, refl))
below_shape t k (shape.Map key) n w (target.One k2 s2) e h deep start = absurd h
below_shape t k (shape.Map key) n w (target.Element k2) e h deep start = absurd h
below_shape t k (shape.Map key) n w (target.Packed k2) e h deep start = absurd h
below_shape t k (shape.Map key) n w (target.Message j s2) e h deep start = absurd h
below_shape t k (shape.Map key) n w (target.Key k2) e h deep start = absurd h
below_shape t k (shape.Map key) n w (target.EntryValue k2) e h deep start = absurd h
below_shape t k (shape.Map key) n w target.Unknown e h deep start = absurd h
below_shape t k (shape.List p) n w (target.Message j (slot.List n2)) e h deep start =
    below_list t j.0 p k w h.0 e start
below_shape t k (shape.List p) n w (target.Message j (slot.One s2 n2)) e h deep start = absurd h
below_shape t k (shape.List p) n w (target.Message j (slot.Map n2)) e h deep start = absurd h
below_shape t k (shape.List p) n w (target.Message j slot.Entry) e h deep start = absurd h
below_shape t k (shape.List p) n w (target.Message j (slot.Unknown n2)) e h deep start = absurd h
below_shape t k (shape.List p) n w (target.Entry key2 k2) e h deep start = absurd h
below_shape t k shape.Implicit n w (target.Message j (slot.One s2 n2)) e h deep start =
    below_single t j.0 k w h.0 e start
below_shape t k shape.Implicit n w (target.Message j (slot.List n2)) e h deep start = absurd h
below_shape t k shape.Implicit n w (target.Message j (slot.Map n2)) e h deep start = absurd h
below_shape t k shape.Implicit n w (target.Message j slot.Entry) e h deep start = absurd h
below_shape t k shape.Implicit n w (target.Message j (slot.Unknown n2)) e h deep start = absurd h
below_shape t k shape.Implicit n w (target.Entry key2 k2) e h deep start = absurd h
below_shape t k shape.Explicit n w (target.Message j (slot.One s2 n2)) e h deep start =
    below_single t j.0 k w h.0 e start
below_shape t k shape.Explicit n w (target.Message j (slot.List n2)) e h deep start = absurd h
below_shape t k shape.Explicit n w (target.Message j (slot.Map n2)) e h deep start = absurd h
below_shape t k shape.Explicit n w (target.Message j slot.Entry) e h deep start = absurd h
below_shape t k shape.Explicit n w (target.Message j (slot.Unknown n2)) e h deep start = absurd h
below_shape t k shape.Explicit n w (target.Entry key2 k2) e h deep start = absurd h
below_shape t k (shape.OneofMember o) n w (target.Message j (slot.One s2 n2)) e h deep start =
    below_single t j.0 k w h.0 e start
below_shape t k (shape.OneofMember o) n w (target.Message j (slot.List n2)) e h deep start = absurd h
below_shape t k (shape.OneofMember o) n w (target.Message j (slot.Map n2)) e h deep start = absurd h
below_shape t k (shape.OneofMember o) n w (target.Message j slot.Entry) e h deep start = absurd h
below_shape t k (shape.OneofMember o) n w (target.Message j (slot.Unknown n2)) e h deep start = absurd h
below_shape t k (shape.OneofMember o) n w (target.Entry key2 k2) e h deep start = absurd h
below_shape t k s n w meant e h deep start = absurd (false≢true deep)

below_field : (t : ℕ) (o : Option FieldView) (n w : ℕ) (meant : Target) → AtField o n w meant → goes_down meant ≡ true → (w ≡ 3 → ⊥) → (w ≡ 2) × ((d : Context) × (read_field (in_message t) o ≡ message_reading d))
below_field t None n w meant h deep start = absurd (let no : goes_down target.Unknown ≡ true = ap goes_down (sym h) ∙ deep in false≢true no)
below_field t (Some f) n w (target.Message j s) h deep start = below_shape t f.kind f.shape n w (target.Message j s) h.0 h.1 deep start
below_field t (Some f) n w (target.Entry key k) h deep start = below_shape t f.kind f.shape n w (target.Entry key k) h.0 h.1 deep start
below_field t (Some f) n w meant h deep start = absurd (false≢true deep)

pub reads_below : (pool : Types) (now : Part) (k w : ℕ) (meant : Target) → Means pool (part_context now) k w meant → goes_down meant ≡ true → (w ≡ 3 → ⊥) → ReadsBelow pool (part_context now) k w
reads_below pool (message_part t v) k w meant h deep start = below_field t (field_numbered k (message_fields pool t)) k w meant h deep start
reads_below pool (entry_part key k2 x d) k w (target.Message j (slot.One s2 n2)) h deep start = absurd h
reads_below pool (entry_part key k2 x d) k w (target.Message j (slot.List n2)) h deep start = absurd h
reads_below pool (entry_part key k2 x d) k w (target.Message j (slot.Map n2)) h deep start = absurd h
reads_below pool (entry_part key k2 x d) k w (target.Message j (slot.Unknown n2)) h deep start = absurd h
reads_below pool (entry_part key k2 x d) k w (target.Entry key2 k3) h deep start = absurd h
reads_below pool (entry_part key k2 x d) k w meant h deep start = absurd (false≢true deep)
reads_below pool (group_part us) k w meant h deep start = absurd (let no : goes_down target.Unknown ≡ true = ap goes_down (sym h) ∙ deep in false≢true no)

-- NO LEVEL IS LEFT
pub too_deep_reported :
    {pool : Types} {m depth levels : ℕ} {base : List Record} {p0 : Place} {parents : List Parent} {scope : Scope} {now : Part} {q u : Place} (k w : ℕ) (meant : Target)
    → Reached pool m depth levels base p0 parents now scope q → HasTag q k w u → Means pool (part_context now) k w meant → goes_down meant ≡ true → (w ≡ 3 → ⊥) → scope.depth_left ≡ 0
    → Bad (schema_of pool) (records (in_message m)) depth p0 (fault q.at (path_of parents ++ next_step k scope ∷ []) TooDeep)
too_deep_reported {pool} {scope = scope} {now = now} {q = q} {u = u} k w meant s has means deep start none =
    let (two, (d, reads)) = reads_below pool now k w meant means deep start in
    reported_inside k w (fault q.at [] TooDeep) s has
    (RecordFault.message_too_deep (subst (λ (z : ℕ). HasTag q k z u) two has) (ap (λ (c : Context). (schema_of pool).reading c k) (part_of_context now (context_of s.open_now) s.form) ∙ reads) none refl)
