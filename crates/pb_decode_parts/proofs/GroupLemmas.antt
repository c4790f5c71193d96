-- A group that is open: it ends at its end tag alone, and no known end may come before that.
use Rattle.std.proofs.Common.{◌≡◌, ℕ, List, [], ◌∷◌, refl, sym, ap, ◌∙◌, subst, arith, Option, Some, None}
use Rattle.std.specs.Prelude.{Bool, true, false}
use Rattle.pb_wire.specs.Record.{Record}
use Rattle.pb_wire.specs.declared.fault.PathStep.{PathStep}
use Rattle.pb_wire.specs.declared.fault.Cause.TheVariants.{PastEnd}
use Rattle.pb_wire.specs.Fault.{fault, Place}
use Rattle.pb_wire.specs.Schema.{Reading, message as message_reading, same_level, Open, records, in_group, context_of}
use Rattle.pb_wire.specs.Grammar.{Bad}
use Rattle.std.proofs.lemmas.List.{append-nil}
use Rattle.pb_schema.specs.declared.types.Kind.{Kind}
use Rattle.pb_schema.specs.declared.types.Kind.TheVariants as kind
use Rattle.pb_schema.specs.declared.types.Shape.{Shape}
use Rattle.pb_schema.specs.declared.types.Shape.TheVariants as shape
use Rattle.pb_schema.specs.Types.{FieldView, Types, field_numbered}
use Rattle.pb_schema.specs.Context.{Context, a_message as in_message, an_entry, unknown_group, message_in, read_singular, read_listed, read_shaped, read_field, fields_in, schema_of}
use Rattle.pb_decode_parts.specs.Open.Opened.{Begun}
use Rattle.pb_decode_parts.specs.Open.Opened as opened
use Rattle.pb_decode_parts.specs.Open.Parents.{Part, group_part, put_child, open_type, one_more_in, Scope, Parent, path_of, Held, inside, Reached}
use Rattle.pb_decode_parts.specs.Close.Closes.{ClosesAt}
use Rattle.pb_decode_parts.proofs.OpenedLemmas.{lift}
use Rattle.pb_decode_parts.proofs.ParentLemmas.{held_opened, is_payload, is_group, ends_at_known_end}
use Rattle.pb_decode_parts.proofs.StepsOfParts.{ends_at_tag}
use Rattle.pb_decode_parts.proofs.AfterLemmas.{path_held}

-- a payload is never read as what a group holds
abbrev IsNoGroup : Reading Context → Type 0
IsNoGroup (message_reading unknown_group) = ⊥
IsNoGroup (same_level unknown_group) = ⊥
IsNoGroup r = Unit {0}

message_no_group : (c : Context) (m : ℕ) → IsNoGroup (message_in c m)
message_no_group (in_message t) m = tt
message_no_group (an_entry key k) m = tt
message_no_group unknown_group m = tt

singular_no_group : (c : Context) (k : Kind) → IsNoGroup (read_singular c k)
singular_no_group c (kind.Message m) = message_no_group c m.0
singular_no_group c k = tt

listed_no_group : (c : Context) (k : Kind) → IsNoGroup (read_listed c k)
listed_no_group c (kind.Message m) = message_no_group c m.0
listed_no_group c k = tt

shaped_no_group : (c : Context) (s : Shape) (k : Kind) → IsNoGroup (read_shaped c s k)
shaped_no_group c (shape.Map key) k = tt
shaped_no_group c (shape.List p) k = listed_no_group c k
shaped_no_group c shape.Implicit k = singular_no_group c k
shaped_no_group c shape.Explicit k = singular_no_group c k
shaped_no_group c (shape.OneofMember o) k = singular_no_group c k

field_no_group : (c : Context) (o : Option FieldView) → IsNoGroup (read_field c o)
field_no_group c None = tt
field_no_group c (Some f) = shaped_no_group c f.shape f.kind

-- what a group's records are in is the group that was begun
pub group_is_open :
    {pool : Types} {m depth levels : ℕ} {base : List Record} {p0 : Place} {parent : Parent} {parents : List Parent} {scope : Scope} {us : List Record} {q : Place}
    (s : Reached pool m depth levels base p0 (parent ∷ parents) (group_part us) scope q) → s.open_now ≡ in_group parent.number unknown_group
group_is_open {pool} {m} {depth} {levels} {base} {p0} {parent} {parents} {us = us} s = from_held s.held s.form
  where
    from_begun : {a o : Open Context} {depth_left below : ℕ} {q u : Place} → Begun (schema_of pool) a depth_left parent.number q o below u → context_of o ≡ unknown_group → o ≡ in_group parent.number unknown_group
    from_begun {a = a} (opened.a_message {d = d} levels tag re l is_open is_place) f =
        absurd (subst IsNoGroup (re ∙ ap message_reading (ap context_of (sym is_open) ∙ f)) (field_no_group (context_of a) (field_numbered parent.number (fields_in pool (context_of a)))))
    from_begun {a = a} (opened.a_value {d = d} levels tag re l is_open is_place) f =
        absurd (subst IsNoGroup (re ∙ ap same_level (ap context_of (sym is_open) ∙ f)) (field_no_group (context_of a) (field_numbered parent.number (fields_in pool (context_of a)))))
    from_begun (opened.a_group levels tag is_open is_place) f = is_open ∙ ap (in_group parent.number) (sym (ap context_of is_open) ∙ f)

    from_held : {o : Open Context} {depth_left inner : ℕ} {path : List PathStep} {p : Place} {earlier : List Record} → Held pool m depth levels base p0 (parent ∷ parents) (group_part us) o depth_left inner path p earlier
        → context_of o ≡ unknown_group → o ≡ in_group parent.number unknown_group
    from_held (inside up h begun form can deep completes is_path counts ends goes_on takes) f = from_begun begun f

-- an end tag ends a group's records
pub records_in_group :
    {pool : Types} {m depth levels : ℕ} {base : List Record} {p0 : Place} {parent : Parent} {parents : List Parent} {scope : Scope} {us : List Record} {q : Place}
    (s : Reached pool m depth levels base p0 (parent ∷ parents) (group_part us) scope q) → parent.group ≡ false → ⊥
records_in_group {parent = parent} s none =
    let typed : open_type s.open_now ≡ 2 = ap open_type (is_payload s none) in
    let flag : open_type s.open_now ≡ 3 = ap open_type (group_is_open s) in
    omega (arith, typed, flag)

-- THE KNOWN END of what holds the group comes before its end tag
pub past_end_reported :
    {pool : Types} {m depth levels : ℕ} {base : List Record} {p0 : Place} {parent : Parent} {parents : List Parent} {scope : Scope} {now : Part} {q : Place}
    → Reached pool m depth levels base p0 (parent ∷ parents) now scope q → parent.group ≡ true → q.known ≡ Some 0 → Bad (schema_of pool) (records (in_message m)) depth p0 (fault q.at (path_of (parent ∷ parents)) PastEnd)
past_end_reported {pool} {m} {depth} {p0 = p0} {parent} {parents} {scope} {q = q} s some end =
    subst (λ (z : List PathStep). Bad (schema_of pool) (records (in_message m)) depth p0 (fault q.at z PastEnd)) (append-nil s.path ∙ path_held s.held)
    (lift (fault q.at [] PastEnd) (held_opened s.held)
    (Bad.at_end (is_group s some) (s.records_so_far, s.so_far.spelled, s.so_far.sound) s.so_far.moves end refl))

-- A PART THAT CLOSES goes into its slot
pub part_closes :
    {pool : Types} {m depth levels : ℕ} {base : List Record} {p0 : Place} {parent : Parent} {parents : List Parent} {scope : Scope} {now : Part} {q w : Place} (next : Part)
    → Reached pool m depth levels base p0 (parent ∷ parents) now scope q → ClosesAt parent.group parent.number parent.scope.end q w → next ≡ put_child pool parent.slot parent.part now
    → Reached pool m depth levels base p0 parents next (one_more_in parent.number parent.scope) w
part_closes {pool} {m} {depth} {levels} {base} {p0} {parent} {parents} {scope} {now} {q} {w} next s closes is =
    subst (λ (z : Part). Reached pool m depth levels base p0 parents z (one_more_in parent.number parent.scope) w) (sym is) (by_group parent.group refl closes)
  where
    by_group : (g : Bool) → parent.group ≡ g → ClosesAt g parent.number parent.scope.end q w
        → Reached pool m depth levels base p0 parents (put_child pool parent.slot parent.part now) (one_more_in parent.number parent.scope) w
    by_group false none at = subst (Reached pool m depth levels base p0 parents (put_child pool parent.slot parent.part now) (one_more_in parent.number parent.scope)) (sym at.1) (ends_at_known_end s none at.0)
    by_group true some at = ends_at_tag s (is_group s some) some at
