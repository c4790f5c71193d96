-- A whole record, by what it is for: a scalar, an element of a list, an unknown record; and the end of a group.
use Rattle.std.proofs.Common.{◌≡◌, ℕ, zero, suc, ◌<◌, List, [], ◌∷◌, ◌++◌, map, refl, sym, ap, ◌∙◌, subst, arith, Some, None}
use Rattle.std.specs.Prelude.{Bool, true, false}
use Rattle.pb_wire.specs.Record.{group, Record, group_of, records_in}
use Rattle.pb_wire.specs.Inside.{records_inside}
use Rattle.pb_wire.specs.declared.fault.PathStep.{PathStep}
use Rattle.pb_wire.specs.Fault.{Place, HasTag}
use Rattle.pb_wire.specs.Schema.{Open, in_group, context_of}
use Rattle.pb_schema.specs.declared.types.Shape.TheVariants as shape
use Rattle.pb_schema.specs.Types.{FieldView, Types, message_fields, field_numbered}
use Rattle.pb_schema.specs.Names.{AllDiffer}
use Rattle.pb_schema.specs.Scalar.{Scalar}
use Rattle.pb_schema.specs.Kinds.{message_of_kind}
use Rattle.pb_schema.specs.Packed.{elements}
use Rattle.pb_schema.specs.Fits.{fits}
use Rattle.pb_schema.specs.Closed.{counts}
use Rattle.pb_value.proofs.KnownLemmas.{IsWhole, IsKnown}
use Rattle.pb_schema.specs.Context.{Context, schema_of}
use Rattle.pb_value.specs.Data.{scalar, one, Message, body, fields_of, unknown_of}
use Rattle.pb_value.specs.Value.{value_within}
use Rattle.pb_value.specs.Change.{IsSingle, push_each, stored_at, with_fields}
use Rattle.pb_value.proofs.MessageSteps.{message_scalar, message_elements, message_unknown}
use Rattle.pb_decode_parts.specs.Open.Opened.{SoFar, Begun}
use Rattle.pb_decode_parts.specs.Open.Opened as opened
use Rattle.pb_decode_parts.specs.Open.Parents.{Part, message_part, put_child, IsWorth, opening_type, Parent, Held, inside, Reached, Scope, one_more_in}
use Rattle.pb_decode_parts.proofs.OpenedLemmas.{RecordTo, group_ends}
use Rattle.pb_decode_parts.proofs.ParentLemmas.{one_more, closed_reached, same_self, put_child-form}

-- what a record makes of the part of a message, at whatever level
module _ {pool : Types} {m depth levels : ℕ} {base : List Record} {p0 : Place} {parents : List Parent} {scope : Scope} {q u : Place} (k : ℕ) (v : Message) (s : Reached pool m depth levels base p0 parents (message_part k v) scope q)
    (differ : AllDiffer (map (λ (f : FieldView). f.number) (message_fields pool k))) (r : Record) (h : RecordTo (schema_of pool) (context_of s.open_now) scope.depth_left q r u) where
  by_step : (step : Message → Message) → ((l : ℕ) → value_within pool (suc l) k ((s.earlier ++ s.records_so_far) ++ r ∷ []) ≡ step (value_within pool (suc l) k (s.earlier ++ s.records_so_far)))
      → Reached pool m depth levels base p0 parents (message_part k (step v)) (one_more_in r.number scope) u
  by_step step is = one_more s r (message_part k (step v)) h refl (at_level s.inner s.deep s.worth)
    where
      at_level : (l : ℕ) → scope.depth_left < l → v ≡ value_within pool l k (s.earlier ++ s.records_so_far) → step v ≡ value_within pool l k ((s.earlier ++ s.records_so_far) ++ r ∷ [])
      at_level zero deep w = absurd (omega (arith, deep))
      at_level (suc l) deep w = ap step w ∙ sym (is l)

  pub scalar_reached : (f : FieldView) → field_numbered f.number (message_fields pool k) ≡ Some f → fits f r ≡ true → IsKnown pool (message_fields pool k) r → (x : Scalar) → IsSingle f.shape → message_of_kind f.kind ≡ None → elements f.kind r.payload ≡ x ∷ []
      → Reached pool m depth levels base p0 parents (message_part k (with_fields v (stored_at (message_fields pool k) f.shape f.number (one (scalar x)) (fields_of v)))) (one_more_in r.number scope) u
  scalar_reached f found e counting x single none is =
      by_step (λ y. with_fields y (stored_at (message_fields pool k) f.shape f.number (one (scalar x)) (fields_of y)))
      (λ l. message_scalar pool l k differ (s.earlier ++ s.records_so_far) r f found e counting.whole counting.counting x single none is)

  pub elements_reached : (f : FieldView) → field_numbered f.number (message_fields pool k) ≡ Some f → fits f r ≡ true → IsKnown pool (message_fields pool k) r → (p : Bool) → f.shape ≡ shape.List p → message_of_kind f.kind ≡ None
      → Reached pool m depth levels base p0 parents (message_part k (with_fields v (push_each f.number (map scalar (elements f.kind r.payload)) (fields_of v)))) (one_more_in r.number scope) u
  elements_reached f found e counting p at none =
      by_step (λ y. with_fields y (push_each f.number (map scalar (elements f.kind r.payload)) (fields_of y))) (λ l. message_elements pool l k differ (s.earlier ++ s.records_so_far) r f found e counting.whole counting.counting p at none)

  pub unknown_reached : IsWhole (message_fields pool k) r → counts pool (message_fields pool k) r ≡ false → Reached pool m depth levels base p0 parents (message_part k (body (fields_of v) (unknown_of v ++ r ∷ []))) (one_more_in r.number scope) u
  unknown_reached whole none = by_step (λ y. body (fields_of y) (unknown_of y ++ r ∷ [])) (λ l. message_unknown pool l k differ (s.earlier ++ s.records_so_far) r whole none)

-- THE END OF A GROUP: it goes into its slot, and the reader is after its end tag in its parent
records_again : (rs : List Record) → records_in (group_of rs) ≡ rs
records_again [] = refl
records_again (r ∷ rs) = ap (λ (z : List Record). r ∷ z) (records_again rs)

pub ends_at_tag :
    {pool : Types} {m depth levels : ℕ} {base : List Record} {p0 : Place} {parent : Parent} {parents : List Parent} {scope : Scope} {now : Part} {v w : Place} {c : Context} (s : Reached pool m depth levels base p0 (parent ∷ parents) now scope v)
    → s.open_now ≡ in_group parent.number c → parent.group ≡ true → HasTag v parent.number 4 w
    → Reached pool m depth levels base p0 parents (put_child pool parent.slot parent.part now) (one_more_in parent.number parent.scope) w
ends_at_tag {pool} {m} {depth} {levels} {base} {p0} {parent} {parents} {scope} {now} {v} {w} {c} s is_open some end = from_held s.held s.so_far s.worth is_open
  where
    closed : {a o : Open Context} {depth_left below : ℕ} {q u : Place} {ss : List Record} → Begun (schema_of pool) a depth_left parent.number q o below u → SoFar (schema_of pool) o below u ss v → o ≡ in_group parent.number c
        → RecordTo (schema_of pool) (context_of a) depth_left q (record { number = parent.number; payload = group (group_of ss) }) w
    closed (opened.a_message levels tag re l is_open is_place) b is = absurd (cc)
    closed (opened.a_value levels tag re l is_open is_place) b is = absurd (cc)
    closed {a = a} {o = o} {depth_left = depth_left} {below = below} {q = q} {u = u} {ss = ss} (opened.a_group {r = start} levels tag is_open is_place) b is =
        let there : SoFar (schema_of pool) (in_group parent.number ((schema_of pool).group_context (context_of a) parent.number)) below start ss v =
        subst (λ (z : Place). SoFar (schema_of pool) (in_group parent.number ((schema_of pool).group_context (context_of a) parent.number)) below z ss v) is_place
        (subst (λ (z : Open Context). SoFar (schema_of pool) z below u ss v) is_open b) in
        subst (λ (z : ℕ). RecordTo (schema_of pool) (context_of a) z q (record { number = parent.number; payload = group (group_of ss) }) w) (sym levels)
        (group_ends (context_of a) below parent.number tag there end)

    from_held :
        {o : Open Context} {below inner : ℕ} {path : List PathStep} {u : Place} {earlier ss : List Record} → Held pool m depth levels base p0 (parent ∷ parents) now o below inner path u earlier → SoFar (schema_of pool) o below u ss v
        → IsWorth pool inner now (earlier ++ ss) → o ≡ in_group parent.number c → Reached pool m depth levels base p0 parents (put_child pool parent.slot parent.part now) (one_more_in parent.number parent.scope) w
    from_held {inner = inner} {earlier = earlier} {ss = ss} (inside up h begun form can deep completes is_path counts ends goes_on takes) b worth is =
        let inside_worth : IsWorth pool inner now (earlier ++ records_inside (group (group_of ss))) = subst (λ (z : List Record). IsWorth pool inner now (earlier ++ z)) (sym (records_again ss)) worth in
        closed_reached parent up h form deep counts ends s.bytes (group (group_of ss)) (closed begun b is) (put_child pool parent.slot parent.part now) (put_child-form pool parent.slot parent.part now)
        (completes (group (group_of ss)) now (sym (ap opening_type some)) (same_self now) inside_worth)
