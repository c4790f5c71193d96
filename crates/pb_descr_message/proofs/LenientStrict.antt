-- A set without what lenient reading leaves out is well formed, as the set is, and no deeper. So its canonical bytes are strictly read as the
-- set's own bytes are leniently.
use Rattle.std.proofs.Common.{◌≡◌, ◌↔◌, ℕ, ◌<◌, ◌≤◌, ◌^◌, max, List, [], ◌∷◌, length, Bool, true, false, Option, Some, None, IfSome, IsSomeAnd, option_map, refl, sym, ap, ◌∙◌, subst, arith}
use Rattle.std.specs.Prelude.{◌==◌, codes, if◌then◌else◌, option_and_then, slice_get}
use Rattle.std.specs.List.{AllByRecursion}
use Rattle.std.specs.declared.cmp.Ordering.{Ordering}
use Rattle.std.specs.declared.cmp.Ordering.TheVariants.{Less, Equal, Greater}
use Rattle.std.specs.Ordering.{nat_cmp, match_ordering}
use Rattle.pb_wire.specs.Limits.{full}
use Rattle.pb_wire.specs.Ranges.{AreBytes}
use Rattle.pb_wire.specs.Record.{Record}
use Rattle.pb_schema.specs.declared.types.Shape.TheVariants as shape
use Rattle.pb_schema.specs.Types.{FieldView, message_fields, field_numbered}
use Rattle.pb_value.specs.Data.{Datum, scalar, message as one_message, Datums, no_datums, datum, Holding, one, list, map as a_map, Fields, no_fields, field, Message, body, get_field, put_some, drop_field}
use Rattle.pb_value.specs.Data.{levels_of, datums_depth, holding_depth, fields_depth, message_depth}
use Rattle.pb_value.specs.WellFormed.{IsOfShape, IsDatum, AreDatums, IsHeld, AreFields, RisesFrom, IsBody, CanStand, IsWellFormed, HasNoMember, HasOneMemberEach, oneof_of, oneof_at, datums_declared, holds_declared}
use Rattle.pb_value.proofs.ChangeLemmas.{by_order, AreFields-drop_field, RisesFrom-drop_field, AreFields-put_field, RisesFrom-put_field, fields_depth-put_field}
use Rattle.pb_value.proofs.PartLemmas.{held_at}
use Rattle.pb_value.proofs.RoundTrip.{canonical_text}
use Rattle.pb_value.proofs.ValueLemmas.{derived_is_well_formed}
use Rattle.pb_declarations.specs.Decls.{DeclaredFile}
use Rattle.pb_descr_message.specs.declared.cause.DeclCause.{DeclCause}
use Rattle.pb_descr_message.specs.Pool.{the_set, descriptor_types, message, many}
use Rattle.pb_descr_message.specs.Reading.{files_in, is_proto2}
use Rattle.pb_descr_message.specs.Causes.{set_causes}
use Rattle.pb_descr_message.specs.Sets.{IsSetText, IsSetOf}
use Rattle.pb_descr_message.specs.Without.{each, each_held, changed_at, is_required, is_closed_entry, field_fields_without, field_without, head_without, message_without, body_without, inner_without, holding_without, messages_without, file_fields_without, file_without, without_parts}
use Rattle.pb_descr_message.specs.Omitted.{OmittedView, omitted_in}
use Rattle.pb_descr_message.specs.Lenient.{IsLenientSetOf}
use Rattle.pb_descr_message.specs.WithoutBytes.{AreWithoutParts}
use Rattle.pb_descr_message.proofs.JoinedSets.{same_set}
use Rattle.pb_descr_message.proofs.PoolRules.{descriptor_is_pool}
use Rattle.pb_descr_message.proofs.WithoutLemmas.{field_depth}

-- FIELDS OF A TYPE

-- fields of a type, of this many levels
abbrev IsKept : ℕ → ℕ → Fields → Type 0
IsKept m top fs = AreFields descriptor_types (message_fields descriptor_types m) fs × RisesFrom 0 fs × (fields_depth fs ≤ top)

drop_depth : (n : ℕ) (fs : Fields) → fields_depth (drop_field n fs) ≤ fields_depth fs
drop_depth n no_fields = omega arith
drop_depth n (field k g fs) =
    let more = drop_depth n fs in
    by_order (λ gs. fields_depth gs ≤ max (holding_depth g) (fields_depth fs)) n k _ _ _ (λ _. omega arith) (λ _. omega arith) (λ _. omega arith)

drop_keeps : (m top n : ℕ) (fs : Fields) → IsKept m top fs → IsKept m top (drop_field n fs)
drop_keeps m top n fs w =
    let d = drop_depth n fs in
    (AreFields-drop_field descriptor_types (message_fields descriptor_types m) n fs w.0, RisesFrom-drop_field 0 n fs w.1, omega (arith, d, w.2))

drop_if_keeps : (m top n : ℕ) (b : Bool) (fs : Fields) → IsKept m top fs → IsKept m top (if b then drop_field n fs else fs)
drop_if_keeps m top n true fs w = drop_keeps m top n fs w
drop_if_keeps m top n false fs w = w

put_keeps :
    (m top n : ℕ) (o : Option Holding) (fs : Fields) → IfSome o (λ h. CanStand descriptor_types (message_fields descriptor_types m) n h × (holding_depth h ≤ top))
    → IsKept m top fs → IsKept m top (put_some n o fs)
put_keeps m top n None fs can w = w
put_keeps m top n (Some h) fs can w = (
  AreFields-put_field descriptor_types (message_fields descriptor_types m) n h fs can.0 w.0,
  RisesFrom-put_field 0 n h fs (omega arith) w.1,
  fields_depth-put_field n h fs top can.1 w.2,
)

-- no field is of a oneof
abbrev HasNoOneof : ℕ → Type 0
HasNoOneof m = AllByRecursion (λ (f : FieldView). oneof_of f.shape ≡ None) (message_fields descriptor_types m)

no_oneof : (all : List FieldView) → AllByRecursion (λ (f : FieldView). oneof_of f.shape ≡ None) all → (n : ℕ) → oneof_at all n ≡ None
no_oneof [] none n = refl
no_oneof (f ∷ all) none n = by_test (f.number == n) (no_oneof all none.1 n)
  where
    by_test : (b : Bool) → oneof_at all n ≡ None → option_and_then (λ (g : FieldView). oneof_of g.shape) (if b then Some f else field_numbered n all) ≡ None
    by_test true rest = none.0
    by_test false rest = rest

one_member : (all : List FieldView) → ((n : ℕ) → oneof_at all n ≡ None) → (fs : Fields) → HasOneMemberEach all fs
one_member all none no_fields = tt
one_member all none (field k h fs) = (subst (λ (o : Option ℕ). IfSome o (λ i. HasNoMember all i fs)) (sym (none k)) tt, one_member all none fs)

-- a message of a type, from its fields
body_keeps_fields :
    (m : ℕ) → HasNoOneof m → (old new : Fields) (us : List Record) → IsBody descriptor_types m (body old us) → IsKept m (fields_depth old) new
    → IsBody descriptor_types m (body new us) × (message_depth (body new us) ≤ message_depth (body old us))
body_keeps_fields m none old new us w kept =
    let d = kept.2 in
    ((kept.0, kept.1, one_member (message_fields descriptor_types m) (no_oneof (message_fields descriptor_types m) none) new, w.3), omega (arith, d))

own_fields : (m : ℕ) (fs : Fields) (us : List Record) → IsBody descriptor_types m (body fs us) → IsKept m (fields_depth fs) fs
own_fields m fs us w = (w.0, w.1, omega arith)

-- LISTS OF MESSAGES

-- messages of a type that are changed stay messages of the type, and get no deeper
abbrev Keeps : ℕ → (Datum → Datum) → Type 0
Keeps k f = (d : Datum) → IsDatum descriptor_types (message k) d → IsDatum descriptor_types (message k) (f d) × (levels_of (f d) ≤ levels_of d)

-- a list of messages of a type
abbrev AreListed : ℕ → Holding → Type 0
AreListed k h = IsOfShape (shape.List false) h × IsHeld descriptor_types (shape.List false) (message k) h × (holds_declared descriptor_types (message k) h ≡ true)

-- the field of a number of the first type is a list of messages of the second
abbrev ListsAt : ℕ → ℕ → ℕ → Type 0
ListsAt m n k = (name : List ℕ) × (field_numbered n (message_fields descriptor_types m) ≡ Some (many n name (message k)))

abbrev StandsIn : Holding → Option FieldView → Type 0
StandsIn h o = IsSomeAnd o (λ f. IsOfShape f.shape h × IsHeld descriptor_types f.shape f.kind h × (holds_declared descriptor_types f.kind h ≡ true))

stands : (m n k : ℕ) → ListsAt m n k → (h : Holding) → AreListed k h → CanStand descriptor_types (message_fields descriptor_types m) n h
stands m n k at h w = subst (StandsIn h) (sym at.1) w

listed : (m n k : ℕ) → ListsAt m n k → (h : Holding) → CanStand descriptor_types (message_fields descriptor_types m) n h → AreListed k h
listed m n k at h w = subst (StandsIn h) at.1 w

all_declared : (k : ℕ) (ds : Datums) → datums_declared descriptor_types (message k) ds ≡ true
all_declared k no_datums = refl
all_declared k (datum (scalar x) ds) = all_declared k ds
all_declared k (datum (one_message m) ds) = all_declared k ds

each_keeps :
    (k : ℕ) (f : Datum → Datum) → Keeps k f → (ds : Datums) → AreDatums descriptor_types (message k) ds
    → AreDatums descriptor_types (message k) (each f ds) × (datums_depth (each f ds) ≤ datums_depth ds)
each_keeps k f keeps no_datums w = (tt, omega arith)
each_keeps k f keeps (datum d ds) w =
    let here = keeps d w.0 in
    let rest = each_keeps k f keeps ds w.1 in
    let first = here.1 in
    let later = rest.1 in
    ((here.0, rest.0), omega (arith, first, later))

held_keeps : (k : ℕ) (f : Datum → Datum) → Keeps k f → (h : Holding) → AreListed k h → AreListed k (each_held f h) × (holding_depth (each_held f h) ≤ holding_depth h)
held_keeps k f keeps (one d) w = absurd w.0
held_keeps k f keeps (list no_datums) w = absurd w.0
held_keeps k f keeps (list (datum d ds)) w =
    let both = each_keeps k f keeps (datum d ds) w.1 in
    ((tt, both.0, all_declared k (each f (datum d ds))), both.1)
held_keeps k f keeps (a_map es) w = absurd w.0

changed_keeps : (m top n k : ℕ) (f : Datum → Datum) (fs : Fields) → Keeps k f → ListsAt m n k → IsKept m top fs → IsKept m top (changed_at n f fs)
changed_keeps m top n k f fs keeps at w = put_keeps m top n (option_map (each_held f) (get_field n fs)) fs (by_held (get_field n fs) refl) w
  where
    by_held : (o : Option Holding) → get_field n fs ≡ o → IfSome (option_map (each_held f) o) (λ h. CanStand descriptor_types (message_fields descriptor_types m) n h × (holding_depth h ≤ top))
    by_held None e = tt
    by_held (Some h) e =
        let there = listed m n k at h (held_at descriptor_types (message_fields descriptor_types m) n h fs w.0 e) in
        let new = held_keeps k f keeps h there in
        let depth = field_depth n h fs e in
        let less = new.1 in
        let all = w.2 in
        (stands m n k at (each_held f h) new.0, omega (arith, depth, less, all))

-- FIELDS AND MESSAGES

field_keeps : Keeps 5 field_without
field_keeps (scalar x) w = (w, omega arith)
field_keeps (one_message (body fs us)) w =
    let own = own_fields 5 fs us w in
    let kept = drop_keeps 5 (fields_depth fs) 7 (if is_required fs then drop_field 4 fs else fs) (drop_if_keeps 5 (fields_depth fs) 4 (is_required fs) fs own) in
    let both = body_keeps_fields 5 (refl, (refl, (refl, (refl, (refl, (refl, (refl, (refl, (refl, (refl, tt)))))))))) fs (field_fields_without fs) us w kept in
    let less = both.1 in
    (both.0, omega (arith, less))

head_keeps : (top : ℕ) (closed : Bool) (fs : Fields) → IsKept 2 top fs → IsKept 2 top (head_without closed fs)
head_keeps top closed fs w =
    let one_less = drop_if_keeps 2 top 7 closed fs w in
    let no_ranges = drop_keeps 2 top 5 (if closed then drop_field 7 fs else fs) one_less in
    let no_extensions = drop_keeps 2 top 6 (drop_field 5 (if closed then drop_field 7 fs else fs)) no_ranges in
    changed_keeps 2 top 2 5 field_without (drop_field 6 (drop_field 5 (if closed then drop_field 7 fs else fs))) field_keeps (codes "field", refl) no_extensions

deeper :
    (o : Option Holding) (low high : ℕ) → low ≤ high → IfSome o (λ h. AreListed 2 h × (holding_depth h ≤ low)) → IfSome o (λ h. AreListed 2 h × (holding_depth h ≤ high))
deeper None low high less w = tt
deeper (Some h) low high less w = (w.0, omega (arith, less, w.1))

put_inner :
    (m top n : ℕ) → ListsAt m n 2 → (o : Option Holding) (fs : Fields) → IfSome o (λ h. AreListed 2 h × (holding_depth h ≤ top)) → IsKept m top fs → IsKept m top (put_some n o fs)
put_inner m top n at None fs inner w = w
put_inner m top n at (Some h) fs inner w = put_keeps m top n (Some h) fs (stands m n 2 at h inner.0, inner.1) w

inner_listed : (m n : ℕ) → ListsAt m n 2 → (fs : Fields) → AreFields descriptor_types (message_fields descriptor_types m) fs → (h : Holding) → get_field n fs ≡ Some h → AreListed 2 h
inner_listed m n at fs w h e = listed m n 2 at h (held_at descriptor_types (message_fields descriptor_types m) n h fs w e)

mutual
  message_keeps : (two : Bool) (d : Datum) → IsDatum descriptor_types (message 2) d → IsDatum descriptor_types (message 2) (message_without two d) × (levels_of (message_without two d) ≤ levels_of d)
  message_keeps two (scalar x) w = (w, omega arith)
  message_keeps two (one_message m) w =
      let both = body_keeps two m w in
      let less = both.1 in
      (both.0, omega (arith, less))

  body_keeps : (two : Bool) (m : Message) → IsBody descriptor_types 2 m → IsBody descriptor_types 2 (body_without two m) × (message_depth (body_without two m) ≤ message_depth m)
  body_keeps two (body fs us) w =
      let inner = inner_keeps two 3 fs (inner_listed 2 3 (codes "nested_type", refl) fs w.0) in
      let put = put_inner 2 (fields_depth fs) 3 (codes "nested_type", refl) (inner_without two 3 fs) fs inner (own_fields 2 fs us w) in
      let kept = head_keeps (fields_depth fs) (is_closed_entry two fs) (put_some 3 (inner_without two 3 fs) fs) put in
      body_keeps_fields 2 (refl, (refl, (refl, (refl, (refl, (refl, (refl, (refl, (refl, (refl, tt)))))))))) fs (head_without (is_closed_entry two fs) (put_some 3 (inner_without two 3 fs) fs)) us w kept

  -- the messages that the field of a number holds
  inner_keeps :
      (two : Bool) (n : ℕ) (fs : Fields) → ((h : Holding) → get_field n fs ≡ Some h → AreListed 2 h)
      → IfSome (inner_without two n fs) (λ h. AreListed 2 h × (holding_depth h ≤ fields_depth fs))
  inner_keeps two n no_fields are = tt
  inner_keeps two n (field k h fs) are = by_case (nat_cmp n k) are (holding_keeps two h) (inner_keeps two n fs)
    where
      by_case :
          (c : Ordering) → ((g : Holding) → match_ordering c (get_field n fs) (Some h) (get_field n fs) ≡ Some g → AreListed 2 g)
          → (AreListed 2 h → AreListed 2 (holding_without two h) × (holding_depth (holding_without two h) ≤ holding_depth h))
          → (((g : Holding) → get_field n fs ≡ Some g → AreListed 2 g) → IfSome (inner_without two n fs) (λ g. AreListed 2 g × (holding_depth g ≤ fields_depth fs)))
          → IfSome (match_ordering c (inner_without two n fs) (Some (holding_without two h)) (inner_without two n fs))
          (λ g. AreListed 2 g × (holding_depth g ≤ max (holding_depth h) (fields_depth fs)))
      by_case Less are here rest = deeper (inner_without two n fs) (fields_depth fs) (max (holding_depth h) (fields_depth fs)) (omega arith) (rest are)
      by_case Equal are here rest =
          let both = here (are h refl) in
          let less = both.1 in
          (both.0, omega (arith, less))
      by_case Greater are here rest = deeper (inner_without two n fs) (fields_depth fs) (max (holding_depth h) (fields_depth fs)) (omega arith) (rest are)

  holding_keeps : (two : Bool) (h : Holding) → AreListed 2 h → AreListed 2 (holding_without two h) × (holding_depth (holding_without two h) ≤ holding_depth h)
  holding_keeps two (one d) w = absurd w.0
  holding_keeps two (list no_datums) w = absurd w.0
  holding_keeps two (list (datum d ds)) w =
      let here = message_keeps two d w.1.0 in
      let rest = messages_keep two ds w.1.1 in
      let first = here.1 in
      let later = rest.1 in
      ((tt, (here.0, rest.0), all_declared 2 (messages_without two (datum d ds))), omega (arith, first, later))
  holding_keeps two (a_map es) w = absurd w.0

  messages_keep : (two : Bool) (ds : Datums) → AreDatums descriptor_types (message 2) ds → AreDatums descriptor_types (message 2) (messages_without two ds) × (datums_depth (messages_without two ds) ≤ datums_depth ds)
  messages_keep two no_datums w = (tt, omega arith)
  messages_keep two (datum d ds) w =
      let here = message_keeps two d w.0 in
      let rest = messages_keep two ds w.1 in
      let first = here.1 in
      let later = rest.1 in
      ((here.0, rest.0), omega (arith, first, later))

-- FILES AND SETS

file_keeps : Keeps 1 file_without
file_keeps (scalar x) w = (w, omega arith)
file_keeps (one_message (body fs us)) w =
    let two : Bool = is_proto2 fs in
    let inner = inner_keeps two 4 fs (inner_listed 1 4 (codes "message_type", refl) fs w.0) in
    let put = put_inner 1 (fields_depth fs) 4 (codes "message_type", refl) (inner_without two 4 fs) fs inner (own_fields 1 fs us w) in
    let kept = drop_keeps 1 (fields_depth fs) 7 (put_some 4 (inner_without two 4 fs) fs) put in
    let both = body_keeps_fields 1 (refl, (refl, (refl, (refl, (refl, (refl, (refl, (refl, (refl, tt))))))))) fs (file_fields_without fs) us w kept in
    let less = both.1 in
    (both.0, omega (arith, less))

pub without_well_formed : (set : Message) → IsWellFormed descriptor_types the_set set → IsWellFormed descriptor_types the_set (without_parts set)
without_well_formed (body fs us) w =
    let kept = changed_keeps 0 (fields_depth fs) 1 1 file_without fs file_keeps (codes "file", refl) (own_fields 0 fs us w.parts) in
    let both = body_keeps_fields 0 (refl, tt) fs (changed_at 1 file_without fs) us w.parts kept in
    let less = both.1 in
    record { parts = both.0; depth = omega (arith, less, w.depth) }

-- THE LAW

module _ (b without : List ℕ) (are : AreBytes b) (w : AreWithoutParts b without) where
  well_formed : IsWellFormed descriptor_types the_set (without_parts w.set)
  well_formed = without_well_formed w.set (derived_is_well_formed descriptor_types descriptor_is_pool the_set full.depth b w.set (omega arith) are w.text.derives)

  encoded : IsSetText full without (without_parts w.set)
  encoded =
      subst (λ (l : List ℕ). IsSetText full l (without_parts w.set)) (sym w.canonical)
      (canonical_text descriptor_types the_set (without_parts w.set) descriptor_is_pool well_formed (subst (λ (l : List ℕ). length l < 2 ^ 31) w.canonical w.short))

  pub read : (files : List DeclaredFile) → IsSetOf full without files ↔ ((omitted : List OmittedView) × IsLenientSetOf full b files omitted)
  read files = (strictly, leniently)
    where
      strictly : IsSetOf full without files → (omitted : List OmittedView) × IsLenientSetOf full b files omitted
      strictly r =
          let e : r.set ≡ without_parts w.set = same_set r.text encoded in
          (omitted_in w.set, record { set = w.set; text = w.text; silent = ap set_causes (sym e) ∙ r.silent; declared = r.declared ∙ ap files_in e; left_out = refl })

      leniently : (omitted : List OmittedView) × IsLenientSetOf full b files omitted → IsSetOf full without files
      leniently (omitted, r) =
          let e : w.set ≡ r.set = same_set w.text r.text in
          record {
            set = without_parts w.set;
            text = encoded;
            silent = ap (λ s. set_causes (without_parts s)) e ∙ r.silent;
            declared = r.declared ∙ ap (λ s. files_in (without_parts s)) (sym e);
          }

  pub refused : (i : ℕ) (c : DeclCause)
      → ((set : Message) × IsSetText full without set × (slice_get (set_causes set) 0 ≡ Some (i, c)))
      ↔ ((set : Message) × IsSetText full b set × (slice_get (set_causes (without_parts set)) 0 ≡ Some (i, c)))
  refused i c = (strictly, leniently)
    where
      strictly : (set : Message) × IsSetText full without set × (slice_get (set_causes set) 0 ≡ Some (i, c))
          → (set : Message) × IsSetText full b set × (slice_get (set_causes (without_parts set)) 0 ≡ Some (i, c))
      strictly (set, t, first) = (w.set, w.text, ap (λ s. slice_get (set_causes s) 0) (same_set encoded t) ∙ first)

      leniently : (set : Message) × IsSetText full b set × (slice_get (set_causes (without_parts set)) 0 ≡ Some (i, c))
          → (set : Message) × IsSetText full without set × (slice_get (set_causes set) 0 ≡ Some (i, c))
      leniently (set, t, first) = (without_parts w.set, encoded, ap (λ s. slice_get (set_causes (without_parts s)) 0) (same_set w.text t) ∙ first)
