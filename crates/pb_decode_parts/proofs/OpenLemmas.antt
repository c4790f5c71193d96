-- What is opened: the message of a field of one value, an element of a list of messages, an entry of a map.
use Rattle.std.proofs.Common.{◌≡◌, ◌≢◌, ℕ, zero, suc, ◌+◌, ◌<◌, List, [], ◌∷◌, ◌++◌, length, map, inl, inr, refl, sym, ap, ◌∙◌, subst, arith, Option, Some, None}
use Rattle.std.specs.Prelude.{◌⊎◌, Bool, true, false, ◌==◌, ◌&&◌, if◌then◌else◌}
use Rattle.std.proofs.lemmas.List.{append-nil}
use Rattle.pb_wire.specs.Record.{Payload, len, group as group_payload, no_more, Record, wire_type}
use Rattle.pb_wire.specs.Inside.{records_inside}
use Rattle.pb_wire.specs.Fault.{Place, step, HasTag, HasLength}
use Rattle.pb_wire.specs.Schema.{Open, records, in_group, context_of, message as message_reading}
use Rattle.pb_wire.specs.Grammar.{payload_at}
use Rattle.pb_schema.specs.declared.types.Kind.{Kind}
use Rattle.pb_schema.specs.declared.types.Kind.TheVariants as kind
use Rattle.pb_schema.specs.declared.types.MessageId.{MessageId}
use Rattle.pb_schema.specs.declared.types.Shape.{Shape}
use Rattle.pb_schema.specs.declared.types.Shape.TheVariants as shape
use Rattle.pb_schema.specs.Types.{FieldView, Types, message_fields, field_numbered}
use Rattle.pb_schema.specs.Names.{AllDiffer}
use Rattle.pb_schema.specs.Fits.{fits, fits_type}
use Rattle.pb_schema.specs.Context.{Context, a_message as in_message, schema_of}
use Rattle.pb_value.specs.Data.{message, one, Holding, Fields, Message, body, fields_of, unknown_of, get_field, put_field, drop_field, message_depth}
use Rattle.pb_value.specs.Value.{value_within}
use Rattle.pb_value.specs.Judge.{is_absence}
use Rattle.pb_value.specs.WellFormed.{RisesFrom, HasOneMemberEach, IsBody}
use Rattle.pb_value.specs.Change.{IsSingle, stored_at, drop_some, gives_way, with_fields}
use Rattle.pb_value.proofs.ChangeLemmas.{RisesFrom-put_field, RisesFrom-drop_field, HasOneMemberEach-drop_field}
use Rattle.pb_value.proofs.FieldExtent.{get_field-put_same, get_field-put_other, get_field-drop_other, same_fields, equal_or_not}
use Rattle.pb_schema.specs.Rules.{IsPool, NamesType}
use Rattle.pb_schema.proofs.LookupLemmas.{found_field}
use Rattle.pb_value.proofs.OneofLemmas.{pool_differ}
use Rattle.pb_value.proofs.StepLemmas.{after_giving_way, is_fellow, self_equal}
use Rattle.pb_value.proofs.ShapeSteps.{held_message}
use Rattle.pb_value.proofs.MessageSteps.{earlier, message_within, message_before, value_rises, value_members}
use Rattle.pb_decode_parts.specs.declared.open.part.Slot.TheVariants as slot
use Rattle.pb_decode_parts.specs.Open.Opened.{Begun}
use Rattle.pb_decode_parts.specs.Open.Opened as opened
use Rattle.pb_decode_parts.specs.Open.Parents.{message_part, entry_part, group_part, opening_type, open_type, Parent, EndsAt, Completes, Held, inside, Reached, Scope}
use Rattle.pb_schema.specs.Kinds.{message_of_kind}
use Rattle.pb_value.proofs.KnownLemmas.{IsKnown}
use Rattle.pb_decode_parts.proofs.KindLemmas.{message_open, open_known}
use Rattle.pb_decode_parts.proofs.StepCounts.{counts_of_none}
use Rattle.pb_decode_parts.proofs.WellLemmas.{type_in_pool, message_good, held_good}
use Rattle.pb_decode_parts.proofs.OpenedLemmas.{so_far_nothing}
use Rattle.pb_decode_parts.proofs.ParentLemmas.{held_as_well}

-- PUTTING A MESSAGE BACK

RisesFrom-drop_some : (j : Option ℕ) (fs : Fields) → RisesFrom 0 fs → RisesFrom 0 (drop_some j fs)
RisesFrom-drop_some None fs w = w
RisesFrom-drop_some (Some j) fs w = RisesFrom-drop_field 0 j fs w

message_stored : (all : List FieldView) (s : Shape) (n : ℕ) (w : Message) (fs : Fields) → stored_at all s n (one (message w)) fs ≡ put_field n (one (message w)) (drop_some (gives_way all s n fs) fs)
message_stored all s n w fs = ap (λ (b : Bool). if b then drop_field n fs else put_field n (one (message w)) (drop_some (gives_way all s n fs) fs)) (no_default s)
  where
    no_default : (s : Shape) → is_absence s (one (message w)) ≡ false
    no_default shape.Implicit = refl
    no_default shape.Explicit = refl
    no_default (shape.OneofMember o) = refl
    no_default (shape.List p) = refl
    no_default (shape.Map k) = refl

-- a message that was taken out of its field may be put back changed
pub put_back : (all : List FieldView) (s : Shape) (n : ℕ) (w : Message) (fs : Fields) → RisesFrom 0 fs → HasOneMemberEach all fs → stored_at all s n (one (message w)) (drop_field n fs) ≡ stored_at all s n (one (message w)) fs
put_back all s n w fs rises members = message_stored all s n w (drop_field n fs) ∙ same_fields 0 left right (rises_after (drop_field n fs) (RisesFrom-drop_field 0 n fs rises)) (rises_after fs rises) at ∙ sym (message_stored all s n w fs)
  where
    left : Fields
    left = put_field n (one (message w)) (drop_some (gives_way all s n (drop_field n fs)) (drop_field n fs))

    right : Fields
    right = put_field n (one (message w)) (drop_some (gives_way all s n fs) fs)

    rises_after : (gs : Fields) → RisesFrom 0 gs → RisesFrom 0 (put_field n (one (message w)) (drop_some (gives_way all s n gs) gs))
    rises_after gs r = RisesFrom-put_field 0 n (one (message w)) (drop_some (gives_way all s n gs) gs) (omega arith) (RisesFrom-drop_some (gives_way all s n gs) gs r)

    at : (k : ℕ) → get_field k left ≡ get_field k right
    at k = by_place (equal_or_not k n)
      where
        by_place : (k ≡ n) ⊎ (k ≢ n) → get_field k left ≡ get_field k right
        by_place (inl q) =
            ap (λ (i : ℕ). get_field i left) q ∙ get_field-put_same n (one (message w)) (drop_some (gives_way all s n (drop_field n fs)) (drop_field n fs))
            ∙ sym (get_field-put_same n (one (message w)) (drop_some (gives_way all s n fs) fs)) ∙ ap (λ (i : ℕ). get_field i right) (sym q)
        by_place (inr d) =
            get_field-put_other k n (one (message w)) (drop_some (gives_way all s n (drop_field n fs)) (drop_field n fs)) d
            ∙ after_giving_way all n k (drop_field n fs) d s (HasOneMemberEach-drop_field all n fs members)
            ∙ ap (λ (h : Option Holding). if is_fellow s (field_numbered k all) then None else h) (get_field-drop_other k n fs d)
            ∙ sym (after_giving_way all n k fs d s members)
            ∙ sym (get_field-put_other k n (one (message w)) (drop_some (gives_way all s n fs) fs) d)

-- WHAT FITS

pub fits_by_type : (f : FieldView) (p : Payload) (w : ℕ) → wire_type p ≡ w → fits_type f w ≡ true → fits f (record { number = f.number; payload = p }) ≡ true
fits_by_type f p w e t = ap (λ (b : Bool). b && fits_type f (wire_type p)) (self_equal f.number) ∙ ap (fits_type f) e ∙ t

-- what the kind of a field names is of the pool
pub message_in_pool : (pool : Types) (k : ℕ) (f : FieldView) (j : MessageId) → IsPool pool → field_numbered f.number (message_fields pool k) ≡ Some f → message_of_kind f.kind ≡ Some j.0 → j.0 < length pool.messages
message_in_pool pool k f j ok found is = named f.kind is (found_field pool k (λ g. g.number == f.number) f ok found).kind
  where
    named : (x : Kind) → message_of_kind x ≡ Some j.0 → NamesType (length pool.messages) (length pool.enums) x → j.0 < length pool.messages
    named (kind.Message i) is h = let same : i.0 ≡ j.0 = cc in subst (λ (z : ℕ). z < length pool.messages) same h
    named (kind.Group i) is h = let same : i.0 ≡ j.0 = cc in subst (λ (z : ℕ). z < length pool.messages) same h
    named x is h = absurd (cc)

-- WHAT IS OPENED begins with no records, a level below, and with its own known end
abbrev pub payload_scope : ℕ → Place → ℕ → (ℕ → ℕ) → Scope
payload_scope depth_left t n counts = record { depth_left = depth_left; end = Some (t.at + n); counts = counts }

-- After the tag of the record of number n that comes next, and its length where it has one, a message of this type begins, in this scope.
pub record Opens (pool : Types) (a : Open Context) (depth_left n : ℕ) (q : Place) (j : ℕ) (group : Bool) (inner : Scope) (u : Place) : Type 0 where
  pub what : Open Context
  pub begun : Begun (schema_of pool) a depth_left n q what inner.depth_left u
  pub of_type : context_of what ≡ in_message j
  pub typed : opening_type group ≡ open_type what
  pub level : depth_left ≡ suc inner.depth_left
  pub ends : EndsAt u inner.end
  pub none : (i : ℕ) → inner.counts i ≡ 0

-- by a length
pub length_opens :
    (pool : Types) {a : Open Context} {depth_left k n j : ℕ} {q r t : Place} (inner : Scope) → (schema_of pool).reading (context_of a) k ≡ message_reading (in_message j) → HasTag q k 2 r → HasLength r n t → depth_left ≡ suc inner.depth_left
    → inner.end ≡ Some (t.at + n) → ((i : ℕ) → inner.counts i ≡ 0) → Opens pool a depth_left k q j false inner (payload_at t n)
length_opens pool {n = n} {j = j} {t = t} inner reading tag l level end none = record {
  what = records (in_message j);
  begun = opened.a_message level tag reading l refl refl;
  of_type = refl;
  typed = refl;
  level = level;
  ends = subst (EndsAt (payload_at t n)) (sym end) (n, refl, refl);
  none = none;
}

-- by the first tag of a group
pub group_opens :
    (pool : Types) {a : Open Context} {depth_left k j : ℕ} {q u : Place} (inner : Scope) → (schema_of pool).group_context (context_of a) k ≡ in_message j → HasTag q k 3 u → depth_left ≡ suc inner.depth_left → EndsAt u inner.end
    → ((i : ℕ) → inner.counts i ≡ 0) → Opens pool a depth_left k q j true inner u
group_opens pool {a = a} {k = k} inner context tag level ends none = record {
  what = in_group k ((schema_of pool).group_context (context_of a) k);
  begun = opened.a_group level tag refl refl;
  of_type = context;
  typed = refl;
  level = level;
  ends = ends;
  none = none;
}

-- THE MESSAGE OF A FIELD OF ONE VALUE IS OPENED: what the field held is taken out, and goes on
pub opens_message :
    {pool : Types} {m depth levels : ℕ} {base : List Record} {p0 : Place} {parents : List Parent} {scope : Scope} {q : Place} (k : ℕ) (v : Message) (s : Reached pool m depth levels base p0 parents (message_part k v) scope q)
    → IsPool pool → (f : FieldView) (j : MessageId) (group : Bool) → field_numbered f.number (message_fields pool k) ≡ Some f → message_of_kind f.kind ≡ Some j.0 → IsSingle f.shape → fits_type f (opening_type group) ≡ true
    → (inner : Scope) (u : Place) → Opens pool s.open_now scope.depth_left f.number q j.0 group inner u
    → Reached pool m depth levels base p0 (record { part = message_part k (with_fields v (drop_field f.number (fields_of v))); number = f.number; slot = slot.One f.shape f.number; group = group; scope = scope } ∷ parents)
    (message_part j.0 (held_message (get_field f.number (fields_of v)))) inner u
opens_message {pool} {m} {depth} {levels} {base} {p0} {parents} {scope} {q} k v s ok f j group found is single fitted inner u opens = by_level s.inner s.deep s.held s.worth (message_good ok k v s)
  where
    all : List FieldView
    all = message_fields pool k

    in_pool : k < length pool.messages
    in_pool = type_in_pool k v s

    differ : AllDiffer (map (λ (f : FieldView). f.number) (message_fields pool k))
    differ = pool_differ pool k ok in_pool

    taken : Message
    taken = with_fields v (drop_field f.number (fields_of v))

    parent : Parent
    parent = record { part = message_part k taken; number = f.number; slot = slot.One f.shape f.number; group = group; scope = scope }

    level : scope.depth_left ≡ suc inner.depth_left
    level = opens.level

    by_level : (inside_levels : ℕ) → scope.depth_left < inside_levels → Held pool m depth levels base p0 parents (message_part k v) s.open_now scope.depth_left inside_levels s.path s.begin s.earlier → v ≡ value_within pool inside_levels k (s.earlier ++ s.records_so_far)
        → IsBody pool k v × (message_depth v < inside_levels)
        → Reached pool m depth levels base p0 (parent ∷ parents) (message_part j.0 (held_message (get_field f.number (fields_of v)))) inner u
    by_level zero h held w good = absurd (omega (arith, h))
    by_level (suc i) h held w good = record {
      open_now = opens.what;
      inner = i;
      path = s.path ++ step f.number s.records_so_far ∷ [];
      begin = u;
      earlier = before;
      records_so_far = [];
      held =
          inside (held_as_well (message_part k taken) refl held) s.so_far opens.begun s.form can h completes refl s.counted s.ends
          (let good_inside = held_good pool k i v f j found is (omega (arith, h, level)) good.0 good.1 in
          subst (λ (z : Message). (j.0 < length pool.messages) × IsBody pool j.0 z × (message_depth z < i)) goes_on (message_in_pool pool k f j ok found is, good_inside.0, good_inside.1)) (tt, opens.typed);
      form = opens.of_type;
      deep = omega (arith, h, level);
      so_far = so_far_nothing u;
      counted = counts_of_none inner.counts opens.none;
      ends = opens.ends;
      bytes = s.bytes;
      worth = goes_on ∙ ap (value_within pool i j.0) (sym (append-nil before));
    }
      where
        rs : List Record
        rs = s.earlier ++ s.records_so_far

        can : (k < length pool.messages) × HasOneMemberEach all (drop_field f.number (fields_of v))
        can = (in_pool, HasOneMemberEach-drop_field all f.number (fields_of v) (subst (λ (y : Message). HasOneMemberEach all (fields_of y)) (sym w) (value_members pool i k rs differ)))

        -- any record that fits will do
        some_payload : Payload
        some_payload = if group then group_payload no_more else len []

        its_type : wire_type some_payload ≡ opening_type group
        its_type = by_flag group
          where
            by_flag : (g : Bool) → wire_type (if g then group_payload no_more else len []) ≡ opening_type g
            by_flag true = refl
            by_flag false = refl

        the_record : Record
        the_record = record { number = f.number; payload = some_payload }

        the_fit : fits f the_record ≡ true
        the_fit = fits_by_type f some_payload (opening_type group) its_type fitted

        the_known : IsKnown pool all the_record
        the_known = open_known pool all f some_payload found (message_open f.shape f.kind j.0 is) the_fit

        before : List Record
        before = earlier pool i k differ rs the_record f found the_fit the_known.whole the_known.counting

        goes_on : held_message (get_field f.number (fields_of v)) ≡ value_within pool i j.0 before
        goes_on =
            ap (λ (y : Message). held_message (get_field f.number (fields_of y))) w
            ∙ message_before pool i k differ rs the_record f found the_fit the_known.whole the_known.counting j.0 is single

        completes : Completes pool (suc i) i parent rs (message_part j.0 (held_message (get_field f.number (fields_of v)))) before
        completes p (message_part l x) type form worth =
            let e : fits f (record { number = f.number; payload = p }) ≡ true = fits_by_type f p (opening_type group) type fitted in
            let counting = open_known pool all f p found (message_open f.shape f.kind j.0 is) e in
            let rises : RisesFrom 0 (fields_of v) = subst (λ (y : Message). RisesFrom 0 (fields_of y)) (sym w) (value_rises pool i k rs) in
            let members : HasOneMemberEach all (fields_of v) = subst (λ (y : Message). HasOneMemberEach all (fields_of y)) (sym w) (value_members pool i k rs differ) in
            let made : x ≡ value_within pool i j.0 (before ++ records_inside p) = worth ∙ ap (λ (z : ℕ). value_within pool i z (before ++ records_inside p)) (sym form) in
            ap (λ (gs : Fields). body gs (unknown_of v)) (put_back all f.shape f.number x (fields_of v) rises members)
            ∙ ap (λ (y : Message). with_fields y (stored_at all f.shape f.number (one (message x)) (fields_of y))) w
            ∙ ap (λ (z : Message). with_fields (value_within pool (suc i) k rs) (stored_at all f.shape f.number (one (message z)) (fields_of (value_within pool (suc i) k rs)))) made
            ∙ sym (message_within pool i k differ rs (record { number = f.number; payload = p }) f found e counting.whole counting.counting j.0 is single)
        completes p (entry_part a b c d) type form worth = absurd form
        completes p (group_part us) type form worth = absurd form
