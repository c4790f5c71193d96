-- Merging in place: what the fields of the second message that were merged so far make of the first, and what one more makes of that.
use Rattle.std.proofs.Common.{◌≡◌, ◌≢◌, ℕ, zero, suc, ◌+◌, ◌<◌, ◌≤◌, List, [], ◌∷◌, ◌++◌, max, Option, Some, None, arith, refl, sym, ap, ◌∙◌, subst, IfSome, IsSomeAnd, Vec, Global, BTreeMap}
use Rattle.std.specs.Prelude.{Bool, true, false, if◌then◌else◌}
use Rattle.pb_wire.specs.Record.{Record}
use Rattle.pb_wire.specs.Unknown.{payload_of, records_of}
use Rattle.pb_wire.specs.declared.unknown.Unknown.{Unknown}
use Rattle.pb_schema.specs.declared.types.Kind.{Kind}
use Rattle.pb_schema.specs.declared.types.Shape.{Shape}
use Rattle.pb_schema.specs.declared.types.Shape.TheVariants as shape
use Rattle.pb_schema.specs.Types.{FieldView, Types, message_fields, field_numbered}
use Rattle.pb_schema.specs.Rules.{IsPool}
use Rattle.pb_schema.specs.Oneofs.{is_member}
use Rattle.pb_value.specs.declared.body.Content.{Content}
use Rattle.pb_value.specs.Data.{Entries, Holding, one, list, map as map_of, Fields, no_fields, field, Message, body, fields_of, unknown_of, get_field, put_field, fields_depth, holding_depth, message_depth}
use Rattle.pb_value.specs.declared.body.Body.{roll-Body}
use Rattle.pb_value.specs.Inner.{only_datum}
use Rattle.pb_value.specs.Dynamic.{Dynamic, IsSameType}
use Rattle.pb_value.specs.View.{body_view, fields_view, content_view}
use Rattle.pb_value.proofs.Views.{body_view-roll}
use Rattle.pb_value.specs.Change.{with_fields, gives_way, drop_some, entries_of, AreKeys}
use Rattle.pb_value.specs.Merge.{sets_oneof, merged_at, merged_fields, merged_within, merged, merged_over, merged_in}
use Rattle.pb_value.specs.WellFormed.{IsOfShape, IsDatum, IsHeld, AreEntries, KeysRise, key_of, oneof_of, CanStand, AreFields, RisesFrom, HasNoMember, HasOneMemberEach, IsBody, IsWellFormed, oneof_at, holds_declared}
use Rattle.pb_value.proofs.Options.{if_some, at_some, some_of}
use Rattle.pb_value.proofs.Numbers.{found_number}
use Rattle.pb_value.proofs.PartLemmas.{held_at, AreKeys-entries}
use Rattle.pb_value.proofs.ChangeLemmas.{by_order, oneof_at-shape, AreFields-drop_field, gives_way-apart}
use Rattle.pb_value.proofs.FieldExtent.{get_field-drop_other, get_field-no_member}
use Rattle.pb_value.proofs.OneofBack.{oneof_here}
use Rattle.pb_value.proofs.MemberBack.{none_sets}
use Rattle.pb_value.proofs.BodyBack.{can_pack, all_found, numbers_differ}
use Rattle.pb_value.proofs.MergedWell.{within_well}
use Rattle.pb_value.proofs.MergeSteps.{merged_of, get_field-merged, merged_none, merged_step}

-- FIELDS BEFORE OTHERS

abbrev pub joined_fields : Fields → Fields → Fields
joined_fields no_fields gs = gs
joined_fields (field n h fs) gs = field n h (joined_fields fs gs)

pub fields_view-append : (fs gs : List (ℕ × Content)) → fields_view (fs ++ gs) ≡ joined_fields (fields_view fs) (fields_view gs)
fields_view-append [] gs = refl
fields_view-append (f ∷ fs) gs = ap (field f.0 (content_view f.1)) (fields_view-append fs gs)

AreFields-joined : (pool : Types) (all : List FieldView) (n : ℕ) (h : Holding) (fs gs : Fields) → AreFields pool all (joined_fields fs (field n h gs)) → AreFields pool all fs × CanStand pool all n h
AreFields-joined pool all n h no_fields gs w = (tt, w.0)
AreFields-joined pool all n h (field k g fs) gs w = let more = AreFields-joined pool all n h fs gs w.1 in ((w.0, more.0), more.1)

rises_to : (low n : ℕ) (h : Holding) (fs gs : Fields) → RisesFrom low (joined_fields fs (field n h gs)) → low ≤ n
rises_to low n h no_fields gs w = w.0
rises_to low n h (field k g fs) gs w = let here = w.0 in let more = rises_to (k + 1) n h fs gs w.1 in omega (arith, here, more)

RisesFrom-joined : (low n : ℕ) (h : Holding) (fs gs : Fields) → RisesFrom low (joined_fields fs (field n h gs)) → RisesFrom low fs
RisesFrom-joined low n h no_fields gs w = tt
RisesFrom-joined low n h (field k g fs) gs w = (w.0, RisesFrom-joined (k + 1) n h fs gs w.1)

HasNoMember-joined : (all : List FieldView) (o n : ℕ) (h : Holding) (fs gs : Fields) → HasNoMember all o (joined_fields fs (field n h gs)) → HasNoMember all o fs × (oneof_at all n ≢ Some o)
HasNoMember-joined all o n h no_fields gs w = (tt, w.0)
HasNoMember-joined all o n h (field k g fs) gs w = let more = HasNoMember-joined all o n h fs gs w.1 in ((w.0, more.0), more.1)

HasOneMemberEach-joined : (all : List FieldView) (n : ℕ) (h : Holding) (fs gs : Fields) → HasOneMemberEach all (joined_fields fs (field n h gs)) → HasOneMemberEach all fs
HasOneMemberEach-joined all n h no_fields gs w = tt
HasOneMemberEach-joined all n h (field k g fs) gs w = (
  if_some (oneof_at all k) (λ (o : ℕ). HasNoMember all o fs)
      (λ o e. (HasNoMember-joined all o n h fs gs (at_some (oneof_at all k) (λ (p : ℕ). HasNoMember all p (joined_fields fs (field n h gs))) o w.0 e)).0),
  HasOneMemberEach-joined all n h fs gs w.1,
)

-- no member of a field's oneof stands before it
alone_before : (all : List FieldView) (o n : ℕ) (h : Holding) (fs gs : Fields) → oneof_at all n ≡ Some o → HasOneMemberEach all (joined_fields fs (field n h gs)) → HasNoMember all o fs
alone_before all o n h no_fields gs e w = tt
alone_before all o n h (field k g fs) gs e w = (
  λ q. (HasNoMember-joined all o n h fs gs (at_some (oneof_at all k) (λ (p : ℕ). HasNoMember all p (joined_fields fs (field n h gs))) o w.0 q)).1 e,
  alone_before all o n h fs gs e w.1,
)

-- a field of a greater number is put at the end
put_behind : (low n : ℕ) (h : Holding) (fs gs : Fields) → RisesFrom low (joined_fields fs (field n h gs)) → joined_fields fs (field n h no_fields) ≡ put_field n h fs
put_behind low n h no_fields gs w = refl
put_behind low n h (field k g fs) gs w =
    let above = rises_to (k + 1) n h fs gs w.1 in
    by_order (λ (x : Fields). field k g (joined_fields fs (field n h no_fields)) ≡ x) n k _ _ _ (λ l. absurd (omega (arith, l, above))) (λ e. absurd (omega (arith, e, above)))
    (λ _. ap (field k g) (put_behind (k + 1) n h fs gs w.1))

none_before : (low n : ℕ) (h : Holding) (fs gs : Fields) → RisesFrom low (joined_fields fs (field n h gs)) → get_field n fs ≡ None
none_before low n h no_fields gs w = refl
none_before low n h (field k g fs) gs w =
    let above = rises_to (k + 1) n h fs gs w.1 in
    by_order (λ (x : Option Holding). x ≡ None) n k _ _ _ (λ l. absurd (omega (arith, l, above))) (λ e. absurd (omega (arith, e, above))) (λ _. none_before (k + 1) n h fs gs w.1)

depths : (n : ℕ) (h : Holding) (fs gs : Fields) (top : ℕ) → fields_depth (joined_fields fs (field n h gs)) ≤ top → (fields_depth fs ≤ top) × (holding_depth h ≤ top)
depths n h no_fields gs top l = (omega arith, omega (arith, l))
depths n h (field k g fs) gs top l = let more = depths n h fs gs top (omega (arith, l)) in (omega (arith, l, more.0), more.1)

-- ONE MORE FIELD

-- the merge with some fields of the second message
abbrev pub so_far : Types → ℕ → ℕ → Message → Fields → Fields
so_far pool m levels v done = merged_fields (merged_within pool levels) (message_fields pool m) (message_fields pool m) (fields_of v) done

module _ (pool : Types) (rules : IsPool pool) (m : ℕ) where
  abbrev every : List FieldView
  every = message_fields pool m

  pub so_far-well : (levels : ℕ) (v : Message) (done : Fields) → IsBody pool m v → IsBody pool m (body done []) → message_depth v ≤ levels → fields_depth done ≤ levels
      → AreFields pool (message_fields pool m) (so_far pool m levels v done) × HasOneMemberEach (message_fields pool m) (so_far pool m levels v done)
  unfolding merged_within
  so_far-well levels (body fs us) done a b l k =
      let w = within_well pool rules (suc levels) m levels (body fs us) (body done []) a b l (omega (arith, k)) (omega arith) in
      (w.0.0, w.0.2)

  -- a field that no fellow of its oneof has made give way still stands
  stands_yet : (merge : ℕ → Message → Message → Message) (f : FieldView) (done : Fields) (o : Option Holding) → sets_oneof (message_fields pool m) done f.shape ≡ false → merged_at merge (message_fields pool m) f done o None ≡ o
  stands_yet merge f done None e = refl
  stands_yet merge f done (Some g) e = ap (λ (b : Bool). if b then None else Some g) e

  module _ (merge : ℕ → Message → Message → Message) (fs done : Fields) (f : FieldView) (h : Holding) (found : field_numbered f.number (message_fields pool m) ≡ Some f) (none : get_field f.number done ≡ None)
      (alone : (o : ℕ) → f.shape ≡ shape.OneofMember o → HasNoMember (message_fields pool m) o done)
      (one_each : HasOneMemberEach (message_fields pool m) (merged_fields merge (message_fields pool m) (message_fields pool m) fs done)) where
    sets_none_yet : (s : Shape) → f.shape ≡ s → sets_oneof (message_fields pool m) done s ≡ false
    sets_none_yet (shape.OneofMember o) e = none_sets pool every (can_pack pool m rules) (all_found pool m rules) o done (alone o e)
    sets_none_yet shape.Implicit e = refl
    sets_none_yet shape.Explicit e = refl
    sets_none_yet (shape.List p) e = refl
    sets_none_yet (shape.Map key) e = refl

    stands : get_field f.number (merged_fields merge (message_fields pool m) (message_fields pool m) fs done) ≡ get_field f.number fs
    stands =
        get_field-merged merge every every fs done f.number (numbers_differ pool m rules) ∙ ap (merged_of merge every fs done) found
        ∙ ap (merged_at merge every f done (get_field f.number fs)) none ∙ stands_yet merge f done (get_field f.number fs) (sets_none_yet f.shape refl)

    stands_without : (way : Option ℕ) → gives_way (message_fields pool m) f.shape f.number (merged_fields merge (message_fields pool m) (message_fields pool m) fs done) ≡ way
        → get_field f.number (drop_some way (merged_fields merge (message_fields pool m) (message_fields pool m) fs done)) ≡ get_field f.number fs
    stands_without None e = stands
    stands_without (Some k) e =
        get_field-drop_other f.number k (merged_fields merge every every fs done) (λ q. gives_way-apart every f.shape f.number k (merged_fields merge every every fs done) e (sym q)) ∙ stands

    fellow_absent : (o : ℕ) → f.shape ≡ shape.OneofMember o → (g : FieldView) → field_numbered g.number (message_fields pool m) ≡ Some g → is_member o g.shape ≡ true → get_field g.number done ≡ None
    fellow_absent o e g there own =
        get_field-no_member every o g.number done (alone o e) (oneof_here pool every (can_pack pool m rules) (all_found pool m rules) o g.number g there own)

    pub one_more : merged_in merge (message_fields pool m) f h (merged_fields merge (message_fields pool m) (message_fields pool m) fs done)
        ≡ merged_fields merge (message_fields pool m) (message_fields pool m) fs (put_field f.number h done)
    one_more =
        ap (λ (o : Option Holding). put_field f.number (merged_over merge f.kind o h) less) (stands_without way refl)
        ∙ sym (merged_step merge every (numbers_differ pool m rules) (all_found pool m rules) fs done f h found fellow_absent one_each)
      where
        way : Option ℕ
        way = gives_way every f.shape f.number (merged_fields merge every every fs done)

        less : Fields
        less = drop_some way (merged_fields merge every every fs done)

-- WHAT ONE FIELD'S MERGE NEEDS AND LEAVES

-- what a field of a number may hold
pub of_field : (pool : Types) (all : List FieldView) (f : FieldView) (n : ℕ) (h : Holding) → field_numbered n all ≡ Some f → CanStand pool all n h → IsHeld pool f.shape f.kind h
of_field pool all f n h found w = (subst (λ (o : Option FieldView). IsSomeAnd o (λ g. IsOfShape g.shape h × IsHeld pool g.shape g.kind h × (holds_declared pool g.kind h ≡ true))) found w).1

-- what a field holds once a member gave way
pub held_there : (pool : Types) (all : List FieldView) (f : FieldView) (n : ℕ) (way : Option ℕ) (fs : Fields) → field_numbered n all ≡ Some f → AreFields pool all fs
    → IfSome (get_field n (drop_some way fs)) (IsHeld pool f.shape f.kind)
held_there pool all f n way fs found w = told (get_field n (drop_some way fs)) refl
  where
    less : (o : Option ℕ) → AreFields pool all (drop_some o fs)
    less None = w
    less (Some k) = AreFields-drop_field pool all k fs w

    told : (o : Option Holding) → get_field n (drop_some way fs) ≡ o → IfSome o (IsHeld pool f.shape f.kind)
    told None e = tt
    told (Some h) e = of_field pool all f n h found (held_at pool all n h (drop_some way fs) (less way) e)

-- a content over that of a field, once the member that gives way is gone
pub over_one :
    (merge : ℕ → Message → Message → Message) (all : List FieldView) (n : ℕ) (f g : FieldView) (h : Holding) (old less new : Message) → field_numbered n all ≡ Some g → field_numbered n all ≡ Some f
    → less ≡ with_fields old (drop_some (gives_way all g.shape n (fields_of old)) (fields_of old))
    → new ≡ with_fields less (put_field n (merged_over merge g.kind (get_field n (fields_of less)) h) (fields_of less))
    → new ≡ with_fields old (merged_in merge all f h (fields_of old))
over_one merge all n f g h old less new a b made put =
    let same : g ≡ f = cc in
    let number : n ≡ f.number = sym (found_number n all f b) in
    put ∙ ap (λ (v : Message). with_fields v (put_field n (merged_over merge g.kind (get_field n (fields_of v)) h) (fields_of v))) made
    ∙ ap (λ (x : FieldView). with_fields old (put_field n (merged_over merge x.kind (get_field n (drop_some (gives_way all x.shape n (fields_of old)) (fields_of old))) h) (drop_some (gives_way all x.shape n (fields_of old)) (fields_of old)))) same
    ∙ ap (λ (k : ℕ). with_fields old (put_field k (merged_over merge f.kind (get_field k (drop_some (gives_way all f.shape k (fields_of old)) (fields_of old))) h) (drop_some (gives_way all f.shape k (fields_of old)) (fields_of old)))) number

-- THE LOOP OVER THE SECOND MESSAGE'S FIELDS

-- the message is the merge with the fields so far
abbrev pub Merged : Types → ℕ → Message → List (ℕ × Content) → Message → List (ℕ × Content) → Type 0
Merged pool m v whole now done = (levels : ℕ) → fields_depth (fields_view whole) ≤ levels → now ≡ with_fields v (so_far pool m levels v (fields_view done))

module _ (pool : Types) (rules : IsPool pool) (m : ℕ) (v : Message) (whole : List (ℕ × Content)) (us : List Record)
    (is_v : IsBody pool m v) (is_w : IsBody pool m (body (fields_view whole) us)) where
  module _ (n : ℕ) (c : Content) (done rest : List (ℕ × Content)) (now : Message) (split : done ++ (n, c) ∷ rest ≡ whole) (merged : Merged pool m v whole now done) where
    parts : fields_view whole ≡ joined_fields (fields_view done) (field n (content_view c) (fields_view rest))
    parts = ap (λ (fs : List (ℕ × Content)). fields_view fs) (sym split) ∙ fields_view-append done ((n, c) ∷ rest)

    are_fields : AreFields pool (message_fields pool m) (joined_fields (fields_view done) (field n (content_view c) (fields_view rest)))
    are_fields = subst (AreFields pool (message_fields pool m)) parts is_w.0

    rise : RisesFrom 0 (joined_fields (fields_view done) (field n (content_view c) (fields_view rest)))
    rise = subst (RisesFrom 0) parts is_w.1

    have_one : HasOneMemberEach (message_fields pool m) (joined_fields (fields_view done) (field n (content_view c) (fields_view rest)))
    have_one = subst (HasOneMemberEach (message_fields pool m)) parts is_w.2

    is_done : IsBody pool m (body (fields_view done) [])
    is_done = (
      (AreFields-joined pool (message_fields pool m) n (content_view c) (fields_view done) (fields_view rest) are_fields).0,
      RisesFrom-joined 0 n (content_view c) (fields_view done) (fields_view rest) rise,
      HasOneMemberEach-joined (message_fields pool m) n (content_view c) (fields_view done) (fields_view rest) have_one,
      tt,
    )

    deep : (top : ℕ) → fields_depth (fields_view whole) ≤ top → (fields_depth (fields_view done) ≤ top) × (holding_depth (content_view c) ≤ top)
    deep top l = depths n (content_view c) (fields_view done) (fields_view rest) top (subst (λ (fs : Fields). fields_depth fs ≤ top) parts l)

    pub shallower : holding_depth (content_view c) ≤ message_depth (body (fields_view whole) us)
    shallower = let l = (deep (fields_depth (fields_view whole)) (omega arith)).1 in omega (arith, l)

    pub ready : AreFields pool (message_fields pool m) (fields_of now) × HasOneMemberEach (message_fields pool m) (fields_of now)
    ready =
        let top = max (message_depth v) (fields_depth (fields_view whole)) in
        subst (λ (x : Message). AreFields pool (message_fields pool m) (fields_of x) × HasOneMemberEach (message_fields pool m) (fields_of x)) (sym (merged top (omega arith)))
        (so_far-well pool rules m top v (fields_view done) is_v is_done (omega arith) (deep top (omega arith)).0)

    pub can_stand : CanStand pool (message_fields pool m) n (content_view c)
    can_stand = (AreFields-joined pool (message_fields pool m) n (content_view c) (fields_view done) (fields_view rest) are_fields).1

    -- one more
    pub merged_more : (new : Message)
        → ((levels : ℕ) (f : FieldView) → holding_depth (content_view c) ≤ levels → field_numbered n (message_fields pool m) ≡ Some f
        → new ≡ with_fields now (merged_in (merged_within pool levels) (message_fields pool m) f (content_view c) (fields_of now)))
        → Merged pool m v whole new (done ++ (n, c) ∷ [])
    merged_more new step levels l =
        let at = some_of (field_numbered n (message_fields pool m)) (λ (f : FieldView). IsOfShape f.shape (content_view c) × IsHeld pool f.shape f.kind (content_view c) × (holds_declared pool f.kind (content_view c) ≡ true)) can_stand in
        let f : FieldView = at.0 in
        let number : f.number ≡ n = found_number n (message_fields pool m) f at.1 in
        let found : field_numbered f.number (message_fields pool m) ≡ Some f = ap (λ (k : ℕ). field_numbered k (message_fields pool m)) number ∙ at.1 in
        let more = one_more pool rules m (merged_within pool levels) (fields_of v) (fields_view done) f (content_view c) found
        (ap (λ (k : ℕ). get_field k (fields_view done)) number ∙ none_before 0 n (content_view c) (fields_view done) (fields_view rest) rise)
        (λ o e. alone_before (message_fields pool m) o n (content_view c) (fields_view done) (fields_view rest) (oneof_at-shape (message_fields pool m) n f at.1 ∙ ap oneof_of e) have_one)
        (subst (λ (x : Message). HasOneMemberEach (message_fields pool m) (fields_of x)) (merged levels l) ready.1) in
        step levels f (deep levels l).1 at.1
        ∙ ap (λ (x : Message). with_fields x (merged_in (merged_within pool levels) (message_fields pool m) f (content_view c) (fields_of x))) (merged levels l)
        ∙ ap (with_fields v) more
        ∙ ap (λ (fs : Fields). with_fields v (so_far pool m levels v fs))
        (ap (λ (k : ℕ). put_field k (content_view c) (fields_view done)) number ∙ sym (put_behind 0 n (content_view c) (fields_view done) (fields_view rest) rise)
        ∙ sym (fields_view-append done ((n, c) ∷ [])))

  -- with no field yet
  pub merged_nothing : Merged pool m v whole v []
  merged_nothing levels l = of_parts v is_v
    where
      of_parts : (x : Message) → IsBody pool m x → x ≡ with_fields x (so_far pool m levels x no_fields)
      of_parts (body fs ws) w = ap (λ (gs : Fields). body gs ws) (sym (merged_none pool (merged_within pool levels) (message_fields pool m) fs (numbers_differ pool m rules) w.0 w.1))

  -- with all fields, and the unknown records after
  pub merged_whole : (now : Message) → Merged pool m v whole now whole → (levels : ℕ) → message_depth (body (fields_view whole) us) < levels
      → body (fields_of now) (unknown_of now ++ us) ≡ merged_within pool levels m v (body (fields_view whole) us)
  unfolding merged_within
  merged_whole now merged zero l = absurd (omega (arith, l))
  merged_whole now merged (suc levels) l = ap (λ (x : Message). body (fields_of x) (unknown_of x ++ us)) (merged levels (omega (arith, l)))

-- a content that is one value is of the kind
pub only_held : (pool : Types) (s : Shape) (k : Kind) (h : Holding) → IsHeld pool s k h → IfSome (only_datum h) (IsDatum pool k)
only_held pool s k (one d) w = w
only_held pool s k (list ds) w = tt
only_held pool s k (map_of es) w = tt

-- the keys of what a map's field holds and of what is put over it are of one kind
pub common_keys : (pool : Types) (s : Shape) (k : Kind) (h : Holding) (es : Entries) → IsHeld pool s k h → IsHeld pool s k (map_of es) → (key : Kind) × AreKeys key (entries_of (Some h)) × AreKeys key es
common_keys pool s k h es own other =
    let at = some_of (key_of s) (λ (key : Kind). AreEntries pool key k es × KeysRise es) other in
    (at.0, of_holding at.0 h at.1 own, AreKeys-entries pool at.0 k es at.2.0)
  where
    of_holding : (key : Kind) (g : Holding) → key_of s ≡ Some key → IsHeld pool s k g → AreKeys key (entries_of (Some g))
    of_holding key (one d) e w = tt
    of_holding key (list ds) e w = tt
    of_holding key (map_of gs) e w = AreKeys-entries pool key k gs (subst (λ (o : Option Kind). IsSomeAnd o (λ (q : Kind). AreEntries pool q k gs × KeysRise gs)) e w).0

pub whole_view : (pool : Types) (m : ℕ) (fs : BTreeMap ℕ Content) (us : Vec (ℕ × Unknown) Global) → IsBody pool m (body_view (roll-Body record { fields = fs; unknown = us })) → IsBody pool m (body (fields_view fs.entries) (records_of us.items))
whole_view pool m fs us w = subst (IsBody pool m) (body_view-roll fs us) w

pub records_of-append : (us ws : List (ℕ × Unknown)) → records_of (us ++ ws) ≡ records_of us ++ records_of ws
records_of-append [] ws = refl
records_of-append (u ∷ us) ws = ap (λ (rs : List Record). record { number = u.0; payload = payload_of u.1 } ∷ rs) (records_of-append us ws)

-- WHOLE MESSAGES

-- what holds at every number of levels holds of the merge
pub over_within : (pool : Types) (m : ℕ) (v w new : Message) → ((levels : ℕ) → message_depth w < levels → new ≡ merged_within pool levels m v w) → message_depth w ≤ 100 → new ≡ merged pool m v w
unfolding merged
over_within pool m v w new h l = h 101 (omega (arith, l))

-- a message with its pool and type, seen as another whose parts are these
pub merged_dynamic : (v w : Dynamic) (pool : Types) (m : ℕ) (own other new : Message) → record { pool = pool; kind = m; body = own } ≡ v → other ≡ w.body → new ≡ merged pool m own other
    → ◌≡◌ {A = Dynamic} (record { pool = pool; kind = m; body = new }) (record { pool = v.pool; kind = v.kind; body = merged v.pool v.kind v.body w.body })
merged_dynamic v w pool m own other new seen over made =
    let with_body : Message → Dynamic = λ b. record { pool = pool; kind = m; body = b } in
    let over_it : Message → Dynamic → Dynamic = λ b d. record { pool = d.pool; kind = d.kind; body = merged d.pool d.kind d.body b } in
    ap with_body made ∙ ap (over_it other) seen ∙ ap (λ (b : Message). over_it b v) over

-- what is well formed by the one's type is so by the other's
pub alike_well : (v w : Dynamic) → IsSameType v w → IsWellFormed w.pool w.kind w.body → IsWellFormed v.pool v.kind w.body
alike_well v w same h = subst (λ (k : ℕ). IsWellFormed v.pool k w.body) (sym same.kind) (subst (λ (p : Types). IsWellFormed p w.kind w.body) (sym same.pool) h)
