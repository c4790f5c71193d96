-- What is opened and was not there before: a message of a list, an entry of a map.
use Rattle.std.proofs.Common.{◌≡◌, ℕ, zero, suc, ◌<◌, List, [], ◌∷◌, ◌++◌, length, map, refl, sym, ap, ◌∙◌, subst, arith, Option, Some, None, Ordering, Less, Equal, Greater, nat_cmp}
use Rattle.std.specs.Prelude.{Bool, true, false, unwrap_or, ◌==◌}
use Rattle.pb_wire.specs.Record.{Record}
use Rattle.pb_wire.specs.Inside.{records_inside}
use Rattle.pb_wire.specs.Fault.{Place, step, HasTag, HasLength}
use Rattle.pb_wire.specs.Schema.{records, message as message_reading}
use Rattle.pb_wire.specs.Grammar.{payload_at}
use Rattle.pb_schema.specs.declared.types.Kind.{Kind}
use Rattle.pb_schema.specs.declared.types.Kind.TheVariants as kind
use Rattle.pb_schema.specs.declared.types.MessageId.{MessageId}
use Rattle.pb_schema.specs.declared.types.Shape.TheVariants as shape
use Rattle.pb_schema.specs.Types.{FieldView, Types, message_fields, field_numbered}
use Rattle.pb_schema.specs.Names.{AllDiffer}
use Rattle.pb_schema.specs.declared.types.Shape.{Shape}
use Rattle.pb_schema.specs.Rules.{IsPool, HasKeyKind, MayBeValue}
use Rattle.pb_schema.proofs.LookupLemmas.{found_field}
use Rattle.pb_value.proofs.OneofLemmas.{pool_differ}
use Rattle.pb_schema.specs.Scalar.{Scalar}
use Rattle.pb_schema.specs.Kinds.{default_of, message_of_kind}
use Rattle.pb_schema.specs.Fits.{fits_type, fitting}
use Rattle.pb_schema.specs.Context.{Context, a_message as in_message, an_entry, key_field, value_field, schema_of}
use Rattle.pb_value.specs.Data.{Datum, message, Message, fields_of, empty, message_depth, Fields, no_fields, field, get_field, drop_field}
use Rattle.pb_value.specs.Value.{last_of, all_elements, one_value, missing, entry_of, value_within}
use Rattle.pb_value.specs.WellFormed.{HasOneMemberEach, IsBody}
use Rattle.pb_value.specs.Change.{push_at, insert_at, with_fields}
use Rattle.pb_value.proofs.MessageSteps.{message_listed, message_entry, value_of_nothing, value_members}
use Rattle.pb_decode_parts.specs.declared.open.part.Slot.TheVariants as slot
use Rattle.pb_decode_parts.specs.Open.Opened.{Begun}
use Rattle.pb_decode_parts.specs.Open.Opened as opened
use Rattle.pb_decode_parts.specs.Open.Parents.{message_part, entry_part, group_part, opening_type, Parent, Completes, Held, inside, Reached, Scope}
use Rattle.pb_decode_parts.proofs.KindLemmas.{message_open, map_open, open_known}
use Rattle.pb_decode_parts.proofs.StepCounts.{counts_of_none}
use Rattle.pb_decode_parts.proofs.WellLemmas.{type_in_pool, message_good, keys_good}
use Rattle.pb_decode_parts.proofs.OpenedLemmas.{so_far_nothing}
use Rattle.pb_decode_parts.proofs.OpenLemmas.{fits_by_type, message_in_pool, payload_scope, Opens}
use Rattle.std.specs.Ordering.{match_ordering}
use Rattle.pb_decode_parts.proofs.RunLemmas.{same_message}

no_value : (inner : ℕ → List Record → Message) (k : Kind) → one_value inner k [] ≡ None
no_value inner (kind.Message j) = refl
no_value inner (kind.Group j) = refl
no_value inner k = refl

one_missing : (a b : ℕ → List Record → Message) (k : Kind) → missing a k ≡ missing b k
one_missing a b (kind.Message j) = refl
one_missing a b (kind.Group j) = refl
one_missing a b k = refl

module _ {pool : Types} {m depth levels : ℕ} {base : List Record} {p0 : Place} {parents : List Parent} {scope : Scope} {q : Place} (k : ℕ) (v : Message) (s : Reached pool m depth levels base p0 parents (message_part k v) scope q) (ok : IsPool pool) where
  in_pool : k < length pool.messages
  in_pool = type_in_pool k v s

  differ : AllDiffer (map (λ (f : FieldView). f.number) (message_fields pool k))
  differ = pool_differ pool k ok in_pool

  -- AN ELEMENT OF A LIST OF MESSAGES
  pub opens_listed :
      (f : FieldView) (j : MessageId) (p : Bool) (group : Bool) → field_numbered f.number (message_fields pool k) ≡ Some f → message_of_kind f.kind ≡ Some j.0 → f.shape ≡ shape.List p → fits_type f (opening_type group) ≡ true
      → (inner : Scope) (u : Place) → Opens pool s.open_now scope.depth_left f.number q j.0 group inner u
      → Reached pool m depth levels base p0 (record { part = message_part k v; number = f.number; slot = slot.List f.number; group = group; scope = scope } ∷ parents) (message_part j.0 empty) inner u
  opens_listed f j p group found is at fitted inner u opens = by_level s.inner s.deep s.held s.worth
    where
      parent : Parent
      parent = record { part = message_part k v; number = f.number; slot = slot.List f.number; group = group; scope = scope }

      level : scope.depth_left ≡ suc inner.depth_left
      level = opens.level

      by_level : (inside_levels : ℕ) → scope.depth_left < inside_levels → Held pool m depth levels base p0 parents (message_part k v) s.open_now scope.depth_left inside_levels s.path s.begin s.earlier → v ≡ value_within pool inside_levels k (s.earlier ++ s.records_so_far)
          → Reached pool m depth levels base p0 (parent ∷ parents) (message_part j.0 empty) inner u
      by_level zero h held w = absurd (omega (arith, h))
      by_level (suc i) h held w = record {
        open_now = opens.what;
        inner = i;
        path = s.path ++ step f.number s.records_so_far ∷ [];
        begin = u;
        earlier = [];
        records_so_far = [];
        held = inside held s.so_far opens.begun s.form can h completes refl s.counted s.ends (subst (λ (z : Message). (j.0 < length pool.messages) × IsBody pool j.0 z × (message_depth z < i)) (sym (value_of_nothing pool i j.0)) (message_in_pool pool k f j ok found is, (tt, tt, tt, tt), omega (arith, h, level))) (tt, opens.typed);
        form = opens.of_type;
        deep = omega (arith, h, level);
        so_far = so_far_nothing u;
        counted = counts_of_none inner.counts opens.none;
        ends = opens.ends;
        bytes = s.bytes;
        worth = sym (value_of_nothing pool i j.0);
      }
        where
          rs : List Record
          rs = s.earlier ++ s.records_so_far

          can : (k < length pool.messages) × HasOneMemberEach (message_fields pool k) (fields_of v)
          can = (in_pool, subst (λ (y : Message). HasOneMemberEach (message_fields pool k) (fields_of y)) (sym w) (value_members pool i k rs differ))

          completes : Completes pool (suc i) i parent rs (message_part j.0 empty) []
          completes pl (message_part o x) type form worth =
              let made : x ≡ value_within pool i j.0 (records_inside pl) = worth ∙ ap (λ (z : ℕ). value_within pool i z (records_inside pl)) (sym form) in
              ap (λ (y : Message). with_fields y (push_at f.number (message x) (fields_of y))) w
              ∙ ap (λ (z : Message). with_fields (value_within pool (suc i) k rs) (push_at f.number (message z) (fields_of (value_within pool (suc i) k rs)))) made
              ∙ (let fit = fits_by_type f pl (opening_type group) type fitted in
              let counting = open_known pool (message_fields pool k) f pl found (message_open f.shape f.kind j.0 is) fit in
              sym (message_listed pool i k differ rs (record { number = f.number; payload = pl }) f found fit counting.whole counting.counting p j.0 at is))
          completes pl (entry_part a b c d) type form worth = absurd form
          completes pl (group_part us) type form worth = absurd form

  -- AN ENTRY OF A MAP
  pub opens_entry :
      (r t : Place) (below n : ℕ) (counts : ℕ → ℕ) → scope.depth_left ≡ suc below → ((i : ℕ) → counts i ≡ 0)
      → (f : FieldView) (key : Kind) → field_numbered f.number (message_fields pool k) ≡ Some f → f.shape ≡ shape.Map key → fits_type f 2 ≡ true
      → (schema_of pool).reading (in_message k) f.number ≡ message_reading (an_entry key f.kind) → HasTag q f.number 2 r → HasLength r n t
      → Reached pool m depth levels base p0 (record { part = message_part k v; number = f.number; slot = slot.Map f.number; group = false; scope = scope } ∷ parents) (entry_part key f.kind None None) (payload_scope below t n counts) (payload_at t n)
  opens_entry r t below n counts depth_left none f key found at two reading tag l = by_level s.inner s.deep s.held s.worth (message_good ok k v s)
    where
      parent : Parent
      parent = record { part = message_part k v; number = f.number; slot = slot.Map f.number; group = false; scope = scope }

      begun : Begun (schema_of pool) s.open_now scope.depth_left f.number q (records (an_entry key f.kind)) below (payload_at t n)
      begun = opened.a_message depth_left tag (subst (λ (c : Context). (schema_of pool).reading c f.number ≡ message_reading (an_entry key f.kind)) (sym s.form) reading) l refl refl

      by_level : (inner : ℕ) → scope.depth_left < inner → Held pool m depth levels base p0 parents (message_part k v) s.open_now scope.depth_left inner s.path s.begin s.earlier → v ≡ value_within pool inner k (s.earlier ++ s.records_so_far)
          → IsBody pool k v × (message_depth v < inner) → Reached pool m depth levels base p0 (parent ∷ parents) (entry_part key f.kind None None) (payload_scope below t n counts) (payload_at t n)
      by_level zero h held w good = absurd (omega (arith, h))
      by_level (suc i) h held w good = record {
        open_now = records (an_entry key f.kind);
        inner = i;
        path = s.path ++ step f.number s.records_so_far ∷ [];
        begin = payload_at t n;
        earlier = [];
        records_so_far = [];
        held = inside held s.so_far begun s.form can h completes refl s.counted s.ends (let rules = found_field pool k (λ g. g.number == f.number) f ok found in (refl, subst HasKeyKind at rules.key, rules.kind, subst (λ (z : Shape). MayBeValue z f.kind) at rules.value)) (keys_good pool k i v f key found at good.0 good.1, refl);
        form = refl;
        deep = omega (arith, h, depth_left);
        so_far = so_far_nothing (payload_at t n);
        counted = counts_of_none counts none;
        ends = (n, refl, refl);
        bytes = s.bytes;
        worth = (refl, sym (no_value (value_within pool i) f.kind));
      }
        where
          rs : List Record
          rs = s.earlier ++ s.records_so_far

          can : (k < length pool.messages) × HasOneMemberEach (message_fields pool k) (fields_of v)
          can = (in_pool, subst (λ (y : Message). HasOneMemberEach (message_fields pool k) (fields_of y)) (sym w) (value_members pool i k rs differ))

          put : Message → Scalar → Datum → Message
          put y a b = with_fields y (insert_at f.number a b (fields_of y))

          completes : Completes pool (suc i) i parent rs (entry_part key f.kind None None) []
          completes pl (entry_part key2 kind2 x d) type form worth =
              let first : unwrap_or x (default_of key2) ≡ (entry_of (value_within pool i) key f.kind (record { number = f.number; payload = pl })).0 =
              ap (λ (z : Option Scalar). unwrap_or z (default_of key2)) worth.0
              ∙ ap (λ (z : Kind). unwrap_or (last_of (all_elements z (fitting (key_field z) (records_inside pl)))) (default_of z)) (sym form.0) in
              let second : unwrap_or d (missing (λ _ _. empty) kind2) ≡ (entry_of (value_within pool i) key f.kind (record { number = f.number; payload = pl })).1 =
              ap (λ (z : Option Datum). unwrap_or z (missing (λ _ _. empty) kind2)) worth.1
              ∙ ap (λ (z : Kind). unwrap_or (one_value (value_within pool i) z (fitting (value_field z) (records_inside pl))) (missing (λ _ _. empty) z)) (sym form.1)
              ∙ ap (λ (z : Datum). unwrap_or (one_value (value_within pool i) f.kind (fitting (value_field f.kind) (records_inside pl))) z) (one_missing (λ _ _. empty) (value_within pool i) f.kind) in
              ap (λ (y : Message). with_fields y (insert_at f.number (unwrap_or x (default_of key2)) (unwrap_or d (missing (λ _ _. empty) kind2)) (fields_of y))) w
              ∙ ap (λ (z : Scalar). with_fields (value_within pool (suc i) k rs) (insert_at f.number z (unwrap_or d (missing (λ _ _. empty) kind2)) (fields_of (value_within pool (suc i) k rs)))) first
              ∙ ap (λ (z : Datum). with_fields (value_within pool (suc i) k rs) (insert_at f.number (entry_of (value_within pool i) key f.kind (record { number = f.number; payload = pl })).0 z (fields_of (value_within pool (suc i) k rs)))) second
              ∙ (let fit = fits_by_type f pl 2 type two in
              let counting = open_known pool (message_fields pool k) f pl found (map_open f.shape f.kind key at) fit in
              sym (message_entry pool i k differ rs (record { number = f.number; payload = pl }) f found fit counting.whole counting.counting key at))
          completes pl (message_part a b) type form worth = absurd form
          completes pl (group_part us) type form worth = absurd form

-- A FIELD THAT IS ABSENT can't be taken out
drop_absent : (n : ℕ) (fs : Fields) → get_field n fs ≡ None → drop_field n fs ≡ fs
drop_absent n no_fields is = refl
drop_absent n (field k h fs) is = by_place (nat_cmp n k) is (drop_absent n fs)
  where
    by_place : (z : Ordering) → match_ordering z (get_field n fs) (Some h) (get_field n fs) ≡ None → (get_field n fs ≡ None → drop_field n fs ≡ fs) → match_ordering z (field k h (drop_field n fs)) fs (field k h (drop_field n fs)) ≡ field k h fs
    by_place Less none later = ap (field k h) (later none)
    by_place Equal none later = absurd (cc)
    by_place Greater none later = ap (field k h) (later none)

pub without_absent : (n : ℕ) (v : Message) → get_field n (fields_of v) ≡ None → with_fields v (drop_field n (fields_of v)) ≡ v
without_absent n v is = ap (with_fields v) (drop_absent n (fields_of v) is) ∙ same_message v
