-- What a field holds of the records that count for it is of its shape and kind, and nests no deeper than soundness lets them.
use Rattle.std.proofs.Common.{◌≡◌, ℕ, zero, suc, ◌<◌, ◌≤◌, List, [], ◌∷◌, map, arith, refl, sym, ap, ◌∙◌, subst, Option, Some, None, IfSome, option_map}
use Rattle.std.specs.Prelude.{Bool, true, false, ◌&&◌, IsTrue, IsSomeAnd, option_and_then, if◌then◌else◌}
use Rattle.std.specs.List.{AllByRecursion}
use Rattle.pb_wire.specs.Record.{Record}
use Rattle.pb_wire.specs.Inside.{records_inside}
use Rattle.pb_schema.specs.declared.types.Kind.{Kind}
use Rattle.pb_schema.specs.declared.types.Kind.TheVariants as kind
use Rattle.pb_schema.specs.declared.types.MessageId.{MessageId}
use Rattle.pb_schema.specs.declared.types.Shape.{Shape}
use Rattle.pb_schema.specs.declared.types.Shape.TheVariants as shape
use Rattle.pb_schema.specs.Types.{Types}
use Rattle.pb_schema.specs.Scalar.{Scalar, is_default}
use Rattle.pb_schema.specs.Kinds.{IsOfKind, is_key_kind, is_of_proto2, message_of_kind, default_of}
use Rattle.pb_schema.specs.Closed.{is_declared}
use Rattle.pb_schema.specs.Fits.{fits, fitting}
use Rattle.pb_schema.specs.Rules.{HasKeyKind, MayBeValue}
use Rattle.pb_schema.specs.Context.{a_message, an_entry, key_field, value_field}
use Rattle.pb_value.specs.Data.{Datum, scalar, message, Datums, no_datums, datum, datums_of, joined_datums, Entries, no_entries, entry, Holding, one, map as map_of, Message, levels_of, levels_in_entry, datums_depth, holding_depth, message_depth}
use Rattle.pb_value.specs.Value.{last_of, all_elements, joined, unless_default, unless_no_elements, unless_no_entries, one_value, list_values, missing, entry_key, entry_value, entry_of, held_as}
use Rattle.pb_value.specs.WellFormed.{IsOfShape, datum_declared, datums_declared, holds_declared, key_of, IsDatum, AreDatums, IsHeld, IsBody}
use Rattle.pb_value.proofs.ListLemmas.{all_append, all_filter, all_map, last_of-all, some_mapped, or_default}
use Rattle.pb_value.proofs.BytesLemmas.{both}
use Rattle.pb_value.proofs.ElementLemmas.{IsOfKind-default_of}
use Rattle.pb_value.proofs.FittingLemmas.{IsGood, AllGood, CountsFor, AllCount, all_count, all_elements-AreOfKind, inside_message, inside_entry, inside_map}
use Rattle.pb_value.proofs.EntryLemmas.{IsEntry, IsMap-fold, HasEntry, HasEntry-fold}

pub AreDatums-joined : (pool : Types) (k : Kind) (ds es : Datums) → AreDatums pool k ds → AreDatums pool k es → AreDatums pool k (joined_datums ds es)
AreDatums-joined pool k no_datums es a b = b
AreDatums-joined pool k (datum d ds) es a b = (a.0, AreDatums-joined pool k ds es a.1 b)

pub datums_declared-joined : (pool : Types) (k : Kind) (ds es : Datums) → datums_declared pool k ds ≡ true → datums_declared pool k es ≡ true → datums_declared pool k (joined_datums ds es) ≡ true
datums_declared-joined pool k no_datums es a b = b
datums_declared-joined pool k (datum d ds) es a b =
    let each = both (datum_declared pool k d) (datums_declared pool k ds) a in
    ap (λ (t : Bool). t && datums_declared pool k (joined_datums ds es)) each.0 ∙ datums_declared-joined pool k ds es each.1 b

pub datums_depth-joined : (ds es : Datums) (top : ℕ) → datums_depth ds ≤ top → datums_depth es ≤ top → datums_depth (joined_datums ds es) ≤ top
datums_depth-joined no_datums es top a b = b
datums_depth-joined (datum d ds) es top a b = let more = datums_depth-joined ds es top (omega (arith, a)) b in omega (arith, a, more)

pub map_shaped : (key : Kind) (es : Entries) → HasEntry es → IsOfShape (shape.Map key) (map_of es)
map_shaped key no_entries h = absurd h
map_shaped key (entry x d es) h = tt

-- of a closed enum each value is declared
abbrev pub AllDeclared : Types → Kind → List Scalar → Type 0
AllDeclared pool k xs = AllByRecursion (λ x. is_declared pool k x ≡ true) xs

-- a value of a kind, declared where the kind is a closed enum
abbrev IsFine : Types → Kind → Scalar → Type 0
IsFine pool k x = IsOfKind k x × (is_declared pool k x ≡ true)

all_fine : (pool : Types) (k : Kind) (xs : List Scalar) → AllByRecursion (IsOfKind k) xs → AllDeclared pool k xs → AllByRecursion (IsFine pool k) xs
all_fine pool k [] h w = tt
all_fine pool k (x ∷ xs) h w = ((h.0, w.0), all_fine pool k xs h.1 w.1)

-- a value of a kind that nests this deep
pub record IsValue (pool : Types) (k : Kind) (top : ℕ) (d : Datum) : Type 0 where
  pub datum : IsDatum pool k d
  pub declared : datum_declared pool k d ≡ true
  pub depth : levels_of d ≤ top

-- what a field may hold, this deep
pub record IsStored (pool : Types) (s : Shape) (k : Kind) (top : ℕ) (h : Holding) : Type 0 where
  pub shaped : IsOfShape s h
  pub held : IsHeld pool s k h
  pub declared : holds_declared pool k h ≡ true
  pub depth : holding_depth h ≤ top

module _ (pool : Types) where
  scalar_value : (k : Kind) (top : ℕ) (x : Scalar) → IsOfKind k x × (is_declared pool k x ≡ true) → IsValue pool k top (scalar x)
  scalar_value k top x h = record { datum = h.0; declared = h.1; depth = omega arith }

  AreDatums-datums_of : (k : Kind) (top : ℕ) (ds : List Datum) → AllByRecursion (IsValue pool k top) ds → AreDatums pool k (datums_of ds)
  AreDatums-datums_of k top [] h = tt
  AreDatums-datums_of k top (d ∷ ds) h = (h.0.datum, AreDatums-datums_of k top ds h.1)

  datums_declared-datums_of : (k : Kind) (top : ℕ) (ds : List Datum) → AllByRecursion (IsValue pool k top) ds → datums_declared pool k (datums_of ds) ≡ true
  datums_declared-datums_of k top [] h = refl
  datums_declared-datums_of k top (d ∷ ds) h = ap (λ (b : Bool). b && datums_declared pool k (datums_of ds)) h.0.declared ∙ datums_declared-datums_of k top ds h.1

  datums_depth-datums_of : (k : Kind) (top : ℕ) (ds : List Datum) → AllByRecursion (IsValue pool k top) ds → datums_depth (datums_of ds) ≤ top
  datums_depth-datums_of k top [] h = omega arith
  datums_depth-datums_of k top (d ∷ ds) h = let here = h.0.depth in let more = datums_depth-datums_of k top ds h.1 in omega (arith, here, more)

  -- WHAT IS NOT KEPT

  kept_unless_default : (k : Kind) (top : ℕ) (d : Datum) → IsValue pool k top d → IfSome (unless_default d) (IsStored pool shape.Implicit k top)
  kept_unless_default k top (message m) h = record { shaped = refl; held = h.datum; declared = h.declared; depth = h.depth }
  kept_unless_default k top (scalar x) h = by_test (is_default x) refl
    where
      by_test : (b : Bool) → is_default x ≡ b → IfSome (if b then None else Some (one (scalar x))) (IsStored pool shape.Implicit k top)
      by_test true e = tt
      by_test false e = record { shaped = e; held = h.datum; declared = h.declared; depth = h.depth }

  kept_unless_empty : (packed : Bool) (k : Kind) (top : ℕ) (ds : List Datum) → AllByRecursion (IsValue pool k top) ds → IfSome (unless_no_elements ds) (IsStored pool (shape.List packed) k top)
  kept_unless_empty packed k top [] h = tt
  kept_unless_empty packed k top (d ∷ ds) h = record { shaped = tt; held = AreDatums-datums_of k top (d ∷ ds) h; declared = datums_declared-datums_of k top (d ∷ ds) h; depth = datums_depth-datums_of k top (d ∷ ds) h }

  kept_unless_no_entries : (key k : Kind) (top : ℕ) (xs : List (Scalar × Datum)) → AllByRecursion (IsEntry pool key k top) xs → IfSome (unless_no_entries xs) (IsStored pool (shape.Map key) k top)
  kept_unless_no_entries key k top [] h = tt
  kept_unless_no_entries key k top (x ∷ xs) h =
      let whole = IsMap-fold pool key k top (x ∷ xs) no_entries h (record { entries = tt; rises = tt; depth = omega arith }) in
      record {
        shaped = map_shaped key _ (HasEntry-fold xs (entry x.0 x.1 no_entries) tt);
        held = (whole.entries, whole.rises);
        declared = refl;
        depth = whole.depth;
      }

-- The values of records, where the values of records inside are well formed and as deep as soundness lets them be.
module _ (pool : Types) (value : ℕ → List Record → Message) (levels : ℕ)
    (inside : (m depth_left : ℕ) (rs : List Record) → depth_left < levels → AllGood pool (a_message m) depth_left rs → IsBody pool m (value m rs) × (message_depth (value m rs) ≤ depth_left)) where
  -- ONE VALUE

  pub joined-good : (t below : ℕ) (s : Shape) (k : Kind) (m : ℕ) (rs : List Record) → message_of_kind k ≡ Some m → key_of s ≡ None → AllCount pool (a_message t) (suc below) s k rs → AllGood pool (a_message m) below (joined rs)
  joined-good t below s k m [] e none h = tt
  joined-good t below s k m (r ∷ rs) e none h =
      let here = inside_message pool t (suc below) s k m r e none h.0 in
      let same : here.0 ≡ below = cc in
      all_append (IsGood pool (a_message m) below) (records_inside r.payload) (joined rs)
      (subst (λ (n : ℕ). AllGood pool (a_message m) n (records_inside r.payload)) same here.2) (joined-good t below s k m rs e none h.1)

  message_value : (k : Kind) (m : ℕ) (below : ℕ) (rs : List Record) → message_of_kind k ≡ Some m → below < levels → AllGood pool (a_message m) below rs → IsValue pool k (suc below) (message (value m rs))
  message_value k m below rs e l h =
      let w = inside m below rs l h in record { datum = subst (λ (o : Option ℕ). IsSomeAnd o (λ n. IsBody pool n (value m rs))) (sym e) w.0; declared = refl; depth = omega (arith, w.1) }

  one_value-message :
      (t depth_left : ℕ) (s : Shape) (k : Kind) (rs : List Record) → depth_left ≤ levels → key_of s ≡ None → AllCount pool (a_message t) depth_left s k rs → AllDeclared pool k (all_elements k rs)
      → IfSome (one_value value k rs) (IsValue pool k depth_left)
  one_value-message t depth_left s (kind.Message m) [] l none h declared = tt
  one_value-message t zero s (kind.Message m) (r ∷ rs) l none h declared = absurd (let e = (inside_message pool t zero s (kind.Message m) m.0 r refl none h.0).1 in omega (arith, e))
  one_value-message t (suc below) s (kind.Message m) (r ∷ rs) l none h declared =
      message_value (kind.Message m) m.0 below (joined (r ∷ rs)) refl (omega (arith, l)) (joined-good t below s (kind.Message m) m.0 (r ∷ rs) refl none h)
  one_value-message t depth_left s (kind.Group m) [] l none h declared = tt
  one_value-message t zero s (kind.Group m) (r ∷ rs) l none h declared = absurd (let e = (inside_message pool t zero s (kind.Group m) m.0 r refl none h.0).1 in omega (arith, e))
  one_value-message t (suc below) s (kind.Group m) (r ∷ rs) l none h declared =
      message_value (kind.Group m) m.0 below (joined (r ∷ rs)) refl (omega (arith, l)) (joined-good t below s (kind.Group m) m.0 (r ∷ rs) refl none h)
  one_value-message t depth_left s k rs l none h declared =
      some_mapped (IsFine pool k) (IsValue pool k depth_left) scalar (λ x w. scalar_value pool k depth_left x w) (last_of (all_elements k rs))
      (last_of-all (IsFine pool k) (all_elements k rs) (all_fine pool k (all_elements k rs) (all_elements-AreOfKind pool (a_message t) depth_left s k rs none h) declared))

  -- LISTS

  listed_message :
      (t depth_left : ℕ) (s : Shape) (k : Kind) (m : ℕ) (r : Record) → message_of_kind k ≡ Some m → depth_left ≤ levels → key_of s ≡ None → CountsFor pool (a_message t) depth_left s k r
      → IsValue pool k depth_left (message (value m (records_inside r.payload)))
  listed_message t depth_left s k m r e l none h =
      let here = inside_message pool t depth_left s k m r e none h in
      subst (λ (n : ℕ). IsValue pool k n (message (value m (records_inside r.payload)))) (sym here.1)
      (message_value k m here.0 (records_inside r.payload) e (omega (arith, l, here.1)) here.2)

  list_values-message :
      (t depth_left : ℕ) (s : Shape) (k : Kind) (rs : List Record) → depth_left ≤ levels → key_of s ≡ None → AllCount pool (a_message t) depth_left s k rs → AllDeclared pool k (all_elements k rs)
      → AllByRecursion (IsValue pool k depth_left) (list_values value k rs)
  list_values-message t depth_left s (kind.Message m) rs l none h declared =
      all_map (CountsFor pool (a_message t) depth_left s (kind.Message m)) (IsValue pool (kind.Message m) depth_left) (λ r. message (value m.0 (records_inside r.payload)))
      (λ r w. listed_message t depth_left s (kind.Message m) m.0 r refl l none w) rs h
  list_values-message t depth_left s (kind.Group m) rs l none h declared =
      all_map (CountsFor pool (a_message t) depth_left s (kind.Group m)) (IsValue pool (kind.Group m) depth_left) (λ r. message (value m.0 (records_inside r.payload)))
      (λ r w. listed_message t depth_left s (kind.Group m) m.0 r refl l none w) rs h
  list_values-message t depth_left s k rs l none h declared =
      all_map (IsFine pool k) (IsValue pool k depth_left) scalar (λ x w. scalar_value pool k depth_left x w) (all_elements k rs)
      (all_fine pool k (all_elements k rs) (all_elements-AreOfKind pool (a_message t) depth_left s k rs none h) declared)

  -- MAPS

  -- a value of an entry that nests this deep
  record IsEntryValue (k : Kind) (top : ℕ) (d : Datum) : Type 0 where
    datum : IsDatum pool k d
    depth : levels_in_entry d ≤ top

  pub joined-good_entry :
      (key value_kind : Kind) (depth_left : ℕ) (s : Shape) (m : MessageId) (rs : List Record) → key_of s ≡ None → AllCount pool (an_entry key value_kind) depth_left s (kind.Message m) rs
      → AllGood pool (a_message m.0) depth_left (joined rs)
  joined-good_entry key value_kind depth_left s m [] none h = tt
  joined-good_entry key value_kind depth_left s m (r ∷ rs) none h =
      all_append (IsGood pool (a_message m.0) depth_left) (records_inside r.payload) (joined rs) (inside_entry pool key value_kind depth_left s m r none h.0)
      (joined-good_entry key value_kind depth_left s m rs none h.1)

  one_value-entry :
      (key value_kind : Kind) (depth_left : ℕ) (s : Shape) (k : Kind) (rs : List Record) → depth_left < levels → is_of_proto2 k ≡ false → key_of s ≡ None → AllCount pool (an_entry key value_kind) depth_left s k rs
      → IfSome (one_value value k rs) (IsEntryValue k depth_left)
  one_value-entry key value_kind depth_left s (kind.Group m) rs l may none h = absurd (cc)
  one_value-entry key value_kind depth_left s (kind.Message m) [] l may none h = tt
  one_value-entry key value_kind depth_left s (kind.Message m) (r ∷ rs) l may none h =
      let w = inside m.0 depth_left (joined (r ∷ rs)) l (joined-good_entry key value_kind depth_left s m (r ∷ rs) none h) in record { datum = w.0; depth = w.1 }
  one_value-entry key value_kind depth_left s k rs l may none h =
      some_mapped (IsOfKind k) (IsEntryValue k depth_left) scalar (λ x w. record { datum = w; depth = omega arith }) (last_of (all_elements k rs))
      (last_of-all (IsOfKind k) (all_elements k rs) (all_elements-AreOfKind pool (an_entry key value_kind) depth_left s k rs none h))

  missing-good : (k : Kind) (depth_left : ℕ) → IsEntryValue k depth_left (missing value k)
  missing-good (kind.Message m) depth_left = record { datum = (tt, tt, tt, tt); depth = omega arith }
  missing-good (kind.Group m) depth_left = record { datum = (tt, tt, tt, tt); depth = omega arith }
  missing-good k depth_left = record { datum = IsOfKind-default_of k refl; depth = omega arith }

  key_is_scalar : (key : Kind) → IsTrue (is_key_kind key) → message_of_kind key ≡ None
  key_is_scalar (kind.Message m) h = absurd (cc)
  key_is_scalar (kind.Group m) h = absurd (cc)
  key_is_scalar key h = refl

  pub entry-good : (key k : Kind) (below : ℕ) (rs : List Record) → below < levels → IsTrue (is_key_kind key) → is_of_proto2 k ≡ false → AllGood pool (an_entry key k) below rs
      → IsEntry pool key k (suc below) (entry_key value key rs, entry_value value k rs)
  entry-good key k below rs l can may h =
      let keys : AllCount pool (an_entry key k) below shape.Explicit key (fitting (key_field key) rs) =
      all_count pool (an_entry key k) below (key_field key) refl (fitting (key_field key) rs) (all_filter (IsGood pool (an_entry key k) below) (fits (key_field key)) rs h) in
      let values : AllCount pool (an_entry key k) below shape.Explicit k (fitting (value_field k) rs) =
      all_count pool (an_entry key k) below (value_field k) refl (fitting (value_field k) rs) (all_filter (IsGood pool (an_entry key k) below) (fits (value_field k)) rs h) in
      let second : IsEntryValue k below (entry_value value k rs) =
      or_default (IsEntryValue k below) (one_value value k (fitting (value_field k) rs)) (missing value k) (one_value-entry key k below shape.Explicit k (fitting (value_field k) rs) l may refl values)
      (missing-good k below) in
      record {
        first = or_default (IsOfKind key) (last_of (all_elements key (fitting (key_field key) rs))) (default_of key)
            (last_of-all (IsOfKind key) (all_elements key (fitting (key_field key) rs)) (all_elements-AreOfKind pool (an_entry key k) below shape.Explicit key (fitting (key_field key) rs) refl keys))
            (IsOfKind-default_of key (key_is_scalar key can));
        second = second.datum;
        depth = omega (arith, second.depth);
      }

  pub entries-good :
      (t depth_left : ℕ) (key k : Kind) (rs : List Record) → depth_left ≤ levels → IsTrue (is_key_kind key) → is_of_proto2 k ≡ false → AllCount pool (a_message t) depth_left (shape.Map key) k rs
      → AllByRecursion (IsEntry pool key k depth_left) (map (entry_of value key k) rs)
  entries-good t depth_left key k rs l can may h =
      all_map (CountsFor pool (a_message t) depth_left (shape.Map key) k) (IsEntry pool key k depth_left) (entry_of value key k)
      (λ r w. let here = inside_map pool t depth_left key k r w in
      subst (λ (n : ℕ). IsEntry pool key k n (entry_of value key k r)) (sym here.1) (entry-good key k here.0 (records_inside r.payload) (omega (arith, l, here.1)) can may here.2)) rs h

  -- ALL SHAPES

  one-stored : (s : Shape) (k : Kind) (top : ℕ) → ((d : Datum) → IsOfShape s (one d)) → (o : Option Datum) → IfSome o (IsValue pool k top) → IfSome (option_map one o) (IsStored pool s k top)
  one-stored s k top shaped o h = some_mapped (IsValue pool k top) (IsStored pool s k top) one (λ d w. record { shaped = shaped d; held = w.datum; declared = w.declared; depth = w.depth }) o h

  kept : (k : Kind) (top : ℕ) (o : Option Datum) → IfSome o (IsValue pool k top) → IfSome (option_and_then unless_default o) (IsStored pool shape.Implicit k top)
  kept k top None h = tt
  kept k top (Some d) h = kept_unless_default pool k top d h

  -- what a field holds
  pub held-stored :
      (t depth_left : ℕ) (s : Shape) (k : Kind) (rs : List Record) → depth_left ≤ levels → HasKeyKind s → MayBeValue s k → AllCount pool (a_message t) depth_left s k rs → AllDeclared pool k (all_elements k rs)
      → IfSome (held_as value s k rs) (IsStored pool s k depth_left)
  held-stored t depth_left shape.Implicit k rs l can may h declared = kept k depth_left (one_value value k rs) (one_value-message t depth_left shape.Implicit k rs l refl h declared)
  held-stored t depth_left shape.Explicit k rs l can may h declared = one-stored shape.Explicit k depth_left (λ d. tt) (one_value value k rs) (one_value-message t depth_left shape.Explicit k rs l refl h declared)
  held-stored t depth_left (shape.OneofMember o) k rs l can may h declared =
      one-stored (shape.OneofMember o) k depth_left (λ d. tt) (one_value value k rs) (one_value-message t depth_left (shape.OneofMember o) k rs l refl h declared)
  held-stored t depth_left (shape.List p) k rs l can may h declared =
      kept_unless_empty pool p k depth_left (list_values value k rs) (list_values-message t depth_left (shape.List p) k rs l refl h declared)
  held-stored t depth_left (shape.Map key) k rs l can may h declared =
      kept_unless_no_entries pool key k depth_left (map (entry_of value key k) rs) (entries-good t depth_left key k rs l can may h)
