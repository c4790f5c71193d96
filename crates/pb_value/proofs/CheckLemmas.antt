-- How the loops that judge bodies begin, go on and end.
use Rattle.std.proofs.Common.{◌≡◌, ℕ, ◌<◌, List, [], ◌∷◌, arith, sym, ap, ◌∙◌, subst, Option, Some, None, nat_cmp}
use Rattle.std.proofs.lemmas.Bool.Decides.{nat_tests}
use Rattle.std.specs.Prelude.{Bool, true, false, not, ◌&&◌, nat_lt, ◌^◌}
use Rattle.std.specs.List.{list_any}
use Rattle.std.specs.List.Sorted.{IsStrictlySortedBy}
use Rattle.std.specs.Map.{keys_of}
use Rattle.std.specs.BTreeMap.{is_at}
use Rattle.std.specs.BTreeSet.{BTreeSet, contains}
use Rattle.pb_wire.specs.Record.{Payload, varint, fixed64, len, group, fixed32, Group, no_more, more, wire_type}
use Rattle.pb_wire.specs.Ranges.{IsNumber, IsInRange}
use Rattle.pb_wire.specs.Inside.{IsNumbered, IsNumberedGroup}
use Rattle.pb_schema.specs.declared.types.Kind.{Kind}
use Rattle.pb_schema.specs.Types.{FieldView, Types, message_fields, field_numbered}
use Rattle.pb_schema.specs.Fits.{fits_type}
use Rattle.pb_schema.specs.Closed.{closed_of, is_undeclared, counts}
use Rattle.pb_schema.specs.Rules.{IsPool}
use Rattle.pb_value.specs.Canon.{record_of}
use Rattle.pb_value.specs.Cause.{or_else, unless, is_number, is_numbered, is_numbered_group, record_cause, stored_cause, with_member, is_second, held_cause, entries_cause, fields_cause}
use Rattle.pb_value.specs.WellFormed.{IsUnknown, IsOfShape, IsHeld, holds_declared, AreEntries, KeysRise, AreFields, RisesFrom, HasOneMemberEach}
use Rattle.pb_value.specs.View.{content_view, entries_view, fields_view}
use Rattle.pb_value.specs.KeyOrder.{map_key_cmp}
use Rattle.pb_value.specs.declared.body.MapKey.{MapKey}
use Rattle.pb_value.specs.declared.body.Value.{Value}
use Rattle.pb_value.specs.declared.body.Content.{Content}
use Rattle.pb_value.specs.declared.error.ValueError.TheVariants.{KnownAsUnknown, NoSuchField}
use Rattle.pb_value.proofs.JudgeLemmas.{GoodFrom, GoodFrom-none, OneFrom-each, one_more, fits_any-found, fits_any-none}
use Rattle.pb_value.proofs.OrderLemmas.{KeysRise-sorted, RisesFrom-sorted}
use Rattle.pb_value.proofs.BytesLemmas.{both}

IsNumber-tested : (k : ℕ) → is_number k ≡ true → IsNumber k
IsNumber-tested k e = let p = both (nat_lt 0 k) (nat_lt k (2 ^ 29)) e in (low k p.0, high k p.1)
  where
    low : (n : ℕ) → nat_lt 0 n ≡ true → 0 < n
    low n f = grind (arith, nat_tests)

    high : (n : ℕ) → nat_lt n (2 ^ 29) ≡ true → n < 2 ^ 29
    high n f = grind (arith, nat_tests)

mutual
  IsNumbered-tested : (p : Payload) → is_numbered p ≡ true → IsNumbered p
  IsNumbered-tested (varint n) e = tt
  IsNumbered-tested (fixed64 n) e = tt
  IsNumbered-tested (len s) e = tt
  IsNumbered-tested (group g) e = group-tested g e
  IsNumbered-tested (fixed32 n) e = tt

  group-tested : (g : Group) → is_numbered_group g ≡ true → IsNumberedGroup g
  group-tested no_more e = tt
  group-tested (more k p g) e =
      let a = both (is_number k && is_numbered p) (is_numbered_group g) e in
      let b = both (is_number k) (is_numbered p) a.0 in
      (IsNumber-tested k b.0, IsNumbered-tested p b.1, group-tested g a.1)

-- what the cause of a record is, once its numbers are those of the wire
cause_of : (pool : Types) (fs : List FieldView) (n : ℕ) (p : Payload) (known : Bool) → is_number n ≡ true → is_numbered p ≡ true → counts pool fs (record_of n p) ≡ known
    → record_cause pool fs (record_of n p) ≡ unless (not known) KnownAsUnknown
cause_of pool fs n p known a b e =
    ap (λ (x : Bool). or_else (unless (x && is_numbered p) NoSuchField) (unless (not (counts pool fs (record_of n p))) KnownAsUnknown)) a
    ∙ ap (λ (x : Bool). or_else (unless x NoSuchField) (unless (not (counts pool fs (record_of n p))) KnownAsUnknown)) b
    ∙ ap (λ (x : Bool). unless (not x) KnownAsUnknown) e

unknown_of : (pool : Types) (fs : List FieldView) (n : ℕ) (p : Payload) → is_number n ≡ true → is_numbered p ≡ true → IsInRange p → counts pool fs (record_of n p) ≡ false
    → (record_cause pool fs (record_of n p) ≡ None) × IsUnknown pool fs (record_of n p)
unknown_of pool fs n p a b range e = (cause_of pool fs n p false a b e, (IsNumber-tested n a, range, IsNumbered-tested p b, e))

-- whether a record counts that has the number of a field
counts_found :
    (pool : Types) (m n : ℕ) (p : Payload) (f : FieldView) (known : Bool) → IsPool pool → field_numbered n (message_fields pool m) ≡ Some f
    → (fits_type f (wire_type p) && not (is_undeclared pool (closed_of (Some f)) p)) ≡ known → counts pool (message_fields pool m) (record_of n p) ≡ known
counts_found pool m n p f known rules found e =
    ap (λ (x : Bool). x && not (is_undeclared pool (closed_of (field_numbered n (message_fields pool m))) p)) (fits_any-found pool m (record_of n p) f rules found)
    ∙ ap (λ (o : Option FieldView). fits_type f (wire_type p) && not (is_undeclared pool (closed_of o) p)) found ∙ e

-- a record that fits a field, and is of no closed enum or has a declared number
pub record_known :
    (pool : Types) (m n : ℕ) (p : Payload) (f : FieldView) → IsPool pool → is_number n ≡ true → is_numbered p ≡ true
    → field_numbered n (message_fields pool m) ≡ Some f → (fits_type f (wire_type p) && not (is_undeclared pool (closed_of (Some f)) p)) ≡ true
    → record_cause pool (message_fields pool m) (record_of n p) ≡ Some KnownAsUnknown
record_known pool m n p f rules a b found e = cause_of pool (message_fields pool m) n p true a b (counts_found pool m n p f true rules found e)

-- a record of a field's number that doesn't fit it, or is a number that its closed enum doesn't declare
pub record_unfit :
    (pool : Types) (m n : ℕ) (p : Payload) (f : FieldView) → IsPool pool → is_number n ≡ true → is_numbered p ≡ true → IsInRange p
    → field_numbered n (message_fields pool m) ≡ Some f → (fits_type f (wire_type p) && not (is_undeclared pool (closed_of (Some f)) p)) ≡ false
    → (record_cause pool (message_fields pool m) (record_of n p) ≡ None) × IsUnknown pool (message_fields pool m) (record_of n p)
record_unfit pool m n p f rules a b range found e = unknown_of pool (message_fields pool m) n p a b range (counts_found pool m n p f false rules found e)

-- a record of another number
pub record_other :
    (pool : Types) (m n : ℕ) (p : Payload) → IsPool pool → is_number n ≡ true → is_numbered p ≡ true → IsInRange p
    → field_numbered n (message_fields pool m) ≡ None
    → (record_cause pool (message_fields pool m) (record_of n p) ≡ None) × IsUnknown pool (message_fields pool m) (record_of n p)
record_other pool m n p rules a b range none =
    unknown_of pool (message_fields pool m) n p a b range
    (ap (λ (x : Bool). x && not (is_undeclared pool (closed_of (field_numbered n (message_fields pool m))) p)) (fits_any-none pool m (record_of n p) rules none))

pub entries_done :
    (pool : Types) (key k : Kind) (whole rest : List (MapKey × Value)) → rest ≡ []
    → entries_cause pool key k (entries_view whole) ≡ entries_cause pool key k (entries_view rest)
    → (AreEntries pool key k (entries_view rest) → AreEntries pool key k (entries_view whole)) → IsStrictlySortedBy map_key_cmp (keys_of whole)
    → (entries_cause pool key k (entries_view whole) ≡ None) × (AreEntries pool key k (entries_view whole) × KeysRise (entries_view whole))
entries_done pool key k whole rest e cause good sorted =
    let all : AreEntries pool key k (entries_view whole) = good (subst (λ (x : List (MapKey × Value)). AreEntries pool key k (entries_view x)) (sym e) tt) in
    (cause ∙ ap (λ (x : List (MapKey × Value)). entries_cause pool key k (entries_view x)) e, (all, KeysRise-sorted pool key k whole all sorted))

pub fields_begin :
    (pool : Types) (all : List FieldView) (s : BTreeSet ℕ) (whole rest : List (ℕ × Content)) → s.keys ≡ [] → rest ≡ whole
    → (fields_cause pool all (λ o. false) (fields_view whole) ≡ fields_cause pool all (λ o. contains nat_cmp s o) (fields_view rest))
    × (GoodFrom pool all (λ o. contains nat_cmp s o) (fields_view rest) → GoodFrom pool all (λ o. false) (fields_view whole))
fields_begin pool all s whole rest none same =
    let seen : (λ (o : ℕ). contains nat_cmp s o) ≡ (λ (o : ℕ). false) = λ i o. list_any (is_at (nat_cmp o)) (none i) in (
      ap (λ (x : ℕ → Bool). fields_cause pool all x (fields_view whole)) (sym seen)
          ∙ ap (λ (x : List (ℕ × Content)). fields_cause pool all (λ o. contains nat_cmp s o) (fields_view x)) (sym same),
      λ (g : GoodFrom pool all (λ o. contains nat_cmp s o) (fields_view rest)).
          subst (λ (x : ℕ → Bool). GoodFrom pool all x (fields_view whole)) seen
          (subst (λ (x : List (ℕ × Content)). GoodFrom pool all (λ o. contains nat_cmp s o) (fields_view x)) same g),
    )

pub fields_go_on :
    (pool : Types) (all : List FieldView) (s t : BTreeSet ℕ) (whole before after : List (ℕ × Content)) (n : ℕ) (c : Content) (f : FieldView)
    → before ≡ (n, c) ∷ after → field_numbered n all ≡ Some f
    → (stored_cause (λ o. contains nat_cmp s o) f.shape f.kind (content_view c) ≡ None) × (IsOfShape f.shape (content_view c) × (is_second f.shape (λ o. contains nat_cmp s o) ≡ false))
    → (held_cause pool f.shape f.kind (content_view c) ≡ None) × (IsHeld pool f.shape f.kind (content_view c) × (holds_declared pool f.kind (content_view c) ≡ true))
    → ((o : ℕ) → contains nat_cmp t o ≡ with_member f.shape (λ q. contains nat_cmp s q) o)
    → fields_cause pool all (λ o. false) (fields_view whole) ≡ fields_cause pool all (λ o. contains nat_cmp s o) (fields_view before)
    → (GoodFrom pool all (λ o. contains nat_cmp s o) (fields_view before) → GoodFrom pool all (λ o. false) (fields_view whole))
    → (fields_cause pool all (λ o. false) (fields_view whole) ≡ fields_cause pool all (λ o. contains nat_cmp t o) (fields_view after))
    × (GoodFrom pool all (λ o. contains nat_cmp t o) (fields_view after) → GoodFrom pool all (λ o. false) (fields_view whole))
fields_go_on pool all s t whole before after n c f split found stored parts added cause good =
    let one = one_more pool all (λ o. contains nat_cmp s o) (λ o. contains nat_cmp t o) n (content_view c) (fields_view after) f found stored.0 stored.1.0 stored.1.1 parts.0 parts.1.0 parts.1.1 added in (
      cause ∙ ap (λ (x : List (ℕ × Content)). fields_cause pool all (λ o. contains nat_cmp s o) (fields_view x)) split ∙ one.0,
      λ (g : GoodFrom pool all (λ o. contains nat_cmp t o) (fields_view after)).
          good (subst (λ (x : List (ℕ × Content)). GoodFrom pool all (λ o. contains nat_cmp s o) (fields_view x)) (sym split) (one.1 g)),
    )

pub fields_done :
    (pool : Types) (all : List FieldView) (s : BTreeSet ℕ) (whole rest : List (ℕ × Content)) → rest ≡ []
    → fields_cause pool all (λ o. false) (fields_view whole) ≡ fields_cause pool all (λ o. contains nat_cmp s o) (fields_view rest)
    → (GoodFrom pool all (λ o. contains nat_cmp s o) (fields_view rest) → GoodFrom pool all (λ o. false) (fields_view whole))
    → IsStrictlySortedBy nat_cmp (keys_of whole)
    → (fields_cause pool all (λ o. false) (fields_view whole) ≡ None)
    × (AreFields pool all (fields_view whole) × RisesFrom 0 (fields_view whole) × HasOneMemberEach all (fields_view whole))
fields_done pool all s whole rest e cause good sorted =
    let g = good (subst (λ (x : List (ℕ × Content)). GoodFrom pool all (λ o. contains nat_cmp s o) (fields_view x)) (sym e) (GoodFrom-none pool all (λ o. contains nat_cmp s o))) in (
      cause ∙ ap (λ (x : List (ℕ × Content)). fields_cause pool all (λ o. contains nat_cmp s o) (fields_view x)) e,
      (g.fields, RisesFrom-sorted whole sorted, OneFrom-each all (λ o. false) (fields_view whole) g.members),
    )
