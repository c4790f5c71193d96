-- What the causes of refusals say when there is none, and how the loops of judging go on.
use Rattle.std.proofs.Common.{◌≡◌, ◌≢◌, ℕ, zero, suc, List, [], ◌∷◌, length, arith, refl, sym, ap, ◌∙◌, subst, Option, Some, None, Bor, option_map}
use Rattle.std.proofs.lemmas.Bool.Decides.{nat_tests, eqb_tells}
use Rattle.std.specs.Prelude.{Bool, true, false, ◌||◌, ◌==◌, ◌⊎◌, if◌then◌else◌, IfSome, option_and_then, map}
use Rattle.std.proofs.Common.{inl, inr}
use Rattle.std.specs.List.{AllByRecursion}
use Rattle.pb_wire.specs.Record.{Record, wire_type}
use Rattle.pb_schema.specs.declared.types.Shape.{Shape}
use Rattle.pb_schema.specs.declared.types.Shape.TheVariants as shape
use Rattle.pb_schema.specs.Types.{FieldView, MessageView, Types, message_fields, field_numbered}
use Rattle.pb_schema.specs.declared.types.Field.{Field}
use Rattle.pb_schema.specs.View.{field_view}
use Rattle.pb_schema.specs.Names.{AllDiffer}
use Rattle.pb_schema.specs.Rules.{IsPool, NamesType}
use Rattle.pb_schema.specs.Fits.{fits_any, fits_type}
use Rattle.pb_value.specs.Data.{no_datums, datum, no_entries, entry, Holding, one, list, map as map_of, Fields, no_fields, field}
use Rattle.pb_value.specs.Judge.{has_shape, is_absence}
use Rattle.pb_value.specs.Cause.{or_else, at_field, shape_at, stored_cause, with_member, is_second, held_cause, fields_cause}
use Rattle.pb_value.specs.WellFormed.{IsOfShape, IsHeld, holds_declared, AreFields, HasNoMember, HasOneMemberEach, oneof_of, oneof_at}
use Rattle.pb_value.specs.declared.error.ValueError.{ValueError}
use Rattle.pb_value.specs.declared.error.ValueError.TheVariants.{NoSuchField}
use Rattle.pb_value.proofs.Options.{if_some}
use Rattle.pb_value.proofs.Numbers.{self_equal, not_equal}

-- a content of the shape that no absent field has
pub IsOfShape-stored : (s : Shape) (h : Holding) → has_shape s h ≡ true → is_absence s h ≡ false → IsOfShape s h
IsOfShape-stored shape.Implicit (one d) a b = b
IsOfShape-stored shape.Explicit (one d) a b = tt
IsOfShape-stored (shape.OneofMember o) (one d) a b = tt
IsOfShape-stored (shape.List p) (list no_datums) a b = absurd (cc)
IsOfShape-stored (shape.List p) (list (datum d ds)) a b = tt
IsOfShape-stored (shape.Map k) (map_of no_entries) a b = absurd (cc)
IsOfShape-stored (shape.Map k) (map_of (entry x d es)) a b = tt
IsOfShape-stored s h a b = absurd (cc)

-- no field is a second member of a oneof that has one
unfoldable pub OneFrom : List FieldView → (ℕ → Bool) → Fields → Type 0
OneFrom all seen no_fields = Unit {0}
OneFrom all seen (field n h fs) =
    (is_second (shape_at (field_numbered n all)) seen ≡ false) × OneFrom all (with_member (shape_at (field_numbered n all)) seen) fs

or_bool : (a b : Bool) → (a || b) ≡ false → (a ≡ false) × (b ≡ false)
or_bool true b e = absurd (cc)
or_bool false b e = (refl, e)

true_or : (a b : Bool) → b ≡ true → (a || b) ≡ true
true_or true b e = refl
true_or false b e = e

with_seen : (s : Shape) (seen : ℕ → Bool) (o : ℕ) → seen o ≡ true → with_member s seen o ≡ true
with_seen (shape.OneofMember p) seen o e = true_or (o == p) (seen o) e
with_seen shape.Implicit seen o e = e
with_seen shape.Explicit seen o e = e
with_seen (shape.List p) seen o e = e
with_seen (shape.Map k) seen o e = e

with_own : (s : Shape) (seen : ℕ → Bool) (o : ℕ) → oneof_of s ≡ Some o → with_member s seen o ≡ true
with_own (shape.OneofMember p) seen o e = let same : p ≡ o = cc in rw same (self o)
  where
    self : (q : ℕ) → ((q == q) || seen q) ≡ true
    self q = grind (arith, nat_tests)
with_own shape.Implicit seen o e = absurd (cc)
with_own shape.Explicit seen o e = absurd (cc)
with_own (shape.List p) seen o e = absurd (cc)
with_own (shape.Map k) seen o e = absurd (cc)

second_of : (s : Shape) (seen : ℕ → Bool) (o : ℕ) → oneof_of s ≡ Some o → is_second s seen ≡ seen o
second_of (shape.OneofMember p) seen o e = let same : p ≡ o = cc in ap seen same
second_of shape.Implicit seen o e = absurd (cc)
second_of shape.Explicit seen o e = absurd (cc)
second_of (shape.List p) seen o e = absurd (cc)
second_of (shape.Map k) seen o e = absurd (cc)

pub oneof_at-shape : (f : Option FieldView) → option_and_then (λ (g : FieldView). oneof_of g.shape) f ≡ oneof_of (shape_at f)
oneof_at-shape None = refl
oneof_at-shape (Some f) = refl

OneFrom-none : (all : List FieldView) (seen : ℕ → Bool) (fs : Fields) (o : ℕ) → OneFrom all seen fs → seen o ≡ true → HasNoMember all o fs
unfolding OneFrom
OneFrom-none all seen no_fields o h e = tt
OneFrom-none all seen (field n g fs) o h e = (
  λ (q : oneof_at all n ≡ Some o).
      let own : oneof_of (shape_at (field_numbered n all)) ≡ Some o = sym (oneof_at-shape (field_numbered n all)) ∙ q in
      let no : seen o ≡ false = sym (second_of (shape_at (field_numbered n all)) seen o own) ∙ h.0 in
      cc,
  OneFrom-none all (with_member (shape_at (field_numbered n all)) seen) fs o h.1 (with_seen (shape_at (field_numbered n all)) seen o e),
)

pub OneFrom-each : (all : List FieldView) (seen : ℕ → Bool) (fs : Fields) → OneFrom all seen fs → HasOneMemberEach all fs
unfolding OneFrom
OneFrom-each all seen no_fields h = tt
OneFrom-each all seen (field n g fs) h = (
  if_some (oneof_at all n) (λ (o : ℕ). HasNoMember all o fs)
      (λ o q. OneFrom-none all (with_member (shape_at (field_numbered n all)) seen) fs o h.1
      (with_own (shape_at (field_numbered n all)) seen o (sym (oneof_at-shape (field_numbered n all)) ∙ q))),
  OneFrom-each all (with_member (shape_at (field_numbered n all)) seen) fs h.1,
)

-- the fields from here on are good, where these oneofs have members
pub record GoodFrom (pool : Types) (all : List FieldView) (seen : ℕ → Bool) (fs : Fields) : Type 0 where
  pub fields : AreFields pool all fs
  pub members : OneFrom all seen fs

pub GoodFrom-none : (pool : Types) (all : List FieldView) (seen : ℕ → Bool) → GoodFrom pool all seen no_fields
unfolding OneFrom
GoodFrom-none pool all seen = record { fields = tt; members = tt }

-- one more field that is good
pub one_more :
    (pool : Types) (all : List FieldView) (seen later : ℕ → Bool) (n : ℕ) (h : Holding) (fs : Fields) (f : FieldView) → field_numbered n all ≡ Some f
    → stored_cause seen f.shape f.kind h ≡ None → IsOfShape f.shape h → is_second f.shape seen ≡ false → held_cause pool f.shape f.kind h ≡ None
    → IsHeld pool f.shape f.kind h → holds_declared pool f.kind h ≡ true → ((o : ℕ) → later o ≡ with_member f.shape seen o)
    → (fields_cause pool all seen (field n h fs) ≡ fields_cause pool all later fs) × (GoodFrom pool all later fs → GoodFrom pool all seen (field n h fs))
unfolding OneFrom
one_more pool all seen later n h fs f found stored shaped first parts held declared more =
    let same : later ≡ with_member f.shape seen = λ i o. more o i in
    let there : with_member (shape_at (field_numbered n all)) seen ≡ later = ap (λ (x : Option FieldView). with_member (shape_at x) seen) found ∙ sym same in (
      ap (λ (x : Option FieldView). or_else (at_field x (λ g. or_else (stored_cause seen g.shape g.kind h) (held_cause pool g.shape g.kind h))) (fields_cause pool all (with_member (shape_at x) seen) fs)) found
          ∙ ap (λ (x : Option ValueError). or_else (or_else x (held_cause pool f.shape f.kind h)) (fields_cause pool all (with_member f.shape seen) fs)) stored
          ∙ ap (λ (x : Option ValueError). or_else x (fields_cause pool all (with_member f.shape seen) fs)) parts
          ∙ ap (λ (x : ℕ → Bool). fields_cause pool all x fs) (sym same),
      λ (g : GoodFrom pool all later fs).
          record {
            fields = (rw found (shaped, held, declared), g.fields);
            members = (ap (λ (x : Option FieldView). is_second (shape_at x) seen) found ∙ first, subst (λ (x : ℕ → Bool). OneFrom all x fs) (sym there) g.members);
          },
    )

-- one more field, and its cause
pub refused_at :
    (pool : Types) (all : List FieldView) (seen : ℕ → Bool) (n : ℕ) (h : Holding) (fs : Fields) (f : FieldView) (e : ValueError) → field_numbered n all ≡ Some f
    → or_else (stored_cause seen f.shape f.kind h) (held_cause pool f.shape f.kind h) ≡ Some e → fields_cause pool all seen (field n h fs) ≡ Some e
refused_at pool all seen n h fs f e found cause =
    ap (λ (x : Option FieldView). or_else (at_field x (λ g. or_else (stored_cause seen g.shape g.kind h) (held_cause pool g.shape g.kind h))) (fields_cause pool all (with_member (shape_at x) seen) fs)) found
    ∙ ap (λ (x : Option ValueError). or_else x (fields_cause pool all (with_member f.shape seen) fs)) cause

-- a number without field
pub no_such_field :
    (pool : Types) (all : List FieldView) (seen : ℕ → Bool) (n : ℕ) (h : Holding) (fs : Fields) → field_numbered n all ≡ None
    → fields_cause pool all seen (field n h fs) ≡ Some NoSuchField
no_such_field pool all seen n h fs none =
    ap (λ (x : Option FieldView). or_else (at_field x (λ g. or_else (stored_cause seen g.shape g.kind h) (held_cause pool g.shape g.kind h))) (fields_cause pool all (with_member (shape_at x) seen) fs)) none

-- the field found for a number is one of them
pub found_in : (P : FieldView → Type 0) (n : ℕ) (fs : List FieldView) (f : FieldView) → AllByRecursion P fs → field_numbered n fs ≡ Some f → P f
found_in P n [] f h e = absurd (cc)
found_in P n (g ∷ fs) f h e = by_test (g.number == n) (λ d. found_in P n fs f h.1 d) e
  where
    by_test : (b : Bool) → (field_numbered n fs ≡ Some f → P f) → (if b then Some g else field_numbered n fs) ≡ Some f → P f
    by_test true later d = let same : g ≡ f = cc in subst P same h.0
    by_test false later d = later d

pub fields_all : (P : MessageView → FieldView → Type 0) (pool : Types) (ms : List MessageView) (m : ℕ) → AllByRecursion (λ t. AllByRecursion (P t) t.fields) ms
    → AllByRecursion (λ f. (t : MessageView) × P t f) (message_fields (record pool { messages = ms }) m)
fields_all P pool [] zero h = tt
fields_all P pool [] (suc m) h = tt
fields_all P pool (t ∷ ms) zero h = each t.fields h.0
  where
    each : (fs : List FieldView) → AllByRecursion (P t) fs → AllByRecursion (λ f. (s : MessageView) × P s f) fs
    each [] g = tt
    each (f ∷ fs) g = ((t, g.0), each fs g.1)
fields_all P pool (t ∷ ms) (suc m) h = fields_all P pool ms m h.1

pub kind_named : (pool : Types) (m n : ℕ) (f : FieldView) → IsPool pool → field_numbered n (message_fields pool m) ≡ Some f → NamesType (length pool.messages) (length pool.enums) f.kind
kind_named pool m n f rules e =
    (found_in (λ (g : FieldView). (t : MessageView) × NamesType (length pool.messages) (length pool.enums) g.kind) n (message_fields pool m) f
    (fields_all (λ t g. NamesType (length pool.messages) (length pool.enums) g.kind) pool pool.messages m rules.indexes.kinds) e).1

pub differ_at : (pool : Types) (ms : List MessageView) (m : ℕ) → AllByRecursion (λ t. AllDiffer (map (λ f. f.number) t.fields)) ms → AllDiffer (map (λ f. f.number) (message_fields (record pool { messages = ms }) m))
differ_at pool [] zero h = tt
differ_at pool [] (suc m) h = tt
differ_at pool (t ∷ ms) zero h = h.0
differ_at pool (t ∷ ms) (suc m) h = differ_at pool ms m h.1

fits_numbered : (f : Option FieldView) (r : Record) → Bool
fits_numbered None r = false
fits_numbered (Some f) r = fits_type f (wire_type r.payload)

fits_other : (fs : List FieldView) (n : ℕ) (r : Record) → r.number ≡ n → AllByRecursion (λ k. n ≢ k) (map (λ f. f.number) fs) → fits_any fs r ≡ false
fits_other [] n r e h = refl
fits_other (f ∷ fs) n r e h =
    let apart : (r.number == f.number) ≡ false = not_equal r.number f.number (λ q. h.0 (sym e ∙ q)) in
    rw (apart) (fits_other fs n r e h.1)

or_false : (b : Bool) → (b || false) ≡ b
or_false true = refl
or_false false = refl

fits_found : (fs : List FieldView) (r : Record) → AllDiffer (map (λ f. f.number) fs) → fits_any fs r ≡ fits_numbered (field_numbered r.number fs) r
unfolding fits_numbered
fits_found [] r h = refl
fits_found (f ∷ fs) r h = by_test (eqb_tells f.number r.number) (fits_found fs r h.1)
  where
    by_test :
        ((f.number == r.number ≡ true) × (f.number ≡ r.number)) ⊎ ((f.number == r.number ≡ false) × (f.number ≢ r.number))
        → fits_any fs r ≡ fits_numbered (field_numbered r.number fs) r → fits_any (f ∷ fs) r ≡ fits_numbered (field_numbered r.number (f ∷ fs)) r
    by_test (inl a) later =
        let turned : (r.number == f.number) ≡ true = rw (a.1) (self_equal r.number) in
        let others : fits_any fs r ≡ false = fits_other fs f.number r (sym a.1) h.0 in
        rw (a.0, turned, others) (or_false (fits_type f (wire_type r.payload)))
    by_test (inr a) later =
        let turned : (r.number == f.number) ≡ false = not_equal r.number f.number (λ q. a.1 (sym q)) in
        rw (a.0, turned) later

pub fits_any-found : (pool : Types) (m : ℕ) (r : Record) (f : FieldView) → IsPool pool → field_numbered r.number (message_fields pool m) ≡ Some f → fits_any (message_fields pool m) r ≡ fits_type f (wire_type r.payload)
unfolding fits_numbered
fits_any-found pool m r f rules e =
    fits_found (message_fields pool m) r (differ_at pool pool.messages m rules.fields.numbers_differ) ∙ ap (λ (x : Option FieldView). fits_numbered x r) e

pub fits_any-none : (pool : Types) (m : ℕ) (r : Record) → IsPool pool → field_numbered r.number (message_fields pool m) ≡ None → fits_any (message_fields pool m) r ≡ false
unfolding fits_numbered
fits_any-none pool m r rules e =
    fits_found (message_fields pool m) r (differ_at pool pool.messages m rules.fields.numbers_differ) ∙ ap (λ (x : Option FieldView). fits_numbered x r) e

pub found_named :
    (r : Option (Bor Field)) (pool : Types) (m n : ℕ) → IsPool pool → option_map (λ f. field_view f.now) r ≡ field_numbered n (message_fields pool m)
    → IfSome r (λ f. NamesType (length pool.messages) (length pool.enums) f.now.kind)
found_named None pool m n rules found = tt
found_named (Some f) pool m n rules found = kind_named pool m n (field_view f.now) rules (sym found)
