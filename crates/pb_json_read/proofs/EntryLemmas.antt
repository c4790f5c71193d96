-- Entries of maps: their keys stay of one kind.
use Rattle.std.proofs.Common.{◌≡◌, ℕ, List, [], ◌∷◌, length, arith, Bool, true, false, Option, Some, None, Result, Ok, Err, OnOk, Ordering, Less, Equal, Greater, inl, inr, refl, sym, ap, subst}
use Rattle.std.specs.Ordering.{match_ordering}
use Rattle.pb_schema.specs.declared.types.Kind.{Kind}
use Rattle.pb_schema.specs.declared.types.Kind.TheVariants as kind
use Rattle.pb_schema.specs.Kinds.{IsOfKind}
use Rattle.pb_schema.specs.Scalar.{Scalar, boolean, key_cmp}
use Rattle.pb_value.specs.Change.{AreKeys}
use Rattle.pb_value.specs.View.{entries_view}
use Rattle.pb_value.specs.declared.body.MapKey.{MapKey}
use Rattle.pb_value.specs.declared.body.Value.{Value}
use Rattle.pb_value.specs.Data.{Datum, scalar, Entries, no_entries, entry, put_entry}
use Rattle.pb_json_read.specs.declared.error.JsonReadCause.TheVariants.{RepeatedName, BadKey}
use Rattle.pb_json_read.specs.declared.error.JsonReadError.{JsonReadError}
use Rattle.pb_json_read.specs.Answers.{AreEntered, Changes}
use Rattle.pb_json_read.specs.Faults.{fault}
use Rattle.pb_json_read.specs.Keys.{IsKey}
use Rattle.pb_json_read.specs.Steps.{Read, Made, Entered, is_taken, with_entry, ReadsEntry, ReadsUnder}

of_kind : (k : Kind) (x y : Scalar) → x ≡ y → IsOfKind k y → IsOfKind k x
of_kind k x y e h = subst (λ (z : Scalar). IsOfKind k z) (sym e) h

pub key_of_kind : (k : Kind) (s : List ℕ) (x : Scalar) → IsKey k s x → IsOfKind k x
key_of_kind kind.Int32 s x (z, p, e) = of_kind kind.Int32 x _ e p.1
key_of_kind kind.Sint32 s x (z, p, e) = of_kind kind.Sint32 x _ e p.1
key_of_kind kind.Sfixed32 s x (z, p, e) = of_kind kind.Sfixed32 x _ e p.1
key_of_kind kind.Int64 s x (z, p, e) = of_kind kind.Int64 x _ e p.1
key_of_kind kind.Sint64 s x (z, p, e) = of_kind kind.Sint64 x _ e p.1
key_of_kind kind.Sfixed64 s x (z, p, e) = of_kind kind.Sfixed64 x _ e p.1
key_of_kind kind.Uint32 s x (n, p, e) = of_kind kind.Uint32 x _ e p.1
key_of_kind kind.Fixed32 s x (n, p, e) = of_kind kind.Fixed32 x _ e p.1
key_of_kind kind.Uint64 s x (n, p, e) = of_kind kind.Uint64 x _ e p.1
key_of_kind kind.Fixed64 s x (n, p, e) = of_kind kind.Fixed64 x _ e p.1
key_of_kind kind.Bool s x (b, p, e) = of_kind kind.Bool x _ e tt
key_of_kind kind.Text s x (t, p, e) = of_kind kind.Text x _ e p.0
key_of_kind kind.Float s x h = absurd h
key_of_kind kind.Double s x h = absurd h
key_of_kind kind.Bytes s x h = absurd h
key_of_kind (kind.Enum e) s x h = absurd h
key_of_kind (kind.ClosedEnum e) s x h = absurd h
key_of_kind (kind.Message m) s x h = absurd h
key_of_kind (kind.Group m) s x h = absurd h

keys_put : (k : Kind) (x : Scalar) (d : Datum) (es : Entries) → IsOfKind k x → AreKeys k es → AreKeys k (put_entry x d es)
keys_put k x d no_entries a w = (a, tt)
keys_put k x d (entry y e es) a w = told (key_cmp x y) (keys_put k x d es a w.1)
  where
    told : (o : Ordering) → AreKeys k (put_entry x d es) → AreKeys k (match_ordering o (entry x d (entry y e es)) (entry y d es) (entry y e (put_entry x d es)))
    told Less later = (a, w)
    told Equal later = w
    told Greater later = (w.0, later)

keys_with : (k : Kind) (x : Scalar) (s : Entered) (d : Option Datum) → IsOfKind k x → AreEntered k s → AreEntered k (with_entry x s d)
keys_with k x s None a w = (w.0, keys_put k x (scalar (boolean false)) s.passed a w.1)
keys_with k x s (Some d) a w = (keys_put k x d s.entries a w.0, w.1)

abbrev Same : (r s : Read Entered) → Type 0
Same r s = r ≡ s

abbrev refused_with : JsonReadError → Read Entered
refused_with e = Err e

ok_same : (x y : Entered) → Same (Ok x) (Ok y) → x ≡ y
ok_same x y e = cc

none_there : (x : Entered) (e : JsonReadError) → Same (Ok x) (Err e) → ⊥
none_there x e same = cc

module _ (x : Scalar) (at : ℕ) (Value : Read (Option Datum) → Type 0) (s : Entered) where
  pub under_taken : (e : JsonReadError) → is_taken x s ≡ true → e ≡ fault at RepeatedName → ReadsUnder x at Value s (Err e)
  under_taken e taken is = rw taken (ap refused_with is)

  pub under_free : (o : Read Entered) → is_taken x s ≡ false → Made Value (with_entry x s) o → ReadsUnder x at Value s o
  under_free o free h = rw free h

  made_keys : (k : Kind) (r : Entered) → IsOfKind k x → AreEntered k s → Made Value (with_entry x s) (Ok r) → AreEntered k r
  made_keys k r a w (Ok d, h, e) = subst (λ (t : Entered). AreEntered k t) (sym (ok_same r (with_entry x s d) e)) (keys_with k x s d a w)
  made_keys k r a w (Err f, h, e) = absurd (none_there r f e)

  under_keys : (k : Kind) (r : Entered) → IsOfKind k x → AreEntered k s → ReadsUnder x at Value s (Ok r) → AreEntered k r
  under_keys k r a w h = by_taken (is_taken x s) refl
    where
      by_taken : (b : Bool) → is_taken x s ≡ b → AreEntered k r
      by_taken true e = absurd (none_there r (fault at RepeatedName) (rw e at h))
      by_taken false e = made_keys k r a w (rw e at h)

  -- an entry that is put keeps the kind of the keys
  pub entry_keys : {X : Type 0} (k : Kind) (new : Entered) (r : Result X JsonReadError) → IsOfKind k x → AreEntered k s → Changes new (ReadsUnder x at Value s) r → OnOk r (AreEntered k new)
  entry_keys k new (Ok y) a w h = under_keys k new a w h
  entry_keys k new (Err e) a w h = tt

module _ (key : Kind) (name : List ℕ) (at : ℕ) (Value : Read (Option Datum) → Type 0) (s : Entered) where
  pub entry_under : (x : Scalar) → IsKey key name x → (o : Read Entered) → ReadsUnder x at Value s o → ReadsEntry key name at Value s o
  entry_under x is (Ok r) h = (x, is, h)
  entry_under x is (Err e) h = inl (x, is, h)

  pub entry_none : (e : JsonReadError) → ((x : Scalar) → ¬ IsKey key name x) → e ≡ fault at BadKey → ReadsEntry key name at Value s (Err e)
  entry_none e none is = inr (none, is)

-- a map without an entry
pub no_entries_view : (es : List (MapKey × Value)) → length es ≡ 0 → entries_view es ≡ no_entries
no_entries_view [] none = refl
no_entries_view (e ∷ es) none = absurd (omega arith)
