-- A list of values and a map of entries beside what they stand for.
use Rattle.std.proofs.Common.{◌≡◌, List, [], ◌∷◌, ◌++◌, Ordering, Less, Equal, Greater, refl, sym, ap, ◌∙◌, subst}
use Rattle.std.specs.Ordering.{match_ordering}
use Rattle.std.specs.BTreeMap.{insert_entry}
use Rattle.pb_schema.specs.declared.types.Kind.{Kind}
use Rattle.pb_schema.specs.Kinds.{IsOfKind}
use Rattle.pb_schema.specs.Scalar.{Scalar, key_cmp}
use Rattle.pb_value.specs.Data.{Datum, datum, no_datums, joined_datums, Entries, no_entries, entry, put_entry, put_entries}
use Rattle.pb_value.specs.Change.{AreKeys}
use Rattle.pb_value.specs.View.{key_view, value_view, values_view, entries_view}
use Rattle.pb_value.specs.KeyOrder.{map_key_cmp}
use Rattle.pb_value.specs.declared.body.MapKey.{MapKey}
use Rattle.pb_value.specs.declared.body.Value.{Value}
use Rattle.pb_value.proofs.OrderLemmas.{map_key_cmp-key_cmp}

pub values_view-append : (vs ws : List Value) → values_view (vs ++ ws) ≡ joined_datums (values_view vs) (values_view ws)
values_view-append [] ws = refl
values_view-append (x ∷ vs) ws = ap (datum (value_view x)) (values_view-append vs ws)

pub values_view-push : (vs : List Value) (v : Value) → values_view (vs ++ v ∷ []) ≡ joined_datums (values_view vs) (datum (value_view v) no_datums)
values_view-push vs v = values_view-append vs (v ∷ [])

pub entries_view-insert_entry :
    (k : Kind) (x : MapKey) (v : Value) (es : List (MapKey × Value)) → IsOfKind k (key_view x) → AreKeys k (entries_view es)
    → entries_view (insert_entry map_key_cmp es x v) ≡ put_entry (key_view x) (value_view v) (entries_view es)
entries_view-insert_entry k x v [] a b = refl
entries_view-insert_entry k x v (e ∷ es) a b =
    told (map_key_cmp x e.0) (entries_view-insert_entry k x v es a b.1)
    ∙ ap (λ (o : Ordering). match_ordering o (entry (key_view x) (value_view v) (entries_view (e ∷ es))) (entry (key_view e.0) (value_view v) (entries_view es)) (entry (key_view e.0) (value_view e.1) (put_entry (key_view x) (value_view v) (entries_view es))))
    (map_key_cmp-key_cmp k x e.0 a b.0)
  where
    told :
        (o : Ordering) → entries_view (insert_entry map_key_cmp es x v) ≡ put_entry (key_view x) (value_view v) (entries_view es)
        → entries_view (match_ordering o ((x, v) ∷ e ∷ es) ((e.0, v) ∷ es) (e ∷ insert_entry map_key_cmp es x v))
        ≡ match_ordering o (entry (key_view x) (value_view v) (entries_view (e ∷ es))) (entry (key_view e.0) (value_view v) (entries_view es))
        (entry (key_view e.0) (value_view e.1) (put_entry (key_view x) (value_view v) (entries_view es)))
    told Less later = refl
    told Equal later = refl
    told Greater later = ap (entry (key_view e.0) (value_view e.1)) later

AreKeys-put_entry : (k : Kind) (x : Scalar) (d : Datum) (es : Entries) → IsOfKind k x → AreKeys k es → AreKeys k (put_entry x d es)
AreKeys-put_entry k x d no_entries a w = (a, tt)
AreKeys-put_entry k x d (entry y e es) a w = told (key_cmp x y) (AreKeys-put_entry k x d es a w.1)
  where
    told : (o : Ordering) → AreKeys k (put_entry x d es) → AreKeys k (match_ordering o (entry x d (entry y e es)) (entry y d es) (entry y e (put_entry x d es)))
    told Less later = (a, w)
    told Equal later = w
    told Greater later = (w.0, later)

-- one entry is put over others, and the rest of its own are left
pub record PutsOne (k : Kind) (left rest before after : List (MapKey × Value)) : Type 0 where
  pub keys : AreKeys k (entries_view after) × AreKeys k (entries_view rest)
  pub put : put_entries (entries_view rest) (entries_view after) ≡ put_entries (entries_view left) (entries_view before)

pub puts_one :
    (k : Kind) (x : MapKey) (v : Value) (left rest before after : List (MapKey × Value)) → left ≡ (x, v) ∷ rest → after ≡ insert_entry map_key_cmp before x v
    → AreKeys k (entries_view before) → AreKeys k (entries_view left) → PutsOne k left rest before after
puts_one k x v left rest before after split made a b =
    let own : AreKeys k (entries_view ((x, v) ∷ rest)) = subst (λ (es : List (MapKey × Value)). AreKeys k (entries_view es)) split b in
    let view : entries_view after ≡ put_entry (key_view x) (value_view v) (entries_view before) = ap (λ (es : List (MapKey × Value)). entries_view es) made ∙ entries_view-insert_entry k x v before own.0 a in
    record {
      keys = (subst (AreKeys k) (sym view) (AreKeys-put_entry k (key_view x) (value_view v) (entries_view before) own.0 a), own.1);
      put = ap (put_entries (entries_view rest)) view ∙ ap (λ (es : List (MapKey × Value)). put_entries (entries_view es) (entries_view before)) (sym split);
    }
