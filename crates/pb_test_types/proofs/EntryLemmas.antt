-- What stands in a map after an insertion, beside what its entries stand for.
use Rattle.std.proofs.Common.{◌≡◌, List, [], ◌∷◌, Ordering, Less, Equal, Greater, refl, ap, ◌∙◌}
use Rattle.std.specs.Prelude.{string_bytes}
use Rattle.std.specs.Ordering.{match_ordering}
use Rattle.std.specs.BTreeMap.{insert_entry}
use Rattle.pb_value.specs.Data.{entry}
use Rattle.pb_value.specs.View.{key_view, value_view, entries_view}
use Rattle.pb_value.specs.KeyOrder.{map_key_cmp}
use Rattle.pb_value.specs.declared.body.MapKey.{MapKey}
use Rattle.pb_value.specs.declared.body.MapKey.TheVariants as map_key
use Rattle.pb_value.specs.declared.body.Value.{Value}
use Rattle.pb_value.proofs.OrderLemmas.{slice_cmp-bytes_cmp}
use Rattle.pb_test_types.specs.Words.{keys_cmp, put_under}

pub keys_cmp_view : (a b : MapKey) → map_key_cmp a b ≡ keys_cmp (key_view a) (key_view b)
keys_cmp_view (map_key.Text x) (map_key.Text y) = slice_cmp-bytes_cmp (string_bytes x) (string_bytes y)
keys_cmp_view (map_key.I32 x) (map_key.I32 y) = refl
keys_cmp_view (map_key.I32 x) (map_key.I64 y) = refl
keys_cmp_view (map_key.I32 x) (map_key.U32 y) = refl
keys_cmp_view (map_key.I32 x) (map_key.U64 y) = refl
keys_cmp_view (map_key.I32 x) (map_key.Bool y) = refl
keys_cmp_view (map_key.I32 x) (map_key.Text y) = refl
keys_cmp_view (map_key.I64 x) (map_key.I32 y) = refl
keys_cmp_view (map_key.I64 x) (map_key.I64 y) = refl
keys_cmp_view (map_key.I64 x) (map_key.U32 y) = refl
keys_cmp_view (map_key.I64 x) (map_key.U64 y) = refl
keys_cmp_view (map_key.I64 x) (map_key.Bool y) = refl
keys_cmp_view (map_key.I64 x) (map_key.Text y) = refl
keys_cmp_view (map_key.U32 x) (map_key.I32 y) = refl
keys_cmp_view (map_key.U32 x) (map_key.I64 y) = refl
keys_cmp_view (map_key.U32 x) (map_key.U32 y) = refl
keys_cmp_view (map_key.U32 x) (map_key.U64 y) = refl
keys_cmp_view (map_key.U32 x) (map_key.Bool y) = refl
keys_cmp_view (map_key.U32 x) (map_key.Text y) = refl
keys_cmp_view (map_key.U64 x) (map_key.I32 y) = refl
keys_cmp_view (map_key.U64 x) (map_key.I64 y) = refl
keys_cmp_view (map_key.U64 x) (map_key.U32 y) = refl
keys_cmp_view (map_key.U64 x) (map_key.U64 y) = refl
keys_cmp_view (map_key.U64 x) (map_key.Bool y) = refl
keys_cmp_view (map_key.U64 x) (map_key.Text y) = refl
keys_cmp_view (map_key.Bool x) (map_key.I32 y) = refl
keys_cmp_view (map_key.Bool x) (map_key.I64 y) = refl
keys_cmp_view (map_key.Bool x) (map_key.U32 y) = refl
keys_cmp_view (map_key.Bool x) (map_key.U64 y) = refl
keys_cmp_view (map_key.Bool x) (map_key.Bool y) = refl
keys_cmp_view (map_key.Bool x) (map_key.Text y) = refl
keys_cmp_view (map_key.Text x) (map_key.I32 y) = refl
keys_cmp_view (map_key.Text x) (map_key.I64 y) = refl
keys_cmp_view (map_key.Text x) (map_key.U32 y) = refl
keys_cmp_view (map_key.Text x) (map_key.U64 y) = refl
keys_cmp_view (map_key.Text x) (map_key.Bool y) = refl

pub put_under_view : (x : MapKey) (v : Value) (es : List (MapKey × Value)) → entries_view (insert_entry map_key_cmp es x v) ≡ put_under (key_view x) (value_view v) (entries_view es)
put_under_view x v [] = refl
put_under_view x v (e ∷ es) =
    told (map_key_cmp x e.0) (put_under_view x v es)
    ∙ ap (λ (o : Ordering). match_ordering o (entry (key_view x) (value_view v) (entries_view (e ∷ es))) (entry (key_view e.0) (value_view v) (entries_view es)) (entry (key_view e.0) (value_view e.1) (put_under (key_view x) (value_view v) (entries_view es))))
    (keys_cmp_view x e.0)
  where
    told :
        (o : Ordering) → entries_view (insert_entry map_key_cmp es x v) ≡ put_under (key_view x) (value_view v) (entries_view es)
        → entries_view (match_ordering o ((x, v) ∷ e ∷ es) ((e.0, v) ∷ es) (e ∷ insert_entry map_key_cmp es x v))
        ≡ match_ordering o (entry (key_view x) (value_view v) (entries_view (e ∷ es))) (entry (key_view e.0) (value_view v) (entries_view es))
        (entry (key_view e.0) (value_view e.1) (put_under (key_view x) (value_view v) (entries_view es)))
    told Less later = refl
    told Equal later = refl
    told Greater later = ap (entry (key_view e.0) (value_view e.1)) later
