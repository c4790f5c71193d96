-- Map entries that are put in at once.
use Rattle.std.proofs.Common.{◌≡◌, ◌≢◌, ◌⊎◌, inl, inr, ℕ, suc, ◌<◌, List, [], ◌∷◌, ◌++◌, length, refl, sym, ap, ◌∙◌, subst, arith, Option, Equal, BTreeMap}
use Rattle.std.specs.Prelude.{◌==◌, string_bytes, Bool, true, false}
use Rattle.std.specs.BTreeMap.{insert_entry, IsOrdered, InsertsAll, IsFromIterResult}
use Rattle.std.proofs.lemmas.Map.Lookups.{map_keys, exact_signed, exact_unsigned, exact_bytes}
use Rattle.std.proofs.lemmas.Bool.{false≢true}
use Rattle.pb_wire.specs.Record.{Record}
use Rattle.pb_schema.specs.declared.types.Kind.{Kind}
use Rattle.pb_schema.specs.Scalar.{Scalar, int32, int64, uint32, uint64, boolean, text}
use Rattle.pb_value.specs.Data.{Datum, Entries, no_entries, entry, put_entry as put_datum_entry, Holding, map as map_of, Fields, get_field, put_field, drop_field, Message, body, fields_of}
use Rattle.pb_value.specs.Change.{inserted, insert_at, with_fields, entries_of}
use Rattle.pb_value.specs.WellFormed.{RisesFrom}
use Rattle.pb_value.specs.View.{key_view, value_view, entries_view}
use Rattle.pb_value.specs.KeyOrder.{map_key_cmp}
use Rattle.pb_value.specs.declared.body.MapKey.{MapKey}
use Rattle.pb_value.specs.declared.body.MapKey.TheVariants as map_key
use Rattle.pb_value.specs.declared.body.Value.{Value}
use Rattle.pb_value.specs.contracts.body.MapKeyOrd.TheImpl.Laws as key_laws
use Rattle.pb_value.proofs.PartViews.{entries_view-insert_entry}
use Rattle.pb_value.proofs.FieldExtent.{get_field-put_same, get_field-put_other, get_field-drop_other, equal_or_not, same_fields}
use Rattle.pb_value.proofs.ChangeLemmas.{RisesFrom-put_field}
use Rattle.pb_value.proofs.ShapeSteps.{put_twice}
use Rattle.pb_decode_parts.specs.Close.Mapped.{pairs_view, put_pairs, FitInTurn, insert_in_turn, insert_pairs, put_mapped, put_all_mapped, FitsMapped, FitMapped}
use Rattle.pb_decode_parts.specs.Open.Parents.{Part, message_part, entry_part, group_part}
use Rattle.pb_decode_parts.specs.Open.Targets.{part_context}
use Rattle.pb_decode_parts.proofs.MapLemmas.{at_once, by_way}

-- KEYS THAT COMPARE EQUAL are one key
exact_bools : (x y : Bool) → map_key_cmp (map_key.Bool x) (map_key.Bool y) ≡ Equal → x ≡ y
exact_bools true true h = refl
exact_bools false false h = refl
exact_bools true false h = absurd (cc)
exact_bools false true h = absurd (cc)

same_view : (x y : MapKey) → map_key_cmp x y ≡ Equal → key_view x ≡ key_view y
same_view (map_key.I32 x) (map_key.I32 y) h = ap int32 (exact_signed x y h)
same_view (map_key.I64 x) (map_key.I64 y) h = ap int64 (exact_signed x y h)
same_view (map_key.U32 x) (map_key.U32 y) h = ap uint32 (exact_unsigned x y h)
same_view (map_key.U64 x) (map_key.U64 y) h = ap uint64 (exact_unsigned x y h)
same_view (map_key.Bool x) (map_key.Bool y) h = ap boolean (exact_bools x y h)
same_view (map_key.Text x) (map_key.Text y) h = ap text (exact_bytes (string_bytes x) (string_bytes y) h)
same_view x y h = absurd (cc)

-- ENTRIES PUT IN AT ONCE mean what they mean where they are put in in turn
viewed : List (Scalar × Value) → Entries
viewed [] = no_entries
viewed (e ∷ es) = entry e.0 (value_view e.1) (viewed es)

view_of : (es : List (MapKey × Value)) → entries_view es ≡ viewed (map_keys key_view es)
unfolding viewed
view_of [] = refl
view_of (e ∷ es) = ap (entry (key_view e.0) (value_view e.1)) (view_of es)

pub views_each : (xs es : List (MapKey × Value)) → FitInTurn (pairs_view xs) (entries_view es) → entries_view (insert_in_turn map_key_cmp xs es) ≡ put_pairs (pairs_view xs) (entries_view es)
views_each [] es h = refl
views_each (x ∷ xs) es h =
    let one = entries_view-insert_entry h.0.0 x.0 x.1 es h.0.1 h.0.2 in
    views_each xs (insert_entry map_key_cmp es x.0 x.1) (subst (FitInTurn (pairs_view xs)) (sym one) h.1) ∙ ap (put_pairs (pairs_view xs)) one

pub own_map : (m more n : BTreeMap MapKey Value) (xs : List (MapKey × Value)) → IsFromIterResult map_key_cmp xs more → InsertsAll map_key_cmp m more.entries n → InsertsAll map_key_cmp m xs n
own_map = by_way key_laws.total-law

pub all_put : (m n : BTreeMap MapKey Value) (xs : List (MapKey × Value)) → FitInTurn (pairs_view xs) (entries_view m.entries) → IsOrdered map_key_cmp m → InsertsAll map_key_cmp m xs n
    → entries_view n.entries ≡ put_pairs (pairs_view xs) (entries_view m.entries)
all_put m n xs fit s took =
    view_of n.entries ∙ ap viewed (at_once key_laws.total-law key_view same_view m n xs s took) ∙ sym (view_of (insert_in_turn map_key_cmp xs m.entries)) ∙ views_each xs m.entries fit

-- IN THE FIELDS OF A MESSAGE
inserted_over : (n : ℕ) (xs : List (Scalar × Datum)) (es : Entries) (fs : Fields) → RisesFrom 0 fs → insert_pairs n xs (put_field n (map_of es) fs) ≡ put_field n (map_of (put_pairs xs es)) fs
inserted_over n [] es fs rises = refl
inserted_over n (x ∷ xs) es fs rises =
    ap (λ (g : Option Holding). insert_pairs n xs (put_field n (inserted x.0 x.1 g) (put_field n (map_of es) fs))) (get_field-put_same n (map_of es) fs)
    ∙ ap (insert_pairs n xs) (put_twice n (map_of es) (map_of (put_datum_entry x.0 x.1 es)) fs rises)
    ∙ inserted_over n xs (put_datum_entry x.0 x.1 es) fs rises

put_dropped : (n : ℕ) (h : Holding) (fs : Fields) → RisesFrom 0 fs → RisesFrom 0 (drop_field n fs) → put_field n h (drop_field n fs) ≡ put_field n h fs
put_dropped n h fs rises left =
    same_fields 0 (put_field n h (drop_field n fs)) (put_field n h fs) (RisesFrom-put_field 0 n h (drop_field n fs) (omega arith) left) (RisesFrom-put_field 0 n h fs (omega arith) rises)
    (λ k. by_place k (equal_or_not k n))
  where
    by_place : (k : ℕ) → (k ≡ n) ⊎ (k ≢ n) → get_field k (put_field n h (drop_field n fs)) ≡ get_field k (put_field n h fs)
    by_place k (inl q) =
        ap (λ (i : ℕ). get_field i (put_field n h (drop_field n fs))) q ∙ get_field-put_same n h (drop_field n fs) ∙ sym (get_field-put_same n h fs)
        ∙ ap (λ (i : ℕ). get_field i (put_field n h fs)) (sym q)
    by_place k (inr d) = get_field-put_other k n h (drop_field n fs) d ∙ get_field-drop_other k n fs d ∙ sym (get_field-put_other k n h fs d)

pub stored_once :
    (n : ℕ) (xs : List (Scalar × Datum)) (fs : Fields) → 0 < length xs → RisesFrom 0 fs → RisesFrom 0 (drop_field n fs)
    → put_field n (map_of (put_pairs xs (entries_of (get_field n fs)))) (drop_field n fs) ≡ insert_pairs n xs fs
stored_once n [] fs some rises left = absurd (omega (arith, some))
stored_once n (x ∷ xs) fs some rises left =
    put_dropped n (map_of (put_pairs (x ∷ xs) (entries_of (get_field n fs)))) fs rises left
    ∙ sym (inserted_over n xs (put_datum_entry x.0 x.1 (entries_of (get_field n fs))) fs rises)

pub stored_in :
    (n : ℕ) (xs : List (Scalar × Datum)) (v left new : Message) (h : Holding) (es : Entries) → 0 < length xs → RisesFrom 0 (fields_of v) → left ≡ with_fields v (drop_field n (fields_of v)) → RisesFrom 0 (fields_of left)
    → es ≡ entries_of (get_field n (fields_of v)) → h ≡ map_of (put_pairs xs es) → new ≡ with_fields left (put_field n h (fields_of left)) → new ≡ with_fields v (insert_pairs n xs (fields_of v))
stored_in n xs v left new h es some rises taken rest held made put =
    put ∙ ap (λ (w : Message). with_fields w (put_field n h (fields_of w))) taken
    ∙ ap (λ (g : Holding). with_fields v (put_field n g (drop_field n (fields_of v)))) (made ∙ ap (λ (z : Entries). map_of (put_pairs xs z)) held)
    ∙ ap (with_fields v) (stored_once n xs (fields_of v) some rises (subst (λ (w : Message). RisesFrom 0 (fields_of w)) taken rest))

pub some_pairs : (es : List (MapKey × Value)) (n : ℕ) → n ≡ length es → false ≡ (n == 0) → 0 < length (pairs_view es)
some_pairs [] n same h = absurd (false≢true (h ∙ ap (λ (z : ℕ). z == 0) same))
some_pairs (e ∷ es) n same h = omega arith

pub fit_entries : (n : ℕ) (xs : List (Scalar × Datum)) (v : Message) → FitMapped n xs (message_part 0 v) → FitInTurn xs (entries_of (get_field n (fields_of v)))
fit_entries n [] v h = tt
fit_entries n (x ∷ xs) (body fs us) h =
    (h.0, subst (λ (o : Option Holding). FitInTurn xs (entries_of o)) (get_field-put_same n (inserted x.0 x.1 (get_field n fs)) fs) (fit_entries n xs (body (insert_at n x.0 x.1 fs) us) h.1))

pub fit_of : (n m : ℕ) (xs : List (Scalar × Datum)) (v : Message) → FitMapped n xs (message_part m v) → FitMapped n xs (message_part 0 v)
fit_of n m [] v h = tt
fit_of n m (x ∷ xs) v h = (h.0, fit_of n m xs (with_fields v (insert_at n x.0 x.1 (fields_of v))) h.1)

-- IN A PART
pub all_in_message : (n m : ℕ) (xs : List (Scalar × Datum)) (v : Message) → put_all_mapped n xs (message_part m v) ≡ message_part m (with_fields v (insert_pairs n xs (fields_of v)))
all_in_message n m [] (body fs us) = refl
all_in_message n m (x ∷ xs) (body fs us) = all_in_message n m xs (body (insert_at n x.0 x.1 fs) us)

pub all_in_entry : (n : ℕ) (xs : List (Scalar × Datum)) (key kd : Kind) (y : Option Scalar) (d : Option Datum) → put_all_mapped n xs (entry_part key kd y d) ≡ entry_part key kd y d
all_in_entry n [] key kd y d = refl
all_in_entry n (x ∷ xs) key kd y d = all_in_entry n xs key kd y d

pub all_in_group : (n : ℕ) (xs : List (Scalar × Datum)) (us : List Record) → put_all_mapped n xs (group_part us) ≡ group_part us
all_in_group n [] us = refl
all_in_group n (x ∷ xs) us = all_in_group n xs us

-- one more is the last
pub mapped_next : (n : ℕ) (xs : List (Scalar × Datum)) (x : Scalar × Datum) (p : Part) → put_all_mapped n (xs ++ x ∷ []) p ≡ put_mapped n x (put_all_mapped n xs p)
mapped_next n [] x p = refl
mapped_next n (y ∷ xs) x p = mapped_next n xs x (put_mapped n y p)

pub pairs_next : (es : List (MapKey × Value)) (e : MapKey × Value) → pairs_view (es ++ e ∷ []) ≡ pairs_view es ++ (key_view e.0, value_view e.1) ∷ []
pairs_next [] e = refl
pairs_next (x ∷ es) e = ap (λ (l : List (Scalar × Datum)). (key_view x.0, value_view x.1) ∷ l) (pairs_next es e)

pub fit_next : (n : ℕ) (xs : List (Scalar × Datum)) (x : Scalar × Datum) (p : Part) → FitMapped n xs p → FitsMapped n x.0 (put_all_mapped n xs p) → FitMapped n (xs ++ x ∷ []) p
fit_next n [] x p a b = (b, tt)
fit_next n (y ∷ xs) x p a b = (a.0, fit_next n xs x (put_mapped n y p) a.1 b)

pub size_next : (es : List (MapKey × Value)) (e : MapKey × Value) → length (es ++ e ∷ []) ≡ suc (length es)
size_next [] e = refl
size_next (x ∷ es) e = ap suc (size_next es e)

-- its context stays
mapped_context : (n : ℕ) (x : Scalar × Datum) (p : Part) → part_context (put_mapped n x p) ≡ part_context p
mapped_context n x (message_part m v) = refl
mapped_context n x (entry_part key kd y d) = refl
mapped_context n x (group_part us) = refl

pub all_context : (n : ℕ) (xs : List (Scalar × Datum)) (p : Part) → part_context (put_all_mapped n xs p) ≡ part_context p
all_context n [] p = refl
all_context n (x ∷ xs) p = all_context n xs (put_mapped n x p) ∙ mapped_context n x p
