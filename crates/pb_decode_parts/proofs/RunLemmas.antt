-- Runs of elements of a packed list.
use Rattle.std.proofs.Common.{◌≡◌, ℕ, zero, suc, ◌<◌, List, [], ◌∷◌, ◌++◌, map, length, refl, sym, ap, ◌∙◌, arith, append_assoc, Option, Some, None, nat_cmp}
use Rattle.std.specs.Prelude.{◌==◌, false, is_some}
use Rattle.std.proofs.lemmas.List.{length-map, map-append, append-nil}
use Rattle.std.proofs.lemmas.Bool.{false≢true}
use Rattle.std.specs.Map.{lookup}
use Rattle.std.specs.BTreeMap.{is_at}
use Rattle.pb_wire.specs.Record.{Payload, Record}
use Rattle.pb_wire.specs.declared.unknown.Unknown.{Unknown}
use Rattle.pb_wire.specs.Unknown.{payload_of, records_of}
use Rattle.pb_wire.proofs.UnknownLemmas.{records_of-push}
use Rattle.pb_schema.specs.declared.types.Kind.{Kind}
use Rattle.pb_schema.specs.Types.{Types}
use Rattle.pb_schema.specs.Scalar.{Scalar}
use Rattle.pb_value.specs.Data.{Datum, Datums, no_datums, datum, datums_of, joined_datums, Holding, list, Fields, get_field, put_field, Message, body, fields_of}
use Rattle.pb_value.specs.Change.{pushed, push_each, push_at, with_fields}
use Rattle.pb_value.specs.WellFormed.{RisesFrom}
use Rattle.pb_value.specs.View.{body_view, fields_view, value_view}
use Rattle.pb_value.specs.declared.body.Body.{Body, out-Body}
use Rattle.pb_value.specs.declared.body.Value.{Value}
use Rattle.pb_value.proofs.FieldExtent.{get_field-put_same}
use Rattle.pb_value.proofs.FieldViews.{get_field-some}
use Rattle.pb_value.proofs.ShapeSteps.{put_twice}
use Rattle.pb_value.proofs.Views.{body_view-out}
use Rattle.pb_decode_parts.specs.declared.open.target.Target.TheVariants as target
use Rattle.pb_decode_parts.specs.Open.Parents.{Part, message_part, entry_part, group_part}
use Rattle.pb_decode_parts.specs.declared.values.run.Run.{Run}
use Rattle.pb_decode_parts.specs.Values.Put.{put_datum, put_record}
use Rattle.pb_decode_parts.specs.Values.Run.{put_listed, put_each, put_records, put_run}

-- an element of a list is put at its end
pub listed_is : (pool : Types) (n : ℕ) (k : Kind) (p : Part) (d : Datum) → put_listed n d p ≡ put_datum pool n (target.Element k) p d
listed_is pool n k (message_part m v) d = refl
listed_is pool n k (entry_part key kd x e) d = refl
listed_is pool n k (group_part us) d = refl

-- one more value is the last
pub each_next : (n : ℕ) (ds : List Datum) (d : Datum) (p : Part) → put_each n (ds ++ d ∷ []) p ≡ put_each n (d ∷ []) (put_each n ds p)
each_next n [] d p = refl
each_next n (e ∷ ds) d p = each_next n ds d (put_listed n e p)

-- in a message they go to the end of the list
pub each_in_message : (n m : ℕ) (ds : List Datum) (v : Message) → put_each n ds (message_part m v) ≡ message_part m (with_fields v (push_each n ds (fields_of v)))
each_in_message n m [] (body fs us) = refl
each_in_message n m (d ∷ ds) (body fs us) = each_in_message n m ds (body (push_at n d fs) us)

pub each_in_entry : (n : ℕ) (ds : List Datum) (key kd : Kind) (x : Option Scalar) (e : Option Datum) → put_each n ds (entry_part key kd x e) ≡ entry_part key kd x e
each_in_entry n [] key kd x e = refl
each_in_entry n (d ∷ ds) key kd x e = each_in_entry n ds key kd x e

pub each_in_group : (n : ℕ) (ds : List Datum) (us : List Record) → put_each n ds (group_part us) ≡ group_part us
each_in_group n [] us = refl
each_in_group n (d ∷ ds) us = each_in_group n ds us

-- A LIST THAT IS THERE gets each value at its end
joined_next : (xs ys : Datums) (d : Datum) → joined_datums (joined_datums xs (datum d no_datums)) ys ≡ joined_datums xs (datum d ys)
joined_next no_datums ys d = refl
joined_next (datum x xs) ys d = ap (datum x) (joined_next xs ys d)

joined_none : (xs : Datums) → joined_datums xs no_datums ≡ xs
joined_none no_datums = refl
joined_none (datum x xs) = ap (datum x) (joined_none xs)

each_put : (n : ℕ) (ds : List Datum) (xs : Datums) (fs : Fields) → RisesFrom 0 fs → push_each n ds (put_field n (list xs) fs) ≡ put_field n (list (joined_datums xs (datums_of ds))) fs
each_put n [] xs fs rises = ap (λ (z : Datums). put_field n (list z) fs) (sym (joined_none xs))
each_put n (d ∷ ds) xs fs rises =
    ap (λ (g : Option Holding). push_each n ds (put_field n (pushed d g) (put_field n (list xs) fs))) (get_field-put_same n (list xs) fs)
    ∙ ap (push_each n ds) (put_twice n (list xs) (list (joined_datums xs (datum d no_datums))) fs rises)
    ∙ each_put n ds (joined_datums xs (datum d no_datums)) fs rises ∙ ap (λ (z : Datums). put_field n (list z) fs) (joined_next xs (datums_of ds) d)

-- WHERE THERE IS NO LIST the values are it
pub listed_first :
    (n : ℕ) (ds : List Datum) (v : Message) → 0 < length ds → get_field n (fields_of v) ≡ None → RisesFrom 0 (fields_of v)
    → with_fields v (put_field n (list (datums_of ds)) (fields_of v)) ≡ with_fields v (push_each n ds (fields_of v))
listed_first n [] v some none rises = absurd (omega (arith, some))
listed_first n (d ∷ ds) v some none rises =
    let first : push_at n d (fields_of v) ≡ put_field n (list (datum d no_datums)) (fields_of v) = ap (λ (g : Option Holding). put_field n (pushed d g) (fields_of v)) none in
    ap (with_fields v) (sym (ap (push_each n ds) first ∙ each_put n ds (datum d no_datums) (fields_of v) rises))

no_field : (o : Option Holding) → is_some o ≡ false → o ≡ None
no_field None is = refl
no_field (Some h) is = absurd (cc)

pub absent : (n : ℕ) (b : Body) → is_some (lookup (is_at (nat_cmp n)) (out-Body b).fields.entries) ≡ false → get_field n (fields_of (body_view b)) ≡ None
absent n b is = ap (λ (v : Message). get_field n (fields_of v)) (body_view-out b) ∙ no_field (get_field n (fields_view (out-Body b).fields.entries)) (sym (get_field-some n (out-Body b).fields.entries) ∙ is)

-- a message is its fields and its unknown records
pub same_message : (v : Message) → with_fields v (fields_of v) ≡ v
same_message (body fs us) = refl

pub nothing_stored : (n : ℕ) (ds : List Datum) (v : Message) → length ds ≡ 0 → v ≡ with_fields v (push_each n ds (fields_of v))
nothing_stored n [] v is = sym (same_message v)
nothing_stored n (d ∷ ds) v is = absurd (omega (arith, is))

pub no_values : (vs : List Value) → length vs ≡ 0 → length (map value_view vs) ≡ 0
no_values vs is = length-map vs value_view ∙ is

some_held : (n : ℕ) → false ≡ (n == 0) → 0 < n
some_held zero h = absurd (false≢true h)
some_held (suc n) h = omega arith

pub some_values : (vs : List Value) (n : ℕ) → n ≡ length vs → false ≡ (n == 0) → 0 < length (map value_view vs)
some_values vs n same h = let some = some_held n h in let size = length-map vs value_view in omega (arith, some, size, same)

-- BESIDE UNKNOWN RECORDS: no record changes nothing, and one more is the last
no_records : (p : Part) → put_records [] p ≡ p
no_records (message_part m (body fs us)) = ap (λ (z : List Record). message_part m (body fs z)) (append-nil us)
no_records (entry_part key kd x e) = refl
no_records (group_part us) = ap group_part (append-nil us)

records_next : (rs : List Record) (n : ℕ) (x : Payload) (p : Part) → put_records (rs ++ record { number = n; payload = x } ∷ []) p ≡ put_record n x (put_records rs p)
records_next rs n x (message_part m (body fs us)) = ap (λ (z : List Record). message_part m (body fs z)) (sym (append_assoc us rs (record { number = n; payload = x } ∷ [])))
records_next rs n x (entry_part key kd x2 e) = refl
records_next rs n x (group_part us) = ap group_part (sym (append_assoc us rs (record { number = n; payload = x } ∷ [])))

-- a value and a record change different parts of a message
listed_after : (n k : ℕ) (x : Payload) (d : Datum) (p : Part) → put_listed n d (put_record k x p) ≡ put_record k x (put_listed n d p)
listed_after n k x d (message_part m (body fs us)) = refl
listed_after n k x d (entry_part key kd x2 e) = refl
listed_after n k x d (group_part us) = refl

each_after : (n k : ℕ) (x : Payload) (ds : List Datum) (p : Part) → put_each n ds (put_record k x p) ≡ put_record k x (put_each n ds p)
each_after n k x [] p = refl
each_after n k x (d ∷ ds) p = ap (put_each n ds) (listed_after n k x d p) ∙ each_after n k x ds (put_listed n d p)

-- a run without elements
pub run_begins : (n : ℕ) (run : Run) (p : Part) → run.values.items ≡ [] → run.undeclared.items ≡ [] → put_run n run p ≡ p
run_begins n run p no_value none =
    ap (λ (z : List Value). put_each n (map value_view z) (put_records (records_of run.undeclared.items) p)) no_value ∙ ap (λ (z : List (ℕ × Unknown)). put_records (records_of z) p) none
    ∙ no_records p

-- and one more of each sort
pub value_added : (n : ℕ) (old new : List Value) (v : Value) (p : Part) → new ≡ old ++ v ∷ [] → put_each n (map value_view new) p ≡ put_listed n (value_view v) (put_each n (map value_view old) p)
value_added n old new v p is =
    ap (λ (z : List Value). put_each n (map value_view z) p) is ∙ ap (λ (z : List Datum). put_each n z p) (map-append value_view old (v ∷ [])) ∙ each_next n (map value_view old) (value_view v) p

pub record_added :
    (n : ℕ) (ds : List Datum) (old new : List (ℕ × Unknown)) (u : Unknown) (p : Part) → new ≡ old ++ (n, u) ∷ []
    → put_each n ds (put_records (records_of new) p) ≡ put_record n (payload_of u) (put_each n ds (put_records (records_of old) p))
record_added n ds old new u p is =
    ap (λ (z : List (ℕ × Unknown)). put_each n ds (put_records (records_of z) p)) is ∙ ap (λ (z : List Record). put_each n ds (put_records z p)) (records_of-push old (n, u))
    ∙ ap (put_each n ds) (records_next (records_of old) n (payload_of u) p) ∙ each_after n n (payload_of u) ds (put_records (records_of old) p)

-- where there are no records, others are them
pub only_others : (rs us : List (ℕ × Unknown)) → length rs ≡ 0 → us ≡ rs ++ us
only_others [] us none = refl
only_others (r ∷ rs) us none = absurd (omega (arith, none))
