-- Writing part by part.
use Rattle.std.proofs.Common.{◌≡◌, ◌≢◌, ◌^◌, ℕ, ◌+◌, ◌-◌, ◌*◌, ◌≤◌, ◌<◌, List, [], ◌∷◌, ◌++◌, length, drop, get_or, refl, ap, sym, ◌∙◌, subst, append_assoc, append-nil, drop_of_length-le, rules, arith, take, length-append, Option, Some, None}
use Rattle.std.specs.Prelude.{Bool, true, false, if◌then◌else◌}
use Rattle.std.proofs.lemmas.List.{drop_more, take_all, length-drop}
use Rattle.std.proofs.Math.Seq.{take-append_seam}
use Rattle.pb_wire.specs.Varint.{shortest}
use Rattle.pb_wire.specs.Record.{Payload, len, Record}
use Rattle.pb_wire.specs.Spell.{shortest_record, shortest_records}
use Rattle.pb_schema.specs.declared.types.Kind.{Kind}
use Rattle.pb_schema.specs.declared.types.Kind.TheVariants as kind
use Rattle.pb_schema.specs.declared.types.MessageId.{MessageId}
use Rattle.pb_schema.specs.Types.{FieldView, Types, message_fields, field_numbered}
use Rattle.pb_value.specs.Data.{Datum, message, Datums, list, Fields, Message, body}
use Rattle.pb_value.specs.Canon.{by_field, payload_of, canon_bytes, canon_each, canon_entries, canon_holding, canon_fields, packed_bytes, is_packed, key_kind, record_of, sealed}
use Rattle.pb_value.specs.View.{key_view, value_view, values_view, entries_view, content_view, fields_view}
use Rattle.pb_value.specs.declared.body.Content.{Content}
use Rattle.pb_value.specs.declared.body.MapKey.{MapKey}
use Rattle.pb_value.specs.declared.body.Value.{Value, the_lemmas as value_lemmas}
use Rattle.pb_value.specs.declared.body.Value.TheVariants as value
use Rattle.pb_value.specs.declared.body.Body.{Body}
use Rattle.pb_encode.specs.Sizes.{is_plain, plain_payload, entry_records, lengths_by_field, lengths_in_datum, lengths_in_message, lengths_in_each, lengths_in_entries, lengths_in_holding, lengths_in_fields}
use Rattle.std.specs.Io.KnownBytes.{Appends}
use Rattle.std.proofs.KnownBytes.{Appends-nil}
use Rattle.pb_output.specs.declared.sink.Sink.{Sink}
use Rattle.pb_output.specs.Sink.{IsRest, Carries, Puts}
use Rattle.pb_encode.specs.Writing.{Writes}
use Rattle.pb_encode.proofs.MeasureLemmas.{shortest_records-append, plain_parts}
use Rattle.pb_output.proofs.SinkLemmas.{puts_then, puts_lost}
use Rattle.pb_encode.proofs.PutLemmas.{ToPut, to_put_start, to_put_more, to_put_done, to_put_lost}

-- the first length, and those after it
pub first_of : (xs : List ℕ) (n : ℕ) (more : List ℕ) → xs ≡ n ∷ more → (get_or xs 0 0 ≡ n) × (take (length xs - 1) (drop 1 xs) ≡ more)
first_of xs n more e = (ap (λ l. get_or l 0 0) e, take_all (length xs - 1) (drop 1 xs) (omega (arith, length-drop 1 xs)) ∙ ap (drop 1) e)

-- of a whole some was written, and these bytes are left, with these lengths
pub record ToWrite {D : Type 0} (written : D → Option (List ℕ)) (failures : D → ℕ) (start now : D) (a b : Sink) (at next : List ℕ) (rest all rest_inside all_inside : List ℕ) : Type 0 where
  pub left : (more : List ℕ) → at ≡ all_inside ++ more → ToPut written failures start now a b rest all × (b.failed ≡ false → next ≡ rest_inside ++ more)

-- a value that is no message
pub plain_value : (k : Kind) (v : Value) → ((x : Body) → v ≡ value.Message x → ⊥) → is_plain k (value_view v) ≡ true
plain_value k v h = search (rules, value_lemmas)

-- a kind of no messages
pub plain_kind : (k : Kind) (b : Message) → ((m : MessageId) → k ≡ kind.Message m → ⊥) → ((m : MessageId) → k ≡ kind.Group m → ⊥) → is_plain k (message b) ≡ true
plain_kind (kind.Message m) b h g = absurd (h m refl)
plain_kind (kind.Group m) b h g = absurd (g m refl)
plain_kind _ b h g = refl

module _ {D : Type 0} {written : D → Option (List ℕ)} {failures : D → ℕ} where
  -- PARTS WITH LENGTHS

  pub to_write_start : {d : D} {a : Sink} (at : List ℕ) (all inside : List ℕ) → ToWrite written failures d d a a at at all all inside inside
  to_write_start at all inside = record { left = λ more e. (to_put_start all, λ open_. e) }

  pub to_write_more :
      {d0 d1 d2 : D} {a b c : Sink} {at next after : List ℕ} {rest all rest_inside all_inside : List ℕ} (xs ys bs cs : List ℕ) → ToWrite written failures d0 d1 a b at next rest all rest_inside all_inside → b.failed ≡ false
      → rest ≡ bs ++ cs → rest_inside ≡ xs ++ ys → Writes written failures d1 d2 b c next after xs bs → ToWrite written failures d0 d2 a c at after cs all ys all_inside
  to_write_more xs ys bs cs h open_ e f w = record {
    left = λ more q.
        let before = h.left more q in
        let one = w.follows (ys ++ more) (before.1 open_ ∙ ap (λ (l : List ℕ). l ++ more) f ∙ append_assoc xs ys more) in
        (to_put_more bs cs before.0 e one.0, one.1);
  }

  -- a part that is no field adds nothing
  pub to_write_same :
      {d0 d1 : D} {a b : Sink} {at next : List ℕ} {rest all rest_inside all_inside cs ys : List ℕ} → ToWrite written failures d0 d1 a b at next rest all rest_inside all_inside → rest ≡ cs → rest_inside ≡ ys
      → ToWrite written failures d0 d1 a b at next cs all ys all_inside
  to_write_same {d0} {d1} {a} {b} {at} {next} {rest} {all} {rest_inside} {all_inside} {cs} {ys} h e f =
      subst (λ (l : List ℕ). ToWrite written failures d0 d1 a b at next l all ys all_inside) e (subst (λ (l : List ℕ). ToWrite written failures d0 d1 a b at next rest all l all_inside) f h)

  pub to_write_done :
      {d0 d1 : D} {a b : Sink} {at next : List ℕ} {rest all rest_inside all_inside : List ℕ} → ToWrite written failures d0 d1 a b at next rest all rest_inside all_inside → rest ≡ [] → rest_inside ≡ []
      → Writes written failures d0 d1 a b at next all_inside all
  to_write_done h e f = record { follows = λ more q. let before = h.left more q in (to_put_done before.0 e, λ open_. before.1 open_ ∙ ap (λ (l : List ℕ). l ++ more) f) }

  -- after a failure the rest is lost
  pub to_write_lost :
      {d0 d1 : D} {a b : Sink} {at next : List ℕ} {rest all rest_inside all_inside : List ℕ} → ToWrite written failures d0 d1 a b at next rest all rest_inside all_inside → b.failed ≡ true
      → Writes written failures d0 d1 a b at next all_inside all
  to_write_lost h broken = record { follows = λ more q. (to_put_lost (h.left more q).0 broken, λ open_. absurd (cc)) }

  -- bytes that hold no part with a length
  pub writes_plain : {d0 d1 : D} {a b : Sink} {at : List ℕ} {bytes : List ℕ} → Puts written failures d0 d1 a b bytes → Writes written failures d0 d1 a b at at [] bytes
  writes_plain p = record { follows = λ more q. (p, λ open_. q) }

  pub writes_same :
      {d0 d1 : D} {a b : Sink} {at next : List ℕ} {inside xs bytes cs : List ℕ} → inside ≡ xs → bytes ≡ cs → Writes written failures d0 d1 a b at next inside bytes → Writes written failures d0 d1 a b at next xs cs
  writes_same {d0} {d1} {a} {b} {at} {next} {inside} {xs} {bytes} {cs} e f w =
      subst (λ (l : List ℕ). Writes written failures d0 d1 a b at next l cs) e (subst (λ (l : List ℕ). Writes written failures d0 d1 a b at next inside l) f w)

  -- bytes before a part
  pub writes_after :
      {d0 d1 d2 : D} {a b c : Sink} {at next : List ℕ} {inside bs cs : List ℕ} → Puts written failures d0 d1 a b bs → Writes written failures d1 d2 b c at next inside cs → Writes written failures d0 d2 a c at next inside (bs ++ cs)
  writes_after p w = record { follows = λ more q. let one = w.follows more q in (puts_then p one.0, one.1) }

  -- a part after its length
  pub writes_sealed :
      {d0 d1 d2 : D} {a b c : Sink} {at inside_at next : List ℕ} {inside : List ℕ} (number size : ℕ) (s : List ℕ)
      → ((n : ℕ) (more : List ℕ) → at ≡ n ∷ more → (size ≡ n) × (inside_at ≡ more)) → Puts written failures d0 d1 a b (shortest (8 * number + 2) ++ shortest size)
      → Writes written failures d1 d2 b c inside_at next inside s → Writes written failures d0 d2 a c at next (length s ∷ inside) (shortest_record number (len s))
  writes_sealed {d0} {d1} {d2} {a} {b} {c} {at} {inside_at} {next} {inside} number size s look p w = record {
    follows = λ more q.
        let found = look (length s) (inside ++ more) q in
        let one = w.follows more found.1 in
        (puts_then (subst (λ (i : ℕ). Puts written failures d0 d1 a b (shortest (8 * number + 2) ++ shortest i)) found.0 p) one.0, one.1);
  }

  -- a message of a kind of messages
  pub writes_datum :
      {d0 d1 : D} {a b : Sink} {at next : List ℕ} (pool : Types) (k : Kind) (d : Datum) (v : Message) (id : MessageId) (number : ℕ) → d ≡ message v → k ≡ kind.Message id
      → Writes written failures d0 d1 a b at next (length (canon_bytes pool id.0 v) ∷ lengths_in_message pool id.0 v) (shortest_record number (len (canon_bytes pool id.0 v)))
      → Writes written failures d0 d1 a b at next (lengths_in_datum pool k d) (shortest_record number (payload_of pool k d))
  writes_datum {d0} {d1} {a} {b} {at} {next} pool k d v id number is same h =
      subst (λ (x : Datum). Writes written failures d0 d1 a b at next (lengths_in_datum pool k x) (shortest_record number (payload_of pool k x))) (sym is)
      (subst (λ (l : Kind). Writes written failures d0 d1 a b at next (lengths_in_datum pool l (message v)) (shortest_record number (payload_of pool l (message v)))) (sym same) h)

  -- a message between the tags of a group
  pub writes_group :
      {d0 d1 d2 d3 : D} {a b c e : Sink} {at next : List ℕ} (pool : Types) (k : Kind) (d : Datum) (v : Message) (id : MessageId) (number : ℕ) → d ≡ message v → k ≡ kind.Group id
      → Puts written failures d0 d1 a b (shortest (8 * number + 3)) → Writes written failures d1 d2 b c at next (lengths_in_message pool id.0 v) (canon_bytes pool id.0 v) → c.failed ≡ false
      → Puts written failures d2 d3 c e (shortest (8 * number + 4)) → Writes written failures d0 d3 a e at next (lengths_in_datum pool k d) (shortest_record number (payload_of pool k d))
  writes_group {d0} {d1} {d2} {d3} {a} {b} {c} {e} {at} {next} pool k d v id number is same p w open_ q =
      subst (λ (x : Datum). Writes written failures d0 d3 a e at next (lengths_in_datum pool k x) (shortest_record number (payload_of pool k x))) (sym is)
      (subst (λ (l : Kind). Writes written failures d0 d3 a e at next (lengths_in_datum pool l (message v)) (shortest_record number (payload_of pool l (message v)))) (sym same)
      record { follows = λ more f. let one = w.follows more f in (puts_then (puts_then p one.0) q, λ still. one.1 open_) })

  pub writes_group_lost :
      {d0 d1 d2 : D} {a b c : Sink} {at next : List ℕ} (pool : Types) (k : Kind) (d : Datum) (v : Message) (id : MessageId) (number : ℕ) → d ≡ message v → k ≡ kind.Group id
      → Puts written failures d0 d1 a b (shortest (8 * number + 3)) → Writes written failures d1 d2 b c at next (lengths_in_message pool id.0 v) (canon_bytes pool id.0 v) → c.failed ≡ true
      → Writes written failures d0 d2 a c at next (lengths_in_datum pool k d) (shortest_record number (payload_of pool k d))
  writes_group_lost {d0} {d1} {d2} {a} {b} {c} {at} {next} pool k d v id number is same p w broken =
      subst (λ (x : Datum). Writes written failures d0 d2 a c at next (lengths_in_datum pool k x) (shortest_record number (payload_of pool k x))) (sym is)
      (subst (λ (l : Kind). Writes written failures d0 d2 a c at next (lengths_in_datum pool l (message v)) (shortest_record number (payload_of pool l (message v)))) (sym same)
      record { follows = λ more f. let one = w.follows more f in (puts_then (puts_then p one.0) (puts_lost broken), λ still. absurd (cc)) })

  -- a message: its fields, and then its unknown records
  pub writes_message :
      {d0 d1 d2 : D} {a b c : Sink} {at next : List ℕ} (pool : Types) (m : ℕ) (fs : Fields) (us : List Record)
      → Writes written failures d0 d1 a b at next (lengths_in_fields pool (message_fields pool m) fs) (shortest_records (canon_fields pool (message_fields pool m) fs)) → b.failed ≡ false
      → Puts written failures d1 d2 b c (shortest_records us) → Writes written failures d0 d2 a c at next (lengths_in_message pool m (body fs us)) (canon_bytes pool m (body fs us))
  writes_message {d0} {d1} {d2} {a} {b} {c} {at} {next} pool m fs us w open_ p = record {
    follows = λ more q.
        let one = w.follows more q in
        (subst (Puts written failures d0 d2 a c) (sym (shortest_records-append (canon_fields pool (message_fields pool m) fs) us)) (puts_then one.0 p), λ still. one.1 open_);
  }

  pub writes_message_lost :
      {d0 d1 : D} {a b : Sink} {at next : List ℕ} (pool : Types) (m : ℕ) (fs : Fields) (us : List Record)
      → Writes written failures d0 d1 a b at next (lengths_in_fields pool (message_fields pool m) fs) (shortest_records (canon_fields pool (message_fields pool m) fs)) → b.failed ≡ true
      → Writes written failures d0 d1 a b at next (lengths_in_message pool m (body fs us)) (canon_bytes pool m (body fs us))
  writes_message_lost {d0} {d1} {a} {b} pool m fs us w broken = record {
    follows = λ more q.
        let one = w.follows more q in
        (subst (Puts written failures d0 d1 a b) (sym (shortest_records-append (canon_fields pool (message_fields pool m) fs) us)) (puts_then one.0 (puts_lost broken)), λ still. absurd (cc));
  }

  -- FIELDS

  pub write_fields_step :
      {d0 d1 d2 : D} {a b c : Sink} {at next after_at : List ℕ} (pool : Types) (all : List FieldView) (whole before after : List (ℕ × Content)) (n : ℕ) (h : Content) (f : FieldView) → before ≡ (n, h) ∷ after
      → field_numbered n all ≡ Some f → b.failed ≡ false → Writes written failures d1 d2 b c next after_at (lengths_in_holding pool f (content_view h)) (shortest_records (canon_holding pool f (content_view h)))
      → ToWrite written failures d0 d1 a b at next (shortest_records (canon_fields pool all (fields_view before))) (shortest_records (canon_fields pool all (fields_view whole))) (lengths_in_fields pool all (fields_view before)) (lengths_in_fields pool all (fields_view whole))
      → ToWrite written failures d0 d2 a c at after_at (shortest_records (canon_fields pool all (fields_view after))) (shortest_records (canon_fields pool all (fields_view whole))) (lengths_in_fields pool all (fields_view after)) (lengths_in_fields pool all (fields_view whole))
  write_fields_step pool all whole before after n h f split found open_ w s =
      to_write_more (lengths_in_holding pool f (content_view h)) (lengths_in_fields pool all (fields_view after)) (shortest_records (canon_holding pool f (content_view h))) (shortest_records (canon_fields pool all (fields_view after))) s open_
      (ap (λ (fs : List (ℕ × Content)). shortest_records (canon_fields pool all (fields_view fs))) split
      ∙ ap (λ (o : Option FieldView). shortest_records (by_field o (λ (g : FieldView). canon_holding pool g (content_view h)) ++ canon_fields pool all (fields_view after))) found
      ∙ shortest_records-append (canon_holding pool f (content_view h)) (canon_fields pool all (fields_view after)))
      (ap (λ (fs : List (ℕ × Content)). lengths_in_fields pool all (fields_view fs)) split
      ∙ ap (λ (o : Option FieldView). lengths_by_field o (λ (g : FieldView). lengths_in_holding pool g (content_view h)) ++ lengths_in_fields pool all (fields_view after)) found)
      w

  pub write_fields_skip :
      {d0 d1 : D} {a b : Sink} {at next : List ℕ} (pool : Types) (all : List FieldView) (whole before after : List (ℕ × Content)) (n : ℕ) (h : Content) → before ≡ (n, h) ∷ after → field_numbered n all ≡ None
      → ToWrite written failures d0 d1 a b at next (shortest_records (canon_fields pool all (fields_view before))) (shortest_records (canon_fields pool all (fields_view whole))) (lengths_in_fields pool all (fields_view before)) (lengths_in_fields pool all (fields_view whole))
      → ToWrite written failures d0 d1 a b at next (shortest_records (canon_fields pool all (fields_view after))) (shortest_records (canon_fields pool all (fields_view whole))) (lengths_in_fields pool all (fields_view after)) (lengths_in_fields pool all (fields_view whole))
  write_fields_skip pool all whole before after n h split none s =
      to_write_same s
      (ap (λ (fs : List (ℕ × Content)). shortest_records (canon_fields pool all (fields_view fs))) split
      ∙ ap (λ (o : Option FieldView). shortest_records (by_field o (λ (g : FieldView). canon_holding pool g (content_view h)) ++ canon_fields pool all (fields_view after))) none)
      (ap (λ (fs : List (ℕ × Content)). lengths_in_fields pool all (fields_view fs)) split
      ∙ ap (λ (o : Option FieldView). lengths_by_field o (λ (g : FieldView). lengths_in_holding pool g (content_view h)) ++ lengths_in_fields pool all (fields_view after)) none)

  pub write_fields_start :
      {d : D} {a : Sink} {at : List ℕ} (pool : Types) (all : List FieldView) (whole before : List (ℕ × Content)) → before ≡ whole
      → ToWrite written failures d d a a at at (shortest_records (canon_fields pool all (fields_view before))) (shortest_records (canon_fields pool all (fields_view whole))) (lengths_in_fields pool all (fields_view before)) (lengths_in_fields pool all (fields_view whole))
  write_fields_start pool all whole before e =
      to_write_same (to_write_start _ _ _) (ap (λ (fs : List (ℕ × Content)). shortest_records (canon_fields pool all (fields_view fs))) (sym e)) (ap (λ (fs : List (ℕ × Content)). lengths_in_fields pool all (fields_view fs)) (sym e))

  pub write_fields_end :
      {d0 d1 : D} {a b : Sink} {at next : List ℕ} {whole whole_inside : List ℕ} (pool : Types) (all : List FieldView) (left : List (ℕ × Content)) → left ≡ []
      → ToWrite written failures d0 d1 a b at next (shortest_records (canon_fields pool all (fields_view left))) whole (lengths_in_fields pool all (fields_view left)) whole_inside → Writes written failures d0 d1 a b at next whole_inside whole
  write_fields_end pool all left e s =
      to_write_done s (ap (λ (fs : List (ℕ × Content)). shortest_records (canon_fields pool all (fields_view fs))) e) (ap (λ (fs : List (ℕ × Content)). lengths_in_fields pool all (fields_view fs)) e)

  -- ENTRIES

  pub write_entries_start :
      {d : D} {a : Sink} {at : List ℕ} (pool : Types) (f : FieldView) (whole before : List (MapKey × Value)) → before ≡ whole
      → ToWrite written failures d d a a at at (shortest_records (canon_entries pool f (entries_view before))) (shortest_records (canon_entries pool f (entries_view whole))) (lengths_in_entries pool f (entries_view before)) (lengths_in_entries pool f (entries_view whole))
  write_entries_start pool f whole before e =
      to_write_same (to_write_start _ _ _) (ap (λ (es : List (MapKey × Value)). shortest_records (canon_entries pool f (entries_view es))) (sym e)) (ap (λ (es : List (MapKey × Value)). lengths_in_entries pool f (entries_view es)) (sym e))

  pub write_entries_step :
      {d0 d1 d2 : D} {a b c : Sink} {at next after_at : List ℕ} {whole whole_inside : List ℕ} (pool : Types) (f : FieldView) (before after : List (MapKey × Value)) (k : MapKey) (v : Value) → before ≡ (k, v) ∷ after
      → b.failed ≡ false
      → Writes written failures d1 d2 b c next after_at (length (shortest_records (entry_records pool (key_kind f.shape f.kind) f.kind (key_view k) (value_view v))) ∷ lengths_in_datum pool f.kind (value_view v)) (shortest_record f.number (sealed (entry_records pool (key_kind f.shape f.kind) f.kind (key_view k) (value_view v))))
      → ToWrite written failures d0 d1 a b at next (shortest_records (canon_entries pool f (entries_view before))) whole (lengths_in_entries pool f (entries_view before)) whole_inside
      → ToWrite written failures d0 d2 a c at after_at (shortest_records (canon_entries pool f (entries_view after))) whole (lengths_in_entries pool f (entries_view after)) whole_inside
  write_entries_step pool f before after k v split open_ w s =
      let rs = entry_records pool (key_kind f.shape f.kind) f.kind (key_view k) (value_view v) in
      to_write_more (length (shortest_records rs) ∷ lengths_in_datum pool f.kind (value_view v)) (lengths_in_entries pool f (entries_view after)) (shortest_record f.number (sealed rs)) (shortest_records (canon_entries pool f (entries_view after))) s open_
      (ap (λ (es : List (MapKey × Value)). shortest_records (canon_entries pool f (entries_view es))) split) (ap (λ (es : List (MapKey × Value)). lengths_in_entries pool f (entries_view es)) split) w

  pub write_entries_end :
      {d0 d1 : D} {a b : Sink} {at next : List ℕ} {whole whole_inside : List ℕ} (pool : Types) (f : FieldView) (left : List (MapKey × Value)) → left ≡ []
      → ToWrite written failures d0 d1 a b at next (shortest_records (canon_entries pool f (entries_view left))) whole (lengths_in_entries pool f (entries_view left)) whole_inside → Writes written failures d0 d1 a b at next whole_inside whole
  write_entries_end pool f left e s =
      to_write_done s (ap (λ (es : List (MapKey × Value)). shortest_records (canon_entries pool f (entries_view es))) e) (ap (λ (es : List (MapKey × Value)). lengths_in_entries pool f (entries_view es)) e)

  -- an entry: its key and its value after their length
  pub writes_entry :
      {d0 d1 d2 d3 : D} {a b c e : Sink} {at inside_at next : List ℕ} {inside : List ℕ} (number size : ℕ) (key value : Payload)
      → ((n : ℕ) (more : List ℕ) → at ≡ n ∷ more → (size ≡ n) × (inside_at ≡ more)) → Puts written failures d0 d1 a b (shortest (8 * number + 2) ++ shortest size) → Puts written failures d1 d2 b c (shortest_record 1 key)
      → Writes written failures d2 d3 c e inside_at next inside (shortest_record 2 value)
      → Writes written failures d0 d3 a e at next (length (shortest_records (record_of 1 key ∷ record_of 2 value ∷ [])) ∷ inside) (shortest_record number (sealed (record_of 1 key ∷ record_of 2 value ∷ [])))
  writes_entry number size key value look p first second =
      writes_sealed number size (shortest_records (record_of 1 key ∷ record_of 2 value ∷ [])) look p
      (writes_same refl (ap (λ (l : List ℕ). shortest_record 1 key ++ l) (sym (append-nil (shortest_record 2 value)))) (writes_after first second))

  -- LISTS

  pub write_values_step :
      {d0 d1 d2 : D} {a b c : Sink} {at next after_at : List ℕ} {whole whole_inside : List ℕ} (pool : Types) (f : FieldView) (vs : List Value) (i : ℕ) (d : Value) → i < length vs → b.failed ≡ false
      → Writes written failures d1 d2 b c next after_at (lengths_in_datum pool f.kind (value_view (get_or vs i d))) (shortest_record f.number (payload_of pool f.kind (value_view (get_or vs i d))))
      → ToWrite written failures d0 d1 a b at next (shortest_records (canon_each pool f (values_view (drop i vs)))) whole (lengths_in_each pool f.kind (values_view (drop i vs))) whole_inside
      → ToWrite written failures d0 d2 a c at after_at (shortest_records (canon_each pool f (values_view (drop (i + 1) vs)))) whole (lengths_in_each pool f.kind (values_view (drop (i + 1) vs))) whole_inside
  write_values_step pool f vs i d h open_ w s =
      to_write_more (lengths_in_datum pool f.kind (value_view (get_or vs i d))) (lengths_in_each pool f.kind (values_view (drop (i + 1) vs))) (shortest_record f.number (payload_of pool f.kind (value_view (get_or vs i d)))) (shortest_records (canon_each pool f (values_view (drop (i + 1) vs)))) s open_
      (ap (λ (ws : List Value). shortest_records (canon_each pool f (values_view ws))) (drop_more vs i d h)) (ap (λ (ws : List Value). lengths_in_each pool f.kind (values_view ws)) (drop_more vs i d h)) w

  pub write_values_end :
      {d0 d1 : D} {a b : Sink} {at next : List ℕ} {whole whole_inside : List ℕ} (pool : Types) (f : FieldView) (vs : List Value) (i : ℕ) → length vs ≤ i
      → ToWrite written failures d0 d1 a b at next (shortest_records (canon_each pool f (values_view (drop i vs)))) whole (lengths_in_each pool f.kind (values_view (drop i vs))) whole_inside → Writes written failures d0 d1 a b at next whole_inside whole
  write_values_end pool f vs i h s =
      to_write_done s (ap (λ (ws : List Value). shortest_records (canon_each pool f (values_view ws))) (drop_of_length-le vs h)) (ap (λ (ws : List Value). lengths_in_each pool f.kind (values_view ws)) (drop_of_length-le vs h))

  pub writes_packed :
      {d0 d1 : D} {a b : Sink} {at next : List ℕ} (pool : Types) (f : FieldView) (ds : Datums) → is_packed f.shape ≡ true
      → Writes written failures d0 d1 a b at next (length (packed_bytes f.kind ds) ∷ []) (shortest_record f.number (len (packed_bytes f.kind ds)))
      → Writes written failures d0 d1 a b at next (lengths_in_holding pool f (list ds)) (shortest_records (canon_holding pool f (list ds)))
  writes_packed pool f ds e h =
      writes_same (ap (λ (p : Bool). if p then length (packed_bytes f.kind ds) ∷ [] else lengths_in_each pool f.kind ds) (sym e))
      (sym (append-nil (shortest_record f.number (len (packed_bytes f.kind ds)))) ∙ ap (λ (p : Bool). shortest_records (if p then record_of f.number (len (packed_bytes f.kind ds)) ∷ [] else canon_each pool f ds)) (sym e)) h

  pub writes_unpacked :
      {d0 d1 : D} {a b : Sink} {at next : List ℕ} (pool : Types) (f : FieldView) (ds : Datums) → is_packed f.shape ≡ false
      → Writes written failures d0 d1 a b at next (lengths_in_each pool f.kind ds) (shortest_records (canon_each pool f ds))
      → Writes written failures d0 d1 a b at next (lengths_in_holding pool f (list ds)) (shortest_records (canon_holding pool f (list ds)))
  writes_unpacked pool f ds e h =
      writes_same (ap (λ (p : Bool). if p then length (packed_bytes f.kind ds) ∷ [] else lengths_in_each pool f.kind ds) (sym e))
      (ap (λ (p : Bool). shortest_records (if p then record_of f.number (len (packed_bytes f.kind ds)) ∷ [] else canon_each pool f ds)) (sym e)) h

  -- one value that holds no part with a length
  pub writes_scalar :
      {d0 d1 : D} {a b : Sink} {at : List ℕ} (pool : Types) (k : Kind) (d : Datum) (number : ℕ) (p : Payload) → is_plain k d ≡ true → p ≡ plain_payload k d → Puts written failures d0 d1 a b (shortest_record number p)
      → Writes written failures d0 d1 a b at at (lengths_in_datum pool k d) (shortest_record number (payload_of pool k d))
  writes_scalar pool k d number p plain e h =
      let parts = plain_parts pool k d plain in writes_same (sym parts.1) (ap (shortest_record number) (e ∙ sym parts.0)) (writes_plain h)

  -- a whole message, by its own lengths
  pub written_whole : {d0 d1 : D} {a b : Sink} {at next : List ℕ} (inside bytes : List ℕ) → at ≡ inside → Writes written failures d0 d1 a b at next inside bytes → Puts written failures d0 d1 a b bytes
  written_whole inside bytes e w = (w.follows [] (e ∙ sym (append-nil inside))).0

  -- A WHOLE TEXT

  -- all that was put into a new buffer, with nothing left in it
  pub carries_whole :
      {d0 d1 d2 : D} {b c : Sink} (a : Sink) (bytes : List ℕ) → a ≡ record { held = []; sent = 0; failed = false } → Puts written failures d0 d1 a b bytes → Puts written failures d1 d2 b c [] → Carries written failures d0 d2 c bytes
  carries_whole {d0} {d1} {d2} {b} {c} a bytes e p q =
      let none : Carries written failures d0 d0 record { held = []; sent = 0; failed = false } [] = record { front = []; rest = []; whole = refl; went_out = Appends-nil (written d0); counted = λ small. refl; state = (refl, refl) } in
      subst (Carries written failures d0 d2 c) (append-nil bytes) (q.follow d0 bytes (p.follow d0 [] (subst (λ (x : Sink). Carries written failures d0 d0 x []) (sym e) none)))

  -- with no failure, all of it went out
  pub carries_all : {d0 d1 : D} {b : Sink} (bytes : List ℕ) → Carries written failures d0 d1 b bytes → (b.failed ≡ false → b.held ≡ []) → b.failed ≡ false → Appends (written d0) (written d1) bytes × (failures d1 ≡ failures d0)
  carries_all {d0} {d1} {b} bytes h empty open_ =
      let st : IsRest false (failures d0) (failures d1) b.held h.rest = subst (λ (f : Bool). IsRest f (failures d0) (failures d1) b.held h.rest) open_ h.state in
      (subst (Appends (written d0) (written d1)) (sym (append-nil h.front) ∙ ap (λ (l : List ℕ). h.front ++ l) (sym (st.1 ∙ empty open_)) ∙ sym h.whole) h.went_out, st.0)

  -- after a failure, the first of it, as many as are counted
  pub carries_part :
      {d0 d1 : D} {b : Sink} (bytes : List ℕ) (n : ℕ) → Carries written failures d0 d1 b bytes → length bytes < 2 ^ 31 → b.failed ≡ true → n ≡ b.sent
      → (failures d1 ≢ failures d0) × (n < length bytes) × Appends (written d0) (written d1) (take n bytes)
  carries_part {d0} {d1} {b} bytes n h small broken e =
      let st : IsRest true (failures d0) (failures d1) b.held h.rest = subst (λ (f : Bool). IsRest f (failures d0) (failures d1) b.held h.rest) broken h.state in
      let count : n ≡ length h.front = e ∙ h.counted (omega (arith, small)) in
      let size = ap length h.whole ∙ length-append h.front h.rest in
      let some = st.1 in
      (st.0, omega (arith, size, some, count), subst (Appends (written d0) (written d1)) (sym (ap (λ (i : ℕ). take i bytes) count ∙ ap (take (length h.front)) h.whole ∙ take-append_seam h.front h.rest)) h.went_out)

-- what a buffer's failure says
pub open_of : (b : Bool) (n : ℕ) → (if b then Some n else None) ≡ None → b ≡ false
open_of true n e = absurd (cc)
open_of false n e = refl

pub broken_of : (b : Bool) (m n : ℕ) → (if b then Some n else None) ≡ Some m → (b ≡ true) × (m ≡ n)
broken_of true m n e = (refl, cc)
broken_of false m n e = absurd (cc)
