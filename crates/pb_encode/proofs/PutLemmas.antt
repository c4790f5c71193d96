-- Putting part by part.
use Rattle.std.proofs.Common.{◌≡◌, ℕ, ◌+◌, ◌<◌, List, [], ◌++◌, length, drop, get_or, refl, ap, sym, ◌∙◌, subst, append_assoc, append-nil, Option}
use Rattle.std.specs.Prelude.{true}
use Rattle.std.proofs.lemmas.List.{drop_more}
use Rattle.pb_wire.specs.Varint.{shortest}
use Rattle.pb_wire.specs.Spell.{shortest_record, shortest_records}
use Rattle.pb_wire.specs.declared.unknown.Unknown.{Unknown}
use Rattle.pb_wire.specs.Unknown.{payload_of, records_of}
use Rattle.pb_schema.specs.declared.types.Kind.{Kind}
use Rattle.pb_schema.specs.Packed.{element_bytes}
use Rattle.pb_value.specs.Data.{Datum, scalar, message, Datums, no_datums, datum}
use Rattle.pb_value.specs.Canon.{packed_bytes}
use Rattle.pb_value.specs.View.{value_view, values_view}
use Rattle.pb_value.specs.declared.body.Value.{Value}
use Rattle.pb_output.specs.declared.sink.Sink.{Sink}
use Rattle.pb_output.specs.Sink.{Puts}
use Rattle.pb_output.proofs.SinkLemmas.{puts_none, puts_then, puts_lost}

-- of a whole some was put, and these bytes are left
pub record ToPut {D : Type 0} (written : D → Option (List ℕ)) (failures : D → ℕ) (start now : D) (a b : Sink) (rest all : List ℕ) : Type 0 where
  pub done : List ℕ
  pub whole : done ++ rest ≡ all
  pub puts : Puts written failures start now a b done

-- the bytes of an element stand before the others
packed_more : (k : Kind) (d : Datum) (ds : Datums) → packed_bytes k (datum d ds) ≡ packed_bytes k (datum d no_datums) ++ packed_bytes k ds
packed_more k (scalar x) ds = ap (λ (l : List ℕ). l ++ packed_bytes k ds) (sym (append-nil (element_bytes k x)))
packed_more k (message m) ds = refl

module _ {D : Type 0} {written : D → Option (List ℕ)} {failures : D → ℕ} where
  -- bytes after a number that is given in two ways
  pub puts_behind_number :
      {d0 d1 : D} {a b : Sink} (m n : ℕ) (rest : List ℕ) → m ≡ n → Puts written failures d0 d1 a b (shortest m ++ rest) → Puts written failures d0 d1 a b (shortest n ++ rest)
  puts_behind_number {d0} {d1} {a} {b} m n rest e h = subst (λ (i : ℕ). Puts written failures d0 d1 a b (shortest i ++ rest)) e h

  pub to_put_start : {d : D} {a : Sink} (all : List ℕ) → ToPut written failures d d a a all all
  to_put_start all = record { done = []; whole = refl; puts = puts_none }

  pub to_put_more :
      {d0 d1 d2 : D} {a b c : Sink} {rest all : List ℕ} (bs cs : List ℕ) → ToPut written failures d0 d1 a b rest all → rest ≡ bs ++ cs → Puts written failures d1 d2 b c bs → ToPut written failures d0 d2 a c cs all
  to_put_more {d0} {d1} {d2} {a} {b} {c} {rest} {all} bs cs h e p = record {
    done = h.done ++ bs;
    whole = append_assoc h.done bs cs ∙ ap (λ (l : List ℕ). h.done ++ l) (sym e) ∙ h.whole;
    puts = puts_then h.puts p;
  }

  pub to_put_done : {d0 d1 : D} {a b : Sink} {rest all : List ℕ} → ToPut written failures d0 d1 a b rest all → rest ≡ [] → Puts written failures d0 d1 a b all
  to_put_done {d0} {d1} {a} {b} {rest} {all} h e =
      subst (Puts written failures d0 d1 a b) (sym (append-nil h.done) ∙ ap (λ (l : List ℕ). h.done ++ l) (sym e) ∙ h.whole) h.puts

  pub to_put_lost : {d0 d1 : D} {a b : Sink} {rest all : List ℕ} → ToPut written failures d0 d1 a b rest all → b.failed ≡ true → Puts written failures d0 d1 a b all
  to_put_lost {d0} {d1} {a} {b} {rest} {all} h broken = subst (Puts written failures d0 d1 a b) h.whole (puts_then h.puts (puts_lost broken))

  pub to_put_record :
      {d0 d1 d2 : D} {a b c : Sink} {all : List ℕ} (xs : List (ℕ × Unknown)) (i : ℕ) (d : ℕ × Unknown) → i < length xs → ToPut written failures d0 d1 a b (shortest_records (records_of (drop i xs))) all
      → Puts written failures d1 d2 b c (shortest_record (get_or xs i d).0 (payload_of (get_or xs i d).1)) → ToPut written failures d0 d2 a c (shortest_records (records_of (drop (i + 1) xs))) all
  to_put_record xs i d h before one =
      to_put_more _ _ before (ap (λ (ys : List (ℕ × Unknown)). shortest_records (records_of ys)) (drop_more xs i d h)) one

  pub to_put_element :
      {d0 d1 d2 : D} {a b c : Sink} {all : List ℕ} (k : Kind) (xs : List Value) (i : ℕ) (d : Value) → i < length xs → ToPut written failures d0 d1 a b (packed_bytes k (values_view (drop i xs))) all
      → Puts written failures d1 d2 b c (packed_bytes k (datum (value_view (get_or xs i d)) no_datums)) → ToPut written failures d0 d2 a c (packed_bytes k (values_view (drop (i + 1) xs))) all
  to_put_element k xs i d h before one =
      to_put_more _ _ before (ap (λ (ys : List Value). packed_bytes k (values_view ys)) (drop_more xs i d h) ∙ packed_more k (value_view (get_or xs i d)) (values_view (drop (i + 1) xs))) one
