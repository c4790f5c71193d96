-- The same bytes at a later position: their fault is as much later, and nothing else of it changes.
use Rattle.std.proofs.Common.{◌≡◌, ℕ, ◌+◌, ◌*◌, List, [], ◌∷◌, take, ap, ◌∙◌, arith, Option}
use Rattle.std.specs.Str.Lossy.{utf8_valid_len}
use Rattle.pb_wire.specs.Varint.{IsVarint}
use Rattle.pb_wire.specs.Record.{Record}
use Rattle.pb_wire.specs.Fault.{Fault, fault, step, Place, input_end, Moves, Leads, HasTag, HasLength, TagFault, VarintFault, FixedFault, LengthFault, CutFault}
use Rattle.pb_wire.specs.Schema.{Schema, Element, a_varint, four_bytes, eight_bytes, Open, records, in_group}
use Rattle.pb_wire.specs.Grammar.{Begins, payload_at, Bad, RecordFault, BadElements, ElementFault}
use Rattle.pb_wire.specs.declared.fault.Cause.TheVariants.{Truncated, BadText}

abbrev pub place_later : ℕ → Place → Place
place_later n p = record p { at = p.at + n }

abbrev pub later : ℕ → Fault → Fault
later n f = record f { byte = f.byte + n }

module _ (n : ℕ) where
  moves_later : {p q : Place} (a : List ℕ) → Moves p a q → Moves (place_later n p) a (place_later n q)
  moves_later a m = record { given = m.given; within = m.within; at = let e = m.at in omega (arith, e); known = m.known }

  leads_later : (Body : List ℕ → Type 0) (p q : Place) → Leads Body p q → Leads Body (place_later n p) (place_later n q)
  leads_later Body p q h = (h.0, h.1, moves_later h.0 h.2)

  tag_later : {p q : Place} {k w : ℕ} → HasTag p k w q → HasTag (place_later n p) k w (place_later n q)
  tag_later {p} {q} {k} {w} t = record { tag = leads_later (IsVarint (8 * k + w)) p q t.tag; number = t.number; type = t.type }

  length_later : {p q : Place} {m : ℕ} → HasLength p m q → HasLength (place_later n p) m (place_later n q)
  length_later {p} {q} {m} l = record { length_is = leads_later (IsVarint m) p q l.length_is; small = l.small; within = l.within }

  -- a fault at the end of the input
  end_later : {f : Fault} (p : Place) → f ≡ fault (input_end p) [] Truncated → later n f ≡ fault (input_end (place_later n p)) [] Truncated
  end_later p is = let same : input_end p + n ≡ input_end (place_later n p) = omega arith in ap (later n) is ∙ ap (λ (z : ℕ). fault z [] Truncated) same

  varint_later : {p : Place} {f : Fault} → VarintFault p f → VarintFault (place_later n p) (later n f)
  varint_later {p} (VarintFault.too_long long high is) = VarintFault.too_long long high (ap (later n) is)
  varint_later {p} (VarintFault.past_end short high known is) = VarintFault.past_end short high known (ap (later n) is)
  varint_later {p} (VarintFault.cut_short short high known is) = VarintFault.cut_short short high known (end_later p is)

  fixed_later : {p : Place} {size : ℕ} {f : Fault} → FixedFault size p f → FixedFault size (place_later n p) (later n f)
  fixed_later {p} (FixedFault.past_end past is) = FixedFault.past_end past (ap (later n) is)
  fixed_later {p} (FixedFault.cut_short within cut is) = FixedFault.cut_short within cut (end_later p is)

  length_fault_later : {p : Place} {f : Fault} → LengthFault p f → LengthFault (place_later n p) (later n f)
  length_fault_later (LengthFault.token v) = LengthFault.token (varint_later v)
  length_fault_later {p} (LengthFault.too_large {n = m} {q = q} r large is) = LengthFault.too_large (leads_later (IsVarint m) p q r) large (ap (later n) is)
  length_fault_later {p} (LengthFault.past_end {n = m} {q = q} r small past is) = LengthFault.past_end (leads_later (IsVarint m) p q r) small past (ap (later n) is)

  cut_later : {p : Place} {f : Fault} → CutFault p f → CutFault (place_later n p) (later n f)
  cut_later h = record { size = h.size; payload = place_later n h.payload; length_is = length_later h.length_is; cut = h.cut; fault_is = end_later h.payload h.fault_is }

  tag_fault_later : {o : Option ℕ} {p : Place} {f : Fault} → TagFault o p f → TagFault o (place_later n p) (later n f)
  tag_fault_later (TagFault.token v) = TagFault.token (varint_later v)
  tag_fault_later {o} {p} (TagFault.too_large {n = m} {q = q} r a is) = TagFault.too_large (leads_later (IsVarint m) p q r) a (ap (later n) is)
  tag_fault_later {o} {p} (TagFault.number_zero {n = m} {q = q} r a is) = TagFault.number_zero (leads_later (IsVarint m) p q r) a (ap (later n) is)
  tag_fault_later {o} {p} (TagFault.bad_type {n = m} {q = q} r a b c is) = TagFault.bad_type (leads_later (IsVarint m) p q r) a b c (ap (later n) is)
  tag_fault_later (TagFault.stray_end t e is) = TagFault.stray_end (tag_later t) e (ap (later n) is)
  tag_fault_later (TagFault.wrong_end t e other is) = TagFault.wrong_end (tag_later t) e other (ap (later n) is)

  element_later : (e : Element) (p : Place) (f : Fault) → ElementFault e p f → ElementFault e (place_later n p) (later n f)
  element_later a_varint p f h = varint_later h
  element_later four_bytes p f h = fixed_later h
  element_later eight_bytes p f h = fixed_later h

  elements_later : (e : Element) (p : Place) (f : Fault) → BadElements e p f → BadElements e (place_later n p) (later n f)
  elements_later e p f (front, q, es, m, goes, bad) = (front, place_later n q, es, moves_later front m, goes, element_later e q f bad)

  begins_later : {C : Type 0} (o : Open C) (p : Place) → Begins o p → Begins o (place_later n p)
  begins_later (records c) p b = b
  begins_later (in_group k c) p b = b

  mutual
    pub bad_later : {S : Schema} {o : Open S.Context} {depth_left : ℕ} {p : Place} {f : Fault} → Bad S o depth_left p f → Bad S o depth_left (place_later n p) (later n f)
    bad_later (Bad.at_record {o = o} {q = q} {front = front} w m goes bad) = Bad.at_record w (moves_later front m) (begins_later o q goes) (record_later bad)
    bad_later (Bad.at_end {front = front} is w m end e) = Bad.at_end is w (moves_later front m) end (ap (later n) e)

    record_later :
        {S : Schema} {o : Open S.Context} {before : List Record} {depth_left : ℕ} {p : Place} {f : Fault} → RecordFault S o before depth_left p f
        → RecordFault S o before depth_left (place_later n p) (later n f)
    record_later (RecordFault.tag t) = RecordFault.tag (tag_fault_later t)
    record_later (RecordFault.group_too_deep t z is) = RecordFault.group_too_deep (tag_later t) z (ap (later n) is)
    record_later (RecordFault.message_too_deep t re z is) = RecordFault.message_too_deep (tag_later t) re z (ap (later n) is)
    record_later (RecordFault.varint t v is) = RecordFault.varint (tag_later t) (varint_later v) (ap (later n) is)
    record_later (RecordFault.fixed64 t v is) = RecordFault.fixed64 (tag_later t) (fixed_later v) (ap (later n) is)
    record_later (RecordFault.fixed32 t v is) = RecordFault.fixed32 (tag_later t) (fixed_later v) (ap (later n) is)
    record_later (RecordFault.in_a_group t bad is) = RecordFault.in_a_group (tag_later t) (bad_later bad) (ap (later n) is)
    record_later (RecordFault.length_of t a v is) = RecordFault.length_of (tag_later t) a (length_fault_later v) (ap (later n) is)
    record_later (RecordFault.cut_payload t re v is) = RecordFault.cut_payload (tag_later t) re (cut_later v) (ap (later n) is)
    record_later (RecordFault.bad_text {before = before} {k = k} {n = m} {r = r} t re l given bad is) =
        let same : r.at + utf8_valid_len (take m r.rest) + n ≡ r.at + n + utf8_valid_len (take m r.rest) = omega arith in
        RecordFault.bad_text (tag_later t) re (length_later l) given bad (ap (later n) is ∙ ap (λ (z : ℕ). fault z (step k before ∷ []) BadText) same)
    record_later (RecordFault.in_a_list {n = m} {e = e} {r = r} {g = g} t re l bad is) = RecordFault.in_a_list (tag_later t) re (length_later l) (elements_later e (payload_at r m) g bad) (ap (later n) is)
    record_later (RecordFault.in_a_message t re l bad is) = RecordFault.in_a_message (tag_later t) re (length_later l) (bad_later bad) (ap (later n) is)
    record_later (RecordFault.in_a_value t re l bad is) = RecordFault.in_a_value (tag_later t) re (length_later l) (bad_later bad) (ap (later n) is)
