-- Bytes that are read whole have no fault, and others have at most one.
use Rattle.std.proofs.Common.{◌≡◌, ◌≢◌, ℕ, suc, ◌+◌, ◌-◌, ◌<◌, ◌≤◌, List, [], ◌∷◌, ◌++◌, length, take, refl, sym, ap, subst, ◌∙◌, arith, Some, ◌⊎◌, inl, inr, ⊎_elim, IsUtf8}
use Rattle.std.specs.Str.Lossy.{utf8_valid_len}
use Rattle.std.proofs.lemmas.List.{take_at, append_cancel_right}
use Rattle.pb_wire.specs.Record.{Record, len}
use Rattle.pb_wire.specs.Fault.{Fault, fault, step, inside, Place, Moves, HasTag, HasLength, TagFault, VarintFault, FixedFault, LengthFault, CutFault}
use Rattle.pb_wire.specs.Schema.{Schema, Element, Reading, unread, text, message, same_level, packed, Open, records, in_group, context_of, open_group}
use Rattle.pb_wire.specs.Sound.{Sound}
use Rattle.pb_wire.specs.Spell.{AreRecords}
use Rattle.pb_wire.specs.declared.fault.PathStep.{PathStep}
use Rattle.pb_wire.specs.Grammar.{Whole, Begins, payload_at, Bad, RecordFault, BadElements, IsAllowed}
use Rattle.pb_wire.specs.Exact.{IsOver, IsRead}
use Rattle.pb_wire.specs.declared.fault.Cause.TheVariants.{PastEnd, TooDeep, BadText}
use Rattle.pb_wire.proofs.Unique.{same_records}
use Rattle.pb_wire.proofs.Places.{none_before, fewer, moves_from}
use Rattle.pb_wire.proofs.Tokens.{ends_some, one_tag, one_length, varint_not_both, one_varint_fault, fixed_not_both, one_fixed_fault, length_not_both, one_length_fault, one_cut, cut_not_both, length_or_cut, one_tag_fault, tag_not_both, tag_not_record}
use Rattle.pb_wire.proofs.Elements.{elements_not_both, one_elements_fault}
use Rattle.pb_wire.proofs.Fronts.{RecordAt, EndAt, record_some, no_record_at_end, align, record_parts, value_at, not_end_tag, varint_value, fixed64_value, fixed32_value, LenValue, len_value, GroupValue, group_value, sound_text, sound_list, sound_message, sound_value, sound_group, AreRecords-from_group}

not_over : {C : Type 0} (c : C) (q : Place) → Begins (records c) q → IsOver q → ⊥
not_over c q b (inl e) = b.0 e
not_over c q b (inr e) = b.1 e.0 e.1

no_record_over : {S : Schema} {c : S.Context} {depth_left : ℕ} {q : Place} → IsOver q → RecordAt S c depth_left q → ⊥
no_record_over (inl e) h = no_record_at_end e h
no_record_over {S} {c} {depth_left} {q} (inr e) h =
    let size = fewer h.1 h.5 in let none : length q.rest ≡ 0 = ap length e.1 in let some = record_some h in omega (arith, size, none, some)

-- after a prefix that is read completely comes a record, the end tag, or the end
read_from :
    {S : Schema} (o : Open S.Context) {depth_left : ℕ} {p q : Place} (front : List ℕ) → Whole S (context_of o) depth_left front → Moves p front q
    → IsRead S o depth_left p → Begins o q → RecordAt S (context_of o) depth_left q ⊎ EndAt o q
read_from {S} (records c) {depth_left} {p} {q} front w m good goes =
    ⊎_elim (λ (e : q ≡ good.1). absurd (not_over c q goes (rw e good.4)))
    (⊎_elim (λ h. inl h) (λ (h : RecordAt S c depth_left good.1). absurd (no_record_over good.4 h)))
    (align w.0 good.2.0 front good.0 w.1 good.2.1 w.2 good.2.2 m good.3)
read_from {S} (in_group k c) {depth_left} {p} {q} front w m good goes =
    ⊎_elim (λ (e : q ≡ good.1). inr (k, good.4.0, refl, rw e good.4.1))
    (⊎_elim (λ h. inl h) (λ (h : RecordAt S c depth_left good.1). absurd (not_end_tag h good.4.1)))
    (align w.0 good.2.0 front good.0 w.1 good.2.1 w.2 good.2.2 m good.3)

pub no_tag_at_end : {p q : Place} {k w : ℕ} → p.known ≡ Some 0 → HasTag p k w q → ⊥
no_tag_at_end e t = let n = none_before t.tag.0 t.tag.2 e in let s = ends_some t.tag.0 t.tag.1.ends in omega (arith, n, s)

-- a group that ends has its end tag before the known end
end_not_read :
    {S : Schema} (o : Open S.Context) {depth_left k : ℕ} (c : S.Context) {p q : Place} (front : List ℕ) → o ≡ in_group k c → Whole S c depth_left front
    → Moves p front q → q.known ≡ Some 0 → IsRead S o depth_left p → ⊥
end_not_read {S} (records d) {depth_left} {k} c front is w m end good = cc
end_not_read {S} (in_group l d) {depth_left} {k} c {p} {q} front is w m end good =
    let same : d ≡ c = cc in
    let theirs : Whole S c depth_left good.0 = rw same at good.2 in
    ⊎_elim (λ (e : q ≡ good.1). no_tag_at_end (sym (ap (λ (z : Place). z.known) e) ∙ end) good.4.1)
    (⊎_elim (λ (h : RecordAt S c depth_left q). no_record_at_end end h) (λ (h : RecordAt S c depth_left good.1). not_end_tag h good.4.1))
    (align w.0 theirs.0 front good.0 w.1 theirs.1 w.2 theirs.2 m good.3)

other_type : {p q r : Place} {k l : ℕ} (v w : ℕ) → HasTag p k v q → HasTag p l w r → v ≢ w → ⊥
other_type v w t u ne = ne (one_tag t u).1

bad_not_end : {S : Schema} {o : Open S.Context} {before : List Record} {depth_left : ℕ} {p : Place} {f : Fault} → RecordFault S o before depth_left p f → EndAt o p → ⊥
bad_not_end (RecordFault.tag t) e = tag_not_both t e.3 refl e.2
bad_not_end (RecordFault.group_too_deep t a b) e = other_type 3 4 t e.3 (λ h. omega arith)
bad_not_end (RecordFault.message_too_deep t a b c) e = other_type 2 4 t e.3 (λ h. omega arith)
bad_not_end (RecordFault.varint t a b) e = other_type 0 4 t e.3 (λ h. omega arith)
bad_not_end (RecordFault.fixed64 t a b) e = other_type 1 4 t e.3 (λ h. omega arith)
bad_not_end (RecordFault.fixed32 t a b) e = other_type 5 4 t e.3 (λ h. omega arith)
bad_not_end (RecordFault.in_a_group t a b) e = other_type 3 4 t e.3 (λ h. omega arith)
bad_not_end (RecordFault.length_of t a b c) e = other_type 2 4 t e.3 (λ h. omega arith)
bad_not_end (RecordFault.cut_payload t a b c) e = other_type 2 4 t e.3 (λ h. omega arith)
bad_not_end (RecordFault.bad_text t a b c d g) e = other_type 2 4 t e.3 (λ h. omega arith)
bad_not_end (RecordFault.in_a_list t a b c d) e = other_type 2 4 t e.3 (λ h. omega arith)
bad_not_end (RecordFault.in_a_message t a b c d) e = other_type 2 4 t e.3 (λ h. omega arith)
bad_not_end (RecordFault.in_a_value t a b c d) e = other_type 2 4 t e.3 (λ h. omega arith)

-- ---- what the payload of a sound record shows

-- a payload of a length, as the place before it sees it
record Payload2 (S : Schema) (c : S.Context) (depth_left k n : ℕ) (r : Place) : Type 0 where
  pub bytes : List ℕ
  pub after : Place
  pub size : n ≡ length bytes
  pub given : n ≤ length r.rest
  pub taken : take n r.rest ≡ bytes
  pub moves : Moves (payload_at r n) bytes after
  pub end : after.known ≡ Some 0
  pub sound : Sound S c depth_left k (len bytes)

payload_of :
    {S : Schema} {c : S.Context} {depth_left k n : ℕ} {p q r : Place} → RecordAt S c depth_left p → HasTag p k 2 q → HasLength q n r
    → Payload2 S c depth_left k n r
payload_of {S} {c} {depth_left} {k} {n} {p} {q} {r} h t l =
    let v = value_at h t in
    let s : LenValue S c depth_left k q v.0 = len_value v.1 in
    let same = one_length l s.size in
    let m : Moves r s.bytes v.0 = moves_from s.bytes (sym same.1) s.moves in
    let size = fewer s.bytes m in
    record {
      bytes = s.bytes;
      after = record v.0 { known = Some 0 };
      size = same.0;
      given = omega (arith, size, same.0);
      taken = rw m.given (take_at s.bytes v.0.rest n (sym same.0));
      moves = record {
        given = m.given;
        within = let e : length s.bytes ≤ n = omega (arith, same.0) in e;
        at = m.at;
        known = ap (λ (z : ℕ). Some z) (let e : 0 ≡ n - length s.bytes = omega (arith, same.0) in e);
      };
      end = refl;
      sound = s.sound;
    }

read_group :
    {S : Schema} {c : S.Context} {depth_left k : ℕ} {p q : Place} → RecordAt S c depth_left p → HasTag p k 3 q
    → (n : ℕ) × (depth_left ≡ suc n) × IsRead S (in_group k (S.group_context c k)) n q
read_group {S} {c} {depth_left} {k} {p} {q} h t =
    let v = value_at h t in
    let s : GroupValue S c depth_left k q v.0 = group_value v.1 in
    let sound = sound_group s.inside s.sound refl in
    let end : HasTag s.start k 4 v.0 = record { tag = s.end; number = t.number; type = let e : 4 < 6 = omega arith in e } in
    (sound.0, sound.1, (s.bytes, s.start, (sound.2, AreRecords-from_group sound.2 s.bytes (rw sound.3 at s.spelled), sound.4), s.moves, (v.0, end)))

mutual
  pub not_both : {S : Schema} {o : Open S.Context} {depth_left : ℕ} {p : Place} {f : Fault} → Bad S o depth_left p f → IsRead S o depth_left p → ⊥
  not_both {S} (Bad.at_record {o = o} {depth_left = depth_left} {p = p} {q = q} {front = front} w m goes bad) good =
      ⊎_elim (λ (h : RecordAt S (context_of o) depth_left q). bad_not_record bad h) (λ (h : EndAt o q). bad_not_end bad h)
      (read_from o front w m good goes)
  not_both (Bad.at_end {o = o} {c = c} {front = front} is w m end e) good = end_not_read o c front is w m end good

  pub bad_not_record :
      {S : Schema} {o : Open S.Context} {before : List Record} {depth_left : ℕ} {p : Place} {f : Fault} → RecordFault S o before depth_left p f → RecordAt S (context_of o) depth_left p → ⊥
  bad_not_record (RecordFault.tag t) h = let parts = record_parts h in tag_not_record t parts.tag parts.no_end
  bad_not_record (RecordFault.group_too_deep t zero_room is) h = let g = read_group h t in let e = g.1 in omega (arith, e, zero_room)
  bad_not_record (RecordFault.message_too_deep {d = d} t re zero_room is) h =
      let s = len_value (value_at h t).1 in
      let g = sound_message s.bytes d s.sound refl re in let e = g.1 in omega (arith, e, zero_room)
  bad_not_record (RecordFault.varint t v is) h = varint_not_both v (varint_value (value_at h t).1).1
  bad_not_record (RecordFault.fixed64 t v is) h = fixed_not_both v (fixed64_value (value_at h t).1)
  bad_not_record (RecordFault.fixed32 t v is) h = fixed_not_both v (fixed32_value (value_at h t).1)
  bad_not_record {S} (RecordFault.in_a_group {o = o} {depth_left = depth_left} {k = k} {q = q} t bad is) h =
      let g = read_group h t in
      let e : g.0 ≡ depth_left = let x = g.1 in omega (arith, x) in
      not_both bad (subst (λ (n : ℕ). IsRead S (in_group k (S.group_context (context_of o) k)) n q) e g.2)
  bad_not_record (RecordFault.length_of t allowed v is) h = length_not_both v (len_value (value_at h t).1).size
  bad_not_record (RecordFault.cut_payload t re v is) h =
      let s = len_value (value_at h t).1 in let size = fewer s.bytes s.moves in
      cut_not_both v s.size (omega (arith, size))
  bad_not_record (RecordFault.bad_text t re l given bad is) h =
      let s = payload_of h t l in
      bad (rw s.taken (sound_text s.bytes s.sound refl re))
  bad_not_record (RecordFault.in_a_list {n = n} {e = e} {r = r} {g = g} t re l bad is) h =
      let s = payload_of h t l in
      elements_not_both e (payload_at r n) g bad (s.bytes, s.after, sound_list s.bytes e s.sound refl re, s.moves, s.end)
  bad_not_record {S} (RecordFault.in_a_message {depth_left = depth_left} {n = n} {d = d} {r = r} t re l bad is) h =
      let s = payload_of h t l in
      let g = sound_message s.bytes d s.sound refl re in
      let e : g.0 ≡ depth_left = let x = g.1 in omega (arith, x) in
      not_both bad (s.bytes, s.after, subst (λ (n : ℕ). Whole S d n s.bytes) e g.2, s.moves, inl s.end)
  bad_not_record {S} (RecordFault.in_a_value {d = d} t re l bad is) h =
      let s = payload_of h t l in
      not_both bad (s.bytes, s.after, sound_value s.bytes d s.sound refl re, s.moves, inl s.end)

-- ---- what a fault of a record is, by its tag

abbrev pub Inside : PathStep → Fault → (Fault → Type 0) → Type 0
Inside s f P = (g : Fault) × P g × (f ≡ inside s g)

-- the fault of an L record into which this step leads, whose tag begins at p and whose length begins at q
abbrev pub LenFault : (S : Schema) → ℕ → PathStep → Place → Place → Fault → Reading S.Context → Type 0
LenFault S depth_left s p q f unread = Inside s f (λ g. LengthFault q g ⊎ CutFault q g)
LenFault S depth_left s p q f text =
    Inside s f (λ g. LengthFault q g ⊎ CutFault q g)
    ⊎ ((n : ℕ) × (r : Place) × HasLength q n r × (n ≤ length r.rest) × (¬ IsUtf8 (take n r.rest))
    × (f ≡ fault (r.at + utf8_valid_len (take n r.rest)) (s ∷ []) BadText))
LenFault S depth_left s p q f (message d) =
    ((depth_left ≡ 0) × (f ≡ fault p.at (s ∷ []) TooDeep))
    ⊎ Inside s f (λ g. ((0 < depth_left) × LengthFault q g) ⊎ ((m : ℕ) × (n : ℕ) × (r : Place) × (depth_left ≡ suc m) × HasLength q n r × Bad S (records d) m (payload_at r n) g))
LenFault S depth_left s p q f (same_level d) =
    Inside s f (λ g. LengthFault q g ⊎ ((n : ℕ) × (r : Place) × HasLength q n r × Bad S (records d) depth_left (payload_at r n) g))
LenFault S depth_left s p q f (packed e) =
    Inside s f (λ g. LengthFault q g ⊎ ((n : ℕ) × (r : Place) × HasLength q n r × BadElements e (payload_at r n) g))

abbrev pub GroupFault : (S : Schema) → S.Context → List Record → ℕ → ℕ → Place → Place → Fault → Type 0
GroupFault S c before depth_left k p q f =
    ((depth_left ≡ 0) × (f ≡ fault p.at (step k before ∷ []) TooDeep))
    ⊎ Inside (step k before) f (λ g. (m : ℕ) × (depth_left ≡ suc m) × Bad S (in_group k (S.group_context c k)) m q g)

data ValueFault (S : Schema) (c : S.Context) (before : List Record) (depth_left k w : ℕ) (p q : Place) (f : Fault) : Type 0 where
  of_varint : w ≡ 0 → Inside (step k before) f (VarintFault q) → ValueFault S c before depth_left k w p q f
  of_fixed64 : w ≡ 1 → Inside (step k before) f (FixedFault 8 q) → ValueFault S c before depth_left k w p q f
  of_fixed32 : w ≡ 5 → Inside (step k before) f (FixedFault 4 q) → ValueFault S c before depth_left k w p q f
  of_group : w ≡ 3 → GroupFault S c before depth_left k p q f → ValueFault S c before depth_left k w p q f
  of_len : w ≡ 2 → LenFault S depth_left (step k before) p q f (S.reading c k) → ValueFault S c before depth_left k w p q f

of_length :
    (S : Schema) (depth_left : ℕ) (s : PathStep) (p q : Place) (f g : Fault) (how : Reading S.Context) → IsAllowed depth_left how → LengthFault q g → f ≡ inside s g
    → LenFault S depth_left s p q f how
of_length S depth_left s p q f g unread a h e = (g, inl h, e)
of_length S depth_left s p q f g text a h e = inl (g, inl h, e)
of_length S depth_left s p q f g (message d) a h e = inr (g, inl (a, h), e)
of_length S depth_left s p q f g (same_level d) a h e = (g, inl h, e)
of_length S depth_left s p q f g (packed l) a h e = (g, inl h, e)

abbrev FaultParts : (S : Schema) → Open S.Context → List Record → ℕ → Place → Fault → Type 0
FaultParts S o before depth_left p f =
    TagFault (open_group o) p f
    ⊎ ((k : ℕ) × (w : ℕ) × (q : Place) × HasTag p k w q × ValueFault S (context_of o) before depth_left k w p q f)

fault_parts : {S : Schema} {o : Open S.Context} {before : List Record} {depth_left : ℕ} {p : Place} {f : Fault} → RecordFault S o before depth_left p f → FaultParts S o before depth_left p f
fault_parts (RecordFault.tag t) = inl t
fault_parts (RecordFault.group_too_deep {k = k} {q = q} t z is) = inr (k, 3, q, t, of_group refl (inl (z, is)))
fault_parts {S} (RecordFault.message_too_deep {o = o} {depth_left = depth_left} {k = k} {p = p} {q = q} {f = f} t re z is) =
    inr (k, 2, q, t, of_len refl (rw re (inl (z, is))))
fault_parts (RecordFault.varint {k = k} {q = q} {g = g} t v is) = inr (k, 0, q, t, of_varint refl (g, v, is))
fault_parts (RecordFault.fixed64 {k = k} {q = q} {g = g} t v is) = inr (k, 1, q, t, of_fixed64 refl (g, v, is))
fault_parts (RecordFault.fixed32 {k = k} {q = q} {g = g} t v is) = inr (k, 5, q, t, of_fixed32 refl (g, v, is))
fault_parts (RecordFault.in_a_group {depth_left = m} {k = k} {q = q} {g = g} t bad is) = inr (k, 3, q, t, of_group refl (inr (g, (m, refl, bad), is)))
fault_parts {S} (RecordFault.length_of {o = o} {before = before} {depth_left = depth_left} {k = k} {p = p} {q = q} {f = f} {g = g} t a v is) =
    inr (k, 2, q, t, of_len refl (of_length S depth_left (step k before) p q f g (S.reading (context_of o) k) a v is))
fault_parts {S} (RecordFault.cut_payload {k = k} {q = q} {g = g} t (inl re) v is) = inr (k, 2, q, t, of_len refl (rw re (g, inr v, is)))
fault_parts {S} (RecordFault.cut_payload {k = k} {q = q} {g = g} t (inr re) v is) = inr (k, 2, q, t, of_len refl (rw re (inl (g, inr v, is))))
fault_parts {S} (RecordFault.bad_text {k = k} {n = n} {q = q} {r = r} t re l given bad is) =
    inr (k, 2, q, t, of_len refl (rw re (inr (n, r, l, given, bad, is))))
fault_parts {S} (RecordFault.in_a_list {k = k} {n = n} {q = q} {r = r} {g = g} t re l bad is) =
    inr (k, 2, q, t, of_len refl (rw re (g, inr (n, r, l, bad), is)))
fault_parts {S} (RecordFault.in_a_message {depth_left = m} {k = k} {n = n} {q = q} {r = r} {g = g} t re l bad is) =
    inr (k, 2, q, t, of_len refl (rw re (inr (g, inr (m, n, r, refl, l, bad), is))))
fault_parts {S} (RecordFault.in_a_value {k = k} {n = n} {q = q} {r = r} {g = g} t re l bad is) =
    inr (k, 2, q, t, of_len refl (rw re (g, inr (n, r, l, bad), is)))

-- the fault of a record with this tag
value_fault :
    {S : Schema} {o : Open S.Context} {before : List Record} {depth_left k w : ℕ} {p q : Place} {f : Fault} → RecordFault S o before depth_left p f → HasTag p k w q → w ≢ 4
    → ValueFault S (context_of o) before depth_left k w p q f
value_fault {S} {o} {before} {depth_left} {k} {w} {p} {q} {f} bad t ne = judge (fault_parts bad)
  where
    judge : FaultParts S o before depth_left p f → ValueFault S (context_of o) before depth_left k w p q f
    judge (inl h) = absurd (tag_not_record h t ne)
    judge (inr (l, v, r, u, h)) = let same = one_tag u t in rw (same.0, same.1, same.2) at h

varint_fault : {S : Schema} {c : S.Context} {before : List Record} {depth_left k : ℕ} {p q : Place} {f : Fault} → ValueFault S c before depth_left k 0 p q f → Inside (step k before) f (VarintFault q)
varint_fault (of_varint e h) = h
varint_fault (of_fixed64 e h) = absurd (omega arith)
varint_fault (of_fixed32 e h) = absurd (omega arith)
varint_fault (of_group e h) = absurd (omega arith)
varint_fault (of_len e h) = absurd (omega arith)

fixed64_fault : {S : Schema} {c : S.Context} {before : List Record} {depth_left k : ℕ} {p q : Place} {f : Fault} → ValueFault S c before depth_left k 1 p q f → Inside (step k before) f (FixedFault 8 q)
fixed64_fault (of_fixed64 e h) = h
fixed64_fault (of_varint e h) = absurd (omega arith)
fixed64_fault (of_fixed32 e h) = absurd (omega arith)
fixed64_fault (of_group e h) = absurd (omega arith)
fixed64_fault (of_len e h) = absurd (omega arith)

fixed32_fault : {S : Schema} {c : S.Context} {before : List Record} {depth_left k : ℕ} {p q : Place} {f : Fault} → ValueFault S c before depth_left k 5 p q f → Inside (step k before) f (FixedFault 4 q)
fixed32_fault (of_fixed32 e h) = h
fixed32_fault (of_varint e h) = absurd (omega arith)
fixed32_fault (of_fixed64 e h) = absurd (omega arith)
fixed32_fault (of_group e h) = absurd (omega arith)
fixed32_fault (of_len e h) = absurd (omega arith)

group_fault : {S : Schema} {c : S.Context} {before : List Record} {depth_left k : ℕ} {p q : Place} {f : Fault} → ValueFault S c before depth_left k 3 p q f → GroupFault S c before depth_left k p q f
group_fault (of_group e h) = h
group_fault (of_varint e h) = absurd (omega arith)
group_fault (of_fixed64 e h) = absurd (omega arith)
group_fault (of_fixed32 e h) = absurd (omega arith)
group_fault (of_len e h) = absurd (omega arith)

len_fault :
    {S : Schema} {c : S.Context} {before : List Record} {depth_left k : ℕ} {p q : Place} {f : Fault} → ValueFault S c before depth_left k 2 p q f → LenFault S depth_left (step k before) p q f (S.reading c k)
len_fault (of_len e h) = h
len_fault (of_varint e h) = absurd (omega arith)
len_fault (of_fixed64 e h) = absurd (omega arith)
len_fault (of_fixed32 e h) = absurd (omega arith)
len_fault (of_group e h) = absurd (omega arith)

-- the fault of an L record that is read so
len_fault_by :
    {S : Schema} {o : Open S.Context} {before : List Record} {depth_left k : ℕ} {p q : Place} {f : Fault} (how : Reading S.Context) → RecordFault S o before depth_left p f → HasTag p k 2 q
    → S.reading (context_of o) k ≡ how → LenFault S depth_left (step k before) p q f how
len_fault_by {S} {o} {before} {depth_left} {k} {p} {q} {f} how bad t re = rw re at (len_fault (value_fault bad t (λ h. omega arith)))

-- ---- one fault

none_begins : {C : Type 0} (o : Open C) (q : Place) → q.known ≡ Some 0 → Begins o q → ⊥
none_begins (records c) q e b = b.0 e
none_begins (in_group k c) q e b = b e

-- two fronts that lead to one place are of the same records
same_before :
    {p q r : Place} {a b : List ℕ} {rs ss : List Record} → q ≡ r → AreRecords rs a → Moves p a q → AreRecords ss b → Moves p b r → rs ≡ ss
same_before {q = q} {a = a} {b = b} {rs = rs} {ss = ss} e h m g n =
    let ends : a ++ q.rest ≡ b ++ q.rest = sym m.given ∙ n.given ∙ ap (λ (z : Place). b ++ z.rest) (sym e) in
    same_records rs ss a h (rw (sym (append_cancel_right a b q.rest ends)) at g)

-- after a prefix of sound records comes a further one, or that which has the fault
fault_from :
    {S : Schema} {o : Open S.Context} {depth_left : ℕ} {p q : Place} {f : Fault} (front : List ℕ) → Bad S o depth_left p f → (w : Whole S (context_of o) depth_left front)
    → Moves p front q → Begins o q → RecordAt S (context_of o) depth_left q ⊎ RecordFault S o w.0 depth_left q f
fault_from {S} {o} {depth_left} {p} {q} {f} front (Bad.at_record {q = r} {front = theirs} w m goes bad) v n begins =
    ⊎_elim (λ (e : q ≡ r). inr (rw (sym (same_before e v.1 n w.1 m), sym e) at bad))
    (⊎_elim (λ h. inl h) (λ (h : RecordAt S (context_of o) depth_left r). absurd (bad_not_record bad h)))
    (align v.0 w.0 front theirs v.1 w.1 v.2 w.2 n m)
fault_from {S} {o} {depth_left} {p} {q} {f} front (Bad.at_end {c = c} {q = r} {front = theirs} is w m end e) v n begins =
    let context : c ≡ context_of o = sym (ap (λ (z : Open S.Context). context_of z) is) in
    let u : Whole S (context_of o) depth_left theirs = subst (λ (z : S.Context). Whole S z depth_left theirs) context w in
    ⊎_elim (λ (e : q ≡ r). absurd (none_begins o q (ap (λ (z : Place). z.known) e ∙ end) begins))
    (⊎_elim (λ h. inl h) (λ (h : RecordAt S (context_of o) depth_left r). absurd (no_record_at_end end h)))
    (align v.0 u.0 front theirs v.1 u.1 v.2 u.2 n m)

-- a group that is open at the known end has that fault
end_fault :
    {S : Schema} {o : Open S.Context} {depth_left : ℕ} {p q : Place} {f : Fault} (front : List ℕ) → Bad S o depth_left p f → Whole S (context_of o) depth_left front
    → Moves p front q → q.known ≡ Some 0 → f ≡ fault q.at [] PastEnd
end_fault {S} {o} {depth_left} {p} {q} {f} front (Bad.at_record {q = r} {front = theirs} w m goes bad) v n end =
    ⊎_elim (λ (e : q ≡ r). absurd (none_begins o r (sym (ap (λ (z : Place). z.known) e) ∙ end) goes))
    (⊎_elim (λ (h : RecordAt S (context_of o) depth_left q). absurd (no_record_at_end end h)) (λ (h : RecordAt S (context_of o) depth_left r). absurd (bad_not_record bad h)))
    (align v.0 w.0 front theirs v.1 w.1 v.2 w.2 n m)
end_fault {S} {o} {depth_left} {p} {q} {f} front (Bad.at_end {c = c} {q = r} {front = theirs} is w m theirs_end e) v n end =
    let context : c ≡ context_of o = sym (ap (λ (z : Open S.Context). context_of z) is) in
    let u : Whole S (context_of o) depth_left theirs = subst (λ (z : S.Context). Whole S z depth_left theirs) context w in
    ⊎_elim (λ (same : q ≡ r). e ∙ ap (λ (z : Place). fault z.at [] PastEnd) (sym same))
    (⊎_elim (λ (h : RecordAt S (context_of o) depth_left q). absurd (no_record_at_end end h)) (λ (h : RecordAt S (context_of o) depth_left r). absurd (no_record_at_end theirs_end h)))
    (align v.0 u.0 front theirs v.1 u.1 v.2 u.2 n m)

same_inside : {f g x y : Fault} (s : PathStep) → f ≡ inside s x → g ≡ inside s y → x ≡ y → f ≡ g
same_inside s e h i = e ∙ ap (λ (z : Fault). inside s z) i ∙ sym h

bad_tagged :
    (S : Schema) (o : Open S.Context) (before : List Record) (depth_left : ℕ) (p : Place) (f g : Fault) → TagFault (open_group o) p f
    → ((k : ℕ) × (w : ℕ) × (q : Place) × HasTag p k w q × ValueFault S (context_of o) before depth_left k w p q g) → ⊥
bad_tagged S o before depth_left p f g t (k, w, q, u, of_varint e h) = tag_not_record t u (λ i. omega arith)
bad_tagged S o before depth_left p f g t (k, w, q, u, of_fixed64 e h) = tag_not_record t u (λ i. omega arith)
bad_tagged S o before depth_left p f g t (k, w, q, u, of_fixed32 e h) = tag_not_record t u (λ i. omega arith)
bad_tagged S o before depth_left p f g t (k, w, q, u, of_group e h) = tag_not_record t u (λ i. omega arith)
bad_tagged S o before depth_left p f g t (k, w, q, u, of_len e h) = tag_not_record t u (λ i. omega arith)

group_deep :
    (S : Schema) (c : S.Context) (before : List Record) (depth_left k : ℕ) (p q : Place) (f g : Fault) → depth_left ≡ 0 → f ≡ fault p.at (step k before ∷ []) TooDeep
    → GroupFault S c before depth_left k p q g → f ≡ g
group_deep S c before depth_left k p q f g z is (inl h) = is ∙ sym h.1
group_deep S c before depth_left k p q f g z is (inr (x, (m, e, bad), i)) = absurd (omega arith)

message_deep :
    (S : Schema) (depth_left : ℕ) (s : PathStep) (p q : Place) (f g : Fault) (d : S.Context) → depth_left ≡ 0 → f ≡ fault p.at (s ∷ []) TooDeep
    → LenFault S depth_left s p q g (message d) → f ≡ g
message_deep S depth_left s p q f g d z is (inl h) = is ∙ sym h.1
message_deep S depth_left s p q f g d z is (inr (x, inl h, i)) = let some = h.0 in absurd (omega arith)
message_deep S depth_left s p q f g d z is (inr (x, inr (m, n, r, e, l, bad), i)) = absurd (omega arith)

in_group_fault :
    (S : Schema) (c : S.Context) (before : List Record) (depth_left k : ℕ) (p q : Place) (f : Fault) → GroupFault S c before (suc depth_left) k p q f
    → Inside (step k before) f (Bad S (in_group k (S.group_context c k)) depth_left q)
in_group_fault S c before depth_left k p q f (inl h) = let e = h.0 in absurd (omega (arith, e))
in_group_fault S c before depth_left k p q f (inr (g, (m, e, bad), i)) =
    let same : m ≡ depth_left = omega arith in
    (g, subst (λ (z : ℕ). Bad S (in_group k (S.group_context c k)) z q g) same bad, i)

by_length :
    (S : Schema) (depth_left : ℕ) (s : PathStep) (p q : Place) (f x : Fault) (how : Reading S.Context) → IsAllowed depth_left how → LengthFault q x
    → LenFault S depth_left s p q f how → Inside s f (LengthFault q)
by_length S depth_left s p q f x unread a v (g, inl h, e) = (g, h, e)
by_length S depth_left s p q f x unread a v (g, inr h, e) = absurd (length_or_cut v h)
by_length S depth_left s p q f x text a v (inl (g, inl h, e)) = (g, h, e)
by_length S depth_left s p q f x text a v (inl (g, inr h, e)) = absurd (length_or_cut v h)
by_length S depth_left s p q f x text a v (inr h) = absurd (length_not_both v h.2)
by_length S depth_left s p q f x (message d) a v (inl h) = let e = h.0 in absurd (omega (arith, a, e))
by_length S depth_left s p q f x (message d) a v (inr (g, inl h, e)) = (g, h.1, e)
by_length S depth_left s p q f x (message d) a v (inr (g, inr (m, n, r, i, l, bad), e)) = absurd (length_not_both v l)
by_length S depth_left s p q f x (same_level d) a v (g, inl h, e) = (g, h, e)
by_length S depth_left s p q f x (same_level d) a v (g, inr (n, r, l, bad), e) = absurd (length_not_both v l)
by_length S depth_left s p q f x (packed l) a v (g, inl h, e) = (g, h, e)
by_length S depth_left s p q f x (packed l) a v (g, inr (n, r, j, bad), e) = absurd (length_not_both v j)

cut_unread : (S : Schema) (depth_left : ℕ) (s : PathStep) (p q : Place) (f x : Fault) → CutFault q x → LenFault S depth_left s p q f unread → Inside s f (CutFault q)
cut_unread S depth_left s p q f x v (g, inl h, e) = absurd (length_or_cut h v)
cut_unread S depth_left s p q f x v (g, inr h, e) = (g, h, e)

cut_text : (S : Schema) (depth_left : ℕ) (s : PathStep) (p q : Place) (f x : Fault) → CutFault q x → LenFault S depth_left s p q f text → Inside s f (CutFault q)
cut_text S depth_left s p q f x v (inl (g, inl h, e)) = absurd (length_or_cut h v)
cut_text S depth_left s p q f x v (inl (g, inr h, e)) = (g, h, e)
cut_text S depth_left s p q f x v (inr h) = absurd (cut_not_both v h.2 h.3)

not_text :
    (S : Schema) (depth_left : ℕ) (s : PathStep) (p q : Place) (f g : Fault) (n : ℕ) (r : Place) → HasLength q n r → n ≤ length r.rest
    → f ≡ fault (r.at + utf8_valid_len (take n r.rest)) (s ∷ []) BadText → LenFault S depth_left s p q g text → f ≡ g
not_text S depth_left s p q f g n r l given is (inl (x, inl h, e)) = absurd (length_not_both h l)
not_text S depth_left s p q f g n r l given is (inl (x, inr h, e)) = absurd (cut_not_both h l given)
not_text S depth_left s p q f g n r l given is (inr (m, u, j, has, bad, e)) =
    let same = one_length l j in
    is ∙ ap (λ (z : ℕ). fault (r.at + utf8_valid_len (take z r.rest)) (s ∷ []) BadText) same.0
    ∙ ap (λ (z : Place). fault (z.at + utf8_valid_len (take m z.rest)) (s ∷ []) BadText) same.1 ∙ sym e

in_list_fault :
    (S : Schema) (depth_left : ℕ) (s : PathStep) (p q : Place) (f : Fault) (n : ℕ) (r : Place) (l : Element) → HasLength q n r → LenFault S depth_left s p q f (packed l)
    → Inside s f (BadElements l (payload_at r n))
in_list_fault S depth_left s p q f n r l h (g, inl v, e) = absurd (length_not_both v h)
in_list_fault S depth_left s p q f n r l h (g, inr (m, u, j, bad), e) =
    let same = one_length j h in (g, rw (same.0, same.1) at bad, e)

in_message_fault :
    (S : Schema) (depth_left : ℕ) (s : PathStep) (p q : Place) (f : Fault) (n : ℕ) (r : Place) (d : S.Context) → HasLength q n r → LenFault S (suc depth_left) s p q f (message d)
    → Inside s f (Bad S (records d) depth_left (payload_at r n))
in_message_fault S depth_left s p q f n r d h (inl x) = let e = x.0 in absurd (omega (arith, e))
in_message_fault S depth_left s p q f n r d h (inr (g, inl v, e)) = absurd (length_not_both v.1 h)
in_message_fault S depth_left s p q f n r d h (inr (g, inr (i, m, u, level, j, bad), e)) =
    let same = one_length j h in let lower : i ≡ depth_left = omega (arith, level) in (g, rw (same.0, same.1, lower) at bad, e)

in_value_fault :
    (S : Schema) (depth_left : ℕ) (s : PathStep) (p q : Place) (f : Fault) (n : ℕ) (r : Place) (d : S.Context) → HasLength q n r → LenFault S depth_left s p q f (same_level d)
    → Inside s f (Bad S (records d) depth_left (payload_at r n))
in_value_fault S depth_left s p q f n r d h (g, inl v, e) = absurd (length_not_both v h)
in_value_fault S depth_left s p q f n r d h (g, inr (m, u, j, bad), e) =
    let same = one_length j h in (g, rw (same.0, same.1) at bad, e)

mutual
  pub one_fault : {S : Schema} {o : Open S.Context} {depth_left : ℕ} {p : Place} {f g : Fault} → Bad S o depth_left p f → Bad S o depth_left p g → f ≡ g
  one_fault {S} (Bad.at_record {o = o} {depth_left = depth_left} {q = q} {front = front} w m goes bad) other =
      ⊎_elim (λ (h : RecordAt S (context_of o) depth_left q). absurd (bad_not_record bad h)) (λ h. one_record_fault bad h)
      (fault_from front other w m goes)
  one_fault {S} (Bad.at_end {o = o} {depth_left = depth_left} {c = c} {q = q} {front = front} is w m end e) other =
      let context : c ≡ context_of o = sym (ap (λ (z : Open S.Context). context_of z) is) in
      e ∙ sym (end_fault front other (subst (λ (z : S.Context). Whole S z depth_left front) context w) m end)

  pub one_record_fault :
      {S : Schema} {o : Open S.Context} {before : List Record} {depth_left : ℕ} {p : Place} {f g : Fault} → RecordFault S o before depth_left p f → RecordFault S o before depth_left p g → f ≡ g
  one_record_fault {S} {g = y} (RecordFault.tag {o = o} {before = before} {depth_left = depth_left} {p = p} {f = f} t) other =
      ⊎_elim (λ (u : TagFault (open_group o) p y). one_tag_fault t u)
      (λ (h : (k : ℕ) × (w : ℕ) × (q : Place) × HasTag p k w q × ValueFault S (context_of o) before depth_left k w p q y). absurd (bad_tagged S o before depth_left p f y t h))
      (fault_parts other)
  one_record_fault {S} {g = y} (RecordFault.group_too_deep {o = o} {before = before} {depth_left = depth_left} {k = k} {p = p} {q = q} {f = f} t z is) other =
      group_deep S (context_of o) before depth_left k p q f y z is (group_fault (value_fault other t (λ h. omega arith)))
  one_record_fault {S} {g = y} (RecordFault.message_too_deep {o = o} {before = before} {depth_left = depth_left} {k = k} {d = d} {p = p} {q = q} {f = f} t re z is) other =
      message_deep S depth_left (step k before) p q f y d z is (len_fault_by (message d) other t re)
  one_record_fault (RecordFault.varint {before = before} {k = k} t v is) other =
      let h = varint_fault (value_fault other t (λ h. omega arith)) in same_inside (step k before) is h.2 (one_varint_fault v h.1)
  one_record_fault (RecordFault.fixed64 {before = before} {k = k} t v is) other =
      let h = fixed64_fault (value_fault other t (λ h. omega arith)) in same_inside (step k before) is h.2 (one_fixed_fault v h.1)
  one_record_fault (RecordFault.fixed32 {before = before} {k = k} t v is) other =
      let h = fixed32_fault (value_fault other t (λ h. omega arith)) in same_inside (step k before) is h.2 (one_fixed_fault v h.1)
  one_record_fault {S} {g = y} (RecordFault.in_a_group {o = o} {before = before} {depth_left = depth_left} {k = k} {p = p} {q = q} t bad is) other =
      let h = in_group_fault S (context_of o) before depth_left k p q y (group_fault (value_fault other t (λ h. omega arith))) in
      same_inside (step k before) is h.2 (one_fault bad h.1)
  one_record_fault {S} {g = y} (RecordFault.length_of {o = o} {before = before} {depth_left = depth_left} {k = k} {p = p} {q = q} {g = x} t a v is) other =
      let h = by_length S depth_left (step k before) p q y x (S.reading (context_of o) k) a v (len_fault (value_fault other t (λ h. omega arith))) in
      same_inside (step k before) is h.2 (one_length_fault v h.1)
  one_record_fault {S} {g = y} (RecordFault.cut_payload {o = o} {before = before} {depth_left = depth_left} {k = k} {p = p} {q = q} {g = x} t (inl re) v is) other =
      let h = cut_unread S depth_left (step k before) p q y x v (len_fault_by unread other t re) in same_inside (step k before) is h.2 (one_cut v h.1)
  one_record_fault {S} {g = y} (RecordFault.cut_payload {o = o} {before = before} {depth_left = depth_left} {k = k} {p = p} {q = q} {g = x} t (inr re) v is) other =
      let h = cut_text S depth_left (step k before) p q y x v (len_fault_by text other t re) in same_inside (step k before) is h.2 (one_cut v h.1)
  one_record_fault {S} {g = y} (RecordFault.bad_text {before = before} {depth_left = depth_left} {k = k} {n = n} {p = p} {q = q} {r = r} {f = f} t re l given bad is) other =
      not_text S depth_left (step k before) p q f y n r l given is (len_fault_by text other t re)
  one_record_fault {S} {g = y} (RecordFault.in_a_list {before = before} {depth_left = depth_left} {k = k} {n = n} {e = e} {p = p} {q = q} {r = r} {g = x} t re l bad is) other =
      let h = in_list_fault S depth_left (step k before) p q y n r e l (len_fault_by (packed e) other t re) in
      same_inside (step k before) is h.2 (one_elements_fault e (payload_at r n) x h.0 bad h.1)
  one_record_fault {S} {g = y} (RecordFault.in_a_message {before = before} {depth_left = depth_left} {k = k} {n = n} {d = d} {p = p} {q = q} {r = r} t re l bad is) other =
      let h = in_message_fault S depth_left (step k before) p q y n r d l (len_fault_by (message d) other t re) in same_inside (step k before) is h.2 (one_fault bad h.1)
  one_record_fault {S} {g = y} (RecordFault.in_a_value {before = before} {depth_left = depth_left} {k = k} {n = n} {d = d} {p = p} {q = q} {r = r} t re l bad is) other =
      let h = in_value_fault S depth_left (step k before) p q y n r d l (len_fault_by (same_level d) other t re) in same_inside (step k before) is h.2 (one_fault bad h.1)
