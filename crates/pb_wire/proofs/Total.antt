-- Bytes are read whole, or have a fault.
use Rattle.std.proofs.Common.{◌≡◌, ◌≢◌, ℕ, zero, suc, ◌+◌, ◌-◌, ◌^◌, ◌<◌, ◌≤◌, List, [], ◌∷◌, ◌++◌, length, take, drop, get_or, refl, sym, ap, subst, ◌∙◌, arith, Option, Some, None, ◌⊎◌, inl, inr, ⊎_elim, All, true, false}
use Rattle.std.specs.Prelude.{option_map}
use Rattle.std.specs.Str.{is_utf8}
use Rattle.std.specs.Str.Lossy.{utf8_valid_len}
use Rattle.std.specs.Int.{w32, w64, from_le_bytes}
use Rattle.std.proofs.lemmas.Bool.{cases_lt, cases_eq, cases_Bool}
use Rattle.std.proofs.lemmas.Nat.{le_bytes_4, le_bytes_8}
use Rattle.std.proofs.lemmas.Str.{IsUtf8-from_is_utf8, is_utf8-from_IsUtf8}
use Rattle.std.proofs.lemmas.List.{take-append-drop, length-take-le}
use Rattle.std.proofs.lemmas.List.Elements.{All-head, All-tail}
use Rattle.pb_wire.specs.Record.{varint, fixed64, fixed32, len, group, Record, group_of}
use Rattle.pb_wire.specs.Spell.{Spells}
use Rattle.pb_wire.specs.Fault.{Fault, fault, step, inside, Place, input_end, Moves, Reads, HasTag, HasLength, TagFault, VarintFault, FixedFault, LengthFault, CutFault}
use Rattle.pb_wire.specs.Schema.{Schema, Element, Reading, unread, text, message, same_level, packed, Open, records, in_group, context_of, open_group}
use Rattle.pb_wire.specs.Sound.{Sound, AllSound}
use Rattle.pb_wire.specs.Grammar.{Whole, Begins, payload_at, Bad, RecordFault, BadElements, IsAllowed}
use Rattle.pb_wire.specs.Ranges.{IsByte}
use Rattle.pb_wire.specs.Exact.{IsOver, IsRead}
use Rattle.pb_wire.specs.declared.fault.Cause.TheVariants.{Truncated, PastEnd, TooDeep, BadText}
use Rattle.pb_wire.proofs.ReadingLemmas.{moves_both, SpellsGroup-from_records}
use Rattle.pb_wire.proofs.Behind.{behind}
use Rattle.pb_wire.proofs.Places.{after, moves_after, moves_nothing, fewer}
use Rattle.pb_wire.proofs.Tokens.{Takes, ends_some, known_is, a_varint_or_fault, a_fixed_or_fault, a_length_or_fault, a_tag_or_fault, GoodTag}
use Rattle.pb_wire.proofs.Elements.{GoodElements, elements_or_fault}
use Rattle.pb_wire.proofs.Fronts.{RecordAt, EndAt, record_some, ValueAt, record_of}

-- ---- bytes

abbrev AreBytes : List ℕ → Type 0
AreBytes [] = Unit {0}
AreBytes (b ∷ bs) = (b < 256) × AreBytes bs

are_bytes : (s : List ℕ) → All IsByte s → AreBytes s
are_bytes [] h = tt
are_bytes (b ∷ bs) h = (All-head IsByte b bs h, are_bytes bs (All-tail IsByte b bs h))

bytes_left : (a b : List ℕ) → AreBytes (a ++ b) → AreBytes a
bytes_left [] b h = tt
bytes_left (x ∷ a) b h = (h.0, bytes_left a b h.1)

bytes_right : (a b : List ℕ) → AreBytes (a ++ b) → AreBytes b
bytes_right [] b h = h
bytes_right (x ∷ a) b h = bytes_right a b h.1

byte_at : (s : List ℕ) → AreBytes s → (i : ℕ) → get_or s i 0 < 256
byte_at [] h i = omega arith
byte_at (b ∷ bs) h zero = h.0
byte_at (b ∷ bs) h (suc i) = byte_at bs h.1 i

moved_bytes : {p q : Place} (a : List ℕ) → Moves p a q → AreBytes p.rest → AreBytes a × AreBytes q.rest
moved_bytes {p} {q} a m h = let all = rw m.given at h in (bytes_left a q.rest all, bytes_right a q.rest all)

below_8 : (bs : List ℕ) → ((i : ℕ) → get_or bs i 0 < 256) → from_le_bytes w64 bs < 2 ^ 64
below_8 bs small =
    let a = small 0 in let b = small 1 in let c = small 2 in let d = small 3 in
    let e = small 4 in let f = small 5 in let g = small 6 in let h = small 7 in omega arith

below_4 : (bs : List ℕ) → ((i : ℕ) → get_or bs i 0 < 256) → from_le_bytes w32 bs < 2 ^ 32
below_4 bs small = let a = small 0 in let b = small 1 in let c = small 2 in let d = small 3 in omega arith

-- ---- values

-- a value, or a fault of the record, as the first of what is open
abbrev ValueAnswer : (S : Schema) → Open S.Context → ℕ → ℕ → ℕ → Place → Place → Type 0
ValueAnswer S o depth_left k w p q = ((r : Place) × ValueAt S (context_of o) depth_left k w q r) ⊎ ((f : Fault) × RecordFault S o [] depth_left p f)

varint_answer :
    (S : Schema) (o : Open S.Context) (depth_left k : ℕ) (p q : Place) → HasTag p k 0 q → ((n : ℕ) × (r : Place) × Reads q n r) ⊎ ((f : Fault) × VarintFault q f)
    → ValueAnswer S o depth_left k 0 p q
varint_answer S o depth_left k p q t (inl (n, r, (a, v, m))) =
    let is = v.value in
    let small : n < 2 ^ 64 = omega arith in
    inl (r, record { payload = varint n; type = refl; body = a; spelled = (small, v); sound = Sound.is_varint; moves = m })
varint_answer S o depth_left k p q t (inr (f, v)) = inr (inside (step k []) f, RecordFault.varint t v refl)

fixed64_answer :
    (S : Schema) (o : Open S.Context) (depth_left k : ℕ) (p q : Place) → AreBytes q.rest → HasTag p k 1 q → ((r : Place) × Takes q 8 r) ⊎ ((f : Fault) × FixedFault 8 q f)
    → ValueAnswer S o depth_left k 1 p q
fixed64_answer S o depth_left k p q bytes t (inl (r, (a, size, m))) =
    let small = byte_at a (moved_bytes a m bytes).0 in
    inl (
      r,
      record {
        payload = fixed64 (from_le_bytes w64 a);
        type = refl;
        body = a;
        spelled = (below_8 a small, sym (le_bytes_8 a (from_le_bytes w64 a) size small refl));
        sound = Sound.is_fixed64;
        moves = m;
      },
    )
fixed64_answer S o depth_left k p q bytes t (inr (f, v)) = inr (inside (step k []) f, RecordFault.fixed64 t v refl)

fixed32_answer :
    (S : Schema) (o : Open S.Context) (depth_left k : ℕ) (p q : Place) → AreBytes q.rest → HasTag p k 5 q → ((r : Place) × Takes q 4 r) ⊎ ((f : Fault) × FixedFault 4 q f)
    → ValueAnswer S o depth_left k 5 p q
fixed32_answer S o depth_left k p q bytes t (inl (r, (a, size, m))) =
    let small = byte_at a (moved_bytes a m bytes).0 in
    inl (
      r,
      record {
        payload = fixed32 (from_le_bytes w32 a);
        type = refl;
        body = a;
        spelled = (below_4 a small, sym (le_bytes_4 a (from_le_bytes w32 a) size small refl));
        sound = Sound.is_fixed32;
        moves = m;
      },
    )
fixed32_answer S o depth_left k p q bytes t (inr (f, v)) = inr (inside (step k []) f, RecordFault.fixed32 t v refl)

abbrev pub Judged : (S : Schema) → Open S.Context → ℕ → Place → Type 0
Judged S o depth_left p = IsRead S o depth_left p ⊎ ((f : Fault) × Bad S o depth_left p f)

group_answer :
    (S : Schema) (o : Open S.Context) (depth_left k : ℕ) (p q : Place) → HasTag p k 3 q
    → ((m : ℕ) → depth_left ≡ suc m → Judged S (in_group k (S.group_context (context_of o) k)) m q) → ValueAnswer S o depth_left k 3 p q
group_answer S o zero k p q t next = inr (fault p.at (step k [] ∷ []) TooDeep, RecordFault.group_too_deep t refl refl)
group_answer S o (suc m) k p q t next = judge (next m refl)
  where
    judge : Judged S (in_group k (S.group_context (context_of o) k)) m q → ValueAnswer S o (suc m) k 3 p q
    judge (inl (front, e, w, moves, (r, end))) =
        inl (
          r,
          record {
            payload = group (group_of w.0);
            type = refl;
            body = front ++ end.tag.0;
            spelled = (front, end.tag.0, SpellsGroup-from_records w.0 front w.1, end.tag.1, refl);
            sound = Sound.a_group refl w.2;
            moves = moves_both front end.tag.0 moves end.tag.2;
          },
        )
    judge (inr (f, bad)) = inr (inside (step k []) f, RecordFault.in_a_group t bad refl)

-- the value that these bytes of a known length are
len_at :
    (S : Schema) (c : S.Context) (depth_left k n : ℕ) (q r : Place) → HasLength q n r → (front : List ℕ) (e : Place) → Moves (payload_at r n) front e
    → e.known ≡ Some 0 → Sound S c depth_left k (len front) → (t : Place) × ValueAt S c depth_left k 2 q t
len_at S c depth_left k n q r l front e m end sound =
    let left : Some 0 ≡ Some (n - length front) = sym end ∙ m.known in
    let zero_left : 0 ≡ n - length front = cc in
    let within : length front ≤ n = m.within in
    let size : n ≡ length front = omega arith in
    let moves = moves_after r front e.rest m.given (rw size at l.within) in (
      after r front e.rest,
      record {
        payload = len front;
        type = refl;
        body = l.length_is.0 ++ front;
        spelled = (rw size at l.small, l.length_is.0, rw size at l.length_is.1, refl);
        sound = sound;
        moves = moves_both l.length_is.0 front l.length_is.2 moves;
      },
    )

-- the payload is given
payload_given : (r : Place) (n : ℕ) → n ≤ length r.rest → (e : Place) × Moves (payload_at r n) (take n r.rest) e × (e.known ≡ Some 0)
payload_given r n given =
    let size : length (take n r.rest) ≡ n = length-take-le n r.rest given in (
      after (payload_at r n) (take n r.rest) (drop n r.rest),
      moves_after (payload_at r n) (take n r.rest) (drop n r.rest) (sym (take-append-drop n r.rest)) (let h : length (take n r.rest) ≤ n = omega arith in h),
      ap (λ (z : ℕ). Some z) (let h : n - length (take n r.rest) ≡ 0 = omega arith in h),
    )

whole_known : {p : Place} {n : ℕ} → p.known ≡ Some n → (e : Place) (front : List ℕ) → Moves p front e → IsOver e → e.known ≡ Some 0
whole_known has e front m (inl h) = h
whole_known {p} {n} has e front m (inr h) =
    let known : e.known ≡ Some (n - length front) = m.known ∙ ap (λ (z : Option ℕ). option_map (λ (i : ℕ). i - length front) z) has in
    let no : None ≡ Some (n - length front) = sym h.0 ∙ known in absurd (cc)

cut_or_given :
    (S : Schema) (o : Open S.Context) (depth_left k n : ℕ) (p q r : Place) → HasTag p k 2 q → HasLength q n r
    → (S.reading (context_of o) k ≡ unread) ⊎ (S.reading (context_of o) k ≡ text)
    → (n ≤ length r.rest → ValueAnswer S o depth_left k 2 p q) → ValueAnswer S o depth_left k 2 p q
cut_or_given S o depth_left k n p q r t l re next =
    ⊎_elim
    (λ (cut : length r.rest < n).
    let g : Fault = fault (input_end r) [] Truncated in
    let c : CutFault q g = record { size = n; payload = r; length_is = l; cut = cut; fault_is = refl } in
    inr (inside (step k []) g, RecordFault.cut_payload t re c refl))
    (λ (given : n ≤ length r.rest). next given)
    (cases_lt (length r.rest) n)

text_answer :
    (S : Schema) (o : Open S.Context) (depth_left k n : ℕ) (p q r : Place) → HasTag p k 2 q → HasLength q n r → S.reading (context_of o) k ≡ text
    → n ≤ length r.rest → ValueAnswer S o depth_left k 2 p q
text_answer S o depth_left k n p q r t l re given =
    let s = payload_given r n given in
    ⊎_elim
    (λ (h : is_utf8 (take n r.rest) ≡ true).
    inl (len_at S (context_of o) depth_left k n q r l (take n r.rest) s.0 s.1 s.2 (Sound.a_text re (IsUtf8-from_is_utf8 (take n r.rest) h))))
    (λ (h : is_utf8 (take n r.rest) ≡ false).
    inr (
      fault (r.at + utf8_valid_len (take n r.rest)) (step k [] ∷ []) BadText,
      RecordFault.bad_text t re l given (λ u. let e = is_utf8-from_IsUtf8 (take n r.rest) u in cc) refl,
    ))
    (cases_Bool (is_utf8 (take n r.rest)))

list_answer :
    (S : Schema) (o : Open S.Context) (depth_left k n : ℕ) (p q r : Place) (l : Element) → HasTag p k 2 q → HasLength q n r
    → S.reading (context_of o) k ≡ packed l → GoodElements l (payload_at r n) ⊎ ((f : Fault) × BadElements l (payload_at r n) f)
    → ValueAnswer S o depth_left k 2 p q
list_answer S o depth_left k n p q r l t size re (inl (front, e, es, m, end)) =
    inl (len_at S (context_of o) depth_left k n q r size front e m end (Sound.a_list re es))
list_answer S o depth_left k n p q r l t size re (inr (f, bad)) = inr (inside (step k []) f, RecordFault.in_a_list t re size bad refl)

message_answer :
    (S : Schema) (o : Open S.Context) (depth_left k n : ℕ) (p q r : Place) (d : S.Context) → HasTag p k 2 q → HasLength q n r
    → S.reading (context_of o) k ≡ message d → Judged S (records d) depth_left (payload_at r n) → ValueAnswer S o (suc depth_left) k 2 p q
message_answer S o depth_left k n p q r d t size re (inl (front, e, w, m, over)) =
    inl (len_at S (context_of o) (suc depth_left) k n q r size front e m (whole_known {n = n} refl e front m over) (Sound.a_message re w.1 w.2))
message_answer S o depth_left k n p q r d t size re (inr (f, bad)) = inr (inside (step k []) f, RecordFault.in_a_message t re size bad refl)

value_answer :
    (S : Schema) (o : Open S.Context) (depth_left k n : ℕ) (p q r : Place) (d : S.Context) → HasTag p k 2 q → HasLength q n r
    → S.reading (context_of o) k ≡ same_level d → Judged S (records d) depth_left (payload_at r n) → ValueAnswer S o depth_left k 2 p q
value_answer S o depth_left k n p q r d t size re (inl (front, e, w, m, over)) =
    inl (len_at S (context_of o) depth_left k n q r size front e m (whole_known {n = n} refl e front m over) (Sound.a_value re w.1 w.2))
value_answer S o depth_left k n p q r d t size re (inr (f, bad)) = inr (inside (step k []) f, RecordFault.in_a_value t re size bad refl)

-- what is judged of every place with fewer bytes than this
abbrev Earlier : Schema → ℕ → Type 0
Earlier S n = (o : Open S.Context) (depth_left : ℕ) (p : Place) → length p.rest < n → AreBytes p.rest → Judged S o depth_left p

after_length :
    (S : Schema) (o : Open S.Context) (depth_left k n fuel : ℕ) (p q r : Place) (how : Reading S.Context) → Earlier S fuel → length r.rest < fuel
    → AreBytes r.rest → HasTag p k 2 q → HasLength q n r → S.reading (context_of o) k ≡ how → IsAllowed depth_left how → ValueAnswer S o depth_left k 2 p q
after_length S o depth_left k n fuel p q r unread next short bytes t l re a =
    cut_or_given S o depth_left k n p q r t l (inl re)
    (λ given. let s = payload_given r n given in inl (len_at S (context_of o) depth_left k n q r l (take n r.rest) s.0 s.1 s.2 (Sound.some_bytes re)))
after_length S o depth_left k n fuel p q r text next short bytes t l re a =
    cut_or_given S o depth_left k n p q r t l (inr re) (λ given. text_answer S o depth_left k n p q r t l re given)
after_length S o depth_left k n fuel p q r (packed x) next short bytes t l re a =
    list_answer S o depth_left k n p q r x t l re (elements_or_fault fuel x (payload_at r n) short)
after_length S o zero k n fuel p q r (message d) next short bytes t l re a = absurd (omega (arith, a))
after_length S o (suc depth_left) k n fuel p q r (message d) next short bytes t l re a =
    message_answer S o depth_left k n p q r d t l re (next (records d) depth_left (payload_at r n) short bytes)
after_length S o depth_left k n fuel p q r (same_level d) next short bytes t l re a =
    value_answer S o depth_left k n p q r d t l re (next (records d) depth_left (payload_at r n) short bytes)

allowed_or_deep :
    (S : Schema) (o : Open S.Context) (depth_left k : ℕ) (p q : Place) (how : Reading S.Context) → HasTag p k 2 q → S.reading (context_of o) k ≡ how
    → IsAllowed depth_left how ⊎ ((f : Fault) × RecordFault S o [] depth_left p f)
allowed_or_deep S o depth_left k p q unread t re = inl tt
allowed_or_deep S o depth_left k p q text t re = inl tt
allowed_or_deep S o depth_left k p q (packed x) t re = inl tt
allowed_or_deep S o depth_left k p q (same_level d) t re = inl tt
allowed_or_deep S o zero k p q (message d) t re = inr (fault p.at (step k [] ∷ []) TooDeep, RecordFault.message_too_deep t re refl refl)
allowed_or_deep S o (suc depth_left) k p q (message d) t re = inl (let h : 0 < suc depth_left = omega arith in h)

len_answer :
    (S : Schema) (o : Open S.Context) (depth_left k fuel : ℕ) (p q : Place) → Earlier S fuel → length q.rest < fuel → AreBytes q.rest → HasTag p k 2 q
    → ValueAnswer S o depth_left k 2 p q
len_answer S o depth_left k fuel p q next short bytes t =
    ⊎_elim (λ (a : IsAllowed depth_left (S.reading (context_of o) k)). allowed a (a_length_or_fault q)) (λ h. inr h)
    (allowed_or_deep S o depth_left k p q (S.reading (context_of o) k) t refl)
  where
    allowed :
        IsAllowed depth_left (S.reading (context_of o) k) → ((n : ℕ) × (r : Place) × HasLength q n r) ⊎ ((f : Fault) × LengthFault q f)
        → ValueAnswer S o depth_left k 2 p q
    allowed a (inr (f, v)) = inr (inside (step k []) f, RecordFault.length_of t a v refl)
    allowed a (inl (n, r, l)) =
        let size = fewer l.length_is.0 l.length_is.2 in
        let left : length r.rest < fuel = omega arith in
        after_length S o depth_left k n fuel p q r (S.reading (context_of o) k) next left (moved_bytes l.length_is.0 l.length_is.2 bytes).1 t l refl a

-- a record, the end tag of the group that is open, or a fault
abbrev RecordAnswer : (S : Schema) → Open S.Context → ℕ → Place → Type 0
RecordAnswer S o depth_left p = RecordAt S (context_of o) depth_left p ⊎ (EndAt o p ⊎ ((f : Fault) × RecordFault S o [] depth_left p f))

of_value :
    (S : Schema) (o : Open S.Context) (depth_left k w : ℕ) (p q : Place) → HasTag p k w q → ValueAnswer S o depth_left k w p q → RecordAnswer S o depth_left p
of_value S o depth_left k w p q t (inl (r, v)) = inl (record_of t v)
of_value S o depth_left k w p q t (inr h) = inr (inr h)

record_answer :
    (S : Schema) (o : Open S.Context) (depth_left fuel : ℕ) (p : Place) → Earlier S fuel → length p.rest < suc fuel → AreBytes p.rest
    → RecordAnswer S o depth_left p
record_answer S o depth_left fuel p next short bytes = judge (a_tag_or_fault (open_group o) p)
  where
    typed : (k w : ℕ) (q : Place) → HasTag p k w q → w ≢ 4 → length q.rest < fuel → AreBytes q.rest → RecordAnswer S o depth_left p
    typed k w q t ne left all =
        ⊎_elim (λ (e : w ≡ 0). let u : HasTag p k 0 q = rw e at t in of_value S o depth_left k 0 p q u (varint_answer S o depth_left k p q u (a_varint_or_fault q)))
        (λ (n0 : w ≡ 0 → ⊥). ⊎_elim
        (λ (e : w ≡ 1). let u : HasTag p k 1 q = rw e at t in of_value S o depth_left k 1 p q u (fixed64_answer S o depth_left k p q all u (a_fixed_or_fault 8 q)))
        (λ (n1 : w ≡ 1 → ⊥). ⊎_elim
        (λ (e : w ≡ 2). let u : HasTag p k 2 q = rw e at t in of_value S o depth_left k 2 p q u (len_answer S o depth_left k fuel p q next left all u))
        (λ (n2 : w ≡ 2 → ⊥). ⊎_elim
        (λ (e : w ≡ 3).
        let u : HasTag p k 3 q = rw e at t in
        of_value S o depth_left k 3 p q u (group_answer S o depth_left k p q u (λ m is. next (in_group k (S.group_context (context_of o) k)) m q left all)))
        (λ (n3 : w ≡ 3 → ⊥).
        let known = t.type in let e : w ≡ 5 = omega (arith, known, n0, n1, n2, n3, ne) in
        let u : HasTag p k 5 q = rw e at t in of_value S o depth_left k 5 p q u (fixed32_answer S o depth_left k p q all u (a_fixed_or_fault 4 q)))
        (cases_eq w 3))
        (cases_eq w 2))
        (cases_eq w 1))
        (cases_eq w 0)

    judge : GoodTag (open_group o) p ⊎ ((f : Fault) × TagFault (open_group o) p f) → RecordAnswer S o depth_left p
    judge (inr (f, h)) = inr (inr (f, RecordFault.tag h))
    judge (inl (k, w, q, t, inr (e, is))) = inr (inl (k, q, is, (rw e at t)))
    judge (inl (k, w, q, t, inl ne)) =
        let size = fewer t.tag.0 t.tag.2 in let some = ends_some t.tag.0 t.tag.1.ends in
        typed k w q t ne (omega arith) (moved_bytes t.tag.0 t.tag.2 bytes).1

-- ---- lists of records

whole_more :
    {S : Schema} {c : S.Context} {depth_left : ℕ} {p : Place} → (h : RecordAt S c depth_left p) → (front : List ℕ) → Whole S c depth_left front → Whole S c depth_left (h.1 ++ front)
whole_more h front w = (h.0 ∷ w.0, (h.1, front, h.3, w.1, refl), AllSound.one h.4 w.2)

read_more : (S : Schema) (o : Open S.Context) (depth_left : ℕ) (p : Place) → (h : RecordAt S (context_of o) depth_left p) → IsRead S o depth_left h.2 → IsRead S o depth_left p
read_more S (records c) depth_left p h (front, q, w, m, over) = (h.1 ++ front, q, whole_more h front w, moves_both h.1 front h.5 m, over)
read_more S (in_group k c) depth_left p h (front, q, w, m, end) = (h.1 ++ front, q, whole_more h front w, moves_both h.1 front h.5 m, end)

-- a fault after one whole record more
bad_more :
    {S : Schema} {o : Open S.Context} {depth_left : ℕ} {p q : Place} {f : Fault} → (r : Record) (first : List ℕ) → Spells r first
    → Sound S (context_of o) depth_left r.number r.payload → Moves p first q → Bad S o depth_left q f → (g : Fault) × Bad S o depth_left p g
bad_more {S} {o} {depth_left} {p} {q} {f} r first spell sound m (Bad.at_record {front = front} w n goes bad) =
    let here = behind (r ∷ w.0) bad in
    (_, Bad.at_record (r ∷ w.0, (first, front, spell, w.1, refl), AllSound.one sound w.2) (moves_both first front m n) goes here.1)
bad_more {S} {o} {depth_left} {p} {q} {f} r first spell sound m (Bad.at_end {c = c} {front = front} is w n end e) =
    let context : context_of o ≡ c = ap (λ (z : Open S.Context). context_of z) is in
    let here : Sound S c depth_left r.number r.payload = subst (λ (z : S.Context). Sound S z depth_left r.number r.payload) context sound in
    (f, Bad.at_end is (r ∷ w.0, (first, front, spell, w.1, refl), AllSound.one here w.2) (moves_both first front m n) end e)

abbrev nothing : (S : Schema) (c : S.Context) (depth_left : ℕ) → Whole S c depth_left []
nothing S c depth_left = ([], refl, AllSound.none)

goes_or_not : (S : Schema) (o : Open S.Context) (depth_left : ℕ) (p : Place) → Begins o p ⊎ Judged S o depth_left p
goes_or_not S (in_group k c) depth_left p =
    ⊎_elim (λ (e : p.known ≡ Some 0). inr (inr (fault p.at [] PastEnd, Bad.at_end refl (nothing S c depth_left) (moves_nothing p) e refl)))
    (λ (ne : p.known ≢ Some 0). inl ne) (known_is p.known 0)
goes_or_not S (records c) depth_left p = judge p.known refl p.rest refl
  where
    over : IsOver p → Judged S (records c) depth_left p
    over h = inl ([], p, nothing S c depth_left, moves_nothing p, h)

    judge : (e : Option ℕ) → p.known ≡ e → (s : List ℕ) → p.rest ≡ s → Begins (records c) p ⊎ Judged S (records c) depth_left p
    judge None e [] i = inr (over (inr (e, i)))
    judge None e (x ∷ xs) i = inl (λ h. cc, λ h j. cc)
    judge (Some zero) e s i = inr (over (inl e))
    judge (Some (suc n)) e s i = inl (λ h. let no : suc n ≡ 0 = cc in omega arith, λ h. absurd (cc))

end_read : (S : Schema) (o : Open S.Context) (depth_left : ℕ) (p : Place) → EndAt o p → IsRead S o depth_left p
end_read S (records c) depth_left p h = absurd (let e : None ≡ Some h.0 = h.2 in cc)
end_read S (in_group k c) depth_left p h =
    let e : k ≡ h.0 = let i : Some k ≡ Some h.0 = h.2 in cc in
    ([], p, nothing S c depth_left, moves_nothing p, (h.1, rw (sym e) at h.3))

judged : (S : Schema) (n : ℕ) → Earlier S n
judged S zero o depth_left p short bytes = absurd (omega arith)
judged S (suc n) o depth_left p short bytes = begin (λ i r q s b. judged S n i r q s b) (goes_or_not S o depth_left p)
  where
    step : Earlier S n → Begins o p → RecordAnswer S o depth_left p → Judged S o depth_left p
    step next goes (inr (inl end)) = inl (end_read S o depth_left p end)
    step next goes (inr (inr (f, bad))) = inr (f, Bad.at_record (nothing S (context_of o) depth_left) (moves_nothing p) goes bad)
    step next goes (inl h) =
        let size = fewer h.1 h.5 in let some = record_some h in
        ⊎_elim (λ (r : IsRead S o depth_left h.2). inl (read_more S o depth_left p h r))
        (λ (b : (f : Fault) × Bad S o depth_left h.2 f). inr (bad_more h.0 h.1 h.3 h.4 h.5 b.1))
        (next o depth_left h.2 (omega arith) (moved_bytes h.1 h.5 bytes).1)

    begin : Earlier S n → Begins o p ⊎ Judged S o depth_left p → Judged S o depth_left p
    begin next (inr h) = h
    begin next (inl goes) = step next goes (record_answer S o depth_left n p next short bytes)

-- bytes are read whole, or have a fault
pub read_or_fault : (S : Schema) (o : Open S.Context) (depth_left : ℕ) (p : Place) → All IsByte p.rest → IsRead S o depth_left p ⊎ ((f : Fault) × Bad S o depth_left p f)
read_or_fault S o depth_left p bytes = judged S (suc (length p.rest)) o depth_left p (omega arith) (are_bytes p.rest bytes)
