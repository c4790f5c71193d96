-- The open part: a fault inside is the fault of the whole, and a payload that ends is one more record of its parent.
use Rattle.std.proofs.Common.{◌≡◌, ◌≢◌, ℕ, zero, suc, ◌+◌, ◌-◌, ◌*◌, ◌<◌, ◌≤◌, ◌^◌, List, [], ◌∷◌, ◌++◌, length, refl, sym, ap, ◌∙◌, subst, arith, append_assoc, Option, Some, None, All}
use Rattle.std.specs.Prelude.{option_map}
use Rattle.pb_wire.specs.Varint.{IsVarint}
use Rattle.pb_wire.specs.Record.{Payload, len, group, Record, group_of, wire_type}
use Rattle.pb_wire.specs.Spell.{Body, Spells}
use Rattle.pb_wire.specs.declared.fault.PathStep.{PathStep}
use Rattle.pb_wire.specs.Fault.{Fault, fault, step, inside, Place, Moves, IsWithin, HasTag, HasLength, TagFault, VarintFault, input_end, window, IsHigh}
use Rattle.pb_wire.specs.Schema.{Schema, message, same_level, Open, records, in_group, context_of}
use Rattle.pb_wire.specs.Sound.{Sound, AllSound}
use Rattle.pb_wire.specs.Grammar.{Begins, payload_at, Bad, RecordFault}
use Rattle.pb_wire.specs.Exact.{longer}
use Rattle.pb_wire.proofs.Places.{fewer, moves_nothing}
use Rattle.pb_wire.proofs.Longer.{moves_longer, tag_longer, length_longer}
use Rattle.pb_wire.proofs.OneFault.{no_tag_at_end}
use Rattle.pb_wire.proofs.Tokens.{ends_some}
use Rattle.pb_wire.proofs.ReadingLemmas.{moves_both, AreRecords-push, AllSound-push, SpellsGroup-from_records}
use Rattle.pb_wire.specs.declared.fault.Cause.TheVariants.{Truncated}
use Rattle.std.proofs.lemmas.List.Elements.{All-nil}
use Rattle.pb_decode_parts.specs.Open.Opened.{SoFar, Begun, a_message, a_value, a_group, Opened, at_top, inner, below, outside}

-- WHERE THERE IS A TAG A RECORD BEGINS

no_tag_in_nothing : {p q : Place} {k w : ℕ} → p.rest ≡ [] → HasTag p k w q → ⊥
no_tag_in_nothing {p = p} e t = let n = fewer t.tag.0 t.tag.2 in let s = ends_some t.tag.0 t.tag.1.ends in let z : length p.rest ≡ 0 = ap length e in omega (arith, n, s, z)

pub begins_at_tag : {C : Type 0} (o : Open C) {p q : Place} {k w : ℕ} → HasTag p k w q → Begins o p
begins_at_tag (records c) t = ((λ e. no_tag_at_end e t), (λ _ e. no_tag_in_nothing e t))
begins_at_tag (in_group k c) t = λ e. no_tag_at_end e t

-- A FAULT INSIDE

-- after whole records, a record that has a fault gives it to the open part
pub bad_after : {S : Schema} {o : Open S.Context} {depth_left : ℕ} {p q : Place} {rs : List Record} {f : Fault} → SoFar S o depth_left p rs q → Begins o q → RecordFault S o rs depth_left q f → Bad S o depth_left p f
bad_after {rs = rs} h goes bad = Bad.at_record (rs, h.spelled, h.sound) h.moves goes bad

one_step : (steps : List PathStep) (s : PathStep) (f : Fault) → below steps (inside s f) ≡ below (steps ++ s ∷ []) f
one_step steps s f = ap (λ (z : List PathStep). record f { path = z }) (sym (append_assoc steps (s ∷ []) f.path))

-- a fault of the open part is a fault of the record that opened it
pub bad_begun :
    {S : Schema} {a o : Open S.Context} {depth_left below k : ℕ} {q u : Place} {f : Fault} (before : List Record) → Begun S a depth_left k q o below u → Bad S o below u f → RecordFault S a before depth_left q (inside (step k before) f)
bad_begun {S} {a} {o} {depth_left} {below} {k} {q} {u} {f} before (a_message {n = n} {d = d} {t = t} levels tag re l is_open is_place) bad =
    let there : Bad S (records d) below (payload_at t n) f = subst (λ (z : Place). Bad S (records d) below z f) is_place (subst (λ (z : Open S.Context). Bad S z below u f) is_open bad) in
    subst (λ (z : ℕ). RecordFault S a before z q (inside (step k before) f)) (sym levels) (RecordFault.in_a_message tag re l there refl)
bad_begun {S} {a} {o} {depth_left} {below} {k} {q} {u} {f} before (a_value {n = n} {d = d} {t = t} levels tag re l is_open is_place) bad =
    let there : Bad S (records d) below (payload_at t n) f = subst (λ (z : Place). Bad S (records d) below z f) is_place (subst (λ (z : Open S.Context). Bad S z below u f) is_open bad) in
    RecordFault.in_a_value tag re l (subst (λ (z : ℕ). Bad S (records d) z (payload_at t n) f) (sym levels) there) refl
bad_begun {S} {a} {o} {depth_left} {below} {k} {q} {u} {f} before (a_group {r = r} levels tag is_open is_place) bad =
    let there : Bad S (in_group k (S.group_context (context_of a) k)) below r f = subst (λ (z : Place). Bad S (in_group k (S.group_context (context_of a) k)) below z f) is_place (subst (λ (z : Open S.Context). Bad S z below u f) is_open bad) in
    subst (λ (z : ℕ). RecordFault S a before z q (inside (step k before) f)) (sym levels) (RecordFault.in_a_group tag there refl)

begun_begins : {S : Schema} {a o : Open S.Context} {depth_left below k : ℕ} {q u : Place} → Begun S a depth_left k q o below u → Begins a q
begun_begins {a = a} (a_message levels tag re l is_open is_place) = begins_at_tag a tag
begun_begins {a = a} (a_value levels tag re l is_open is_place) = begins_at_tag a tag
begun_begins {a = a} (a_group levels tag is_open is_place) = begins_at_tag a tag

-- a fault of the open part is the fault of the whole
pub lift :
    {S : Schema} {top : Open S.Context} {depth : ℕ} {p0 : Place} {o : Open S.Context} {depth_left : ℕ} {path : List PathStep} {p : Place} (f : Fault)
    → Opened S top depth p0 o depth_left path p → Bad S o depth_left p f → Bad S top depth p0 (below path f)
lift {S} {top} {depth} {p0} f (at_top {o = o} {depth_left = depth_left} {path = path} {p = p} a b c d) bad =
    subst (λ (z : List PathStep). Bad S top depth p0 (below z f)) (sym c)
    (subst (λ (z : Place). Bad S top depth z f) d
    (subst (λ (z : ℕ). Bad S top z p f) b (subst (λ (z : Open S.Context). Bad S z depth_left p f) a bad)))
lift {S} {top} {depth} {p0} f (inner {k = k} {path = path} {steps = steps} {rs = rs} up h begun is_path) bad =
    subst (Bad S top depth p0) (one_step steps (step k rs) f ∙ ap (λ (z : List PathStep). below z f) (sym is_path))
    (lift (inside (step k rs) f) up (bad_after h (begun_begins begun) (bad_begun rs begun bad)))

-- MORE BYTES

pub so_far_longer : {S : Schema} {o : Open S.Context} {depth_left : ℕ} {p q : Place} {rs : List Record} (more : List ℕ) → SoFar S o depth_left p rs q → SoFar S o depth_left (longer p more) rs (longer q more)
so_far_longer more h = record { front = h.front; spelled = h.spelled; sound = h.sound; moves = moves_longer h.front more h.moves }

pub begun_longer :
    {S : Schema} {a o : Open S.Context} {depth_left below k : ℕ} {q u : Place} (more : List ℕ) → Begun S a depth_left k q o below u → Begun S a depth_left k (longer q more) o below (longer u more)
begun_longer more (a_message levels tag re l is_open is_place) = a_message levels (tag_longer more tag) re (length_longer more l) is_open (ap (λ (z : Place). longer z more) is_place)
begun_longer more (a_value levels tag re l is_open is_place) = a_value levels (tag_longer more tag) re (length_longer more l) is_open (ap (λ (z : Place). longer z more) is_place)
begun_longer more (a_group levels tag is_open is_place) = a_group levels (tag_longer more tag) is_open (ap (λ (z : Place). longer z more) is_place)

-- ONE MORE RECORD

pub so_far_nothing : {S : Schema} {o : Open S.Context} {depth_left : ℕ} (p : Place) → SoFar S o depth_left p [] p
so_far_nothing p = record { front = []; spelled = refl; sound = AllSound.none; moves = moves_nothing p }

-- this sound record leads from p to q
pub record RecordTo (S : Schema) (c : S.Context) (depth_left : ℕ) (p : Place) (r : Record) (q : Place) : Type 0 where
  pub first : List ℕ
  pub spelled : Spells r first
  pub sound : Sound S c depth_left r.number r.payload
  pub moves : Moves p first q

pub so_far_more :
    {S : Schema} {o : Open S.Context} {depth_left : ℕ} {p q u : Place} {rs : List Record} {r : Record} → SoFar S o depth_left p rs q → RecordTo S (context_of o) depth_left q r u
    → SoFar S o depth_left p (rs ++ r ∷ []) u
so_far_more {rs = rs} {r = r} b h = record {
  front = b.front ++ h.first;
  spelled = AreRecords-push rs r b.front h.first b.spelled h.spelled;
  sound = AllSound-push rs r b.sound h.sound;
  moves = moves_both b.front h.first b.moves h.moves;
}

pub record_to :
    {S : Schema} (c : S.Context) (depth_left k w : ℕ) {p q r : Place} (payload : Payload) (bytes : List ℕ) → HasTag p k w q → wire_type payload ≡ w → Body k payload bytes → Sound S c depth_left k payload → Moves q bytes r
    → RecordTo S c depth_left p (record { number = k; payload = payload }) r
record_to c depth_left k w payload bytes tag type spelled sound moves = record {
  first = tag.tag.0 ++ bytes;
  spelled = record { number = tag.number; tag = tag.tag.0; tagged = subst (λ (z : ℕ). IsVarint (8 * k + z) tag.tag.0) (sym type) tag.tag.1; body = bytes; follows = spelled; joined = refl };
  sound = sound;
  moves = moves_both tag.tag.0 bytes tag.tag.2 moves;
}

-- A PAYLOAD THAT ENDS

all_taken : (n m : ℕ) (e : Option ℕ) → e ≡ option_map (λ (x : ℕ). x - m) (Some n) → e ≡ Some 0 → m ≤ n → m ≡ n
all_taken n m e is end l = let z : n - m ≡ 0 = cc in omega (arith, z, l)

-- the bytes of a payload, from its length on
pub payload_bytes :
    {r t u : Place} {n : ℕ} (front : List ℕ) → HasLength r n t → Moves (payload_at t n) front u → u.known ≡ Some 0
    → (length front ≡ n) × Moves t front (outside t n u)
payload_bytes {r} {t} {u} {n} front l m end =
    let size : length front ≡ n = all_taken n (length front) u.known m.known end m.within in (
      size,
      record { given = m.given; within = subst (IsWithin t) (sym size) l.within; at = m.at; known = ap (λ (z : ℕ). option_map (λ (e : ℕ). e - z) t.known) (sym size) },
    )

-- a record of a length and bytes
pub len_record :
    {S : Schema} (c : S.Context) (depth_left k n : ℕ) {q r t u : Place} (s : List ℕ) → HasTag q k 2 r → HasLength r n t → length s ≡ n → Moves t s u
    → Sound S c depth_left k (len s) → RecordTo S c depth_left q (record { number = k; payload = len s }) u
len_record c depth_left k n s tag l size m sound =
    record_to c depth_left k 2 (len s) (l.length_is.0 ++ s) tag refl
    (subst (λ (z : ℕ). z < 2 ^ 31) (sym size) l.small, l.length_is.0, subst (λ (z : ℕ). IsVarint z l.length_is.0) (sym size) l.length_is.1, refl) sound
    (moves_both l.length_is.0 s l.length_is.2 m)

-- a message or an entry that ends is one more record of its parent
pub message_ends :
    {S : Schema} (c : S.Context) (depth_left k n : ℕ) {d : S.Context} {q r t u : Place} {ss : List Record}
    → HasTag q k 2 r → S.reading c k ≡ message d → HasLength r n t → (h : SoFar S (records d) depth_left (payload_at t n) ss u) → u.known ≡ Some 0
    → RecordTo S c (suc depth_left) q (record { number = k; payload = len h.front }) (outside t n u)
message_ends c depth_left k n {ss = ss} tag re l h end =
    let parts = payload_bytes h.front l h.moves end in
    len_record c (suc depth_left) k n h.front tag l parts.0 parts.1 (Sound.a_message re h.spelled h.sound)

pub value_ends :
    {S : Schema} (c : S.Context) (depth_left k n : ℕ) {d : S.Context} {q r t u : Place} {ss : List Record}
    → HasTag q k 2 r → S.reading c k ≡ same_level d → HasLength r n t → (h : SoFar S (records d) depth_left (payload_at t n) ss u) → u.known ≡ Some 0
    → RecordTo S c depth_left q (record { number = k; payload = len h.front }) (outside t n u)
value_ends c depth_left k n {ss = ss} tag re l h end =
    let parts = payload_bytes h.front l h.moves end in
    len_record c depth_left k n h.front tag l parts.0 parts.1 (Sound.a_value re h.spelled h.sound)

-- a group that ends
pub group_ends :
    {S : Schema} (c : S.Context) (depth_left k : ℕ) {q r u v : Place} {ss : List Record}
    → HasTag q k 3 r → SoFar S (in_group k (S.group_context c k)) depth_left r ss u → HasTag u k 4 v → RecordTo S c (suc depth_left) q (record { number = k; payload = group (group_of ss) }) v
group_ends c depth_left k {ss = ss} tag h end =
    record_to c (suc depth_left) k 3 (group (group_of ss)) (h.front ++ end.tag.0) tag refl (h.front, end.tag.0, SpellsGroup-from_records ss h.front h.spelled, end.tag.1, refl)
    (Sound.a_group refl h.sound) (moves_both h.front end.tag.0 h.moves end.tag.2)

-- what was begun ends at its known end, and is one more record of its parent
pub begun_ends :
    {S : Schema} (a o : Open S.Context) (depth_left below k : ℕ) {q u v : Place} {ss : List Record} → Begun S a depth_left k q o below u → (e : o ≡ records (context_of o)) → (h : SoFar S o below u ss v) → v.known ≡ Some 0
    → (t : Place) × (n : ℕ) × RecordTo S (context_of a) depth_left q (record { number = k; payload = len h.front }) (outside t n v)
begun_ends {S} a o depth_left below k {q} {u} {v} {ss} (a_message {n = n} {d = d} {t = t} levels tag re l is_open is_place) e h end =
    let there : SoFar S (records d) below (payload_at t n) ss v = record {
      front = h.front;
      spelled = h.spelled;
      sound = subst (λ (z : Open S.Context). AllSound S (context_of z) below ss) is_open h.sound;
      moves = subst (λ (z : Place). Moves z h.front v) is_place h.moves;
    } in
    (t, n, subst (λ (z : ℕ). RecordTo S (context_of a) z q (record { number = k; payload = len h.front }) (outside t n v)) (sym levels) (message_ends (context_of a) below k n tag re l there end))
begun_ends {S} a o depth_left below k {q} {u} {v} {ss} (a_value {n = n} {d = d} {t = t} levels tag re l is_open is_place) e h end =
    let there : SoFar S (records d) depth_left (payload_at t n) ss v = record {
      front = h.front;
      spelled = h.spelled;
      sound = subst (λ (z : ℕ). AllSound S d z ss) (sym levels) (subst (λ (z : Open S.Context). AllSound S (context_of z) below ss) is_open h.sound);
      moves = subst (λ (z : Place). Moves z h.front v) is_place h.moves;
    } in
    (t, n, value_ends (context_of a) depth_left k n tag re l there end)
begun_ends {S} a o depth_left below k (a_group levels tag is_open is_place) e h end = absurd (cc)

pub begun_short :
    {S : Schema} {a o : Open S.Context} {depth_left below k : ℕ} {q u v : Place} {ss : List Record} → Begun S a depth_left k q o below u → o ≡ records (context_of o) → (h : SoFar S o below u ss v) → length h.front < 2 ^ 64
begun_short {v = v} (a_message {n = n} {t = t} levels tag re l is_open is_place) e h =
    let m = subst (λ (z : Place). Moves z h.front v) is_place h.moves in let w = m.within in let s = l.small in omega (arith, w, s)
begun_short {v = v} (a_value {n = n} {t = t} levels tag re l is_open is_place) e h =
    let m = subst (λ (z : Place). Moves z h.front v) is_place h.moves in let w = m.within in let s = l.small in omega (arith, w, s)
begun_short (a_group levels tag is_open is_place) e h = absurd (cc)

-- THE END OF THE INPUT

-- no bytes are left, and the open part does not end there
pub nothing_left : (q : Place) → q.rest ≡ [] → q.known ≢ Some 0 → VarintFault q (fault (input_end q) [] Truncated)
nothing_left q none open_end = by_known q.known q.at q.rest none open_end
  where
    by_known : (e : Option ℕ) (at : ℕ) (rest : List ℕ) → rest ≡ [] → e ≢ Some 0 → VarintFault (record { at = at; known = e; rest = rest }) (fault (at + length rest) [] Truncated)
    by_known e at [] none_left open_end = VarintFault.cut_short (small e) (high e) (λ z. open_end (z ∙ ap (λ (n : ℕ). Some n) (size e))) refl
      where
        empty_window : (e : Option ℕ) → window (record { at = at; known = e; rest = [] }) ≡ []
        empty_window None = refl
        empty_window (Some zero) = refl
        empty_window (Some (suc n)) = refl

        size : (e : Option ℕ) → length (window (record { at = at; known = e; rest = [] })) ≡ 0
        size e = ap length (empty_window e)

        small : (e : Option ℕ) → length (window (record { at = at; known = e; rest = [] })) < 10
        small e = let z = size e in omega (arith, z)

        high : (e : Option ℕ) → All IsHigh (window (record { at = at; known = e; rest = [] }))
        high e = subst (λ (z : List ℕ). All IsHigh z) (sym (empty_window e)) (All-nil IsHigh)
    by_known e at (x ∷ rest) none_left open_end = absurd (cc)

pub cut_at_end : {S : Schema} {o : Open S.Context} {before : List Record} {depth_left : ℕ} {q : Place} → q.rest ≡ [] → q.known ≢ Some 0 → RecordFault S o before depth_left q (fault (input_end q) [] Truncated)
cut_at_end {S} {o} {before} {depth_left} {q} none open_end = RecordFault.tag (TagFault.token (nothing_left q none open_end))
