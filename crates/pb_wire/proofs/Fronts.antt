-- Two fronts of whole sound records from one place: one goes as far as the other, or a record follows.
use Rattle.std.proofs.Common.{◌≡◌, ◌≢◌, ℕ, suc, ◌+◌, ◌*◌, ◌<◌, List, [], ◌∷◌, ◌++◌, length, refl, sym, ap, ◌∙◌, arith, length-append, Some, ◌⊎◌, inl, inr, IsUtf8}
use Rattle.pb_wire.specs.Record.{Payload, varint, fixed64, len, group, fixed32, Group, Record, wire_type, group_of}
use Rattle.pb_wire.specs.Spell.{Body, Spells, AreRecords, SpellsGroup}
use Rattle.pb_wire.specs.Fault.{Place, Moves, Reads, HasTag, HasLength}
use Rattle.pb_wire.specs.Schema.{Schema, Element, text, message, same_level, packed, Open, open_group}
use Rattle.pb_wire.specs.Sound.{AreElements, Sound, AllSound, one}
use Rattle.pb_wire.specs.Grammar.{Whole}
use Rattle.pb_wire.proofs.Unique.{same_spelling, wire_type_known}
use Rattle.pb_wire.proofs.ReadingLemmas.{moves_both}
use Rattle.pb_wire.proofs.Places.{moves_from, same_place_by, same_place, moves_split, moved_nothing, none_before}
use Rattle.pb_wire.proofs.Tokens.{ends_some, one_tag, Takes}

-- a sound record leads from p on
abbrev pub RecordAt : (S : Schema) → S.Context → ℕ → Place → Type 0
RecordAt S c depth_left p = (r : Record) × (first : List ℕ) × (q : Place) × Spells r first × Sound S c depth_left r.number r.payload × Moves p first q

-- the end tag of the group that is open leads from p on
abbrev pub EndAt : {C : Type 0} → Open C → Place → Type 0
EndAt o p = (k : ℕ) × (q : Place) × (open_group o ≡ Some k) × HasTag p k 4 q

pub record_some : {S : Schema} {c : S.Context} {depth_left : ℕ} {p : Place} → (h : RecordAt S c depth_left p) → 0 < length h.1
record_some h =
    let size : length h.1 ≡ length h.3.tag + length h.3.body = ap length h.3.joined ∙ length-append h.3.tag h.3.body in
    let some = ends_some h.3.tag h.3.tagged.ends in
    omega (arith, size, some)

pub no_record_at_end : {S : Schema} {c : S.Context} {depth_left : ℕ} {p : Place} → p.known ≡ Some 0 → RecordAt S c depth_left p → ⊥
no_record_at_end end h = let s = record_some h in let n = none_before h.1 h.5 end in omega (arith, s, n)

pub align :
    {S : Schema} {c : S.Context} {depth_left : ℕ} {p q r : Place} (rs ss : List Record) (a b : List ℕ) → AreRecords rs a → AreRecords ss b
    → AllSound S c depth_left rs → AllSound S c depth_left ss → Moves p a q → Moves p b r
    → (q ≡ r) ⊎ (RecordAt S c depth_left q ⊎ RecordAt S c depth_left r)
align [] [] a b h g s t m n = inl (same_place a m (rw (g ∙ sym h) at n))
align {p = p} {q = q} {r = r} [] (y ∷ ys) a b h g s (one x xs) m n =
    let parts = moves_split {p = p} {r = r} g.0 g.1 (rw g.4 at n) in
    inr (inl (y, g.0, parts.0, g.2, x, moves_from g.0 (moved_nothing (rw h at m)) parts.1))
align {p = p} {q = q} {r = r} (y ∷ ys) [] a b h g (one x xs) t m n =
    let parts = moves_split {p = p} {r = q} h.0 h.1 (rw h.4 at m) in
    inr (inr (y, h.0, parts.0, h.2, x, moves_from h.0 (moved_nothing (rw g at n)) parts.1))
align {p = p} {q = q} {r = r} (y ∷ ys) (z ∷ zs) a b h g (one x xs) (one u us) m n =
    let first = moves_split {p = p} {r = q} h.0 h.1 (rw h.4 at m) in
    let second = moves_split {p = p} {r = r} g.0 g.1 (rw g.4 at n) in
    let same : h.0 ≡ g.0 = (same_spelling y z h.0 g.0 first.0.rest second.0.rest h.2 g.2 (sym first.1.given ∙ second.1.given)).1 in
    let mid : first.0 ≡ second.0 = same_place_by h.0 g.0 same first.1 second.1 in
    align {p = first.0} ys zs h.1 g.1 h.3 g.3 xs us first.2 (moves_from g.1 (sym mid) second.2)

-- ---- the value of a record

pub record ValueAt (S : Schema) (c : S.Context) (depth_left k w : ℕ) (p q : Place) : Type 0 where
  pub payload : Payload
  pub type : wire_type payload ≡ w
  pub body : List ℕ
  pub spelled : Body k payload body
  pub sound : Sound S c depth_left k payload
  pub moves : Moves p body q

-- the tag of a record, and its value
pub record Parts (S : Schema) (c : S.Context) (depth_left : ℕ) (p : Place) : Type 0 where
  pub number : ℕ
  pub type : ℕ
  pub start : Place
  pub end : Place
  pub tag : HasTag p number type start
  pub no_end : type ≢ 4
  pub value : ValueAt S c depth_left number type start end

pub record_parts : {S : Schema} {c : S.Context} {depth_left : ℕ} {p : Place} → RecordAt S c depth_left p → Parts S c depth_left p
record_parts {S} {c} {depth_left} {p} (r, first, q, spell, sound, m) =
    let parts = moves_split {p = p} {r = q} spell.tag spell.body (rw spell.joined at m) in
    let known = wire_type_known r.payload in
    record {
      number = r.number;
      type = wire_type r.payload;
      start = parts.0;
      end = q;
      tag = record { tag = (spell.tag, spell.tagged, parts.1); number = spell.number; type = known.0 };
      no_end = known.1;
      value = record { payload = r.payload; type = refl; body = spell.body; spelled = spell.follows; sound = sound; moves = parts.2 };
    }

pub value_at : {S : Schema} {c : S.Context} {depth_left k w : ℕ} {p q : Place} → RecordAt S c depth_left p → HasTag p k w q → (r : Place) × ValueAt S c depth_left k w q r
value_at {S} {c} {depth_left} {k} {w} {p} {q} h t =
    let parts = record_parts h in
    let same = one_tag parts.tag t in
    (parts.end, rw (same.0, same.1, same.2) at parts.value)

pub not_end_tag : {S : Schema} {c : S.Context} {depth_left k : ℕ} {p q : Place} → RecordAt S c depth_left p → HasTag p k 4 q → ⊥
not_end_tag h t = let parts = record_parts h in parts.no_end (one_tag parts.tag t).1

pub record_of : {S : Schema} {c : S.Context} {depth_left k w : ℕ} {p q r : Place} → HasTag p k w q → ValueAt S c depth_left k w q r → RecordAt S c depth_left p
record_of {S} {c} {depth_left} {k} {w} {p} {q} {r} t v = (
  record { number = k; payload = v.payload },
  t.tag.0 ++ v.body,
  r,
  record { number = t.number; tag = t.tag.0; tagged = rw v.type t.tag.1; body = v.body; follows = v.spelled; joined = refl },
  v.sound,
  moves_both _ _ t.tag.2 v.moves,
)

pub varint_value : {S : Schema} {c : S.Context} {depth_left k : ℕ} {p q : Place} → ValueAt S c depth_left k 0 p q → (n : ℕ) × Reads p n q
varint_value {S} {c} {depth_left} {k} {p} {q} v = go v.payload v.type v.spelled
  where
    go : (payload : Payload) → wire_type payload ≡ 0 → Body k payload v.body → (n : ℕ) × Reads p n q
    go (varint n) e b = (n, (v.body, b.1, v.moves))
    go (fixed64 n) e b = absurd (omega arith)
    go (len n) e b = absurd (omega arith)
    go (group n) e b = absurd (omega arith)
    go (fixed32 n) e b = absurd (omega arith)

pub fixed64_value : {S : Schema} {c : S.Context} {depth_left k : ℕ} {p q : Place} → ValueAt S c depth_left k 1 p q → Takes p 8 q
fixed64_value {S} {c} {depth_left} {k} {p} {q} v = go v.payload v.type v.spelled
  where
    go : (payload : Payload) → wire_type payload ≡ 1 → Body k payload v.body → Takes p 8 q
    go (fixed64 n) e b = (v.body, ap length b.1, v.moves)
    go (varint n) e b = absurd (omega arith)
    go (len n) e b = absurd (omega arith)
    go (group n) e b = absurd (omega arith)
    go (fixed32 n) e b = absurd (omega arith)

pub fixed32_value : {S : Schema} {c : S.Context} {depth_left k : ℕ} {p q : Place} → ValueAt S c depth_left k 5 p q → Takes p 4 q
fixed32_value {S} {c} {depth_left} {k} {p} {q} v = go v.payload v.type v.spelled
  where
    go : (payload : Payload) → wire_type payload ≡ 5 → Body k payload v.body → Takes p 4 q
    go (fixed32 n) e b = (v.body, ap length b.1, v.moves)
    go (varint n) e b = absurd (omega arith)
    go (len n) e b = absurd (omega arith)
    go (group n) e b = absurd (omega arith)
    go (fixed64 n) e b = absurd (omega arith)

pub record LenValue (S : Schema) (c : S.Context) (depth_left k : ℕ) (p q : Place) : Type 0 where
  pub bytes : List ℕ
  pub start : Place
  pub size : HasLength p (length bytes) start
  pub moves : Moves start bytes q
  pub sound : Sound S c depth_left k (len bytes)

pub len_value : {S : Schema} {c : S.Context} {depth_left k : ℕ} {p q : Place} → ValueAt S c depth_left k 2 p q → LenValue S c depth_left k p q
len_value {S} {c} {depth_left} {k} {p} {q} v = go v.payload v.type v.spelled v.sound
  where
    go : (payload : Payload) → wire_type payload ≡ 2 → Body k payload v.body → Sound S c depth_left k payload → LenValue S c depth_left k p q
    go (len s) e b sound =
        let parts = moves_split {p = p} {r = q} b.1 s (rw b.3 at v.moves) in
        record {
          bytes = s;
          start = parts.0;
          size = record { length_is = (b.1, b.2, parts.1); small = b.0; within = parts.2.within };
          moves = parts.2;
          sound = sound;
        }
    go (varint n) e b sound = absurd (omega arith)
    go (fixed64 n) e b sound = absurd (omega arith)
    go (group n) e b sound = absurd (omega arith)
    go (fixed32 n) e b sound = absurd (omega arith)

pub record GroupValue (S : Schema) (c : S.Context) (depth_left k : ℕ) (p q : Place) : Type 0 where
  pub inside : Group
  pub bytes : List ℕ
  pub start : Place
  pub spelled : SpellsGroup inside bytes
  pub moves : Moves p bytes start
  pub end : Reads start (8 * k + 4) q
  pub sound : Sound S c depth_left k (group inside)

pub group_value : {S : Schema} {c : S.Context} {depth_left k : ℕ} {p q : Place} → ValueAt S c depth_left k 3 p q → GroupValue S c depth_left k p q
group_value {S} {c} {depth_left} {k} {p} {q} v = go v.payload v.type v.spelled v.sound
  where
    go : (payload : Payload) → wire_type payload ≡ 3 → Body k payload v.body → Sound S c depth_left k payload → GroupValue S c depth_left k p q
    go (group g) e b sound =
        let parts = moves_split {p = p} {r = q} b.0 b.1 (rw b.4 at v.moves) in
        record { inside = g; bytes = b.0; start = parts.0; spelled = b.2; moves = parts.1; end = (b.1, b.3, parts.2); sound = sound }
    go (varint n) e b sound = absurd (omega arith)
    go (fixed64 n) e b sound = absurd (omega arith)
    go (len n) e b sound = absurd (omega arith)
    go (fixed32 n) e b sound = absurd (omega arith)

-- ---- what a sound payload is, by how it is read

pub sound_text : {S : Schema} {c : S.Context} {depth_left k : ℕ} (s : List ℕ) {p : Payload} → Sound S c depth_left k p → p ≡ len s → S.reading c k ≡ text → IsUtf8 s
sound_text s Sound.is_varint e re = absurd (cc)
sound_text s Sound.is_fixed64 e re = absurd (cc)
sound_text s Sound.is_fixed32 e re = absurd (cc)
sound_text s (Sound.some_bytes r) e re = absurd (cc)
sound_text s (Sound.a_text {s = z} r u) e re = let h : z ≡ s = cc in rw h at u
sound_text s (Sound.a_list r u) e re = absurd (cc)
sound_text s (Sound.a_message r u x) e re = absurd (cc)
sound_text s (Sound.a_value r u x) e re = absurd (cc)
sound_text s (Sound.a_group u x) e re = absurd (cc)

pub sound_list : {S : Schema} {c : S.Context} {depth_left k : ℕ} (s : List ℕ) (l : Element) {p : Payload} → Sound S c depth_left k p → p ≡ len s → S.reading c k ≡ packed l → AreElements l s
sound_list s l Sound.is_varint e re = absurd (cc)
sound_list s l Sound.is_fixed64 e re = absurd (cc)
sound_list s l Sound.is_fixed32 e re = absurd (cc)
sound_list s l (Sound.some_bytes r) e re = absurd (cc)
sound_list s l (Sound.a_text r u) e re = absurd (cc)
sound_list s l (Sound.a_list {s = z} {e = m} r u) e re = let h : z ≡ s = cc in let i : m ≡ l = cc in rw (h, i) at u
sound_list s l (Sound.a_message r u x) e re = absurd (cc)
sound_list s l (Sound.a_value r u x) e re = absurd (cc)
sound_list s l (Sound.a_group u x) e re = absurd (cc)

pub sound_message :
    {S : Schema} {c : S.Context} {depth_left k : ℕ} (s : List ℕ) (d : S.Context) {p : Payload} → Sound S c depth_left k p → p ≡ len s
    → S.reading c k ≡ message d → (n : ℕ) × (depth_left ≡ suc n) × Whole S d n s
sound_message s d Sound.is_varint e re = absurd (cc)
sound_message s d Sound.is_fixed64 e re = absurd (cc)
sound_message s d Sound.is_fixed32 e re = absurd (cc)
sound_message s d (Sound.some_bytes r) e re = absurd (cc)
sound_message s d (Sound.a_text r u) e re = absurd (cc)
sound_message s d (Sound.a_list r u) e re = absurd (cc)
sound_message s d (Sound.a_message {d = b} {depth_left = n} {s = z} {rs = rs} r u x) e re =
    let h : z ≡ s = cc in let i : b ≡ d = cc in (n, refl, (rs, rw h at u, rw i at x))
sound_message s d (Sound.a_value r u x) e re = absurd (cc)
sound_message s d (Sound.a_group u x) e re = absurd (cc)

pub sound_value :
    {S : Schema} {c : S.Context} {depth_left k : ℕ} (s : List ℕ) (d : S.Context) {p : Payload} → Sound S c depth_left k p → p ≡ len s
    → S.reading c k ≡ same_level d → Whole S d depth_left s
sound_value s d Sound.is_varint e re = absurd (cc)
sound_value s d Sound.is_fixed64 e re = absurd (cc)
sound_value s d Sound.is_fixed32 e re = absurd (cc)
sound_value s d (Sound.some_bytes r) e re = absurd (cc)
sound_value s d (Sound.a_text r u) e re = absurd (cc)
sound_value s d (Sound.a_list r u) e re = absurd (cc)
sound_value s d (Sound.a_message r u x) e re = absurd (cc)
sound_value s d (Sound.a_value {d = b} {s = z} {rs = rs} r u x) e re =
    let h : z ≡ s = cc in let i : b ≡ d = cc in (rs, rw h at u, rw i at x)
sound_value s d (Sound.a_group u x) e re = absurd (cc)

pub sound_group :
    {S : Schema} {c : S.Context} {depth_left k : ℕ} (g : Group) {p : Payload} → Sound S c depth_left k p → p ≡ group g
    → (n : ℕ) × (depth_left ≡ suc n) × (rs : List Record) × (g ≡ group_of rs) × AllSound S (S.group_context c k) n rs
sound_group g Sound.is_varint e = absurd (cc)
sound_group g Sound.is_fixed64 e = absurd (cc)
sound_group g Sound.is_fixed32 e = absurd (cc)
sound_group g (Sound.some_bytes r) e = absurd (cc)
sound_group g (Sound.a_text r u) e = absurd (cc)
sound_group g (Sound.a_list r u) e = absurd (cc)
sound_group g (Sound.a_message r u x) e = absurd (cc)
sound_group g (Sound.a_value r u x) e = absurd (cc)
sound_group g (Sound.a_group {depth_left = n} {g = h} {rs = rs} u x) e = let i : g ≡ h = cc in (n, refl, rs, i ∙ u, x)

pub AreRecords-from_group : (rs : List Record) (b : List ℕ) → SpellsGroup (group_of rs) b → AreRecords rs b
AreRecords-from_group [] b h = h
AreRecords-from_group (r ∷ rs) b h = (h.0, h.1, h.2, AreRecords-from_group rs h.1 h.3, h.4)
