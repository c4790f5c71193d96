-- No spelling begins another.
use Rattle.std.proofs.Common.{◌≡◌, ◌≢◌, ℕ, ◌+◌, ◌*◌, ◌%◌, ◌^◌, ◌<◌, List, [], ◌∷◌, ◌++◌, length, take, drop, refl, sym, ap, ◌∙◌, arith, append_assoc, length-append}
use Rattle.std.specs.Int.{w32, w64, to_le_bytes, from_le_bytes}
use Rattle.std.proofs.lemmas.List.{take_at, drop_at, append_cancel_left}
use Rattle.std.proofs.lemmas.Nat.{from_le_bytes-to_le_bytes_4, from_le_bytes-to_le_bytes_8}
use Rattle.pb_wire.specs.Varint.{IsVarint, EndsOnce, groups_value}
use Rattle.pb_wire.specs.Record.{Payload, varint, fixed64, len, group, fixed32, Group, no_more, more, Record, wire_type}
use Rattle.pb_wire.specs.Spell.{Body, Spells, Tagged, AreRecords, SpellsGroup}

same_run : (a b x y : List ℕ) → EndsOnce a → EndsOnce b → a ++ x ≡ b ++ y → a ≡ b
same_run [] b x y s t e = absurd s
same_run (p ∷ ps) [] x y s t e = absurd t
same_run (p ∷ []) (q ∷ []) x y s t e = let h : p ≡ q = cc in ap (λ (n : ℕ). n ∷ []) h
same_run (p ∷ []) (q ∷ r ∷ bs) x y s t e = let h : p ≡ q = cc in absurd (omega (arith, s, t.0))
same_run (p ∷ r ∷ ps) (q ∷ []) x y s t e = let h : p ≡ q = cc in absurd (omega (arith, t, s.0))
same_run (p ∷ r ∷ ps) (q ∷ u ∷ bs) x y s t e =
    let h : p ≡ q = cc in
    let rest : (r ∷ ps) ++ x ≡ (u ∷ bs) ++ y = cc in
    let tails : r ∷ ps ≡ u ∷ bs = same_run (r ∷ ps) (u ∷ bs) x y s.1 t.1 rest in cc

run_some : (a : List ℕ) → EndsOnce a → 0 < length a
run_some [] h = absurd h
run_some (p ∷ ps) h = omega arith

-- two varints at one place are one
pub same_varint : {m n : ℕ} (a b x y : List ℕ) → IsVarint m a → IsVarint n b → a ++ x ≡ b ++ y → (a ≡ b) × (m ≡ n) × (x ≡ y)
same_varint a b x y s t e =
    let h : a ≡ b = same_run a b x y s.ends t.ends e in
    (h, sym s.value ∙ ap (λ (c : List ℕ). groups_value c % 2 ^ 64) h ∙ t.value, append_cancel_left b x y (ap (λ (c : List ℕ). c ++ x) (sym h) ∙ e))

-- fronts of one length are one
pub same_front : (a b x y : List ℕ) → length a ≡ length b → a ++ x ≡ b ++ y → (a ≡ b) × (x ≡ y)
same_front a b x y n e = (
  sym (take_at a x (length b) n) ∙ ap (take (length b)) e ∙ take_at b y (length b) refl,
  sym (drop_at a x (length b) n) ∙ ap (drop (length b)) e ∙ drop_at b y (length b) refl,
)

pub wire_type_known : (p : Payload) → (wire_type p < 6) × (wire_type p ≢ 4)
wire_type_known (varint n) = (omega arith, λ e. omega arith)
wire_type_known (fixed64 n) = (omega arith, λ e. omega arith)
wire_type_known (len s) = (omega arith, λ e. omega arith)
wire_type_known (group g) = (omega arith, λ e. omega arith)
wire_type_known (fixed32 n) = (omega arith, λ e. omega arith)

-- two tags at one place are one
same_tag :
    {B C : List ℕ → Type 0} (k l v w : ℕ) (a b x y : List ℕ) → v < 6 → w < 6 → (s : Tagged k v B a) (t : Tagged l w C b)
    → a ++ x ≡ b ++ y → (k ≡ l) × (v ≡ w) × (s.tag ≡ t.tag) × (s.body ++ x ≡ t.body ++ y)
same_tag k l v w a b x y hv hw s t e =
    let split : s.tag ++ (s.body ++ x) ≡ t.tag ++ (t.body ++ y) =
    sym (append_assoc s.tag s.body x) ∙ ap (λ (c : List ℕ). c ++ x) (sym s.joined) ∙ e ∙ ap (λ (c : List ℕ). c ++ y) t.joined ∙ append_assoc t.tag t.body y in
    let one = same_varint s.tag t.tag _ _ s.tagged t.tagged split in
    let n : 8 * k + v ≡ 8 * l + w = one.1 in
    (omega arith, omega arith, one.0, one.2)

regroup : (a b c x : List ℕ) → ((a ++ b) ++ c) ++ x ≡ a ++ ((b ++ c) ++ x)
regroup a b c x = ap (λ (z : List ℕ). z ++ x) (append_assoc a b c) ∙ append_assoc a (b ++ c) x

-- an end tag is no record's tag
end_or_tag :
    (k m : ℕ) (p : Payload) (h : Group) (a b c d x y : List ℕ) → a ≡ [] → SpellsGroup (more m p h) b → IsVarint (8 * k + 4) c
    → (a ++ c) ++ x ≡ (b ++ d) ++ y → ⊥
end_or_tag k m p h a b c d x y s t u e =
    let split : c ++ x ≡ t.2.tag ++ (t.2.body ++ ((t.1 ++ d) ++ y)) =
    ap (λ (z : List ℕ). (z ++ c) ++ x) (sym s) ∙ e ∙ ap (λ (z : List ℕ). (z ++ d) ++ y) t.4 ∙ regroup t.0 t.1 d y
    ∙ ap (λ (z : List ℕ). z ++ ((t.1 ++ d) ++ y)) t.2.joined ∙ append_assoc t.2.tag t.2.body ((t.1 ++ d) ++ y) in
    let one = same_varint c t.2.tag _ _ u t.2.tagged split in
    let n : 8 * k + 4 ≡ 8 * m + wire_type p = one.1 in
    let known = wire_type_known p in
    known.1 (omega (arith, n, known.0))

mutual
  pub same_body :
      (p q : Payload) (k l : ℕ) (a b x y : List ℕ) → wire_type p ≡ wire_type q → Body k p a → Body l q b → a ++ x ≡ b ++ y
      → (p ≡ q) × (a ≡ b) × (x ≡ y)
  same_body (varint m) (varint n) k l a b x y w s t e =
      let h = same_varint a b x y s.1 t.1 e in (ap varint h.1, h.0, h.2)
  same_body (fixed64 m) (fixed64 n) k l a b x y w s t e =
      let bytes : to_le_bytes w64 m ++ x ≡ to_le_bytes w64 n ++ y = ap (λ (c : List ℕ). c ++ x) (sym s.1) ∙ e ∙ ap (λ (c : List ℕ). c ++ y) t.1 in
      let one = same_front (to_le_bytes w64 m) (to_le_bytes w64 n) x y refl bytes in
      let number : m ≡ n = sym (from_le_bytes-to_le_bytes_8 m s.0) ∙ ap (from_le_bytes w64) one.0 ∙ from_le_bytes-to_le_bytes_8 n t.0 in
      (ap fixed64 number, s.1 ∙ one.0 ∙ sym t.1, one.1)
  same_body (fixed32 m) (fixed32 n) k l a b x y w s t e =
      let bytes : to_le_bytes w32 m ++ x ≡ to_le_bytes w32 n ++ y = ap (λ (c : List ℕ). c ++ x) (sym s.1) ∙ e ∙ ap (λ (c : List ℕ). c ++ y) t.1 in
      let one = same_front (to_le_bytes w32 m) (to_le_bytes w32 n) x y refl bytes in
      let number : m ≡ n = sym (from_le_bytes-to_le_bytes_4 m s.0) ∙ ap (from_le_bytes w32) one.0 ∙ from_le_bytes-to_le_bytes_4 n t.0 in
      (ap fixed32 number, s.1 ∙ one.0 ∙ sym t.1, one.1)
  same_body (len c) (len d) k l a b x y w s t e =
      let split : s.1 ++ (c ++ x) ≡ t.1 ++ (d ++ y) =
      sym (append_assoc s.1 c x) ∙ ap (λ (z : List ℕ). z ++ x) (sym s.3) ∙ e ∙ ap (λ (z : List ℕ). z ++ y) t.3 ∙ append_assoc t.1 d y in
      let one = same_varint s.1 t.1 _ _ s.2 t.2 split in
      let two = same_front c d x y one.1 one.2 in
      (ap len two.0, s.3 ∙ ap (λ (z : List ℕ). z ++ c) one.0 ∙ ap (λ (z : List ℕ). t.1 ++ z) two.0 ∙ sym t.3, two.1)
  same_body (group g) (group h) k l a b x y w s t e =
      let one = same_group g h k l s.0 t.0 s.1 t.1 x y s.2 t.2 s.3 t.3 (ap (λ (c : List ℕ). c ++ x) (sym s.4) ∙ e ∙ ap (λ (c : List ℕ). c ++ y) t.4) in
      (ap group one.0, s.4 ∙ one.1 ∙ sym t.4, one.2)
  same_body (varint m) (fixed64 n) k l a b x y w s t e = absurd (omega arith)
  same_body (varint m) (len n) k l a b x y w s t e = absurd (omega arith)
  same_body (varint m) (group n) k l a b x y w s t e = absurd (omega arith)
  same_body (varint m) (fixed32 n) k l a b x y w s t e = absurd (omega arith)
  same_body (fixed64 m) (varint n) k l a b x y w s t e = absurd (omega arith)
  same_body (fixed64 m) (len n) k l a b x y w s t e = absurd (omega arith)
  same_body (fixed64 m) (group n) k l a b x y w s t e = absurd (omega arith)
  same_body (fixed64 m) (fixed32 n) k l a b x y w s t e = absurd (omega arith)
  same_body (len m) (varint n) k l a b x y w s t e = absurd (omega arith)
  same_body (len m) (fixed64 n) k l a b x y w s t e = absurd (omega arith)
  same_body (len m) (group n) k l a b x y w s t e = absurd (omega arith)
  same_body (len m) (fixed32 n) k l a b x y w s t e = absurd (omega arith)
  same_body (group m) (varint n) k l a b x y w s t e = absurd (omega arith)
  same_body (group m) (fixed64 n) k l a b x y w s t e = absurd (omega arith)
  same_body (group m) (len n) k l a b x y w s t e = absurd (omega arith)
  same_body (group m) (fixed32 n) k l a b x y w s t e = absurd (omega arith)
  same_body (fixed32 m) (varint n) k l a b x y w s t e = absurd (omega arith)
  same_body (fixed32 m) (fixed64 n) k l a b x y w s t e = absurd (omega arith)
  same_body (fixed32 m) (len n) k l a b x y w s t e = absurd (omega arith)
  same_body (fixed32 m) (group n) k l a b x y w s t e = absurd (omega arith)

  pub same_group :
      (g h : Group) (k l : ℕ) (a b c d x y : List ℕ) → SpellsGroup g a → SpellsGroup h b → IsVarint (8 * k + 4) c → IsVarint (8 * l + 4) d
      → (a ++ c) ++ x ≡ (b ++ d) ++ y → (g ≡ h) × (a ++ c ≡ b ++ d) × (x ≡ y)
  same_group no_more no_more k l a b c d x y s t u v e =
      let bytes : c ++ x ≡ d ++ y = ap (λ (z : List ℕ). (z ++ c) ++ x) (sym s) ∙ e ∙ ap (λ (z : List ℕ). (z ++ d) ++ y) t in
      let one = same_varint c d x y u v bytes in
      (refl, ap (λ (z : List ℕ). z ++ c) s ∙ one.0 ∙ ap (λ (z : List ℕ). z ++ d) (sym t), one.2)
  same_group no_more (more m p h) k l a b c d x y s t u v e = absurd (end_or_tag k m p h a b c d x y s t u e)
  same_group (more n q g) no_more k l a b c d x y s t u v e = absurd (end_or_tag l n q g b a d c y x t s v (sym e))
  same_group (more n q g) (more m p h) k l a b c d x y s t u v e =
      let split : s.0 ++ ((s.1 ++ c) ++ x) ≡ t.0 ++ ((t.1 ++ d) ++ y) =
      sym (regroup s.0 s.1 c x) ∙ ap (λ (z : List ℕ). (z ++ c) ++ x) (sym s.4) ∙ e ∙ ap (λ (z : List ℕ). (z ++ d) ++ y) t.4 ∙ regroup t.0 t.1 d y in
      let tags = same_tag n m (wire_type q) (wire_type p) s.0 t.0 _ _ (wire_type_known q).0 (wire_type_known p).0 s.2 t.2 split in
      let body = same_body q p n m s.2.body t.2.body _ _ tags.1 s.2.follows t.2.follows tags.3 in
      let first : s.0 ≡ t.0 = s.2.joined ∙ ap (λ (z : List ℕ). z ++ s.2.body) tags.2 ∙ ap (λ (z : List ℕ). t.2.tag ++ z) body.1 ∙ sym t.2.joined in
      let others = same_group g h k l s.1 t.1 c d x y s.3 t.3 u v body.2 in (
        ap (λ (z : ℕ). more z q g) tags.0 ∙ ap (λ (z : Payload). more m z g) body.0 ∙ ap (λ (z : Group). more m p z) others.0,
        ap (λ (z : List ℕ). z ++ c) s.4 ∙ append_assoc s.0 s.1 c ∙ ap (λ (z : List ℕ). z ++ (s.1 ++ c)) first
            ∙ ap (λ (z : List ℕ). t.0 ++ z) others.1 ∙ sym (append_assoc t.0 t.1 d) ∙ ap (λ (z : List ℕ). z ++ d) (sym t.4),
        others.2,
      )

spelling_parts : (r s : Record) (a b x y : List ℕ) → Spells r a → Spells s b → a ++ x ≡ b ++ y → ((r ≡ s) × (a ≡ b)) × (x ≡ y)
spelling_parts r s a b x y h g e =
    let tags = same_tag r.number s.number (wire_type r.payload) (wire_type s.payload) a b x y (wire_type_known r.payload).0 (wire_type_known s.payload).0 h g e in
    let body = same_body r.payload s.payload r.number s.number h.body g.body _ _ tags.1 h.follows g.follows tags.3 in (
      (
        ap (λ (z : ℕ). record { number = z; payload = r.payload }) tags.0 ∙ ap (λ (z : Payload). record { number = s.number; payload = z }) body.0,
        h.joined ∙ ap (λ (z : List ℕ). z ++ h.body) tags.2 ∙ ap (λ (z : List ℕ). g.tag ++ z) body.1 ∙ sym g.joined,
      ),
      body.2,
    )

no_empty : (r : Record) (a b : List ℕ) → Spells r a → a ++ b ≡ [] → ⊥
no_empty r a b h e =
    let total : length ((h.tag ++ h.body) ++ b) ≡ 0 = ap length (ap (λ (z : List ℕ). z ++ b) (sym h.joined) ∙ e) in
    omega (arith, run_some h.tag h.tagged.ends, rw (length-append, length-append) at total)

records_of_front : (rs ss : List Record) (b : List ℕ) → AreRecords rs b → AreRecords ss b → rs ≡ ss
records_of_front [] [] b h g = refl
records_of_front [] (s ∷ ss) b h g = absurd (no_empty s g.0 g.1 g.2 (sym g.4 ∙ h))
records_of_front (r ∷ rs) [] b h g = absurd (no_empty r h.0 h.1 h.2 (sym h.4 ∙ g))
records_of_front (r ∷ rs) (s ∷ ss) b h g =
    let first = spelling_parts r s h.0 g.0 h.1 g.1 h.2 g.2 (sym h.4 ∙ g.4) in
    let rest : AreRecords ss h.1 = rw (sym first.1) at g.3 in
    ap (λ (z : Record). z ∷ rs) first.0.0 ∙ ap (λ (z : List Record). s ∷ z) (records_of_front rs ss h.1 h.3 rest)

pub same_spelling : (r s : Record) (a b x y : List ℕ) → Spells r a → Spells s b → a ++ x ≡ b ++ y → (r ≡ s) × (a ≡ b)
same_spelling r s a b x y h g e = (spelling_parts r s a b x y h g e).0

pub same_records : (rs ss : List Record) (b : List ℕ) → AreRecords rs b → AreRecords ss b → rs ≡ ss
same_records rs ss b h g = records_of_front rs ss b h g
