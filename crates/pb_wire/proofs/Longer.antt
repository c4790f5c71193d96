-- A fault other than Truncated is the fault of every longer input.
use Rattle.std.proofs.Common.{◌≡◌, ◌≢◌, ℕ, zero, suc, ◌+◌, ◌-◌, ◌*◌, ◌<◌, ◌≤◌, List, [], ◌∷◌, ◌++◌, length, take, refl, sym, ap, subst, ◌∙◌, arith, append_assoc, length-append, Option, Some, None, ◌⊎◌, inl, inr, All, IsUtf8}
use Rattle.std.specs.Prelude.{option_map}
use Rattle.std.specs.Str.Lossy.{utf8_valid_len}
use Rattle.std.proofs.lemmas.Bool.{cases_lt}
use Rattle.std.proofs.lemmas.List.{take-append-le, length-take}
use Rattle.std.proofs.Math.Seq.{take-append-add}
use Rattle.pb_wire.specs.Varint.{IsVarint}
use Rattle.pb_wire.specs.Record.{Record}
use Rattle.pb_wire.specs.declared.fault.PathStep.{PathStep}
use Rattle.pb_wire.specs.Fault.{Fault, fault, step, inside, Place, text_at, window, Moves, Leads, IsHigh, HasTag, HasLength, TagFault, VarintFault, FixedFault, LengthFault}
use Rattle.pb_wire.specs.Schema.{Schema, Element, a_varint, four_bytes, eight_bytes, Open, records, in_group, open_group}
use Rattle.pb_wire.specs.Limits.{Bounds}
use Rattle.pb_wire.specs.Grammar.{Whole, Begins, payload_at, Bad, RecordFault, BadElements, ElementFault, HasFault, beyond}
use Rattle.pb_wire.specs.Exact.{IsRead, longer, IsCut}
use Rattle.pb_wire.specs.declared.fault.Cause.{Cause}
use Rattle.pb_wire.specs.declared.fault.Cause.TheVariants.{Truncated, BadText}
use Rattle.pb_wire.specs.declared.fault.Cause.TheVariants as cause

pub moves_longer : {p q : Place} (a more : List ℕ) → Moves p a q → Moves (longer p more) a (longer q more)
moves_longer {p} {q} a more m = record {
  given = ap (λ (z : List ℕ). z ++ more) m.given ∙ append_assoc a q.rest more;
  within = m.within;
  at = m.at;
  known = m.known;
}

pub leads_longer : (Body : List ℕ → Type 0) (p q : Place) (more : List ℕ) → Leads Body p q → Leads Body (longer p more) (longer q more)
leads_longer Body p q more h = (h.0, h.1, moves_longer h.0 more h.2)

pub tag_longer : {p q : Place} {k w : ℕ} (more : List ℕ) → HasTag p k w q → HasTag (longer p more) k w (longer q more)
tag_longer {p} {q} {k} {w} more t = record { tag = leads_longer (IsVarint (8 * k + w)) p q more t.tag; number = t.number; type = t.type }

pub length_longer : {p q : Place} {n : ℕ} (more : List ℕ) → HasLength p n q → HasLength (longer p more) n (longer q more)
length_longer {p} {q} {n} more l = record { length_is = leads_longer (IsVarint n) p q more l.length_is; small = l.small; within = l.within }

-- the window grows at its end alone
grown : (known : Option ℕ) (at : ℕ) (rest more : List ℕ) → (w : List ℕ) × (window (record { at = at; known = known; rest = rest ++ more }) ≡ window (record { at = at; known = known; rest = rest }) ++ w)
grown None at rest more = (more, refl)
grown (Some e) at rest more = (take (e - length rest) more, front e rest)
  where
    front : (e : ℕ) (rest : List ℕ) → take e (rest ++ more) ≡ take e rest ++ take (e - length rest) more
    front zero [] = refl
    front (suc e) [] = let n : suc e - 0 ≡ suc e = omega arith in rw n refl
    front zero (x ∷ xs) = let n : 0 - suc (length xs) ≡ 0 = omega arith in rw n refl
    front (suc e) (x ∷ xs) =
        let n : suc e - suc (length xs) ≡ e - length xs = omega arith in
        rw n (ap (λ (z : List ℕ). x ∷ z) (front e xs))

-- it doesn't grow if it ends at the known end
closed : (known : Option ℕ) (at : ℕ) (rest more : List ℕ) → known ≡ Some (length (window (record { at = at; known = known; rest = rest }))) → window (record { at = at; known = known; rest = rest ++ more }) ≡ window (record { at = at; known = known; rest = rest })
closed None at rest more e = absurd (cc)
closed (Some n) at rest more e =
    let size : n ≡ length (take n rest) = cc in
    take-append-le n rest more (omega (arith, size, length-take n rest))

pub varint_longer : {p : Place} {f : Fault} (more : List ℕ) → VarintFault p f → (IsCut f → ⊥) → VarintFault (longer p more) f
varint_longer {p} {f} more (VarintFault.too_long long high is) ne =
    let w = grown p.known p.at p.rest more in
    let size : length (window (longer p more)) ≡ length (window p) + length w.0 = ap length w.1 ∙ length-append (window p) w.0 in
    let same : take 10 (window (longer p more)) ≡ take 10 (window p) = ap (take 10) w.1 ∙ take-append-le 10 (window p) w.0 long in
    VarintFault.too_long (omega arith) (subst (λ (z : List ℕ). All IsHigh z) (sym same) high) is
varint_longer {p} {f} more (VarintFault.past_end short high known is) ne =
    let same : window (longer p more) ≡ window p = closed p.known p.at p.rest more known in
    VarintFault.past_end (subst (λ (z : List ℕ). length z < 10) (sym same) short) (subst (λ (z : List ℕ). All IsHigh z) (sym same) high)
    (known ∙ ap (λ (z : List ℕ). Some (length z)) (sym same)) is
varint_longer {p} {f} more (VarintFault.cut_short short high known is) ne = absurd (ne (ap (λ (z : Fault). z.cause) is))

pub fixed_longer : {p : Place} {n : ℕ} {f : Fault} (more : List ℕ) → FixedFault n p f → (IsCut f → ⊥) → FixedFault n (longer p more) f
fixed_longer more (FixedFault.past_end past is) ne = FixedFault.past_end past is
fixed_longer more (FixedFault.cut_short within cut is) ne = absurd (ne (ap (λ (z : Fault). z.cause) is))

pub length_fault_longer : {p : Place} {f : Fault} (more : List ℕ) → LengthFault p f → (IsCut f → ⊥) → LengthFault (longer p more) f
length_fault_longer more (LengthFault.token v) ne = LengthFault.token (varint_longer more v ne)
length_fault_longer {p} more (LengthFault.too_large {n = n} {q = q} r large is) ne = LengthFault.too_large (leads_longer (IsVarint n) p q more r) large is
length_fault_longer {p} more (LengthFault.past_end {n = n} {q = q} r small past is) ne = LengthFault.past_end (leads_longer (IsVarint n) p q more r) small past is

pub tag_fault_longer : {o : Option ℕ} {p : Place} {f : Fault} (more : List ℕ) → TagFault o p f → (IsCut f → ⊥) → TagFault o (longer p more) f
tag_fault_longer more (TagFault.token v) ne = TagFault.token (varint_longer more v ne)
tag_fault_longer {o} {p} more (TagFault.too_large {n = n} {q = q} r a is) ne = TagFault.too_large (leads_longer (IsVarint n) p q more r) a is
tag_fault_longer {o} {p} more (TagFault.number_zero {n = n} {q = q} r a is) ne = TagFault.number_zero (leads_longer (IsVarint n) p q more r) a is
tag_fault_longer {o} {p} more (TagFault.bad_type {n = n} {q = q} r a b c is) ne = TagFault.bad_type (leads_longer (IsVarint n) p q more r) a b c is
tag_fault_longer more (TagFault.stray_end t e is) ne = TagFault.stray_end (tag_longer more t) e is
tag_fault_longer more (TagFault.wrong_end t e other is) ne = TagFault.wrong_end (tag_longer more t) e other is

element_longer : (e : Element) (p : Place) (f : Fault) (more : List ℕ) → ElementFault e p f → (IsCut f → ⊥) → ElementFault e (longer p more) f
element_longer a_varint p f more h ne = varint_longer more h ne
element_longer four_bytes p f more h ne = fixed_longer more h ne
element_longer eight_bytes p f more h ne = fixed_longer more h ne

elements_longer : (e : Element) (p : Place) (f : Fault) (more : List ℕ) → BadElements e p f → (IsCut f → ⊥) → BadElements e (longer p more) f
elements_longer e p f more (front, q, es, m, goes, bad) ne = (front, longer q more, es, moves_longer front more m, goes, element_longer e q f more bad ne)

none_empty : (a b : List ℕ) → a ≢ [] → a ++ b ≢ []
none_empty [] b ne e = ne refl
none_empty (x ∷ a) b ne e = cc

begins_longer : {C : Type 0} (o : Open C) (p : Place) (more : List ℕ) → Begins o p → Begins o (longer p more)
begins_longer (records c) p more b = (b.0, λ e. none_empty p.rest more (b.1 e))
begins_longer (in_group k c) p more b = b

not_cut : {f g : Fault} {s : PathStep} → f ≡ inside s g → (IsCut f → ⊥) → IsCut g → ⊥
not_cut is ne e = ne (ap (λ (z : Fault). z.cause) is ∙ e)

mutual
  pub bad_longer : {S : Schema} {o : Open S.Context} {depth_left : ℕ} {p : Place} {f : Fault} (more : List ℕ) → Bad S o depth_left p f → (IsCut f → ⊥) → Bad S o depth_left (longer p more) f
  bad_longer more (Bad.at_record {o = o} {q = q} {front = front} w m goes bad) ne =
      Bad.at_record w (moves_longer front more m) (begins_longer o q more goes) (record_longer more bad ne)
  bad_longer more (Bad.at_end {front = front} is w m end e) ne = Bad.at_end is w (moves_longer front more m) end e

  pub record_longer :
      {S : Schema} {o : Open S.Context} {before : List Record} {depth_left : ℕ} {p : Place} {f : Fault} (more : List ℕ) → RecordFault S o before depth_left p f
      → (IsCut f → ⊥) → RecordFault S o before depth_left (longer p more) f
  record_longer more (RecordFault.tag t) ne = RecordFault.tag (tag_fault_longer more t ne)
  record_longer more (RecordFault.group_too_deep t z is) ne = RecordFault.group_too_deep (tag_longer more t) z is
  record_longer more (RecordFault.message_too_deep t re z is) ne = RecordFault.message_too_deep (tag_longer more t) re z is
  record_longer more (RecordFault.varint t v is) ne = RecordFault.varint (tag_longer more t) (varint_longer more v (not_cut is ne)) is
  record_longer more (RecordFault.fixed64 t v is) ne = RecordFault.fixed64 (tag_longer more t) (fixed_longer more v (not_cut is ne)) is
  record_longer more (RecordFault.fixed32 t v is) ne = RecordFault.fixed32 (tag_longer more t) (fixed_longer more v (not_cut is ne)) is
  record_longer more (RecordFault.in_a_group t bad is) ne = RecordFault.in_a_group (tag_longer more t) (bad_longer more bad (not_cut is ne)) is
  record_longer more (RecordFault.length_of t a v is) ne = RecordFault.length_of (tag_longer more t) a (length_fault_longer more v (not_cut is ne)) is
  record_longer more (RecordFault.cut_payload t re v is) ne = absurd (ne (ap (λ (z : Fault). z.cause) is ∙ ap (λ (z : Fault). z.cause) v.fault_is))
  record_longer more (RecordFault.bad_text {before = before} {k = k} {n = n} {r = r} {f = f} t re l given bad is) ne =
      let same : take n (r.rest ++ more) ≡ take n r.rest = take-append-le n r.rest more given in
      let size = length-append r.rest more in
      RecordFault.bad_text (tag_longer more t) re (length_longer more l) (omega arith) (subst (λ (z : List ℕ). ¬ IsUtf8 z) (sym same) bad)
      (subst (λ (z : List ℕ). f ≡ fault (r.at + utf8_valid_len z) (step k before ∷ []) BadText) (sym same) is)
  record_longer more (RecordFault.in_a_list {n = n} {e = e} {r = r} {g = g} t re l bad is) ne =
      RecordFault.in_a_list (tag_longer more t) re (length_longer more l) (elements_longer e (payload_at r n) g more bad (not_cut is ne)) is
  record_longer more (RecordFault.in_a_message t re l bad is) ne =
      RecordFault.in_a_message (tag_longer more t) re (length_longer more l) (bad_longer more bad (not_cut is ne)) is
  record_longer more (RecordFault.in_a_value t re l bad is) ne =
      RecordFault.in_a_value (tag_longer more t) re (length_longer more l) (bad_longer more bad (not_cut is ne)) is

-- what is read whole up to a known end, or an end tag, is read so of every longer text
pub read_longer : (S : Schema) (o : Open S.Context) (depth_left : ℕ) (p : Place) (more : List ℕ) → (open_group o ≢ None) ⊎ (p.known ≢ None) → IsRead S o depth_left p → IsRead S o depth_left (longer p more)
read_longer S (in_group k c) depth_left p more ends (front, q, w, m, (r, t)) = (front, longer q more, w, moves_longer front more m, (longer r more, tag_longer more t))
read_longer S (records c) depth_left p more (inl none) good = absurd (none refl)
read_longer S (records c) depth_left p more (inr some) (front, q, w, m, inl e) = (front, longer q more, w, moves_longer front more m, inl e)
read_longer S (records c) depth_left p more (inr some) (front, q, w, m, inr e) = absurd (no_end p.known q.known some m.known e.0)
  where
    no_end : (e g : Option ℕ) → e ≢ None → g ≡ option_map (λ (n : ℕ). n - length front) e → g ≡ None → ⊥
    no_end None g ne h i = ne refl
    no_end (Some n) g ne h i = cc

-- ---- whole texts, and those past the limit on their length

-- a settled fault of the bytes within the limit is reported as it is
pub beyond_settled : (n : ℕ) (f : Fault) → (IsCut f → ⊥) → f ≡ beyond n f
beyond_settled n f not_cut = by_cause f.byte f.path f.cause not_cut
  where
    by_cause : (byte : ℕ) (path : List PathStep) (c : Cause) → (c ≡ Truncated → ⊥) → fault byte path c ≡ beyond n (fault byte path c)
    by_cause byte path cause.Truncated never = absurd (never refl)
    by_cause byte path cause.PastEnd never = refl
    by_cause byte path cause.VarintTooLong never = refl
    by_cause byte path cause.TagTooLarge never = refl
    by_cause byte path cause.NumberZero never = refl
    by_cause byte path cause.BadType never = refl
    by_cause byte path cause.StrayEnd never = refl
    by_cause byte path cause.WrongEnd never = refl
    by_cause byte path cause.LengthTooLarge never = refl
    by_cause byte path cause.BadText never = refl
    by_cause byte path cause.TooDeep never = refl
    by_cause byte path cause.InputTooLarge never = refl

-- the bytes within the limit of a longer text
pub front_within : (b more : List ℕ) (max depth_left : ℕ) → length b + depth_left ≡ max → depth_left ≤ length more → b ++ take depth_left more ≡ take max (b ++ more)
front_within b more max depth_left is enough = sym (take-append-add b more depth_left) ∙ ap (λ (n : ℕ). take n (b ++ more)) is

-- a settled fault of the bytes that were given is that of every text that begins with them
pub text_bad :
    {S : Schema} {c : S.Context} {limits : Bounds} (b more : List ℕ) (f : Fault) → length b ≤ limits.bytes → (IsCut f → ⊥)
    → Bad S (records c) limits.depth (text_at b) f → HasFault S c limits (b ++ more) f
text_bad {S} {c} {limits} b more f fits settled bad = by_size (cases_lt limits.bytes (length (b ++ more)))
  where
    by_size : (limits.bytes < length (b ++ more)) ⊎ (length (b ++ more) ≤ limits.bytes) → HasFault S c limits (b ++ more) f
    by_size (inr within) = HasFault.bad within (bad_longer more bad settled)
    by_size (inl past) =
        let joined = length-append b more in
        let depth_left : ℕ = limits.bytes - length b in
        HasFault.bad_front past
        (subst (λ (z : List ℕ). Bad S (records c) limits.depth (text_at z) f) (front_within b more limits.bytes depth_left (omega (arith, fits)) (omega (arith, past, joined)))
        (bad_longer (take depth_left more) bad settled)) (beyond_settled limits.bytes f settled)

-- of a text past the limit the bytes within it are the same in every longer text
pub text_longer :
    {S : Schema} {c : S.Context} {limits : Bounds} (b more : List ℕ) (f : Fault) → (IsCut f → ⊥) → HasFault S c limits b f → HasFault S c limits (b ++ more) f
text_longer b more f settled (HasFault.bad fits bad) = text_bad b more f fits settled bad
text_longer {S} {c} {limits} b more f settled (HasFault.bad_front {g = g} past bad is) =
    let joined = length-append b more in
    let same : take limits.bytes (b ++ more) ≡ take limits.bytes b = take-append-le limits.bytes b more (omega (arith, past)) in
    HasFault.bad_front (omega (arith, past, joined)) (subst (λ (z : List ℕ). Bad S (records c) limits.depth (text_at z) g) (sym same) bad) is
text_longer {S} {c} {limits} b more f settled (HasFault.too_large past whole is) =
    let joined = length-append b more in
    let same : take limits.bytes (b ++ more) ≡ take limits.bytes b = take-append-le limits.bytes b more (omega (arith, past)) in
    HasFault.too_large (omega (arith, past, joined)) (subst (Whole S c limits.depth) (sym same) whole) is
