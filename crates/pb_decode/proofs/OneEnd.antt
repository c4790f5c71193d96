-- Where bytes end inside an encoding, one thing is open, and so much of it is given.
use Rattle.std.proofs.Common.{◌≡◌, ◌≢◌, ◌⊎◌, ℕ, suc, ◌+◌, ◌-◌, List, [], ◌∷◌, length, refl, sym, ap, ◌∙◌, subst, arith, inl, inr, Option, Some, None, length-append, option_map}
use Rattle.pb_wire.specs.Record.{Record}
use Rattle.pb_wire.specs.declared.fault.PathStep.{PathStep}
use Rattle.pb_wire.specs.declared.fault.Cause.TheVariants.{Truncated}
use Rattle.pb_wire.specs.Fault.{Fault, fault, step, Place, Moves, Reads, HasTag, HasLength, TagFault, LengthFault, text_at, input_end}
use Rattle.pb_wire.specs.Schema.{Schema, Element, Reading, unread, text, message, same_level, packed, Open, records, in_group, context_of, open_group}
use Rattle.pb_wire.specs.Grammar.{payload_at, Bad, Begins, RecordFault, ElementFault}
use Rattle.pb_wire.specs.Sound.{AreElements}
use Rattle.pb_wire.proofs.Fronts.{align, RecordAt}
use Rattle.pb_wire.proofs.OneFault.{bad_not_record}
use Rattle.pb_wire.proofs.Tokens.{one_tag, one_length, varint_not_both}
use Rattle.pb_decode_parts.specs.Open.Opened as opened
use Rattle.pb_decode_parts.specs.Open.Opened.{SoFar, Begun, Opened}
use Rattle.pb_decode_parts.specs.Tokens.Numbers.{a_varint, eight_bytes, four_bytes, IsCutVarint, IsCutNumber}
use Rattle.pb_decode.specs.Pending.{Unfinished, in_tag, in_number, in_length, in_payload, in_list, EndsInside}
use Rattle.pb_decode_parts.proofs.OpenedLemmas.{begins_at_tag, bad_after, bad_begun}
use Rattle.pb_decode.proofs.OneElement.{one_front, varint_open, element_open}

-- THE SAME FROM THE TOP: after whole records the bytes end in what comes next, or in what is begun there
pub data EndsIn (S : Schema) : Open S.Context → ℕ → Place → ℕ → ℕ → ℕ → Type 0 where
  here :
      {o : Open S.Context} {depth_left held contexts declared lists : ℕ} {p q : Place} {rs : List Record}
      → SoFar S o depth_left p rs q → Unfinished S (context_of o) depth_left q held lists declared → contexts ≡ suc lists → EndsIn S o depth_left p held contexts declared
  deeper :
      {a o : Open S.Context} {depth_left below k held contexts inner declared : ℕ} {p q u : Place} {rs : List Record}
      → SoFar S a depth_left p rs q → Begun S a depth_left k q o below u → EndsIn S o below u held inner declared → contexts ≡ suc inner → EndsIn S a depth_left p held contexts declared

from_top :
    {S : Schema} {top : Open S.Context} {depth : ℕ} {p0 : Place} {o : Open S.Context} {depth_left : ℕ} {path : List PathStep} {p : Place} (held contexts declared : ℕ)
    → Opened S top depth p0 o depth_left path p → EndsIn S o depth_left p held contexts declared → EndsIn S top depth p0 held (length path + contexts) declared
from_top {S} {top} {depth} {p0} held contexts declared (opened.at_top {depth_left = depth_left} {path = path} {p = p} a b c d) h =
    let none = ap length c in
    let same : contexts ≡ length path + contexts = omega (arith, none) in
    subst (λ (n : ℕ). EndsIn S top depth p0 held n declared) same
    (subst (λ (z : Place). EndsIn S top depth z held contexts declared) d
    (subst (λ (z : ℕ). EndsIn S top z p held contexts declared) b (subst (λ (z : Open S.Context). EndsIn S z depth_left p held contexts declared) a h)))
from_top {S} {top} {depth} {p0} held contexts declared (opened.inner {k = k} {path = path} {steps = steps} {rs = rs} up h begun is_path) end =
    let size = ap length is_path ∙ length-append steps (step k rs ∷ []) in
    let same : length steps + suc contexts ≡ length path + contexts = omega (arith, size) in
    subst (λ (n : ℕ). EndsIn S top depth p0 held n declared) same (from_top held (suc contexts) declared up (deeper h begun end refl))

ends_in : {S : Schema} {c : S.Context} {depth : ℕ} {b : List ℕ} {held contexts declared : ℕ} → EndsInside S c depth b held contexts declared → EndsIn S (records c) depth (text_at b) held contexts declared
ends_in {S} {c} {depth} {b} {held} {contexts} {declared} e =
    let is = e.contexts_are in
    let same : length e.path + suc e.lists ≡ contexts = omega (arith, is) in
    subst (λ (n : ℕ). EndsIn S (records c) depth (text_at b) held n declared) same (from_top held (suc e.lists) declared e.opened (here e.so_far e.unfinished refl))

-- A FAULT: what is not finished is no whole record
unfinished_bad :
    {S : Schema} (o : Open S.Context) (before : List Record) {depth_left held lists declared : ℕ} {q : Place} → Unfinished S (context_of o) depth_left q held lists declared
    → (f : Fault) × RecordFault S o before depth_left q f
unfinished_bad o before (in_tag short a b c) = (_, RecordFault.tag (TagFault.token short))
unfinished_bad o before {q = q} (in_number {k = k} {u = u} tag (a_varint is h) a b c) = (_, RecordFault.varint (subst (λ (z : ℕ). HasTag q k z u) is tag) h refl)
unfinished_bad o before {q = q} (in_number {k = k} {u = u} tag (eight_bytes is h) a b c) = (_, RecordFault.fixed64 (subst (λ (z : ℕ). HasTag q k z u) is tag) h refl)
unfinished_bad o before {q = q} (in_number {k = k} {u = u} tag (four_bytes is h) a b c) = (_, RecordFault.fixed32 (subst (λ (z : ℕ). HasTag q k z u) is tag) h refl)
unfinished_bad o before (in_length tag allowed short a b c) = (_, RecordFault.length_of tag allowed (LengthFault.token short) refl)
unfinished_bad o before (in_payload {size = size} {u = u} tag re l short a b c) =
    (_, RecordFault.cut_payload tag re (record { size = size; payload = u; length_is = l; cut = short; fault_is = refl }) refl)
unfinished_bad o before (in_list {e = e} {front = front} {u = u} tag re l es m bad a b c) = (_, RecordFault.in_a_list tag re l (front, u, es, m, element_open e u bad, bad) refl)

unfinished_begins : {S : Schema} (o : Open S.Context) {depth_left held lists declared : ℕ} {q : Place} → ((open_group o ≢ None) ⊎ (q.known ≢ None)) → Unfinished S (context_of o) depth_left q held lists declared → Begins o q
unfinished_begins (records c) {q = q} (inl grouped) (in_tag short a b d) = absurd (grouped refl)
unfinished_begins (records c) {q = q} (inr known) (in_tag short a b d) = (varint_open q short, λ none. absurd (known none))
unfinished_begins (in_group k c) {q = q} ends (in_tag short a b d) = varint_open q short
unfinished_begins o ends (in_number tag short a b c) = begins_at_tag o tag
unfinished_begins o ends (in_length tag allowed short a b c) = begins_at_tag o tag
unfinished_begins o ends (in_payload tag re l short a b c) = begins_at_tag o tag
unfinished_begins o ends (in_list tag re l es m bad a b c) = begins_at_tag o tag

none_known : (p q : Place) (n : ℕ) → q.known ≡ option_map (λ (e : ℕ). e - n) p.known → p.known ≢ None → q.known ≢ None
none_known p q n is known = by_known p.known q.known is known
  where
    by_known : (a b : Option ℕ) → b ≡ option_map (λ (e : ℕ). e - n) a → a ≢ None → b ≢ None
    by_known None b e ne = absurd (ne refl)
    by_known (Some x) b e ne = λ none. absurd (cc)

goes_inside : {S : Schema} {a o : Open S.Context} {depth_left below k : ℕ} {q u : Place} → Begun S a depth_left k q o below u → (open_group o ≢ None) ⊎ (u.known ≢ None)
goes_inside {u = u} (opened.a_message {n = n} levels tag re l is_open is_place) = inr (λ e. let known : u.known ≡ Some n = ap (λ (z : Place). z.known) is_place in absurd (cc))
goes_inside {u = u} (opened.a_value {n = n} levels tag re l is_open is_place) = inr (λ e. let known : u.known ≡ Some n = ap (λ (z : Place). z.known) is_place in absurd (cc))
goes_inside {S} {a} {o} {k = k} (opened.a_group levels tag is_open is_place) = inl (λ e. let grouped : open_group o ≡ Some k = ap (λ (z : Open S.Context). open_group z) is_open in absurd (cc))

begun_begins : {S : Schema} {a o : Open S.Context} {depth_left below k : ℕ} {q u : Place} → Begun S a depth_left k q o below u → Begins a q
begun_begins {a = a} (opened.a_message levels tag re l is_open is_place) = begins_at_tag a tag
begun_begins {a = a} (opened.a_value levels tag re l is_open is_place) = begins_at_tag a tag
begun_begins {a = a} (opened.a_group levels tag is_open is_place) = begins_at_tag a tag

pub end_bad : {S : Schema} {o : Open S.Context} {depth_left : ℕ} {p : Place} {held contexts declared : ℕ} → ((open_group o ≢ None) ⊎ (p.known ≢ None)) → EndsIn S o depth_left p held contexts declared → (f : Fault) × Bad S o depth_left p f
end_bad {o = o} {p = p} ends (here {q = q} {rs = rs} b h is) =
    let reported = unfinished_bad o rs h in
    (reported.0, bad_after b (unfinished_begins o (along ends) h) reported.1)
  where
    along : (open_group o ≢ None) ⊎ (p.known ≢ None) → (open_group o ≢ None) ⊎ (q.known ≢ None)
    along (inl grouped) = inl grouped
    along (inr known) = inr (none_known p q (length b.front) b.moves.known known)
end_bad ends (deeper {rs = rs} b begun inner is) =
    let reported = end_bad (goes_inside begun) inner in
    (_, bad_after b (begun_begins begun) (bad_begun rs begun reported.1))

begun_bad :
    {S : Schema} {a o : Open S.Context} {depth_left below k held contexts declared : ℕ} {q u : Place} (before : List Record) → Begun S a depth_left k q o below u → EndsIn S o below u held contexts declared
    → (f : Fault) × RecordFault S a before depth_left q f
begun_bad before begun inner = let reported = end_bad (goes_inside begun) inner in (_, bad_begun before begun reported.1)

-- ONE PLACE: no whole record is after either prefix
one_place :
    {S : Schema} {o : Open S.Context} {depth_left : ℕ} {p q r : Place} {rs ss : List Record} → SoFar S o depth_left p rs q → SoFar S o depth_left p ss r → (f : Fault) × RecordFault S o rs depth_left q f → (g : Fault) × RecordFault S o ss depth_left r g → q ≡ r
one_place {S} {o} {depth_left} {p} {q} {r} {rs} {ss} b d f g = judge (align rs ss b.front d.front b.spelled d.spelled b.sound d.sound b.moves d.moves)
  where
    judge : (q ≡ r) ⊎ (RecordAt S (context_of o) depth_left q ⊎ RecordAt S (context_of o) depth_left r) → q ≡ r
    judge (inl same) = same
    judge (inr (inl h)) = absurd (bad_not_record f.1 h)
    judge (inr (inr h)) = absurd (bad_not_record g.1 h)

-- ONE THING IS OPEN
same_message : (S : Schema) (c : S.Context) {k l : ℕ} {d e : S.Context} → k ≡ l → S.reading c k ≡ message d → S.reading c l ≡ message e → d ≡ e
same_message S c {k} {l} {d} {e} same x y = let both = sym x ∙ ap (S.reading c) same ∙ y in cc

same_value : (S : Schema) (c : S.Context) {k l : ℕ} {d e : S.Context} → k ≡ l → S.reading c k ≡ same_level d → S.reading c l ≡ same_level e → d ≡ e
same_value S c {k} {l} {d} {e} same x y = let both = sym x ∙ ap (S.reading c) same ∙ y in cc

same_list : (S : Schema) (c : S.Context) {k l : ℕ} {d e : Element} → k ≡ l → S.reading c k ≡ packed d → S.reading c l ≡ packed e → d ≡ e
same_list S c {k} {l} {d} {e} same x y = let both = sym x ∙ ap (S.reading c) same ∙ y in cc

-- the same length, after the same tag
one_size : {q r t u : Place} {n m : ℕ} → q ≡ r → HasLength q n t → HasLength r m u → (n ≡ m) × (t ≡ u)
one_size {t = t} {n = n} same l k = one_length (subst (λ (z : Place). HasLength z n t) same l) k

one_payload : (t u : Place) (n m : ℕ) → n ≡ m → t ≡ u → payload_at t n ≡ payload_at u m
one_payload t u n m size place = ap (λ (z : ℕ). payload_at t z) size ∙ ap (λ (z : Place). payload_at z m) place

-- how a length is read says what it opens
no_both : {C : Type 0} (r : Reading C) {d e : C} → r ≡ message d → r ≡ same_level e → ⊥
no_both r {d} {e} x y = let both = sym x ∙ y in absurd (cc)

one_begun :
    {S : Schema} {a o x : Open S.Context} {depth_left below low k l : ℕ} {q u v : Place} → Begun S a depth_left k q o below u → Begun S a depth_left l q x low v → (o ≡ x) × (below ≡ low) × (u ≡ v)
one_begun {S} {a} (opened.a_message {n = n} {t = t} levels tag re h is_open is_place) (opened.a_message {n = m} {t = w} levels2 tag2 re2 h2 is_open2 is_place2) =
    let at = one_tag tag tag2 in
    let size = one_size at.2 h h2 in
    let context = same_message S (context_of a) at.0 re re2 in
    (is_open ∙ ap records context ∙ sym is_open2, omega (arith, levels, levels2), is_place ∙ one_payload t w n m size.0 size.1 ∙ sym is_place2)
one_begun {S} {a} (opened.a_value {n = n} {t = t} levels tag re h is_open is_place) (opened.a_value {n = m} {t = w} levels2 tag2 re2 h2 is_open2 is_place2) =
    let at = one_tag tag tag2 in
    let size = one_size at.2 h h2 in
    let context = same_value S (context_of a) at.0 re re2 in
    (is_open ∙ ap records context ∙ sym is_open2, sym levels ∙ levels2, is_place ∙ one_payload t w n m size.0 size.1 ∙ sym is_place2)
one_begun {S} {a} (opened.a_group levels tag is_open is_place) (opened.a_group levels2 tag2 is_open2 is_place2) =
    let at = one_tag tag tag2 in
    (is_open ∙ ap (λ (z : ℕ). in_group z (S.group_context (context_of a) z)) at.0 ∙ sym is_open2, omega (arith, levels, levels2), is_place ∙ at.2 ∙ sym is_place2)
one_begun {S} {a} (opened.a_message levels tag re h is_open is_place) (opened.a_value levels2 tag2 re2 h2 is_open2 is_place2) =
    let at = one_tag tag tag2 in absurd (no_both (S.reading (context_of a) _) re (ap (S.reading (context_of a)) at.0 ∙ re2))
one_begun {S} {a} (opened.a_value levels tag re h is_open is_place) (opened.a_message levels2 tag2 re2 h2 is_open2 is_place2) =
    let at = one_tag tag tag2 in absurd (no_both (S.reading (context_of a) _) (ap (S.reading (context_of a)) at.0 ∙ re2) re)
one_begun (opened.a_message levels tag re h is_open is_place) (opened.a_group levels2 tag2 is_open2 is_place2) = let at = (one_tag tag tag2).1 in absurd (omega (arith, at))
one_begun (opened.a_value levels tag re h is_open is_place) (opened.a_group levels2 tag2 is_open2 is_place2) = let at = (one_tag tag tag2).1 in absurd (omega (arith, at))
one_begun (opened.a_group levels tag is_open is_place) (opened.a_message levels2 tag2 re2 h2 is_open2 is_place2) = let at = (one_tag tag tag2).1 in absurd (omega (arith, at))
one_begun (opened.a_group levels tag is_open is_place) (opened.a_value levels2 tag2 re2 h2 is_open2 is_place2) = let at = (one_tag tag tag2).1 in absurd (omega (arith, at))

-- SO MUCH IS GIVEN
no_two : {w : ℕ} {u : Place} → IsCutNumber w u → w ≡ 2 → ⊥
no_two (a_varint is h) two = absurd (omega (arith, is, two))
no_two (eight_bytes is h) two = absurd (omega (arith, is, two))
no_two (four_bytes is h) two = absurd (omega (arith, is, two))

no_tag : {q u : Place} {k w : ℕ} → IsCutVarint q → HasTag q k w u → ⊥
no_tag short tag = varint_not_both short tag.tag

no_length : {u r t : Place} {n : ℕ} → u ≡ r → IsCutVarint u → HasLength r n t → ⊥
no_length {t = t} {n = n} same short l = varint_not_both short (subst (λ (z : Place). Reads z n t) (sym same) l.length_is)

no_list : {C : Type 0} (r : Reading C) {e : Element} → (r ≡ unread) ⊎ (r ≡ text) → r ≡ packed e → ⊥
no_list {C} r {e} (inl x) y = let both = sym x ∙ y in absurd (cc)
no_list {C} r {e} (inr x) y = let both = sym x ∙ y in absurd (cc)

no_opened : {C : Type 0} (r : Reading C) {d : C} → (r ≡ unread) ⊎ (r ≡ text) → (r ≡ message d) ⊎ (r ≡ same_level d) → ⊥
no_opened {C} r {d} (inl x) (inl y) = let both = sym x ∙ y in absurd (cc)
no_opened {C} r {d} (inr x) (inl y) = let both = sym x ∙ y in absurd (cc)
no_opened {C} r {d} (inl x) (inr y) = let both = sym x ∙ y in absurd (cc)
no_opened {C} r {d} (inr x) (inr y) = let both = sym x ∙ y in absurd (cc)

no_packed : {C : Type 0} (r : Reading C) {e : Element} {d : C} → r ≡ packed e → (r ≡ message d) ⊎ (r ≡ same_level d) → ⊥
no_packed {C} r {e} {d} x (inl y) = let both = sym x ∙ y in absurd (cc)
no_packed {C} r {e} {d} x (inr y) = let both = sym x ∙ y in absurd (cc)

left : {u v : Place} {h k : ℕ} → u ≡ v → h ≡ length u.rest → k ≡ length v.rest → h ≡ k
left same a b = a ∙ ap (λ (z : Place). length z.rest) same ∙ sym b

same_list_place :
    {e x : Element} {p r u v : Place} (front back : List ℕ) → e ≡ x → p ≡ r → AreElements e front → Moves p front u → ElementFault e u (fault (input_end u) [] Truncated) → AreElements x back → Moves r back v
    → ElementFault x v (fault (input_end v) [] Truncated) → u ≡ v
same_list_place {e} {x} {p} {r} {u} {v} front back kind place es m h fs n k =
    one_front e (fault (input_end u) [] Truncated) (fault (input_end v) [] Truncated) front back es (subst (λ (z : Element). AreElements z back) (sym kind) fs) m (subst (λ (z : Place). Moves z back v) (sym place) n) h
    (subst (λ (z : Element). ElementFault z v (fault (input_end v) [] Truncated)) (sym kind) k)

one_unfinished :
    {S : Schema} {c : S.Context} {depth_left : ℕ} {q : Place} {h l d h2 l2 d2 : ℕ} → Unfinished S c depth_left q h l d → Unfinished S c depth_left q h2 l2 d2 → (h ≡ h2) × (l ≡ l2) × (d ≡ d2)
one_unfinished (in_tag short a b c) (in_tag short2 a2 b2 c2) = (a ∙ sym a2, b ∙ sym b2, c ∙ sym c2)
one_unfinished (in_tag short a b c) (in_number tag h a2 b2 c2) = absurd (no_tag short tag)
one_unfinished (in_tag short a b c) (in_length tag allowed h a2 b2 c2) = absurd (no_tag short tag)
one_unfinished (in_tag short a b c) (in_payload tag re l h a2 b2 c2) = absurd (no_tag short tag)
one_unfinished (in_tag short a b c) (in_list tag re l es m h a2 b2 c2) = absurd (no_tag short tag)
one_unfinished (in_number tag h a b c) (in_tag short a2 b2 c2) = absurd (no_tag short tag)
one_unfinished (in_number tag h a b c) (in_number tag2 h2 a2 b2 c2) = (left (one_tag tag tag2).2 a a2, b ∙ sym b2, c ∙ sym c2)
one_unfinished (in_number tag h a b c) (in_length tag2 allowed h2 a2 b2 c2) = absurd (no_two h (one_tag tag tag2).1)
one_unfinished (in_number tag h a b c) (in_payload tag2 re l h2 a2 b2 c2) = absurd (no_two h (one_tag tag tag2).1)
one_unfinished (in_number tag h a b c) (in_list tag2 re l es m h2 a2 b2 c2) = absurd (no_two h (one_tag tag tag2).1)
one_unfinished (in_length tag allowed h a b c) (in_tag short a2 b2 c2) = absurd (no_tag short tag)
one_unfinished (in_length tag allowed h a b c) (in_number tag2 h2 a2 b2 c2) = absurd (no_two h2 (one_tag tag2 tag).1)
one_unfinished (in_length tag allowed h a b c) (in_length tag2 allowed2 h2 a2 b2 c2) = (left (one_tag tag tag2).2 a a2, b ∙ sym b2, c ∙ sym c2)
one_unfinished (in_length tag allowed h a b c) (in_payload tag2 re l h2 a2 b2 c2) = absurd (no_length (one_tag tag tag2).2 h l)
one_unfinished (in_length tag allowed h a b c) (in_list tag2 re l es m h2 a2 b2 c2) = absurd (no_length (one_tag tag tag2).2 h l)
one_unfinished (in_payload tag re l h a b c) (in_tag short a2 b2 c2) = absurd (no_tag short tag)
one_unfinished (in_payload tag re l h a b c) (in_number tag2 h2 a2 b2 c2) = absurd (no_two h2 (one_tag tag2 tag).1)
one_unfinished (in_payload tag re l h a b c) (in_length tag2 allowed h2 a2 b2 c2) = absurd (no_length (one_tag tag2 tag).2 h2 l)
one_unfinished (in_payload tag re l h a b c) (in_payload tag2 re2 l2 h2 a2 b2 c2) =
    let size = one_size (one_tag tag tag2).2 l l2 in
    (left size.1 a a2, b ∙ sym b2, c ∙ size.0 ∙ sym c2)
one_unfinished {S} {c = x} (in_payload {k = k} tag re l h a b c) (in_list tag2 re2 l2 es m h2 a2 b2 c2) =
    absurd (no_list (S.reading x k) re (ap (S.reading x) (one_tag tag tag2).0 ∙ re2))
one_unfinished (in_list tag re l es m h a b c) (in_tag short a2 b2 c2) = absurd (no_tag short tag)
one_unfinished (in_list tag re l es m h a b c) (in_number tag2 h2 a2 b2 c2) = absurd (no_two h2 (one_tag tag2 tag).1)
one_unfinished (in_list tag re l es m h a b c) (in_length tag2 allowed h2 a2 b2 c2) = absurd (no_length (one_tag tag2 tag).2 h2 l)
one_unfinished {S} {c = x} (in_list tag re l es m h a b c) (in_payload {k = k} tag2 re2 l2 h2 a2 b2 c2) =
    absurd (no_list (S.reading x k) re2 (ap (S.reading x) (one_tag tag2 tag).0 ∙ re))
one_unfinished {S} {c = x} (in_list {size = n} {front = front} {t = t} tag re l es m h a b c) (in_list {size = n2} {front = back} {t = w} tag2 re2 l2 fs m2 h2 a2 b2 c2) =
    let at = one_tag tag tag2 in
    let size = one_size at.2 l l2 in
    let same = same_list_place front back (same_list S x at.0 re re2) (one_payload t w n n2 size.0 size.1) es m h fs m2 h2 in
    (left same a a2, b ∙ sym b2, c ∙ sym c2)

-- what is begun is not unfinished before that
not_begun : {S : Schema} {a o : Open S.Context} {depth_left below k h l d : ℕ} {q u : Place} → Begun S a depth_left k q o below u → Unfinished S (context_of a) depth_left q h l d → ⊥
not_begun (opened.a_message levels tag re l is_open is_place) (in_tag short a b c) = no_tag short tag
not_begun (opened.a_message levels tag re l is_open is_place) (in_number tag2 h a b c) = no_two h (one_tag tag2 tag).1
not_begun (opened.a_message levels tag re l is_open is_place) (in_length tag2 allowed h a b c) = no_length (one_tag tag2 tag).2 h l
not_begun {S} {a = x} (opened.a_message levels tag re l is_open is_place) (in_payload {k = k} tag2 re2 l2 h a b c) =
    no_opened (S.reading (context_of x) k) re2 (inl (ap (S.reading (context_of x)) (one_tag tag2 tag).0 ∙ re))
not_begun {S} {a = x} (opened.a_message levels tag re l is_open is_place) (in_list {k = k} tag2 re2 l2 es m h a b c) =
    no_packed (S.reading (context_of x) k) re2 (inl (ap (S.reading (context_of x)) (one_tag tag2 tag).0 ∙ re))
not_begun (opened.a_value levels tag re l is_open is_place) (in_tag short a b c) = no_tag short tag
not_begun (opened.a_value levels tag re l is_open is_place) (in_number tag2 h a b c) = no_two h (one_tag tag2 tag).1
not_begun (opened.a_value levels tag re l is_open is_place) (in_length tag2 allowed h a b c) = no_length (one_tag tag2 tag).2 h l
not_begun {S} {a = x} (opened.a_value levels tag re l is_open is_place) (in_payload {k = k} tag2 re2 l2 h a b c) =
    no_opened (S.reading (context_of x) k) re2 (inr (ap (S.reading (context_of x)) (one_tag tag2 tag).0 ∙ re))
not_begun {S} {a = x} (opened.a_value levels tag re l is_open is_place) (in_list {k = k} tag2 re2 l2 es m h a b c) =
    no_packed (S.reading (context_of x) k) re2 (inr (ap (S.reading (context_of x)) (one_tag tag2 tag).0 ∙ re))
not_begun (opened.a_group levels tag is_open is_place) (in_tag short a b c) = no_tag short tag
not_begun (opened.a_group levels tag is_open is_place) (in_number tag2 (a_varint is h) a b c) = let at = (one_tag tag2 tag).1 in absurd (omega (arith, is, at))
not_begun (opened.a_group levels tag is_open is_place) (in_number tag2 (eight_bytes is h) a b c) = let at = (one_tag tag2 tag).1 in absurd (omega (arith, is, at))
not_begun (opened.a_group levels tag is_open is_place) (in_number tag2 (four_bytes is h) a b c) = let at = (one_tag tag2 tag).1 in absurd (omega (arith, is, at))
not_begun (opened.a_group levels tag is_open is_place) (in_length tag2 allowed h a b c) = let at = (one_tag tag2 tag).1 in absurd (omega (arith, at))
not_begun (opened.a_group levels tag is_open is_place) (in_payload tag2 re2 l2 h a b c) = let at = (one_tag tag2 tag).1 in absurd (omega (arith, at))
not_begun (opened.a_group levels tag is_open is_place) (in_list tag2 re2 l2 es m h a b c) = let at = (one_tag tag2 tag).1 in absurd (omega (arith, at))

one_end : {S : Schema} {o : Open S.Context} {depth_left : ℕ} {p : Place} {h c d h2 c2 d2 : ℕ} → EndsIn S o depth_left p h c d → EndsIn S o depth_left p h2 c2 d2 → (h ≡ h2) × (c ≡ c2) × (d ≡ d2)
one_end {S} {o} {depth_left} {h2 = h2} {d2 = d2} (here {rs = rs} b un is) (here {lists = l2} {rs = ss} b2 un2 is2) =
    let same = one_place b b2 (unfinished_bad o rs un) (unfinished_bad o ss un2) in
    let e = one_unfinished un (subst (λ (z : Place). Unfinished S (context_of o) depth_left z h2 l2 d2) (sym same) un2) in
    (e.0, is ∙ ap (λ (n : ℕ). suc n) e.1 ∙ sym is2, e.2)
one_end {S} {o} {depth_left} {h = h} {d = d} (here {lists = l} {rs = rs} b un is) (deeper {rs = ss} b2 begun2 inner2 is2) =
    let same = one_place b b2 (unfinished_bad o rs un) (begun_bad ss begun2 inner2) in
    absurd (not_begun begun2 (subst (λ (z : Place). Unfinished S (context_of o) depth_left z h l d) same un))
one_end {S} {o} {depth_left} {h2 = h2} {d2 = d2} (deeper {rs = rs} b begun inner is) (here {lists = l2} {rs = ss} b2 un2 is2) =
    let same = one_place b b2 (begun_bad rs begun inner) (unfinished_bad o ss un2) in
    absurd (not_begun begun (subst (λ (z : Place). Unfinished S (context_of o) depth_left z h2 l2 d2) (sym same) un2))
one_end {S} {o} {depth_left} {h2 = h2} {d2 = d2} (deeper {o = x} {below = low} {u = u} {rs = rs} b begun inner is) (deeper {o = y} {below = low2} {k = k2} {inner = n2} {u = v} {rs = ss} b2 begun2 inner2 is2) =
    let same = one_place b b2 (begun_bad rs begun inner) (begun_bad ss begun2 inner2) in
    let one = one_begun begun (subst (λ (z : Place). Begun S o depth_left k2 z y low2 v) (sym same) begun2) in
    let there : EndsIn S x low u h2 n2 d2 =
    subst (λ (z : Place). EndsIn S x low z h2 n2 d2) (sym one.2) (subst (λ (z : ℕ). EndsIn S x z v h2 n2 d2) (sym one.1) (subst (λ (z : Open S.Context). EndsIn S z low2 v h2 n2 d2) (sym one.0) inner2)) in
    let r = one_end inner there in
    (r.0, is ∙ ap (λ (m : ℕ). suc m) r.1 ∙ sym is2, r.2)

-- THE LAW: of an encoding that ends inside there is one count of each
pub one_ending :
    {S : Schema} {c : S.Context} {depth : ℕ} {b : List ℕ} {h k d h2 k2 d2 : ℕ} → EndsInside S c depth b h k d → EndsInside S c depth b h2 k2 d2 → (h ≡ h2) × (k ≡ k2) × (d ≡ d2)
one_ending x y = one_end (ends_in x) (ends_in y)
