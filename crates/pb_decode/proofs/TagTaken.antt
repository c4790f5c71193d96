-- A tag, or the end of the input, where a reader is after a whole record.
use Rattle.std.proofs.Common.{◌≡◌, ◌≢◌, ℕ, zero, suc, ◌+◌, ◌-◌, ◌<◌, ◌≤◌, List, [], ◌∷◌, ◌++◌, length, refl, sym, ap, ◌∙◌, subst, arith, append-nil, inl, inr, ◌⊎◌, Option, Some, None, option_map}
use Rattle.pb_wire.specs.Record.{Record}
use Rattle.pb_wire.specs.declared.fault.Cause.{Cause}
use Rattle.pb_wire.specs.declared.fault.Cause.TheVariants.{Truncated}
use Rattle.pb_wire.specs.declared.fault.PathStep.{PathStep}
use Rattle.pb_wire.specs.Fault.{Fault, fault, Place, input_end, HasTag, TagFault, LengthFault, VarintFault}
use Rattle.pb_wire.specs.Scan.{given_at, passed}
use Rattle.pb_wire.proofs.Tokens.{ends_some}
use Rattle.pb_wire.specs.Schema.{Open, records, in_group}
use Rattle.pb_wire.specs.Grammar.{Bad, RecordFault, Begins}
use Rattle.pb_schema.specs.Types.{Types}
use Rattle.pb_schema.specs.Context.{Context, a_message as in_message, schema_of}
use Rattle.pb_decode_parts.specs.declared.tokens.step.Step.{Step}
use Rattle.pb_decode_parts.specs.declared.tokens.step.Step.TheVariants as step
use Rattle.pb_decode_parts.specs.Open.Opened.{Begun}
use Rattle.pb_decode_parts.specs.Open.Opened as opened
use Rattle.pb_decode_parts.specs.Open.Parents.{Part, Scope, Parent, path_of, Held, inside, Reached}
use Rattle.pb_decode.specs.Reader.{State, left_of, here, own_step, path_here, weight, Reads, Stops, over, cut, Reported}
use Rattle.pb_decode.specs.Reader.Ended.{NothingEnds, StepGoesOn}
use Rattle.pb_decode_parts.proofs.OpenedLemmas.{cut_at_end}
use Rattle.pb_decode_parts.proofs.AfterLemmas.{reported_here}
use Rattle.pb_decode.proofs.EndedLemmas.{has_reached}

-- A STEP weighs at most as much as half a byte
pub light : (s : Step) → weight s ≤ 1
light step.Tag = omega arith
light (step.Varint n p) = omega arith
light (step.I64 n p) = omega arith
light (step.I32 n p) = omega arith
light (step.Length n p) = omega arith
light (step.Payload n p size) = omega arith
light (step.Elements n k outer) = omega arith

-- A TAG has a byte at least
pub tag_long : {k w : ℕ} (p : Place) (size : ℕ) → HasTag p k w (passed p size) → 0 < size
tag_long p size h = let some = ends_some h.tag.0 h.tag.1.ends in let at = h.tag.2.at in omega (arith, some, at)

-- what is so with this many bytes before the known end
pub at_own_left : (P : Place → Type 0) (s : State) (e : Option ℕ) (rest : List ℕ) → e ≡ left_of s → P (given_at s.at e rest) → P (here s rest)
at_own_left P s e rest is h = subst (λ (z : Option ℕ). P (given_at s.at z rest)) is h

-- where the input ends inside a tag or a length it ends inside its varint
pub cut_tag : {p : Place} {byte : ℕ} (innermost : Option ℕ) → TagFault innermost p (fault byte [] Truncated) → VarintFault p (fault byte [] Truncated)
cut_tag innermost (TagFault.token v) = v
cut_tag innermost (TagFault.too_large h l is) = absurd (let never = ap (λ (f : Fault). f.cause) is in cc)
cut_tag innermost (TagFault.number_zero h l is) = absurd (let never = ap (λ (f : Fault). f.cause) is in cc)
cut_tag innermost (TagFault.bad_type h a b l is) = absurd (let never = ap (λ (f : Fault). f.cause) is in cc)
cut_tag innermost (TagFault.stray_end h l is) = absurd (let never = ap (λ (f : Fault). f.cause) is in cc)
cut_tag innermost (TagFault.wrong_end h a b is) = absurd (let never = ap (λ (f : Fault). f.cause) is in cc)

pub cut_length : {p : Place} {byte : ℕ} → LengthFault p (fault byte [] Truncated) → VarintFault p (fault byte [] Truncated)
cut_length (LengthFault.token v) = v
cut_length (LengthFault.too_large h l is) = absurd (let never = ap (λ (f : Fault). f.cause) is in cc)
cut_length (LengthFault.past_end h a l is) = absurd (let never = ap (λ (f : Fault). f.cause) is in cc)

-- WHERE A RECORD BEGINS: the open part inside something else has a known end, or ends by a tag
begun_known : (pool : Types) {a o : Open Context} {depth_left below k : ℕ} {q u : Place} (c : Context) → Begun (schema_of pool) a depth_left k q o below u → o ≡ records c → u.known ≡ None → ⊥
begun_known pool c (opened.a_message {n = n} levels has re l is_open is_place) is none = let never : Some n ≡ None = sym (ap (λ (z : Place). z.known) is_place) ∙ none in cc
begun_known pool c (opened.a_value {n = n} levels has re l is_open is_place) is none = let never : Some n ≡ None = sym (ap (λ (z : Place). z.known) is_place) ∙ none in cc
begun_known pool c (opened.a_group levels has is_open is_place) is none = let never = sym is_open ∙ is in cc

held_known :
    {pool : Types} {m depth levels : ℕ} {base : List Record} {p0 : Place} {parent : Parent} {parents : List Parent} {now : Part} {o : Open Context} {depth_left inner : ℕ} {path : List PathStep} {p : Place} {earlier : List Record} (c : Context)
    → Held pool m depth levels base p0 (parent ∷ parents) now o depth_left inner path p earlier → o ≡ records c → p.known ≡ None → ⊥
held_known {pool} c (inside up h begun form can deep completes is_path counts ends goes_on takes) is none = begun_known pool c begun is none

still_none : (front : ℕ) (e f : Option ℕ) → f ≡ option_map (λ (z : ℕ). z - front) e → f ≡ None → e ≡ None
still_none front None f is none = refl
still_none front (Some n) f is none = absurd (let never : Some (n - front) ≡ None = sym is ∙ none in cc)

begins_inside :
    {pool : Types} {m depth levels : ℕ} {base : List Record} {p0 : Place} {scope : Scope} {now : Part} {q : Place} (parents : List Parent) (s : Reached pool m depth levels base p0 parents now scope q) → (parents ≡ [] → q.known ≢ None) → q.known ≢ Some 0 → Begins s.open_now q
begins_inside {pool} {m} {depth} {levels} {base} {p0} {scope} {now} {q} parents s top open_end = by_open s.open_now refl
  where
    by_parents : (c : Context) (fs : List Parent) → parents ≡ fs → s.open_now ≡ records c → q.known ≡ None → ⊥
    by_parents c [] is is_open none = top is none
    by_parents c (f ∷ fs) is is_open none =
        held_known c (subst (λ (z : List Parent). Held pool m depth levels base p0 z now s.open_now scope.depth_left s.inner s.path s.begin s.earlier) is s.held) is_open (still_none (length s.so_far.front) s.begin.known q.known s.so_far.moves.known none)

    by_open : (o : Open Context) → s.open_now ≡ o → Begins o q
    by_open (records c) is = (open_end, λ none e. by_parents c parents refl is none)
    by_open (in_group k c) is = open_end

begins_here : (o : Open Context) (q : Place) → q.known ≢ Some 0 → q.rest ≢ [] → Begins o q
begins_here (records c) q open_end some = (open_end, λ none. some)
begins_here (in_group k c) q open_end some = open_end

-- AT A TAG the path is that of the part
pub path_at_tag : (s : State) → s.next ≡ step.Tag → path_of s.parents ≡ path_here s
path_at_tag s tag = sym (append-nil (path_of s.parents)) ∙ ap (λ (z : Step). path_of s.parents ++ own_step z s.scope) (sym tag)

pub refused_at_tag :
    {pool : Types} {m depth : ℕ} {p0 : Place} (s : State) (c : Cause) → s.next ≡ step.Tag → c ≢ Truncated → Bad (schema_of pool) (records (in_message m)) depth p0 (fault s.at (path_of s.parents) c) → Reported pool m depth p0 (fault s.at (path_here s) c)
refused_at_tag {pool} {m} {depth} {p0} s c tag settled bad = record { bad = subst (λ (z : List PathStep). Bad (schema_of pool) (records (in_message m)) depth p0 (fault s.at z c)) (path_at_tag s tag) bad; settled = settled }

-- THE INPUT ENDS TOO EARLY
cut_here :
    {pool : Types} {m depth levels : ℕ} {base : List Record} {p0 : Place} (s : State) (rest : List ℕ) → s.next ≡ step.Tag → (h : Reached pool m depth levels base p0 s.parents s.now s.scope (here s rest)) → Begins h.open_now (here s rest)
    → RecordFault (schema_of pool) h.open_now h.records_so_far s.scope.depth_left (here s rest) (fault (input_end (here s rest)) [] Truncated) → Stops pool m depth p0 s rest
cut_here {pool} {m} {depth} {p0 = p0} s rest tag h goes bad =
    cut (subst (λ (z : Step). Bad (schema_of pool) (records (in_message m)) depth p0 (fault (s.at + length rest) (path_of s.parents ++ own_step z s.scope) Truncated)) (sym tag)
    (reported_here (fault (input_end (here s rest)) [] Truncated) h goes bad))

-- inside a tag
pub tag_short :
    {pool : Types} {m depth levels : ℕ} {base : List Record} {p0 : Place} (s : State) (rest : List ℕ) → Reads pool m depth levels base p0 s rest → s.next ≡ step.Tag → left_of s ≢ Some 0 → rest ≢ []
    → VarintFault (here s rest) (fault (input_end (here s rest)) [] Truncated) → Stops pool m depth p0 s rest
tag_short s rest begun tag open_end some bad =
    let h = has_reached s rest s.parents s.now begun tag refl refl in
    cut_here s rest tag h (begins_here h.open_now (here s rest) open_end some) (RecordFault.tag (TagFault.token bad))

-- NOTHING IS LEFT: at the top that is the end, unless a known end is still to come
pub stops_at_tag :
    {pool : Types} {m depth levels : ℕ} {base : List Record} {p0 : Place} (s : State) (rest : List ℕ) → Reads pool m depth levels base p0 s rest → s.next ≡ step.Tag → NothingEnds s → (rest ≡ []) ⊎ (left_of s ≡ Some 0) → Stops pool m depth p0 s rest
stops_at_tag {pool} {m} {depth} {levels} {base} {p0} s rest begun tag goes_on nothing = by_end (left_of s) refl nothing
  where
    h : Reached pool m depth levels base p0 s.parents s.now s.scope (here s rest)
    h = has_reached s rest s.parents s.now begun tag refl refl

    cut_off : rest ≡ [] → (s.parents ≡ [] → left_of s ≢ None) → left_of s ≢ Some 0 → Stops pool m depth p0 s rest
    cut_off none top open_end = cut_here s rest tag h (begins_inside s.parents h top open_end) (cut_at_end none open_end)

    ended : (s.parents ≡ []) ⊎ (left_of s ≢ Some 0) → left_of s ≡ Some 0 → Stops pool m depth p0 s rest
    ended (inl top) end = over top tag (inl end)
    ended (inr open_end) end = absurd (open_end end)

    by_parents : (fs : List Parent) → s.parents ≡ fs → rest ≡ [] → left_of s ≡ None → Stops pool m depth p0 s rest
    by_parents [] is none endless = over is tag (inr (endless, none))
    by_parents (f ∷ fs) is none endless = cut_off none (λ top. absurd (let never : f ∷ fs ≡ [] = sym is ∙ top in cc)) (λ end. let never : None ≡ Some 0 = sym endless ∙ end in cc)

    by_end : (e : Option ℕ) → left_of s ≡ e → (rest ≡ []) ⊎ (left_of s ≡ Some 0) → Stops pool m depth p0 s rest
    by_end e is (inr end) = ended (subst (λ (z : Step). StepGoesOn z s.parents (left_of s)) tag goes_on) end
    by_end None is (inl none) = by_parents s.parents refl none is
    by_end (Some zero) is (inl none) = ended (subst (λ (z : Step). StepGoesOn z s.parents (left_of s)) tag goes_on) is
    by_end (Some (suc n)) is (inl none) = cut_off none (λ top endless. let never : Some (suc n) ≡ None = sym is ∙ endless in cc) (λ end. let never : Some (suc n) ≡ Some 0 = sym is ∙ end in cc)
