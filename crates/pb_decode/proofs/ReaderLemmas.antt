-- A reader that takes bytes, and one that has some input read.
use Rattle.std.proofs.Common.{◌≡◌, ◌≢◌, ℕ, ◌+◌, ◌-◌, ◌≤◌, List, [], ◌∷◌, ◌++◌, take, drop, length, refl, sym, ap, ◌∙◌, subst, arith, Option, Some, None, option_map, drop-drop, length-drop}
use Rattle.pb_wire.specs.Record.{Record}
use Rattle.pb_wire.specs.declared.fault.Cause.{Cause}
use Rattle.pb_wire.specs.declared.fault.Cause.TheVariants.{Truncated}
use Rattle.pb_wire.specs.declared.fault.PathStep.{PathStep}
use Rattle.pb_wire.specs.Fault.{Fault, fault, Place, input_end}
use Rattle.pb_decode.specs.declared.error.DecodeError.{DecodeError}
use Rattle.pb_decode.specs.declared.error.DecodeError.TheVariants as error
use Rattle.pb_wire.specs.Scan.{passed}
use Rattle.pb_wire.specs.Schema.{records}
use Rattle.pb_wire.specs.Grammar.{Bad}
use Rattle.pb_schema.specs.Types.{Types}
use Rattle.pb_schema.specs.Context.{a_message as in_message, schema_of}
use Rattle.pb_decode_parts.specs.declared.tokens.step.Step.{Step}
use Rattle.pb_decode_parts.specs.declared.tokens.step.Step.TheVariants as step
use Rattle.pb_decode_parts.specs.Open.Parents.{Scope, path_of, next_step}
use Rattle.pb_decode_parts.specs.Tokens.Numbers.{NumberFault}
use Rattle.pb_decode_parts.specs.Tokens.After.{Tag, tag, awaited, After}
use Rattle.pb_decode_parts.specs.declared.open.target.Target.{Target}
use Rattle.pb_decode.specs.declared.reader.state.State.{State as StateKept}
use Rattle.pb_decode.specs.Reader.{State, state_view, CanRead, here, own_step, path_here, Reads, Stops, cut, Taken, Reported, HasReached, IfFault}
use Rattle.pb_decode_parts.proofs.AfterLemmas.{after_record, number_reported}
use Rattle.pb_decode_parts.proofs.PlaceLemmas.{slice_from}

pub reads_slice :
    (pool : Types) (m depth levels : ℕ) (base : List Record) (p0 : Place) (s : State) (n : ℕ) (l : List ℕ) → Reads pool m depth levels base p0 s (drop n l)
    → Reads pool m depth levels base p0 s (take (length l - n) (drop n l))
reads_slice pool m depth levels base p0 s n l h = subst (Reads pool m depth levels base p0 s) (sym (slice_from n l)) h

pub taken_none :
    (pool : Types) (m depth levels : ℕ) (base : List Record) (p0 : Place) (s : State) (n : ℕ) (l : List ℕ) (o : Option ℕ) → o ≡ None
    → Taken pool m depth levels base p0 s (take (length l - n) (drop n l)) o → Reads pool m depth levels base p0 s (drop n l) × Stops pool m depth p0 s (drop n l)
taken_none pool m depth levels base p0 s n l o none h =
    subst (λ (z : List ℕ). Taken pool m depth levels base p0 s z None) (slice_from n l) (subst (Taken pool m depth levels base p0 s (take (length l - n) (drop n l))) none h)

pub taken_some :
    (pool : Types) (m depth levels : ℕ) (base : List Record) (p0 : Place) (s : State) (n size : ℕ) (l : List ℕ) (o : Option ℕ) → o ≡ Some size
    → Taken pool m depth levels base p0 s (take (length l - n) (drop n l)) o → Reads pool m depth levels base p0 s (drop (n + size) l)
taken_some pool m depth levels base p0 s n size l o some h =
    let there : Reads pool m depth levels base p0 s (drop size (take (length l - n) (drop n l))) = subst (Taken pool m depth levels base p0 s (take (length l - n) (drop n l))) some h in
    subst (Reads pool m depth levels base p0 s) (ap (drop size) (slice_from n l) ∙ drop-drop size n l) there

pub reads_ahead :
    (pool : Types) (m depth levels : ℕ) (base : List Record) (p0 : Place) (s t : State) (n used : ℕ) (l : List ℕ)
    → (Reads pool m depth levels base p0 s (take (length l - n) (drop n l)) → Reads pool m depth levels base p0 t (drop used (take (length l - n) (drop n l)))) → Reads pool m depth levels base p0 s (drop n l)
    → Reads pool m depth levels base p0 t (drop (n + used) l)
reads_ahead pool m depth levels base p0 s t n used l on h = taken_some pool m depth levels base p0 t n used l (Some used) refl (on (reads_slice pool m depth levels base p0 s n l h))

-- so a reader that may read on from some bytes may read on after this many of them
pub reads_on :
    {pool : Types} (s t : StateKept) (n : ℕ) (rest : List ℕ) → CanRead pool s rest → n ≤ length rest → t.at ≡ s.at + n
    → ((m depth levels : ℕ) (base : List Record) (p0 : Place) → Reads pool m depth levels base p0 (state_view s) rest → Reads pool m depth levels base p0 (state_view t) (drop n rest)) → CanRead pool t (drop n rest)
reads_on s t n rest can within at on =
    let from = can.reading in
    let left = length-drop n rest in
    let small = from.small in
    record {
      rules = can.rules;
      reading =
          record {
            m = from.m;
            depth = from.depth;
            levels = from.levels;
            base = from.base;
            p0 = from.p0;
            reads = on from.m from.depth from.levels from.base from.p0 from.reads;
            small = omega (arith, left, small, within, at);
          };
    }

-- after this many bytes
left_passed : (e : Option ℕ) (at size : ℕ) → option_map (λ (z : ℕ). z - size) (option_map (λ (z : ℕ). z - at) e) ≡ option_map (λ (z : ℕ). z - (at + size)) e
left_passed None at size = refl
left_passed (Some e) at size = let same : (e - at) - size ≡ e - (at + size) = omega arith in ap (λ (z : ℕ). Some z) same

-- the reader is after this many of the bytes
pub passed_here : (s t : State) (size : ℕ) (rest : List ℕ) → t.at ≡ s.at + size → t.scope.end ≡ s.scope.end → passed (here s rest) size ≡ here t (drop size rest)
passed_here s t size rest at end =
    ap (λ (z : Option ℕ). record { at = s.at + size; known = z; rest = drop size rest }) (left_passed s.scope.end s.at size)
    ∙ ap (λ (z : ℕ). record { at = z; known = option_map (λ (e : ℕ). e - z) s.scope.end; rest = drop size rest }) (sym at)
    ∙ ap (λ (z : Option ℕ). record { at = t.at; known = option_map (λ (e : ℕ). e - t.at) z; rest = drop size rest }) (sym end)

-- the tag's number
ap_number : (t : Tag) (n w : ℕ) (p : Target) → Some (tag n w p) ≡ Some t → n ≡ t.number
ap_number t n w p is = cc

-- the step of a record whose value or length comes next
own_awaited : (next : Step) (t : Tag) (scope : Scope) → awaited next ≡ Some t → own_step next scope ≡ next_step t.number scope ∷ []
own_awaited step.Tag t scope is = absurd (cc)
own_awaited (step.Varint n p) t scope is = let same : n ≡ t.number = ap_number t n 0 p is in ap (λ (z : ℕ). next_step z scope ∷ []) same
own_awaited (step.I64 n p) t scope is = let same : n ≡ t.number = ap_number t n 1 p is in ap (λ (z : ℕ). next_step z scope ∷ []) same
own_awaited (step.I32 n p) t scope is = let same : n ≡ t.number = ap_number t n 5 p is in ap (λ (z : ℕ). next_step z scope ∷ []) same
own_awaited (step.Length n p) t scope is = let same : n ≡ t.number = ap_number t n 2 p is in ap (λ (z : ℕ). next_step z scope ∷ []) same
own_awaited (step.Payload n p size) t scope is = absurd (cc)
own_awaited (step.Elements n k outer) t scope is = absurd (cc)

-- a fault that ends what is begun after a tag
path_awaited : (s : State) (t : Tag) → awaited s.next ≡ Some t → path_of s.parents ++ next_step t.number s.scope ∷ [] ≡ path_here s
path_awaited s t is = ap (λ (z : List PathStep). path_of s.parents ++ z) (sym (own_awaited s.next t s.scope is))

pub number_bad :
    {pool : Types} {m depth levels : ℕ} {base : List Record} {p0 : Place} (s : State) (rest : List ℕ) (t : Tag) (byte : ℕ) (c : Cause) → Reads pool m depth levels base p0 s rest → awaited s.next ≡ Some t
    → NumberFault t.type (here s rest) (fault byte [] c) → Bad (schema_of pool) (records (in_message m)) depth p0 (fault byte (path_here s) c)
number_bad {pool} {m} {depth} {p0 = p0} s rest t byte c begun is bad =
    subst (λ (z : List PathStep). Bad (schema_of pool) (records (in_message m)) depth p0 (fault byte z c)) (path_awaited s t is) (number_reported t (fault byte [] c) begun is bad)

pub number_short :
    {pool : Types} {m depth levels : ℕ} {base : List Record} {p0 : Place} (s : State) (rest : List ℕ) (t : Tag) → Reads pool m depth levels base p0 s rest → awaited s.next ≡ Some t
    → NumberFault t.type (here s rest) (fault (input_end (here s rest)) [] Truncated) → Stops pool m depth p0 s rest
number_short s rest t begun is bad = cut (number_bad s rest t (s.at + length rest) Truncated begun is bad)

pub number_refused :
    {pool : Types} {m depth levels : ℕ} {base : List Record} {p0 : Place} (s : State) (rest : List ℕ) (t : Tag) (c : Cause) → Reads pool m depth levels base p0 s rest → awaited s.next ≡ Some t → c ≢ Truncated
    → NumberFault t.type (here s rest) (fault s.at [] c) → Reported pool m depth p0 (fault s.at (path_here s) c)
number_refused s rest t c begun is not_cut bad = record { bad = number_bad s rest t s.at c begun is bad; settled = not_cut }

-- AFTER A WHOLE RECORD a tag comes next
pub reached_reads :
    {pool : Types} {m depth levels : ℕ} {base : List Record} {p0 : Place} (s t : State) (size : ℕ) (rest : List ℕ) → t.at ≡ s.at + size → t.scope.end ≡ s.scope.end → t.next ≡ step.Tag
    → HasReached pool m depth levels base p0 t (passed (here s rest) size) → Reads pool m depth levels base p0 t (drop size rest)
reached_reads {pool} {m} {depth} {levels} {base} {p0} s t size rest at end tag h =
    subst (λ (z : Step). After pool m depth levels base p0 t.parents z t.now t.scope (here t (drop size rest))) (sym tag)
    (after_record (subst (HasReached pool m depth levels base p0 t) (passed_here s t size rest at end) h))

-- what is reported of an error
pub if_fault_weaker : (e : DecodeError) (P Q : Fault → Type 0) → ((f : Fault) → P f → Q f) → IfFault e P → IfFault e Q
if_fault_weaker (error.Fault byte path c) P Q h is = h (fault byte path.items c) is
if_fault_weaker error.Memory P Q h is = tt
if_fault_weaker error.Device P Q h is = is
if_fault_weaker error.Finished P Q h is = is

pub fault_reported : {pool : Types} {m depth : ℕ} {p0 : Place} (e : DecodeError) (f : Fault) → IfFault e (λ g. g ≡ f) → Reported pool m depth p0 f → IfFault e (Reported pool m depth p0)
fault_reported {pool} {m} {depth} {p0} e f is reported = if_fault_weaker e (λ g. g ≡ f) (Reported pool m depth p0) (λ g same. subst (Reported pool m depth p0) (sym same) reported) is
