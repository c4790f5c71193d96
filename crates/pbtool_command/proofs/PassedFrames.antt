-- All frames of a stream, one after another, also those that are refused.
use Rattle.std.proofs.Common.{◌≡◌, ℕ, zero, suc, ◌+◌, ◌-◌, ◌^◌, ◌<◌, ◌≤◌, min, List, [], ◌∷◌, ◌++◌, length, Bool, true, Option, None, Some, refl, sym, ap, ◌∙◌, subst, arith, append-nil, length-append, inl}
use Rattle.std.specs.Prelude.{Result, Ok, Err, IfSome, OnOk}
use Rattle.std.specs.Borrow.{Bor}
use Rattle.pb_wire.specs.Fault.{Fault}
use Rattle.pb_wire.specs.Limits.{full}
use Rattle.pb_wire.proofs.Tokens.{ends_some}
use Rattle.pb_schema.specs.Types.{Types}
use Rattle.pb_value.specs.Dynamic.{Dynamic}
use Rattle.pb_value.specs.WellFormed.{IsWellFormed}
use Rattle.pb_stream.specs.Frame.{Frame, FrameFault}
use Rattle.pb_stream.specs.Taking.{TakesNone}
use Rattle.pb_stream.specs.Next.{TakesSpan}
use Rattle.pb_stream.specs.Spans.{HasNoSpan}
use Rattle.pbtool_files.specs.Answer.{done, stopped, broken}
use Rattle.pbtool_files.specs.Known.{OfInput}
use Rattle.pbtool_files.specs.Report.{frame_fault_line, frames_line}
use Rattle.pb_listing.specs.Putting.{PutsSome}
use Rattle.pb_output.specs.Sink.{Puts}
use Rattle.pb_output.specs.declared.sink.Sink.{Sink}
use Rattle.pb_output.proofs.SinkLemmas.{puts_none, puts_then}
use Rattle.pbtool_command.specs.AllFrames.{AllBegunBy, AllFramesBy, ArePassed, Passed, Passes, and_refused, and_shown, concluded, none_passed}
use Rattle.pbtool_command.specs.AllFrames.{none_yet, one_shown, one_refused, none_there, shown_there, refused_there, all_passed, cut_after, failed_after}
use Rattle.pbtool_command.specs.FramesAnswer.{AreFrameLines, FrameRefusal, IsRefusedFrame, MayBeRefused, bad_bytes, frame_refusal_line, no_json, are_json}
use Rattle.pb_json.specs.Answers.{IsRefused}
use Rattle.pb_json.specs.Refusals.{Refused}
use Rattle.pbtool_command.specs.PassingOn.{Concludes, HasPassed, IsGoing, IsOver, PutsAnswer, PutsRefusal}
use Rattle.pbtool_command.specs.declared.shown.Shown.{Shown}
use Rattle.pbtool_command.specs.declared.all_frames.Progress.{Progress}
use Rattle.pbtool_files.specs.declared.report.Refusal.{Refusal}
use Rattle.pbtool_files.specs.declared.report.Refusal.TheVariants as refusal

-- SIZES

-- no more frames are refused than there are
pub few_refused : {form : Shown} {pool : Types} {m : ℕ} {s : Passed} → ArePassed form pool m s → s.refused ≤ s.count
few_refused none_there = omega arith
few_refused (shown_there lines before well offset size taken are) = let fewer = few_refused before in omega (arith, fewer)
few_refused (refused_there before size r may) = let fewer = few_refused before in omega (arith, fewer)

-- frames have no fewer bytes than they are
pub frames_have_bytes :
    {form : Shown} {pool : Types} {m : ℕ} {input : List ℕ} {s : Passed} {rest : List ℕ} → Passes form pool m input s rest → s.count ≤ s.offset
frames_have_bytes none_yet = omega arith
frames_have_bytes (one_shown {span = span} lines before frame are) =
    let fewer = frames_have_bytes before in
    let some = ends_some frame.front frame.counted.ends in
    let size = ap length frame.joined ∙ length-append (frame.front ++ frame.text) [] in
    let inner = length-append frame.front frame.text in
    omega (arith, fewer, some, size, inner)
frames_have_bytes (one_refused {span = span} r before is_span bad) =
    let fewer = frames_have_bytes before in
    let some = ends_some is_span.front is_span.counted.ends in
    let size = ap length is_span.joined ∙ length-append is_span.front is_span.text in
    omega (arith, fewer, some, size)

no_bytes : (b : List ℕ) → length b ≡ 0 → b ≡ []
no_bytes [] e = refl
no_bytes (x ∷ xs) e = absurd (omega (arith, e))

-- the bytes of one more frame were taken
taken_more :
    {old new : Option (List ℕ)} {rest : List ℕ} {size : ℕ} {Holds : List ℕ → Type 0} → old ≡ Some rest → IfSome old (λ input. TakesSpan input new size Holds)
    → TakesSpan rest new size Holds
taken_more is h = rw is at h

-- what holds of the bytes of a frame that was taken
span_map :
    (new : Option (List ℕ)) (size : ℕ) (P Q : List ℕ → Type 0) (old : Option (List ℕ)) → ((span : List ℕ) → P span → Q span)
    → IfSome old (λ input. TakesSpan input new size P) → IfSome old (λ input. TakesSpan input new size Q)
span_map new size P Q None more h = h
span_map new size P Q (Some input) more h = record {
  span = h.span;
  rest = h.rest;
  joined = h.joined;
  is_span = h.is_span;
  after = h.after;
  size_is = h.size_is;
  holds = more h.span h.holds;
}

-- nothing was left
none_left : (old new : Option (List ℕ)) (rest : List ℕ) → old ≡ Some rest → TakesNone old new → rest ≡ []
none_left None new rest is h = absurd (cc)
none_left (Some xs) None rest is h = absurd h.0
none_left (Some xs) (Some ys) rest is h =
    let same : xs ≡ rest = cc in
    sym same ∙ h.0 ∙ h.1

-- WHAT WAS READ

module _
    {I : Type 0} {left : I → Option (List ℕ)} {is_steady : I → Bool} {form : Shown} {pool : Types} {m : ℕ} where
  pub passed_none : (i : I) → HasPassed left is_steady i i form pool m none_passed
  passed_none i = record {
    passed = none_there;
    steady = λ s. s;
    known = λ input is small. (input, is, none_yet, omega arith);
  }

  pub passed_shown :
      {start now next : I} {s : Passed} (size offset : ℕ) (lines : List ℕ) (d : Dynamic) → HasPassed left is_steady start now form pool m s
      → IfSome (left now) (λ input. TakesSpan input (left next) size (λ span. Frame pool m full span d.body []))
      → IsWellFormed d.pool d.kind d.body → (d.pool ≡ pool) × (d.kind ≡ m) → (is_steady now ≡ true → is_steady next ≡ true)
      → AreFrameLines form d.pool d.kind s.count s.offset size d.body lines → s.offset < 2 ^ 64 → offset ≡ min (s.offset + size) (2 ^ 64 - 1)
      → HasPassed left is_steady start next form pool m (and_shown s (offset - s.offset) lines)
  passed_shown {start} {now} {next} {s} size offset lines d h took well typed stays are range is_offset =
      let shown : AreFrameLines form pool m s.count s.offset size d.body lines = rw (typed.0, typed.1) at are in record {
        passed = shown_there lines h.passed (rw (typed.0, typed.1) at well) s.offset size (offset - s.offset) shown;
        steady = λ is. stays (h.steady is);
        known = λ input is small.
            let before = h.known input is small in
            let span = taken_more before.1 took in
            let parts = ap length span.joined ∙ length-append span.span span.rest in
            let total = before.3 in
            let sized = span.size_is in
            let all : size ≡ length span.span = omega (arith, parts, total, small, sized) in
            let here : offset - s.offset ≡ length span.span = omega (arith, parts, total, small, all, is_offset) in (
              span.rest,
              span.after,
              subst (λ (n : ℕ). Passes form pool m input (and_shown s n lines) span.rest) (sym here)
                  (one_shown lines (subst (Passes form pool m input s) span.joined before.2) span.holds
                  (subst (λ (n : ℕ). AreFrameLines form pool m s.count s.offset n d.body lines) all shown)),
              omega (arith, parts, total, here),
            );
      }

  pub passed_refused :
      {start now next : I} {s : Passed} (size offset : ℕ) (r : FrameRefusal) → HasPassed left is_steady start now form pool m s
      → IfSome (left now) (λ input. TakesSpan input (left next) size (λ span. IsRefusedFrame form pool m span r)) → MayBeRefused form pool m r
      → (is_steady now ≡ true → is_steady next ≡ true) → s.offset < 2 ^ 64 → offset ≡ min (s.offset + size) (2 ^ 64 - 1)
      → HasPassed left is_steady start next form pool m (and_refused s (offset - s.offset) r)
  passed_refused {start} {now} {next} {s} size offset r h took may stays range is_offset = record {
    passed = refused_there h.passed (offset - s.offset) r may;
    steady = λ is. stays (h.steady is);
    known = λ input is small.
        let before = h.known input is small in
        let span = taken_more before.1 took in
        let parts = ap length span.joined ∙ length-append span.span span.rest in
        let total = before.3 in
        let sized = span.size_is in
        let all : size ≡ length span.span = omega (arith, parts, total, small, sized) in
        let here : offset - s.offset ≡ length span.span = omega (arith, parts, total, small, all, is_offset) in (
          span.rest,
          span.after,
          subst (λ (n : ℕ). Passes form pool m input (and_refused s n r) span.rest) (sym here)
              (one_refused r (subst (Passes form pool m input s) span.joined before.2) span.is_span span.holds),
          omega (arith, parts, total, here),
        );
  }

  -- WHAT IT COMES TO

  -- the lines are printed before more is known
  pub passed_begun :
      {start now : I} {s : Passed} → HasPassed left is_steady start now form pool m s → AllBegunBy (OfInput left is_steady start) form pool m s.text
  passed_begun {s = s} h = (s, refl, h.passed, λ bytes steady is. (bytes, refl, λ small. let before = h.known bytes is small in (before.0, before.2)))

  passed_all :
      {start now : I} {s : Passed} (path : List ℕ) → HasPassed left is_steady start now form pool m s
      → ((rest input : List ℕ) → left now ≡ Some rest → length input < 2 ^ 64 → s.count ≤ s.offset → s.offset + length rest ≡ length input → rest ≡ [])
      → AllFramesBy (OfInput left is_steady start) form path pool m (concluded s)
  passed_all {s = s} path h nothing =
      all_passed (
        h.passed,
        λ bytes steady is. (
          bytes,
          refl,
          λ small.
              let before = h.known bytes is small in
              subst (Passes form pool m bytes s) (nothing before.0 bytes before.1 small (frames_have_bytes before.2) before.3) before.2,
        ),
      )
      refl

  pub passed_to_end :
      {start now : I} {s : Passed} (path : List ℕ) (after : Option (List ℕ)) → HasPassed left is_steady start now form pool m s → TakesNone (left now) after
      → AllFramesBy (OfInput left is_steady start) form path pool m (concluded s)
  passed_to_end {now = now} path after h takes = passed_all path h (λ rest input is small fewer total. none_left (left now) after rest is takes)

  -- the frames are as many as bytes can be
  pub passed_most :
      {start now : I} {s : Passed} (path : List ℕ) → HasPassed left is_steady start now form pool m s → 2 ^ 64 - 1 ≤ s.count
      → AllFramesBy (OfInput left is_steady start) form path pool m (concluded s)
  passed_most path h most = passed_all path h (λ rest input is small fewer total. no_bytes rest (omega (arith, most, small, fewer, total)))

  -- what follows is no frame with an end
  pub passed_to_cut :
      {start now : I} {s : Passed} (path : List ℕ) (f : Fault) → HasPassed left is_steady start now form pool m s
      → IfSome (left now) (λ input. HasNoSpan input × FrameFault pool m full input f)
      → AllFramesBy (OfInput left is_steady start) form path pool m (concluded (and_refused s 0 (bad_bytes f)))
  passed_to_cut {now = now} path f h cut =
      cut_after (
        h.passed,
        λ bytes steady is. (
          bytes,
          refl,
          λ small.
              let before = h.known bytes is small in
              let there = there_at before.1 cut in (before.0, before.2, there.0, there.1),
        ),
      )
      refl
    where
      there_at :
          {old : Option (List ℕ)} {rest : List ℕ} → old ≡ Some rest → IfSome old (λ input. HasNoSpan input × FrameFault pool m full input f)
          → HasNoSpan rest × FrameFault pool m full rest f
      there_at is known = rw is at known

  -- the input failed
  pub passed_to_failure :
      {start now : I} {s : Passed} (path : List ℕ) → HasPassed left is_steady start now form pool m s → (is_steady now ≡ true → ⊥)
      → AllFramesBy (OfInput left is_steady start) form path pool m (broken s.text path)
  passed_to_failure path h failed = failed_after (h.passed, λ bytes steady is. failed (h.steady steady)) refl

-- what comes of a report that was appended
pub reported_as : {P Q : Type 0} (r : Result Unit Refusal) → (P → Q) → OnOk r P → OnOk r Q
reported_as (Ok u) more h = more h
reported_as (Err e) more h = tt

-- HOW IT ENDS

none_concluded : (s : Passed) → s.refused ≡ 0 → concluded s ≡ done s.text
none_concluded s is = rw is refl

some_concluded : (s : Passed) (n : ℕ) → 0 < n → s.refused ≡ n → concluded s ≡ stopped s.text (s.lines ++ frames_line n s.count)
some_concluded s zero some is = absurd (omega (arith, some))
some_concluded s (suc n) some is = rw is refl

module _
    {D I : Type 0} {written : D → Option (List ℕ)} {failures : D → ℕ} {left : I → Option (List ℕ)} {is_steady : I → Bool} {old new : D} {a b : Sink}
    {start now : I} {form : Shown} {pool : Types} {m : ℕ} where
  -- what is answered of all frames
  pub over_answered :
      {path : List ℕ} {count : ℕ} {p : Progress} (r : Result Unit Refusal)
      → IsOver written failures left is_steady old new a b start now form pool m path count p → Concludes p.lines.items p.refused count r
      → PutsAnswer written failures old new a b (AllFramesBy (OfInput left is_steady start) form path pool m)
      (AllBegunBy (OfInput left is_steady start) form pool m) r
  over_answered {path} (Ok u) h none =
      let is : concluded h.state ≡ done h.state.text = none_concluded h.state (h.refused ∙ none) in
      (h.state.text, h.put, inl (subst (AllFramesBy (OfInput left is_steady start) form path pool m) is h.right))
  over_answered {path} {count} (Err (refusal.Frames v r c)) h (some, lines, refused, counted) =
      let is : concluded h.state ≡ stopped h.state.text (h.state.lines ++ frames_line r h.state.count) =
      some_concluded h.state r (rw refused some) (h.refused ∙ sym refused) in
      let line : h.state.lines ++ frames_line r h.state.count ≡ v.items ++ frames_line r c = rw (h.lines, h.counted, lines, counted) refl in (
        h.state.text,
        h.put,
        subst (λ (z : List ℕ). AllFramesBy (OfInput left is_steady start) form path pool m (stopped h.state.text z)) line
            (subst (AllFramesBy (OfInput left is_steady start) form path pool m) is h.right),
      )
  over_answered (Err (refusal.Fault byte steps cause)) h none = absurd none
  over_answered (Err (refusal.Set byte steps cause)) h none = absurd none
  over_answered (Err (refusal.SetFile file cause)) h none = absurd none
  over_answered (Err (refusal.Link file full_name cause)) h none = absurd none
  over_answered (Err (refusal.UnknownType name)) h none = absurd none
  over_answered (Err refusal.TooLarge) h none = absurd none
  over_answered (Err (refusal.Frame index byte steps cause)) h none = absurd none
  over_answered (Err (refusal.FrameJson index steps cause)) h none = absurd none
  over_answered (Err (refusal.Source file byte cause)) h none = absurd none
  over_answered (Err (refusal.Json steps cause)) h none = absurd none
  over_answered (Err (refusal.JsonText byte cause)) h none = absurd none
  over_answered (Err refusal.Breaks) h none = absurd none
  over_answered (Err (refusal.Device device)) h none = absurd none
  over_answered (Err (refusal.File device)) h none = absurd none
  over_answered (Err refusal.Memory) h none = absurd none

-- ONE TURN

module _
    {D I : Type 0} {written : D → Option (List ℕ)} {failures : D → ℕ} {left : I → Option (List ℕ)} {is_steady : I → Bool}
    {form : Shown} {pool : Types} {m : ℕ} where
  pub going_start :
      (d : D) (e : Sink) (i : I) (q : Progress) → q.refused ≡ 0 → q.offset ≡ 0 → q.lines.items ≡ []
      → IsGoing written failures left is_steady d d e e i i form pool m 0 q
  going_start d e i q none first empty = record {
    state = none_passed;
    put = puts_none;
    read = passed_none i;
    count = refl;
    refused = sym none;
    offset = sym first;
    lines = sym empty;
  }

  -- no more frames are refused than were read
  -- and nothing was put after them
  pub going_after :
      {old mid new : D} {a b c : Sink} {start now : I} {index : ℕ} {p : Progress} → IsGoing written failures left is_steady old mid a b start now form pool m index p
      → Puts written failures mid new b c [] → IsGoing written failures left is_steady old new a c start now form pool m index p
  going_after {old} {mid} {new} {a} {b} {c} h nothing = record {
    state = h.state;
    put = subst (Puts written failures old new a c) (append-nil h.state.text) (puts_then h.put nothing);
    read = h.read;
    count = h.count;
    refused = h.refused;
    offset = h.offset;
    lines = h.lines;
  }

  pub going_few : {old mid : D} {a b : Sink} {start now : I} {index : ℕ} {p : Progress} → IsGoing written failures left is_steady old mid a b start now form pool m index p → p.refused ≤ index
  going_few h = let few = few_refused h.read.passed in let count = h.count in let refused = h.refused in omega (arith, few, count, refused)

  -- a frame was shown
  pub turn_shown :
      {old mid new : D} {a b c : Sink} {start now next : I} {index : ℕ} {p : Progress} (size : ℕ) (d : Dynamic) (q : Progress) → IsGoing written failures left is_steady old mid a b start now form pool m index p
      → IfSome (left now) (λ input. TakesSpan input (left next) size (λ span. Frame pool m full span d.body [])) → IsWellFormed d.pool d.kind d.body
      → (d.pool ≡ pool) × (d.kind ≡ m) → (is_steady now ≡ true → is_steady next ≡ true)
      → PutsSome written failures mid new b c (AreFrameLines form d.pool d.kind index p.offset size d.body) → p.offset < 2 ^ 64
      → q.offset ≡ min (p.offset + size) (2 ^ 64 - 1) → q.refused ≡ p.refused → q.lines.items ≡ p.lines.items
      → IsGoing written failures left is_steady old new a c start next form pool m (index + 1) q
  turn_shown size d q h took well typed stays put range is_offset same_refused same_lines =
      let s = h.state in
      let at = h.offset in
      let count = h.count in
      let here : q.offset ≡ min (s.offset + size) (2 ^ 64 - 1) = rw at is_offset in
      let below : s.offset < 2 ^ 64 = omega (arith, at, range) in record {
        state = and_shown s (q.offset - s.offset) put.0;
        put = puts_then h.put put.2;
        read = passed_shown size q.offset put.0 d h.read took well typed stays (rw (count, at) put.1) below here;
        count = omega (arith, count);
        refused = h.refused ∙ sym same_refused;
        offset = omega (arith, here, below);
        lines = h.lines ∙ sym same_lines;
      }

  -- a frame is refused, and was passed over
  pub turn_refused :
      {old mid : D} {a b : Sink} {start now next : I} {index : ℕ} {p : Progress} (size : ℕ) (r : FrameRefusal) (q : Progress)
      → IsGoing written failures left is_steady old mid a b start now form pool m index p
      → IfSome (left now) (λ input. TakesSpan input (left next) size (λ span. IsRefusedFrame form pool m span r)) → MayBeRefused form pool m r
      → (is_steady now ≡ true → is_steady next ≡ true) → p.offset < 2 ^ 64 → q.offset ≡ min (p.offset + size) (2 ^ 64 - 1)
      → q.refused ≡ p.refused + 1 → q.lines.items ≡ p.lines.items ++ frame_refusal_line index r
      → IsGoing written failures left is_steady old mid a b start next form pool m (index + 1) q
  turn_refused size r q h took may stays range is_offset one_more line =
      let s = h.state in
      let at = h.offset in
      let count = h.count in
      let refused = h.refused in
      let here : q.offset ≡ min (s.offset + size) (2 ^ 64 - 1) = rw at is_offset in
      let below : s.offset < 2 ^ 64 = omega (arith, at, range) in record {
        state = and_refused s (q.offset - s.offset) r;
        put = h.put;
        read = passed_refused size q.offset r h.read took may stays below here;
        count = omega (arith, count);
        refused = omega (arith, refused, one_more);
        offset = omega (arith, here, below);
        lines = rw (h.lines, count) (sym line);
      }

  -- the message of a frame has no JSON form
  pub turn_formless :
      {old mid : D} {a b : Sink} {start now next : I} {index : ℕ} {p : Progress} (size : ℕ) (d : Dynamic) (r : Refused) (q : Progress)
      → IsGoing written failures left is_steady old mid a b start now form pool m index p
      → IfSome (left now) (λ input. TakesSpan input (left next) size (λ span. Frame pool m full span d.body [])) → IsWellFormed d.pool d.kind d.body
      → (d.pool ≡ pool) × (d.kind ≡ m) → are_json form ≡ true → IsRefused d r → (is_steady now ≡ true → is_steady next ≡ true) → p.offset < 2 ^ 64
      → q.offset ≡ min (p.offset + size) (2 ^ 64 - 1) → q.refused ≡ p.refused + 1 → q.lines.items ≡ p.lines.items ++ frame_refusal_line index (no_json r)
      → IsGoing written failures left is_steady old mid a b start next form pool m (index + 1) q
  turn_formless {now = now} {next = next} size d r q h took well typed is_json refused stays range is_offset one_more line =
      let here : IsRefused (record { pool = pool; kind = m; body = d.body }) r = rw (typed.0, typed.1) at refused in
      turn_refused size (no_json r) q h
      (span_map (left next) size (λ span. Frame pool m full span d.body []) (λ span. IsRefusedFrame form pool m span (no_json r)) (left now)
      (λ span frame. (is_json, (d.body, [], frame, here))) took)
      (is_json, (d.body, rw (typed.0, typed.1) at well, here)) stays range is_offset one_more line

  -- nothing is left
  pub turn_end :
      {old mid : D} {a b : Sink} {start now next : I} {index : ℕ} {p : Progress} (path : List ℕ) (after : Option (List ℕ)) → IsGoing written failures left is_steady old mid a b start now form pool m index p
      → TakesNone (left now) after → IsOver written failures left is_steady old mid a b start next form pool m path index p
  turn_end path after h takes = record {
    state = h.state;
    put = h.put;
    right = passed_to_end path after h.read takes;
    counted = h.count;
    refused = h.refused;
    lines = h.lines;
  }

  -- what is left is no frame with an end
  pub turn_cut :
      {old mid : D} {a b : Sink} {start now next : I} {index : ℕ} {p : Progress} (path : List ℕ) (f : Fault) (q : Progress) → IsGoing written failures left is_steady old mid a b start now form pool m index p
      → IfSome (left now) (λ input. HasNoSpan input × FrameFault pool m full input f) → q.refused ≡ p.refused + 1
      → q.lines.items ≡ p.lines.items ++ frame_fault_line index f
      → IsOver written failures left is_steady old mid a b start next form pool m path (index + 1) q
  turn_cut path f q h cut one_more line =
      let count = h.count in
      let refused = h.refused in record {
        state = and_refused h.state 0 (bad_bytes f);
        put = h.put;
        right = passed_to_cut path f h.read cut;
        counted = omega (arith, count);
        refused = omega (arith, refused, one_more);
        lines = rw (h.lines, count) (sym line);
      }

  -- more frames were read than bytes can be left
  pub turn_most :
      {old mid : D} {a b : Sink} {start now : I} {index : ℕ} {p : Progress} (path : List ℕ)
      → IsGoing written failures left is_steady old mid a b start now form pool m index p → index ≡ 2 ^ 64 - 1
      → IsOver written failures left is_steady old mid a b start now form pool m path (2 ^ 64 - 1) p
  turn_most path h all =
      let count = h.count in record {
        state = h.state;
        put = h.put;
        right = passed_most path h.read (omega (arith, all, count));
        counted = count ∙ all;
        refused = h.refused;
        lines = h.lines;
      }

  -- the input failed, or memory ran out
  pub turn_failed :
      {old mid : D} {a b : Sink} {start now : I} {index : ℕ} {p : Progress} (path : Bor (List ℕ)) → IsGoing written failures left is_steady old mid a b start now form pool m index p → (is_steady now ≡ true → ⊥)
      → PutsRefusal written failures old mid a b (AllFramesBy (OfInput left is_steady start) form path.now pool m)
      (AllBegunBy (OfInput left is_steady start) form pool m) (refusal.Device path)
  turn_failed path h failed = (h.state.text, h.put, passed_to_failure path.now h.read failed)

  pub turn_stopped :
      {old mid : D} {a b : Sink} {start now : I} {index : ℕ} {p : Progress} (path : List ℕ) → IsGoing written failures left is_steady old mid a b start now form pool m index p
      → PutsRefusal written failures old mid a b (AllFramesBy (OfInput left is_steady start) form path pool m)
      (AllBegunBy (OfInput left is_steady start) form pool m) refusal.Memory
  turn_stopped path h = (h.state.text, h.put, passed_begun h.read)
