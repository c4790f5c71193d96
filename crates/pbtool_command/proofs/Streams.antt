-- The frames of a stream, one after another.
use Rattle.std.proofs.Common.{◌≡◌, ◌⊎◌, inl, inr, ℕ, suc, ◌+◌, ◌-◌, ◌^◌, ◌<◌, ◌≤◌, List, [], ◌∷◌, ◌++◌, length, Bool, true, false, Option, None, Some, refl, sym, ap, ◌∙◌, subst, arith, length-append, add-one}
use Rattle.std.specs.Prelude.{IfSome, IsSomeAnd}
use Rattle.std.specs.Borrow.{Bor}
use Rattle.std.specs.Io.KnownBytes.{Consumes}
use Rattle.pb_wire.specs.Fault.{Fault, fault}
use Rattle.pb_wire.specs.Limits.{Bounds, full}
use Rattle.pb_wire.specs.Varint.{EndsOnce}
use Rattle.pb_schema.specs.Types.{Types}
use Rattle.pb_value.specs.Data.{Message}
use Rattle.pb_value.specs.Dynamic.{Dynamic}
use Rattle.pb_value.specs.WellFormed.{IsWellFormed}
use Rattle.pb_decode.specs.declared.error.DecodeError.{DecodeError}
use Rattle.pb_decode.specs.declared.error.DecodeError.TheVariants as decode
use Rattle.pb_stream.specs.Frame.{Frame, FrameFault}
use Rattle.pb_stream.specs.Stream.{Stream}
use Rattle.pb_stream.specs.Taking.{Counts, TakesNone}
use Rattle.pbtool_files.specs.Answer.{done, stopped, broken}
use Rattle.pb_listing.specs.Putting.{PutsSome}
use Rattle.pb_json.specs.Answers.{RefusedAs, refused_view}
use Rattle.pb_json.specs.declared.error.JsonError.{JsonError}
use Rattle.pb_json.specs.declared.error.JsonError.TheVariants as json_error
use Rattle.pbtool_command.specs.FramesAnswer.{AreFrames, none, one_more, AreFrameLines, BeginsWith, no_frame, frame_more, ended, frame_refused, input_failed, are_json}
use Rattle.pbtool_command.specs.FramesAnswer.{bad_bytes, no_json}
use Rattle.pbtool_files.specs.Refusal.{ByRefusal}
use Rattle.pb_output.specs.Sink.{Puts}
use Rattle.pbtool_command.specs.Streaming.{AreReadLines, FramesBegunIn, FramesIn, IsToldOfFormless, IsToldOfFrame, ReadsFrame, RefusesFrame, RefusesNext, RefusesRead}
use Rattle.pb_output.specs.declared.sink.Sink.{Sink}
use Rattle.pbtool_command.specs.declared.shown.Shown.{Shown}
use Rattle.pbtool_files.specs.declared.report.Refusal.{Refusal}
use Rattle.pb_output.proofs.SinkLemmas.{puts_none}

-- SIZES

-- the bytes that a frame takes are counted
taken_size :
    (before after : ℕ) (old new : Option (List ℕ)) (xs ys : List ℕ) → old ≡ Some xs → new ≡ Some ys → before + length xs < 2 ^ 64 → Counts before after old new
    → (length xs ≡ (after - before) + length ys) × (before + (after - before) ≡ after)
taken_size before after old new xs ys is_old is_new small counts =
    let bytes : List ℕ = counts.0 in
    let consumed : Consumes (Some xs) (Some ys) bytes =
    subst (λ (o : Option (List ℕ)). Consumes (Some xs) o bytes) is_new (subst (λ (o : Option (List ℕ)). Consumes o new bytes) is_old counts.1) in
    let size : length xs ≡ length bytes + length ys = ap length consumed ∙ length-append bytes ys in
    let total = counts.2 in
    (omega (arith, size, total, small), omega (arith, size, total, small))

length_has_byte : (b : List ℕ) → EndsOnce b → 1 ≤ length b
length_has_byte [] ends = absurd ends
length_has_byte (x ∷ xs) ends = omega arith

-- a frame has a byte
frame_has_byte : {pool : Types} {m : ℕ} {input rest : List ℕ} {v : Message} → Frame pool m full input v rest → 1 + length rest ≤ length input
frame_has_byte {rest = rest} frame =
    let some = length_has_byte frame.front frame.counted.ends in
    let size = ap length frame.joined ∙ length-append (frame.front ++ frame.text) rest in
    let inner = length-append frame.front frame.text in
    omega (arith, some, size, inner)

-- frames have no fewer bytes than they are
frames_size :
    {form : Shown} {pool : Types} {m : ℕ} {input : List ℕ} {count offset : ℕ} {text rest : List ℕ} → BeginsWith form pool m input count offset text rest → count ≤ offset
frames_size no_frame = omega arith
frames_size (frame_more lines size before frame is are) =
    let fewer = frames_size before in
    let one = frame_has_byte frame in
    omega (arith, fewer, one, is)

no_bytes : (b : List ℕ) → length b ≡ 0 → b ≡ []
no_bytes [] e = refl
no_bytes (x ∷ xs) e = absurd (omega (arith, e))

-- WHAT WAS READ

-- this number of frames of an input was read, with these lines, and the reader goes on
pub record AreRead {I : Type 0} (left : I → Option (List ℕ)) (is_steady : I → Bool) (form : Shown) (start now : Stream I) (count : ℕ) (text : List ℕ) : Type 0 where
  pub frames : AreFrames form start.pool start.kind count text
  pub pool : now.pool ≡ start.pool
  pub kind : now.kind ≡ start.kind
  pub limits : now.limits ≡ full
  pub goes_on : now.finished ≡ false
  pub steady : is_steady start.input ≡ true → is_steady now.input ≡ true
  pub known :
      (input : List ℕ) → left start.input ≡ Some input → length input < 2 ^ 64
      → (rest : List ℕ) × (left now.input ≡ Some rest) × BeginsWith form start.pool start.kind input count now.taken text rest
      × (now.taken + length rest ≡ length input)

-- they were put
pub record IsStreaming
    {D I : Type 0} (written : D → Option (List ℕ)) (failures : D → ℕ) (left : I → Option (List ℕ)) (is_steady : I → Bool) (form : Shown) (old new : D)
    (a b : Sink) (start now : Stream I) (count : ℕ) : Type 0 where
  pub text : List ℕ
  pub put : Puts written failures old new a b text
  pub read : AreRead left is_steady form start now count text

-- one more frame is known
known_more :
    {old new : Option (List ℕ)} (form : Shown) (pool : Types) (kind : ℕ) (input rest text lines : List ℕ) (count before after : ℕ) (m : Message)
    → old ≡ Some rest → IsSomeAnd new (Frame pool kind full rest m) → Counts before after old new → BeginsWith form pool kind input count before text rest
    → before + length rest ≡ length input → length input < 2 ^ 64 → AreFrameLines form pool kind count before (after - before) m lines
    → (left : List ℕ) × (new ≡ Some left) × BeginsWith form pool kind input (suc count) after (text ++ lines) left × (after + length left ≡ length input)
known_more {new = None} form pool kind input rest text lines count before after m is framed counts begins total small are = absurd framed
known_more {old} {new = Some left} form pool kind input rest text lines count before after m is framed counts begins total small are =
    let sizes = taken_size before after old (Some left) rest left is refl (omega (arith, total, small)) counts in
    let size = sizes.0 in
    let end = sizes.1 in (
      left,
      refl,
      subst (λ (n : ℕ). BeginsWith form pool kind input (suc count) n (text ++ lines) left) end (frame_more lines (after - before) begins framed size are),
      omega (arith, size, end, total),
    )

-- the frame that was read, where the bytes are known
frame_there :
    {old : Option (List ℕ)} {pool pool' : Types} {kind kind' : ℕ} {limits : Bounds} (new : Option (List ℕ)) (m : Message) (rest : List ℕ) → pool' ≡ pool
    → kind' ≡ kind → limits ≡ full → old ≡ Some rest → IfSome old (λ left. IsSomeAnd new (Frame pool' kind' limits left m)) → IsSomeAnd new (Frame pool kind full rest m)
frame_there new m rest p k l is h = rw (is, p, k, l) at h

-- what is no frame, where the bytes are known
fault_there :
    {old : Option (List ℕ)} {pool pool' : Types} {kind kind' : ℕ} {limits : Bounds} {f : Fault} (rest : List ℕ) → pool' ≡ pool → kind' ≡ kind
    → limits ≡ full → old ≡ Some rest → IfSome old (λ left. FrameFault pool' kind' limits left f) → FrameFault pool kind full rest f
fault_there rest p k l is h = rw (is, p, k, l) at h

-- what is there
some_and : {A : Type 0} (P : A → Type 0) (o : Option A) → IsSomeAnd o P → (x : A) × P x
some_and P None h = absurd h
some_and P (Some x) h = (x, h)

-- nothing was left
none_left : (old new : Option (List ℕ)) (rest : List ℕ) → old ≡ Some rest → TakesNone old new → rest ≡ []
none_left None new rest is h = absurd (cc)
none_left (Some xs) None rest is h = absurd h.0
none_left (Some xs) (Some ys) rest is h =
    let same : xs ≡ rest = cc in
    sym same ∙ h.0 ∙ h.1

module _ {I : Type 0} {left : I → Option (List ℕ)} {is_steady : I → Bool} {form : Shown} where
  pub read_start : (r : Stream I) → r.taken ≡ 0 → r.finished ≡ false → r.limits ≡ full → AreRead left is_steady form r r 0 []
  read_start r first open_ limits = record {
    frames = none;
    pool = refl;
    kind = refl;
    limits = limits;
    goes_on = open_;
    steady = λ s. s;
    known = λ input is small.
        (input, is, subst (λ (n : ℕ). BeginsWith form r.pool r.kind input 0 n [] input) (sym first) no_frame, omega (arith, first));
  }

  -- one more frame was read
  read_more :
      {start now next : Stream I} {count : ℕ} {text : List ℕ} (lines : List ℕ) (m : Message) → AreRead left is_steady form start now count text → next.pool ≡ now.pool
      → next.kind ≡ now.kind → next.limits ≡ now.limits → next.finished ≡ false → (is_steady now.input ≡ true → is_steady next.input ≡ true)
      → IsWellFormed start.pool start.kind m
      → IfSome (left now.input) (λ rest. IsSomeAnd (left next.input) (Frame now.pool now.kind now.limits rest m))
      → Counts now.taken next.taken (left now.input) (left next.input)
      → AreFrameLines form start.pool start.kind count now.taken (next.taken - now.taken) m lines
      → AreRead left is_steady form start next (suc count) (text ++ lines)
  read_more {start = start} {now = now} {next = next} {count = count} {text = text} lines m h pool kind limits open_ steady well frame counts are = record {
    frames = one_more lines h.frames well now.taken (next.taken - now.taken) are;
    pool = pool ∙ h.pool;
    kind = kind ∙ h.kind;
    limits = limits ∙ h.limits;
    goes_on = open_;
    steady = λ s. steady (h.steady s);
    known = λ input is small.
        let before = h.known input is small in
        known_more form start.pool start.kind input before.0 text lines count now.taken next.taken m before.1
        (frame_there (left next.input) m before.0 h.pool h.kind h.limits before.1 frame) counts before.2 before.3 small are;
  }

  -- as a step tells it
  pub read_next :
      {start now next : Stream I} {count : ℕ} {text : List ℕ} (m : Message) (lines : List ℕ) → AreRead left is_steady form start now count text
      → ReadsFrame left is_steady now next m → AreReadLines form count now next m lines → AreRead left is_steady form start next (count + 1) (text ++ lines)
  read_next m lines h step are =
      let well = rw (h.pool, h.kind) at step.well in
      let same = rw (h.pool, h.kind) at are in
      rw add-one (read_more lines m h step.same.0 step.same.1 step.same.2 step.goes_on step.steady well step.frame step.counted same)

  -- WHAT IT COMES TO

  -- the lines are printed before more is known
  pub read_begun : {start now : Stream I} {count : ℕ} {text : List ℕ} → AreRead left is_steady form start now count text → FramesBegunIn left is_steady start.input form start.pool start.kind text
  read_begun {now = now} {count = count} h =
      ((count, h.frames), λ bytes steady is. (bytes, refl, λ small. let before = h.known bytes is small in (count, now.taken, before.0, before.2)))

  -- nothing is left
  read_all :
      {start now : Stream I} {count : ℕ} {text : List ℕ} (path : List ℕ) → AreRead left is_steady form start now count text
      → ((rest input : List ℕ) → left now.input ≡ Some rest → length input < 2 ^ 64 → count ≤ now.taken → now.taken + length rest ≡ length input → rest ≡ [])
      → FramesIn left is_steady start.input form path start.pool start.kind (done text)
  read_all {start = start} {now = now} {count = count} {text = text} path h nothing =
      ended (
        (count, h.frames),
        λ bytes steady is. (
          bytes,
          refl,
          λ small.
              let before = h.known bytes is small in (
                count,
                now.taken,
                subst (BeginsWith form start.pool start.kind bytes count now.taken text)
                    (nothing before.0 bytes before.1 small (frames_size before.2) before.3) before.2,
              ),
        ),
      )
      refl

  -- the reader says so
  pub read_to_end :
      {start now : Stream I} {count : ℕ} {text : List ℕ} (path : List ℕ) (after : Option (List ℕ)) → AreRead left is_steady form start now count text
      → TakesNone (left now.input) after → FramesIn left is_steady start.input form path start.pool start.kind (done text)
  read_to_end {now = now} path after h takes = read_all path h (λ rest input is small fewer total. none_left (left now.input) after rest is takes)

  -- the frames are as many as bytes can be
  pub read_most :
      {start now : Stream I} {count : ℕ} {text : List ℕ} (path : List ℕ) → AreRead left is_steady form start now count text → 2 ^ 64 - 1 ≤ count
      → FramesIn left is_steady start.input form path start.pool start.kind (done text)
  read_most {now = now} path h most = read_all path h (λ rest input is small fewer total. no_bytes rest (omega (arith, most, small, fewer, total)))

  -- what follows is refused
  pub read_refused :
      {start now : Stream I} {count : ℕ} {text : List ℕ} (path : Bor (List ℕ)) (e : DecodeError) (r : Refusal)
      → AreRead left is_steady form start now count text → IsToldOfFrame count path e r → RefusesFrame left is_steady now e
      → ByRefusal (λ line. FramesIn left is_steady start.input form path.now start.pool start.kind (stopped text line))
      (λ device. FramesIn left is_steady start.input form path.now start.pool start.kind (broken text device))
      (FramesBegunIn left is_steady start.input form start.pool start.kind text) r
  read_refused {now = now} {count = count} path (decode.Fault byte steps cause) r h told refused =
      rw told
      (frame_refused {r = bad_bytes (fault byte steps.items cause)} (
        (h.frames, tt),
        λ bytes steady is. (
          bytes,
          refl,
          λ small. let before = h.known bytes is small in (now.taken, before.0, before.2, fault_there before.0 h.pool h.kind h.limits before.1 refused.why),
        ),
      )
      refl)
  read_refused {count = count} path decode.Device r h told refused =
      rw told (input_failed ((count, h.frames), λ bytes steady is. absurd (refused.failed (h.steady steady) refl)) refl)
  read_refused path decode.Memory r h told refused = rw told (read_begun h)
  read_refused path decode.Finished r h told refused = absurd refused.why

  -- the frame that was read has no JSON form
  formless_as :
      {start now next : Stream I} {count : ℕ} {text : List ℕ} (path : List ℕ) (m : Message) (e : JsonError) (r : Refusal)
      → AreRead left is_steady form start now count text → ReadsFrame left is_steady now next m → are_json form ≡ true
      → RefusedAs (record { pool = start.pool; kind = start.kind; body = m }) e → IsToldOfFormless count e r
      → ByRefusal (λ line. FramesIn left is_steady start.input form path start.pool start.kind (stopped text line))
      (λ device. FramesIn left is_steady start.input form path start.pool start.kind (broken text device))
      (FramesBegunIn left is_steady start.input form start.pool start.kind text) r
  formless_as {start = start} {now = now} {next = next} path m (json_error.Refused x) r h step is_json refused told =
      let well = rw (h.pool, h.kind) at step.well in
      rw told
      (frame_refused {r = no_json (refused_view x)} (
        (h.frames, (is_json, (m, well, refused))),
        λ bytes steady is. (
          bytes,
          refl,
          λ small.
              let before = h.known bytes is small in
              let framed = some_and (Frame start.pool start.kind full before.0 m) (left next.input)
              (frame_there (left next.input) m before.0 h.pool h.kind h.limits before.1 step.frame) in
              (now.taken, before.0, before.2, (is_json, (m, framed.0, framed.1, refused))),
        ),
      )
      refl)
  formless_as path m json_error.Memory r h step is_json refused told = rw told (read_begun h)
  formless_as path m json_error.Output r h step is_json refused told = absurd refused

  -- as a step tells it
  pub read_unshown :
      {start now next : Stream I} {count : ℕ} {text : List ℕ} (path : Bor (List ℕ)) (r : Refusal) → AreRead left is_steady form start now count text
      → (RefusesNext left is_steady now count path r ⊎ RefusesRead left is_steady form count now next r)
      → ByRefusal (λ line. FramesIn left is_steady start.input form path.now start.pool start.kind (stopped text line))
      (λ device. FramesIn left is_steady start.input form path.now start.pool start.kind (broken text device))
      (FramesBegunIn left is_steady start.input form start.pool start.kind text) r
  read_unshown path r h (inl (error, refuses, told)) = read_refused path error r h told refuses
  read_unshown path r h (inr (m, step, unwritten)) =
      let same = rw (h.pool, h.kind) at unwritten.1.1 in
      formless_as path.now m unwritten.1.0 r h step unwritten.0 same unwritten.1.2

-- ONE STEP

module _ {I : Type 0} {left : I → Option (List ℕ)} {is_steady : I → Bool} where
  -- the frame that the reader tells
  pub reads_frame :
      {old new : Stream I} (d : Dynamic) → (new.pool ≡ old.pool) × (new.kind ≡ old.kind) × (new.limits ≡ old.limits) → new.finished ≡ false
      → (is_steady old.input ≡ true → is_steady new.input ≡ true) → (d.pool ≡ old.pool) × (d.kind ≡ old.kind) → IsWellFormed d.pool d.kind d.body
      → IfSome (left old.input) (λ rest. IsSomeAnd (left new.input) (Frame old.pool old.kind old.limits rest d.body))
      → Counts old.taken new.taken (left old.input) (left new.input) → ReadsFrame left is_steady old new d.body
  reads_frame d same open_ steady typed well frame counted = record {
    same = same;
    goes_on = open_;
    steady = steady;
    well = rw (typed.0, typed.1) at well;
    frame = frame;
    counted = counted;
  }

-- its lines, as they were put
pub lines_read :
    {D I : Type 0} {written : D → Option (List ℕ)} {failures : D → ℕ} {d0 d1 : D} {a b : Sink} (form : Shown) (old new : Stream I) (d : Dynamic)
    (index offset size : ℕ) → (d.pool ≡ old.pool) × (d.kind ≡ old.kind) → offset ≡ old.taken → size ≡ new.taken - offset
    → PutsSome written failures d0 d1 a b (AreFrameLines form d.pool d.kind index offset size d.body)
    → PutsSome written failures d0 d1 a b (AreReadLines form index old new d.body)
lines_read form old new d index offset size typed begins sized put = (put.0, rw (sized, begins, typed.0, typed.1) at put.1, put.2)

pub streaming_start :
    {D I : Type 0} {written : D → Option (List ℕ)} {failures : D → ℕ} {left : I → Option (List ℕ)} {is_steady : I → Bool} {d : D} {a : Sink}
    (form : Shown) (r : Stream I) → r.taken ≡ 0 → r.finished ≡ false → r.limits ≡ full → IsStreaming written failures left is_steady form d d a a r r 0
streaming_start form r first open_ limits = record { text = []; put = puts_none; read = read_start r first open_ limits }
