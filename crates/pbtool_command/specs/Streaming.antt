-- What reading the messages of one input leaves.
use Rattle.std.specs.Prelude.{◌≡◌, ◌≢◌, ◌⊎◌, ◌-◌, ℕ, List, [], Bool, true, false, Option, None, Some, Result, Ok, Err, IfSome, IsSomeAnd}
use Rattle.std.specs.Borrow.{Bor}
use Rattle.pb_schema.specs.Types.{Types}
use Rattle.pb_value.specs.Data.{Message}
use Rattle.pb_value.specs.Dynamic.{Dynamic}
use Rattle.pb_value.specs.WellFormed.{IsWellFormed}
use Rattle.pb_decode.specs.FromDevice.{IfRefused}
use Rattle.pb_decode.specs.declared.error.DecodeError.{DecodeError}
use Rattle.pb_decode.specs.declared.error.DecodeError.TheVariants as decode
use Rattle.pb_stream.specs.Frame.{Frame, FrameFault}
use Rattle.pb_stream.specs.Stream.{Stream}
use Rattle.pb_stream.specs.Taking.{Counts, TakesNone}
use Rattle.pb_json.specs.Answers.{RefusedAs}
use Rattle.pb_json.specs.declared.error.JsonError.{JsonError}
use Rattle.pb_json.specs.declared.error.JsonError.TheVariants as json_error
use Rattle.pbtool_files.specs.Answer.{Answer, stopped, broken, done}
use Rattle.pbtool_command.specs.Answers.{FramesAt, RefusedFrameAt, FramesBegunAt, AnyFrames, AnyRefusal}
use Rattle.pbtool_command.specs.FramesAnswer.{AreFrameLines, FramesAnswer, are_json}
use Rattle.pbtool_files.specs.Refusal.{ByRefusal}
use Rattle.pb_listing.specs.Putting.{PutsSome}
use Rattle.pb_output.specs.Sink.{Puts}
use Rattle.pbtool_files.specs.Known.{OfInput}
use Rattle.pb_output.specs.declared.sink.Sink.{Sink}
use Rattle.pbtool_command.specs.declared.shown.Shown.{Shown}
use Rattle.pbtool_command.specs.declared.frames.Next.{Next}
use Rattle.pbtool_command.specs.declared.frames.Next.TheVariants.{Put, End, Refused}
use Rattle.pbtool_files.specs.declared.report.Refusal.{Refusal}
use Rattle.pbtool_files.specs.declared.report.Refusal.TheVariants as refusal

-- why the frame of an index is refused
abbrev pub IsToldOfFrame : ℕ → Bor (List ℕ) → DecodeError → Refusal → Type 0
IsToldOfFrame index path (decode.Fault byte steps cause) e = e ≡ refusal.Frame index byte steps cause
IsToldOfFrame index path decode.Device e = e ≡ refusal.Device path
IsToldOfFrame index path decode.Memory e = e ≡ refusal.Memory
IsToldOfFrame index path decode.Finished e = e ≡ refusal.Memory

-- why it is refused where its message is not written as JSON
abbrev pub IsToldOfFormless : ℕ → JsonError → Refusal → Type 0
IsToldOfFormless index (json_error.Refused x) e = e ≡ refusal.FrameJson index x.path x.cause
IsToldOfFormless index json_error.Memory e = e ≡ refusal.Memory
IsToldOfFormless index json_error.Output e = e ≡ refusal.Memory

-- it is to be printed as JSON, and a part of its message has no JSON form, or there was no memory for it
abbrev pub IsFormless : Shown → ℕ → Dynamic → Refusal → Type 0
IsFormless form index m e = (are_json form ≡ true) × ((error : JsonError) × RefusedAs m error × IsToldOfFormless index error e)

-- ONE FRAME MORE

-- a frame of m was read, and the reader goes on
pub record ReadsFrame {I : Type 0} (left : I → Option (List ℕ)) (is_steady : I → Bool) (old new : Stream I) (m : Message) : Type 0 where
  pub same : (new.pool ≡ old.pool) × (new.kind ≡ old.kind) × (new.limits ≡ old.limits)
  pub goes_on : new.finished ≡ false
  pub steady : is_steady old.input ≡ true → is_steady new.input ≡ true
  pub well : IsWellFormed old.pool old.kind m
  pub frame : IfSome (left old.input) (λ rest. IsSomeAnd (left new.input) (Frame old.pool old.kind old.limits rest m))
  pub counted : Counts old.taken new.taken (left old.input) (left new.input)

-- what follows is refused: it is no frame, or memory ran out, or the input failed, which a steady one does not
pub record RefusesFrame {I : Type 0} (left : I → Option (List ℕ)) (is_steady : I → Bool) (old : Stream I) (error : DecodeError) : Type 0 where
  pub why : IfRefused error (λ f. IfSome (left old.input) (λ rest. FrameFault old.pool old.kind old.limits rest f))
  pub failed : is_steady old.input ≡ true → error ≢ decode.Device

-- what reading the next frame answers: a message of it, or nothing where nothing is left, or why what is left is refused
abbrev pub ReadsNext :
    {I : Type 0} (left : I → Option (List ℕ)) (is_steady : I → Bool) (old new : Stream I) → Result (Option Dynamic) DecodeError → Type 0
ReadsNext left is_steady old new (Ok None) = TakesNone (left old.input) (left new.input)
ReadsNext left is_steady old new (Ok (Some m)) = (m.pool ≡ old.pool) × (m.kind ≡ old.kind) × ReadsFrame left is_steady old new m.body
ReadsNext left is_steady old new (Err e) = RefusesFrame left is_steady old e

-- the bytes are the lines of the frame that a reader read
abbrev pub AreReadLines : {I : Type 0} → Shown → ℕ → Stream I → Stream I → Message → List ℕ → Type 0
AreReadLines form index old new m s = AreFrameLines form old.pool old.kind index old.taken (new.taken - old.taken) m s

-- the frame that was read is refused, since its message has no JSON form
abbrev pub RefusesRead :
    {I : Type 0} (left : I → Option (List ℕ)) (is_steady : I → Bool) (form : Shown) (index : ℕ) (old new : Stream I) (e : Refusal) → Type 0
RefusesRead left is_steady form index old new e =
    (m : Message) × ReadsFrame left is_steady old new m × IsFormless form index (record { pool = old.pool; kind = old.kind; body = m }) e

-- what follows is refused, for this
abbrev pub RefusesNext :
    {I : Type 0} (left : I → Option (List ℕ)) (is_steady : I → Bool) (old : Stream I) (index : ℕ) (path : Bor (List ℕ)) (e : Refusal) → Type 0
RefusesNext left is_steady old index path e = (error : DecodeError) × RefusesFrame left is_steady old error × IsToldOfFrame index path error e

-- the lines of the next frame were put; or nothing is left, or what is left is refused
abbrev pub PutsNext :
    {D I : Type 0} (written : D → Option (List ℕ)) (failures : D → ℕ) (left : I → Option (List ℕ)) (is_steady : I → Bool) (old new : D) (a b : Sink)
    (before after : Stream I) (form : Shown) (index : ℕ) (path : Bor (List ℕ)) → Next → Type 0
PutsNext written failures left is_steady old new a b before after form index path Put =
    (m : Message) × ReadsFrame left is_steady before after m × PutsSome written failures old new a b (AreReadLines form index before after m)
PutsNext written failures left is_steady old new a b before after form index path End =
    TakesNone (left before.input) (left after.input) × Puts written failures old new a b []
PutsNext written failures left is_steady old new a b before after form index path (Refused e) =
    (RefusesNext left is_steady before index path e ⊎ RefusesRead left is_steady form index before after e) × Puts written failures old new a b []

-- ALL OF THEM

module _ {I : Type 0} (left : I → Option (List ℕ)) (is_steady : I → Bool) (input : I) where
  -- what comes of the frames of an input
  abbrev pub FramesIn : Shown → List ℕ → Types → ℕ → Answer → Type 0
  FramesIn form path =
      FramesAnswer (λ pool m text. AnyFrames form pool m text × OfInput left is_steady input (λ content. FramesAt content form pool m text))
      (λ pool m count text r. AnyRefusal form pool m count text r × OfInput left is_steady input (λ content. RefusedFrameAt content form pool m count text r))
      (λ pool m text. AnyFrames form pool m text × OfInput left is_steady input (λ content. ⊥)) path

  -- what is printed of them before that is known
  abbrev pub FramesBegunIn : Shown → Types → ℕ → List ℕ → Type 0
  FramesBegunIn form pool m text = AnyFrames form pool m text × OfInput left is_steady input (λ content. FramesBegunAt content form pool m text)

  -- the lines of frames were put, up to the end or to why what follows is refused, or up to where the output had failed
  abbrev pub PutsFrames :
      {D : Type 0} (written : D → Option (List ℕ)) (failures : D → ℕ) (old new : D) (a b : Sink) (form : Shown) (path : List ℕ) (pool : Types) (m : ℕ)
      → Option Refusal → Type 0
  PutsFrames written failures old new a b form path pool m None =
      (text : List ℕ) × Puts written failures old new a b text
      × (FramesIn form path pool m (done text) ⊎ ((b.failed ≡ true) × FramesBegunIn form pool m text))
  PutsFrames written failures old new a b form path pool m (Some e) =
      (text : List ℕ) × Puts written failures old new a b text
      × ByRefusal (λ line. FramesIn form path pool m (stopped text line)) (λ device. FramesIn form path pool m (broken text device)) (FramesBegunIn form pool m text) e
