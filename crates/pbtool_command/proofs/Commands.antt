-- What `frames` comes to, from what its steps leave.
use Rattle.std.proofs.Common.{◌≡◌, ◌≢◌, ◌+◌, ℕ, List, [], Bool, true, false, Option, None, Some, refl, inl, inr}
use Rattle.std.specs.Prelude.{Result, Ok, Err}
use Rattle.pb_wire.specs.Limits.{full}
use Rattle.pb_wire.specs.declared.device.DeviceFault.{DeviceFault}
use Rattle.pb_schema.specs.Types.{Types}
use Rattle.pbtool_files.specs.Answer.{Answer, done, stopped, broken, IsPrinted}
use Rattle.pbtool_command.specs.Answers.{FramesAt, RefusedFrameAt, FramesBegunAt}
use Rattle.pbtool_files.specs.FileMap.{FileMap, IsOpened, KeepsMap}
use Rattle.pbtool_files.specs.Report.{output_name}
use Rattle.pb_output.specs.Sending.{Cut, Sent}
use Rattle.pb_output.specs.Sink.{Finishes, Puts}
use Rattle.pbtool_files.specs.Known.{IsReadOf, OfFiles, OfInput}
use Rattle.pbtool_command.specs.Steps.{Comes, FailsAt, NoFile, StreamAt, StreamBegun, StreamBegunAt, StreamOf}
use Rattle.pbtool_command.specs.Streaming.{FramesBegunIn, FramesIn, PutsFrames}
use Rattle.pbtool_files.specs.SetFile.{HasType}
use Rattle.pbtool_command.specs.TypeAnswer.{missing, opened}
use Rattle.pb_output.specs.declared.sink.Sink.{Sink}
use Rattle.pbtool_command.specs.declared.shown.Shown.{Shown}
use Rattle.pbtool_command.specs.declared.command.FrameForm.{FrameForm}
use Rattle.pbtool_command.specs.declared.command.Source.{Source}
use Rattle.pbtool_command.specs.SetNames.{IsShownAs}
use Rattle.pbtool_files.specs.declared.report.Refusal.{Refusal}
use Rattle.pbtool_files.proofs.RefusalLemmas.{by_refusal_any, by_refusal_map}
use Rattle.pbtool_files.proofs.KnownLemmas.{of_later, opened_of}
use Rattle.pbtool_command.proofs.Honest.{frames_map}
use Rattle.pb_output.proofs.SinkLemmas.{finished}

-- THE LINES GO OUT

module _
    {D I : Type 0} (written : D → Option (List ℕ)) (failures : D → ℕ) (left : I → Option (List ℕ)) (is_steady : I → Bool) (input : I) (form : Shown)
    (path : List ℕ) (pool : Types) (m : ℕ) where
  abbrev StreamComes : D → D → Result Unit Refusal → Type 0
  StreamComes start end r =
      Comes (Sent written failures start end) (Cut written failures start end) NoFile (λ _. ⊥) (FramesIn left is_steady input form path pool m)
      (FramesBegunIn left is_steady input form pool m) r

  abbrev StreamFails : D → D → List ℕ → Type 0
  StreamFails start end path_told =
      FailsAt (Sent written failures start end) (Cut written failures start end) NoFile (λ _. ⊥) (FramesIn left is_steady input form path pool m)
      (FramesBegunIn left is_steady input form pool m) path_told

  -- a text is put that is printed
  frames_put :
      {start mid : D} {a b : Sink} (stop : Option Refusal) → PutsFrames left is_steady input written failures start mid a b form path pool m stop
      → (text : List ℕ) × Puts written failures start mid a b text
      × IsPrinted (FramesIn left is_steady input form path pool m) (FramesBegunIn left is_steady input form pool m) text
  frames_put None (text, put, inl right) = (text, put, inl (done text, right, refl))
  frames_put None (text, put, inr begun) = (text, put, inr begun.1)
  frames_put (Some e) h = (
    h.0,
    h.1,
    by_refusal_any _ _ _ _ e (λ line right. inl (stopped h.0 line, right, refl)) (λ device right. inl (broken h.0 device, right, refl)) (λ begun. inr begun) h.2,
  )

  -- the output failed
  pub stream_cut :
      {start mid end : D} {a b : Sink} (e : DeviceFault) (stop : Option Refusal) (output : List ℕ) → output ≡ output_name
      → a ≡ record { held = []; sent = 0; failed = false } → PutsFrames left is_steady input written failures start mid a b form path pool m stop
      → Finishes written failures mid end b (Err e) → StreamFails start end output
  stream_cut e stop output named new h ends = let p = frames_put stop h in inr (inl (p.0, named, p.2, finished new p.1 ends, refl))

  pub stream_unsent :
      {start mid end : D} {a b : Sink} (e : DeviceFault) (stop : Option Refusal)
      → a ≡ record { held = []; sent = 0; failed = false } → PutsFrames left is_steady input written failures start mid a b form path pool m stop
      → Finishes written failures mid end b (Err e) → failures end ≢ failures start
  stream_unsent e stop new h ends = (finished new (frames_put stop h).1 ends).0

  -- all lines went out
  pub stream_ended :
      {start mid end : D} {a b : Sink} → a ≡ record { held = []; sent = 0; failed = false }
      → PutsFrames left is_steady input written failures start mid a b form path pool m None → Finishes written failures mid end b (Ok tt) → StreamComes start end (Ok tt)
  stream_ended new (text, put, inl right) ends = (done text, right, refl, refl, finished new put ends, refl)
  stream_ended new (text, put, inr (failed, begun)) ends = let well = ends.well in absurd (cc)

  -- those before a refusal went out
  pub stream_stopped :
      {start mid end : D} {a b : Sink} (e : Refusal) → a ≡ record { held = []; sent = 0; failed = false }
      → PutsFrames left is_steady input written failures start mid a b form path pool m (Some e) → Finishes written failures mid end b (Ok tt) → StreamComes start end (Err e)
  stream_stopped {start} {mid} {end} e new h ends =
      let sent : Sent written failures start end h.0 = finished new h.1 ends in
      by_refusal_map (λ line. FramesIn left is_steady input form path pool m (stopped h.0 line))
      (λ line. (text : List ℕ) × FramesIn left is_steady input form path pool m (stopped text line) × Sent written failures start end text × NoFile None)
      (λ device. FramesIn left is_steady input form path pool m (broken h.0 device)) (StreamFails start end) (FramesBegunIn left is_steady input form pool m h.0)
      ((text : List ℕ) × FramesBegunIn left is_steady input form pool m text × Sent written failures start end text × NoFile None) e
      (λ line right. (h.0, right, sent, refl)) (λ device right. inl (h.0, right, sent, refl)) (λ begun. (h.0, begun, sent, refl)) h.2

-- FROM AN INPUT TO ITS FILE

module _
    {F I : Type 0} (contents : F → Option FileMap) (is_steady : F → Bool) (files : F) (left : I → Option (List ℕ)) (stays : I → Bool) (input : I)
    (form : Shown) (path : List ℕ) (pool : Types) (m : ℕ)
    (is_opened : OfFiles contents is_steady files path (λ content. IsOpened left content (Some input) × (stays input ≡ true))) where
  -- what holds of the input's bytes holds of the file's
  of_input : (P : Option (List ℕ) → Type 0) → OfInput left stays input P → OfFiles contents is_steady files path P
  of_input P of = opened_of contents is_steady files path left stays input P is_opened of

  pub stream_right : (a : Answer) → FramesIn left stays input form path pool m a → StreamAt contents is_steady files form pool m path a
  stream_right a h =
      inr
      (frames_map _ _ _ _ _ _ path pool m a (λ text k. (k.0, of_input (λ content. FramesAt content form pool m text) k.1))
      (λ count text r k. (k.0, of_input (λ content. RefusedFrameAt content form pool m count text r) k.1)) (λ text k. (k.0, of_input (λ content. ⊥) k.1)) h)

  pub stream_begun : (text : List ℕ) → FramesBegunIn left stays input form pool m text → StreamBegunAt contents is_steady files form pool m path text
  stream_begun text h = inr (h.0, of_input (λ content. FramesBegunAt content form pool m text) h.1)

-- FROM THE FILE TO THE SET THAT HAS ITS TYPE

module _
    {F : Type 0} (contents : F → Option FileMap) (is_steady : F → Bool) (old mid : F) (asked : FrameForm) (form : Shown) (s : Source) (set : List ℕ) (pool : Types) (m : ℕ)
    (shows : IsShownAs (IsReadOf contents is_steady old (full.bytes + 1) s.set.now) s pool m asked form)
    (is_read : IsReadOf contents is_steady old (full.bytes + 1) s.set.now (Some set)) (has : HasType s.reading s.type_name.now set pool m)
    (kept : KeepsMap (contents old) (contents mid)) (steady : is_steady old ≡ true → is_steady mid ≡ true) where
  earlier : (P : Option (List ℕ) → Type 0) → OfFiles contents is_steady mid s.file.now P → OfFiles contents is_steady old s.file.now P
  earlier P of = of_later s.file.now P kept steady of

  pub stream_of : (a : Answer) → StreamAt contents is_steady mid form pool m s.file.now a → StreamOf contents is_steady old asked s a
  stream_of a (inl h) = missing is_read has (earlier (λ content. content ≡ None) h.0) h.1
  stream_of a (inr h) =
      opened is_read has (
        form,
        shows,
        frames_map _ _ _ _ _ _ s.file.now pool m a (λ text k. (k.0, earlier (λ content. FramesAt content form pool m text) k.1))
            (λ count text r k. (k.0, earlier (λ content. RefusedFrameAt content form pool m count text r) k.1)) (λ text k. (k.0, earlier (λ content. ⊥) k.1)) h,
      )

  pub stream_begun_of : (text : List ℕ) → StreamBegunAt contents is_steady mid form pool m s.file.now text → StreamBegun contents is_steady old asked s text
  stream_begun_of text (inl nothing) = inl nothing
  stream_begun_of text (inr h) = inr (set, pool, m, is_read, has, (form, shows, h.0, earlier (λ content. FramesBegunAt content form pool m text) h.1))
