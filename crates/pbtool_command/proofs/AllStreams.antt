-- What `frames --keep-going` comes to, from what its steps leave.
use Rattle.std.proofs.Common.{◌≡◌, ◌≢◌, ◌+◌, ℕ, List, [], Bool, true, false, Option, None, Some, refl, inl, inr}
use Rattle.std.specs.Prelude.{Result, Ok, Err}
use Rattle.pb_wire.specs.Limits.{full}
use Rattle.pb_wire.specs.declared.device.DeviceFault.{DeviceFault}
use Rattle.pb_schema.specs.Types.{Types}
use Rattle.pbtool_files.specs.Answer.{Answer, done, stopped, broken, IsPrinted}
use Rattle.pbtool_files.specs.FileMap.{FileMap, IsOpened, KeepsMap}
use Rattle.pbtool_files.specs.Report.{output_name}
use Rattle.pb_output.specs.Sending.{Cut, Sent}
use Rattle.pb_output.specs.Sink.{Finishes, Puts}
use Rattle.pbtool_files.specs.Known.{IsReadOf, OfFiles, OfInput}
use Rattle.pbtool_command.specs.AllFrames.{AllAt, AllBegunBy, AllFramesBy, BegunAt, CutAt, all_passed, cut_after, failed_after}
use Rattle.pbtool_command.specs.PassingOn.{PutsAnswer}
use Rattle.pbtool_command.specs.Steps.{AllBegunAtPath, AllBegunOf, AllFramesAtPath, AllFramesOf, Comes, FailsAt, NoFile}
use Rattle.pbtool_files.specs.SetFile.{HasType}
use Rattle.pbtool_command.specs.TypeAnswer.{missing, opened}
use Rattle.pb_output.specs.declared.sink.Sink.{Sink}
use Rattle.pbtool_command.specs.declared.shown.Shown.{Shown}
use Rattle.pbtool_command.specs.declared.command.FrameForm.{FrameForm}
use Rattle.pbtool_command.specs.declared.command.Source.{Source}
use Rattle.pbtool_command.specs.SetNames.{IsShownAs}
use Rattle.pbtool_files.specs.declared.report.Refusal.{Refusal}
use Rattle.pbtool_files.proofs.RefusalLemmas.{by_refusal_any, by_refusal_map}
use Rattle.pbtool_files.proofs.KnownLemmas.{of_later, opened_of}
use Rattle.pb_output.proofs.SinkLemmas.{finished}

-- THE LINES GO OUT

module _ {D : Type 0} (written : D → Option (List ℕ)) (failures : D → ℕ) (P : Answer → Type 0) (B : List ℕ → Type 0) where
  abbrev AnswerComes : D → D → Result Unit Refusal → Type 0
  AnswerComes start end r = Comes (Sent written failures start end) (Cut written failures start end) NoFile (λ _. ⊥) P B r

  abbrev AnswerFails : D → D → List ℕ → Type 0
  AnswerFails start end device = FailsAt (Sent written failures start end) (Cut written failures start end) NoFile (λ _. ⊥) P B device

  -- a text is put that is printed
  answer_put :
      {start mid : D} {a b : Sink} (r : Result Unit Refusal) → PutsAnswer written failures start mid a b P B r
      → (text : List ℕ) × Puts written failures start mid a b text × IsPrinted P B text
  answer_put (Ok u) (text, put, inl right) = (text, put, inl (done text, right, refl))
  answer_put (Ok u) (text, put, inr begun) = (text, put, inr begun.1)
  answer_put (Err e) h = (
    h.0,
    h.1,
    by_refusal_any _ _ _ _ e (λ line right. inl (stopped h.0 line, right, refl)) (λ device right. inl (broken h.0 device, right, refl)) (λ begun. inr begun) h.2,
  )

  -- the output failed
  pub answer_cut :
      {start mid end : D} {a b : Sink} (e : DeviceFault) (r : Result Unit Refusal) (output : List ℕ) → output ≡ output_name
      → a ≡ record { held = []; sent = 0; failed = false } → PutsAnswer written failures start mid a b P B r → Finishes written failures mid end b (Err e)
      → AnswerFails start end output
  answer_cut e r output named new h ends = let p = answer_put r h in inr (inl (p.0, named, p.2, finished new p.1 ends, refl))

  pub answer_unsent :
      {start mid end : D} {a b : Sink} (e : DeviceFault) (r : Result Unit Refusal)
      → a ≡ record { held = []; sent = 0; failed = false } → PutsAnswer written failures start mid a b P B r → Finishes written failures mid end b (Err e)
      → failures end ≢ failures start
  answer_unsent e r new h ends = (finished new (answer_put r h).1 ends).0

  -- all lines went out
  pub answer_sent :
      (start mid end : D) {a b : Sink} (r : Result Unit Refusal) → a ≡ record { held = []; sent = 0; failed = false }
      → PutsAnswer written failures start mid a b P B r → Finishes written failures mid end b (Ok tt) → AnswerComes start end r
  answer_sent start mid end (Ok u) new (text, put, inl right) ends = (done text, right, refl, refl, finished new put ends, refl)
  answer_sent start mid end (Ok u) new (text, put, inr (failed, begun)) ends = let well = ends.well in absurd (cc)
  answer_sent start mid end (Err e) new h ends =
      let sent : Sent written failures start end h.0 = finished new h.1 ends in
      by_refusal_map (λ line. P (stopped h.0 line)) (λ line. (text : List ℕ) × P (stopped text line) × Sent written failures start end text × NoFile None)
      (λ device. P (broken h.0 device)) (AnswerFails start end) (B h.0) ((text : List ℕ) × B text × Sent written failures start end text × NoFile None) e
      (λ line right. (h.0, right, sent, refl)) (λ device right. inl (h.0, right, sent, refl)) (λ begun. (h.0, begun, sent, refl)) h.2

-- WHAT IS KNOWN OF AN INPUT IS KNOWN OF ITS FILE

module _
    (K K' : (Option (List ℕ) → Type 0) → Type 0) (more : (P : Option (List ℕ) → Type 0) → K P → K' P) (form : Shown) (pool : Types) (m : ℕ) where
  pub all_by : (path : List ℕ) (a : Answer) → AllFramesBy K form path pool m a → AllFramesBy K' form path pool m a
  all_by path a (all_passed {s} h e) = all_passed (h.0, more (λ content. AllAt content form pool m s) h.1) e
  all_by path a (cut_after {s} {f} h e) = cut_after (h.0, more (λ content. CutAt content form pool m s f) h.1) e
  all_by path a (failed_after {s} h e) = failed_after (h.0, more (λ content. ⊥) h.1) e

  pub begun_by : (text : List ℕ) → AllBegunBy K form pool m text → AllBegunBy K' form pool m text
  begun_by text h = (h.0, h.1, h.2, more (λ content. BegunAt content form pool m h.0) h.3)

module _
    {F I : Type 0} (contents : F → Option FileMap) (is_steady : F → Bool) (files : F) (left : I → Option (List ℕ)) (stays : I → Bool) (input : I)
    (form : Shown) (path : List ℕ) (pool : Types) (m : ℕ)
    (is_opened : OfFiles contents is_steady files path (λ content. IsOpened left content (Some input) × (stays input ≡ true))) where
  -- what holds of the input's bytes holds of the file's
  of_input : (P : Option (List ℕ) → Type 0) → OfInput left stays input P → OfFiles contents is_steady files path P
  of_input P of = opened_of contents is_steady files path left stays input P is_opened of

  pub all_right :
      (a : Answer) → AllFramesBy (OfInput left stays input) form path pool m a → AllFramesAtPath contents is_steady files form pool m path a
  all_right a h = inr (all_by (OfInput left stays input) (OfFiles contents is_steady files path) of_input form pool m path a h)

  pub all_begun : (text : List ℕ) → AllBegunBy (OfInput left stays input) form pool m text → AllBegunAtPath contents is_steady files form pool m path text
  all_begun text h = inr (begun_by (OfInput left stays input) (OfFiles contents is_steady files path) of_input form pool m text h)

-- FROM THE FILE TO THE SET THAT HAS ITS TYPE

module _
    {F : Type 0} (contents : F → Option FileMap) (is_steady : F → Bool) (old mid : F) (asked : FrameForm) (form : Shown) (s : Source) (set : List ℕ) (pool : Types) (m : ℕ)
    (shows : IsShownAs (IsReadOf contents is_steady old (full.bytes + 1) s.set.now) s pool m asked form)
    (is_read : IsReadOf contents is_steady old (full.bytes + 1) s.set.now (Some set)) (has : HasType s.reading s.type_name.now set pool m)
    (kept : KeepsMap (contents old) (contents mid)) (steady : is_steady old ≡ true → is_steady mid ≡ true) where
  earlier : (P : Option (List ℕ) → Type 0) → OfFiles contents is_steady mid s.file.now P → OfFiles contents is_steady old s.file.now P
  earlier P of = of_later s.file.now P kept steady of

  pub all_of : (a : Answer) → AllFramesAtPath contents is_steady mid form pool m s.file.now a → AllFramesOf contents is_steady old asked s a
  all_of a (inl h) = missing is_read has (earlier (λ content. content ≡ None) h.0) h.1
  all_of a (inr h) =
      opened is_read has
      (form, shows, all_by (OfFiles contents is_steady mid s.file.now) (OfFiles contents is_steady old s.file.now) earlier form pool m s.file.now a h)

  pub all_begun_of : (text : List ℕ) → AllBegunAtPath contents is_steady mid form pool m s.file.now text → AllBegunOf contents is_steady old asked s text
  all_begun_of text (inl nothing) = inl nothing
  all_begun_of text (inr h) =
      inr (
        set,
        pool,
        m,
        is_read,
        has,
        (form, shows, begun_by (OfFiles contents is_steady mid s.file.now) (OfFiles contents is_steady old s.file.now) earlier form pool m text h),
      )
