-- Right answers of a command: over honest files those of their bytes, and over any files of the form of one.
use Rattle.std.proofs.Common.{◌≡◌, ◌+◌, ℕ, List, Bool, Option, None, refl, sym, inl, inr, subst}
use Rattle.std.specs.Prelude.{option_map}
use Rattle.pb_wire.specs.Fault.{Fault}
use Rattle.pb_wire.specs.Limits.{full}
use Rattle.pb_schema.specs.Types.{Types}
use Rattle.pb_value.specs.Data.{Message}
use Rattle.pbtool_files.specs.Answer.{Answer}
use Rattle.pbtool_command.specs.Answers.{Answers, AnyAnswers, AnyBegins, Begins, canonical_form}
use Rattle.pbtool_files.specs.FileMap.{FileMap, IsHonest}
use Rattle.pbtool_command.specs.AllFrames.{AllFramesAnswer, Passed, all_passed, cut_after, failed_after}
use Rattle.pbtool_command.specs.FramesAnswer.{FrameRefusal, FramesAnswer, ended, frame_refused, input_failed}
use Rattle.pbtool_command.specs.MessageAnswer.{MessageAnswer, faulty, read}
use Rattle.pbtool_command.specs.RawAnswer.{RawAnswer}
use Rattle.pbtool_files.specs.Known.{IsReadOf, OfFiles}
use Rattle.pbtool_command.specs.Steps.{BegunOf, IsAt, RightOf}
use Rattle.pbtool_files.specs.SetFile.{NoPool, NoType}
use Rattle.pbtool_files.specs.declared.set_file.Reading.{Reading}
use Rattle.pbtool_command.specs.TypesAnswer.{TypesAnswer, no_types, shown}
use Rattle.pbtool_command.specs.TypeAnswer.{TypeAnswer, no_type, missing, opened}
use Rattle.pbtool_command.specs.declared.command.Command.{Command}
use Rattle.pbtool_command.specs.declared.command.Command.TheVariants.{Raw, Check, Show, Canon, Json, Frames, AllFrames, Compile}
use Rattle.pbtool_command.specs.declared.command.Command.TheVariants.{Compat, FromJson}
use Rattle.pbtool_command.specs.declared.command.Command.TheVariants as command
use Rattle.pbtool_command.proofs.CompatSteps.{compat_any, compat_of_map}
use Rattle.pbtool_command.specs.declared.form.Form.{Form}
use Rattle.pbtool_command.specs.declared.form.Form.TheVariants as form
use Rattle.pbtool_command.proofs.FromJsonSteps.{json_any, json_whole}
use Rattle.pbtool_command.proofs.Judged.{answer_whole}
use Rattle.pbtool_command.proofs.NameSteps.{names_any, shown_map}
use Rattle.pbtool_command.specs.SetNames.{GivesNames}
use Rattle.pbtool_command.specs.declared.command.Source.{Source}
use Rattle.pb_json.specs.Given.{NamesGiven}
use Rattle.pbtool_command.proofs.SetWhole.{named_at, no_pool_whole, no_type_whole, pool_at, type_at}
use Rattle.pbtool_command.proofs.SourceSteps.{compile_of_any, compile_of_map}
use Rattle.pbtool_command.specs.CompileAnswer.{places_of, texts_of}

pub message_map :
    (H H' : Types → ℕ → Fault → Type 0) (T T' : Types → ℕ → Message → Type 0) (form : Form) (pool : Types) (m : ℕ) (a : Answer)
    → ((f : Fault) → H pool m f → H' pool m f) → ((v : Message) → T pool m v → T' pool m v) → MessageAnswer H T form pool m a → MessageAnswer H' T' form pool m a
message_map H H' T T' form pool m a fault text (faulty {f} h e) = faulty (fault f h) e
message_map H H' T T' form pool m a fault text (read {v} h e) = read (text v h) e

pub frames_map :
    (A A' : Types → ℕ → List ℕ → Type 0) (S S' : Types → ℕ → ℕ → List ℕ → FrameRefusal → Type 0) (B B' : Types → ℕ → List ℕ → Type 0) (path : List ℕ)
    (pool : Types) (m : ℕ) (a : Answer) → ((text : List ℕ) → A pool m text → A' pool m text)
    → ((count : ℕ) (text : List ℕ) (r : FrameRefusal) → S pool m count text r → S' pool m count text r) → ((text : List ℕ) → B pool m text → B' pool m text)
    → FramesAnswer A S B path pool m a → FramesAnswer A' S' B' path pool m a
frames_map A A' S S' B B' path pool m a all stops breaks (ended {text} h e) = ended (all text h) e
frames_map A A' S S' B B' path pool m a all stops breaks (frame_refused {count} {text} {r} h e) = frame_refused (stops count text r h) e
frames_map A A' S S' B B' path pool m a all stops breaks (input_failed {text} h e) = input_failed (breaks text h) e

pub all_map :
    (A A' : Types → ℕ → Passed → Type 0) (S S' : Types → ℕ → Passed → Fault → Type 0) (B B' : Types → ℕ → Passed → Type 0) (path : List ℕ) (pool : Types)
    (m : ℕ) (a : Answer) → ((s : Passed) → A pool m s → A' pool m s) → ((s : Passed) (f : Fault) → S pool m s f → S' pool m s f)
    → ((s : Passed) → B pool m s → B' pool m s) → AllFramesAnswer A S B path pool m a → AllFramesAnswer A' S' B' path pool m a
all_map A A' S S' B B' path pool m a all stops breaks (all_passed {s} h e) = all_passed (all s h) e
all_map A A' S S' B B' path pool m a all stops breaks (cut_after {s} {f} h e) = cut_after (stops s f h) e
all_map A A' S S' B B' path pool m a all stops breaks (failed_after {s} h e) = failed_after (breaks s h) e

type_any :
    (A : Option (List ℕ) → Type 0) (M : Type 0) (C C' : Types → ℕ → Answer → Type 0) (reading : Reading) (name set_path path : List ℕ) (a : Answer)
    → ((pool : Types) (m : ℕ) → C pool m a → C' pool m a) → TypeAnswer A M C reading name set_path path a
    → TypeAnswer (λ o. Unit {0}) (Unit {0}) C' reading name set_path path a
type_any A M C C' reading name set_path path a more (no_type is absent) = no_type tt absent
type_any A M C C' reading name set_path path a more (missing {pool = pool} {m = m} is has absent e) = missing tt has tt e
type_any A M C C' reading name set_path path a more (opened {pool = pool} {m = m} is has comes) = opened tt has (more pool m comes)

types_any :
    (A : Option (List ℕ) → Type 0) (reading : Reading) (path : List ℕ) (name : Option (List ℕ)) (a : Answer) → TypesAnswer A reading path name a
    → TypesAnswer (λ o. Unit {0}) reading path name a
types_any A reading path name a (no_types is absent) = no_types tt absent
types_any A reading path name a (shown is has shows) = shown tt has shows

module _ {F : Type 0} (contents : F → Option FileMap) (is_steady : F → Bool) (files : F) where
  module _ (map : FileMap) (honest : IsHonest contents is_steady files map) where
    type_of_map :
        (C C' : Types → ℕ → Answer → Type 0) (reading : Reading) (name set_path path : List ℕ) (a : Answer)
        → ((pool : Types) (m : ℕ) → C pool m a → C' pool m a)
        → TypeAnswer (IsReadOf contents is_steady files (full.bytes + 1) set_path) (OfFiles contents is_steady files path (λ o. o ≡ None)) C reading name set_path path a
        → TypeAnswer (λ o. o ≡ map set_path) (map path ≡ None) C' reading name set_path path a
    type_of_map C C' reading name set_path path a more (no_type {content} is absent) =
        no_type {content = map set_path} refl
        (no_type_whole reading name set_path (map set_path) a (subst (λ (o : Option (List ℕ)). NoType reading name set_path o a) (is map honest) absent))
    type_of_map C C' reading name set_path path a more (missing {set} {pool} {m} is has absent e) =
        let at = type_at reading name set pool m (map set_path) (is map honest) has in missing at.1 at.2 (absent map honest) e
    type_of_map C C' reading name set_path path a more (opened {set} {pool} {m} is has comes) =
        let at = type_at reading name set pool m (map set_path) (is map honest) has in opened at.1 at.2 (more pool m comes)

    -- the names of the first bytes of a set are those of the set
    names_of_map : (s : Source) (pool : Types) (m : ℕ) (names : NamesGiven)
        → GivesNames (IsReadOf contents is_steady files (full.bytes + 1) s.set.now) s pool m names → GivesNames (λ o. o ≡ map s.set.now) s pool m names
    names_of_map s pool m names (set, is, has, are) =
        let at = named_at s.reading s.type_name.now set pool m names (map s.set.now) (is map honest) has are in (at.0, at.1, at.2, at.3)

    types_of_map :
        (reading : Reading) (path : List ℕ) (name : Option (List ℕ)) (a : Answer)
        → TypesAnswer (IsReadOf contents is_steady files (full.bytes + 1) path) reading path name a → TypesAnswer (λ o. o ≡ map path) reading path name a
    types_of_map reading path name a (no_types {content} is absent) =
        no_types {content = map path} refl
        (no_pool_whole reading path (map path) a (subst (λ (o : Option (List ℕ)). NoPool reading path o a) (is map honest) absent))
    types_of_map reading path name a (shown {set} {pool} {omitted} is has shows) =
        let at = pool_at reading set pool omitted (map path) (is map honest) has in shown at.1 at.2 shows

    -- over honest files
    pub right_of_map : (command : Command) (a : Answer) → RightOf contents is_steady files command a → Answers map command a
    right_of_map (Raw form file) a h =
        answer_whole full form file.now (map file.now) a (subst (λ (o : Option (List ℕ)). RawAnswer full form file.now o a) (h.1 map honest) h.2)
    right_of_map (Check source) a h =
        type_of_map _ _ source.reading source.type_name.now source.set.now source.file.now a
        (λ pool m. message_map _ _ _ _ form.Check pool m a (λ f known. known map honest) (λ v known. known.1 map honest)) h
    right_of_map (Show floats source) a h =
        type_of_map _ _ source.reading source.type_name.now source.set.now source.file.now a
        (λ pool m. message_map _ _ _ _ (form.Listing floats) pool m a (λ f known. known map honest) (λ v known. known.1 map honest)) h
    right_of_map (Canon to source) a h =
        type_of_map _ _ source.reading source.type_name.now source.set.now source.file.now a
        (λ pool m. message_map _ _ _ _ (canonical_form to) pool m a (λ f known. known map honest) (λ v known. known.1 map honest)) h
    right_of_map (Json layout source) a h =
        type_of_map _ _ source.reading source.type_name.now source.set.now source.file.now a
        (λ pool m x. (
          x.0,
          names_of_map source pool m x.0.now x.1,
          message_map _ _ _ _ (form.Json layout x.0) pool m a (λ f known. known map honest) (λ v known. known.1 map honest) x.2,
        )) h
    right_of_map (command.Text text_form source) a h =
        type_of_map _ _ source.reading source.type_name.now source.set.now source.file.now a
        (λ pool m. message_map _ _ _ _ (form.Text text_form) pool m a (λ f known. known map honest) (λ v known. known.1 map honest)) h
    right_of_map (FromJson rules out source) a h =
        type_of_map _ _ source.reading source.type_name.now source.set.now source.file.now a
        (λ pool m x. (
          x.0,
          names_of_map source pool m x.0 x.1,
          json_whole rules x.0 out.now pool m (map source.file.now) a (λ b known. known map honest) x.2,
        )) h
    right_of_map (Frames form source) a h =
        type_of_map _ _ source.reading source.type_name.now source.set.now source.file.now a
        (λ pool m x. (
          x.0,
          shown_map (IsReadOf contents is_steady files (full.bytes + 1) source.set.now) (λ content. content ≡ map source.set.now) source pool m (names_of_map source pool m) form x.0 x.1,
          frames_map _ _ _ _ _ _ source.file.now pool m a (λ text known. known.1 map honest) (λ count text r known. known.1 map honest)
              (λ text known. known.1 map honest) x.2,
        )) h
    right_of_map (AllFrames form source) a h =
        type_of_map _ _ source.reading source.type_name.now source.set.now source.file.now a
        (λ pool m x. (
          x.0,
          shown_map (IsReadOf contents is_steady files (full.bytes + 1) source.set.now) (λ content. content ≡ map source.set.now) source pool m (names_of_map source pool m) form x.0 x.1,
          all_map _ _ _ _ _ _ source.file.now pool m a (λ s known. known.1 map honest) (λ s f known. known.1 map honest) (λ s known. known.1 map honest) x.2,
        )) h
    right_of_map (command.Types reading set name) a h = types_of_map reading set.now (option_map (λ n. n.now) name) a h
    right_of_map (Compile roots out names) a h = compile_of_map contents is_steady files (places_of roots) out.now (texts_of names.now) a map honest h
    right_of_map (Compat comparison) a h = compat_of_map contents is_steady files map honest comparison a h

    pub begun_of_map : (command : Command) (text : List ℕ) → BegunOf contents is_steady files command text → Begins map command text
    begun_of_map (Raw form file) text h = h
    begun_of_map (Check source) text h = h
    begun_of_map (Show floats source) text h = h
    begun_of_map (Canon to source) text h = h
    begun_of_map (Json layout source) text h = h
    begun_of_map (command.Text text_form source) text h = h
    begun_of_map (FromJson rules out source) text h = h
    begun_of_map (command.Types reading set name) text h = h
    begun_of_map (Compile roots out names) text h = h
    begun_of_map (Compat comparison) text h = h
    begun_of_map (Frames form source) text (inl nothing) = inl nothing
    begun_of_map (Frames form source) text (inr (set, pool, m, of_set, has, x)) =
        let at = type_at source.reading source.type_name.now set pool m (map source.set.now) (of_set map honest) has in
        let shows = shown_map (IsReadOf contents is_steady files (full.bytes + 1) source.set.now) (λ content. content ≡ map source.set.now) source pool m (names_of_map source pool m) form x.0 x.1 in
        inr (at.0, pool, m, sym at.1, at.2, (x.0, shows, x.3 map honest))
    begun_of_map (AllFrames form source) text (inl nothing) = inl nothing
    begun_of_map (AllFrames form source) text (inr (set, pool, m, of_set, has, x)) =
        let at = type_at source.reading source.type_name.now set pool m (map source.set.now) (of_set map honest) has in
        let shows = shown_map (IsReadOf contents is_steady files (full.bytes + 1) source.set.now) (λ content. content ≡ map source.set.now) source pool m (names_of_map source pool m) form x.0 x.1 in
        let begun = x.2 in
        inr (at.0, pool, m, sym at.1, at.2, (x.0, shows, (begun.0, begun.1, begun.3 map honest)))

  -- over any files
  pub right_of_any : (command : Command) (a : Answer) → RightOf contents is_steady files command a → AnyAnswers command a
  right_of_any (Raw form file) a h = (h.0, h.2)
  right_of_any (Check source) a h =
      type_any _ _ _ _ source.reading source.type_name.now source.set.now source.file.now a
      (λ pool m. message_map _ _ _ _ form.Check pool m a (λ f known. tt) (λ v known. known.0)) h
  right_of_any (Show floats source) a h =
      type_any _ _ _ _ source.reading source.type_name.now source.set.now source.file.now a
      (λ pool m. message_map _ _ _ _ (form.Listing floats) pool m a (λ f known. tt) (λ v known. known.0)) h
  right_of_any (Canon to source) a h =
      type_any _ _ _ _ source.reading source.type_name.now source.set.now source.file.now a
      (λ pool m. message_map _ _ _ _ (canonical_form to) pool m a (λ f known. tt) (λ v known. known.0)) h
  right_of_any (Json layout source) a h =
      type_any _ _ _ _ source.reading source.type_name.now source.set.now source.file.now a
      (λ pool m x. (
        x.0,
        names_any (IsReadOf contents is_steady files (full.bytes + 1) source.set.now) source pool m x.0.now x.1,
        message_map _ _ _ _ (form.Json layout x.0) pool m a (λ f known. tt) (λ v known. known.0) x.2,
      )) h
  right_of_any (command.Text text_form source) a h =
      type_any _ _ _ _ source.reading source.type_name.now source.set.now source.file.now a
      (λ pool m. message_map _ _ _ _ (form.Text text_form) pool m a (λ f known. tt) (λ v known. known.0)) h
  right_of_any (FromJson rules out source) a h =
      type_any _ _ _ _ source.reading source.type_name.now source.set.now source.file.now a
      (λ pool m x. (x.0, names_any (IsReadOf contents is_steady files (full.bytes + 1) source.set.now) source pool m x.0 x.1, json_any _ rules x.0 out.now pool m a x.2)) h
  right_of_any (Frames form source) a h =
      type_any _ _ _ _ source.reading source.type_name.now source.set.now source.file.now a
      (λ pool m x. (
        x.0,
        shown_map (IsReadOf contents is_steady files (full.bytes + 1) source.set.now) (λ content. Unit {0}) source pool m (names_any (IsReadOf contents is_steady files (full.bytes + 1) source.set.now) source pool m) form x.0 x.1,
        frames_map _ _ _ _ _ _ source.file.now pool m a (λ text known. known.0) (λ count text r known. known.0) (λ text known. known.0) x.2,
      )) h
  right_of_any (AllFrames form source) a h =
      type_any _ _ _ _ source.reading source.type_name.now source.set.now source.file.now a
      (λ pool m x. (
        x.0,
        shown_map (IsReadOf contents is_steady files (full.bytes + 1) source.set.now) (λ content. Unit {0}) source pool m (names_any (IsReadOf contents is_steady files (full.bytes + 1) source.set.now) source pool m) form x.0 x.1,
        all_map _ _ _ _ _ _ source.file.now pool m a (λ s known. known.0) (λ s f known. known.0) (λ s known. known.0) x.2,
      )) h
  right_of_any (command.Types reading set name) a h =
      types_any (IsReadOf contents is_steady files (full.bytes + 1) set.now) reading set.now (option_map (λ n. n.now) name) a h
  right_of_any (Compile roots out names) a h = compile_of_any contents is_steady files (places_of roots) out.now (texts_of names.now) a h
  right_of_any (Compat comparison) a h = compat_any (IsAt contents is_steady files) comparison a h

  pub begun_of_any : (command : Command) (text : List ℕ) → BegunOf contents is_steady files command text → AnyBegins command text
  begun_of_any (Raw form file) text h = h
  begun_of_any (Check source) text h = h
  begun_of_any (Show floats source) text h = h
  begun_of_any (Canon to source) text h = h
  begun_of_any (Json layout source) text h = h
  begun_of_any (command.Text text_form source) text h = h
  begun_of_any (FromJson rules out source) text h = h
  begun_of_any (command.Types reading set name) text h = h
  begun_of_any (Compile roots out names) text h = h
  begun_of_any (Compat comparison) text h = h
  begun_of_any (Frames form source) text (inl nothing) = inl nothing
  begun_of_any (Frames form source) text (inr (set, pool, m, of_set, has, x)) =
      inr (pool, m, x.0, shown_map (IsReadOf contents is_steady files (full.bytes + 1) source.set.now) (λ content. Unit {0}) source pool m (names_any (IsReadOf contents is_steady files (full.bytes + 1) source.set.now) source pool m) form x.0 x.1, x.2)
  begun_of_any (AllFrames form source) text (inl nothing) = inl nothing
  begun_of_any (AllFrames form source) text (inr (set, pool, m, of_set, has, x)) =
      let begun = x.2 in
      inr (pool, m, x.0, shown_map (IsReadOf contents is_steady files (full.bytes + 1) source.set.now) (λ content. Unit {0}) source pool m (names_any (IsReadOf contents is_steady files (full.bytes + 1) source.set.now) source pool m) form x.0 x.1, (begun.0, begun.1, begun.2))
