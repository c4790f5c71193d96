-- What the steps of a command leave.
use Rattle.std.specs.Prelude.{◌≡◌, ◌⊎◌, ◌+◌, ℕ, List, [], Bool, Option, None, Some, Result, Ok, Err, Vec, option_map}
use Rattle.std.specs.declared.alloc.Global.{Global}
use Rattle.pb_wire.specs.Schema.{blank}
use Rattle.pb_wire.specs.Exact.{IsSomeText}
use Rattle.pb_wire.specs.Fault.{Fault}
use Rattle.pb_wire.specs.Grammar.{HasFault}
use Rattle.pb_wire.specs.Limits.{Bounds, full}
use Rattle.pb_schema.specs.Context.{a_message, schema_of}
use Rattle.pb_schema.specs.Types.{Types}
use Rattle.pb_value.specs.Dynamic.{Dynamic}
use Rattle.pb_value.specs.WellFormed.{IsWellFormed}
use Rattle.pb_json.specs.Answers.{IsRefused, refused_view}
use Rattle.std.specs.Borrow.{Bor}
use Rattle.pb_json.specs.Given.{NamesGiven}
use Rattle.pb_json.specs.declared.error.JsonError.{JsonError}
use Rattle.pb_json.specs.declared.error.JsonError.TheVariants as json_error
use Rattle.pb_json.specs.declared.form.Layout.{Layout}
use Rattle.pb_json_read.specs.declared.rules.JsonRules.{JsonRules}
use Rattle.pb_declarations.specs.Decls.{DeclaredFile}
use Rattle.pbtool_files.specs.Answer.{Answer, stopped, broken, device_failed, refused, IsPrinted}
use Rattle.pbtool_command.specs.Answers.{FaultAt, TextAt, FramesAt, RefusedFrameAt, FramesBegunAt, AnyFrames, AnyRefusal, canonical_form}
use Rattle.pbtool_command.specs.AllFrames.{AllBegunBy, AllFramesBy}
use Rattle.pbtool_command.specs.CompatAnswer.{CompatAnswer}
use Rattle.pbtool_command.specs.CompileAnswer.{CompileAnswer, places_of, texts_of, told_of}
use Rattle.pbtool_files.specs.FileMap.{FileMap}
use Rattle.pbtool_command.specs.FramesAnswer.{FramesAnswer}
use Rattle.pbtool_command.specs.Gathering.{Gathered, GathersUnder, HasTroubleUnder, IsAbsentUnder, DeclaresUnder, Places, Origin, Outcome, Trouble, stopped_at}
use Rattle.pbtool_command.specs.FromJsonAnswer.{FromJsonAnswer}
use Rattle.pbtool_command.specs.MessageAnswer.{MessageAnswer}
use Rattle.pbtool_command.specs.RawAnswer.{RawAnswer}
use Rattle.pbtool_files.specs.Refusal.{ByRefusal, Refuses}
use Rattle.pbtool_files.specs.Report.{fault_line, output_name}
use Rattle.pb_output.specs.Sending.{Cut, Sent}
use Rattle.pbtool_command.specs.TypeAnswer.{TypeAnswer}
use Rattle.pbtool_command.specs.TypesAnswer.{TypesAnswer}
use Rattle.pbtool_command.specs.JsonAnswer.{IsJsonLine}
use Rattle.pbtool_files.specs.Known.{IsReadOf, OfFiles}
use Rattle.pbtool_files.specs.SetFile.{HasType}
use Rattle.pbtool_command.specs.SetNames.{GivesNames, IsShownAs}
use Rattle.pbtool_files.specs.declared.set_file.Reading.{Reading}
use Rattle.pbtool_command.specs.declared.command.Command.{Command}
use Rattle.pbtool_command.specs.declared.command.Command.TheVariants.{Raw, Check, Show, Canon, Json, Frames, AllFrames, Compile}
use Rattle.pbtool_command.specs.declared.command.Command.TheVariants.{Compat, FromJson}
use Rattle.pbtool_command.specs.declared.command.Command.TheVariants as command
use Rattle.pbtool_command.specs.declared.command.Comparison.{Comparison}
use Rattle.pbtool_command.specs.declared.command.FrameForm.{FrameForm}
use Rattle.pbtool_command.specs.declared.command.RawForm.{RawForm}
use Rattle.pbtool_command.specs.declared.command.Source.{Source}
use Rattle.pbtool_command.specs.declared.shown.Shown.{Shown}
use Rattle.pbtool_command.specs.declared.form.Form.{Form}
use Rattle.pbtool_command.specs.declared.form.Form.TheVariants as form
use Rattle.pbtool_files.specs.declared.report.Refusal.{Refusal}

-- RECORDS WITHOUT A SCHEMA

-- a text, or why its bytes are refused, of what IsRead says was read
abbrev pub Judges :
    Bounds → List ℕ → (Option (List ℕ) → Type 0) → Result (Vec ℕ Global) Refusal → Type 0
Judges limits path IsRead (Ok v) = IsRead (Some v.items) × IsSomeText blank tt limits v.items
Judges limits path IsRead (Err e) =
    (form : RawForm) → Refuses (λ a. (content : Option (List ℕ)) × IsRead content × RawAnswer limits form path content a) e

-- THE STEPS OF A COMMAND

module _ (Out Cut : List ℕ → Type 0) (Saved : Option (List ℕ × List ℕ) → Type 0) (Unsaved : List ℕ → Type 0) (IsRight : Answer → Type 0)
    (IsBegun : List ℕ → Type 0) where
  -- a device failed: that of an input, standard output, or that of a file that is written
  abbrev pub FailsAt : List ℕ → Type 0
  FailsAt path =
      ((text : List ℕ) × IsRight (broken text path) × Out text × Saved None)
      ⊎ (((text : List ℕ) × (path ≡ output_name) × IsPrinted IsRight IsBegun text × Cut text × Saved None)
      ⊎ ((a : Answer) × (bytes : List ℕ) × IsRight a × (a.saved ≡ Some (path, bytes)) × Out [] × Unsaved path))

  -- a right answer went out or is refused; or a device failed, or memory ran out, after what is printed before
  abbrev pub Comes : Result Unit Refusal → Type 0
  Comes (Ok u) = (a : Answer) × IsRight a × (a.status ≡ 0) × (a.line ≡ []) × Out a.text × Saved a.saved
  Comes (Err e) =
      ByRefusal (λ line. (text : List ℕ) × IsRight (stopped text line) × Out text × Saved None) FailsAt
      ((text : List ℕ) × IsBegun text × Out text × Saved None) e

-- nothing is printed before an answer is known
abbrev pub IsNothing : List ℕ → Type 0
IsNothing text = text ≡ []

-- no file is written
abbrev pub NoFile : Option (List ℕ × List ℕ) → Type 0
NoFile saved = saved ≡ None

-- A MESSAGE THAT IS JUDGED

-- of bytes that are no message of a type: the answer that reports their fault
abbrev pub IsNoMessage : Types → ℕ → List ℕ → Answer → Type 0
IsNoMessage pool m text a = (f : Fault) × HasFault (schema_of pool) (a_message m) full text f × (a ≡ refused (fault_line f))

-- the same of a file at a path, which may not be there
abbrev pub IsUnfit : Types → ℕ → List ℕ → Option (List ℕ) → Answer → Type 0
IsUnfit pool m path None a = a ≡ device_failed path
IsUnfit pool m path (Some text) a = IsNoMessage pool m text a

-- A MESSAGE AS JSON

module _ {D : Type 0} (written : D → Option (List ℕ)) (failures : D → ℕ) (old new : D) (layout : Layout) (names : Bor NamesGiven) (m : Dynamic) where
  -- its line went out whole, or a prefix of it before the output failed; or there is none, and nothing went out
  abbrev pub WritesLine : Result Unit JsonError → Type 0
  WritesLine (Ok u) = (line : List ℕ) × IsJsonLine layout names m line × Sent written failures old new line
  WritesLine (Err json_error.Output) = (line : List ℕ) × IsJsonLine layout names m line × Cut written failures old new line
  WritesLine (Err (json_error.Refused x)) = IsRefused m (refused_view x) × (new ≡ old)
  WritesLine (Err json_error.Memory) = new ≡ old

module _ {F : Type 0} (contents : F → Option FileMap) (is_steady : F → Bool) (files : F) where
  -- WHERE A TYPE IS KNOWN: what comes of the file of its messages, that at a path

  -- the file is not there
  abbrev pub IsMissing : List ℕ → Answer → Type 0
  IsMissing path a = OfFiles contents is_steady files path (λ content. content ≡ None) × (a ≡ device_failed path)

  -- or something is made of its message
  abbrev pub MessageAt : Form → Types → ℕ → List ℕ → Answer → Type 0
  MessageAt form pool m path a =
      IsMissing path a
      ⊎ MessageAnswer (λ pool m f. OfFiles contents is_steady files path (λ content. FaultAt content pool m f))
      (λ pool m v. IsWellFormed pool m v × OfFiles contents is_steady files path (λ content. TextAt content pool m v)) form pool m a

  -- or its JSON text is read
  abbrev pub JsonReadAt : JsonRules → NamesGiven → List ℕ → Types → ℕ → List ℕ → Answer → Type 0
  JsonReadAt rules names out pool m path a =
      IsMissing path a ⊎ FromJsonAnswer (λ b. IsReadOf contents is_steady files (full.bytes + 1) path (Some b)) rules names out pool m a

  -- or its frames are shown
  abbrev pub StreamAt : Shown → Types → ℕ → List ℕ → Answer → Type 0
  StreamAt form pool m path a =
      IsMissing path a
      ⊎ FramesAnswer (λ pool m text. AnyFrames form pool m text × OfFiles contents is_steady files path (λ content. FramesAt content form pool m text))
      (λ pool m count text r. AnyRefusal form pool m count text r × OfFiles contents is_steady files path (λ content. RefusedFrameAt content form pool m count text r))
      (λ pool m text. AnyFrames form pool m text × OfFiles contents is_steady files path (λ content. ⊥)) path pool m a

  -- what is printed of them before that is known
  abbrev pub StreamBegunAt : Shown → Types → ℕ → List ℕ → List ℕ → Type 0
  StreamBegunAt form pool m path text =
      (text ≡ []) ⊎ (AnyFrames form pool m text × OfFiles contents is_steady files path (λ content. FramesBegunAt content form pool m text))

  -- or all its frames are
  abbrev pub AllFramesAtPath : Shown → Types → ℕ → List ℕ → Answer → Type 0
  AllFramesAtPath form pool m path a = IsMissing path a ⊎ AllFramesBy (OfFiles contents is_steady files path) form path pool m a

  abbrev pub AllBegunAtPath : Shown → Types → ℕ → List ℕ → List ℕ → Type 0
  AllBegunAtPath form pool m path text = (text ≡ []) ⊎ AllBegunBy (OfFiles contents is_steady files path) form pool m text

  -- COMMANDS

  -- the answer of a command that makes something of the message of a file
  abbrev pub MessageOf : Form → Source → Answer → Type 0
  MessageOf form s =
      TypeAnswer (IsReadOf contents is_steady files (full.bytes + 1) s.set.now) (OfFiles contents is_steady files s.file.now (λ content. content ≡ None))
      (MessageAnswer (λ pool m f. OfFiles contents is_steady files s.file.now (λ content. FaultAt content pool m f))
      (λ pool m v. IsWellFormed pool m v × OfFiles contents is_steady files s.file.now (λ content. TextAt content pool m v)) form)
      s.reading s.type_name.now s.set.now s.file.now

  -- what `json` answers
  abbrev pub JsonOf : Layout → Source → Answer → Type 0
  JsonOf layout s =
      TypeAnswer (IsReadOf contents is_steady files (full.bytes + 1) s.set.now) (OfFiles contents is_steady files s.file.now (λ content. content ≡ None))
      (λ pool m a. (names : Bor NamesGiven) × GivesNames (IsReadOf contents is_steady files (full.bytes + 1) s.set.now) s pool m names.now
      × MessageAnswer (λ pool m f. OfFiles contents is_steady files s.file.now (λ content. FaultAt content pool m f))
      (λ pool m v. IsWellFormed pool m v × OfFiles contents is_steady files s.file.now (λ content. TextAt content pool m v)) (form.Json layout names) pool m a)
      s.reading s.type_name.now s.set.now s.file.now

  -- what `from-json` answers
  abbrev pub JsonReadOf : JsonRules → List ℕ → Source → Answer → Type 0
  JsonReadOf rules out s =
      TypeAnswer (IsReadOf contents is_steady files (full.bytes + 1) s.set.now) (OfFiles contents is_steady files s.file.now (λ content. content ≡ None))
      (λ pool m a. (names : NamesGiven) × GivesNames (IsReadOf contents is_steady files (full.bytes + 1) s.set.now) s pool m names
      × FromJsonAnswer (λ b. IsReadOf contents is_steady files (full.bytes + 1) s.file.now (Some b)) rules names out pool m a)
      s.reading s.type_name.now s.set.now s.file.now

  -- what `frames` answers
  abbrev pub StreamOf : FrameForm → Source → Answer → Type 0
  StreamOf form s =
      TypeAnswer (IsReadOf contents is_steady files (full.bytes + 1) s.set.now) (OfFiles contents is_steady files s.file.now (λ content. content ≡ None))
      (λ pool m a. (way : Shown) × IsShownAs (IsReadOf contents is_steady files (full.bytes + 1) s.set.now) s pool m form way
      × FramesAnswer (λ pool m text. AnyFrames way pool m text × OfFiles contents is_steady files s.file.now (λ content. FramesAt content way pool m text))
      (λ pool m count text r. AnyRefusal way pool m count text r × OfFiles contents is_steady files s.file.now (λ content. RefusedFrameAt content way pool m count text r))
      (λ pool m text. AnyFrames way pool m text × OfFiles contents is_steady files s.file.now (λ content. ⊥)) s.file.now pool m a)
      s.reading s.type_name.now s.set.now s.file.now

  -- what `frames` prints before that is known
  abbrev pub StreamBegun : FrameForm → Source → List ℕ → Type 0
  StreamBegun form s text =
      (text ≡ [])
      ⊎ ((set : List ℕ) × (pool : Types) × (m : ℕ) × IsReadOf contents is_steady files (full.bytes + 1) s.set.now (Some set)
      × HasType s.reading s.type_name.now set pool m
      × ((way : Shown) × IsShownAs (IsReadOf contents is_steady files (full.bytes + 1) s.set.now) s pool m form way
      × AnyFrames way pool m text × OfFiles contents is_steady files s.file.now (λ content. FramesBegunAt content way pool m text)))

  -- what `frames --keep-going` answers
  abbrev pub AllFramesOf : FrameForm → Source → Answer → Type 0
  AllFramesOf form s =
      TypeAnswer (IsReadOf contents is_steady files (full.bytes + 1) s.set.now) (OfFiles contents is_steady files s.file.now (λ content. content ≡ None))
      (λ pool m a. (way : Shown) × IsShownAs (IsReadOf contents is_steady files (full.bytes + 1) s.set.now) s pool m form way
      × AllFramesBy (OfFiles contents is_steady files s.file.now) way s.file.now pool m a) s.reading s.type_name.now s.set.now s.file.now

  -- what it prints before that is known
  abbrev pub AllBegunOf : FrameForm → Source → List ℕ → Type 0
  AllBegunOf form s text =
      (text ≡ [])
      ⊎ ((set : List ℕ) × (pool : Types) × (m : ℕ) × IsReadOf contents is_steady files (full.bytes + 1) s.set.now (Some set)
      × HasType s.reading s.type_name.now set pool m
      × ((way : Shown) × IsShownAs (IsReadOf contents is_steady files (full.bytes + 1) s.set.now) s pool m form way
      × AllBegunBy (OfFiles contents is_steady files s.file.now) way pool m text))

  -- what `types` answers
  abbrev pub TypesOf : Reading → List ℕ → Option (List ℕ) → Answer → Type 0
  TypesOf reading path name = TypesAnswer (IsReadOf contents is_steady files (full.bytes + 1) path) reading path name

  -- the file at a path, and that reading there fails, which is never so of honest files
  abbrev pub IsAt : List ℕ → Option (List ℕ) → Type 0
  IsAt = IsReadOf contents is_steady files (full.bytes + 1)

  abbrev pub Fails : List ℕ → Type 0
  Fails path = OfFiles contents is_steady files path (λ content. ⊥)

  -- of the files under roots: which are not there, what their sources declare, and why they are refused
  abbrev pub AbsentOf : List (List ℕ) → List ℕ → Type 0
  AbsentOf = IsAbsentUnder IsAt

  abbrev pub DeclaredOf : Places → List ℕ → DeclaredFile → Type 0
  DeclaredOf = DeclaresUnder IsAt

  abbrev pub TroubleOf : Places → Origin → List ℕ → Trouble → Type 0
  TroubleOf = HasTroubleUnder IsAt Fails

  abbrev pub GathersOf : Places → Origin → List (List ℕ) → Gathered → Outcome → Type 0
  GathersOf = GathersUnder IsAt Fails

  -- reaching names stops at a file that is refused
  abbrev pub StopsOf : Places → Origin → List (List ℕ) → Gathered → Answer → Type 0
  StopsOf p o names g a = (name : List ℕ) × (t : Trouble) × GathersOf p o names g (stopped_at name t) × (a ≡ told_of name t)

  -- what `compile` answers
  abbrev pub CompileOf : Places → List ℕ → List (List ℕ) → Answer → Type 0
  CompileOf = CompileAnswer IsAt Fails

  -- what `compat` answers
  abbrev pub CompatOf : Comparison → Answer → Type 0
  CompatOf = CompatAnswer IsAt

  -- a command's right answers, and what is printed before they are known
  abbrev pub RightOf : Command → Answer → Type 0
  RightOf (Raw form file) a =
      (content : Option (List ℕ)) × IsReadOf contents is_steady files (full.bytes + 1) file.now content × RawAnswer full form file.now content a
  RightOf (Check source) a = MessageOf form.Check source a
  RightOf (Show floats source) a = MessageOf (form.Listing floats) source a
  RightOf (Canon to source) a = MessageOf (canonical_form to) source a
  RightOf (Json layout source) a = JsonOf layout source a
  RightOf (command.Text text_form source) a = MessageOf (form.Text text_form) source a
  RightOf (FromJson rules out source) a = JsonReadOf rules out.now source a
  RightOf (Frames form source) a = StreamOf form source a
  RightOf (AllFrames form source) a = AllFramesOf form source a
  RightOf (command.Types reading set name) a = TypesOf reading set.now (option_map (λ n. n.now) name) a
  RightOf (Compile roots out names) a = CompileOf (places_of roots) out.now (texts_of names.now) a
  RightOf (Compat comparison) a = CompatOf comparison a

  abbrev pub BegunOf : Command → List ℕ → Type 0
  BegunOf (Raw form file) text = IsNothing text
  BegunOf (Check source) text = IsNothing text
  BegunOf (Show floats source) text = IsNothing text
  BegunOf (Canon to source) text = IsNothing text
  BegunOf (Json layout source) text = IsNothing text
  BegunOf (command.Text text_form source) text = IsNothing text
  BegunOf (FromJson rules out source) text = IsNothing text
  BegunOf (Frames form source) text = StreamBegun form source text
  BegunOf (AllFrames form source) text = AllBegunOf form source text
  BegunOf (command.Types reading set name) text = IsNothing text
  BegunOf (Compile roots out names) text = IsNothing text
  BegunOf (Compat comparison) text = IsNothing text
