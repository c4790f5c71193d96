-- The answer of each command.
use Rattle.std.specs.Prelude.{◌≡◌, ◌<◌, ◌^◌, ◌⊎◌, ⊤, ℕ, List, [], length, Option, None, Some, option_map}
use Rattle.std.specs.Borrow.{Bor}
use Rattle.pb_wire.specs.Fault.{Fault}
use Rattle.pb_wire.specs.Grammar.{HasFault}
use Rattle.pb_wire.specs.Limits.{full}
use Rattle.pb_schema.specs.Context.{a_message, schema_of}
use Rattle.pb_schema.specs.Types.{Types}
use Rattle.pb_value.specs.Data.{Message}
use Rattle.pb_value.specs.Derives.{Text}
use Rattle.pb_value.specs.WellFormed.{IsWellFormed}
use Rattle.pbtool_files.specs.Answer.{Answer, Ends}
use Rattle.pbtool_command.specs.AllFrames.{AllAt, AllFramesAnswer, ArePassed, BegunAt, CutAt, Passed}
use Rattle.pbtool_command.specs.CompatAnswer.{CompatAnswer}
use Rattle.pbtool_command.specs.CompileAnswer.{CompileAnswer, places_of, texts_of}
use Rattle.pbtool_files.specs.FileMap.{FileMap}
use Rattle.pbtool_command.specs.FramesAnswer.{AreFrames, BeginsWith, FrameRefusal, FramesAnswer, IsRefusedFrame, MayBeRefused}
use Rattle.pbtool_command.specs.FromJsonAnswer.{FromJsonAnswer}
use Rattle.pbtool_command.specs.MessageAnswer.{MessageAnswer}
use Rattle.pbtool_command.specs.RawAnswer.{RawAnswer}
use Rattle.pbtool_files.specs.SetFile.{HasType}
use Rattle.pb_json.specs.Given.{NamesGiven}
use Rattle.pb_json_read.specs.declared.rules.JsonRules.{JsonRules}
use Rattle.pb_json.specs.declared.form.Layout.{Layout}
use Rattle.pbtool_command.specs.SetNames.{GivesNames, IsShownAs}
use Rattle.pbtool_command.specs.TypeAnswer.{TypeAnswer}
use Rattle.pbtool_command.specs.TypesAnswer.{TypesAnswer}
use Rattle.pbtool_command.specs.declared.command.Command.{Command}
use Rattle.pbtool_command.specs.declared.command.Command.TheVariants.{Raw, Check, Show, Canon, Json, Frames, AllFrames, Compile}
use Rattle.pbtool_command.specs.declared.command.Command.TheVariants.{Compat, FromJson}
use Rattle.pbtool_command.specs.declared.command.Command.TheVariants as command
use Rattle.pbtool_command.specs.declared.command.FrameForm.{FrameForm}
use Rattle.pbtool_command.specs.declared.command.Source.{Source}
use Rattle.pbtool_command.specs.declared.shown.Shown.{Shown}
use Rattle.pbtool_command.specs.declared.form.Form.{Form}
use Rattle.pbtool_command.specs.declared.form.Form.TheVariants as form

-- where the canonical bytes of a message go
abbrev pub canonical_form : Option (Bor (List ℕ)) → Form
canonical_form None = form.Canonical
canonical_form (Some path) = form.CanonicalFile path

-- OVER A MAP OF FILES

-- of bytes that may be there
module _ (content : Option (List ℕ)) where
  abbrev pub FaultAt : Types → ℕ → Fault → Type 0
  FaultAt pool m f = (text : List ℕ) × (content ≡ Some text) × HasFault (schema_of pool) (a_message m) full text f

  abbrev pub TextAt : Types → ℕ → Message → Type 0
  TextAt pool m v = (text : List ℕ) × (content ≡ Some text) × Text pool m full text v

  -- the bytes are frames with these lines
  abbrev pub FramesAt : Shown → Types → ℕ → List ℕ → Type 0
  FramesAt form pool m text =
      (input : List ℕ) × (content ≡ Some input) × (length input < 2 ^ 64 → (count : ℕ) × (offset : ℕ) × BeginsWith form pool m input count offset text [])

  -- they begin with this number of frames with these lines, and the one that follows is refused
  abbrev pub RefusedFrameAt : Shown → Types → ℕ → ℕ → List ℕ → FrameRefusal → Type 0
  RefusedFrameAt form pool m count text r =
      (input : List ℕ) × (content ≡ Some input)
      × (length input < 2 ^ 64 → (offset : ℕ) × (rest : List ℕ) × BeginsWith form pool m input count offset text rest × IsRefusedFrame form pool m rest r)

  -- they begin with frames with these lines
  abbrev pub FramesBegunAt : Shown → Types → ℕ → List ℕ → Type 0
  FramesBegunAt form pool m text =
      (input : List ℕ) × (content ≡ Some input)
      × (length input < 2 ^ 64 → (count : ℕ) × (offset : ℕ) × (rest : List ℕ) × BeginsWith form pool m input count offset text rest)

module _ (map : FileMap) where
  abbrev pub MessageComesTo : Form → Source → Answer → Type 0
  MessageComesTo form s =
      TypeAnswer (λ content. content ≡ map s.set.now) (map s.file.now ≡ None)
      (MessageAnswer (FaultAt (map s.file.now)) (TextAt (map s.file.now)) form) s.reading s.type_name.now s.set.now s.file.now

  abbrev pub JsonComesTo : Layout → Source → Answer → Type 0
  JsonComesTo layout s =
      TypeAnswer (λ content. content ≡ map s.set.now) (map s.file.now ≡ None)
      (λ pool m a. (names : Bor NamesGiven) × GivesNames (λ content. content ≡ map s.set.now) s pool m names.now
      × MessageAnswer (FaultAt (map s.file.now)) (TextAt (map s.file.now)) (form.Json layout names) pool m a)
      s.reading s.type_name.now s.set.now s.file.now

  abbrev pub JsonReadsTo : JsonRules → List ℕ → Source → Answer → Type 0
  JsonReadsTo rules out s =
      TypeAnswer (λ content. content ≡ map s.set.now) (map s.file.now ≡ None)
      (λ pool m a. (names : NamesGiven) × GivesNames (λ content. content ≡ map s.set.now) s pool m names
      × FromJsonAnswer (λ b. Some b ≡ map s.file.now) rules names out pool m a)
      s.reading s.type_name.now s.set.now s.file.now

  abbrev pub FramesComeTo : FrameForm → Source → Answer → Type 0
  FramesComeTo form s =
      TypeAnswer (λ content. content ≡ map s.set.now) (map s.file.now ≡ None)
      (λ pool m a. (way : Shown) × IsShownAs (λ content. content ≡ map s.set.now) s pool m form way
      × FramesAnswer (FramesAt (map s.file.now) way) (RefusedFrameAt (map s.file.now) way) (λ pool m text. ⊥) s.file.now pool m a)
      s.reading s.type_name.now s.set.now s.file.now

  abbrev pub AllFramesComeTo : FrameForm → Source → Answer → Type 0
  AllFramesComeTo form s =
      TypeAnswer (λ content. content ≡ map s.set.now) (map s.file.now ≡ None)
      (λ pool m a. (way : Shown) × IsShownAs (λ content. content ≡ map s.set.now) s pool m form way
      × AllFramesAnswer (AllAt (map s.file.now) way) (CutAt (map s.file.now) way) (λ pool m passed. ⊥) s.file.now pool m a)
      s.reading s.type_name.now s.set.now s.file.now

  abbrev pub Answers : Command → Answer → Type 0
  Answers (Raw form file) = RawAnswer full form file.now (map file.now)
  Answers (Check source) = MessageComesTo form.Check source
  Answers (Show floats source) = MessageComesTo (form.Listing floats) source
  Answers (Canon to source) = MessageComesTo (canonical_form to) source
  Answers (Json layout source) = JsonComesTo layout source
  Answers (command.Text text_form source) = MessageComesTo (form.Text text_form) source
  Answers (FromJson rules out source) = JsonReadsTo rules out.now source
  Answers (Frames form source) = FramesComeTo form source
  Answers (AllFrames form source) = AllFramesComeTo form source
  Answers (command.Types reading set name) = TypesAnswer (λ content. content ≡ map set.now) reading set.now (option_map (λ n. n.now) name)
  Answers (Compile roots out names) = CompileAnswer (λ path content. content ≡ map path) (λ path. ⊥) (places_of roots) out.now (texts_of names.now)
  Answers (Compat comparison) = CompatAnswer (λ path content. content ≡ map path) comparison

  -- what is printed before the answer is known: of frames those that were read, and else nothing
  abbrev pub Begins : Command → List ℕ → Type 0
  Begins (Raw form file) text = text ≡ []
  Begins (Check source) text = text ≡ []
  Begins (Show floats source) text = text ≡ []
  Begins (Canon to source) text = text ≡ []
  Begins (Json layout source) text = text ≡ []
  Begins (command.Text text_form source) text = text ≡ []
  Begins (FromJson rules out source) text = text ≡ []
  Begins (command.Types reading set name) text = text ≡ []
  Begins (Compile roots out names) text = text ≡ []
  Begins (Compat comparison) text = text ≡ []
  Begins (Frames form source) text =
      (text ≡ [])
      ⊎ ((set : List ℕ) × (pool : Types) × (m : ℕ) × (map source.set.now ≡ Some set) × HasType source.reading source.type_name.now set pool m
      × ((way : Shown) × IsShownAs (λ content. content ≡ map source.set.now) source pool m form way × FramesBegunAt (map source.file.now) way pool m text))
  Begins (AllFrames form source) text =
      (text ≡ [])
      ⊎ ((set : List ℕ) × (pool : Types) × (m : ℕ) × (map source.set.now ≡ Some set) × HasType source.reading source.type_name.now set pool m
      × ((way : Shown) × IsShownAs (λ content. content ≡ map source.set.now) source pool m form way
      × ((s : Passed) × (s.text ≡ text) × BegunAt (map source.file.now) way pool m s)))

-- OVER ANY FILES, also those that report nothing of what they hold

abbrev pub AnyMessage : Form → Source → Answer → Type 0
AnyMessage form s =
    TypeAnswer (λ content. ⊤) ⊤ (MessageAnswer (λ pool m f. ⊤) IsWellFormed form) s.reading s.type_name.now s.set.now s.file.now

abbrev pub AnyJson : Layout → Source → Answer → Type 0
AnyJson layout s =
    TypeAnswer (λ content. ⊤) ⊤
    (λ pool m a. (names : Bor NamesGiven) × GivesNames (λ content. ⊤) s pool m names.now
    × MessageAnswer (λ pool m f. ⊤) IsWellFormed (form.Json layout names) pool m a) s.reading s.type_name.now s.set.now s.file.now

abbrev pub AnyReading : JsonRules → List ℕ → Source → Answer → Type 0
AnyReading rules out s =
    TypeAnswer (λ content. ⊤) ⊤
    (λ pool m a. (names : NamesGiven) × GivesNames (λ content. ⊤) s pool m names × FromJsonAnswer (λ b. ⊤) rules names out pool m a)
    s.reading s.type_name.now s.set.now s.file.now

abbrev pub AnyFrames : Shown → Types → ℕ → List ℕ → Type 0
AnyFrames form pool m text = (count : ℕ) × AreFrames form pool m count text

-- these many frames, and one that is refused
abbrev pub AnyRefusal : Shown → Types → ℕ → ℕ → List ℕ → FrameRefusal → Type 0
AnyRefusal form pool m count text r = AreFrames form pool m count text × MayBeRefused form pool m r

abbrev pub AnyStream : FrameForm → Source → Answer → Type 0
AnyStream form s =
    TypeAnswer (λ content. ⊤) ⊤
    (λ pool m a. (way : Shown) × IsShownAs (λ content. ⊤) s pool m form way
    × FramesAnswer (AnyFrames way) (AnyRefusal way) (AnyFrames way) s.file.now pool m a) s.reading s.type_name.now s.set.now s.file.now

abbrev pub AnyAllFrames : FrameForm → Source → Answer → Type 0
AnyAllFrames form s =
    TypeAnswer (λ content. ⊤) ⊤
    (λ pool m a. (way : Shown) × IsShownAs (λ content. ⊤) s pool m form way
    × AllFramesAnswer (ArePassed way) (λ pool m passed f. ArePassed way pool m passed) (ArePassed way) s.file.now pool m a) s.reading s.type_name.now s.set.now s.file.now

-- the answer has the form of one: of raw records it is that of some bytes, of sources that of some at each path, of comparisons that of some sets, and
-- else of some set, and of some messages of the type
abbrev pub AnyAnswers : Command → Answer → Type 0
AnyAnswers (Raw form file) a = (content : Option (List ℕ)) × RawAnswer full form file.now content a
AnyAnswers (Check source) a = AnyMessage form.Check source a
AnyAnswers (Show floats source) a = AnyMessage (form.Listing floats) source a
AnyAnswers (Canon to source) a = AnyMessage (canonical_form to) source a
AnyAnswers (Json layout source) a = AnyJson layout source a
AnyAnswers (command.Text text_form source) a = AnyMessage (form.Text text_form) source a
AnyAnswers (FromJson rules out source) a = AnyReading rules out.now source a
AnyAnswers (Frames form source) a = AnyStream form source a
AnyAnswers (AllFrames form source) a = AnyAllFrames form source a
AnyAnswers (command.Types reading set name) a = TypesAnswer (λ content. ⊤) reading set.now (option_map (λ n. n.now) name) a
AnyAnswers (Compile roots out names) a = CompileAnswer (λ path content. ⊤) (λ path. ⊤) (places_of roots) out.now (texts_of names.now) a
AnyAnswers (Compat comparison) a = CompatAnswer (λ path content. ⊤) comparison a

abbrev pub AnyBegins : Command → List ℕ → Type 0
AnyBegins (Raw form file) text = text ≡ []
AnyBegins (Check source) text = text ≡ []
AnyBegins (Show floats source) text = text ≡ []
AnyBegins (Canon to source) text = text ≡ []
AnyBegins (Json layout source) text = text ≡ []
AnyBegins (command.Text text_form source) text = text ≡ []
AnyBegins (FromJson rules out source) text = text ≡ []
AnyBegins (command.Types reading set name) text = text ≡ []
AnyBegins (Compile roots out names) text = text ≡ []
AnyBegins (Compat comparison) text = text ≡ []
AnyBegins (Frames form source) text =
    (text ≡ []) ⊎ ((pool : Types) × (m : ℕ) × (way : Shown) × IsShownAs (λ content. ⊤) source pool m form way × AnyFrames way pool m text)
AnyBegins (AllFrames form source) text =
    (text ≡ [])
    ⊎ ((pool : Types) × (m : ℕ) × (way : Shown) × IsShownAs (λ content. ⊤) source pool m form way
    × ((s : Passed) × (s.text ≡ text) × ArePassed way pool m s))

-- THE END OF A RUN

-- The command is done: over files of which IsMap says what they hold the answer is that of their bytes, and over any files it has the form of one.
abbrev pub Does :
    (List ℕ → Type 0) → (List ℕ → Type 0) → (List ℕ → Type 0) → (Option (List ℕ × List ℕ) → Type 0) → (List ℕ → Type 0) → ℕ
    → (FileMap → Type 0) → Command → Type 0
Does Out Cut Told Saved Unsaved status IsMap command =
    ((map : FileMap) → IsMap map → Ends Out Cut Told Saved Unsaved status (Answers map command) (Begins map command))
    × Ends Out Cut Told Saved Unsaved status (AnyAnswers command) (AnyBegins command)
