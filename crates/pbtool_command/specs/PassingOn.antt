-- What reading all frames of one input leaves.
use Rattle.std.specs.Prelude.{◌≡◌, ◌⊎◌, ◌+◌, ◌<◌, ◌^◌, ℕ, List, length, Bool, true, Option, Some, Result, Ok, Err}
use Rattle.pb_schema.specs.Types.{Types}
use Rattle.pbtool_files.specs.Answer.{Answer, done, stopped, broken}
use Rattle.pbtool_files.specs.Known.{OfInput}
use Rattle.pbtool_files.specs.Refusal.{ByRefusal}
use Rattle.pb_output.specs.Sink.{Puts}
use Rattle.pb_output.specs.declared.sink.Sink.{Sink}
use Rattle.pbtool_command.specs.AllFrames.{AllBegunBy, AllFramesBy, ArePassed, Passed, Passes, concluded}
use Rattle.pbtool_command.specs.declared.all_frames.Progress.{Progress}
use Rattle.pbtool_command.specs.declared.all_frames.Turn.{Turn}
use Rattle.pbtool_command.specs.declared.all_frames.Turn.TheVariants.{GoesOn, Ends, Stops}
use Rattle.pbtool_command.specs.declared.shown.Shown.{Shown}
use Rattle.pbtool_files.specs.declared.report.Refusal.{Refusal}
use Rattle.pbtool_files.specs.declared.report.Refusal.TheVariants.{Frames}

module _
    {D : Type 0} (written : D → Option (List ℕ)) (failures : D → ℕ) (old new : D) (a b : Sink) (IsRight : Answer → Type 0) (IsBegun : List ℕ → Type 0) where
  -- this text was put, and is what is printed of the answer that a refusal gives
  abbrev pub PutsRefusal : Refusal → Type 0
  PutsRefusal e =
      (text : List ℕ) × Puts written failures old new a b text
      × ByRefusal (λ line. IsRight (stopped text line)) (λ device. IsRight (broken text device)) (IsBegun text) e

  -- the text of an answer was put, or what is printed before one is known where the output had failed
  abbrev pub PutsAnswer : Result Unit Refusal → Type 0
  PutsAnswer (Ok u) = (text : List ℕ) × Puts written failures old new a b text × (IsRight (done text) ⊎ ((b.failed ≡ true) × IsBegun text))
  PutsAnswer (Err e) = PutsRefusal e

-- these frames were read of an input
pub record HasPassed
    {I : Type 0} (left : I → Option (List ℕ)) (is_steady : I → Bool) (start now : I) (form : Shown) (pool : Types) (m : ℕ) (s : Passed) : Type 0 where
  pub passed : ArePassed form pool m s
  pub steady : is_steady start ≡ true → is_steady now ≡ true
  pub known :
      (input : List ℕ) → left start ≡ Some input → length input < 2 ^ 64
      → (rest : List ℕ) × (left now ≡ Some rest) × Passes form pool m input s rest × (s.offset + length rest ≡ length input)

module _
    {D I : Type 0} (written : D → Option (List ℕ)) (failures : D → ℕ) (left : I → Option (List ℕ)) (is_steady : I → Bool) (old new : D) (a b : Sink)
    (start now : I) (form : Shown) (pool : Types) (m : ℕ) where
  -- this number of frames was read, and their lines were put
  pub record IsGoing (index : ℕ) (p : Progress) : Type 0 where
    pub state : Passed
    pub put : Puts written failures old new a b state.text
    pub read : HasPassed left is_steady start now form pool m state
    pub count : state.count ≡ index
    pub refused : state.refused ≡ p.refused
    pub offset : state.offset ≡ p.offset
    pub lines : state.lines ≡ p.lines.items

  -- all frames were read, this number of them
  pub record IsOver (path : List ℕ) (count : ℕ) (p : Progress) : Type 0 where
    pub state : Passed
    pub put : Puts written failures old new a b state.text
    pub right : AllFramesBy (OfInput left is_steady start) form path pool m (concluded state)
    pub counted : state.count ≡ count
    pub refused : state.refused ≡ p.refused
    pub lines : state.lines ≡ p.lines.items

  -- what comes of the frame of an index
  abbrev pub TurnIs : ℕ → Progress → List ℕ → Turn → Type 0
  TurnIs index p path GoesOn = IsGoing (index + 1) p
  TurnIs index p path (Ends count) = IsOver path count p
  TurnIs index p path (Stops e) =
      PutsRefusal written failures old new a b (AllFramesBy (OfInput left is_steady start) form path pool m) (AllBegunBy (OfInput left is_steady start) form pool m) e

-- where this number of frames was read: nothing is refused, or these lines report it
abbrev pub Concludes : List ℕ → ℕ → ℕ → Result Unit Refusal → Type 0
Concludes lines refused count (Ok u) = refused ≡ 0
Concludes lines refused count (Err (Frames v r c)) = (0 < refused) × (v.items ≡ lines) × (r ≡ refused) × (c ≡ count)
Concludes lines refused count (Err e) = ⊥
