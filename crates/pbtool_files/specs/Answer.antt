-- The answer of a command, and what a run of it leaves.
use Rattle.std.specs.Prelude.{◌≡◌, ◌⊎◌, ℕ, List, [], Option, None, Some}
use Rattle.pbtool_files.specs.Report.{device_line, memory_line, output_name}

-- the text for standard output, the file that is written (its path and its bytes), the line for standard error (empty where there is none), and
-- the exit status
pub record Answer : Type 0 where
  pub text : List ℕ
  pub saved : Option (List ℕ × List ℕ)
  pub line : List ℕ
  pub status : ℕ

abbrev pub done : List ℕ → Answer
done text = record { text = text; saved = None; line = []; status = 0 }

abbrev pub saves : List ℕ → List ℕ → Answer
saves path bytes = record { text = []; saved = Some (path, bytes); line = []; status = 0 }

-- an input is refused, after what was printed before
abbrev pub stopped : List ℕ → List ℕ → Answer
stopped text line = record { text = text; saved = None; line = line; status = 1 }

abbrev pub refused : List ℕ → Answer
refused line = stopped [] line

-- a device failed, or a file is not there
abbrev pub broken : List ℕ → List ℕ → Answer
broken text path = record { text = text; saved = None; line = device_line path; status = 3 }

abbrev pub device_failed : List ℕ → Answer
device_failed path = broken [] path

-- a text that is printed: that of an answer, or what is printed before one is known
abbrev pub IsPrinted : (Answer → Type 0) → (List ℕ → Type 0) → List ℕ → Type 0
IsPrinted IsRight IsBegun text = ((a : Answer) × IsRight a × (a.text ≡ text)) ⊎ IsBegun text

-- How a command ends. Out says that bytes went to standard output, Cut that a beginning of them did before it failed, Told that a line went to
-- standard error unless that failed, Saved that no file was written or this one, and Unsaved that writing the file of a path failed.
pub data Ends
    (Out Cut Told : List ℕ → Type 0) (Saved : Option (List ℕ × List ℕ) → Type 0) (Unsaved : List ℕ → Type 0) (status : ℕ)
    (IsRight : Answer → Type 0) (IsBegun : List ℕ → Type 0) : Type 0 where
  delivered :
      {a : Answer} → IsRight a → status ≡ a.status → Out a.text → Told a.line → Saved a.saved → Ends Out Cut Told Saved Unsaved status IsRight IsBegun
  output_failed :
      {text : List ℕ} → IsPrinted IsRight IsBegun text → status ≡ 3 → Cut text → Told (device_line output_name) → Saved None
      → Ends Out Cut Told Saved Unsaved status IsRight IsBegun
  file_failed :
      {a : Answer} {path bytes : List ℕ} → IsRight a → a.saved ≡ Some (path, bytes) → status ≡ 3 → Out [] → Told (device_line path) → Unsaved path
      → Ends Out Cut Told Saved Unsaved status IsRight IsBegun
  out_of_memory :
      {text : List ℕ} → IsBegun text → status ≡ 3 → Out text → Told memory_line → Saved None → Ends Out Cut Told Saved Unsaved status IsRight IsBegun

-- memory ran out before anything was printed
abbrev pub RunsOut : (List ℕ → Type 0) → (List ℕ → Type 0) → (Option (List ℕ × List ℕ) → Type 0) → ℕ → Type 0
RunsOut Out Told Saved status = (status ≡ 3) × Out [] × Told memory_line × Saved None
