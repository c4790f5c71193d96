-- What `compat` answers: both sets are there, are sets, link, and have the type of the name, if one is given; then it prints what the comparison
-- of their pools reports, and the status says whether a difference breaks reading.
use Rattle.std.specs.Prelude.{◌≡◌, ℕ, List, [], Bool, true, false, Option, Some, Result, Ok, Err, option_map}
use Rattle.pb_schema.specs.Types.{Types}
use Rattle.pb_descr_message.specs.Omitted.{OmittedView}
use Rattle.pb_compat_lines.specs.Verdict.{IsVerdict, LacksType}
use Rattle.pb_compat_lines.specs.declared.verdict.Readers.{Readers}
use Rattle.pb_compat_lines.specs.declared.verdict.Verdict.{Verdict}
use Rattle.pbtool_files.specs.Answer.{Answer, done, refused, stopped}
use Rattle.pbtool_files.specs.Report.{type_line}
use Rattle.pbtool_files.specs.SetFile.{HasPool, NoPool}
use Rattle.pbtool_files.specs.declared.report.Refusal.{Refusal}
use Rattle.pbtool_files.specs.declared.report.Refusal.TheVariants.{Breaks}
use Rattle.pbtool_command.specs.declared.command.Comparison.{Comparison}

-- the lines, with status 1 if a difference breaks reading
abbrev pub lines_answer : List ℕ → Bool → Answer
lines_answer text true = stopped text []
lines_answer text false = done text

abbrev pub verdict_answer : Verdict → Answer
verdict_answer v = lines_answer v.text.items v.breaks

-- what a command answers when the lines are out
abbrev pub AnswersBreak : Bool → Result Unit Refusal → Type 0
AnswersBreak true r = r ≡ Err Breaks
AnswersBreak false r = r ≡ Ok tt

-- of two pools
pub data ComparesTo (readers : Readers) (old new : Types) (name : Option (List ℕ)) (answer : Answer) : Type 0 where
  unknown : {n : List ℕ} → name ≡ Some n → LacksType old new name → answer ≡ refused (type_line n) → ComparesTo readers old new name answer
  reported : (v : Verdict) → IsVerdict readers old new name v → answer ≡ verdict_answer v → ComparesTo readers old new name answer

abbrev pub type_name_of : Comparison → Option (List ℕ)
type_name_of c = option_map (λ n. n.now) c.type_name

-- where IsAt says what files are at paths
pub data CompatAnswer (IsAt : List ℕ → Option (List ℕ) → Type 0) (c : Comparison) (answer : Answer) : Type 0 where
  no_old : {content : Option (List ℕ)} → IsAt c.old.now content → NoPool c.reading c.old.now content answer → CompatAnswer IsAt c answer
  no_new :
      {set : List ℕ} {old : Types} {omitted : List OmittedView} {content : Option (List ℕ)} → IsAt c.old.now (Some set) → HasPool c.reading set old omitted
      → IsAt c.new.now content → NoPool c.reading c.new.now content answer → CompatAnswer IsAt c answer
  compared :
      {old_set new_set : List ℕ} {old new : Types} {old_omitted new_omitted : List OmittedView} → IsAt c.old.now (Some old_set)
      → HasPool c.reading old_set old old_omitted → IsAt c.new.now (Some new_set) → HasPool c.reading new_set new new_omitted
      → ComparesTo c.readers old new (type_name_of c) answer → CompatAnswer IsAt c answer
