-- What `compat` comes to: when its lines are out, over honest files, and over any files.
use Rattle.std.proofs.Common.{◌≡◌, ℕ, List, Bool, true, false, Option, None, Some, refl, subst}
use Rattle.std.specs.Prelude.{IfSome, Result, option_map}
use Rattle.std.specs.Borrow.{Bor}
use Rattle.pb_schema.specs.Types.{Types}
use Rattle.pbtool_files.specs.Answer.{Answer}
use Rattle.pbtool_files.specs.FileMap.{FileMap, IsHonest}
use Rattle.pbtool_files.specs.SetFile.{NoPool}
use Rattle.pbtool_files.specs.Answer.{done}
use Rattle.pbtool_files.specs.Refusal.{Refuses}
use Rattle.pbtool_files.specs.declared.report.Refusal.{Refusal}
use Rattle.pbtool_files.specs.declared.report.Refusal.TheVariants.{UnknownType}
use Rattle.pb_output.specs.Sending.{Cut}
use Rattle.pb_compat_lines.specs.Verdict.{LacksType}
use Rattle.pb_compat_lines.specs.declared.verdict.Readers.{Readers}
use Rattle.pbtool_command.specs.CompatAnswer.{AnswersBreak, CompatAnswer, ComparesTo, compared, lines_answer, no_new, no_old, unknown}
use Rattle.pbtool_command.specs.Steps.{Comes, CompatOf, IsNothing, NoFile}
use Rattle.pbtool_command.specs.declared.command.Comparison.{Comparison}
use Rattle.pbtool_command.proofs.SetWhole.{no_pool_whole, pool_at}

-- one of the pools lacks the type that is named
pub lacking_refuses :
    (readers : Readers) (old new : Types) (name : Option (Bor (List ℕ))) (e : Refusal) → IfSome name (λ n. e ≡ UnknownType n)
    → LacksType old new (option_map (λ n. n.now) name) → Refuses (ComparesTo readers old new (option_map (λ n. n.now) name)) e
lacking_refuses readers old new None e told lacks = absurd lacks
lacking_refuses readers old new (Some n) e told lacks = rw told (unknown refl lacks refl)

pub lines_text : (text : List ℕ) (breaks : Bool) → (lines_answer text breaks).text ≡ text
lines_text text true = refl
lines_text text false = refl

-- the lines are out
pub lines_come :
    (Out Cut : List ℕ → Type 0) (text : List ℕ) (breaks : Bool) (r : Result Unit Refusal) → Out text → AnswersBreak breaks r
    → Comes Out Cut NoFile (λ _. ⊥) (λ a. a ≡ lines_answer text breaks) IsNothing r
lines_come Out Cut text true r out is = rw is (text, refl, out, refl)
lines_come Out Cut text false r out is = rw is (done text, refl, refl, refl, out, refl)

-- over any files
pub compat_any : (At : List ℕ → Option (List ℕ) → Type 0) (c : Comparison) (a : Answer) → CompatAnswer At c a → CompatAnswer (λ path content. Unit {0}) c a
compat_any At c a (no_old is none) = no_old tt none
compat_any At c a (no_new is has other none) = no_new tt has tt none
compat_any At c a (compared is has other holds compares) = compared tt has tt holds compares

-- over honest files
module _ {F : Type 0} (contents : F → Option FileMap) (is_steady : F → Bool) (files : F) (map : FileMap) (honest : IsHonest contents is_steady files map) where
  pub compat_of_map : (c : Comparison) (a : Answer) → CompatOf contents is_steady files c a → CompatAnswer (λ path content. content ≡ map path) c a
  compat_of_map c a (no_old is none) =
      no_old {content = map c.old.now} refl
      (no_pool_whole c.reading c.old.now (map c.old.now) a (subst (λ (o : Option (List ℕ)). NoPool c.reading c.old.now o a) (is map honest) none))
  compat_of_map c a (no_new {set} {old} {omitted} is has other none) =
      let at = pool_at c.reading set old omitted (map c.old.now) (is map honest) has in
      no_new {content = map c.new.now} at.1 at.2 refl
      (no_pool_whole c.reading c.new.now (map c.new.now) a (subst (λ (o : Option (List ℕ)). NoPool c.reading c.new.now o a) (other map honest) none))
  compat_of_map c a (compared {old_set} {new_set} {old} {new} {old_omitted} {new_omitted} is has other holds compares) =
      let at = pool_at c.reading old_set old old_omitted (map c.old.now) (is map honest) has in
      let there = pool_at c.reading new_set new new_omitted (map c.new.now) (other map honest) holds in
      compared at.1 at.2 there.1 there.2 compares
