use Rattle.std.proofs.Common.{◌+◌, ◌∙◌, ℕ, List, Option, refl}
use Rattle.std.proofs.KnownBytes.{Appends-nil}
use Rattle.std.proofs.lemmas.Result.{err_from_is_err_and}
use Rattle.pb_wire.specs.Limits.{full}
use Rattle.pb_output.specs.Sending.{Cut, Sent}
use Rattle.pbtool_files.specs.FileMap.{IsSaved, IsUnsaved}
use Rattle.pbtool_files.specs.Known.{IsReadOf}
use Rattle.pbtool_files.specs.SetFile.{NoPool}
use Rattle.pbtool_files.proofs.KnownLemmas.{keeps_then}
use Rattle.pbtool_files.proofs.RefusalLemmas.{refuses_map}
use Rattle.pbtool_command.specs.CompatAnswer.{ComparesTo, compared, no_new, no_old, type_name_of}
use Rattle.pbtool_command.specs.Steps.{CompatOf, IsNothing, NoFile}
use Rattle.pbtool_command.proofs.Coming.{comes_map, no_file_kept, refused_comes}
use Rattle.pbtool_command.proofs.SourceSteps.{at_later}
use Rattle.pbtool_command.proofs.compat.compat.Goals as goal

pub returns-in_err-before-clause-comes : goal.returns-in_err-before-clause-comes
returns-in_err-before-clause-comes g c =
    let p = err_from_is_err_and c.from_residual.result c.from_residual.ensures.1 in
    let contents = g.F.Files.contents in
    let is_steady = g.F.Files.is_steady in
    let first = c.args.files.now in
    let it = c.args.comparison.now in
    rw (p.1, p.2)
    (refused_comes (Sent g.O.Output.written g.O.Output.failures c.args.out.now c.args.out.now) (Cut g.O.Output.written g.O.Output.failures c.args.out.now c.args.out.now)
    (IsSaved contents first c.pool_at.new.files) (IsUnsaved contents g.F.Files.failures first c.pool_at.new.files) (CompatOf contents is_steady first it) IsNothing
    c.in_err-before.field-0.0 (refl, Appends-nil (g.O.Output.written c.args.out.now)) c.in_err-before.ensures.files refl
    (refuses_map
    (λ a. (content : Option (List ℕ)) × IsReadOf contents is_steady first (full.bytes + 1) it.old.now content × NoPool it.reading it.old.now content a)
    (CompatOf contents is_steady first it) c.in_err-before.field-0.0 (λ a h. no_old h.1 h.2) c.in_err-before.ensures.refused))

pub returns-in_err-after-clause-comes : goal.returns-in_err-after-clause-comes
returns-in_err-after-clause-comes g c =
    let p = err_from_is_err_and c.from_residual-in_err-after.result c.from_residual-in_err-after.ensures.1 in
    let contents = g.F.Files.contents in
    let is_steady = g.F.Files.is_steady in
    let first = c.args.files.now in
    let mid = c.pool_at.new.files in
    let last = c.pool_at-2.new.files in
    let it = c.args.comparison.now in
    let done = c.in_ok-before.ensures in
    rw (p.1, p.2)
    (refused_comes (Sent g.O.Output.written g.O.Output.failures c.args.out.now c.args.out.now) (Cut g.O.Output.written g.O.Output.failures c.args.out.now c.args.out.now)
    (IsSaved contents first last) (IsUnsaved contents g.F.Files.failures first last) (CompatOf contents is_steady first it) IsNothing
    c.in_err-after.field-0.0 (refl, Appends-nil (g.O.Output.written c.args.out.now))
    (keeps_then (contents first) (contents mid) (contents last) done.files c.in_err-after.ensures.files) refl
    (refuses_map
    (λ a. (content : Option (List ℕ)) × IsReadOf contents is_steady mid (full.bytes + 1) it.new.now content × NoPool it.reading it.new.now content a)
    (CompatOf contents is_steady first it) c.in_err-after.field-0.0
    (λ a h. no_new done.made.1 done.made.2 (at_later contents is_steady first mid done.files done.steady it.new.now h.0 h.1) h.2) c.in_err-after.ensures.refused))

pub returns-clause-comes : goal.returns-clause-comes
returns-clause-comes g c =
    let contents = g.F.Files.contents in
    let is_steady = g.F.Files.is_steady in
    let first = c.args.files.now in
    let mid = c.pool_at.new.files in
    let last = c.pool_at-2.new.files in
    let it = c.args.comparison.now in
    let done = c.in_ok-before.ensures in
    let there = c.in_ok-after.ensures in
    let out = Sent g.O.Output.written g.O.Output.failures c.args.out.now c.show-answer.new.out in
    let cut = Cut g.O.Output.written g.O.Output.failures c.args.out.now c.show-answer.new.out in
    comes_map out out cut cut NoFile (IsSaved contents first last) (λ _. ⊥) (IsUnsaved contents g.F.Files.failures first last)
    (ComparesTo it.readers c.in_ok-before.before.pool c.in_ok-after.after.pool (type_name_of it)) (CompatOf contents is_steady first it) IsNothing IsNothing
    c.show-answer.result (λ text h. h) (λ text h. h)
    (no_file_kept contents first last (keeps_then (contents first) (contents mid) (contents last) done.files there.files)) (λ device h. absurd h)
    (λ a h. compared done.made.1 done.made.2 (at_later contents is_steady first mid done.files done.steady it.new.now _ there.made.1) there.made.2 h)
    (λ text h. h) c.show-answer.ensures

pub returns-in_err-after-clause-kept : goal.returns-in_err-after-clause-kept
returns-in_err-after-clause-kept g c =
    let p = err_from_is_err_and c.from_residual-in_err-after.result c.from_residual-in_err-after.ensures.1 in
    rw (p.1, p.2) (λ none. c.in_err-after.ensures.kept none ∙ c.in_ok-before.ensures.kept)

pub returns-in_err-after-clause-unfailing : goal.returns-in_err-after-clause-unfailing
returns-in_err-after-clause-unfailing g c =
    λ s. c.in_err-after.ensures.unfailing (c.in_ok-before.ensures.steady s) ∙ c.in_ok-before.ensures.unfailing s
