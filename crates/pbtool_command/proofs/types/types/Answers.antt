use Rattle.std.proofs.Common.{◌+◌, ℕ, List, Option, refl}
use Rattle.std.specs.Prelude.{map, option_map}
use Rattle.std.proofs.KnownBytes.{Appends-nil}
use Rattle.std.proofs.lemmas.Result.{err_from_is_err_and}
use Rattle.pb_wire.specs.Limits.{full}
use Rattle.pb_descr_message.specs.Omitted.{omitted_view}
use Rattle.pb_output.specs.Sending.{Cut, Sent}
use Rattle.pbtool_files.specs.FileMap.{IsSaved, IsUnsaved}
use Rattle.pbtool_files.specs.Known.{IsReadOf}
use Rattle.pbtool_files.specs.SetFile.{NoPool}
use Rattle.pbtool_files.proofs.RefusalLemmas.{refuses_map}
use Rattle.pbtool_command.specs.Steps.{IsNothing, NoFile, TypesOf}
use Rattle.pbtool_command.specs.TypesAnswer.{ShownAnswer, no_types, shown}
use Rattle.pbtool_command.proofs.Coming.{comes_map, no_file_kept, refused_comes}
use Rattle.pbtool_command.proofs.types.types.Goals as goal

pub returns-in_err-linked-clause-comes : goal.returns-in_err-linked-clause-comes
returns-in_err-linked-clause-comes g c =
    let p = err_from_is_err_and c.from_residual.result c.from_residual.ensures.1 in
    let contents = g.F.Files.contents in
    let is_steady = g.F.Files.is_steady in
    let before = c.args.files.now in
    let path = c.args.set.now in
    let name = option_map (λ n. n.now) c.args.name in
    rw (p.1, p.2)
    (refused_comes (Sent g.O.Output.written g.O.Output.failures c.args.out.now c.args.out.now) (Cut g.O.Output.written g.O.Output.failures c.args.out.now c.args.out.now)
    (IsSaved contents before c.pool_at.new.files) (IsUnsaved contents g.F.Files.failures before c.pool_at.new.files)
    (TypesOf contents is_steady before c.args.reading path name) IsNothing c.in_err-linked.field-0.0
    (refl, Appends-nil (g.O.Output.written c.args.out.now)) c.in_err-linked.ensures.files refl
    (refuses_map
    (λ a. (content : Option (List ℕ)) × IsReadOf contents is_steady before (full.bytes + 1) path content × NoPool c.args.reading path content a)
    (TypesOf contents is_steady before c.args.reading path name) c.in_err-linked.field-0.0 (λ a h. no_types h.1 h.2) c.in_err-linked.ensures.refused))

pub returns-clause-comes : goal.returns-clause-comes
returns-clause-comes g c =
    let contents = g.F.Files.contents in
    let is_steady = g.F.Files.is_steady in
    let before = c.args.files.now in
    let after = c.pool_at.new.files in
    let name = option_map (λ n. n.now) c.args.name in
    let set = c.in_ok-linked.linked in
    let made = c.in_ok-linked.ensures.made in
    let out = Sent g.O.Output.written g.O.Output.failures c.args.out.now c.show-answer.new.out in
    let cut = Cut g.O.Output.written g.O.Output.failures c.args.out.now c.show-answer.new.out in
    comes_map out out cut cut NoFile (IsSaved contents before after) (λ _. ⊥) (IsUnsaved contents g.F.Files.failures before after)
    (ShownAnswer name set.pool (map omitted_view set.omitted.items)) (TypesOf contents is_steady before c.args.reading c.args.set.now name) IsNothing IsNothing
    c.show-answer.result (λ text h. h) (λ text h. h) (no_file_kept contents before after c.in_ok-linked.ensures.files) (λ device h. absurd h)
    (λ a h. shown made.1 made.2 h) (λ text h. h) c.show-answer.ensures
