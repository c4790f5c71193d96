use Rattle.std.proofs.Common.{◌+◌, ℕ, List, Option, refl, inl}
use Rattle.std.proofs.KnownBytes.{Appends-nil}
use Rattle.std.proofs.lemmas.Result.{err_from_is_err_and}
use Rattle.pb_wire.specs.Limits.{full}
use Rattle.pbtool_files.specs.FileMap.{IsSaved, IsUnsaved}
use Rattle.pb_output.specs.Sending.{Cut, Sent}
use Rattle.pbtool_files.specs.Known.{IsReadOf}
use Rattle.pbtool_command.specs.Steps.{AllBegunAtPath, AllBegunOf, AllFramesAtPath, AllFramesOf}
use Rattle.pbtool_files.specs.SetFile.{NoType}
use Rattle.pbtool_command.specs.declared.command.FrameForm.TheVariants as frame_form
use Rattle.pbtool_command.specs.TypeAnswer.{no_type}
use Rattle.pbtool_files.proofs.RefusalLemmas.{refuses_map}
use Rattle.pbtool_command.proofs.Coming.{refused_comes}
use Rattle.pbtool_command.proofs.AllStreams.{all_begun_of, all_of}
use Rattle.pbtool_command.proofs.FileSteps.{later_comes}
use Rattle.pbtool_command.proofs.all_frames.all_frames_json.Goals as goal

pub returns-in_err-named-clause-comes : goal.returns-in_err-named-clause-comes
returns-in_err-named-clause-comes g c =
    let p = err_from_is_err_and c.from_residual.result c.from_residual.ensures.1 in
    let source = c.args.source.now in
    let contents = g.F.Files.contents in
    let is_steady = g.F.Files.is_steady in
    rw (p.1, p.2)
    (refused_comes (Sent g.O.Output.written g.O.Output.failures c.args.out.now c.args.out.now) (Cut g.O.Output.written g.O.Output.failures c.args.out.now c.args.out.now)
    (IsSaved contents c.args.files.now c.find_named_type.new.files) (IsUnsaved contents g.F.Files.failures c.args.files.now c.find_named_type.new.files)
    (AllFramesOf contents is_steady c.args.files.now frame_form.Json source) (AllBegunOf contents is_steady c.args.files.now frame_form.Json source) c.in_err-named.field-0.0
    (refl, Appends-nil (g.O.Output.written c.args.out.now)) c.in_err-named.ensures.files (inl refl)
    (refuses_map
    (λ a. (content : Option (List ℕ)) × IsReadOf contents is_steady c.args.files.now (full.bytes + 1) source.set.now content × NoType source.reading source.type_name.now source.set.now content a)
    (AllFramesOf contents is_steady c.args.files.now frame_form.Json source) c.in_err-named.field-0.0 (λ a h. no_type h.1 h.2) c.in_err-named.ensures.refused))

pub returns-clause-comes : goal.returns-clause-comes
returns-clause-comes g c =
    let source = c.args.source.now in
    let contents = g.F.Files.contents in
    let is_steady = g.F.Files.is_steady in
    let before = c.args.files.now in
    let mid = c.find_named_type.new.files in
    let pool = c.in_ok-named.named.pool in
    let kind = c.in_ok-named.named.message_type.0 in
    let type = c.in_ok-named.ensures in
    later_comes contents g.F.Files.failures before mid c.all_frames_at-answer.new.files
    (Sent g.O.Output.written g.O.Output.failures c.args.out.now c.all_frames_at-answer.new.out) (Cut g.O.Output.written g.O.Output.failures c.args.out.now c.all_frames_at-answer.new.out)
    (AllFramesAtPath contents is_steady mid _ pool kind source.file.now) (AllFramesOf contents is_steady before frame_form.Json source)
    (AllBegunAtPath contents is_steady mid _ pool kind source.file.now) (AllBegunOf contents is_steady before frame_form.Json source) c.all_frames_at-answer.result type.files type.kept
    (all_of contents is_steady before mid frame_form.Json _ source type.found.0 pool kind (_, (type.found.0, type.found.1, type.found.2, type.found.3), refl) type.found.1 type.found.2 type.files type.steady)
    (all_begun_of contents is_steady before mid frame_form.Json _ source type.found.0 pool kind (_, (type.found.0, type.found.1, type.found.2, type.found.3), refl) type.found.1 type.found.2 type.files type.steady)
    c.all_frames_at-answer.ensures.comes
