use Rattle.std.proofs.Common.{◌≡◌, None, refl, inl}
use Rattle.std.proofs.KnownBytes.{Appends-nil}
use Rattle.std.proofs.lemmas.Result.{err_from_is_err_and}
use Rattle.pb_input.specs.Buffered.{left_of, of_input}
use Rattle.pbtool_files.specs.Answer.{device_failed}
use Rattle.pbtool_files.specs.FileMap.{IsSaved, IsUnsaved}
use Rattle.pb_output.specs.Sending.{Cut, Sent}
use Rattle.pbtool_files.specs.Known.{OfFiles, OfInput}
use Rattle.pbtool_command.specs.Steps.{AllBegunAtPath, AllFramesAtPath, NoFile}
use Rattle.pbtool_command.specs.AllFrames.{AllBegunBy, AllFramesBy}
use Rattle.pbtool_files.proofs.RefusalLemmas.{refuses_map}
use Rattle.pbtool_command.proofs.Coming.{comes_map, no_file_kept, refused_comes}
use Rattle.pbtool_command.proofs.AllStreams.{all_begun, all_right}
use Rattle.pbtool_command.proofs.Live.{buffered, opened_buffered}
use Rattle.pbtool_command.proofs.all_frames.all_frames_at.Goals as goal

pub returns-in_err-input-clause-comes : goal.returns-in_err-input-clause-comes
returns-in_err-input-clause-comes g c =
    let p = err_from_is_err_and c.from_residual.result c.from_residual.ensures.1 in
    let contents = g.F.Files.contents in
    let is_steady = g.F.Files.is_steady in
    let before = c.args.files.now in
    let form = c.args.form in
    let path = c.args.path.now in
    let pool = c.args.pool.now in
    let kind = c.args.message_type.0 in
    rw (p.1, p.2)
    (refused_comes (Sent g.O.Output.written g.O.Output.failures c.args.out.now c.args.out.now) (Cut g.O.Output.written g.O.Output.failures c.args.out.now c.args.out.now)
    (IsSaved contents before c.open_file.new.files) (IsUnsaved contents g.F.Files.failures before c.open_file.new.files)
    (AllFramesAtPath contents is_steady before form pool kind path) (AllBegunAtPath contents is_steady before form pool kind path) c.in_err-input.field-0.0
    (refl, Appends-nil (g.O.Output.written c.args.out.now)) c.in_err-input.ensures.files (inl refl)
    (refuses_map (λ a. OfFiles contents is_steady before path (λ content. content ≡ None) × (a ≡ device_failed path))
    (AllFramesAtPath contents is_steady before form pool kind path) c.in_err-input.field-0.0 (λ a h. inl h) c.in_err-input.ensures.refused))

pub returns-clause-comes : goal.returns-clause-comes
returns-clause-comes g c =
    let contents = g.F.Files.contents in
    let is_steady = g.F.Files.is_steady in
    let left = left_of g.F.In.Input.left in
    let stays = of_input g.F.In.Input.is_steady in
    let before = c.args.files.now in
    let form = c.args.form in
    let path = c.args.path.now in
    let pool = c.args.pool.now in
    let kind = c.args.message_type.0 in
    let input = buffered c.in_ok-input.input in
    let opened = opened_buffered contents is_steady before g.F.In.Input.left g.F.In.Input.is_steady c.in_ok-input.input path c.in_ok-input.ensures.opened in
    let out = Sent g.O.Output.written g.O.Output.failures c.args.out.now c.write_all_frames.new.out in
    let cut = Cut g.O.Output.written g.O.Output.failures c.args.out.now c.write_all_frames.new.out in
    let comes = rw c.new-buffered.ensures at c.write_all_frames.ensures.comes in
    comes_map out out cut cut NoFile (IsSaved contents before c.open_file.new.files) (λ _. ⊥)
    (IsUnsaved contents g.F.Files.failures before c.open_file.new.files) (AllFramesBy (OfInput left stays input) form path pool kind)
    (AllFramesAtPath contents is_steady before form pool kind path) (AllBegunBy (OfInput left stays input) form pool kind) (AllBegunAtPath contents is_steady before form pool kind path)
    c.write_all_frames.result (λ text h. h) (λ text h. h) (no_file_kept contents before c.open_file.new.files c.in_ok-input.ensures.files)
    (λ device h. absurd h) (all_right contents is_steady before left stays input form path pool kind opened)
    (all_begun contents is_steady before left stays input form path pool kind opened) comes
