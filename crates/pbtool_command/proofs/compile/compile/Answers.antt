use Rattle.std.proofs.Common.{◌≡◌, [], Ok, Err, map, refl}
use Rattle.std.proofs.lemmas.Result.{err_from_is_err_and}
use Rattle.pb_descr_message.specs.Sets.{set_bytes}
use Rattle.pb_declarations.specs.View.{file_view}
use Rattle.pb_wire.specs.declared.device.DeviceFault.{DeviceFault}
use Rattle.pbtool_command.specs.CompileAnswer.{compiled, places_of, texts_of, untaken}
use Rattle.pbtool_files.specs.FileMap.{IsSaved, IsUnsaved}
use Rattle.pbtool_command.specs.Gathering.{given, nothing_yet}
use Rattle.pbtool_command.specs.Steps.{CompileOf, Fails, IsAt, IsNothing, StopsOf}
use Rattle.pbtool_files.specs.declared.report.Refusal.TheVariants.{Device, Memory}
use Rattle.pbtool_files.proofs.RefusalLemmas.{refuses_map}
use Rattle.pbtool_command.proofs.Coming.{refused_comes, save_comes, unsaved_fails}
use Rattle.pbtool_command.proofs.CompileSteps.{comes_later, set_within, told_too_large, told_unlinked}
use Rattle.pbtool_command.proofs.compile.compile.Goals as goal

pub returns-in_err-gathered-clause-comes : goal.returns-in_err-gathered-clause-comes
returns-in_err-gathered-clause-comes g c =
    let p = err_from_is_err_and c.from_residual.result c.from_residual.ensures.1 in
    let contents = g.F.Files.contents in
    let is_steady = g.F.Files.is_steady in
    let names = texts_of c.args.names.now in
    let right = CompileOf contents is_steady c.args.files.now (places_of c.args.roots) c.args.out.now names in
    rw (p.1, p.2)
    (refused_comes (λ text. text ≡ []) (λ _. ⊥) (IsSaved contents c.args.files.now c.gather.new.files)
    (IsUnsaved contents g.F.Files.failures c.args.files.now c.gather.new.files) right IsNothing c.in_err-gathered.field-0.0 refl
    c.in_err-gathered.ensures.files refl
    (refuses_map (StopsOf contents is_steady c.args.files.now (places_of c.args.roots) given names nothing_yet) right c.in_err-gathered.field-0.0
    (λ a h. untaken h.2 h.3) c.in_err-gathered.ensures.refused))

pub returns-in_err-linked-clause-comes : goal.returns-in_err-linked-clause-comes
returns-in_err-linked-clause-comes g c =
    let p = err_from_is_err_and c.from_residual-in_err-linked.result c.from_residual-in_err-linked.ensures.1 in
    let contents = g.F.Files.contents in
    let is_steady = g.F.Files.is_steady in
    let names = texts_of c.args.names.now in
    rw (p.1, p.2)
    (refused_comes (λ text. text ≡ []) (λ _. ⊥) (IsSaved contents c.args.files.now c.gather.new.files)
    (IsUnsaved contents g.F.Files.failures c.args.files.now c.gather.new.files)
    (CompileOf contents is_steady c.args.files.now (places_of c.args.roots) c.args.out.now names) IsNothing Memory refl c.in_ok-gathered.ensures.files refl
    tt)

pub returns-in_err-resolved-clause-comes : goal.returns-in_err-resolved-clause-comes
returns-in_err-resolved-clause-comes g c =
    let p = err_from_is_err_and c.from_residual-in_err-resolved.result c.from_residual-in_err-resolved.ensures.1 in
    let contents = g.F.Files.contents in
    let is_steady = g.F.Files.is_steady in
    let names = texts_of c.args.names.now in
    let found = c.in_ok-gathered.ensures.gathered in
    let linked = map file_view c.in_ok-linked.linked.items in
    let as_read = rw found.2 at c.in_ok-linked.ensures in
    let why = rw c.deref.ensures.value at c.in_err-resolved.ensures.refused in
    rw p.1
    (refused_comes (λ text. text ≡ []) (λ _. ⊥) (IsSaved contents c.args.files.now c.gather.new.files)
    (IsUnsaved contents g.F.Files.failures c.args.files.now c.gather.new.files)
    (CompileOf contents is_steady c.args.files.now (places_of c.args.roots) c.args.out.now names) IsNothing p.0 refl c.in_ok-gathered.ensures.files refl
    (told_unlinked (IsAt contents is_steady c.args.files.now) (Fails contents is_steady c.args.files.now) (places_of c.args.roots) c.args.out.now names
    found.0 found.1 linked as_read c.in_err-resolved.field-0.0 p.0 p.2 why))

pub bytes_of-requires : goal.bytes_of-requires
bytes_of-requires g c =
    let contents = g.F.Files.contents in
    let is_steady = g.F.Files.is_steady in
    let found = c.in_ok-gathered.ensures.gathered in
    let linked = map file_view c.in_ok-linked.linked.items in
    let as_read = rw found.2 at c.in_ok-linked.ensures in
    let resolves = rw c.deref.ensures.value at c.in_ok-resolved.ensures.resolved in
    rw c.deref-2.ensures.value
    (set_within (IsAt contents is_steady c.args.files.now) (Fails contents is_steady c.args.files.now) (places_of c.args.roots) c.args.out.now
    (texts_of c.args.names.now) found.0 found.1 linked as_read (map file_view c.in_ok-resolved.resolved.items) resolves)

pub returns-in_err-bytes-clause-comes : goal.returns-in_err-bytes-clause-comes
returns-in_err-bytes-clause-comes g c =
    let p = err_from_is_err_and c.from_residual-in_err-bytes.result c.from_residual-in_err-bytes.ensures.1 in
    let contents = g.F.Files.contents in
    let is_steady = g.F.Files.is_steady in
    let names = texts_of c.args.names.now in
    let found = c.in_ok-gathered.ensures.gathered in
    let linked = map file_view c.in_ok-linked.linked.items in
    let as_read = rw found.2 at c.in_ok-linked.ensures in
    let resolves = rw c.deref.ensures.value at c.in_ok-resolved.ensures.resolved in
    let why = rw c.deref-2.ensures.value at c.in_err-bytes.ensures.refused in
    rw (p.1, p.2)
    (refused_comes (λ text. text ≡ []) (λ _. ⊥) (IsSaved contents c.args.files.now c.gather.new.files)
    (IsUnsaved contents g.F.Files.failures c.args.files.now c.gather.new.files)
    (CompileOf contents is_steady c.args.files.now (places_of c.args.roots) c.args.out.now names) IsNothing c.in_err-bytes.field-0.0 refl
    c.in_ok-gathered.ensures.files refl
    (told_too_large (IsAt contents is_steady c.args.files.now) (Fails contents is_steady c.args.files.now) (places_of c.args.roots) c.args.out.now names
    found.0 found.1 linked as_read (map file_view c.in_ok-resolved.resolved.items) c.in_err-bytes.field-0.0 resolves why))

pub returns-in-Ok-clause-comes : goal.returns-in-Ok-clause-comes
returns-in-Ok-clause-comes g c =
    let contents = g.F.Files.contents in
    let is_steady = g.F.Files.is_steady in
    let failures = g.F.Files.failures in
    let right = CompileOf contents is_steady c.args.files.now (places_of c.args.roots) c.args.out.now (texts_of c.args.names.now) in
    let found = c.in_ok-gathered.ensures.gathered in
    let linked = map file_view c.in_ok-linked.linked.items in
    let as_read = rw found.2 at c.in_ok-linked.ensures in
    let resolves = rw c.deref.ensures.value at c.in_ok-resolved.ensures.resolved in
    let made = rw c.deref-2.ensures.value at c.in_ok-bytes.ensures.made in
    let small = rw made.0 at made.1 in
    let bytes = set_bytes (map file_view c.in_ok-resolved.resolved.items) in
    let wrote = rw (c.deref-3.ensures.value, made.0) at c.in-Ok.ensures.map in
    comes_later contents failures c.args.files.now c.gather.new.files c.write_whole.new.self (λ text. text ≡ []) (λ _. ⊥) right IsNothing (Ok tt)
    c.in_ok-gathered.ensures.files c.in_ok-gathered.ensures.kept
    (save_comes contents failures c.gather.new.files c.write_whole.new.self (λ text. text ≡ []) (λ _. ⊥) right IsNothing c.args.out.now bytes
    (compiled found.1 as_read resolves small refl) refl DeviceFault wrote)

pub returns-clause-comes : goal.returns-clause-comes
returns-clause-comes g c =
    let contents = g.F.Files.contents in
    let is_steady = g.F.Files.is_steady in
    let failures = g.F.Files.failures in
    let right = CompileOf contents is_steady c.args.files.now (places_of c.args.roots) c.args.out.now (texts_of c.args.names.now) in
    let found = c.in_ok-gathered.ensures.gathered in
    let linked = map file_view c.in_ok-linked.linked.items in
    let as_read = rw found.2 at c.in_ok-linked.ensures in
    let resolves = rw c.deref.ensures.value at c.in_ok-resolved.ensures.resolved in
    let made = rw c.deref-2.ensures.value at c.in_ok-bytes.ensures.made in
    let small = rw made.0 at made.1 in
    let bytes = set_bytes (map file_view c.in_ok-resolved.resolved.items) in
    let wrote = rw (c.deref-3.ensures.value, made.0) at c.in-Err.ensures.map in
    comes_later contents failures c.args.files.now c.gather.new.files c.write_whole.new.self (λ text. text ≡ []) (λ _. ⊥) right IsNothing
    (Err (Device c.args.out)) c.in_ok-gathered.ensures.files c.in_ok-gathered.ensures.kept
    (unsaved_fails contents failures c.gather.new.files c.write_whole.new.self (λ text. text ≡ []) (λ _. ⊥) right IsNothing c.args.out.now bytes
    (compiled found.1 as_read resolves small refl) refl c.in-Err.field-0 c.in-Err.ensures.failed wrote)
