use Rattle.std.proofs.Common.{◌≡◌, ◌∙◌, false, sym}
use Rattle.std.proofs.lemmas.Result.{err_from_is_err_and}
use Rattle.pb_declarations.specs.View.{file_view}
use Rattle.std.proofs.Common.{map}
use Rattle.pbtool_command.specs.CompileAnswer.{places_of}
use Rattle.pbtool_command.specs.Gathering.{is_known}
use Rattle.pb_names.specs.NameSets.{names_in}
use Rattle.pbtool_command.specs.Reaching.{reached}
use Rattle.pbtool_files.proofs.KnownLemmas.{keeps_then}
use Rattle.pbtool_command.proofs.GatherSteps.{given_inside, given_known, given_read, given_refused, name_reached}
use Rattle.pbtool_command.proofs.gathering.Gathering.take_given.Goals as goal

pub returns-then-contains-clause-taken : goal.returns-then-contains-clause-taken
returns-then-contains-clause-taken g c =
    let known = rw c.as_bytes.ensures.value at c.contains.ensures in
    given_known g.F.Files.contents g.F.Files.is_steady c.args.files.now (places_of c.args.roots) c.args.name.now (reached c.args.self.now) (sym known ∙ c.if-contains.true)

pub returns-in_err-file-clause-refused : goal.returns-in_err-file-clause-refused
returns-in_err-file-clause-refused g c =
    let p = err_from_is_err_and c.from_residual.result c.from_residual.ensures.1 in
    let known = rw c.as_bytes.ensures.value at c.contains.ensures in
    rw (p.1, p.2)
    (given_refused g.F.Files.contents g.F.Files.is_steady c.args.files.now (places_of c.args.roots) c.args.name.now (reached c.args.self.now) c.in_err-file.field-0.0
    (sym known ∙ c.if-contains.false) c.in_err-file.ensures.refused)

pub returns-in_err-close-clause-refused : goal.returns-in_err-close-clause-refused
returns-in_err-close-clause-refused g c =
    let p = err_from_is_err_and c.from_residual-in_err-close.result c.from_residual-in_err-close.ensures.1 in
    let known = rw c.as_bytes.ensures.value at c.contains.ensures in
    let unknown : is_known (reached c.args.self.now) c.args.name.now ≡ false = sym known ∙ c.if-contains.false in
    let added = rw c.as_bytes-2.ensures.value at c.in_ok-add_name.ensures in
    rw (p.1, p.2)
    (given_inside g.F.Files.contents g.F.Files.is_steady c.args.files.now (places_of c.args.roots) c.args.name.now (reached c.args.self.now) c.read_given.new.files
    c.in_ok-file.ensures.files c.in_ok-file.ensures.steady (file_view c.in_ok-file.file) _ unknown c.in_ok-file.ensures.read
    (name_reached (names_in c.args.self.now.names) (names_in c.add_name.new.names) (map file_view c.args.self.now.files.items) c.args.name.now (added unknown))
    c.in_err-close.field-0.0 c.in_err-close.ensures.refused)

pub returns-clause-taken : goal.returns-clause-taken
returns-clause-taken g c =
    let known = rw c.as_bytes.ensures.value at c.contains.ensures in
    let unknown : is_known (reached c.args.self.now) c.args.name.now ≡ false = sym known ∙ c.if-contains.false in
    let added = rw c.as_bytes-2.ensures.value at c.in_ok-add_name.ensures in
    given_read g.F.Files.contents g.F.Files.is_steady c.args.files.now (places_of c.args.roots) c.args.name.now (reached c.args.self.now) c.read_given.new.files
    c.in_ok-file.ensures.files c.in_ok-file.ensures.steady (file_view c.in_ok-file.file) _ unknown c.in_ok-file.ensures.read
    (name_reached (names_in c.args.self.now.names) (names_in c.add_name.new.names) (map file_view c.args.self.now.files.items) c.args.name.now (added unknown))
    (reached c.close.new.self) c.in_ok-close.ensures.closed

pub returns-clause-files : goal.returns-clause-files
returns-clause-files g c =
    keeps_then (g.F.Files.contents c.args.files.now) (g.F.Files.contents c.read_given.new.files) (g.F.Files.contents c.close.new.files) c.in_ok-file.ensures.files
    c.in_ok-close.ensures.files
