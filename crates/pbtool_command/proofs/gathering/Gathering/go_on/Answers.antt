use Rattle.std.proofs.Common.{◌≡◌, ◌∙◌, ◌+◌, [], ◌∷◌, length, map, drop, sym, ap, ltb-true, ltb-false}
use Rattle.std.specs.Prelude.{string_bytes}
use Rattle.std.proofs.lemmas.List.{map-append}
use Rattle.std.proofs.lemmas.Result.{err_from_is_err_and}
use Rattle.pb_declarations.specs.View.{file_view}
use Rattle.pbtool_files.specs.Answer.{Answer}
use Rattle.pbtool_command.specs.CompileAnswer.{places_of, told_of}
use Rattle.pbtool_command.specs.Gathering.{Trouble}
use Rattle.pb_names.specs.NameSets.{names_in}
use Rattle.pbtool_command.specs.Reaching.{RefusesImport, StopsInside, open_view, reached}
use Rattle.pbtool_command.specs.Steps.{AbsentOf, DeclaredOf, TroubleOf}
use Rattle.pbtool_files.proofs.RefusalLemmas.{refuses_map}
use Rattle.pbtool_command.proofs.GatherSteps.{go_closed, go_found, left_of, record_of}
use Rattle.pbtool_command.proofs.gathering.Gathering.go_on.Goals as goal

pub returns-in_default-clause-moved : goal.returns-in_default-clause-moved
returns-in_default-clause-moved g c =
    let o = c.args.innermost in
    let lookup = rw c.deref.ensures.value at c.in_default.ensures.lookup in
    go_closed (AbsentOf g.F.Files.contents g.F.Files.is_steady c.args.files.now (places_of c.args.roots).roots)
    (DeclaredOf g.F.Files.contents g.F.Files.is_steady c.args.files.now (places_of c.args.roots)) (reached c.args.self.now)
    (record_of (names_in c.args.self.now.names) (map file_view c.push.new.self.items)) o c.args.stack.now.items
    (ltb-false o.next (length o.file.imports.items) (sym lookup.0))
    (ap (record_of (names_in c.args.self.now.names)) (ap (map file_view) c.in_ok-push.ensures.items ∙ map-append file_view c.args.self.now.files.items (o.file ∷ [])))

pub returns-in_err-found-clause-refused : goal.returns-in_err-found-clause-refused
returns-in_err-found-clause-refused g c =
    let p = err_from_is_err_and c.from_residual-in_err-found.result c.from_residual-in_err-found.ensures.1 in
    let o = c.args.innermost in
    let lookup = rw c.deref.ensures.value at c.in-Some.ensures.lookup in
    let left = left_of o c.in-Some.name.now (ltb-true o.next (length o.file.imports.items) (sym lookup.0)) lookup.1 in
    let told = rw c.as_str.ensures.value at c.in_err-found.ensures.refused in
    rw (p.1, p.2)
    (refuses_map
    (λ (a : Answer). (t : Trouble)
    × RefusesImport (TroubleOf g.F.Files.contents g.F.Files.is_steady c.args.files.now (places_of c.args.roots)) (reached c.args.self.now) (string_bytes c.in-Some.name.now) t
    × (a ≡ told_of (string_bytes c.in-Some.name.now) t))
    (StopsInside (TroubleOf g.F.Files.contents g.F.Files.is_steady c.args.files.now (places_of c.args.roots)) (reached c.args.self.now) (open_view o).left)
    c.in_err-found.field-0.0 (λ a h. (string_bytes c.in-Some.name.now, drop (o.next + 1) (map string_bytes o.file.imports.items), h.0, left, h.1, h.2)) told)

pub returns-clause-moved : goal.returns-clause-moved
returns-clause-moved g c =
    let o = c.args.innermost in
    let lookup = rw c.deref.ensures.value at c.in-Some.ensures.lookup in
    let finds = rw c.as_str.ensures.value at c.in_ok-found.ensures.found in
    go_found (AbsentOf g.F.Files.contents g.F.Files.is_steady c.args.files.now (places_of c.args.roots).roots)
    (DeclaredOf g.F.Files.contents g.F.Files.is_steady c.args.files.now (places_of c.args.roots)) (reached c.args.self.now) (reached c.find_import.new.self) o
    c.in-Some.name.now (ltb-true o.next (length o.file.imports.items) (sym lookup.0)) lookup.1 c.args.stack.now.items c.in_ok-found.found c.push-2.new.self.items
    c.open_found.new.stack.items c.in_ok-push-2.ensures.items c.in_ok-open_found.ensures finds
