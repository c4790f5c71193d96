use Rattle.std.proofs.Common.{◌≡◌, ◌∙◌, [], ◌∷◌, length, arith}
use Rattle.std.proofs.lemmas.List.{nil_from_length}
use Rattle.std.proofs.lemmas.Result.{err_from_is_err_and}
use Rattle.pb_declarations.specs.View.{file_view}
use Rattle.pbtool_command.specs.CompileAnswer.{places_of}
use Rattle.pbtool_command.specs.Gathering.{imported}
use Rattle.pbtool_command.specs.Reaching.{StopsInside, opened, open_view, reached, stack_of}
use Rattle.pbtool_command.specs.Steps.{StopsOf, TroubleOf}
use Rattle.pbtool_files.proofs.RefusalLemmas.{refuses_map}
use Rattle.pbtool_files.proofs.KnownLemmas.{keeps_then}
use Rattle.pbtool_command.proofs.GatherSteps.{leads_closed, leads_more, leads_stop}
use Rattle.pbtool_command.proofs.gathering.Gathering.close.Goals as goal

pub loop-preserved : goal.loop-preserved
loop-preserved g c =
    let inv = c.loop.invariant in
    let done = c.in_ok-go_on.ensures in
    let f = file_view c.args.file in record {
      leads = leads_more g.F.Files.contents g.F.Files.is_steady c.args.files.now (places_of c.args.roots) c.loop.files inv.files inv.steady (opened f f.imports ∷ [])
          (reached c.args.self.now) c.loop.stack.items c.pop.new.self.items c.in-Some.innermost (stack_of c.go_on.new.stack.items) (reached c.loop.self)
          (reached c.go_on.new.self) inv.leads c.in-Some.ensures.items done.moved;
      kept = done.kept ∙ inv.kept;
      steady = λ s. done.steady (inv.steady s);
      takes_writes = λ s. done.takes_writes (inv.takes_writes s);
      files = keeps_then (g.F.Files.contents c.args.files.now) (g.F.Files.contents c.loop.files) (g.F.Files.contents c.go_on.new.files) inv.files done.files;
    }

pub returns-in_err-go_on-clause-refused : goal.returns-in_err-go_on-clause-refused
returns-in_err-go_on-clause-refused g c =
    let p = err_from_is_err_and c.from_residual-in_err-go_on.result c.from_residual-in_err-go_on.ensures.1 in
    let inv = c.loop.invariant in
    let f = file_view c.args.file in
    rw (p.1, p.2)
    (refuses_map
    (StopsInside (TroubleOf g.F.Files.contents g.F.Files.is_steady c.loop.files (places_of c.args.roots)) (reached c.loop.self) (open_view c.in-Some.innermost).left)
    (StopsOf g.F.Files.contents g.F.Files.is_steady c.args.files.now (places_of c.args.roots) imported f.imports (reached c.args.self.now)) c.in_err-go_on.field-0.0
    (λ a s.
    leads_stop g.F.Files.contents g.F.Files.is_steady c.args.files.now (places_of c.args.roots) c.loop.files inv.files inv.steady f (reached c.args.self.now)
    c.loop.stack.items c.pop.new.self.items c.in-Some.innermost (reached c.loop.self) a inv.leads c.in-Some.ensures.items s) c.in_err-go_on.ensures.refused)

pub returns-in_default-clause-closed : goal.returns-in_default-clause-closed
returns-in_default-clause-closed g c =
    let f = file_view c.args.file in
    let none : length c.loop.stack.items ≡ 0 = omega (arith, c.loop.stack.ok.0, c.in_default.ensures.cases.0) in
    leads_closed g.F.Files.contents g.F.Files.is_steady c.args.files.now (places_of c.args.roots) f (reached c.args.self.now) (reached c.loop.self) c.loop.stack.items
    c.loop.invariant.leads (nil_from_length c.loop.stack.items none)

pub returns-in_err-go_on-clause-files : goal.returns-in_err-go_on-clause-files
returns-in_err-go_on-clause-files g c =
    keeps_then (g.F.Files.contents c.args.files.now) (g.F.Files.contents c.loop.files) (g.F.Files.contents c.go_on.new.files) c.loop.invariant.files
    c.in_err-go_on.ensures.files

pub returns-in_err-go_on-clause-kept : goal.returns-in_err-go_on-clause-kept
returns-in_err-go_on-clause-kept g c =
    let p = err_from_is_err_and c.from_residual-in_err-go_on.result c.from_residual-in_err-go_on.ensures.1 in
    rw (p.1, p.2) (λ none. c.in_err-go_on.ensures.kept none ∙ c.loop.invariant.kept)

pub returns-in_err-go_on-clause-unfailing : goal.returns-in_err-go_on-clause-unfailing
returns-in_err-go_on-clause-unfailing g c = λ s. c.in_err-go_on.ensures.unfailing (c.loop.invariant.steady s) ∙ c.loop.invariant.kept
