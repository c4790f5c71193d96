use Rattle.std.proofs.Common.{◌∙◌, ℕ, List, [], map, refl, subst, sym, ap}
use Rattle.std.specs.Borrow.{Bor}
use Rattle.std.proofs.lemmas.List.{take_all}
use Rattle.std.proofs.lemmas.Result.{err_from_is_err_and}
use Rattle.pb_declarations.specs.View.{file_view}
use Rattle.pb_declarations.specs.declared.decl.FileDecl.{FileDecl}
use Rattle.pbtool_command.specs.CompileAnswer.{places_of, texts_of}
use Rattle.pb_names.specs.NameSets.{names_in}
use Rattle.pbtool_command.specs.Gathering.{Gathered, gathered, given, none_left, nothing_yet}
use Rattle.pbtool_command.specs.Reaching.{reached}
use Rattle.pbtool_command.specs.Steps.{GathersOf}
use Rattle.pbtool_files.proofs.KnownLemmas.{keeps_same, keeps_then}
use Rattle.pbtool_command.proofs.GatherSteps.{given_more, given_stops, record_of}
use Rattle.pbtool_command.proofs.gathering.gather.Goals as goal

pub loop-name-init : goal.loop-name-init
loop-name-init g c = record {
  so_far = subst (λ (k : Gathered). GathersOf g.F.Files.contents g.F.Files.is_steady c.args.files.now (places_of c.args.roots) given [] nothing_yet (gathered k))
      (ap (λ (l : List (List ℕ)). record_of l []) (sym c.new.ensures) ∙ ap (λ (fs : List FileDecl). record_of (names_in c.new.result) (map file_view fs)) (sym c.new-2.ensures.items))
      none_left;
  kept = refl;
  steady = λ s. s;
  takes_writes = λ s. s;
  files = keeps_same (g.F.Files.contents c.args.files.now);
}

pub loop-name-preserved : goal.loop-name-preserved
loop-name-preserved g c =
    let inv = c.loop-name.invariant in
    let done = c.in_ok-take_given.ensures in record {
      so_far = given_more g.F.Files.contents g.F.Files.is_steady c.args.files.now (places_of c.args.roots) c.loop-name.files inv.files inv.steady c.args.names.now
          c.loop-name.name-index _ (reached c.loop-name.gathering) (reached c.take_given.new.self) c.loop-name-test.true inv.so_far done.taken;
      kept = done.kept ∙ inv.kept;
      steady = λ s. done.steady (inv.steady s);
      takes_writes = λ s. done.takes_writes (inv.takes_writes s);
      files = keeps_then (g.F.Files.contents c.args.files.now) (g.F.Files.contents c.loop-name.files) (g.F.Files.contents c.take_given.new.files) inv.files done.files;
    }

pub returns-in_err-take_given-clause-refused : goal.returns-in_err-take_given-clause-refused
returns-in_err-take_given-clause-refused g c =
    let p = err_from_is_err_and c.from_residual.result c.from_residual.ensures.1 in
    let inv = c.loop-name.invariant in
    rw (p.1, p.2)
    (given_stops g.F.Files.contents g.F.Files.is_steady c.args.files.now (places_of c.args.roots) c.loop-name.files inv.files inv.steady c.args.names.now
    c.loop-name.name-index _ (reached c.loop-name.gathering) c.in_err-take_given.field-0.0 c.loop-name-test.true inv.so_far c.in_err-take_given.ensures.refused)

pub returns-clause-gathered : goal.returns-clause-gathered
returns-clause-gathered g c = (
  reached c.loop-name.gathering,
  subst (λ (l : List (Bor (List ℕ))). GathersOf g.F.Files.contents g.F.Files.is_steady c.args.files.now (places_of c.args.roots) given (texts_of l) nothing_yet (gathered (reached c.loop-name.gathering)))
      (take_all c.loop-name.name-index c.args.names.now c.loop-name-test.false) c.loop-name.invariant.so_far,
  refl,
)
