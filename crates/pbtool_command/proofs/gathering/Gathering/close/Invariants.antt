use Rattle.std.proofs.Common.{◌≡◌, [], ◌∷◌, true}
use Rattle.pb_declarations.specs.View.{file_view}
use Rattle.pbtool_command.specs.CompileAnswer.{places_of}
use Rattle.pbtool_files.specs.FileMap.{KeepsMap}
use Rattle.pbtool_command.specs.Reaching.{opened, reached, stack_of}
use Rattle.pbtool_command.proofs.GatherSteps.{LeadsTo}
use Rattle.pbtool_command.proofs.gathering.Gathering.close.Given as goal

abbrev pub invariant-loop : goal.invariant-loop
invariant-loop g l = record {
  leads : LeadsTo g.F.Files.contents g.F.Files.is_steady l.fn.files (places_of l.roots) (opened (file_view l.fn.file) (file_view l.fn.file).imports ∷ []) (reached l.fn.self)
      (stack_of l.stack.items) (reached l.self);
  kept : g.F.Files.failures l.files ≡ g.F.Files.failures l.fn.files;
  steady : g.F.Files.is_steady l.fn.files ≡ true → g.F.Files.is_steady l.files ≡ true;
  takes_writes : g.F.Files.takes_writes l.fn.files ≡ true → g.F.Files.takes_writes l.files ≡ true;
  files : KeepsMap (g.F.Files.contents l.fn.files) (g.F.Files.contents l.files);
}
