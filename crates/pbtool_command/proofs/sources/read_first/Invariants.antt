use Rattle.std.proofs.Common.{◌≡◌, take, true}
use Rattle.pbtool_command.specs.CompileAnswer.{texts_of}
use Rattle.pbtool_files.specs.FileMap.{KeepsMap}
use Rattle.pbtool_command.specs.Steps.{AbsentOf}
use Rattle.pbtool_command.proofs.sources.read_first.Given as goal

abbrev pub invariant-loop-root : goal.invariant-loop-root
invariant-loop-root g l = record {
  passed : AbsentOf g.F.Files.contents g.F.Files.is_steady l.fn.files (texts_of (take l.root-index l.roots)) l.name;
  kept : g.F.Files.failures l.files ≡ g.F.Files.failures l.fn.files;
  steady : g.F.Files.is_steady l.fn.files ≡ true → g.F.Files.is_steady l.files ≡ true;
  takes_writes : g.F.Files.takes_writes l.fn.files ≡ true → g.F.Files.takes_writes l.files ≡ true;
  files : KeepsMap (g.F.Files.contents l.fn.files) (g.F.Files.contents l.files);
}
