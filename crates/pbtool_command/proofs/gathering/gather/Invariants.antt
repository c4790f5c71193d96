use Rattle.std.proofs.Common.{◌≡◌, take, true}
use Rattle.pbtool_command.specs.CompileAnswer.{places_of, texts_of}
use Rattle.pbtool_files.specs.FileMap.{KeepsMap}
use Rattle.pbtool_command.specs.Gathering.{gathered, given, nothing_yet}
use Rattle.pbtool_command.specs.Reaching.{reached}
use Rattle.pbtool_command.specs.Steps.{GathersOf}
use Rattle.pbtool_command.proofs.gathering.gather.Given as goal

abbrev pub invariant-loop-name : goal.invariant-loop-name
invariant-loop-name g l = record {
  so_far : GathersOf g.F.Files.contents g.F.Files.is_steady l.fn.files (places_of l.roots) given (texts_of (take l.name-index l.names)) nothing_yet (gathered (reached l.gathering));
  kept : g.F.Files.failures l.files ≡ g.F.Files.failures l.fn.files;
  steady : g.F.Files.is_steady l.fn.files ≡ true → g.F.Files.is_steady l.files ≡ true;
  takes_writes : g.F.Files.takes_writes l.fn.files ≡ true → g.F.Files.takes_writes l.files ≡ true;
  files : KeepsMap (g.F.Files.contents l.fn.files) (g.F.Files.contents l.files);
}
