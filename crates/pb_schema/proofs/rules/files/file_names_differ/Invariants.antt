use Rattle.std.proofs.Common.{take}
use Rattle.pb_schema.proofs.FileNameLemmas.{names_of, AreNames}
use Rattle.pb_schema.proofs.rules.files.file_names_differ.Given as goal

abbrev pub invariant-loop-file : goal.invariant-loop-file
invariant-loop-file l = AreNames (names_of (take l.file-index l.files)) l.names
