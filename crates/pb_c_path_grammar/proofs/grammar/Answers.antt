use Rattle.pb_c_path_grammar.proofs.DeriveLemmas.{path_derived}
use Rattle.pb_c_path_grammar.proofs.PlaceLemmas.{one_place}
use Rattle.pb_c_path_grammar.proofs.ReadLemmas.{path_reads}
use Rattle.pb_c_path_grammar.proofs.grammar.Goals as goal

pub returns-clause-derived : goal.returns-clause-derived
returns-clause-derived c = path_derived

pub returns-clause-read : goal.returns-clause-read
returns-clause-read c pool m path ss is = path_reads pool m is

pub returns-clause-one : goal.returns-clause-one
returns-clause-one c pool m path ss ts is also = one_place pool m is also
