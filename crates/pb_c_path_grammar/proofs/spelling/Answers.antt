use Rattle.pb_c_path_grammar.proofs.PoolLemmas.{names_some, numbers_find}
use Rattle.pb_c_path_grammar.proofs.SpelledLemmas.{spelled_back}
use Rattle.pb_c_path_grammar.proofs.spelling.Goals as goal

pub returns : goal.returns
returns c pool is_pool m path ss is = spelled_back pool m (numbers_find pool is_pool) (names_some pool is_pool) is
