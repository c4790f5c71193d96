use Rattle.pb_link.specs.ToDecls.{decls_of}
use Rattle.pb_link_rules.proofs.WorldLemmas.{a_world}
use Rattle.pb_link.proofs.DeclaredPoolLemmas.{nothing_fails}
use Rattle.pb_link.proofs.PoolAgainLemmas.{pool_again}
use Rattle.pb_link.proofs.declaring.order.declared_pool.Goals as goal

pub returns : goal.returns
returns c = record {
  links = λ ts pool. let w = a_world (decls_of ts) in (w.0, w.1, nothing_fails ts pool w.0 w.1);
  rules = nothing_fails;
  types = pool_again;
}
