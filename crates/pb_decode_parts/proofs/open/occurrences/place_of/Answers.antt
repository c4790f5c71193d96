use Rattle.std.proofs.Common.{rules}
use Rattle.std.proofs.lemmas.List.Sorted.{answers_always}
use Rattle.pb_decode_parts.proofs.CountLemmas.{searched}
use Rattle.pb_decode_parts.proofs.open.occurrences.place_of.Goals as goal

pub returns-in_default-clause-found : goal.returns-in_default-clause-found
returns-in_default-clause-found c =
    (searched c.args.run.now c.requires c.args.number _ c.binary_search_by_key.ensures.bound (c.binary_search_by_key.ensures.position (λ entry. entry.0) (answers_always _ _ _ (λ f a r q k. search rules)))).found

pub returns-in_default-clause-absent : goal.returns-in_default-clause-absent
returns-in_default-clause-absent c =
    (searched c.args.run.now c.requires c.args.number _ c.binary_search_by_key.ensures.bound (c.binary_search_by_key.ensures.position (λ entry. entry.0) (answers_always _ _ _ (λ f a r q k. search rules)))).absent
