use Rattle.std.proofs.Common.{rules}
use Rattle.std.proofs.lemmas.List.Sorted.{answers_always}
use Rattle.pb_link_names.proofs.ReservedLemmas.{Adjoins, apart_told}
use Rattle.pb_link_names.proofs.marks.reserved.are_apart.Goals as goal

pub returns : goal.returns
returns c = apart_told c.args.spans.now c.is_sorted_by.result (c.is_sorted_by.ensures.cases Adjoins (answers_always _ _ _ (λ f a r q k. search rules)))
