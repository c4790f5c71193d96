use Rattle.std.proofs.Common.{rules}
use Rattle.std.proofs.lemmas.List.Sorted.{answers_always}
use Rattle.pb_schema.proofs.NumberLemmas.{search_found, search_none, none_behind}
use Rattle.pb_schema.proofs.tables.numbers.place_of.Goals as goal

pub returns-in-Ok-clause-found : goal.returns-in-Ok-clause-found
returns-in-Ok-clause-found c =
    search_found c.args.table.now c.args.number c.in-Ok.at c.in-Ok.ensures.bound (c.in-Ok.ensures.position (λ e. e.0) (answers_always _ _ _ (λ f a r q k. search rules)))

pub returns-in-Err-clause-none : goal.returns-in-Err-clause-none
returns-in-Err-clause-none c =
    search_none c.args.table.now c.args.number c.in-Err.field-0 c.requires (c.in-Err.ensures.position (λ e. e.0) (answers_always _ _ _ (λ f a r q k. search rules)))

pub returns-then-table-number-clause-none : goal.returns-then-table-number-clause-none
returns-then-table-number-clause-none c = none_behind c.args.table.now c.args.number c.requires c.if-table-number.true
