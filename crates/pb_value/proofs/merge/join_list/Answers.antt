use Rattle.std.proofs.Common.{rules}
use Rattle.pb_value.specs.declared.body.Content.{the_lemmas}
use Rattle.pb_value.proofs.Views.{content_view-List}
use Rattle.pb_value.proofs.PartViews.{values_view-append}
use Rattle.pb_value.proofs.merge.join_list.Goals as goal

pub returns-in_ok-append-in-List-clause-ok : goal.returns-in_ok-append-in-List-clause-ok
returns-in_ok-append-in-List-clause-ok c =
    λ merge k. search (rules, the_lemmas, content_view-List, values_view-append, c.in_ok-append-in-List.ensures.items, c.in-List.is)
