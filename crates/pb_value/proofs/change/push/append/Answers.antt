use Rattle.std.proofs.Common.{rules}
use Rattle.pb_value.specs.declared.body.Content.{the_lemmas}
use Rattle.pb_value.proofs.Views.{content_view-List}
use Rattle.pb_value.proofs.PartViews.{values_view-push}
use Rattle.pb_value.proofs.change.push.append.Goals as goal

pub returns-in_ok-push-in-List-clause-ok : goal.returns-in_ok-push-in-List-clause-ok
returns-in_ok-push-in-List-clause-ok c =
    search (rules, the_lemmas, content_view-List, values_view-push, c.in_ok-push-in-List.ensures.items, c.in-List.is)
