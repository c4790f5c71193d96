use Rattle.std.proofs.Common.{rules}
use Rattle.pb_value.specs.declared.body.Content.{the_lemmas}
use Rattle.pb_value.proofs.Views.{content_view-List}
use Rattle.pb_value.proofs.change.element.put_in.Goals as goal

pub returns-in-List-clause-left : goal.returns-in-List-clause-left
returns-in-List-clause-left c = search (rules, the_lemmas, content_view-List, c.put_in_list.ensures.left, c.in-List.is)

pub returns-in-List-clause-taken : goal.returns-in-List-clause-taken
returns-in-List-clause-taken c = search (rules, the_lemmas, content_view-List, c.put_in_list.ensures.taken, c.in-List.is)
