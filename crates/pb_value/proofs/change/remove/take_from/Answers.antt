use Rattle.std.proofs.Common.{rules, sym}
use Rattle.pb_value.specs.declared.body.Content.{the_lemmas}
use Rattle.pb_value.proofs.Views.{content_view-Map}
use Rattle.pb_value.proofs.InnerLemmas.{get_entry-entries}
use Rattle.pb_value.proofs.Removed.{entries_view-remove_entry}
use Rattle.pb_value.proofs.change.remove.take_from.Goals as goal

pub returns-in-Map-clause-left : goal.returns-in-Map-clause-left
returns-in-Map-clause-left c =
    let dropped = entries_view-remove_entry c.args.key.now c.in-Map.entries.entries in
    search (rules, the_lemmas, content_view-Map, c.remove.ensures.entries, dropped, c.in-Map.is)

pub returns-in-Map-clause-taken : goal.returns-in-Map-clause-taken
returns-in-Map-clause-taken c =
    let stood = sym (get_entry-entries c.args.key.now c.in-Map.entries.entries) in
    search (rules, the_lemmas, content_view-Map, c.remove.ensures.value, stood, c.in-Map.is)
