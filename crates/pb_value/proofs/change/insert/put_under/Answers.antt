use Rattle.std.proofs.Common.{rules, sym}
use Rattle.pb_value.specs.declared.body.Content.{the_lemmas}
use Rattle.pb_value.proofs.Views.{content_view-Map}
use Rattle.pb_value.proofs.PartViews.{entries_view-insert_entry}
use Rattle.pb_value.proofs.InnerLemmas.{get_entry-entries}
use Rattle.pb_value.proofs.change.insert.put_under.Goals as goal

pub returns-in_ok-insert-in-Map-clause-ok : goal.returns-in_ok-insert-in-Map-clause-ok
returns-in_ok-insert-in-Map-clause-ok c =
    let fit = rw (c.in-Map.is, content_view-Map) at c.requires in
    let put = entries_view-insert_entry fit.0 c.args.key c.args.value c.in-Map.entries.entries fit.1 fit.2 in
    search (rules, the_lemmas, content_view-Map, c.in_ok-insert-in-Map.ensures.entries, put, c.in-Map.is)

pub returns-in_ok-insert-in-Map-clause-stood : goal.returns-in_ok-insert-in-Map-clause-stood
returns-in_ok-insert-in-Map-clause-stood c =
    let stood = sym (get_entry-entries c.args.key c.in-Map.entries.entries) in
    search (rules, the_lemmas, content_view-Map, c.in_ok-insert-in-Map.ensures.old, stood, c.in-Map.is)
