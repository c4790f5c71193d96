use Rattle.std.proofs.Common.{rules}
use Rattle.std.proofs.lemmas.Result.{on_ok_weaker}
use Rattle.pb_value.specs.declared.body.Content.{the_lemmas}
use Rattle.pb_value.proofs.Views.{content_view-Map}
use Rattle.pb_value.proofs.merge.join_map.Goals as goal

pub returns-in-Map-clause-ok : goal.returns-in-Map-clause-ok
returns-in-Map-clause-ok c =
    on_ok_weaker c.put_entries.result (λ put merge k. search (rules, the_lemmas, content_view-Map, put, c.in-Map.is)) c.put_entries.ensures.ok
