use Rattle.std.proofs.Common.{◌≡◌, ◌∙◌, false, ap, rules}
use Rattle.pb_schema.specs.Scalar.{boolean}
use Rattle.pb_value.specs.Data.{Datum, Entries, put_entry, scalar}
use Rattle.pb_value.specs.View.{entries_view, key_view, value_view}
use Rattle.pb_value.specs.declared.body.Value.{the_lemmas as value_lemmas}
use Rattle.pb_value.specs.declared.body.Value.TheVariants as value
use Rattle.pb_value.proofs.PartViews.{entries_view-insert_entry}
use Rattle.pb_json_read.proofs.maps.put_some.Goals as goal

false_seen : value_view (value.Bool false) ≡ scalar (boolean false)
false_seen = search (rules, value_lemmas)

pub returns-in_ok-insert-in-Some-clause-put : goal.returns-in_ok-insert-in-Some-clause-put
returns-in_ok-insert-in-Some-clause-put c = λ fits.
    let put = entries_view-insert_entry fits.0.0 c.args.key c.in-Some.value c.args.entries.now.map.entries fits.0.1 fits.0.2 in
    rw (c.in-Some.is, c.in_ok-insert-in-Some.ensures.entries) (ap (λ (es : Entries). record { entries = es; passed = entries_view c.args.entries.now.passed.entries }) put)

pub returns-in_ok-insert-in-None-clause-put : goal.returns-in_ok-insert-in-None-clause-put
returns-in_ok-insert-in-None-clause-put c = λ fits.
    let all = c.args.entries.now in
    let put = entries_view-insert_entry fits.1.0 c.args.key (value.Bool false) all.passed.entries fits.1.1 fits.1.2
    ∙ ap (λ (d : Datum). put_entry (key_view c.args.key) d (entries_view all.passed.entries)) false_seen in
    rw (c.in-None.is, c.in_ok-insert-in-None.ensures.entries) (ap (λ (es : Entries). record { entries = entries_view all.map.entries; passed = es }) put)
