use Rattle.std.proofs.Common.{◌≡◌, ◌+◌, ◌*◌, [], drop}
use Rattle.pb_value.specs.View.{values_view, entries_view, fields_view}
use Rattle.pb_json.specs.Json.{array, object}
use Rattle.pb_json.specs.JsonText.{IsJsonText, AreElements, AreMembers}
use Rattle.pb_json.specs.Mapping.{elements_json, entries_json, fields_json, message_json}
use Rattle.pb_json.proofs.PrintLemmas.{IsLeft}
use Rattle.pb_output.specs.Sink.{Puts}
use Rattle.pb_json.proofs.messages.+json.Given as goal

abbrev pub decreases-put_message : goal.decreases-put_message
decreases-put_message g l = 8 * l.at.levels

abbrev pub decreases-put_here : goal.decreases-put_here
decreases-put_here g l = 8 * l.at.levels + 7

abbrev pub decreases-put_object : goal.decreases-put_object
decreases-put_object g l = 8 * l.at.levels + 6

abbrev pub decreases-put_members : goal.decreases-put_members
decreases-put_members g l = 8 * l.at.levels + 5

abbrev pub decreases-put_any : goal.decreases-put_any
decreases-put_any g l = 8 * l.at.levels + 6

abbrev pub decreases-put_opened : goal.decreases-put_opened
decreases-put_opened g l = 8 * l.at.levels + 5

abbrev pub decreases-put_form : goal.decreases-put_form
decreases-put_form g l = 8 * l.at.levels + 4

abbrev pub decreases-put_only : goal.decreases-put_only
decreases-put_only g l = 8 * l.at.levels + 6

abbrev pub decreases-put_content : goal.decreases-put_content
decreases-put_content g l = 8 * l.at.levels + 4

abbrev pub decreases-put_values : goal.decreases-put_values
decreases-put_values g l = 8 * l.at.levels + 3

abbrev pub decreases-put_entries : goal.decreases-put_entries
decreases-put_entries g l = 8 * l.at.levels + 3

abbrev pub decreases-put_value : goal.decreases-put_value
decreases-put_value g l = 8 * l.at.levels + 2

abbrev pub invariant-put_members-loop-number : goal.invariant-put_members-loop-number
invariant-put_members-loop-number g l =
    IsLeft g.O.Output.written g.O.Output.failures l.fn.out l.out l.fn.sink l.sink
    (AreMembers l.form.layout l.at.indent l.is_first (fields_json l.context.pool.now l.form.names
    (message_json l.context.pool.now l.form.names l.at.levels) l.id.0 (fields_view l.number-iterator)))
    (AreMembers l.form.layout l.at.indent l.fn.is_first (fields_json l.context.pool.now l.form.names
    (message_json l.context.pool.now l.form.names l.at.levels) l.id.0 (fields_view l.fields.entries)))

abbrev pub invariant-put_values-loop-value : goal.invariant-put_values-loop-value
invariant-put_values-loop-value g l =
    IsLeft g.O.Output.written g.O.Output.failures l.fn.out l.out l.fn.sink l.sink
    (AreElements l.layout l.at.indent l.is_first (elements_json l.context.pool.now l.context.form.names
    (message_json l.context.pool.now l.context.form.names l.at.levels) l.kind (values_view (drop l.value-index l.values.items))))
    (IsJsonText l.layout l.at.indent (array (elements_json l.context.pool.now l.context.form.names
    (message_json l.context.pool.now l.context.form.names l.at.levels) l.kind (values_view l.values.items))))

abbrev pub invariant-put_entries-loop-key : goal.invariant-put_entries-loop-key
invariant-put_entries-loop-key g l =
    IsLeft g.O.Output.written g.O.Output.failures l.fn.out l.out l.fn.sink l.sink
    (AreMembers l.layout l.at.indent l.is_first (entries_json l.context.pool.now l.context.form.names
    (message_json l.context.pool.now l.context.form.names l.at.levels) l.kind (entries_view l.key-iterator)))
    (IsJsonText l.layout l.at.indent (object (entries_json l.context.pool.now l.context.form.names
    (message_json l.context.pool.now l.context.form.names l.at.levels) l.kind (entries_view l.entries.entries))))

abbrev pub invariant-put_only-loop-number : goal.invariant-put_only-loop-number
invariant-put_only-loop-number g l =
    (l.number-iterator ≡ l.fields.entries) × Puts g.O.Output.written g.O.Output.failures l.fn.out l.out l.fn.sink l.sink []
