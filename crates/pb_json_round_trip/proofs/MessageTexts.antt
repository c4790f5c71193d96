-- The text of a message is read as the message.
use Rattle.std.proofs.Common.{ℕ, ◌≤◌, List}
use Rattle.pb_schema.specs.Rules.{IsPool}
use Rattle.pb_schema.specs.Types.{Types}
use Rattle.pb_value.specs.Data.{Message}
use Rattle.pb_value.specs.WellFormed.{IsWellFormed}
use Rattle.pb_json.specs.declared.form.Layout.{Layout}
use Rattle.pb_json.specs.declared.form.Names.{Names}
use Rattle.pb_json.specs.JsonText.{IsJsonText}
use Rattle.pb_json.specs.Mapping.{message_json}
use Rattle.pb_json.specs.Given.{NamesGiven}
use Rattle.pb_json_read.specs.declared.rules.JsonRules.{JsonRules}
use Rattle.pb_json_read.specs.Answers.{IsReadBy}
use Rattle.pb_json_round_trip.specs.Messages.{AreMemberNames, IsCovered, NamesAreRead, message_with_one_nan}
use Rattle.pb_json_round_trip.specs.Texts.{json_depth}
use Rattle.pb_json_round_trip.proofs.HereLaws.{message_value, messages_read}
use Rattle.pb_json_round_trip.proofs.TextLaws.{text_read}
use Rattle.pb_json_round_trip.proofs.WellLaws.{well_formed}
use Rattle.pb_json_round_trip.proofs.WrittenLaws.{covered_form}

pub message_text_read : (pool : Types) (names : Names) (layout : Layout) (table : NamesGiven) (rules : JsonRules) → IsPool pool → AreMemberNames names
    → NamesAreRead names table pool → (m : ℕ) (b : Message)
    → IsWellFormed pool m b → IsCovered pool m b → json_depth (message_json pool names 101 m b) ≤ 100
    → (text : List ℕ) → IsJsonText layout 0 (message_json pool names 101 m b) text
    → IsReadBy pool rules table m text (message_with_one_nan b)
message_text_read pool names layout table rules is_pool apt named m b well covered deep text is =
    let r = text_read layout (message_json pool names 101 m b) text (message_value pool is_pool names apt 101 m b well.parts covered) deep is in
    (r.0, r.1, (messages_read pool names table rules is_pool apt named 101 m b well.parts covered r.0.0 r.0.1 r.2).0, well_formed pool m b well, covered_form pool is_pool m b well covered)
