use Rattle.std.proofs.Common.{◌≡◌, drop, map, string_bytes}
use Rattle.pb_value.specs.Data.{joined_datums}
use Rattle.pb_value.specs.View.{values_view}
use Rattle.pb_json_read.specs.WellKnown.{texts}
use Rattle.pb_json_read.proofs.forms.texts.Given as goal

abbrev pub invariant-loop-string : goal.invariant-loop-string
invariant-loop-string l =
    joined_datums (values_view l.values.items) (texts (map string_bytes (drop l.string-index l.strings.items))) ≡ texts (map string_bytes l.strings.items)
