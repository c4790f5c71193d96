use Rattle.std.proofs.Common.{◌≡◌, ℕ, List, ◌++◌, drop}
use Rattle.std.specs.List.{flat_map}
use Rattle.pb_value.specs.View.{values_view}
use Rattle.pb_json.specs.Held.{strings_of}
use Rattle.pb_json.specs.JsonText.{string_byte}
use Rattle.pb_json.specs.Masks.{mask_text}
use Rattle.pb_json.proofs.PathLemmas.{paths_left}
use Rattle.pb_output.specs.Sink.{Puts}
use Rattle.pb_json.proofs.masks.put_paths.Given as goal

abbrev pub invariant-loop-value : goal.invariant-loop-value
invariant-loop-value g l =
    (front : List ℕ)
    × (front ++ paths_left l.is_first (strings_of (values_view (drop l.value-index l.values.items))) ≡ flat_map string_byte (mask_text (strings_of (values_view l.values.items))))
    × Puts g.O.Output.written g.O.Output.failures l.fn.out l.out l.fn.sink l.sink front
