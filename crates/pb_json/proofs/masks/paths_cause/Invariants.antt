use Rattle.std.proofs.Common.{◌≡◌, drop}
use Rattle.pb_value.specs.View.{values_view}
use Rattle.pb_json.specs.Held.{strings_of}
use Rattle.pb_json.specs.Masks.{are_paths}
use Rattle.pb_json.proofs.masks.paths_cause.Given as goal

abbrev pub invariant-loop-value : goal.invariant-loop-value
invariant-loop-value l =
    are_paths (strings_of (values_view l.values.items)) ≡ are_paths (strings_of (values_view (drop l.value-index l.values.items)))
