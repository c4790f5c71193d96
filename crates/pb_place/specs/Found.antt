-- What is found at a place, as what a caller sees.
use Rattle.pb_value.specs.View.{value_view, values_view, entries_view}
use Rattle.pb_place.specs.At.{Seen, whole, single, elements, pairs}
use Rattle.pb_place.specs.declared.reading.Found.{Found}
use Rattle.pb_place.specs.declared.reading.Found.TheVariants as found

abbrev pub found_view : Found → Seen
found_view (found.Message m) = whole m
found_view (found.Scalar v) = single (value_view v.now)
found_view (found.List vs) = elements (values_view vs.now.items)
found_view (found.Map es) = pairs (entries_view es.now.entries)
