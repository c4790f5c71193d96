use Rattle.std.proofs.Common.{ap₂}
use Rattle.pb_value.specs.Data.{Entries}
use Rattle.pb_json_read.specs.Steps.{Entered}
use Rattle.pb_json_read.proofs.EntryLemmas.{no_entries_view}
use Rattle.pb_json_read.proofs.construction.Entries.new.Goals as goal

abbrev entered : Entries → Entries → Entered
entered es ps = record { entries = es; passed = ps }

pub returns : goal.returns
returns c =
    ap₂ entered (no_entries_view c.new.result.entries c.new.ensures.len) (no_entries_view c.new-2.result.entries c.new-2.ensures.len)
