-- The end of the input: a whole message, or the fault that it is cut short.
use Rattle.std.proofs.Common.{◌≡◌, ◌≢◌, ℕ, List, [], Some}
use Rattle.pb_wire.specs.Record.{Record}
use Rattle.pb_wire.specs.Fault.{fault, Place, input_end}
use Rattle.pb_wire.specs.Schema.{records}
use Rattle.pb_wire.specs.Grammar.{Bad, Begins}
use Rattle.pb_wire.specs.declared.fault.Cause.TheVariants.{Truncated}
use Rattle.pb_schema.specs.Types.{Types}
use Rattle.pb_schema.specs.Context.{a_message as in_message, schema_of}
use Rattle.pb_decode_parts.specs.Open.Opened.{below}
use Rattle.pb_decode_parts.specs.Open.Parents.{Part, Parent, path_of, Reached, Scope}
use Rattle.pb_decode_parts.proofs.OpenedLemmas.{cut_at_end}
use Rattle.pb_decode_parts.proofs.AfterLemmas.{reported_here}

-- CUT SHORT: no byte is left, and the open part doesn't end here
pub cut_reported :
    {pool : Types} {m depth levels : ℕ} {base : List Record} {p0 : Place} {parents : List Parent} {scope : Scope} {now : Part} {q : Place}
    → (s : Reached pool m depth levels base p0 parents now scope q) → Begins s.open_now q → q.rest ≡ [] → q.known ≢ Some 0
    → Bad (schema_of pool) (records (in_message m)) depth p0 (below (path_of parents) (fault (input_end q) [] Truncated))
cut_reported {q = q} s goes none open_end = reported_here (fault (input_end q) [] Truncated) s goes (cut_at_end none open_end)
