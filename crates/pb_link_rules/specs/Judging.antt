-- What a judge reads.
use Rattle.std.specs.Prelude.{List, [], ◌∷◌, Bool, not, if◌then◌else◌, Option, Some, None}
use Rattle.pb_link_rules.specs.declared.cause.LinkCause.{LinkCause}
use Rattle.pb_declarations.specs.Decls.{DeclaredFile}
use Rattle.pb_link_names.specs.Declarations.{Declaration}
use Rattle.pb_link_names.specs.Sees.{Sight}
use Rattle.pb_link_rules.specs.Rules.{World}

abbrev pub world_of : List DeclaredFile → List Declaration → Sight → World
world_of files ds s = record { declared = ds; sight = s; files = files }

-- the first cause whose rule does not hold
abbrev pub first_failing : List (LinkCause × Bool) → Option LinkCause
first_failing [] = None
first_failing (r ∷ rs) = if not r.1 then Some r.0 else first_failing rs
