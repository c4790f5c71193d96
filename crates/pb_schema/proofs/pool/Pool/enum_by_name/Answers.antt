use Rattle.std.proofs.Common.{sym, ap, ◌∙◌}
use Rattle.pb_names.specs.NameSets.{names_in}
use Rattle.pb_schema.specs.Types.{Types}
use Rattle.pb_schema.specs.Names.{enum_names}
use Rattle.pb_schema.specs.Tables.{place_of}
use Rattle.pb_schema.proofs.pool.Pool.enum_by_name.Goals as goal

pub returns-in-Some-clause-found : goal.returns-in-Some-clause-found
returns-in-Some-clause-found c =
    sym c.in-Some.is ∙ c.index_of.ensures ∙ ap (λ q. place_of q (names_in c.self.inside.tables.enums)) c.as_bytes.ensures.value ∙ ap (place_of c.args.name.now) c.self.invariant.1.enums ∙ ap (λ (ts : Types). place_of c.args.name.now (enum_names ts)) c.self.view_is

pub returns-in-None-clause-found : goal.returns-in-None-clause-found
returns-in-None-clause-found c =
    sym c.in-None.is ∙ c.index_of.ensures ∙ ap (λ q. place_of q (names_in c.self.inside.tables.enums)) c.as_bytes.ensures.value ∙ ap (place_of c.args.name.now) c.self.invariant.1.enums ∙ ap (λ (ts : Types). place_of c.args.name.now (enum_names ts)) c.self.view_is
