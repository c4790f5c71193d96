-- They go into the part of their list from the run on that has none.
use Rattle.std.proofs.Common.{List, map, sym, subst}
use Rattle.pb_wire.specs.Scan.{given_at, passed}
use Rattle.pb_wire.specs.Unknown.{records_of}
use Rattle.pb_value.specs.declared.body.Value.{Value}
use Rattle.pb_value.specs.View.{value_view}
use Rattle.pb_decode_parts.specs.declared.tokens.step.Step.TheVariants.{Elements}
use Rattle.pb_decode_parts.specs.Open.Parents.{Part}
use Rattle.pb_decode_parts.specs.Values.Run.{put_each, put_records}
use Rattle.pb_decode_parts.specs.Tokens.After.{After}
use Rattle.pb_decode_parts.proofs.RunLemmas.{run_begins}
use Rattle.pb_decode_parts.proofs.values.run.read_run.Goals as goal

pub returns-clause-put : goal.returns-clause-put
returns-clause-put c =
    λ m depth levels at outer base p0 parents scope now begun.
    subst (λ (z : List Value). After c.args.pool.now m depth levels base p0 parents (Elements c.args.number c.args.kind outer) (put_each c.args.number (map value_view z) (put_records (records_of c.add_elements.new.run.undeclared.items) now)) scope (passed (given_at at c.args.left c.args.bytes.now) c.in_ok-used.used))
    (sym c.shrink_to_fit.ensures.items)
    (c.in_ok-used.ensures.put m depth levels at outer base p0 parents scope now
    (subst (λ (z : Part). After c.args.pool.now m depth levels base p0 parents (Elements c.args.number c.args.kind outer) z scope (given_at at c.args.left c.args.bytes.now))
    (sym (run_begins c.args.number (record { values = c.in_ok-with_capacity.field-0; undeclared = c.new.result }) now c.in_ok-with_capacity.ensures.items c.new.ensures.items)) begun))
