use Rattle.std.proofs.Common.{sym, ◌∙◌}
use Rattle.pb_wire.specs.Scan.{here}
use Rattle.pb_validate.specs.Contexts.{context_view}
use Rattle.pb_validate.proofs.JudgeLemmas.{refused_is_none}
use Rattle.pb_validate.proofs.scope.Scope.exact_end.Goals as goal

pub returns-clause-none : goal.returns-clause-none
returns-clause-none c = λ none.
    refused_is_none c.record_end.result c.args.self.now.pool.now c.args.self.now.group (context_view c.args.self.now.context) c.args.self.now.levels c.args.tag.number c.args.tag.wire_type
    (here c.args.bytes.now c.args.tag.at c.args.self.now.to) (here c.args.bytes.now c.args.tag.end c.args.self.now.to) c.record_end.new.steps.items
    c.record_end.ensures.fault c.requires.is_tag (sym c.ok.ensures.value ∙ none)
