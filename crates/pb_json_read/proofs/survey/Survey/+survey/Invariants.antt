use Rattle.pb_json_read.specs.Tables.{AreTables}
use Rattle.pb_json_read.proofs.survey.Survey.+survey.Given as goal

abbrev pub invariant-visit_members-loop-member : goal.invariant-visit_members-loop-member
invariant-visit_members-loop-member l = AreTables l.self.pool.now l.self.names.now l.tables

abbrev pub invariant-visit_elements-loop-item : goal.invariant-visit_elements-loop-item
invariant-visit_elements-loop-item l = AreTables l.self.pool.now l.self.names.now l.tables

abbrev pub invariant-visit_entries-loop-member : goal.invariant-visit_entries-loop-member
invariant-visit_entries-loop-member l = AreTables l.self.pool.now l.self.names.now l.tables

abbrev pub invariant-visit_tagged-loop-member : goal.invariant-visit_tagged-loop-member
invariant-visit_tagged-loop-member l = AreTables l.self.pool.now l.self.names.now l.tables
