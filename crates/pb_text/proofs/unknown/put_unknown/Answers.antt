use Rattle.std.proofs.Common.{◌+◌, ◌*◌, ◌≤◌, [], refl, subst, sym, arith}
use Rattle.pb_wire.specs.Record.{group_depth, group_of}
use Rattle.pb_wire.specs.Unknown.{records_of}
use Rattle.pb_output.proofs.SinkLemmas.{puts_none}
use Rattle.pb_text.specs.Unknown.{unknown_lines_as}
use Rattle.pb_text.specs.declared.form.UnknownRecords.{UnknownRecords}
use Rattle.pb_text.proofs.UnknownLemmas.{depth_of_group}
use Rattle.pb_text.proofs.unknown.put_unknown.Goals as goal

pub returns-in-ByNumber : goal.returns-in-ByNumber
returns-in-ByNumber g c = λ within.
    let records = records_of c.args.records.now in
    let deep : c.args.level + 2 * group_depth (group_of records) ≤ 202 = omega (arith, within, depth_of_group records) in
    let put = c.put_records.ensures deep in
    (put.0, subst (λ (u : UnknownRecords). unknown_lines_as u c.args.form.layout c.args.level records put.0) (sym c.in-ByNumber.is) put.1, put.2)

pub returns-in-Omitted : goal.returns-in-Omitted
returns-in-Omitted g c = λ within.
    let records = records_of c.args.records.now in
    ([], subst (λ (u : UnknownRecords). unknown_lines_as u c.args.form.layout c.args.level records []) (sym c.in-Omitted.is) refl, puts_none)
