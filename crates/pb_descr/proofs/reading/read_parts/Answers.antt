use Rattle.std.proofs.Common.{◌≤◌, ◌+◌, List, [], length, map, sym, subst, arith, rules}
use Rattle.pb_wire.specs.Limits.{full}
use Rattle.pb_declarations.specs.View.{file_view}
use Rattle.pb_declarations.specs.declared.decl.FileDecl.{FileDecl}
use Rattle.pb_descr_message.specs.Sets.{IsSetOf}
use Rattle.pb_descr_message.proofs.JoinedSets.{no_set, part_added}
use Rattle.pb_descr.proofs.reading.read_parts.Goals as goal

pub loop-at-init : goal.loop-at-init
loop-at-init c = (omega arith, subst (λ (l : List FileDecl). IsSetOf full [] (map file_view l)) (sym c.new-files.ensures.items) no_set)

pub loop-at-preserved : goal.loop-at-preserved
loop-at-preserved c =
    let fits : c.loop-at.at + c.part_end-end.result ≤ length c.args.bytes.now = search rules in
    let short : length c.args.bytes.now ≤ full.bytes = search rules in (
      fits,
      part_added c.args.bytes.now c.loop-at.at c.part_end-end.result (map file_view c.loop-at.files.items) (map file_view c.add_part.new.files.items) short c.loop-at.invariant.1
          (c.in_ok-add_part.ensures c.if-not-branch.false),
    )
