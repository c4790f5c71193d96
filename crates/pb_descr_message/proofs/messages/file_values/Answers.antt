use Rattle.std.proofs.Common.{◌≤◌, map, arith, List, subst}
use Rattle.std.specs.List.{AllByRecursion}
use Rattle.std.proofs.lemmas.Result.{err_from_is_err_and}
use Rattle.pb_value.specs.Data.{levels_of, datums_depth, datums_of}
use Rattle.pb_value.specs.View.{value_view}
use Rattle.pb_declarations.specs.View.{file_view}
use Rattle.pb_descr_message.specs.Writing.{file_body}
use Rattle.pb_schema.proofs.AddLemmas.{take_past}
use Rattle.pb_declarations.specs.Nests.{all_nest}
use Rattle.pb_declarations.specs.Decls.{DeclaredFile}
use Rattle.pb_declarations.specs.declared.decl.FileDecl.{FileDecl}
use Rattle.pb_descr_message.proofs.DepthLemmas.{element_below, cut_further}
use Rattle.pb_descr_message.proofs.NestLemmas.{taken_and_next, written_next}
use Rattle.pb_descr_message.proofs.messages.file_values.Goals as goal

pub returns-in_err-value-clause-refused : goal.returns-in_err-value-clause-refused
returns-in_err-value-clause-refused c =
    let p = err_from_is_err_and c.from_residual-in_err-value.result c.from_residual-in_err-value.ensures.1 in
    let below = element_below file_view file_body c.args.files.now c.loop-file.file-index c.file-item.result (omega arith) c.file-item.is in
    rw (p.1, p.2) (cut_further c.in_err-value.field-0.0 100 (levels_of (file_body (file_view c.file-item.result))) 100
    (datums_depth (datums_of (map file_body (map file_view c.args.files.now)))) (λ deep. omega arith) c.in_err-value.ensures.refused)

pub loop-file-preserved : goal.loop-file-preserved
loop-file-preserved c =
    record {
      written = written_next value_view file_body file_view c.args.files.now c.loop-file.file-index c.file-item.result c.loop-file.values.items c.push.new.self.items c.in_ok-value.value c.loop-file-test.true c.file-item.is c.in_ok-push.ensures.items c.in_ok-value.ensures.written c.loop-file.invariant.written;
      within = taken_and_next (λ (f : DeclaredFile). all_nest f.messages ≤ 99) file_view c.args.files.now c.loop-file.file-index c.file-item.result c.loop-file-test.true c.file-item.is c.loop-file.invariant.within c.in_ok-value.ensures.within;
    }

pub returns-clause-within : goal.returns-clause-within
returns-clause-within c =
    subst (λ (fs : List FileDecl). AllByRecursion (λ (f : DeclaredFile). all_nest f.messages ≤ 99) (map file_view fs)) (take_past c.args.files.now c.loop-file.file-index c.loop-file-test.false) c.loop-file.invariant.within
