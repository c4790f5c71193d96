-- Each source is read, or the first that is none is reported.
use Rattle.std.proofs.Common.{◌≡◌, ◌+◌, ◌++◌, ◌∷◌, [], take, map, sym, ap, subst, arith, ◌∙◌}
use Rattle.std.proofs.lemmas.Result.{err_from_is_err_and}
use Rattle.pb_declarations.specs.View.{file_view}
use Rattle.pb_schema.proofs.NameLemmas.{map_push}
use Rattle.pb_c.specs.SourcePool.{Bytes, AreSources}
use Rattle.pb_c.proofs.SourceSteps.{name_at, source_read, unparsed_at}
use Rattle.pb_c.proofs.pool.compile.parse_all.Goals as goal

abbrev none : Bytes
none = record { ref_ptr = (0, 0); now = [] }

pub parse_at-requires : goal.parse_at-requires
parse_at-requires c = name_at c.args.names.now c.loop-i.i none c.requires.1 c.loop-i-test.true

pub returns-in_err-file-clause-refused : goal.returns-in_err-file-clause-refused
returns-in_err-file-clause-refused c =
    let p = err_from_is_err_and c.from_residual.result c.from_residual.ensures.1 in
    let within = c.loop-i-test.true in let names = c.args.names.now in let texts = c.args.texts.now in
    rw (p.1, p.2)
    (unparsed_at c.args.grammar names texts (map file_view c.loop-i.files.items) c.loop-i.i none c.in_err-file.field-0.0 within (omega (arith, within, c.requires.0)) c.loop-i.invariant
    c.in_err-file.ensures.refused)

pub loop-i-preserved : goal.loop-i-preserved
loop-i-preserved c =
    let within = c.loop-i-test.true in let names = c.args.names.now in let texts = c.args.texts.now in
    let so_far = c.loop-i.files.items in let file = c.in_ok-file.file in
    let pushed : map file_view c.push.new.self.items ≡ map file_view so_far ++ file_view file ∷ [] = ap (map file_view) c.in_ok-push.ensures.items ∙ map_push file_view so_far file in
    subst (AreSources c.args.grammar (take (c.loop-i.i + 1) names) (take (c.loop-i.i + 1) texts)) (sym pushed)
    (source_read c.args.grammar names texts (map file_view so_far) c.loop-i.i none (file_view file) within (omega (arith, within, c.requires.0)) c.loop-i.invariant c.in_ok-file.ensures.declared)
