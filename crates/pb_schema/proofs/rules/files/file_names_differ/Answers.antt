use Rattle.std.proofs.Common.{◌≡◌, ◌+◌, ◌∙◌, [], ◌∷◌, ◌++◌, ap, sym, refl, subst, take, drop}
use Rattle.std.proofs.lemmas.Bool.{false≢true}
use Rattle.std.proofs.lemmas.List.{take_all}
use Rattle.pb_schema.specs.View.{file_view}
use Rattle.pb_schema.specs.Names.{AllDiffer}
use Rattle.pb_schema.proofs.FileNameLemmas.{names_of, AreNames, one_more, one_again, names_push, names_split}
use Rattle.pb_schema.proofs.rules.files.file_names_differ.Goals as goal

pub loop-file-preserved : goal.loop-file-preserved
loop-file-preserved c =
    let files = c.args.files.now in
    let i = c.loop-file.file-index in
    let f = c.file-item.result in
    let name : c.as_bytes.result.now ≡ (file_view f).name = c.as_bytes.ensures.value ∙ c.as_str.ensures.value in
    subst (λ names. AreNames names c.add_copy.new.self) (sym (names_push files i f c.loop-file-test.true c.file-item.is ∙ ap (λ n. names_of (take i files) ++ n ∷ []) (sym name)))
    (one_more (names_of (take i files)) c.loop-file.names c.as_bytes.result.now c.loop-file.invariant c.add_copy.new.self c.in_ok-is_new.is_new c.in_ok-is_new.ensures.is_new c.if-not-is_new.false c.in_ok-is_new.ensures.names)

pub returns-then-not-is_new : goal.returns-then-not-is_new
returns-then-not-is_new c =
    let files = c.args.files.now in
    let i = c.loop-file.file-index in
    let f = c.file-item.result in
    let name : c.as_bytes.result.now ≡ (file_view f).name = c.as_bytes.ensures.value ∙ c.as_str.ensures.value in
    let rest = names_of (drop (i + 1) files) in
    let split = names_split files (i + 1) ∙ ap (λ l. l ++ rest) (names_push files i f c.loop-file-test.true c.file-item.is ∙ ap (λ n. names_of (take i files) ++ n ∷ []) (sym name)) in (
      λ e. absurd (false≢true e),
      λ all. absurd (one_again (names_of (take i files)) c.loop-file.names c.as_bytes.result.now c.loop-file.invariant rest c.in_ok-is_new.is_new c.in_ok-is_new.ensures.is_new c.if-not-is_new.true (subst AllDiffer split all)),
    )

pub returns : goal.returns
returns c = (
  λ _. subst AllDiffer (ap names_of (take_all c.loop-file.file-index c.args.files.now c.loop-file-test.false)) c.loop-file.invariant.differ,
  λ _. refl,
)
