use Rattle.std.proofs.Common.{◌≡◌, [], ◌∷◌, ◌++◌, codes, map, string_bytes, ap, sym, ◌∙◌}
use Rattle.std.proofs.lemmas.Result.{err_from_is_err_and}
use Rattle.std.proofs.lemmas.List.{map_push}
use Rattle.pb_source_tokens.specs.Readers.Forms.{mark_reader}
use Rattle.pb_source_tokens.specs.Readers.Phrases.{is_comma, utf8_reader}
use Rattle.pb_source_tokens.proofs.SeparatedSteps.{starts, goes_on, refuses_first, refuses, ends}
use Rattle.pb_source_tokens.proofs.NoSymbols.{no_text}
use Rattle.pb_source_tokens.proofs.parsing.ranges.texts.Goals as goal

pub loop-alloc-init : goal.loop-alloc-init
loop-alloc-init c =
    rw (c.in_ok-push.ensures.items, c.new-texts.ensures.items)
    (starts is_comma (λ _. utf8_reader) (mark_reader (codes ",")) c.args.symbols.now c.args.at c.in_ok-first.after (string_bytes c.in_ok-first.first) c.in_ok-first.ensures.within.0 c.in_ok-first.ensures.within.1 (λ n l. c.in_ok-first.ensures.read))

pub loop-alloc-preserved : goal.loop-alloc-preserved
loop-alloc-preserved c =
    let pushed : map string_bytes c.push-in-loop-alloc.new.self.items ≡ map string_bytes c.loop-alloc.texts.items ++ string_bytes c.in_ok-text.text ∷ [] =
    ap (map string_bytes) c.in_ok-push-2.ensures.items ∙ map_push string_bytes c.loop-alloc.texts.items c.in_ok-text.text in
    rw pushed
    (goes_on is_comma (λ _. utf8_reader) (mark_reader (codes ",")) c.args.symbols.now c.args.at (map string_bytes c.loop-alloc.texts.items) c.loop-alloc.here c.in_ok-text.after (string_bytes c.in_ok-text.text)
    c.loop-alloc.invariant c.in_ok-text.ensures.within.0 c.in_ok-text.ensures.within.1 (sym c.loop-alloc-test.true ∙ c.begins_with_mark.ensures) (λ n l. c.in_ok-text.ensures.read))

pub returns-in_err-first-clause-read : goal.returns-in_err-first-clause-read
returns-in_err-first-clause-read c =
    let p = err_from_is_err_and c.from_residual.result c.from_residual.ensures.1 in
    rw (p.1, p.2) (refuses_first is_comma (λ _. utf8_reader) (mark_reader (codes ",")) c.args.symbols.now c.args.at _ no_text (λ n l. c.in_err-first.ensures.read))

pub returns-in_err-text-clause-read : goal.returns-in_err-text-clause-read
returns-in_err-text-clause-read c =
    let p = err_from_is_err_and c.from_residual-in_err-text.result c.from_residual-in_err-text.ensures.1 in
    rw (p.1, p.2) (refuses is_comma (λ _. utf8_reader) (mark_reader (codes ",")) c.args.symbols.now c.args.at (map string_bytes c.loop-alloc.texts.items) c.loop-alloc.here _
    c.loop-alloc.invariant (sym c.loop-alloc-test.true ∙ c.begins_with_mark.ensures) (λ n l. c.in_err-text.ensures.read))

pub returns : goal.returns
returns c = record {
  within = (c.loop-alloc.invariant.passed, c.loop-alloc.invariant.within);
  read = ends is_comma (λ _. utf8_reader) (mark_reader (codes ",")) c.args.symbols.now c.args.at (map string_bytes c.loop-alloc.texts.items) c.loop-alloc.here c.loop-alloc.invariant (sym c.loop-alloc-test.false ∙ c.begins_with_mark.ensures);
}
