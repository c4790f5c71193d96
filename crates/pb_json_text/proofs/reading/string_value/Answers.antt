use Rattle.std.proofs.Common.{drop, sym, ap, ◌∙◌, arith}
use Rattle.pb_json_text.specs.Json.{Json}
use Rattle.pb_json_text.specs.Loops.Machine.{after_value, as_value, run}
use Rattle.pb_json_text.proofs.ReadingSteps.{string_begins}
use Rattle.pb_json_text.proofs.ViewLemmas.{form_view-String}
use Rattle.std.proofs.lemmas.Str.{IsCharBoundary-after_ascii}
use Rattle.pb_json_text.proofs.reading.string_value.Goals as goal

pub string-requires-clause-boundary : goal.string-requires-clause-boundary
string-requires-clause-boundary c = IsCharBoundary-after_ascii c.args.input.now c.args.at c.utf8.input c.requires.within (let q = c.requires.quote in omega arith)

pub returns-clause-ok : goal.returns-clause-ok
returns-clause-ok c l =
    let b = c.args.input.now in
    let end = c.in_ok-text.end in
    let w = c.in_ok-text.ensures.within in
    let w0 = w.0 in (
      omega arith,
      w.1,
      λ k. string_begins b c.args.at l k c.requires.within c.requires.quote ∙ c.in_ok-text.ensures.ok c.args.at as_value l k
          ∙ ap (λ (j : Json). run (after_value l c.args.at j k) end (drop end b)) (sym (form_view-String c.in_ok-text.text)),
    )
