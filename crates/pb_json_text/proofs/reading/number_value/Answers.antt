use Rattle.std.proofs.Common.{◌≡◌, ◌++◌, ℕ, List, drop, sym, ap, ◌∙◌}
use Rattle.std.proofs.lemmas.Result.{err_from_is_err_and}
use Rattle.pb_json_text.specs.Json.{Json, number}
use Rattle.pb_json_text.specs.Loops.Machine.{after_value, run}
use Rattle.pb_json_text.proofs.ReadingSteps.{stop_as, number_begins}
use Rattle.pb_json_text.proofs.ViewLemmas.{form_view-Number}
use Rattle.std.specs.Prelude.{slice_range}
use Rattle.pb_json_text.proofs.reading.number_value.Goals as goal

pub returns-in_err-end-clause-fault : goal.returns-in_err-end-clause-fault
returns-in_err-end-clause-fault c =
    let b = c.args.input.now in
    let same = c.as_bytes-bytes.ensures.value in
    let p = err_from_is_err_and c.from_residual.result c.from_residual.ensures.1 in
    rw (p.1, p.2) (λ l k. stop_as c.in_err-end.field-0.0 _ _ (number_begins b c.args.at l k c.requires.within c.requires.digit) ((rw same at c.in_err-end.ensures.fault) c.args.at l k))

pub returns-clause-ok : goal.returns-clause-ok
returns-clause-ok c l =
    let b = c.args.input.now in
    let same = c.as_bytes-bytes.ensures.value in
    let w = rw same at c.in_ok-end.ensures.within in
    let end = c.in_ok-end.end in
    let items = rw same at c.in_ok-extend_from_slice.ensures.items in
    let digits : c.extend_from_slice.new.self.items ≡ slice_range b c.args.at end = items ∙ ap (λ (v : List ℕ). v ++ slice_range b c.args.at end) c.new-digits.ensures.items in (
      w.0,
      w.1,
      λ k. number_begins b c.args.at l k c.requires.within c.requires.digit ∙ (rw same at c.in_ok-end.ensures.ok) c.args.at l k
          ∙ ap (λ (j : Json). run (after_value l c.args.at j k) end (drop end b)) (sym (form_view-Number c.extend_from_slice.new.self ∙ ap number digits)),
    )
