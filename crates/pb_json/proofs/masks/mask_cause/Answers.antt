use Rattle.std.proofs.Common.{◌∙◌, ap, List, ℕ}
use Rattle.pb_value.proofs.FieldViews.{get_field-found}
use Rattle.pb_json.specs.Masks.{are_paths}
use Rattle.pb_json.specs.Refusals.{unless}
use Rattle.pb_json.specs.declared.error.JsonCause.TheVariants as cause
use Rattle.pb_json.proofs.HeldLemmas.{no_strings, strings_found}
use Rattle.pb_json.proofs.masks.mask_cause.Goals as goal

pub returns-in-Some : goal.returns-in-Some
returns-in-Some c =
    let found = get_field-found c.get.result 1 c.args.fields.now.entries c.get.ensures.value in
    c.held_cause.ensures
    ∙ ap (λ (ps : List (List ℕ)). unless (are_paths ps) cause.BadPath) (strings_found c.get.result 1 c.args.fields.now.entries c.in-Some.content found c.in-Some.is)

pub returns-in-None : goal.returns-in-None
returns-in-None c =
    let found = get_field-found c.get.result 1 c.args.fields.now.entries c.get.ensures.value in
    ap (λ (ps : List (List ℕ)). unless (are_paths ps) cause.BadPath) (no_strings c.get.result 1 c.args.fields.now.entries found c.in-None.is)
