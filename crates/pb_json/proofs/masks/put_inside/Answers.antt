use Rattle.std.proofs.Common.{List, ℕ, subst}
use Rattle.std.specs.List.{flat_map}
use Rattle.pb_value.proofs.FieldViews.{get_field-found}
use Rattle.pb_output.proofs.SinkLemmas.{puts_none}
use Rattle.pb_output.specs.Sink.{Puts}
use Rattle.pb_json.specs.JsonText.{string_byte}
use Rattle.pb_json.specs.Masks.{mask_text}
use Rattle.pb_json.proofs.HeldLemmas.{no_strings, strings_found}
use Rattle.pb_json.proofs.masks.put_inside.Goals as goal

pub returns-in-Some : goal.returns-in-Some
returns-in-Some g c =
    let found = get_field-found c.get.result 1 c.args.fields.now.entries c.get.ensures.value in
    subst (λ (ps : List (List ℕ)). Puts g.O.Output.written g.O.Output.failures c.args.out.now c.put_held.new.out c.args.sink.now c.put_held.new.sink (flat_map string_byte (mask_text ps)))
    (strings_found c.get.result 1 c.args.fields.now.entries c.in-Some.content found c.in-Some.is) c.put_held.ensures

pub returns-in-None : goal.returns-in-None
returns-in-None g c =
    let found = get_field-found c.get.result 1 c.args.fields.now.entries c.get.ensures.value in
    subst (λ (ps : List (List ℕ)). Puts g.O.Output.written g.O.Output.failures c.args.out.now c.args.out.now c.args.sink.now c.args.sink.now (flat_map string_byte (mask_text ps)))
    (no_strings c.get.result 1 c.args.fields.now.entries found c.in-None.is) puts_none
