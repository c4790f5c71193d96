use Rattle.std.proofs.Common.{length, Some, option_map, refl, sym, ap, ◌∙◌}
use Rattle.std.proofs.lemmas.Option.{slice_get_read}
use Rattle.pb_schema.specs.Scalar.{bytes}
use Rattle.pb_value.specs.Data.{scalar}
use Rattle.pb_value.proofs.Views.{value_view-Bytes}
use Rattle.pb_c_message.proofs.new_value.bytes_value.Goals as goal

pub returns : goal.returns
returns c =
    let given = c.args.given.now in let found = c.in-Some.bytes.now in let lookup = c.in-Some.ensures.lookup in
    ap (option_map (λ b. scalar (bytes b.now))) (slice_get_read given (length given) c.args.number found refl lookup.3.0 lookup.1)
    ∙ ap (λ x. Some (scalar (bytes x))) (sym c.in_ok-bytes.ensures.items) ∙ ap Some (sym (value_view-Bytes c.in_ok-bytes.bytes))
