use Rattle.std.proofs.Common.{◌<◌, List, String, Global, ℤ, map, length, sym, ap, ◌∙◌, arith, string_bytes}
use Rattle.std.specs.Prelude.{slice_get}
use Rattle.std.proofs.lemmas.List.{length-map}
use Rattle.pb_schema.specs.declared.types.EnumType.{EnumType}
use Rattle.pb_schema.specs.Types.{EnumView}
use Rattle.pb_schema.specs.View.{enum_view}
use Rattle.pb_schema.specs.EnumValues.{values_of_enum}
use Rattle.pb_schema.proofs.LookupLemmas.{get_viewed}
use Rattle.pb_json_read.proofs.scalars.values_of.Goals as goal

pub returns : goal.returns
returns c =
    let es = c.enums.result.now in
    let e = c.args.id.0 in
    let within : e < length es = omega (arith, c.requires, ap (λ (vs : List EnumView). length vs) c.enums.ensures.listed, length-map es enum_view) in
    ap (λ (l : List (String Global × ℤ)). map (λ v. (string_bytes v.0, v.1)) l) (c.deref.ensures.value ∙ ap (λ (y : EnumType). y.values.items) (sym c.index-enums-id.is))
    ∙ ap values_of_enum (sym (get_viewed enum_view es e c.index-enums-id.result within c.index-enums-id.is))
    ∙ ap (λ (vs : List EnumView). values_of_enum (slice_get vs e)) c.enums.ensures.listed
