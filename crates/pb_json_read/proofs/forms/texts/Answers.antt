use Rattle.std.proofs.Common.{◌+◌, List, String, Global, drop, drop_of_length-le, map, string_bytes, sym, ap, ◌∙◌}
use Rattle.pb_schema.specs.Scalar.{text}
use Rattle.pb_value.specs.Data.{Datums, scalar, datum, joined_datums}
use Rattle.pb_value.specs.View.{values_view}
use Rattle.pb_json_read.specs.WellKnown.{texts}
use Rattle.pb_json_read.proofs.TextsLemmas.{joined_more, joined_none, texts_next}
use Rattle.pb_json_read.proofs.forms.texts.Goals as goal

pub loop-string-init : goal.loop-string-init
loop-string-init c = ap (λ (ds : Datums). joined_datums ds (texts (map string_bytes c.args.strings.now.items))) (ap values_view c.new-values.ensures.items)

pub loop-string-preserved : goal.loop-string-preserved
loop-string-preserved c =
    let below = rw c.deref-string-items.ensures.value at c.loop-string-test.true in
    let item = rw c.deref-string-items.ensures.value at c.string-item.is in
    let ss = c.args.strings.now.items in
    let before = values_view c.loop-string.values.items in
    let rest = texts (map string_bytes (drop (c.loop-string.string-index + 1) ss)) in
    ap (λ (ds : Datums). joined_datums ds rest) c.in_ok-push_text.ensures
    ∙ joined_more before (scalar (text c.as_str.result.now)) rest
    ∙ ap (λ t. joined_datums before (datum (scalar (text t)) rest)) c.as_str.ensures.value
    ∙ ap (λ (ds : Datums). joined_datums before ds) (sym (texts_next ss c.loop-string.string-index c.string-item.result below item))
    ∙ c.loop-string.invariant

pub returns : goal.returns
returns c =
    let none = drop_of_length-le c.args.strings.now.items (rw c.deref-string-items.ensures.value at c.loop-string-test.false) in
    sym (joined_none _) ∙ ap (λ (ss : List (String Global)). joined_datums (values_view c.loop-string.values.items) (texts (map string_bytes ss))) (sym none)
    ∙ c.loop-string.invariant
