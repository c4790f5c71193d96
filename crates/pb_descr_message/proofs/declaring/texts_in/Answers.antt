use Rattle.std.proofs.Common.{◌∷◌, [], map, Some, option_map, sym, ap, ◌∙◌}
use Rattle.std.specs.Prelude.{string_bytes}
use Rattle.std.proofs.lemmas.List.{map-append}
use Rattle.pb_value.specs.View.{value_view}
use Rattle.pb_descr_message.specs.Held.{text_in}
use Rattle.pb_descr_message.proofs.JudgeLemmas.{one_more_given, none_more_given}
use Rattle.pb_descr_message.proofs.declaring.texts_in.Goals as goal
use Rattle.pb_descr_message.proofs.declaring.texts_in.Goals.{in-Some+in_ok-owned+in_ok-push, in_default}

pub loop-value-preserved : goal.loop-value-preserved
loop-value-preserved c =
    elim c.match-text_in.branch [
      | in-Some+in_ok-owned+in_ok-push w ↦ rw (w.texts-is, w.in_ok-push.ensures.items)
          (map-append string_bytes c.loop-value.texts.items (w.in_ok-owned.owned ∷ [])
          ∙ one_more_given text_in value_view c.args.values.now c.loop-value.value-index c.value-item.result (string_bytes w.in_ok-owned.owned) (map string_bytes c.loop-value.texts.items) c.loop-value-test.true c.value-item.is c.loop-value.invariant
          (sym c.text_in.ensures ∙ ap (option_map (λ s. s.now)) w.in-Some.is ∙ ap Some (sym w.in_ok-owned.ensures.ok)))
      | in_default w ↦ rw w.texts-is
          (none_more_given text_in value_view c.args.values.now c.loop-value.value-index c.value-item.result (map string_bytes c.loop-value.texts.items) c.loop-value-test.true c.value-item.is c.loop-value.invariant
          (sym c.text_in.ensures ∙ ap (option_map (λ s. s.now)) w.in_default.is))
    ]
