use Rattle.std.proofs.Common.{◌≤◌, ◌<◌, ◌+◌, ◌*◌, length, sym, subst, rules}
use Rattle.pb_schema.proofs.tables.numbers.places_guessed.Goals.{then-number-index+then-number-largest+in_ok-note_place, else-number-index}
use Rattle.pb_schema.proofs.tables.numbers.places_guessed.Goals as goal

pub loop-index-preserved : goal.loop-index-preserved
loop-index-preserved c = elim c.if-number-index.branch [
  | then-number-index+then-number-largest+in_ok-note_place w ↦
      let near : c.index-fields-index.result.number < 8 * length c.args.fields.now + 1 = search rules in
      let short = w.note_place.ensures.longest (8 * length c.args.fields.now + 1) near c.loop-index.invariant in
      subst (λ g. length g.items ≤ 8 * length c.args.fields.now + 1) (sym w.guesses-is) short
  | else-number-index w ↦ search rules
]
