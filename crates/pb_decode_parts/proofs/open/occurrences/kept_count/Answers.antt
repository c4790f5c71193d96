use Rattle.std.proofs.Common.{ap, sym, ◌∙◌, unwrap_or}
use Rattle.pb_decode_parts.proofs.CountLemmas.{none_before_at, none_in_gap, found_at, found_after, found-entries, others_lack}
use Rattle.pb_decode_parts.proofs.open.occurrences.kept_count.Goals as goal

pub returns-in-Ok : goal.returns-in-Ok
returns-in-Ok c =
    let at = c.in-Ok.ensures.found in
    sym (ap (λ o. unwrap_or o 0) (found_at c.args.run.now c.args.others.now.entries c.args.number c.in-Ok.at at (none_before_at c.args.run.now c.args.number c.in-Ok.at c.requires.rising at)))

pub returns-in-Err : goal.returns-in-Err
returns-in-Err c =
    let after = found_after c.args.run.now c.args.others.now.entries c.args.number (none_in_gap c.args.run.now c.args.number c.in-Err.at c.in-Err.ensures.absent) in
    let entries = found-entries c.args.number c.args.others.now.entries in
    c.unwrap_or.ensures ∙ ap (λ o. unwrap_or o 0) (c.copied.ensures ∙ c.get.ensures.value ∙ entries ∙ sym after)

pub returns-in-Err-2 : goal.returns-in-Err-2
returns-in-Err-2 c =
    let after = found_after c.args.run.now c.args.others.now.entries c.args.number (none_in_gap c.args.run.now c.args.number c.in-Err.at c.in-Err.ensures.absent) in
    let lack = others_lack c.args.run.now c.args.others.now c.args.number c.in-Err.at c.requires c.in-Err.ensures.absent c.if-at-run.false in
    sym (ap (λ o. unwrap_or o 0) (after ∙ lack))
