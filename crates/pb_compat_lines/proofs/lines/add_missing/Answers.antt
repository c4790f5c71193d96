use Rattle.std.proofs.Common.{◌++◌, ◌∙◌, List, ℕ, sym, ap, ap₂, append_assoc}
use Rattle.std.specs.Prelude.{◌||◌}
use Rattle.pb_compat_lines.specs.Lines.{missing_at, missing_below}
use Rattle.pb_compat_lines.proofs.LineLemmas.{lacks_more, missing_more}
use Rattle.pb_compat_lines.proofs.lines.add_missing.Goals as goal

pub loop-index-preserved : goal.loop-index-preserved
loop-index-preserved c =
    let prefix = c.args.prefix.now in
    let old = c.args.old.now in
    let new = c.args.new.now in
    let m = c.loop-index.index in
    let first = c.args.text.now.items in record {
      text =
          c.in_ok-lacks.ensures.added ∙ ap (λ (l : List ℕ). l ++ missing_at prefix old new m) c.loop-index.invariant.text
          ∙ append_assoc first (missing_below prefix old new m) (missing_at prefix old new m)
          ∙ ap (λ (l : List ℕ). first ++ l) (sym (missing_more prefix old new m));
      lacks =
          c.either-some_lack.ensures ∙ ap₂ (λ a b. a || b) c.loop-index.invariant.lacks c.in_ok-lacks.ensures.lacks ∙ sym (lacks_more old new m);
    }
