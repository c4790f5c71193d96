use Rattle.std.proofs.Common.{map, refl, sym, ◌∙◌}
use Rattle.pb_schema.specs.View.{file_view}
use Rattle.pb_schema.proofs.SightLemmas.{marked_seen, seen_marked}
use Rattle.pb_schema.proofs.imports.sight.Sight.sees.Goals as goal

pub returns-then-is_marked-clause-seen : goal.returns-then-is_marked-clause-seen
returns-then-is_marked-clause-seen c = (
  λ _. marked_seen (map file_view c.args.files.now) c.look_near.new.self c.args.file c.args.target c.in_ok-look_near.ensures.known c.in_ok-look_near.ensures.file (sym c.is_marked.ensures ∙ c.if-is_marked.true),
  λ _. refl,
)

pub returns-clause-seen : goal.returns-clause-seen
returns-clause-seen c =
    let files = map file_view c.args.files.now in
    let s = c.look_far.new.self in
    let at = c.in_ok-look_far.ensures.file ∙ c.in_ok-look_near.ensures.file in (
      λ now. marked_seen files s c.args.file c.args.target c.in_ok-look_far.ensures.known at (sym c.is_marked-2.ensures ∙ now),
      λ seen. c.is_marked-2.ensures ∙ seen_marked files s c.args.file c.args.target c.in_ok-look_far.ensures.known at c.in_ok-look_far.ensures.whole c.if-file-target.false seen,
    )
