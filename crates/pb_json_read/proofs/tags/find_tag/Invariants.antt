use Rattle.std.proofs.Common.{◌≡◌, drop, option_map}
use Rattle.pb_json_text.specs.View.{form_view, members_view}
use Rattle.pb_json_read.specs.Anys.{only_tag, tags}
use Rattle.pb_json_read.proofs.AnyLemmas.{tag_after}
use Rattle.pb_json_read.proofs.tags.find_tag.Given as goal

abbrev pub invariant-loop-member : goal.invariant-loop-member
invariant-loop-member l =
    only_tag (tags (members_view l.members.items))
    ≡ tag_after (option_map (λ v. (v.now.at, form_view v.now.form)) l.found) (tags (members_view (drop l.member-index l.members.items)))
