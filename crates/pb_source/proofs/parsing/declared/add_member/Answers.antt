use Rattle.std.proofs.Common.{option_map}
use Rattle.pb_declarations.specs.View.{message_view}
use Rattle.pb_source.proofs.PartSteps.{holds_member}
use Rattle.pb_source.proofs.parsing.declared.add_member.Goals as goal

pub returns : goal.returns
returns c = λ ss h.
    let m = c.args.member in
    holds_member c.args.message.now ss h c.push.new.self m.field c.add_group.new.messages (option_map message_view m.group) c.in_ok-push.ensures.items c.in_ok-add_group.ensures
