-- The target says which of them is there.
use Rattle.std.proofs.Common.{subst}
use Rattle.pb_decode_parts.specs.Open.PartView.{part_view}
use Rattle.pb_decode_parts.specs.Open.Targets.{Means, part_context}
use Rattle.pb_decode.proofs.reader.state.State.take_inner.Goals as goal

pub take_message-requires : goal.take_message-requires
take_message-requires c = record { at_tag = c.requires.at_tag; bytes = c.requires.bytes; means = subst (Means c.args.by.now.pool.now (part_context (part_view c.args.self.now.part)) c.args.tag.number 2) c.in-Message.is c.requires.means }

pub take_entry-requires : goal.take_entry-requires
take_entry-requires c = record { at_tag = c.requires.at_tag; bytes = c.requires.bytes; means = subst (Means c.args.by.now.pool.now (part_context (part_view c.args.self.now.part)) c.args.tag.number 2) c.in-Entry.is c.requires.means }
