-- Record by record a part is read, and what it holds with it.
use Rattle.std.proofs.Common.{rules, ◌≡◌, ◌+◌, ◌-◌, ◌*◌, ◌<◌, ℕ, Some, ap, ◌∙◌, sym, refl, subst, arith, take, drop, length, length-drop, option_map}
use Rattle.pb_wire.specs.Unknown.{records_of}
use Rattle.pb_wire.specs.Fault.{Place}
use Rattle.pb_wire.specs.Scan.{given_at, passed}
use Rattle.pb_value.specs.declared.body.Value.TheVariants as value
use Rattle.pb_value.specs.View.{body_view, key_view, value_view}
use Rattle.pb_decode_parts.specs.declared.open.part.Part.TheVariants as part_kept
use Rattle.pb_decode_parts.specs.declared.open.part.Slot.TheVariants as slot
use Rattle.pb_decode_parts.specs.declared.open.target.Target.TheVariants.{Message}
use Rattle.pb_decode_parts.specs.Open.Parents.{Part, entry_part, one_more_in, Reached}
use Rattle.pb_decode_parts.specs.Open.PartView.{part_view}
use Rattle.pb_decode_parts.specs.Open.Targets.{Means, part_context}
use Rattle.pb_decode_parts.specs.Close.Mapped.{pairs_view, put_mapped, put_all_mapped}
use Rattle.pb_decode_parts.specs.Values.Run.{put_listed}
use Rattle.pb_decode_parts.proofs.PlaceLemmas.{slice_from, place_after}
use Rattle.pb_decode_parts.proofs.WellLemmas.{can_hold}
use Rattle.pb_decode_parts.proofs.GroupSteps.{unknown_group_means}
use Rattle.pb_decode_whole.specs.declared.reader.Left.{Left}
use Rattle.pb_decode_whole.specs.Reads.{CanRead, ReadsTo}
use Rattle.pb_decode_whole.specs.Reads.Groups.{ReadsToEnd}
use Rattle.pb_decode_whole.specs.Entries.{more_in}
use Rattle.pb_decode_whole.proofs.Tags.{next_size}
use Rattle.pb_decode_whole.proofs.Payloads.{open_can, next_tag, next_read, typed_tag, message_in_part, entry_inside, message_inside, message_over}
use Rattle.pb_decode_whole.proofs.GroupReads.{field_group_in_part, field_group_inside, field_group_over, unknown_group_in_part, unknown_group_inside, unknown_group_over, end_reached}
use Rattle.pb_decode_whole.proofs.ListedLemmas.{none_listed, message_listed, listed_next, messages_further}
use Rattle.pb_decode_whole.proofs.MapRuns.{entry_in_map, entry_taken, rises_in, map_open_in, run_filled, more_depth, means_along, run_further, none_read, entry_next, entry_there}
use Rattle.pb_decode_whole.proofs.Held.{parent_can_hold}
use Rattle.pb_decode_whole.proofs.reader.Reader.+read.Goals as goal

-- RECORD BY RECORD
pub read_records-read_tagged-requires : goal.read_records-read_tagged-requires
read_records-read_tagged-requires t c =
    let size = next_size c.args.bytes.now c.loop-here.here c.in_ok-at.ensures in
    let less : 16 * length c.in_ok-at.at.bytes.now + 7 < 16 * length c.args.bytes.now + 8 = omega (arith, size) in
    (search (rules, less), next_tag c.args.part.now c.loop-here.part c.loop-here.here c.requires.can c.loop-here.invariant.read c.after.ensures c.in_ok-at.ensures)

pub read_records-loop-here-preserved : goal.read_records-loop-here-preserved
read_records-loop-here-preserved t c =
    let size = next_size c.args.bytes.now c.loop-here.here c.in_ok-at.ensures in
    let used = c.in_ok-used.ensures.most in
    let within = c.loop-here.invariant.within in
    record {
      within = omega (arith, size, used, within);
      read = next_read (part_view c.args.part.now) (part_view c.loop-here.part) (part_view c.read_tagged.new.part) c.loop-here.here c.in_ok-used.used c.loop-here.invariant.read c.after.ensures c.in_ok-at.ensures c.in_ok-used.ensures.read;
    }

pub read_records-returns : goal.read_records-returns
read_records-returns t c =
    let same = c.if-here-left.false in
    let all : c.loop-here.here ≡ c.args.left.remaining = omega (arith, same) in
    subst (ReadsTo c.args.self.now.pool.now (part_view c.args.part.now) (part_view c.loop-here.part) c.args.bytes.now c.args.left.remaining c.args.left.depth_left) all c.loop-here.invariant.read

pub read_length-target_of-target-requires : goal.read_length-target_of-target-requires
read_length-target_of-target-requires t c = open_can c.requires.at_tag.can.rules c.requires.at_tag.can.is_open

-- THE MESSAGE
pub read_message-read_records-requires : goal.read_message-read_records-requires
read_message-read_records-requires t c =
    let is = ap length (slice_from c.in_ok-start.start c.args.at.bytes.now) ∙ length-drop c.in_ok-start.start c.args.at.bytes.now in
    let small = c.requires.at_tag.can.small in
    let has = typed_tag c.args.at.bytes.now (Some c.args.at.left.remaining) c.args.at.tag.number c.args.at.tag.wire_type 2 c.args.at.tag.size c.requires.bytes c.requires.at_tag.there in
    let some = c.requires.at_tag.some in
    let later = c.in_ok-start.ensures.within.0 in
    let within = c.in_ok-start.ensures.within.1 in
    let less : 16 * length (take (length c.args.at.bytes.now - c.in_ok-start.start) (drop c.in_ok-start.start c.args.at.bytes.now)) + 8 < 16 * length c.args.at.bytes.now + 5 = omega (arith, is, some, later, within) in (
      search (rules, less),
      (
        record {
          rules = c.requires.at_tag.can.rules;
          is_open =
              message_in_part c.args.at.bytes.now c.args.at.left.remaining c.args.at.tag.number c.args.at.tag.size c.in_ok-start.start c.in_ok-start.size c.args.at.left.depth_left c.depth_left_in.result c.args.of_type c.args.slot (part_view c.take_message.new.outer) (body_view c.take_message.result) c.requires.at_tag.can.rules c.requires.at_tag.can.is_open c.depth_left_in.ensures has
              (λ at. c.in_ok-start.ensures.whole at c.args.at.tag.number c.args.at.tag.wire_type (c.requires.at_tag.there at)) c.requires.means (c.if-not-has_level.ensures.depth_left refl) c.take_message.ensures.left c.take_message.ensures.taken;
          small = omega (arith, is, small);
        },
        search (rules, is),
      ),
    )

pub read_message-put_message-requires : goal.read_message-put_message-requires
read_message-put_message-requires t c =
    let from = c.requires.at_tag.can.is_open in
    let has = typed_tag c.args.at.bytes.now (Some c.args.at.left.remaining) c.args.at.tag.number c.args.at.tag.wire_type 2 c.args.at.tag.size c.requires.bytes c.requires.at_tag.there in
    let read = message_inside from.at (Some c.args.at.left.remaining) c.args.at.bytes.now c.args.at.tag.number c.args.at.tag.size c.in_ok-start.start c.in_ok-start.size c.args.at.left.depth_left c.depth_left_in.result c.args.of_type c.args.slot (part_view c.take_message.new.outer) (body_view c.take_message.result) c.requires.at_tag.can.rules from.reached c.depth_left_in.ensures (has from.at) (c.in_ok-start.ensures.whole from.at c.args.at.tag.number c.args.at.tag.wire_type (c.requires.at_tag.there from.at)) c.requires.means (c.if-not-has_level.ensures.depth_left refl) c.take_message.ensures.left c.take_message.ensures.taken c.in_ok-read_records.ensures (ap part_view c.in_ok-message.ensures.1) in
    parent_can_hold read.1

pub read_message-returns : goal.read_message-returns
read_message-returns t c =
    let later = c.in_ok-start.ensures.within.0 in
    record {
      least = omega (arith, later);
      most = c.in_ok-start.ensures.within.1;
      read =
          λ m depth levels at base p0 parents there.
          let has = typed_tag c.args.at.bytes.now (Some c.args.at.left.remaining) c.args.at.tag.number c.args.at.tag.wire_type 2 c.args.at.tag.size c.requires.bytes c.requires.at_tag.there in
          let read = message_inside at (Some c.args.at.left.remaining) c.args.at.bytes.now c.args.at.tag.number c.args.at.tag.size c.in_ok-start.start c.in_ok-start.size c.args.at.left.depth_left c.depth_left_in.result c.args.of_type c.args.slot (part_view c.take_message.new.outer) (body_view c.take_message.result) c.requires.at_tag.can.rules there c.depth_left_in.ensures (has at) (c.in_ok-start.ensures.whole at c.args.at.tag.number c.args.at.tag.wire_type (c.requires.at_tag.there at)) c.requires.means (c.if-not-has_level.ensures.depth_left refl) c.take_message.ensures.left c.take_message.ensures.taken c.in_ok-read_records.ensures (ap part_view c.in_ok-message.ensures.1) in
          message_over at c.args.at.left.remaining c.args.at.bytes.now c.args.at.tag.number c.in_ok-start.start c.in_ok-start.size c.args.at.left.depth_left c.depth_left_in.result c.in_ok-message.ensures.0.0 c.args.slot (body_view c.in_ok-message.message) (part_view c.put_message.new.outer) there.1 there.2 read
          c.in_ok-put_message.ensures;
    }

-- A MESSAGE OF A LIST begins empty
pub message_after-read_records-requires : goal.message_after-read_records-requires
message_after-read_records-requires t c =
    let type = c.if-at-ne2.false in
    let is_type : c.args.at.tag.wire_type ≡ 2 = omega (arith, type) in
    let from = c.requires.listed.is_open in
    let number = c.args.at.tag.number in
    let is = ap length (slice_from c.in_ok-start.start c.args.at.bytes.now) ∙ length-drop c.in_ok-start.start c.args.at.bytes.now in
    let small = c.requires.listed.small in
    let has = typed_tag c.args.at.bytes.now (Some c.args.at.left.remaining) number c.args.at.tag.wire_type 2 c.args.at.tag.size is_type c.requires.listed.there in
    let means = subst (λ (z : ℕ). Means c.args.self.now.pool.now (part_context from.now) number z (Message c.args.of_type (slot.List number))) is_type from.means in
    let some = c.requires.listed.some in
    let later = c.in_ok-start.ensures.within.0 in
    let within = c.in_ok-start.ensures.within.1 in
    let less : 16 * length (take (length c.args.at.bytes.now - c.in_ok-start.start) (drop c.in_ok-start.start c.args.at.bytes.now)) + 8 < 16 * length c.args.at.bytes.now + 3 = omega (arith, is, some, later, within) in (
      search (rules, less),
      (
        record {
          rules = c.requires.listed.rules;
          is_open =
              message_in_part c.args.at.bytes.now c.args.at.left.remaining number c.args.at.tag.size c.in_ok-start.start c.in_ok-start.size c.args.at.left.depth_left (c.args.at.left.depth_left - 1) c.args.of_type (slot.List number) from.now (body_view c.empty_body.result) c.requires.listed.rules from.there refl has
              (λ at. c.in_ok-start.ensures.whole at number c.args.at.tag.wire_type (c.requires.listed.there at)) means (λ _. c.requires.listed.level) refl c.empty_body.ensures;
          small = omega (arith, is, small);
        },
        search (rules, is),
      ),
    )

pub message_after-returns-clause-put : goal.message_after-returns-clause-put
message_after-returns-clause-put t c =
    λ now meant m depth levels at base p0 parents there.
    let type = c.if-at-ne2.false in
    let is_type : c.args.at.tag.wire_type ≡ 2 = omega (arith, type) in
    let number = c.args.at.tag.number in
    let has = typed_tag c.args.at.bytes.now (Some c.args.at.left.remaining) number c.args.at.tag.wire_type 2 c.args.at.tag.size is_type c.requires.listed.there in
    let means = subst (λ (z : ℕ). Means c.args.self.now.pool.now (part_context now) number z (Message c.args.of_type (slot.List number))) is_type meant in
    let read = message_inside at (Some c.args.at.left.remaining) c.args.at.bytes.now number c.args.at.tag.size c.in_ok-start.start c.in_ok-start.size c.args.at.left.depth_left (c.args.at.left.depth_left - 1) c.args.of_type (slot.List number) now (body_view c.empty_body.result) c.requires.listed.rules there refl (has at) (c.in_ok-start.ensures.whole at number c.args.at.tag.wire_type (c.requires.listed.there at)) means (λ _. c.requires.listed.level) refl c.empty_body.ensures c.in_ok-read_records.ensures (ap part_view c.in_ok-body.ensures.1) in
    message_over at c.args.at.left.remaining c.args.at.bytes.now number c.in_ok-start.start c.in_ok-start.size c.args.at.left.depth_left (c.args.at.left.depth_left - 1) c.in_ok-body.ensures.0.0 (slot.List number) (body_view c.in_ok-body.body) (put_listed number (value_view (value.Message c.in_ok-body.body)) now) there.1 there.2 read
    (message_listed c.args.self.now.pool.now number now c.in_ok-body.body)

-- and so does a group
pub group_after-read_to_end-requires : goal.group_after-read_to_end-requires
group_after-read_to_end-requires t c =
    let type = c.if-at-ne3.false in
    let is_type : c.args.at.tag.wire_type ≡ 3 = omega (arith, type) in
    let from = c.requires.listed.is_open in
    let number = c.args.at.tag.number in
    let is = ap length (slice_from c.args.at.tag.size c.args.at.bytes.now) ∙ length-drop c.args.at.tag.size c.args.at.bytes.now in
    let small = c.requires.listed.small in
    let some = c.requires.listed.some in
    let within = c.requires.listed.within in
    let start = typed_tag c.args.at.bytes.now (Some c.args.at.left.remaining) number c.args.at.tag.wire_type 3 c.args.at.tag.size is_type c.requires.listed.there in
    let means = subst (λ (z : ℕ). Means c.args.self.now.pool.now (part_context from.now) number z (Message c.args.of_type (slot.List number))) is_type from.means in
    let below = c.below-within.ensures ∙ ap (λ (z : Left). record { remaining = z.remaining; depth_left = z.depth_left - 1 }) c.after.ensures in
    let less : 16 * length (take (length c.args.at.bytes.now - c.args.at.tag.size) (drop c.args.at.tag.size c.args.at.bytes.now)) + 8 < 16 * length c.args.at.bytes.now + 2 = omega (arith, is, some, within) in (
      search (rules, less),
      subst (λ (z : Left). CanRead c.args.self.now.pool.now (part_kept.Message c.args.of_type c.empty_body.result) (take (length c.args.at.bytes.now - c.args.at.tag.size) (drop c.args.at.tag.size c.args.at.bytes.now)) z) (sym below) (record {
        rules = c.requires.listed.rules;
        is_open = field_group_in_part c.args.at.bytes.now c.args.at.left.remaining number c.args.at.tag.size (c.args.at.left.remaining - c.args.at.tag.size) c.args.at.left.depth_left c.args.of_type (slot.List number) from.now (body_view c.empty_body.result) c.requires.listed.rules from.there start means c.requires.listed.level refl c.empty_body.ensures refl;
        small = omega (arith, is, small);
      }),
    )

pub group_after-returns-clause-put : goal.group_after-returns-clause-put
group_after-returns-clause-put t c =
    λ now meant m depth levels at base p0 parents there.
    let type = c.if-at-ne3.false in
    let is_type : c.args.at.tag.wire_type ≡ 3 = omega (arith, type) in
    let number = c.args.at.tag.number in
    let start = typed_tag c.args.at.bytes.now (Some c.args.at.left.remaining) number c.args.at.tag.wire_type 3 c.args.at.tag.size is_type c.requires.listed.there in
    let means = subst (λ (z : ℕ). Means c.args.self.now.pool.now (part_context now) number z (Message c.args.of_type (slot.List number))) is_type meant in
    let below = c.below-within.ensures ∙ ap (λ (z : Left). record { remaining = z.remaining; depth_left = z.depth_left - 1 }) c.after.ensures in
    let reads = subst (λ (z : Left). ReadsToEnd c.args.self.now.pool.now number (part_view (part_kept.Message c.args.of_type c.empty_body.result)) (part_view c.read_to_end.new.part) (take (length c.args.at.bytes.now - c.args.at.tag.size) (drop c.args.at.tag.size c.args.at.bytes.now)) z.remaining z.depth_left c.in_ok-size.size) below c.in_ok-size.ensures.read in
    let read = field_group_inside at c.args.at.left.remaining c.args.at.bytes.now number c.args.at.tag.size (c.args.at.left.remaining - c.args.at.tag.size) c.in_ok-size.size c.args.at.left.depth_left c.args.of_type (slot.List number) now (body_view c.empty_body.result) c.requires.listed.rules there start means c.requires.listed.level refl c.empty_body.ensures refl reads (ap part_view c.in_ok-body.ensures.1) in
    field_group_over (put_listed number (value_view (value.Message c.in_ok-body.body)) now) there.2 read.1 read.2 (message_listed c.args.self.now.pool.now number now c.in_ok-body.body)

-- MESSAGE BY MESSAGE
pub messages_from-loop-next-init : goal.messages_from-loop-next-init
messages_from-loop-next-init t c = record {
  within = omega arith;
  put = none_listed c.args.at.tag.wire_type c.args.at.tag.number (Message c.args.of_type (slot.List c.args.at.tag.number)) c.new-messages.result.items c.args.at.bytes.now c.args.at.left.remaining c.args.at.left.depth_left c.new-messages.ensures.items;
}

pub messages_from-message_after-requires : goal.messages_from-message_after-requires
messages_from-message_after-requires t c =
    let size = next_size c.args.at.bytes.now c.loop-next.here c.in-Some.ensures.begins in
    let less : 16 * length c.in-Some.next.bytes.now + 3 < 16 * length c.args.at.bytes.now + 4 = omega (arith, size) in
    (search (rules, less), listed_next c.loop-next.messages.items c.loop-next.here c.requires.listed c.loop-next.invariant.put c.after.ensures c.in-Some.ensures.own c.in-Some.ensures.begins)

pub messages_from-loop-next-preserved : goal.messages_from-loop-next-preserved
messages_from-loop-next-preserved t c =
    let size = next_size c.args.at.bytes.now c.loop-next.here c.in-Some.ensures.begins in
    let used = c.in_ok-message.ensures.within.1 in
    let within = c.loop-next.invariant.within in
    record {
      within = omega (arith, size, used, within);
      put = messages_further c.args.at c.loop-next.messages.items c.push.new.self.items c.in_ok-message.message c.loop-next.here c.in_ok-message.size c.in_ok-push.ensures.items c.loop-next.invariant.put c.after.ensures c.in-Some.ensures.own c.in-Some.ensures.begins c.in_ok-message.ensures.put;
    }

-- THEY GO to the end of their list
pub read_messages-messages_from-requires : goal.read_messages-messages_from-requires
read_messages-messages_from-requires t c =
    let level = c.if-at-eq0.false in
    let less : 16 * length c.args.at.bytes.now + 4 < 16 * length c.args.at.bytes.now + 5 = omega arith in (
      search (rules, less),
      record {
        rules = c.requires.at_tag.can.rules;
        is_open = record { now = part_view c.args.part.now; there = c.requires.at_tag.can.is_open; means = c.requires.means };
        level = omega (arith, level);
        small = c.requires.at_tag.can.small;
        some = c.requires.at_tag.some;
        within = c.requires.at_tag.within;
        there = c.requires.at_tag.there;
      },
    )

pub read_messages-returns : goal.read_messages-returns
read_messages-returns t c =
    let enough = c.if-used-at.false in
    record {
      least = omega (arith, enough);
      most = c.in_ok-messages.ensures.within;
      read =
          subst (λ (z : Part). ReadsTo c.args.self.now.pool.now (part_view c.args.part.now) z c.args.at.bytes.now c.args.at.left.remaining c.args.at.left.depth_left c.in_ok-messages.used) (sym c.in_ok-put_elements.ensures)
          (c.in_ok-messages.ensures.put (part_view c.args.part.now) c.requires.means);
    }

-- AN ENTRY's records
pub read_entry-read_in_entry-requires : goal.read_entry-read_in_entry-requires
read_entry-read_in_entry-requires t c =
    let size = next_size c.args.bytes.now c.loop-here.here c.in_ok-at.ensures in
    let less : 16 * length c.in_ok-at.at.bytes.now + 9 < 16 * length c.args.bytes.now + 10 = omega (arith, size) in
    (search (rules, less), next_tag c.args.entry.now c.loop-here.entry c.loop-here.here c.requires.can c.loop-here.invariant.read c.after.ensures c.in_ok-at.ensures)

pub read_entry-loop-here-preserved : goal.read_entry-loop-here-preserved
read_entry-loop-here-preserved t c =
    let size = next_size c.args.bytes.now c.loop-here.here c.in_ok-at.ensures in
    let used = c.in_ok-used.ensures.most in
    let within = c.loop-here.invariant.within in
    record {
      within = omega (arith, size, used, within);
      read = next_read (part_view c.args.entry.now) (part_view c.loop-here.entry) (part_view c.read_in_entry.new.entry) c.loop-here.here c.in_ok-used.used c.loop-here.invariant.read c.after.ensures c.in_ok-at.ensures c.in_ok-used.ensures.read;
    }

pub read_entry-returns : goal.read_entry-returns
read_entry-returns t c =
    let same = c.if-here-left.false in
    let all : c.loop-here.here ≡ c.args.left.remaining = omega (arith, same) in
    subst (ReadsTo c.args.self.now.pool.now (part_view c.args.entry.now) (part_view c.loop-here.entry) c.args.bytes.now c.args.left.remaining c.args.left.depth_left) all c.loop-here.invariant.read

pub read_in_entry-target_of-target-requires : goal.read_in_entry-target_of-target-requires
read_in_entry-target_of-target-requires t c = open_can c.requires.at_tag.can.rules c.requires.at_tag.can.is_open

-- AN ENTRY
pub entry_after-read_entry-requires : goal.entry_after-read_entry-requires
entry_after-read_entry-requires t c =
    let is = ap length (slice_from c.in_ok-start.start c.args.at.bytes.now) ∙ length-drop c.in_ok-start.start c.args.at.bytes.now in
    let small = c.requires.at_entry.small in
    let some = c.requires.at_entry.some in
    let later = c.in_ok-start.ensures.within.0 in
    let within = c.in_ok-start.ensures.within.1 in
    let less : 16 * length (take (length c.args.at.bytes.now - c.in_ok-start.start) (drop c.in_ok-start.start c.args.at.bytes.now)) + 10 < 16 * length c.args.at.bytes.now + 3 = omega (arith, is, some, later, within) in (
      search (rules, less),
      (
        record {
          rules = c.requires.at_entry.rules;
          is_open =
              entry_in_map c.args.at.bytes.now (Some c.args.at.left.remaining) c.args.at.tag.number c.args.at.tag.size c.in_ok-start.start c.in_ok-start.size c.args.at.left.depth_left c.args.key_kind c.args.value_kind c.requires.at_entry.rules c.requires.at_entry.is_open
              (typed_tag c.args.at.bytes.now (Some c.args.at.left.remaining) c.args.at.tag.number c.args.at.tag.wire_type 2 c.args.at.tag.size c.requires.at_entry.bytes c.requires.at_entry.there)
              (λ at. c.in_ok-start.ensures.whole at c.args.at.tag.number c.args.at.tag.wire_type (c.requires.at_entry.there at)) c.requires.at_entry.level;
          small = omega (arith, is, small);
        },
        search (rules, is),
      ),
    )

pub entry_after-key_or_default-key-requires : goal.entry_after-key_or_default-key-requires
entry_after-key_or_default-key-requires t c =
    let from = c.requires.at_entry.is_open in
    let has = typed_tag c.args.at.bytes.now (Some c.args.at.left.remaining) c.args.at.tag.number c.args.at.tag.wire_type 2 c.args.at.tag.size c.requires.at_entry.bytes c.requires.at_entry.there in
    let read = entry_inside from.at (Some c.args.at.left.remaining) c.args.at.bytes.now c.args.at.tag.number c.args.at.tag.size c.in_ok-start.start c.in_ok-start.size c.args.at.left.depth_left c.args.key_kind c.args.value_kind c.requires.at_entry.rules (from.scope, from.reached, from.level) (has from.at) (c.in_ok-start.ensures.whole from.at c.args.at.tag.number c.args.at.tag.wire_type (c.requires.at_entry.there from.at)) from.means c.requires.at_entry.level c.in_ok-read_entry.ensures (ap part_view c.in-Entry.is) in
    can_hold c.requires.at_entry.rules (entry_part c.in-Entry.entry.key_kind c.in-Entry.entry.value_kind (option_map key_view c.in-Entry.entry.key) (option_map value_view c.in-Entry.entry.value)) read.1

pub entry_after-returns-in_ok-push-in-Entry-clause-put : goal.entry_after-returns-in_ok-push-in-Entry-clause-put
entry_after-returns-in_ok-push-in-Entry-clause-put t c = (
  (c.key_or_default-key.result, c.value_or_missing-value.result),
  c.in_ok-push-in-Entry.ensures.items,
  λ m depth levels at base p0 parents scope now reached level means.
      let has = typed_tag c.args.at.bytes.now (Some c.args.at.left.remaining) c.args.at.tag.number c.args.at.tag.wire_type 2 c.args.at.tag.size c.requires.at_entry.bytes c.requires.at_entry.there in
      let read = entry_inside at (Some c.args.at.left.remaining) c.args.at.bytes.now c.args.at.tag.number c.args.at.tag.size c.in_ok-start.start c.in_ok-start.size c.args.at.left.depth_left c.args.key_kind c.args.value_kind c.requires.at_entry.rules (scope, reached, level) (has at) (c.in_ok-start.ensures.whole at c.args.at.tag.number c.args.at.tag.wire_type (c.requires.at_entry.there at)) means c.requires.at_entry.level c.in_ok-read_entry.ensures (ap part_view c.in-Entry.is) in
      entry_taken at (Some c.args.at.left.remaining) c.args.at.bytes.now c.args.at.tag.number c.in_ok-start.start c.in_ok-start.size (c.args.at.left.depth_left - 1) c.in-Entry.entry.key_kind c.in-Entry.entry.value_kind (option_map key_view c.in-Entry.entry.key) (option_map value_view c.in-Entry.entry.value) (key_view c.key_or_default-key.result) (value_view c.value_or_missing-value.result) c.requires.at_entry.rules reached read c.key_or_default-key.ensures c.value_or_missing-value.ensures,
)

-- ENTRY BY ENTRY
pub entries_from-loop-next-init : goal.entries_from-loop-next-init
entries_from-loop-next-init t c = record {
  within = omega arith;
  put = λ m depth levels at base p0 parents scope now reached level means. none_read at (Some c.args.at.left.remaining) c.args.at.bytes.now c.args.at.tag.number c.new-entries.result.items c.new-entries.ensures.items reached;
}

pub entries_from-entry_after-requires : goal.entries_from-entry_after-requires
entries_from-entry_after-requires t c =
    let size = next_size c.args.at.bytes.now c.loop-next.here c.in-Some.ensures.begins in
    let less : 16 * length c.in-Some.next.bytes.now + 3 < 16 * length c.args.at.bytes.now + 4 = omega (arith, size) in
    (search (rules, less), entry_next c.loop-next.entries.items c.loop-next.here c.requires.at_entry c.loop-next.invariant.put c.after.ensures c.in-Some.ensures.own c.in-Some.ensures.begins)

pub entries_from-loop-next-preserved : goal.entries_from-loop-next-preserved
entries_from-loop-next-preserved t c =
    let number = c.args.at.tag.number in
    let here = c.loop-next.here in
    let size = next_size c.args.at.bytes.now here c.in-Some.ensures.begins in
    let enough = c.in_ok-size.ensures.within.1 in
    let within = c.loop-next.invariant.within in
    let entry = c.in_ok-size.ensures.put.0 in
    let added = entry_there c.args.at entry here c.in_ok-size.size c.after.ensures c.in-Some.ensures.own.0 c.in-Some.ensures.begins c.in_ok-size.ensures.put.2 in
    record {
      within = omega (arith, size, enough, within);
      put = λ m depth levels at base p0 parents scope now reached level means.
          let p : Place = given_at at (Some c.args.at.left.remaining) c.args.at.bytes.now in
          let items = c.loop-next.entries.items in
          let was = c.loop-next.invariant.put m depth levels at base p0 parents scope now reached level means in
          let after = place_after at (Some c.args.at.left.remaining) (Some (c.args.at.left.remaining - here)) c.args.at.bytes.now here refl in
          let there = subst (Reached c.args.self.now.pool.now m depth levels base p0 parents (put_all_mapped number (pairs_view items) now) (more_in number (length items) scope)) after was.1 in
          let reported = added m depth levels (at + here) base p0 parents (more_in number (length items) scope) (put_all_mapped number (pairs_view items) now) there
          (more_depth number (length items) scope ∙ level) (means_along c.args.self.now.pool.now number number (pairs_view items) now c.args.key_kind c.args.value_kind means) in
          run_further scope now p here c.in_ok-size.size number items c.entry_after.new.entries.items entry c.in_ok-size.ensures.put.1 was.0 reported.0
          (subst (Reached c.args.self.now.pool.now m depth levels base p0 parents (put_mapped number (key_view entry.0, value_view entry.1) (put_all_mapped number (pairs_view items) now)) (one_more_in number (more_in number (length items) scope)))
          (ap (λ (z : Place). passed z c.in_ok-size.size) (sym after)) reported.1);
    }

-- THEY GO into their map
pub read_entries-entries_from-requires : goal.read_entries-entries_from-requires
read_entries-entries_from-requires t c =
    let level = c.if-at-eq0.false in
    let less : 16 * length c.args.at.bytes.now + 4 < 16 * length c.args.at.bytes.now + 5 = omega arith in (
      search (rules, less),
      record {
        rules = c.requires.at_tag.can.rules;
        is_open = map_open_in c.args.at.bytes.now c.args.at.left.remaining c.args.at.left.depth_left c.args.at.tag.number c.args.key_kind c.args.value_kind c.requires.at_tag.can.is_open c.requires.means;
        level = omega (arith, level);
        small = c.requires.at_tag.can.small;
        bytes = c.requires.bytes;
        some = c.requires.at_tag.some;
        within = c.requires.at_tag.within;
        there = c.requires.at_tag.there;
      },
    )

pub read_entries-put_entries-requires-clause-fits : goal.read_entries-put_entries-requires-clause-fits
read_entries-put_entries-requires-clause-fits t c =
    let from = c.requires.at_tag.can.is_open in
    (c.in_ok-entries.ensures.put from.m from.depth from.levels from.at from.base from.p0 from.parents from.reached.0 (part_view c.args.part.now) from.reached.1 from.reached.2 c.requires.means).0

pub read_entries-put_entries-requires-clause-rises : goal.read_entries-put_entries-requires-clause-rises
read_entries-put_entries-requires-clause-rises t c = rises_in c.requires.at_tag.can.rules (part_view c.args.part.now) c.requires.at_tag.can.is_open.reached.1

pub read_entries-returns : goal.read_entries-returns
read_entries-returns t c =
    let enough = c.if-used-at.false in
    record {
      least = omega (arith, enough);
      most = c.in_ok-entries.ensures.within;
      read =
          λ m depth levels at base p0 parents there.
          run_filled there.0 (part_view c.args.part.now) c.args.at.tag.number c.args.at.left.depth_left c.in_ok-entries.entries.items there.2 c.in_ok-put_entries.ensures
          (c.in_ok-entries.ensures.put m depth levels at base p0 parents there.0 (part_view c.args.part.now) there.1 there.2 c.requires.means).1;
    }

-- THE GROUP OF A FIELD
pub read_field_group-read_to_end-requires : goal.read_field_group-read_to_end-requires
read_field_group-read_to_end-requires t c =
    let is = ap length (slice_from c.args.at.tag.size c.args.at.bytes.now) ∙ length-drop c.args.at.tag.size c.args.at.bytes.now in
    let small = c.requires.at_tag.can.small in
    let some = c.requires.at_tag.some in
    let start = typed_tag c.args.at.bytes.now (Some c.args.at.left.remaining) c.args.at.tag.number c.args.at.tag.wire_type 3 c.args.at.tag.size c.requires.start c.requires.at_tag.there in
    let within = c.requires.at_tag.within in
    let below = c.below-within.ensures ∙ ap (λ (z : Left). record { remaining = z.remaining; depth_left = z.depth_left - 1 }) c.after.ensures in
    let less : 16 * length (take (length c.args.at.bytes.now - c.args.at.tag.size) (drop c.args.at.tag.size c.args.at.bytes.now)) + 8 < 16 * length c.args.at.bytes.now + 5 = omega (arith, is, some, within) in (
      search (rules, less),
      subst (λ (z : Left). CanRead c.args.self.now.pool.now (part_kept.Message c.args.of_type c.take_message.result) (take (length c.args.at.bytes.now - c.args.at.tag.size) (drop c.args.at.tag.size c.args.at.bytes.now)) z) (sym below) (record {
        rules = c.requires.at_tag.can.rules;
        is_open = field_group_in_part c.args.at.bytes.now c.args.at.left.remaining c.args.at.tag.number c.args.at.tag.size (c.args.at.left.remaining - c.args.at.tag.size) c.args.at.left.depth_left c.args.of_type c.args.slot (part_view c.take_message.new.outer) (body_view c.take_message.result) c.requires.at_tag.can.rules c.requires.at_tag.can.is_open start c.requires.means c.requires.level c.take_message.ensures.left c.take_message.ensures.taken refl;
        small = omega (arith, is, small);
      }),
    )

pub read_field_group-put_message-requires : goal.read_field_group-put_message-requires
read_field_group-put_message-requires t c =
    let from = c.requires.at_tag.can.is_open in
    let start = typed_tag c.args.at.bytes.now (Some c.args.at.left.remaining) c.args.at.tag.number c.args.at.tag.wire_type 3 c.args.at.tag.size c.requires.start c.requires.at_tag.there in
    let below = c.below-within.ensures ∙ ap (λ (z : Left). record { remaining = z.remaining; depth_left = z.depth_left - 1 }) c.after.ensures in
    let reads = subst (λ (z : Left). ReadsToEnd c.args.self.now.pool.now c.args.at.tag.number (part_view (part_kept.Message c.args.of_type c.take_message.result)) (part_view c.read_to_end.new.part) (take (length c.args.at.bytes.now - c.args.at.tag.size) (drop c.args.at.tag.size c.args.at.bytes.now)) z.remaining z.depth_left c.in_ok-size.size) below c.in_ok-size.ensures.read in
    let read = field_group_inside from.at c.args.at.left.remaining c.args.at.bytes.now c.args.at.tag.number c.args.at.tag.size (c.args.at.left.remaining - c.args.at.tag.size) c.in_ok-size.size c.args.at.left.depth_left c.args.of_type c.args.slot (part_view c.take_message.new.outer) (body_view c.take_message.result) c.requires.at_tag.can.rules from.reached start c.requires.means c.requires.level c.take_message.ensures.left c.take_message.ensures.taken refl reads (ap part_view c.in_ok-message.ensures.1) in
    parent_can_hold read.1.1

pub read_field_group-returns : goal.read_field_group-returns
read_field_group-returns t c =
    let is = ap length (slice_from c.args.at.tag.size c.args.at.bytes.now) ∙ length-drop c.args.at.tag.size c.args.at.bytes.now in
    let within = c.requires.at_tag.within in
    let size = c.in_ok-size.ensures.passes in
    record {
      least = omega arith;
      most = omega (arith, is, within, size);
      read =
          λ m depth levels at base p0 parents there.
          let start = typed_tag c.args.at.bytes.now (Some c.args.at.left.remaining) c.args.at.tag.number c.args.at.tag.wire_type 3 c.args.at.tag.size c.requires.start c.requires.at_tag.there in
          let below = c.below-within.ensures ∙ ap (λ (z : Left). record { remaining = z.remaining; depth_left = z.depth_left - 1 }) c.after.ensures in
          let reads = subst (λ (z : Left). ReadsToEnd c.args.self.now.pool.now c.args.at.tag.number (part_view (part_kept.Message c.args.of_type c.take_message.result)) (part_view c.read_to_end.new.part) (take (length c.args.at.bytes.now - c.args.at.tag.size) (drop c.args.at.tag.size c.args.at.bytes.now)) z.remaining z.depth_left c.in_ok-size.size) below c.in_ok-size.ensures.read in
          let read = field_group_inside at c.args.at.left.remaining c.args.at.bytes.now c.args.at.tag.number c.args.at.tag.size (c.args.at.left.remaining - c.args.at.tag.size) c.in_ok-size.size c.args.at.left.depth_left c.args.of_type c.args.slot (part_view c.take_message.new.outer) (body_view c.take_message.result) c.requires.at_tag.can.rules there start c.requires.means c.requires.level c.take_message.ensures.left c.take_message.ensures.taken refl reads (ap part_view c.in_ok-message.ensures.1) in
          field_group_over (part_view c.put_message.new.outer) there.2 read.1 read.2 c.in_ok-put_message.ensures;
    }

-- AN UNKNOWN GROUP
pub read_unknown_group-read_to_end-requires : goal.read_unknown_group-read_to_end-requires
read_unknown_group-read_to_end-requires t c =
    let is = ap length (slice_from c.args.at.tag.size c.args.at.bytes.now) ∙ length-drop c.args.at.tag.size c.args.at.bytes.now in
    let small = c.requires.at_tag.can.small in
    let some = c.requires.at_tag.some in
    let start = typed_tag c.args.at.bytes.now (Some c.args.at.left.remaining) c.args.at.tag.number c.args.at.tag.wire_type 3 c.args.at.tag.size c.requires.start c.requires.at_tag.there in
    let within = c.requires.at_tag.within in
    let below = c.below-within.ensures ∙ ap (λ (z : Left). record { remaining = z.remaining; depth_left = z.depth_left - 1 }) c.after.ensures in
    let less : 16 * length (take (length c.args.at.bytes.now - c.args.at.tag.size) (drop c.args.at.tag.size c.args.at.bytes.now)) + 8 < 16 * length c.args.at.bytes.now + 5 = omega (arith, is, some, within) in (
      search (rules, less),
      subst (λ (z : Left). CanRead c.args.self.now.pool.now (part_kept.Group c.new.result) (take (length c.args.at.bytes.now - c.args.at.tag.size) (drop c.args.at.tag.size c.args.at.bytes.now)) z) (sym below) (record {
        rules = c.requires.at_tag.can.rules;
        is_open = unknown_group_in_part c.args.at.bytes.now c.args.at.left.remaining c.args.at.tag.number c.args.at.tag.size (c.args.at.left.remaining - c.args.at.tag.size) c.args.at.left.depth_left (records_of c.new.result.items) c.requires.at_tag.can.rules c.requires.at_tag.can.is_open start c.requires.means c.requires.level (ap records_of c.new.ensures.items) refl;
        small = omega (arith, is, small);
      }),
    )

pub read_unknown_group-returns-in_ok-put_group-in-Group : goal.read_unknown_group-returns-in_ok-put_group-in-Group
read_unknown_group-returns-in_ok-put_group-in-Group t c =
    let is = ap length (slice_from c.args.at.tag.size c.args.at.bytes.now) ∙ length-drop c.args.at.tag.size c.args.at.bytes.now in
    let within = c.requires.at_tag.within in
    let size = c.in_ok-size.ensures.passes in
    record {
      least = omega arith;
      most = omega (arith, is, within, size);
      read =
          λ m depth levels at base p0 parents there.
          let start = typed_tag c.args.at.bytes.now (Some c.args.at.left.remaining) c.args.at.tag.number c.args.at.tag.wire_type 3 c.args.at.tag.size c.requires.start c.requires.at_tag.there in
          let below = c.below-within.ensures ∙ ap (λ (z : Left). record { remaining = z.remaining; depth_left = z.depth_left - 1 }) c.after.ensures in
          let reads = subst (λ (z : Left). ReadsToEnd c.args.self.now.pool.now c.args.at.tag.number (part_view (part_kept.Group c.new.result)) (part_view c.read_to_end.new.part) (take (length c.args.at.bytes.now - c.args.at.tag.size) (drop c.args.at.tag.size c.args.at.bytes.now)) z.remaining z.depth_left c.in_ok-size.size) below c.in_ok-size.ensures.read in
          let read = unknown_group_inside at c.args.at.left.remaining c.args.at.bytes.now c.args.at.tag.number c.args.at.tag.size (c.args.at.left.remaining - c.args.at.tag.size) c.in_ok-size.size c.args.at.left.depth_left (records_of c.new.result.items) c.requires.at_tag.can.rules there start c.requires.means c.requires.level (ap records_of c.new.ensures.items) refl reads (ap part_view c.in-Group.is) in
          unknown_group_over (part_view c.put_group.new.outer) there.2 read.1 read.2 c.in_ok-put_group-in-Group.ensures;
    }

-- ITS PURPOSE
pub read_group-target_of-target-requires : goal.read_group-target_of-target-requires
read_group-target_of-target-requires t c = open_can c.requires.at_tag.can.rules c.requires.at_tag.can.is_open

pub read_group-read_unknown_group-requires : goal.read_group-read_unknown_group-requires
read_group-read_unknown_group-requires t c =
    let level = c.if-at-eq0.false in
    let less : 16 * length c.args.at.bytes.now + 5 < 16 * length c.args.at.bytes.now + 6 = omega arith in (
      search (rules, less),
      (
        c.requires.at_tag,
        (
          c.requires.start,
          (
            omega (arith, level),
            unknown_group_means c.args.self.now.pool.now (part_view c.args.part.now) c.args.at.tag.number c.target_of-target.result (open_can c.requires.at_tag.can.rules c.requires.at_tag.can.is_open) c.target_of-target.ensures c.in-None.ensures.none,
          ),
        ),
      ),
    )

-- UP TO ITS END TAG
pub read_to_end-read_tagged-requires : goal.read_to_end-read_tagged-requires
read_to_end-read_tagged-requires t c =
    let size = next_size c.args.bytes.now c.loop-at.here c.in_ok-at.ensures in
    let less : 16 * length c.in_ok-at.at.bytes.now + 7 < 16 * length c.args.bytes.now + 8 = omega (arith, size) in
    (search (rules, less), next_tag c.args.part.now c.loop-at.part c.loop-at.here c.requires.can c.loop-at.invariant.read c.after.ensures c.in_ok-at.ensures)

pub read_to_end-loop-at-preserved : goal.read_to_end-loop-at-preserved
read_to_end-loop-at-preserved t c =
    let size = next_size c.args.bytes.now c.loop-at.here c.in_ok-at.ensures in
    let used = c.in_ok-used.ensures.most in
    let within = c.loop-at.invariant.within in
    record {
      within = omega (arith, size, used, within);
      read = next_read (part_view c.args.part.now) (part_view c.loop-at.part) (part_view c.read_tagged.new.part) c.loop-at.here c.in_ok-used.used c.loop-at.invariant.read c.after.ensures c.in_ok-at.ensures c.in_ok-used.ensures.read;
    }

pub read_to_end-returns-then-at-eq4-clause-read : goal.read_to_end-returns-then-at-eq4-clause-read
read_to_end-returns-then-at-eq4-clause-read t c =
    let four = c.if-at-eq4.true in
    let ends : c.in_ok-at.at.tag.wire_type ≡ 4 = omega (arith, four) in
    let differ = c.if-at-number.false in
    let own : c.in_ok-at.at.tag.number ≡ c.args.number = omega (arith, differ) in
    subst (λ (z : ℕ). ReadsToEnd c.args.self.now.pool.now z (part_view c.args.part.now) (part_view c.loop-at.part) c.args.bytes.now c.args.left.remaining c.args.left.depth_left (c.loop-at.here + c.in_ok-at.at.tag.size)) own
    (end_reached (part_view c.args.part.now) (part_view c.loop-at.part) c.args.bytes.now c.args.left.remaining c.args.left.depth_left c.in_ok-at.at.tag.number c.in_ok-at.at.tag.wire_type c.loop-at.here c.after.result.remaining c.in_ok-at.at.tag.size c.loop-at.invariant.read ends (ap (λ (z : Left). z.remaining) c.after.ensures) c.in_ok-at.ensures.there)
