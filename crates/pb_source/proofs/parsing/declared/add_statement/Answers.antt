use Rattle.pb_source.proofs.PartSteps.{holds_nothing, holds_message, holds_extend, holds_enum, holds_ranges, holds_names}
use Rattle.pb_source.proofs.parsing.declared.add_statement.Goals as goal

pub returns-in-Nothing : goal.returns-in-Nothing
returns-in-Nothing c = rw c.in-Nothing.is (λ ss h. holds_nothing c.args.message.now ss h)

pub returns-in_ok-push-in-Message : goal.returns-in_ok-push-in-Message
returns-in_ok-push-in-Message c = rw c.in-Message.is (λ ss h. holds_message c.args.message.now ss h c.push.new.self c.in-Message.inner c.in_ok-push-in-Message.ensures.items)

pub returns-in_ok-append-in-Extend : goal.returns-in_ok-append-in-Extend
returns-in_ok-append-in-Extend c = rw c.in-Extend.is (λ ss h. holds_extend c.args.message.now ss h c.append.new.self c.in-Extend.groups.items c.in_ok-append-in-Extend.ensures.items)

pub returns-in_ok-push-in-Enum : goal.returns-in_ok-push-in-Enum
returns-in_ok-push-in-Enum c = rw c.in-Enum.is (λ ss h. holds_enum c.args.message.now ss h c.push-in-Enum.new.self c.in-Enum.inner c.in_ok-push-in-Enum.ensures.items)

pub returns-in_ok-append-in-Ranges : goal.returns-in_ok-append-in-Ranges
returns-in_ok-append-in-Ranges c = rw c.in-Ranges.is (λ ss h. holds_ranges c.args.message.now ss h c.append-in-Ranges.new.self c.in-Ranges.ranges.items c.in_ok-append-in-Ranges.ensures.items)

pub returns-in_ok-append-in-Names : goal.returns-in_ok-append-in-Names
returns-in_ok-append-in-Names c = rw c.in-Names.is (λ ss h. holds_names c.args.message.now ss h c.append-in-Names.new.self c.in-Names.names.items c.in_ok-append-in-Names.ensures.items)
