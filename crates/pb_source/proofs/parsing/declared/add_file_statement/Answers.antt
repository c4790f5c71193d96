use Rattle.pb_source.proofs.PartSteps.{file_holds_nothing, file_holds_package, file_holds_message, file_holds_extend, file_holds_enum, file_holds_service}
use Rattle.pb_source.proofs.parsing.declared.add_file_statement.Goals as goal

pub returns-in-Nothing : goal.returns-in-Nothing
returns-in-Nothing c = rw c.in-Nothing.is (λ ss h one. file_holds_nothing c.args.file.now ss h)

pub returns-in-Package : goal.returns-in-Package
returns-in-Package c = rw c.in-Package.is (λ ss h one. file_holds_package c.args.file.now ss h c.in-Package.name one)

pub returns-in_ok-push-in-Message : goal.returns-in_ok-push-in-Message
returns-in_ok-push-in-Message c = rw c.in-Message.is (λ ss h one. file_holds_message c.args.file.now ss h c.push.new.self c.in-Message.message c.in_ok-push-in-Message.ensures.items)

pub returns-in_ok-append-in-Extend : goal.returns-in_ok-append-in-Extend
returns-in_ok-append-in-Extend c = rw c.in-Extend.is (λ ss h one. file_holds_extend c.args.file.now ss h c.append.new.self c.in-Extend.groups.items c.in_ok-append-in-Extend.ensures.items)

pub returns-in_ok-push-in-Enum : goal.returns-in_ok-push-in-Enum
returns-in_ok-push-in-Enum c = rw c.in-Enum.is (λ ss h one. file_holds_enum c.args.file.now ss h c.push-in-Enum.new.self c.in-Enum.decl c.in_ok-push-in-Enum.ensures.items)

pub returns-in_ok-push-in-Service : goal.returns-in_ok-push-in-Service
returns-in_ok-push-in-Service c = rw c.in-Service.is (λ ss h one. file_holds_service c.args.file.now ss h c.push-in-Service.new.self c.in-Service.service c.in_ok-push-in-Service.ensures.items)
