use Rattle.std.proofs.Common.{◌≡◌, sym}
use Rattle.pb_output.specs.Sending.{Cut, Sent}
use Rattle.pb_listing.specs.TypesListing.{enum_lines_at, message_lines_at}
use Rattle.pbtool_files.specs.Answer.{done}
use Rattle.pbtool_command.specs.Steps.{IsNothing, NoFile}
use Rattle.pbtool_command.specs.TypesAnswer.{NamedAnswer, a_message, an_enum}
use Rattle.pbtool_command.proofs.Coming.{comes_map}
use Rattle.pbtool_command.proofs.types.print_named.Goals as goal

pub returns-in-Some : goal.returns-in-Some
returns-in-Some g c =
    let out = Sent g.O.Output.written g.O.Output.failures c.args.out.now c.print_message_type.new.out in
    let cut = Cut g.O.Output.written g.O.Output.failures c.args.out.now c.print_message_type.new.out in
    comes_map out out cut cut NoFile NoFile (λ _. ⊥) (λ _. ⊥) (λ a. a ≡ done (message_lines_at c.args.pool.now c.in-Some.message_type.0))
    (NamedAnswer c.args.name.now c.args.pool.now) IsNothing IsNothing c.print_message_type.result (λ text h. h) (λ text h. h) (λ saved h. h) (λ path h. h)
    (λ a is. a_message (sym c.in-Some.ensures.found) is) (λ text h. h) c.print_message_type.ensures

pub returns : goal.returns
returns g c =
    let out = Sent g.O.Output.written g.O.Output.failures c.args.out.now c.print_enum_type.new.out in
    let cut = Cut g.O.Output.written g.O.Output.failures c.args.out.now c.print_enum_type.new.out in
    comes_map out out cut cut NoFile NoFile (λ _. ⊥) (λ _. ⊥) (λ a. a ≡ done (enum_lines_at c.args.pool.now c.in-Some-enum_by_name.enum_type.0))
    (NamedAnswer c.args.name.now c.args.pool.now) IsNothing IsNothing c.print_enum_type.result (λ text h. h) (λ text h. h) (λ saved h. h) (λ path h. h)
    (λ a is. an_enum (sym c.in_default.ensures.found) (sym c.in-Some-enum_by_name.ensures.found) is) (λ text h. h) c.print_enum_type.ensures
