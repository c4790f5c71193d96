use Rattle.pbtool_files.specs.FileMap.{IsSaved, IsUnsaved}
use Rattle.pb_output.specs.Sending.{Cut, Sent}
use Rattle.pbtool_command.specs.JsonAnswer.{JsonAnswer}
use Rattle.pbtool_command.specs.MessageAnswer.{ListingAnswer}
use Rattle.pbtool_command.specs.TextAnswer.{TextAnswer}
use Rattle.pbtool_command.specs.Steps.{IsNothing, NoFile}
use Rattle.pbtool_files.proofs.KnownLemmas.{keeps_same}
use Rattle.pbtool_command.proofs.Coming.{comes_map, no_file_kept}
use Rattle.pbtool_command.proofs.form.make.Goals as goal

pub returns-in-Json-clause-comes : goal.returns-in-Json-clause-comes
returns-in-Json-clause-comes g c =
    let out = Sent g.O.Output.written g.O.Output.failures c.args.out.now c.print_json.new.out in
    let cut = Cut g.O.Output.written g.O.Output.failures c.args.out.now c.print_json.new.out in
    let contents = g.F.Files.contents in
    let files = c.args.files.now in
    let right = JsonAnswer c.in-Json.layout c.in-Json.names c.args.message.now in
    rw c.in-Json.is
    (comes_map out out cut cut NoFile (IsSaved contents files files) (λ _. ⊥) (IsUnsaved contents g.F.Files.failures files files) right right IsNothing
    IsNothing c.print_json.result (λ text h. h) (λ text h. h) (no_file_kept contents files files (keeps_same (contents files))) (λ device h. absurd h)
    (λ a h. h) (λ text h. h) c.print_json.ensures)

pub returns-in-Listing-clause-comes : goal.returns-in-Listing-clause-comes
returns-in-Listing-clause-comes g c =
    let out = Sent g.O.Output.written g.O.Output.failures c.args.out.now c.print_listing.new.out in
    let cut = Cut g.O.Output.written g.O.Output.failures c.args.out.now c.print_listing.new.out in
    let contents = g.F.Files.contents in
    let files = c.args.files.now in
    let right = ListingAnswer c.in-Listing.floats c.args.message.now in
    rw c.in-Listing.is
    (comes_map out out cut cut NoFile (IsSaved contents files files) (λ _. ⊥) (IsUnsaved contents g.F.Files.failures files files) right right IsNothing
    IsNothing c.print_listing.result (λ text h. h) (λ text h. h) (no_file_kept contents files files (keeps_same (contents files))) (λ device h. absurd h)
    (λ a h. h) (λ text h. h) c.print_listing.ensures)

pub returns-in-Text-clause-comes : goal.returns-in-Text-clause-comes
returns-in-Text-clause-comes g c =
    let out = Sent g.O.Output.written g.O.Output.failures c.args.out.now c.print_text.new.out in
    let cut = Cut g.O.Output.written g.O.Output.failures c.args.out.now c.print_text.new.out in
    let contents = g.F.Files.contents in
    let files = c.args.files.now in
    let right = TextAnswer c.in-Text.text_form c.args.message.now in
    rw c.in-Text.is
    (comes_map out out cut cut NoFile (IsSaved contents files files) (λ _. ⊥) (IsUnsaved contents g.F.Files.failures files files) right right IsNothing
    IsNothing c.print_text.result (λ text h. h) (λ text h. h) (no_file_kept contents files files (keeps_same (contents files))) (λ device h. absurd h)
    (λ a h. h) (λ text h. h) c.print_text.ensures)
