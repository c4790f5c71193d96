use Rattle.pb_listing.proofs.BitsLemmas.{listing_went}
use Rattle.pb_listing.proofs.messages.write_message.Goals as goal

pub returns : goal.returns
returns g c =
    listing_went g.O.Output.written g.O.Output.failures c.args.out.now c.write_message_as.new.out c.args.message.now c.write_message_as.result
    c.write_message_as.ensures
