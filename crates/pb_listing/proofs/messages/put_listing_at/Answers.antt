use Rattle.std.proofs.Common.{List, ℕ, subst}
use Rattle.pb_output.specs.Sink.{Puts}
use Rattle.pb_listing.proofs.BitsLemmas.{message_exact}
use Rattle.pb_listing.proofs.messages.put_listing_at.Goals as goal

pub returns : goal.returns
returns g c =
    let message = c.args.message.now in
    let put = c.put_listing_as.ensures in
    subst (λ (s : List ℕ). Puts g.O.Output.written g.O.Output.failures c.args.out.now c.put_listing_as.new.out c.args.sink.now c.put_listing_as.new.sink s)
    (message_exact message.pool message.body c.args.level message.kind put.0 put.1) put.2
