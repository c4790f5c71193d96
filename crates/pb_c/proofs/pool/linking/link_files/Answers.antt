-- The fault of files that do not link is the one that was reported.
use Rattle.std.proofs.Common.{map}
use Rattle.pb_declarations.specs.View.{file_view}
use Rattle.pb_c.specs.PoolFault.{TellsRefusal}
use Rattle.pb_c.proofs.LinkTelling.{unlinked}
use Rattle.pb_c.proofs.pool.linking.link_files.Goals as goal

pub returns-in-Err-clause-refused : goal.returns-in-Err-clause-refused
returns-in-Err-clause-refused c not_done not_memory =
    unlinked (map file_view c.args.files.now) c.in-Err.error
    (λ w. TellsRefusal w c.tell_link.result c.args.refusal.now c.tell_link.new.refusal c.args.text.now c.tell_link.new.text) c.tell_link.result
    c.in-Err.ensures.refused c.tell_link.ensures.fault (λ is. (c.tell_link.ensures.memory is).0) not_memory
