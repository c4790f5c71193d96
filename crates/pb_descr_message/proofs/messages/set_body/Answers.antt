use Rattle.std.proofs.Common.{map}
use Rattle.pb_declarations.specs.View.{file_view}
use Rattle.pb_descr_message.proofs.NestLemmas.{set_levels}
use Rattle.pb_descr_message.proofs.messages.set_body.Goals as goal

pub returns-clause-within : goal.returns-clause-within
returns-clause-within c = set_levels (map file_view c.args.files.now) 99 c.in_ok-files.ensures.within
