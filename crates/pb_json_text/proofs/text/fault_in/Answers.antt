use Rattle.std.proofs.Common.{length, refl}
use Rattle.pb_json_text.proofs.FaultLaws.{prefix_answer}
use Rattle.pb_json_text.proofs.text.fault_in.Goals as goal

pub returns : goal.returns
returns c b less p =
    prefix_answer b c.args.prefix.now (length c.args.prefix.now) c.read_text-read.result c.fault_of.result p less refl c.read_text-read.ensures.ok c.read_text-read.ensures.fault
    c.fault_of.ensures.ok c.fault_of.ensures.err
