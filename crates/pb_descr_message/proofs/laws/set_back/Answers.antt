use Rattle.std.proofs.Common.{refl}
use Rattle.pb_descr_message.specs.Sets.{set_bytes}
use Rattle.pb_descr_message.proofs.PoolRules.{descriptor_is_pool}
use Rattle.pb_descr_message.proofs.RoundTrip.{set_back}
use Rattle.pb_descr_message.proofs.WriteLemmas.{written_is_set}
use Rattle.pb_descr_message.proofs.laws.set_back.Goals as goal

pub returns : goal.returns
returns c = record {
  files = set_back;
  bytes = λ files writable. written_is_set files (set_bytes files) refl writable.0 writable.1;
  pool = descriptor_is_pool;
}
