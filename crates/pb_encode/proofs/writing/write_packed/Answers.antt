use Rattle.pb_value.specs.Canon.{packed_bytes}
use Rattle.pb_value.specs.View.{values_view}
use Rattle.pb_encode.proofs.WriteLemmas.{writes_plain, writes_sealed}
use Rattle.pb_encode.proofs.writing.write_packed.Goals as goal

pub returns : goal.returns
returns g c =
    writes_sealed c.args.number c.next_length-size.result.0 (packed_bytes c.args.kind (values_view c.args.values.now.items)) c.next_length-size.ensures (rw c.from.ensures at c.put_prefix.ensures)
    (writes_plain c.put_elements.ensures)
