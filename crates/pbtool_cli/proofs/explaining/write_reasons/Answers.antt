use Rattle.pbtool_cli.proofs.explaining.write_reasons.Goals as goal

pub returns : goal.returns
returns g c = (c.explain-lines.result.items, c.explain-lines.ensures, rw c.as_slice.ensures.value at c.write_bytes.ensures)
