-- An entry has the key that its map asks for.
use Rattle.std.proofs.Common.{subst}
use Rattle.pb_decode_parts.specs.declared.open.part.Part.{Part}
use Rattle.pb_decode_parts.specs.Close.Closing.{CanGoInto}
use Rattle.pb_decode_parts.specs.Open.PartView.{part_view}
use Rattle.pb_decode_parts.proofs.close.put_part.Goals as goal

pub put_entry-requires-clause-key : goal.put_entry-requires-clause-key
put_entry-requires-clause-key c = (subst (λ (z : Part). CanGoInto c.args.slot (part_view c.args.outer.now) (part_view z)) c.in-Entry.is c.requires.fits).0

pub put_entry-requires-clause-fits : goal.put_entry-requires-clause-fits
put_entry-requires-clause-fits c = (subst (λ (z : Part). CanGoInto c.args.slot (part_view c.args.outer.now) (part_view z)) c.in-Entry.is c.requires.fits).1
