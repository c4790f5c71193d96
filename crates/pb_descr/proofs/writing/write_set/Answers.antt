use Rattle.std.proofs.Common.{◌<◌, ◌^◌, length, map, ap, ◌∙◌, subst}
use Rattle.pb_value.specs.Dynamic.{Dynamic}
use Rattle.pb_encode.specs.Encoding.{bytes_of}
use Rattle.pb_declarations.specs.View.{file_view}
use Rattle.pb_descr_message.proofs.WriteLemmas.{written_is_set}
use Rattle.pb_descr.proofs.writing.write_set.Goals as goal

pub returns-in-Ok-encode-clause-read_back : goal.returns-in-Ok-encode-clause-read_back
returns-in-Ok-encode-clause-read_back c =
    λ silent.
    written_is_set (map file_view c.args.files.now) c.in-Ok-encode.bytes.items (c.in-Ok-encode.ensures.canonical ∙ ap bytes_of c.in_ok-message.ensures.made) c.in_ok-message.ensures.well_formed
    (subst (λ (m : Dynamic). length (bytes_of m) < 2 ^ 31) c.in_ok-message.ensures.made c.in-Ok-encode.ensures.fits) silent
