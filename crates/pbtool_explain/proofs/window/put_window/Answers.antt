use Rattle.pb_output.proofs.SinkLemmas.{puts_then}
use Rattle.pbtool_explain.proofs.window.put_window.Goals as goal

pub returns : goal.returns
returns g c =
    let before = rw c.bytes_before-before.ensures.window at c.put_hex_words.ensures in
    let after = rw c.bytes_after-after.ensures at c.put_hex_words-2.ensures in
    let blanks = rw (c.blanks.ensures, c.bytes_before-before.ensures.window) at c.put-3.ensures in
    let end = rw (c.end_of_mark.ensures, c.bytes_after-after.ensures) at c.put-4.ensures in
    puts_then (puts_then (puts_then (puts_then (puts_then c.put.ensures before) after) c.put-2.ensures) blanks) end
