use Rattle.std.proofs.Common.{◌≡◌, length, drop, arith}
use Rattle.std.proofs.lemmas.List.{length-drop}
use Rattle.pb_value.specs.View.{entries_view}
use Rattle.pb_c_message.specs.Keys.{keys_of}
use Rattle.pb_c_message.proofs.KeyLists.{keys_count, counts}
use Rattle.pb_c_message.proofs.keys.report_keys.Goals as goal

pub returns-clause-reported : goal.returns-clause-reported
returns-clause-reported c =
    let es = c.args.entries.now.entries in let ks = keys_of (entries_view es) in
    let left : c.saturating_sub-keys.result ≡ length (drop c.args.first ks) =
    omega (arith, c.saturating_sub-keys.ensures, c.len.ensures.len, length-drop c.args.first ks, keys_count es) in
    record { keys = c.write_keys.ensures; strings = c.write_strings.ensures; counted = counts left c.in_ok-bytes.ensures }
