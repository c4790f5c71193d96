use Rattle.std.proofs.Common.{◌≡◌, rules, length, false}
use Rattle.std.specs.Prelude.{◌==◌}
use Rattle.std.specs.Str.{bytes_eq}
use Rattle.pb_json.specs.JsonNames.{lower_camel}
use Rattle.pb_json_names.proofs.NameLemmas.{name_kept, wrong_name}
use Rattle.pb_json_names.proofs.name.other_name.Goals as goal

pub returns-in-Ok : goal.returns-in-Ok
returns-in-Ok c =
    let filled : (length c.args.bytes.now == 0) ≡ false = search rules in
    let apart : bytes_eq (lower_camel c.args.declared.now) c.args.bytes.now ≡ false = search rules in
    let kept = name_kept c.args.declared.now c.args.bytes.now filled c.in-Ok.ensures.1 apart in
    search (rules, kept)

pub returns-in-Err : goal.returns-in-Err
returns-in-Err c = wrong_name c.args.declared.now c.args.bytes.now c.in-Err.ensures
