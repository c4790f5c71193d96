use Rattle.std.proofs.Common.{◌≡◌, ◌<◌, ◌≤◌, ◌∙◌, sym, rules, length, get_or}
use Rattle.std.specs.Prelude.{string_bytes}
use Rattle.pb_link.proofs.DeclaredLemmas.{name_of_file, no_name}
use Rattle.pb_link.proofs.declaring.import_name.Goals as goal

pub returns-in_ok-name-in-Some : goal.returns-in_ok-name-in-Some
returns-in_ok-name-in-Some c =
    let f = c.in-Some.file.now in
    let copy : string_bytes c.in_ok-name-in-Some.name ≡ string_bytes f.name = search rules in
    let less : c.args.import < length c.args.files.now = search rules in
    let there : f ≡ get_or c.args.files.now c.args.import f = search rules in
    copy ∙ sym (name_of_file c.args.files.now c.args.import f less there)

pub returns-in-None : goal.returns-in-None
returns-in-None c =
    let past : length c.args.files.now ≤ c.args.import = search rules in
    c.new.ensures.bytes ∙ sym (no_name c.args.files.now c.args.import past)
