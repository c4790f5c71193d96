use Rattle.std.proofs.Common.{◌≡◌, ◌<◌, Some, None, map, length, sym, ◌∙◌, rules}
use Rattle.pb_declarations.specs.View.{file_view}
use Rattle.pb_link_rules.specs.Link.{first_fault}
use Rattle.pb_link_names.specs.View.{declaration_view}
use Rattle.pb_link_rules.proofs.FaultLemmas.{silent_fault, row_within, told_there, file_within, file_there, told_refused, told_fault}
use Rattle.pb_link_rules.proofs.VerdictLemmas.{silent_holds, told_fails}
use Rattle.pb_link_rules.proofs.verdict.verdict.Goals as goal

pub returns-in_default-clause-held : goal.returns-in_default-clause-held
returns-in_default-clause-held c = λ v other.
    let w = c.requires.0 in
    let told : first_fault w 0 w.declared ≡ None = sym (c.first_fault.ensures w c.requires.1.in_files c.requires.2) ∙ c.in_default.is in
    silent_holds (map file_view c.args.files.now) w v c.requires.1 told other

pub returns-in_default-clause-fault : goal.returns-in_default-clause-fault
returns-in_default-clause-fault c = λ file name k fault.
    let w = c.requires.0 in
    let told : first_fault w 0 w.declared ≡ None = sym (c.first_fault.ensures w c.requires.1.in_files c.requires.2) ∙ c.in_default.is in
    absurd (silent_fault (map file_view c.args.files.now) w file name k c.requires.1 told fault)

pub offset_bounds-row-place : goal.offset_bounds-row-place
offset_bounds-row-place c =
    let w = c.requires.0 in
    let told : first_fault w 0 w.declared ≡ Some (c.in-Some.place, c.in-Some.cause) = sym (c.first_fault.ensures w c.requires.1.in_files c.requires.2) ∙ c.in-Some.is in
    let h : c.in-Some.place < length c.args.row.now = row_within w c.args.row.now c.in-Some.place c.in-Some.cause c.requires.2.declared told in
    search rules

pub bounds-row-place : goal.bounds-row-place
bounds-row-place c =
    let w = c.requires.0 in
    let told : first_fault w 0 w.declared ≡ Some (c.in-Some.place, c.in-Some.cause) = sym (c.first_fault.ensures w c.requires.1.in_files c.requires.2) ∙ c.in-Some.is in
    row_within w c.args.row.now c.in-Some.place c.in-Some.cause c.requires.2.declared told

pub offset_bounds-files-declaration : goal.offset_bounds-files-declaration
offset_bounds-files-declaration c =
    let w = c.requires.0 in
    let d = c.index-row-place.result in
    let told : first_fault w 0 w.declared ≡ Some (c.in-Some.place, c.in-Some.cause) = sym (c.first_fault.ensures w c.requires.1.in_files c.requires.2) ∙ c.in-Some.is in
    let there = told_there w c.args.row.now c.in-Some.place c.in-Some.cause d c.requires.2.declared told c.index-row-place.is in
    let h : d.file < length c.args.files.now = file_within c.args.files.now w c.in-Some.place (declaration_view d) c.requires.1 there in
    search rules

pub bounds-files-declaration : goal.bounds-files-declaration
bounds-files-declaration c =
    let w = c.requires.0 in
    let d = c.index-row-place.result in
    let told : first_fault w 0 w.declared ≡ Some (c.in-Some.place, c.in-Some.cause) = sym (c.first_fault.ensures w c.requires.1.in_files c.requires.2) ∙ c.in-Some.is in
    let there = told_there w c.args.row.now c.in-Some.place c.in-Some.cause d c.requires.2.declared told c.index-row-place.is in
    file_within c.args.files.now w c.in-Some.place (declaration_view d) c.requires.1 there

pub returns-clause-refused : goal.returns-clause-refused
returns-clause-refused c =
    let w = c.requires.0 in
    let d = c.index-row-place.result in
    let told : first_fault w 0 w.declared ≡ Some (c.in-Some.place, c.in-Some.cause) = sym (c.first_fault.ensures w c.requires.1.in_files c.requires.2) ∙ c.in-Some.is in
    let there = told_there w c.args.row.now c.in-Some.place c.in-Some.cause d c.requires.2.declared told c.index-row-place.is in
    let in_file = file_there c.args.files.now w c.in-Some.place (declaration_view d) c.index-files-declaration.result c.requires.1 there c.index-files-declaration.is in
    told_refused (map file_view c.args.files.now) w c.in-Some.place c.in-Some.cause (declaration_view d) (file_view c.index-files-declaration.result) c.in_ok-fault_of.field-0 c.requires.1 told there in_file c.in_ok-fault_of.ensures

pub returns-clause-accepted : goal.returns-clause-accepted
returns-clause-accepted c = λ v other nothing.
    let w = c.requires.0 in
    let told : first_fault w 0 w.declared ≡ Some (c.in-Some.place, c.in-Some.cause) = sym (c.first_fault.ensures w c.requires.1.in_files c.requires.2) ∙ c.in-Some.is in
    absurd (told_fails (map file_view c.args.files.now) w v c.in-Some.place c.in-Some.cause c.requires.1 told other nothing)

pub returns-clause-fault : goal.returns-clause-fault
returns-clause-fault c = λ file name k fault.
    let w = c.requires.0 in
    let d = c.index-row-place.result in
    let told : first_fault w 0 w.declared ≡ Some (c.in-Some.place, c.in-Some.cause) = sym (c.first_fault.ensures w c.requires.1.in_files c.requires.2) ∙ c.in-Some.is in
    let there = told_there w c.args.row.now c.in-Some.place c.in-Some.cause d c.requires.2.declared told c.index-row-place.is in
    let in_file = file_there c.args.files.now w c.in-Some.place (declaration_view d) c.index-files-declaration.result c.requires.1 there c.index-files-declaration.is in
    told_fault (map file_view c.args.files.now) w c.in-Some.place c.in-Some.cause k (declaration_view d) (file_view c.index-files-declaration.result) c.in_ok-fault_of.field-0 file name c.requires.1 told there in_file c.in_ok-fault_of.ensures fault
