use Rattle.std.proofs.Common.{◌≡◌, ◌+◌, ◌++◌, ◌≤◌, ◌∙◌, List, ℕ, length, drop, ap, arith, sym, rules, subst, IfOk, Option, option_map}
use Rattle.std.proofs.lemmas.List.{take_rest}
use Rattle.pb_json_scalars.specs.Base64.{bytes_of}
use Rattle.pb_json_scalars.proofs.BytesLemmas.{group_more, group_stops, none_yet}
use Rattle.pb_json_scalars.proofs.bytes.read_base64.Goals as goal

pub groups-init : goal.groups-init
groups-init c =
    let symbols = c.without_padding-symbols.result.now in
    let start : option_map (λ rest. c.in_ok-bytes.bytes.items ++ rest) (bytes_of symbols) ≡ bytes_of symbols =
    rw c.in_ok-bytes.ensures.items (none_yet (bytes_of symbols)) in
    (search rules, start)

pub returns-in_default : goal.returns-in_default
returns-in_default c =
    let symbols = c.without_padding-symbols.result.now in
    let long : c.groups.at + 4 ≤ length symbols = omega arith in
    sym (group_stops c.groups.bytes.items symbols c.groups.at long c.in_default.ensures) ∙ c.groups.invariant.1 ∙ ap bytes_of c.without_padding-symbols.ensures

pub groups-preserved : goal.groups-preserved
groups-preserved c =
    let symbols = c.without_padding-symbols.result.now in
    let long : c.groups.at + 4 ≤ length symbols = omega arith in
    let more = group_more c.groups.bytes.items symbols c.groups.at long c.in-Some.group c.in-Some.ensures in
    let pushed : c.extend_from_slice.new.self.items ≡ c.groups.bytes.items ++ c.in-Some.group = c.in_ok-extend_from_slice.ensures.items in
    let kept : option_map (λ rest. c.extend_from_slice.new.self.items ++ rest) (bytes_of (drop (c.groups.at + 4) symbols)) ≡ bytes_of symbols =
    rw pushed (sym more ∙ c.groups.invariant.1) in
    (long, kept)

pub returns : goal.returns
returns c =
    let is_read : Option (List ℕ) → Type 0 = λ o. IfOk c.with_last.result (λ read. option_map (λ v. v.items) read ≡ o) in
    let rest = take_rest c.without_padding-symbols.result.now c.groups.at in
    subst is_read
    (ap (λ (l : List ℕ). option_map (λ y. c.groups.bytes.items ++ y) (bytes_of l)) rest ∙ c.groups.invariant.1 ∙ ap bytes_of c.without_padding-symbols.ensures)
    c.with_last.ensures
