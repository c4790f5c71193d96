use Rattle.std.proofs.Common.{◌≡◌, ◌+◌, ◌-◌, ◌++◌, [], ◌∷◌, length, map, take, drop, cond, ltb, sym, ap, ◌∙◌, arith, rules, append-nil, ltb-true, Some, None, option_map, string_bytes}
use Rattle.std.proofs.lemmas.List.{map_push, take_rest}
use Rattle.pb_json_scalars.specs.Paths.{between_commas, path_of, paths_of}
use Rattle.pb_json_scalars.proofs.PathLemmas.{Paths, name_end, next_name, no_name, none_yet}
use Rattle.pb_json_scalars.proofs.masks.read_mask.Goals as goal

pub names-init : goal.names-init
names-init c =
    let s = c.args.characters.now in
    let start : option_map (λ rest. map string_bytes c.new-paths.result.items ++ rest) (paths_of (between_commas s)) ≡ paths_of (between_commas s) =
    rw c.new-paths.ensures.items (none_yet (paths_of (between_commas s))) in
    record { within = λ e. search rules; so_far = start }

pub returns-in_default : goal.returns-in_default
returns-in_default c =
    let s = c.args.characters.now in
    let end : c.name_len.result ≡ name_end (drop c.names.at s) = c.name_len.ensures.is ∙ ap name_end (take_rest s c.names.at) in
    let none : None ≡ path_of (take (c.names.at + c.name_len.result - c.names.at) (drop c.names.at s)) =
    sym (ap (option_map string_bytes) c.in_default.is) ∙ c.in_ok-path.ensures in
    let so_far = rw c.names-test.true at c.names.invariant.so_far in
    rw (sym c.if-is_empty.ensures) (sym (no_name (map string_bytes c.names.paths.items) s c.names.at c.name_len.result end none) ∙ so_far)

pub names-preserved : goal.names-preserved
names-preserved c =
    let s = c.args.characters.now in
    let end : c.name_len.result ≡ name_end (drop c.names.at s) = c.name_len.ensures.is ∙ ap name_end (take_rest s c.names.at) in
    let path = string_bytes c.in-Some.path in
    let some : Some path ≡ path_of (take (c.names.at + c.name_len.result - c.names.at) (drop c.names.at s)) =
    sym (ap (option_map string_bytes) c.in-Some.is) ∙ c.in_ok-path.ensures in
    let paths = map string_bytes c.names.paths.items in
    let so_far = rw c.names-test.true at c.names.invariant.so_far in
    let next = next_name paths s c.names.at c.name_len.result end path some in
    let pushed : map string_bytes c.push.new.self.items ≡ paths ++ path ∷ [] =
    ap (map string_bytes) c.in_ok-push.ensures.items ∙ map_push string_bytes c.names.paths.items c.in-Some.path in
    let left : Paths = cond (ltb (c.names.at + c.name_len.result) (length s)) (between_commas (drop (c.names.at + c.name_len.result + 1) s)) [] in
    let kept : option_map (λ rest. map string_bytes c.push.new.self.items ++ rest) (paths_of left) ≡ paths_of (between_commas s) =
    ap (λ (l : Paths). option_map (λ rest. l ++ rest) (paths_of left)) pushed ∙ next ∙ so_far in
    record { within = λ e. let inside = ltb-true (c.names.at + c.name_len.result) (length s) e in omega arith; so_far = kept }

pub returns : goal.returns
returns c =
    let paths = map string_bytes c.names.paths.items in
    let so_far = rw c.names-test.false at c.names.invariant.so_far in
    rw (sym c.if-is_empty.ensures) (ap (λ (l : Paths). Some l) (sym (append-nil paths)) ∙ so_far)
