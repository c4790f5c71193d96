use Rattle.std.proofs.Common.{◌≡◌, ◌≤◌, ◌<◌, ◌+◌, subst, take, drop, length, true, false}
use Rattle.std.specs.List.{list_all}
use Rattle.std.specs.Prelude.{slice_index}
use Rattle.pb_source_tokens.specs.Tokens.{Stops, goes_on_line, has_close}
use Rattle.pb_source_tokens.proofs.PieceLemmas.{tail, line_gap, closed_gap, open_there, some_bytes}
use Rattle.pb_source_tokens.proofs.lexing.comment_len.Goals as goal

pub returns-then-after-eq47-clause-found : goal.returns-then-after-eq47-clause-found
returns-then-after-eq47-clause-found c =
    let after = c.args.after.now in
    let n = c.line_len.result in
    line_gap after n (some_bytes after c.if-is_empty.ensures) c.if-after-eq47.true (subst (λ t. n ≤ length t) (tail after) c.line_len.ensures.within)
    (subst (λ t. list_all goes_on_line (take n t) ≡ true) (tail after) c.line_len.ensures.passes) (subst (λ t. Stops goes_on_line (drop n t)) (tail after) c.line_len.ensures.stops)

pub returns-in-Some-clause-found : goal.returns-in-Some-clause-found
returns-in-Some-clause-found c =
    let after = c.args.after.now in
    let n = c.in-Some.n in
    let f = c.in-Some.ensures.found in
    closed_gap after n (some_bytes after c.if-is_empty.ensures) c.if-after-ne42.false (subst (λ t. n + 1 < length t) (tail after) f.0) (subst (λ t. slice_index t n ≡ 42) (tail after) f.1)
    (subst (λ t. slice_index t (n + 1) ≡ 47) (tail after) f.2) (subst (λ t. has_close (take (n + 1) t) ≡ false) (tail after) f.3)

pub returns-in-None-clause-fault : goal.returns-in-None-clause-fault
returns-in-None-clause-fault c = open_there c.args.after.now (some_bytes c.args.after.now c.if-is_empty.ensures) c.if-after-ne42.false (subst (λ t. has_close t ≡ false) (tail c.args.after.now) c.in-None.ensures.none)
