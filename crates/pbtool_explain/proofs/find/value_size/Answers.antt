use Rattle.std.proofs.Common.{◌∙◌, ℕ, ◌+◌, length, None, ap, subst, arith, drop, length-drop}
use Rattle.pb_wire.specs.Fault.{Place, Reads}
use Rattle.pb_wire.specs.Scan.{given_at, passed}
use Rattle.pbtool_explain.proofs.FindLemmas.{join_passed, moved_passed, moves_within, reads_within}
use Rattle.pbtool_explain.proofs.find.value_size.Goals as goal

pub returns-in-Varint : goal.returns-in-Varint
returns-in-Varint c = λ at q shows. c.varint_size.ensures at _ q (rw c.in-Varint.is at shows)

pub returns-in-I64 : goal.returns-in-I64
returns-in-I64 c = λ at q shows.
    let h = rw c.in-I64.is at shows in
    moved_passed at c.args.value.now h.0 q h.2 ∙ ap (λ (n : ℕ). passed (given_at at None c.args.value.now) n) h.1

pub returns-in-I32 : goal.returns-in-I32
returns-in-I32 c = λ at q shows.
    let h = rw c.in-I32.is at shows in
    moved_passed at c.args.value.now h.0 q h.2 ∙ ap (λ (n : ℕ). passed (given_at at None c.args.value.now) n) h.1

pub returns-in-Len : goal.returns-in-Len
returns-in-Len c = λ at q shows.
    let value = c.args.value.now in
    let h = rw c.in-Len.is at shows in
    let mid = c.varint_size-in-Len.ensures at _ h.0 h.1 in
    let end = moved_passed (at + c.varint_size-in-Len.result) (drop c.varint_size-in-Len.result value) _ q (rw mid at h.2) in
    let small = moves_within (at + c.varint_size-in-Len.result) (drop c.varint_size-in-Len.result value) _ q (rw mid at h.2) in
    let read = reads_within at c.varint_size-in-Len.result _ value (rw mid at h.1) in
    join_passed at c.varint_size-in-Len.result _ c.saturating_add.result value q end
    (omega (arith, c.saturating_add.ensures, small, read, length-drop c.varint_size-in-Len.result value))

pub returns-in-Group : goal.returns-in-Group
returns-in-Group c = λ at q shows.
    let value = c.args.value.now in
    let taken = length c.in-Group.inside.now in
    let h = rw c.in-Group.is at shows in
    let mid = moved_passed at value _ h.0 h.2 in
    let small = moves_within at value _ h.0 h.2 in
    let size = rw c.rest_at-end.ensures at c.varint_size-in-Group.ensures in
    let there = rw mid at h.3 in
    let end = size (at + taken) h.1 q there in
    let ends = subst (λ (z : Place). Reads (passed (given_at at None value) taken) h.1 z) end there in
    let read = reads_within (at + taken) c.varint_size-in-Group.result h.1 (drop taken value) ends in
    join_passed at taken c.varint_size-in-Group.result c.saturating_add-in-Group.result value q end
    (omega (arith, c.saturating_add-in-Group.ensures, small, read, length-drop taken value))
