use Rattle.std.proofs.Common.{ℕ, List, take, ◌++◌, ◌∷◌, [], ◌||◌, arith, sym, ap, ◌∙◌}
use Rattle.std.specs.List.{list_any, enumerate_from}
use Rattle.pb_declarations.specs.View.{message_view}
use Rattle.pb_link_names.specs.Declarations.{a_oneof, head_of, is_synthetic}
use Rattle.pb_link_names.specs.declared.marks.Marks.{Marks}
use Rattle.pb_link_names.specs.Marks.{marks_of}
use Rattle.pb_link_names.proofs.MarkLemmas.{enumerated_more, any_index_more, all_enumerated}
use Rattle.pb_link_names.proofs.OneofCountLemmas.{mark_there, get_name}
use Rattle.pb_link_names.proofs.marks.oneof_marks.Goals as goal

pub loop-index-preserved : goal.loop-index-preserved
loop-index-preserved c =
    let head = head_of (message_view c.args.message.now) in
    let f : ℕ × List ℕ → Marks = λ e. marks_of (a_oneof head e.0 e.1) in
    let i = c.loop-index.index in
    let there = mark_there head c.in_ok-oneofs.oneofs i c.index.result.now c.in_ok-oneofs.ensures (omega arith) c.index.ensures in
    record {
      marked = c.in_ok-push.ensures.items ∙ ap (λ m. c.loop-index.marks.items ++ m ∷ []) (c.oneof_mark.ensures head (get_name head.oneofs i) c.in_ok-oneofs.ensures c.loop-index.invariant.follows) ∙ ap (λ l. l ++ f (i, get_name head.oneofs i) ∷ []) c.loop-index.invariant.marked ∙ sym (enumerated_more f head.oneofs i [] there.0);
      follows = c.either-follows_synthetic.ensures ∙ ap (λ b. b || c.index.result.now) c.loop-index.invariant.follows ∙ ap (λ b. list_any (λ e. is_synthetic head e.0) (take i (enumerate_from 0 head.oneofs)) || b) there.1 ∙ sym (any_index_more (is_synthetic head) head.oneofs i [] there.0);
    }

pub returns : goal.returns
returns c =
    let head = head_of (message_view c.args.message.now) in
    let f : ℕ × List ℕ → Marks = λ e. marks_of (a_oneof head e.0 e.1) in
    let size = c.in_ok-oneofs.ensures.size in
    all_enumerated f head.oneofs c.loop-index.index c.loop-index.marks.items c.loop-index.invariant.marked (omega (arith, size))
