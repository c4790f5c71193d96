use Rattle.std.proofs.Common.{◌≡◌, ◌∙◌, length, string_bytes, Some, not, sym, ap, subst, arith}
use Rattle.std.specs.Prelude.{slice_get, IfSome}
use Rattle.std.proofs.Common.{Bor, List, ℕ, vec_len}
use Rattle.pb_schema.specs.declared.types.MessageType.{MessageType}
use Rattle.pb_schema.specs.Oneofs.{member_numbers}
use Rattle.std.proofs.lemmas.List.{length-map}
use Rattle.pb_schema.specs.Types.{message_fields}
use Rattle.pb_schema.specs.View.{message_view}
use Rattle.pb_schema.proofs.LookupLemmas.{get_viewed}
use Rattle.pb_compat.specs.Oneofs.{at_most_one, shapes_of, is_crowded}
use Rattle.pb_compat.proofs.OneofLemmas.{more_crowds}
use Rattle.pb_compat.proofs.oneofs.crowds.Goals as goal
use Rattle.pb_compat.proofs.oneofs.crowds.Goals.{in-Ok, in-Err}

pub loop-oneof-preserved : goal.loop-oneof-preserved
loop-oneof-preserved c =
    let fs = message_fields c.args.old.now c.args.old_type.0 in
    let gs = message_fields c.args.new.now c.args.new_type.0 in
    record {
      size = omega (arith, c.in_ok-push.ensures.len, c.loop-oneof.invariant.size);
      exact =
          more_crowds (is_crowded fs gs) _ c.loop-oneof.crowded.items c.push.new.self.items c.loop-oneof.oneof (not c.at_most_one.result) c.loop-oneof.invariant.size c.in_ok-push.ensures.items c.loop-oneof.invariant.exact
          (λ small. elim c.match-try_from.branch [
            | in-Ok w ↦ ap not (c.at_most_one.ensures ∙ ap (λ ns. at_most_one (shapes_of fs ns)) (ap (λ (r : Bor (List ℕ)). r.now) w.members-is ∙ w.oneof_members-members.ensures.found ∙ ap (λ o. member_numbers o gs) w.in-Ok.ensures.1))
            | in-Err w ↦ absurd (w.in-Err.ensures small)
          ]);
    }

pub returns : goal.returns
returns c =
    let x = c.index-messages-new_type.result in
    let n = c.args.new_type.0 in
    let at : slice_get c.args.new.now.messages n ≡ Some (message_view x) =
    subst (λ ms. slice_get ms n ≡ Some (message_view x)) c.messages.ensures.listed
    (get_viewed message_view c.messages.result.now n x (omega (arith, ap length c.messages.ensures.listed, length-map c.messages.result.now message_view, c.requires.new)) c.index-messages-new_type.is) in
    record {
      size =
          subst (λ o. IfSome o (λ t. length c.loop-oneof.crowded.items ≡ length t.oneofs)) (sym at)
          (omega (arith, c.loop-oneof.invariant.size, c.loop-oneof-test.false, c.loop-oneof.auto.oneof-end, c.len-oneof-end.ensures ∙ ap (λ (y : MessageType). vec_len y.oneofs) (sym c.index-messages-new_type.is), x.oneofs.ok.0, length-map x.oneofs.items string_bytes));
      exact = λ o h small. c.loop-oneof.invariant.exact o (omega (arith, h, c.loop-oneof.invariant.size)) small;
    }
