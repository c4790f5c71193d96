-- What is right is answered, since there is one value or one fault.
use Rattle.std.proofs.Common.{◌≡◌}
use Rattle.pb_value.specs.Data.{Message}
use Rattle.pb_value.specs.Dynamic.{Dynamic}
use Rattle.pb_decode.specs.Frame.{IsFrameOf, BadFrame}
use Rattle.pb_decode.proofs.DecodeLemmas.{same_value}
use Rattle.pb_decode.proofs.Outcomes.{accepted_left, refused_left}
use Rattle.pb_decode.proofs.InFrame.{frame_not_both, frame_one_fault}
use Rattle.pb_decode.proofs.frame.decode_frame.Goals as goal

pub returns-clause-accepted : goal.returns-clause-accepted
returns-clause-accepted g c =
    accepted_left (g.I.Input.left c.args.input.now) c.read_frame_at.result (λ left (m : Dynamic). IsFrameOf c.args.pool.now c.args.message_type.0 c.args.limits c.args.size left m.body) (λ left (v : Message). IsFrameOf c.args.pool.now c.args.message_type.0 c.args.limits c.args.size left v)
    (λ left f. BadFrame c.args.pool.now c.args.message_type.0 c.args.limits.depth c.args.start c.args.size left f) (λ v (m : Dynamic). m.body ≡ v) c.read_frame_at.ensures.value c.read_frame_at.ensures.fault
    (λ left v m t u. same_value m.body v u.text t.text) (λ left v f t fails. frame_not_both t fails)

pub returns-clause-refused : goal.returns-clause-refused
returns-clause-refused g c =
    refused_left (g.I.Input.left c.args.input.now) c.read_frame_at.result (λ left (m : Dynamic). IsFrameOf c.args.pool.now c.args.message_type.0 c.args.limits c.args.size left m.body)
    (λ left f. BadFrame c.args.pool.now c.args.message_type.0 c.args.limits.depth c.args.start c.args.size left f) c.read_frame_at.ensures.value c.read_frame_at.ensures.fault (λ left m f t fails. frame_not_both t fails) (λ left f h bad other. frame_one_fault c.args.pool.now bad other)
