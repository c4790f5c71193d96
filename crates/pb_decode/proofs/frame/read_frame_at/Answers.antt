-- The same bytes from `start` on.
use Rattle.std.proofs.Common.{sym, subst}
use Rattle.std.specs.Prelude.{IfSome}
use Rattle.pb_decode.specs.declared.error.DecodeError.{DecodeError}
use Rattle.pb_decode.specs.FromDevice.{IfRefused}
use Rattle.pb_decode.specs.Frame.{BadFrame}
use Rattle.pb_decode.proofs.InFrame.{refused_later, frame_later}
use Rattle.pb_decode.proofs.frame.read_frame_at.Goals as goal

pub returns-in-Err-clause-fault : goal.returns-in-Err-clause-fault
returns-in-Err-clause-fault g c =
    subst (λ (z : DecodeError). IfRefused z (λ f. IfSome (g.I.Input.left c.args.input.now) (λ left. BadFrame c.args.pool.now c.args.message_type.0 c.args.limits.depth c.args.start c.args.size left f))) (sym c.counted_from.ensures)
    (refused_later c.args.start c.in-Err.error (λ f. IfSome (g.I.Input.left c.args.input.now) (λ left. BadFrame c.args.pool.now c.args.message_type.0 c.args.limits.depth 0 c.args.size left f))
    (λ f. IfSome (g.I.Input.left c.args.input.now) (λ left. BadFrame c.args.pool.now c.args.message_type.0 c.args.limits.depth c.args.start c.args.size left f))
    (λ f bad. frame_later c.args.pool.now c.args.message_type.0 c.args.limits.depth c.args.size c.args.start (g.I.Input.left c.args.input.now) f bad) c.in-Err.ensures.fault)
