use Rattle.std.proofs.Common.{refl}
use Rattle.pb_output.proofs.SinkLemmas.{puts_then}
use Rattle.pbtool_explain.proofs.fault.put_fault.Goals as goal

pub returns : goal.returns
returns g c =
    let steps = c.put_steps.ensures in (
      _,
      (steps.0, steps.1, refl),
      puts_then (puts_then (puts_then c.put_site.ensures steps.2) c.put_expected.ensures) c.put_window.ensures,
    )
