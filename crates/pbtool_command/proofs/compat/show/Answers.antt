use Rattle.std.proofs.Common.{◌≡◌, refl, option_map}
use Rattle.std.proofs.KnownBytes.{Appends-nil}
use Rattle.pb_output.specs.Sending.{Cut, Sent}
use Rattle.pbtool_command.specs.CompatAnswer.{ComparesTo, reported, verdict_answer}
use Rattle.pbtool_command.specs.Steps.{IsNothing, NoFile}
use Rattle.pbtool_command.proofs.Coming.{comes_map, refused_comes}
use Rattle.pbtool_command.proofs.CompatSteps.{lacking_refuses}
use Rattle.pbtool_command.proofs.compat.show.Goals as goal

pub returns-in-Some : goal.returns-in-Some
returns-in-Some g c =
    let out = Sent g.O.Output.written g.O.Output.failures c.args.out.now c.print.new.out in
    let cut = Cut g.O.Output.written g.O.Output.failures c.args.out.now c.print.new.out in
    let judged = rw c.in-Some.is at c.in_ok-verdict.ensures in
    let right = ComparesTo c.args.readers c.args.old.now c.args.new.now (option_map (λ n. n.now) c.args.type_name) in
    comes_map out out cut cut NoFile NoFile (λ _. ⊥) (λ _. ⊥) (λ a. a ≡ verdict_answer c.in-Some.verdict) right IsNothing IsNothing c.print.result
    (λ text h. h) (λ text h. h) (λ saved h. h) (λ path h. h) (λ a is. reported c.in-Some.verdict judged is) (λ text h. h) c.print.ensures

pub returns-in-None : goal.returns-in-None
returns-in-None g c =
    let lacks = rw c.in-None.is at c.in_ok-verdict.ensures in
    refused_comes (Sent g.O.Output.written g.O.Output.failures c.args.out.now c.args.out.now)
    (Cut g.O.Output.written g.O.Output.failures c.args.out.now c.args.out.now) NoFile (λ _. ⊥)
    (ComparesTo c.args.readers c.args.old.now c.args.new.now (option_map (λ n. n.now) c.args.type_name)) IsNothing c.unknown.result
    (refl, Appends-nil (g.O.Output.written c.args.out.now)) refl refl
    (lacking_refuses c.args.readers c.args.old.now c.args.new.now c.args.type_name c.unknown.result c.unknown.ensures lacks)
