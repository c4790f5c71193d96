use Rattle.std.proofs.Common.{◌≡◌, ◌+◌, sym, ◌∙◌, refl, arith}
use Rattle.pbtool_explain.specs.Records.{nowhere}
use Rattle.pbtool_explain.proofs.FindLemmas.{found_here, passed_on}
use Rattle.pbtool_explain.proofs.find.take_turn.Goals as goal

pub returns-in-Some : goal.returns-in-Some
returns-in-Some c = λ start rs reached.
    let found = c.in-Some.ensures.found in
    let tag = rw c.rest_at-rest.ensures at (found.4 c.args.at) in
    let value = rw c.rest_at-rest.ensures at c.found_at.ensures.value in
    found_here c.found_at.result reached c.in-Some.ensures.counted tag found.3 c.found_at.ensures.start value

pub returns-in-None-first_record : goal.returns-in-None-first_record
returns-in-None-first_record c = λ start rs reached.
    let no_tag = rw c.rest_at-rest.ensures at c.in-None.ensures.none in
    let no_record = rw c.rest_at-rest.ensures at c.in-None-first_record.ensures.none in
    nowhere reached.front (λ w q h. no_tag (sym reached.counted ∙ h.counted) c.args.at w q h.tag h.no_end) (no_record c.args.at) refl

pub returns-in-Some-first_record : goal.returns-in-Some-first_record
returns-in-Some-first_record c = λ start rs reached.
    let no_tag = rw c.rest_at-rest.ensures at c.in-None.ensures.none in
    let whole = rw c.rest_at-rest.ensures at c.in-Some-first_record.ensures.whole in
    let size = rw c.rest_at-rest.ensures at c.record_size.ensures in
    let first = whole c.args.at in
    let end = size c.args.at c.in-Some-first_record.number first.0 first.1 in
    let on =
    passed_on c.args.bytes.now start c.args.at c.record_size.result c.args.before c.count_on.result reached (rw end at first.1) c.requires
    c.count_on.ensures.more c.count_on.ensures.same (λ e. no_tag e c.args.at) in
    let sum : c.saturating_add.result ≡ c.args.at + c.record_size.result = omega (arith, c.saturating_add.ensures, on.3) in
    (on.0, rw sum on.1, omega (arith, sum, on.2), omega (arith, sum, on.3), on.4)
