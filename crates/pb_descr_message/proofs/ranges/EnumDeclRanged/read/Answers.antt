use Rattle.std.proofs.Common.{subst}
use Rattle.std.specs.List.{AllByRecursion}
use Rattle.pb_declarations.specs.View.{numbered_view}
use Rattle.pb_descr_message.specs.Ranges.{IsRangeInRange, IsValueInRange}
use Rattle.pb_descr_message.proofs.RangeLemmas.{enum_read}
use Rattle.pb_descr_message.proofs.ranges.EnumDeclRanged.read.Goals as goal

pub returns : goal.returns
returns c =
    enum_read c.args.self.now (subst (AllByRecursion (λ v. IsValueInRange (numbered_view v))) c.deref.ensures.value c.read_all.ensures)
    (subst (AllByRecursion IsRangeInRange) c.deref-2.ensures.value c.read_all-2.ensures)
