-- What is said of the number of each wire type is said of a number.
use Rattle.std.proofs.Common.{sym, arith, ◌<◌, ◌^◌}
use Rattle.pb_wire.specs.Scan.{a_varint, eight_bytes, four_bytes}
use Rattle.pb_wire.proofs.ScanLemmas.{is_five}
use Rattle.pb_wire.proofs.scan.scan_number.Goals as goal

pub returns-in-Whole : goal.returns-in-Whole
returns-in-Whole c =
    λ at.
    let told = c.in-Whole.ensures at in
    let value = told.1.1.value in
    let small : c.in-Whole.number < 2 ^ 64 = omega (arith, value) in
    (told.0, (sym c.if-wire_type-eq0.true, (told.1.0, (small, told.1.1), told.1.2)))

pub returns-in-Short : goal.returns-in-Short
returns-in-Short c = λ at. a_varint c.if-wire_type-eq0.true (c.in-Short.ensures at)

pub returns-in-Fault : goal.returns-in-Fault
returns-in-Fault c = λ at. let told = c.in-Fault.ensures at in (told.0, a_varint c.if-wire_type-eq0.true told.1)

pub returns-in-Whole-scan_fixed64 : goal.returns-in-Whole-scan_fixed64
returns-in-Whole-scan_fixed64 c = λ at. let told = c.in-Whole-scan_fixed64.ensures at in (told.0, (sym c.if-wire_type-eq1.true, told.1))

pub returns-in-Short-scan_fixed64 : goal.returns-in-Short-scan_fixed64
returns-in-Short-scan_fixed64 c = λ at. eight_bytes c.if-wire_type-eq1.true (c.in-Short-scan_fixed64.ensures at)

pub returns-in-Fault-scan_fixed64 : goal.returns-in-Fault-scan_fixed64
returns-in-Fault-scan_fixed64 c = λ at. let told = c.in-Fault-scan_fixed64.ensures at in (told.0, eight_bytes c.if-wire_type-eq1.true told.1)

pub returns-in-Whole-scan_fixed32 : goal.returns-in-Whole-scan_fixed32
returns-in-Whole-scan_fixed32 c =
    λ at. let told = c.in-Whole-scan_fixed32.ensures at in (told.0, (sym (is_five c.requires c.if-wire_type-eq0.false c.if-wire_type-eq1.false), told.1))

pub returns-in-Short-scan_fixed32 : goal.returns-in-Short-scan_fixed32
returns-in-Short-scan_fixed32 c = λ at. four_bytes (is_five c.requires c.if-wire_type-eq0.false c.if-wire_type-eq1.false) (c.in-Short-scan_fixed32.ensures at)

pub returns-in-Fault-scan_fixed32 : goal.returns-in-Fault-scan_fixed32
returns-in-Fault-scan_fixed32 c =
    λ at. let told = c.in-Fault-scan_fixed32.ensures at in (told.0, four_bytes (is_five c.requires c.if-wire_type-eq0.false c.if-wire_type-eq1.false) told.1)
