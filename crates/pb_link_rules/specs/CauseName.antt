-- The numbers and names of causes.
use Rattle.std.specs.Prelude.{ℕ, List, codes}
use Rattle.pb_link_rules.specs.declared.cause.LinkCause.{LinkCause}
use Rattle.pb_link_rules.specs.declared.cause.LinkCause.TheVariants as cause

abbrev pub cause_number : LinkCause → ℕ
cause_number cause.TwoFiles = 71
cause_number cause.MissingImport = 72
cause_number cause.ImportCycle = 73
cause_number cause.BadName = 74
cause_number cause.NameTaken = 75
cause_number cause.NotFound = 76
cause_number cause.NotVisible = 77
cause_number cause.NotAType = 78
cause_number cause.BadNumber = 79
cause_number cause.NumberTaken = 80
cause_number cause.Reserved = 81
cause_number cause.BadOneof = 82
cause_number cause.BadMap = 83
cause_number cause.BadPacked = 84
cause_number cause.BadEnum = 85
cause_number cause.KindMismatch = 86
cause_number cause.BadRange = 87
cause_number cause.ClosedEnum = 89

abbrev pub cause_name : LinkCause → List ℕ
cause_name cause.TwoFiles = codes "TwoFiles"
cause_name cause.MissingImport = codes "MissingImport"
cause_name cause.ImportCycle = codes "ImportCycle"
cause_name cause.BadName = codes "BadName"
cause_name cause.NameTaken = codes "NameTaken"
cause_name cause.NotFound = codes "NotFound"
cause_name cause.NotVisible = codes "NotVisible"
cause_name cause.NotAType = codes "NotAType"
cause_name cause.BadNumber = codes "BadNumber"
cause_name cause.NumberTaken = codes "NumberTaken"
cause_name cause.Reserved = codes "Reserved"
cause_name cause.BadOneof = codes "BadOneof"
cause_name cause.BadMap = codes "BadMap"
cause_name cause.BadPacked = codes "BadPacked"
cause_name cause.BadEnum = codes "BadEnum"
cause_name cause.KindMismatch = codes "KindMismatch"
cause_name cause.BadRange = codes "BadRange"
cause_name cause.ClosedEnum = codes "ClosedEnum"
