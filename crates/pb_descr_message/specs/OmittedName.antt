-- The names of what is left out.
use Rattle.std.specs.Prelude.{ℕ, List, codes}
use Rattle.pb_descr_message.specs.declared.omitted.OmittedPart.{OmittedPart}
use Rattle.pb_descr_message.specs.declared.omitted.OmittedPart.TheVariants.{Extension, ExtensionRange, Required, DefaultValue, ClosedMap}

abbrev pub part_name : OmittedPart → List ℕ
part_name Extension = codes "Extension"
part_name ExtensionRange = codes "ExtensionRange"
part_name Required = codes "Required"
part_name DefaultValue = codes "DefaultValue"
part_name ClosedMap = codes "ClosedMap"
