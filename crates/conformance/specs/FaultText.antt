-- How a fault is reported to the suite.
use Rattle.std.specs.Prelude.{ℕ, List, ◌++◌, codes, decimal}
use Rattle.pb_wire.specs.CauseName.{name_of}
use Rattle.pb_wire.specs.Fault.{Fault}
use Rattle.pb_wire.specs.PathText.{path_text}

-- the byte, the path to it and the cause
abbrev pub fault_text : Fault → List ℕ
fault_text f = codes "byte " ++ decimal f.byte ++ codes " path " ++ path_text f.path ++ codes " cause " ++ name_of f.cause
