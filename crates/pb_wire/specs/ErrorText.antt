-- How faults and errors show.
use Rattle.std.specs.Prelude.{List, ◌++◌, ℕ, codes, decimal}
use Rattle.pb_wire.specs.CauseName.{name_of}
use Rattle.pb_wire.specs.PathText.{path_text}
use Rattle.pb_wire.specs.declared.fault.Cause.{Cause}
use Rattle.pb_wire.specs.declared.fault.RawError.{RawError}
use Rattle.pb_wire.specs.declared.fault.RawError.TheVariants.{Fault, Memory}

-- the cause, and where
abbrev pub fault_text : ℕ → Cause → List ℕ
fault_text byte cause = name_of cause ++ codes " at byte " ++ decimal byte

-- a fault with the steps that lead to it, or out of memory
abbrev pub error_text : RawError → List ℕ
error_text (Fault byte path cause) = fault_text byte cause ++ codes ", path " ++ path_text path.items
error_text Memory = codes "out of memory"
