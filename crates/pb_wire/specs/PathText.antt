-- How a path is printed.
use Rattle.std.specs.Prelude.{List, [], ◌∷◌, ◌++◌, ℕ, codes, decimal, flat_map}
use Rattle.pb_wire.specs.declared.fault.PathStep.{PathStep}

-- a record's number, and in brackets its occurrence
abbrev pub step_text : PathStep → List ℕ
step_text s = decimal s.number ++ codes "[" ++ decimal s.occurrence ++ codes "]"

-- each step after a dot
abbrev pub dotted : List PathStep → List ℕ
dotted path = flat_map (λ s. codes "." ++ step_text s) path

-- the steps joined by dots, or `-` where there are none
abbrev pub path_text : List PathStep → List ℕ
path_text [] = codes "-"
path_text (s ∷ ss) = step_text s ++ dotted ss
