-- The lines for a person about bytes that are refused.
use Rattle.std.specs.Prelude.{◌≡◌, ℕ, ◌+◌, List, ◌++◌, Option, None, Some, codes, decimal}
use Rattle.pb_schema.specs.Types.{Types}
use Rattle.pbtool_explain.specs.Expected.{expected_line}
use Rattle.pbtool_explain.specs.Steps.{AreStepLines}
use Rattle.pbtool_explain.specs.Window.{window_lines}
use Rattle.pbtool_explain.specs.declared.fault.Refused.{Refused}
use Rattle.pbtool_explain.specs.declared.steps.Given.{Given}
use Rattle.pbtool_explain.specs.declared.steps.Parent.{Parent}

-- which byte of which frame it is
abbrev pub frame_text : ℕ → ℕ → ℕ → List ℕ
frame_text byte index offset =
    codes ": byte " ++ decimal byte ++ codes " of frame " ++ decimal index ++ codes ", which begins at byte " ++ decimal offset ++ codes "\n"

-- the end of the line, of a stream after the frame
abbrev pub site_end : Option ℕ → ℕ → ℕ → List ℕ
site_end None byte offset = codes "\n"
site_end (Some index) byte offset = frame_text byte index offset

-- where the byte is in its file
abbrev pub site_line : Given → ℕ → List ℕ
site_line g byte = codes "  at byte " ++ decimal (g.offset + byte) ++ codes " of " ++ g.file.now ++ site_end g.frame byte g.offset

-- where the byte is, a line for each step of the path, what was expected, and the bytes around
abbrev pub IsExplained : Types → Parent → Given → Refused → List ℕ → Type 0
IsExplained pool parent g r lines =
    (steps : List ℕ) × AreStepLines pool parent g r.path.now steps
    × (lines ≡ site_line g r.byte ++ steps ++ expected_line r.cause ++ window_lines g.bytes.now r.byte)
