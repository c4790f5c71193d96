-- What is read of an input that comes in pieces, and what taking one does.
use Rattle.std.specs.Prelude.{ℕ, ◌+◌, List, length, Result, IfErr, OnOk}
use Rattle.pb_wire.specs.Record.{Record}
use Rattle.pb_wire.specs.Fault.{Place}
use Rattle.pb_wire.specs.Exact.{longer}
use Rattle.pb_wire.specs.Limits.{Bounds}
use Rattle.pb_schema.specs.Types.{Types}
use Rattle.pb_decode.specs.declared.error.DecodeError.{DecodeError}
use Rattle.pb_decode.specs.declared.push.Reading.{Reading}
use Rattle.pb_decode.specs.Reader.{state_view, Reads, Stops, IfFault, Reported}
use Rattle.pb_decode.specs.Reader.Start.{Start, TookFrom}
use Rattle.pb_decode.specs.Push.{Took, TookSome}

-- how many bytes are received: those taken and those held
abbrev pub received : Reading → ℕ
received r = r.reader.at + length r.held.items

-- what is given from the start on is read, but for the bytes held
abbrev pub ReadFrom : Types → Start → Reading → Type 0
ReadFrom pool o r = TookFrom pool o (state_view r.reader) r.held.items

-- the input b is
abbrev pub ReadText : Types → ℕ → Bounds → List ℕ → Reading → Type 0
ReadText pool m limits b r = Took pool m limits b (state_view r.reader) r.held.items

-- some input is
abbrev pub ReadSome : Types → ℕ → Bounds → Reading → Type 0
ReadSome pool m limits r = TookSome pool m limits (state_view r.reader) r.held.items

-- everything from p0 on is read, except the bytes held, of which no more can be taken
abbrev pub ReadsWhole : Types → ℕ → ℕ → ℕ → List Record → Place → Reading → Type 0
ReadsWhole pool m depth levels base p0 r =
    Reads pool m depth levels base p0 (state_view r.reader) r.held.items × Stops pool m depth p0 (state_view r.reader) r.held.items

-- Of these bytes what is complete is taken, and the others are held.
abbrev pub TakesFront : {A : Type 0} → Types → Reading → Reading → List ℕ → Result A DecodeError → Type 0
TakesFront pool old new bytes result =
    (m depth levels : ℕ) (base : List Record) (p0 : Place)
    → Reads pool m depth levels base p0 (state_view old.reader) bytes
    → OnOk result (ReadsWhole pool m depth levels base p0 new)

-- The same of the bytes held and a piece after them.
abbrev pub TakesPiece : {A : Type 0} → Types → Reading → Reading → List ℕ → Result A DecodeError → Type 0
TakesPiece pool old new piece result =
    (m depth levels : ℕ) (base : List Record) (p0 : Place)
    → Reads pool m depth levels base p0 (state_view old.reader) old.held.items
    → OnOk result (ReadsWhole pool m depth levels base (longer p0 piece) new)

-- the error, if there is one, reports a fault of what is read with the piece, which no more bytes change
abbrev pub TellsPieceFault : {A : Type 0} → Types → Reading → List ℕ → Result A DecodeError → Type 0
TellsPieceFault pool old piece result =
    (m depth levels : ℕ) (base : List Record) (p0 : Place)
    → Reads pool m depth levels base p0 (state_view old.reader) old.held.items → IfErr result (λ e. IfFault e (Reported pool m depth (longer p0 piece)))
