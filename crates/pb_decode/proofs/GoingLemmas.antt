-- What has been taken is an encoding, or is cut short, and nothing else.
use Rattle.std.proofs.Common.{◌≡◌, ◌+◌, ℕ, List, [], ◌∷◌, ◌++◌, length, refl, sym, subst, inl, inr}
use Rattle.std.specs.Prelude.{All}
use Rattle.std.proofs.lemmas.List.Elements.{All-from_recursion}
use Rattle.pb_wire.specs.Ranges.{IsByte, AreBytes}
use Rattle.pb_wire.specs.Fault.{Fault, fault, text_at}
use Rattle.pb_wire.specs.Grammar.{HasFault}
use Rattle.pb_wire.specs.Exact.{IsCut}
use Rattle.pb_wire.specs.Limits.{Bounds}
use Rattle.pb_wire.specs.declared.fault.Cause.TheVariants.{Truncated}
use Rattle.pb_wire.proofs.ExactLemmas.{exactly}
use Rattle.pb_schema.specs.Types.{Types}
use Rattle.pb_schema.specs.Context.{a_message, schema_of}
use Rattle.pb_decode.specs.declared.error.DecodeError.{DecodeError}
use Rattle.pb_decode.specs.declared.error.DecodeError.TheVariants as error
use Rattle.pb_decode.specs.Reader.{State, path_here, Stops, over, cut, IfFault}
use Rattle.pb_decode.specs.Push.{Took, IsSettled, IsGoing}
use Rattle.pb_decode.proofs.PushLemmas.{text_there, top_over}
use Rattle.pb_decode.proofs.DecodeLemmas.{some_text}

-- what is read is a list of bytes
pub bytes_taken : {pool : Types} {m : ℕ} {limits : Bounds} (b : List ℕ) (s : State) (held : List ℕ) → Took pool m limits b s held → All IsByte b
bytes_taken b s held h = All-from_recursion IsByte b h.reads.reached.bytes

both : (b more : List ℕ) → AreBytes b → AreBytes more → AreBytes (b ++ more)
both [] more x y = y
both (z ∷ b) more x y = (x.0, both b more x.1 y)

pub bytes_with : {pool : Types} {m : ℕ} {limits : Bounds} (b more : List ℕ) (s : State) (held : List ℕ) → AreBytes more → Took pool m limits b s held → All IsByte (b ++ more)
bytes_with b more s held bytes h = All-from_recursion IsByte (b ++ more) (both b more h.reads.reached.bytes bytes)

pub going_there : {pool : Types} {m : ℕ} {limits : Bounds} (b : List ℕ) (s : State) (held : List ℕ) → Took pool m limits b s held → IsGoing pool m limits b
going_there {pool} {m} {limits} b s held h = by_stops h.stops
  where
    by_stops : Stops pool m limits.depth (text_at b) s held → IsGoing pool m limits b
    by_stops (over none tag ended) = let there = text_there b s held h.size none tag (top_over s held none tag h.reads ended) h.reads in inl (some_text there.0 there.2)
    by_stops (cut reported) = inr (fault (s.at + length held) (path_here s) Truncated, HasFault.bad h.size reported, refl)

-- what goes on is not settled
pub never_settled : {pool : Types} {m : ℕ} {limits : Bounds} {b : List ℕ} → All IsByte b → IsGoing pool m limits b → (f : Fault) → IsSettled pool m limits b f → ⊥
never_settled {pool} {m} {limits} {b} bytes (inl text) f h = (exactly (schema_of pool) (a_message m) limits b bytes).not_both f h.fault text
never_settled {pool} {m} {limits} {b} bytes (inr (g, there, is_cut)) f h =
    h.settled (subst IsCut (sym ((exactly (schema_of pool) (a_message m) limits b bytes).one f g h.fault there)) is_cut)

pub one_settled : {pool : Types} {m : ℕ} {limits : Bounds} {b : List ℕ} → All IsByte b → (f g : Fault) → IsSettled pool m limits b f → IsSettled pool m limits b g → g ≡ f
one_settled {pool} {m} {limits} {b} bytes f g h i = (exactly (schema_of pool) (a_message m) limits b bytes).one g f i.fault h.fault

-- an error of no fault is want of memory
pub memory_only : (e : DecodeError) (Fails : Fault → Type 0) → IfFault e Fails → ((f : Fault) → Fails f → ⊥) → e ≡ error.Memory
memory_only (error.Fault byte path c) Fails h never = absurd (never (fault byte path.items c) h)
memory_only error.Memory Fails h never = refl
memory_only error.Device Fails h never = absurd h
memory_only error.Finished Fails h never = absurd h
