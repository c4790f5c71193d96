-- Frames of an input with a buffer, which are printed as they come.
use Rattle.std.proofs.Common.{◌≡◌, ◌∙◌, ℕ, List, [], Bool, true, Option, None, Some}
use Rattle.std.proofs.KnownBytes.{prepend_known-nil}
use Rattle.pb_input.specs.Buffered.{Buffered, left_of, of_input}
use Rattle.pb_output.specs.Sink.{Puts}
use Rattle.pb_output.specs.declared.sink.Sink.{Sink}
use Rattle.pb_output.proofs.SinkLemmas.{puts_then}
use Rattle.pb_listing.specs.Putting.{PutsSome}
use Rattle.pbtool_files.specs.FileMap.{FileMap, IsOpened}
use Rattle.pbtool_files.specs.Known.{OfFiles}

-- an input with a buffer that holds nothing
abbrev pub buffered : {I : Type 0} → I → Buffered I
buffered input = record { held = []; input = input }

opened_there :
    {I : Type 0} (left : I → Option (List ℕ)) (input : I) (content : Option (List ℕ)) → IsOpened left content (Some input)
    → IsOpened (left_of left) content (Some (buffered input))
opened_there left input None h = h
opened_there left input (Some bytes) h = prepend_known-nil (left input) ∙ h

pub opened_buffered :
    {F I : Type 0} (contents : F → Option FileMap) (is_steady : F → Bool) (files : F) (left : I → Option (List ℕ)) (stays : I → Bool) (input : I) (path : List ℕ)
    → OfFiles contents is_steady files path (λ content. IsOpened left content (Some input) × (stays input ≡ true))
    → OfFiles contents is_steady files path (λ content. IsOpened (left_of left) content (Some (buffered input)) × (of_input stays (buffered input) ≡ true))
opened_buffered contents is_steady files left stays input path h = λ map honest. let o = h map honest in (opened_there left input (map path) o.0, o.1)

-- some text was put after nothing was
pub puts_some_after :
    {D : Type 0} {written : D → Option (List ℕ)} {failures : D → ℕ} {d0 d1 d2 : D} {a b c : Sink} {P : List ℕ → Type 0} → Puts written failures d0 d1 a b []
    → PutsSome written failures d1 d2 b c P → PutsSome written failures d0 d2 a c P
puts_some_after nothing some = (some.0, some.1, puts_then nothing some.2)
