-- What was served, request by request.
use Rattle.std.proofs.Common.{◌≡◌, ℕ, List, [], Option, None, Some, IfSome, refl}
use Rattle.std.proofs.KnownBytes.{Appends-nil, Appends-trans}
use Rattle.std.specs.Bool.{⊤}
use Rattle.std.specs.Io.KnownBytes.{Appends}
use Rattle.pb_schema.specs.Types.{Types}
use Rattle.conformance.specs.Frames.{Begins, Serves, frame, none_yet, one_more}
use Rattle.conformance.specs.Reply.{IsAnswer}

-- of an input that tells its bytes, the requests in front of what is left are served, and their answers written
abbrev pub HasServed : Types → ℕ → ℕ → Option (List ℕ) → Option (List ℕ) → Option (List ℕ) → Option (List ℕ) → Type 0
HasServed pool request response None left old new = ⊤
HasServed pool request response (Some input) left old new =
    (rest out : List ℕ) × (left ≡ Some rest) × Serves pool request response input rest out × Appends old new out

pub served_none : (pool : Types) (request response : ℕ) (left old : Option (List ℕ)) → HasServed pool request response left left old old
served_none pool request response None old = tt
served_none pool request response (Some input) old = (input, [], refl, none_yet, Appends-nil old)

pub served_more :
    (pool : Types) (request response : ℕ) (input left rest old mid new : Option (List ℕ)) (given answer : List ℕ)
    → HasServed pool request response input left old mid → IfSome left (λ l. (r : List ℕ) × (rest ≡ Some r) × Begins l given r)
    → IsAnswer pool request response given answer → Appends mid new (frame answer) → HasServed pool request response input rest old new
served_more pool request response None left rest old mid new given answer served begins is went = tt
served_more pool request response (Some input) left rest old mid new given answer served begins is went =
    let begun : IfSome (Some served.0) (λ l. (r : List ℕ) × (rest ≡ Some r) × Begins l given r) = rw served.2 at begins in
    (begun.0, _, begun.1, one_more served.3 begun.2 is, Appends-trans old mid new served.1 (frame answer) served.4 went)

pub served_all :
    (pool : Types) (request response : ℕ) (input left old new : Option (List ℕ)) → HasServed pool request response input left old new
    → IfSome left (λ l. l ≡ []) → IfSome input (λ bytes. (out : List ℕ) × Serves pool request response bytes [] out × Appends old new out)
served_all pool request response None left old new served end = tt
served_all pool request response (Some input) left old new served end =
    let nothing : served.0 ≡ [] = rw served.2 at end in
    (served.1, rw nothing at served.3, served.4)
