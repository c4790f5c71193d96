-- A decoder and what it has apart from its pool.
use Rattle.std.proofs.Common.{◌≡◌, ◌⊎◌, inl, inr, ℕ, List, Option, Some, None, refl, ap, subst}
use Rattle.std.specs.Prelude.{IfSome, IsSomeAnd}
use Rattle.pb_schema.specs.Types.{Types}
use Rattle.pb_decode.specs.Decoder.{Decoder, Reading, state_of}
use Rattle.pb_decode.specs.Parts.{Parts, IsOfPool, decoder_of}
use Rattle.pb_decode.specs.Push.{Took, TookSome}
use Rattle.pb_decode.specs.Received.{After}

-- a decoder that goes on has received some bytes
pub received_some : (pool : Types) (p : Parts) → IsOfPool pool p → (p.reading ≡ None) ⊎ ((b : List ℕ) × After (decoder_of pool p) b)
received_some pool p sound = by p.reading sound.took
  where
    by : (o : Option Reading) → IfSome o (λ r. TookSome pool p.message_type p.limits (state_of r) r.held)
        → (o ≡ None) ⊎ ((b : List ℕ) × IsSomeAnd o (λ r. Took pool p.message_type p.limits b (state_of r) r.held))
    by None took = inl refl
    by (Some r) some = inr (some.text, some.took)

-- the parts of a decoder of this pool
pub decoder_again : (d : Decoder) (pool : Types) (p : Parts) → decoder_of d.pool p ≡ d → d.pool ≡ pool → decoder_of pool p ≡ d
decoder_again d pool p same of_pool = subst (λ types. decoder_of types p ≡ d) of_pool same

pub of_pool_again : (d : Decoder) (pool : Types) (p : Parts) → IsOfPool d.pool p → d.pool ≡ pool → IsOfPool pool p
of_pool_again d pool p sound of_pool = subst (λ types. IsOfPool types p) of_pool sound

parts_of : Decoder → Parts
parts_of d = record { message_type = d.kind; limits = d.limits; reading = d.reading }

pub parts_same : (pool : Types) (p q : Parts) → decoder_of pool q ≡ decoder_of pool p → q ≡ p
unfolding parts_of
parts_same pool p q same = ap parts_of same
