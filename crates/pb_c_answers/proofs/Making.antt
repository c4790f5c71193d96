-- What is made of a message that was decoded is made of the value of its bytes.
use Rattle.std.proofs.Common.{◌≡◌, ◌⊎◌, ◌<◌, ◌≤◌, ◌^◌, ℕ, List, length, inl, inr, arith, subst, sym, refl}
use Rattle.pb_schema.specs.Types.{Types}
use Rattle.pb_value.specs.Data.{Message}
use Rattle.pb_value.specs.Dynamic.{Dynamic}
use Rattle.pb_c_message.specs.Holds.{message_of}

-- a message of this pool, type and value
pub the_message : (d : Dynamic) (pool : Types) (m : ℕ) (v : Message) → d.pool ≡ pool → d.kind ≡ m → d.body ≡ v → d ≡ message_of pool m v
the_message d pool m v of_pool of_kind of_body = rw (sym of_pool, sym of_kind, sym of_body) refl

-- canonical bytes that are few enough are written, unless memory runs out
pub written :
    (r : ℕ) (L : List ℕ → Type 0) (made wanted : List ℕ) → made ≡ wanted
    → (r ≡ 0 → (length made < 2 ^ 31) × L made) → (r ≡ 31 → 2 ^ 31 ≤ length made) → (r ≡ 0) ⊎ (r ≡ 31) ⊎ (r ≡ 14)
    → length wanted < 2 ^ 31 → ((r ≡ 0) × L wanted) ⊎ (r ≡ 14)
written r L made wanted same done large (inl is) small = inl (is, subst L same (done is).1)
written r L made wanted same done large (inr (inl is)) small = let big = rw same at large is in absurd (omega (arith, big, small))
written r L made wanted same done large (inr (inr is)) small = inr is

-- canonical bytes that are too many are refused, unless memory runs out
pub too_many :
    (r : ℕ) (L : List ℕ → Type 0) (made wanted : List ℕ) → made ≡ wanted
    → (r ≡ 0 → (length made < 2 ^ 31) × L made) → (r ≡ 0) ⊎ (r ≡ 31) ⊎ (r ≡ 14) → 2 ^ 31 ≤ length wanted → (r ≡ 31) ⊎ (r ≡ 14)
too_many r L made wanted same done (inl is) big = let small = rw same at (done is).0 in absurd (omega (arith, big, small))
too_many r L made wanted same done (inr is) big = is
