-- Values that an argument has.
use Rattle.std.proofs.Common.{◌≡◌, ℕ, List, [], ◌∷◌, Option, Some, None, option_map, length, refl, ap}
use Rattle.std.specs.Prelude.{map, unwrap_or}
use Rattle.std.specs.Borrow.{Bor}
use Rattle.pbtool_command.specs.CompileAnswer.{texts_of}

-- values, or none where there are none
pub texts_or_none :
    (o : Option (Bor (List (Bor (List ℕ))))) (d : Bor (List (Bor (List ℕ)))) → d.now ≡ []
    → texts_of (unwrap_or o d).now ≡ unwrap_or (option_map (λ s. map (λ v. v.now) s.now) o) []
texts_or_none None d none = ap texts_of none
texts_or_none (Some s) d none = refl

-- no values have no texts
pub none_of_none : (values : List (Bor (List ℕ))) → length values ≡ 0 → texts_of values ≡ []
none_of_none [] none = refl
none_of_none (v ∷ vs) none = absurd (cc)
