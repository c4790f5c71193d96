-- What is read of the fields of types with a form of their own.
use Rattle.std.proofs.Common.{◌≡◌, ℕ, List, [], Option, None, Some, sym, ap, ◌∙◌, Bor}
use Rattle.std.specs.Prelude.{ℤ, pos, option_map}
use Rattle.std.specs.Option.{option_map_or}
use Rattle.pb_value.specs.Data.{Holding, get_field}
use Rattle.pb_value.specs.View.{content_view, fields_view}
use Rattle.pb_value.specs.declared.body.Content.{Content}
use Rattle.pb_json.specs.Held.{integer_at, integer_held, strings_at, strings_held}

pub integer_found :
    (r : Option (Bor Content)) (n : ℕ) (fs : List (ℕ × Content)) (x : Bor Content) (z : ℤ)
    → option_map (λ y. content_view y.now) r ≡ get_field n (fields_view fs) → r ≡ Some x → z ≡ integer_held (content_view x.now)
    → z ≡ integer_at n (fields_view fs)
integer_found r n fs x z found is e =
    e ∙ ap (λ (o : Option Holding). option_map_or integer_held o (pos 0)) (sym (ap (λ (o : Option (Bor Content)). option_map (λ y. content_view y.now) o) is) ∙ found)

-- the same of a list of strings
pub strings_found :
    (r : Option (Bor Content)) (n : ℕ) (fs : List (ℕ × Content)) (x : Bor Content)
    → option_map (λ y. content_view y.now) r ≡ get_field n (fields_view fs) → r ≡ Some x
    → strings_held (content_view x.now) ≡ strings_at n (fields_view fs)
strings_found r n fs x found is =
    ap (λ (o : Option Holding). option_map_or strings_held o []) (sym (ap (λ (o : Option (Bor Content)). option_map (λ y. content_view y.now) o) is) ∙ found)

pub no_strings :
    (r : Option (Bor Content)) (n : ℕ) (fs : List (ℕ × Content))
    → option_map (λ y. content_view y.now) r ≡ get_field n (fields_view fs) → r ≡ None → [] ≡ strings_at n (fields_view fs)
no_strings r n fs found is =
    ap (λ (o : Option Holding). option_map_or strings_held o []) (sym (ap (λ (o : Option (Bor Content)). option_map (λ y. content_view y.now) o) is) ∙ found)

-- what a field holds, read as a list
pub held_found :
    (read : Holding → List ℕ) (r : Option (Bor Content)) (n : ℕ) (fs : List (ℕ × Content)) (x : Bor Content) (s : List ℕ)
    → option_map (λ y. content_view y.now) r ≡ get_field n (fields_view fs) → r ≡ Some x → s ≡ read (content_view x.now)
    → s ≡ option_map_or read (get_field n (fields_view fs)) []
held_found read r n fs x s found is e =
    e ∙ ap (λ (o : Option Holding). option_map_or read o []) (sym (ap (λ (o : Option (Bor Content)). option_map (λ y. content_view y.now) o) is) ∙ found)
