-- Where a comparison reports no difference that breaks reading, there is none between types that are reached.
use Rattle.std.proofs.Common.{◌≡◌, ◌≢◌, ⊎_elim, ℕ, zero, suc, List, [], ◌∷◌, map, Bool, true, false, ◌||◌, Option, Some, None, refl, sym, ◌∙◌, ap, subst, Contains}
use Rattle.std.specs.Prelude.{flat_map}
use Rattle.std.specs.List.{AllByRecursion, list_any}
use Rattle.std.proofs.lemmas.List.Elements.{Contains-append_left, Contains-append_right}
use Rattle.std.proofs.lemmas.List.Sorted.{Contains-permutation}
use Rattle.pb_graphs.proofs.ContainsLemmas.{Contains-none, Contains-first, Contains-cases}
use Rattle.pb_schema.specs.Types.{FieldView, Types, message_fields, field_numbered}
use Rattle.pb_schema.specs.Rules.{IsPool}
use Rattle.pb_compat.specs.declared.difference.ComparedTypes.{ComparedTypes}
use Rattle.pb_compat.specs.declared.difference.Difference.{Difference}
use Rattle.pb_compat.specs.declared.difference.Severity.{Severity}
use Rattle.pb_compat.specs.declared.difference.Severity.TheVariants.{BreaksReading}
use Rattle.pb_compat.specs.Oneofs.{is_crowded}
use Rattle.pb_compat.specs.Fields.{severities_at, differences_of, differences_at}
use Rattle.pb_compat.specs.Pairs.{AreDifferences, IsComparison, IsComparisonFrom, ReachedIn, ReachedFrom, begun_in, further_in, given, onward, types_of}
use Rattle.pb_compat.specs.Agrees.{NothingBreaks, IsReadAs, is_break, break_among, break_in}
use Rattle.pb_compat.proofs.NumberLemmas.{found_number}
use Rattle.pb_compat.proofs.EncodingLemmas.{encodings_read}

or_neither : (a b : Bool) → (a || b) ≡ false → (a ≡ false) × (b ≡ false)
or_neither true b e = absurd (cc)
or_neither false b e = (refl, e)

-- what no element passes, an element does not
none_passes : {X : Type 0} (p : X → Bool) (xs : List X) (x : X) → list_any p xs ≡ false → Contains xs x → p x ≡ false
none_passes p [] x none h = Contains-none x h
none_passes {X} p (y ∷ ys) x none h =
    let each = or_neither (p y) (list_any p ys) none in
    ⊎_elim (λ e. subst (λ (z : X). p z ≡ false) e each.0) (λ later. none_passes p ys x each.1 later) (Contains-cases x y ys h)

-- the element of a list that a function makes this of
mapped_from : {X Y : Type 0} (f : X → Y) (xs : List X) (y : Y) → Contains (map f xs) y → (P : X → Type 0) → AllByRecursion P xs → (q : X → Bool) → list_any q xs ≡ false → (x : X) × (f x ≡ y) × P x × (q x ≡ false)
mapped_from f [] y h P all q none = Contains-none y h
mapped_from f (x ∷ xs) y h P all q none =
    let each = or_neither (q x) (list_any q xs) none in
    ⊎_elim (λ e. (x, e, all.0, each.0)) (λ later. mapped_from f xs y later P all.1 q each.1) (Contains-cases y (f x) (map f xs) h)

in_joined : {X Y : Type 0} (f : X → List Y) (xs : List X) (x : X) (y : Y) → Contains xs x → Contains (f x) y → Contains (flat_map f xs) y
in_joined f [] x y h g = Contains-none x h
in_joined {X} {Y} f (z ∷ zs) x y h g =
    ⊎_elim (λ e. Contains-append_left (f z) (flat_map f zs) y (subst (λ (w : X). Contains (f w) y) (sym e) g)) (λ later. Contains-append_right (f z) (flat_map f zs) y (in_joined f zs x y later g)) (Contains-cases x z zs h)

-- differences at a number are listed
differences_listed : (old new : Types) (m n : ℕ) (ds : List Difference) (k : ℕ) (d : Difference) → AreDifferences old new m n ds → Contains (differences_at old new m n k) d → Contains ds d
differences_listed old new m n ds k d are h = by (field_numbered k (message_fields old m)) refl
  where
    by : (o : Option FieldView) → field_numbered k (message_fields old m) ≡ o → Contains ds d
    by None e =
        let crowd : ℕ → Bool = is_crowded (message_fields old m) (message_fields new n) in
        let nothing : differences_at old new m n k ≡ [] = ap (λ (o : Option FieldView). differences_of k (severities_at old new crowd o (field_numbered k (message_fields new n)))) e in
        Contains-none d (subst (λ (l : List Difference). Contains l d) nothing h)
    by (Some f) e =
        let there = Contains-permutation (map (λ (g : FieldView). g.number) (message_fields old m)) are.numbers k are.rising.all (found_number k (message_fields old m) f e) in
        subst (λ (l : List Difference). Contains l d) (sym are.listed) (in_joined (differences_at old new m n) are.numbers k d there h)

no_break : (s : Severity) → is_break s ≡ false → s ≢ BreaksReading
no_break s e same = let z : is_break BreaksReading ≡ false = subst (λ (t : Severity). is_break t ≡ false) same e in absurd (cc)

-- what is reached by some fields from one of several pairs is reached from them
pub reached_by_fields : (old new : Types) (starts : List (ℕ × ℕ)) (start p : ℕ × ℕ) (fields : ℕ) → Contains starts start → ReachedIn old new start fields p → ReachedFrom old new starts p
reached_by_fields old new starts start p zero there begun_in = given there
reached_by_fields old new starts start q (suc fields) there (further_in {p = p} k r to) = onward k (reached_by_fields old new starts start p fields there r) to

nothing_breaks : (old new : Types) (starts : List (ℕ × ℕ)) (m n : ℕ) (cs : List ComparedTypes) → ((p : ℕ × ℕ) → ReachedFrom old new starts p → Contains (map types_of cs) p)
    → Contains starts (m, n) → AllByRecursion (λ c. AreDifferences old new c.old.0 c.new.0 c.differences.items) cs → break_in cs ≡ false → NothingBreaks old new m n
nothing_breaks old new starts m n cs has there are none fields p few reached k d h =
    let c = mapped_from types_of cs p (has p (reached_by_fields old new starts (m, n) p fields there reached)) (λ c. AreDifferences old new c.old.0 c.new.0 c.differences.items) are (λ c. break_among c.differences.items) none in
    let compared : AreDifferences old new p.0 p.1 c.0.differences.items = subst (λ (q : ℕ × ℕ). AreDifferences old new q.0 q.1 c.0.differences.items) c.1 c.2 in
    no_break d.severity (none_passes (λ x. is_break x.severity) c.0.differences.items d c.3 (differences_listed old new p.0 p.1 c.0.differences.items k d compared h))

pub each_read_unless_break : (old new : Types) (starts : List (ℕ × ℕ)) (m n : ℕ) (cs : List ComparedTypes) (b : Bool) → b ≡ break_in cs → IsPool old → IsPool new
    → IsComparisonFrom old new starts cs → Contains starts (m, n) → b ≡ false → IsReadAs old new m n
each_read_unless_break old new starts m n cs b exact rules_old rules_new are there none =
    encodings_read old new rules_old rules_new m n (nothing_breaks old new starts m n cs (λ p. (are.reached p).1) there are.differences (sym exact ∙ none))

pub read_unless_break : (old new : Types) (m n : ℕ) (cs : List ComparedTypes) (b : Bool) → b ≡ break_in cs → IsPool old → IsPool new → IsComparison old new (m, n) cs → b ≡ false → IsReadAs old new m n
read_unless_break old new m n cs b exact rules_old rules_new are none = each_read_unless_break old new ((m, n) ∷ []) m n cs b exact rules_old rules_new are (Contains-first (m, n) []) none
