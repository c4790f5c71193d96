-- What a table has after a name was put.
use Rattle.std.proofs.Common.{◌≡◌, ℕ, Bool, true, false, cond, List, Option, Some, None, is_some, refl, sym, ap, ◌∙◌, subst, arith, Global, Vec}
use Rattle.std.proofs.lemmas.Bool.{cond-true, cond-false}
use Rattle.std.proofs.lemmas.Map.Text.{is_eq-slice_cmp}
use Rattle.std.proofs.lemmas.Slice.Eq.{bytes_eq-Decides}
use Rattle.std.specs.BTreeMap.{BTreeMap, UpdatesBy, get}
use Rattle.std.specs.Cmp.{eq_by_cmp_equiv}
use Rattle.std.specs.Cmp.Lexicographic.{slice_cmp, nat_list_cmp_total, nat_list_eq_equiv}
use Rattle.std.specs.Map.{KeepsOthers, IsKeyTest, AreApart, lookup}
use Rattle.std.specs.Option.{option_or}
use Rattle.std.specs.Ordering.{is_eq, nat_cmp}
use Rattle.std.specs.Prelude.{IfSome}
use Rattle.std.specs.Str.{bytes_eq}
use Rattle.pb_json_read.specs.NameTables.{NameTable, place_in, place_if}

kept : {K X : Type 0} (eq : K → K → Bool) (test : K → Bool) (old new : List (K × X)) → KeepsOthers eq test old new → (other : K → Bool) → IsKeyTest eq other → AreApart test other → lookup other new ≡ lookup other old
unfolding KeepsOthers
kept eq test old new h = h

apart : (bs cs ks : List ℕ) → bytes_eq bs cs ≡ false → is_eq (slice_cmp nat_cmp bs ks) ≡ true → is_eq (slice_cmp nat_cmp cs ks) ≡ false
apart bs cs ks n y =
    is_eq-slice_cmp cs ks ∙ nat_list_eq_equiv.symm cs ks ∙ sym (nat_list_eq_equiv.congr bs ks cs (sym (is_eq-slice_cmp bs ks) ∙ y)) ∙ n

pub updated : (bs : List ℕ) (m n : NameTable) (w : Option ℕ) → UpdatesBy (λ x y. slice_cmp nat_cmp x.items y.items) (λ k. slice_cmp nat_cmp bs k.items) m n w
    → (cs : List ℕ) → place_in n cs ≡ cond (bytes_eq bs cs) w (place_in m cs)
updated bs m n w h cs = by_test (bytes_eq bs cs) refl
  where
    by_test : (b : Bool) → bytes_eq bs cs ≡ b → place_in n cs ≡ cond b w (place_in m cs)
    by_test true is = subst (λ l. place_in n l ≡ w) ((bytes_eq-Decides bs cs).0 is) h.1
    by_test false is = kept _ _ _ _ h.3 _ (λ x y. (eq_by_cmp_equiv nat_list_cmp_total).congr cs x.items y.items) (λ k. apart bs cs k.items is)

-- a name that is there
pub there : (t : NameTable) (name : List ℕ) (i : ℕ) → is_some (place_in t name) ≡ true → (s : List ℕ) → place_in t s ≡ option_or (place_in t s) (place_if (Some name) i s)
there t name i has s = by_test (bytes_eq name s) refl
  where
    or_some : (o p : Option ℕ) → is_some o ≡ true → o ≡ option_or o p
    or_some None p e = cc
    or_some (Some j) p e = refl

    or_nothing : (o : Option ℕ) → o ≡ option_or o None
    or_nothing None = refl
    or_nothing (Some j) = refl

    by_test : (b : Bool) → bytes_eq name s ≡ b → place_in t s ≡ option_or (place_in t s) (cond b (Some i) None)
    by_test true is = or_some (place_in t s) (Some i) (subst (λ l. is_some (place_in t l) ≡ true) ((bytes_eq-Decides name s).0 is) has)
    by_test false is = or_nothing (place_in t s)

-- a name that is put
pub added : (m n : NameTable) (name : List ℕ) (i : ℕ) → is_some (place_in m name) ≡ false
    → ((s : List ℕ) → place_in n s ≡ cond (bytes_eq name s) (Some i) (place_in m s))
    → (s : List ℕ) → place_in n s ≡ option_or (place_in m s) (place_if (Some name) i s)
added m n name i lacks has s = has s ∙ by_test (bytes_eq name s) refl
  where
    or_none : (o p : Option ℕ) → is_some o ≡ false → p ≡ option_or o p
    or_none None p e = refl
    or_none (Some j) p e = cc

    or_nothing : (o : Option ℕ) → o ≡ option_or o None
    or_nothing None = refl
    or_nothing (Some j) = refl

    by_test : (b : Bool) → bytes_eq name s ≡ b → cond b (Some i) (place_in m s) ≡ option_or (place_in m s) (cond b (Some i) None)
    by_test true is = or_none (place_in m s) (Some i) (subst (λ l. is_some (place_in m l) ≡ false) ((bytes_eq-Decides name s).0 is) lacks)
    by_test false is = or_nothing (place_in m s)

-- tables of which something holds under each index, and one more
pub tables_put : (P : ℕ → NameTable → Type 0) (old new : BTreeMap ℕ NameTable) (m : ℕ) (t : NameTable) → P m t
    → ((i : ℕ) → get nat_cmp new i ≡ cond (is_eq (nat_cmp m i)) (Some t) (get nat_cmp old i))
    → ((i : ℕ) → IfSome (get nat_cmp old i) (P i)) → (i : ℕ) → IfSome (get nat_cmp new i) (P i)
tables_put P old new m t this is were i = subst (λ (o : Option NameTable). IfSome o (P i)) (sym (is i)) (by_test (is_eq (nat_cmp m i)) refl)
  where
    same : is_eq (nat_cmp m i) ≡ true → m ≡ i
    same e = grind (arith, e)

    by_test : (b : Bool) → is_eq (nat_cmp m i) ≡ b → IfSome (cond b (Some t) (get nat_cmp old i)) (P i)
    by_test true e = subst (λ n. P n t) (same e) this
    by_test false e = were i
