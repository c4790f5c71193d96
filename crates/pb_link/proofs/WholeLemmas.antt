-- Going through the files of a pool and the messages in each goes through all messages in their order.
use Rattle.std.proofs.Common.{◌≡◌, ◌≢◌, ℕ, zero, suc, ◌+◌, ◌<◌, ◌≤◌, ◌⊎◌, inl, inr, List, [], ◌∷◌, true, ◌&&◌, ◌==◌, length, refl, sym, ap, ◌∙◌, subst, arith, Option, Some, None, IsSomeAnd}
use Rattle.std.specs.Prelude.{slice_get}
use Rattle.std.specs.List.{AllByRecursion, flat_map, enumerate_from}
use Rattle.std.proofs.lemmas.Bool.{cases_eq, cases_lt}
use Rattle.std.proofs.lemmas.Bool.Decides.{Decides-eqb}
use Rattle.std.proofs.lemmas.Option.{none-some}
use Rattle.pb_schema.specs.Types.{MessageView, FileView, Types}
use Rattle.pb_schema.specs.Nesting.{parent_of, IsWithin, itself, deeper}
use Rattle.pb_schema.specs.Rules.{IsPool, FilesRise, IsInFileOfParent}
use Rattle.pb_link.specs.ToDecls.{is_outermost, numbered, outermost_messages}
use Rattle.pb_link.proofs.ForestLemmas.{root, In, Rising, in_all, all_append, all_each, rising_append, rising_same, rising_numbered, rising_filter, in_filter, in_flat, all_flat, within_least}
use Rattle.pb_link.proofs.FlatLemmas.{Stands, Key, each_stands, in_numbered_from, in_numbered, all_filtered, and_left, and_right, outermost_is, parent_there, get_less, under, follow, before, Under, all_under, siblings_rise, under_rises, in_under}

some_same : {A : Type 0} {o : Option A} (a b : A) → o ≡ Some a → o ≡ Some b → a ≡ b
some_same a b h k = cc

pub all_at : {X : Type 0} (P : X → Type 0) (xs : List X) (i : ℕ) (x : X) → AllByRecursion P xs → slice_get xs i ≡ Some x → P x
all_at P [] i x all h = absurd (none-some x h)
all_at P (y ∷ xs) zero x all h = subst P (some_same y x refl h) all.0
all_at P (y ∷ xs) (suc i) x all h = all_at P xs i x all.1 h

pub get_there : {X : Type 0} (xs : List X) (i : ℕ) → i < length xs → (x : X) × (slice_get xs i ≡ Some x)
get_there [] i h = absurd (omega (arith, h))
get_there (x ∷ xs) zero h = (x, refl)
get_there (x ∷ xs) (suc i) h = get_there xs i (omega (arith, h))

-- FILES RISE

ordered_all : (t : MessageView) (xs : List MessageView) → FilesRise (t ∷ xs) → AllByRecursion (λ u. t.file ≤ u.file) xs
ordered_all t [] h = tt
ordered_all t (y ∷ ys) h = let first = h.0 in (first, all_each (λ u. y.file ≤ u.file) (λ u. t.file ≤ u.file) ys (λ u k. omega (arith, first, k)) (ordered_all y ys h.1))

tail_rises : (t : MessageView) (xs : List MessageView) → FilesRise (t ∷ xs) → FilesRise xs
tail_rises t [] h = tt
tail_rises t (y ∷ ys) h = h.1

file_no_later : (xs : List MessageView) → FilesRise xs → (i j : ℕ) (t u : MessageView) → i < j → slice_get xs i ≡ Some t → slice_get xs j ≡ Some u → t.file ≤ u.file
file_no_later [] h i j t u less first second = absurd (none-some t first)
file_no_later (x ∷ xs) h i zero t u less first second = absurd (omega (arith, less))
file_no_later (x ∷ xs) h zero (suc j) t u less first second = subst (λ v. v.file ≤ u.file) (some_same x t refl first) (all_at (λ v. x.file ≤ v.file) xs j u (ordered_all x xs h) second)
file_no_later (x ∷ xs) h (suc i) (suc j) t u less first second = file_no_later xs (tail_rises x xs h) i j t u (omega (arith, less)) first second

module _ (ts : Types) (pool : IsPool ts) where
  -- what is in a message is in its file
  pub share : (p m : ℕ) (t u : MessageView) → IsWithin ts.messages p m → slice_get ts.messages p ≡ Some t → slice_get ts.messages m ≡ Some u → t.file ≡ u.file
  share p m t u w first second = step p m w t u first second
    where
      up : (m q : ℕ) (u v : MessageView) → slice_get ts.messages m ≡ Some u → slice_get ts.messages q ≡ Some v → parent_of ts.messages m ≡ Some q → v.file ≡ u.file
      up m q u v at_m at_q e =
          let here : IsInFileOfParent ts.messages u.file u.parent = all_at (λ x. IsInFileOfParent ts.messages x.file x.parent) ts.messages m u pool.indexes.message_parents at_m in
          let parent : u.parent ≡ Some q = sym (parent_there ts.messages m u at_m) ∙ e in
          subst (λ o. IsSomeAnd o (λ x. x.file ≡ u.file)) at_q (subst (λ o. IsInFileOfParent ts.messages u.file o) parent here)

      step : (p m : ℕ) → IsWithin ts.messages p m → (t u : MessageView) → slice_get ts.messages p ≡ Some t → slice_get ts.messages m ≡ Some u → t.file ≡ u.file
      step p m itself t u first second = ap (λ x. x.file) (some_same t u first second)
      step p m (deeper {q = q} e w) t u first second =
          let less = before ts pool m q e in
          let v = get_there ts.messages q (let h = get_less ts.messages m u second in omega (arith, less, h)) in
          step p q w t v.0 first v.1 ∙ up m q u v.0 second v.1 e

  abbrev pub in_file : ℕ → List (ℕ × MessageView)
  in_file i = flat_map (under ts (length ts.messages)) (outermost_messages ts i)

  abbrev pub Outermost : ℕ → ℕ × MessageView → Type 0
  Outermost i m = Stands ts m × (m.1.file ≡ i) × (parent_of ts.messages m.0 ≡ None)

  pub outermost : (i : ℕ) → AllByRecursion (Outermost i) (outermost_messages ts i)
  outermost i = all_each (λ m. Stands ts m × (((i == m.1.file) && is_outermost m.1.parent) ≡ true)) (Outermost i) (outermost_messages ts i)
      (λ m h. (h.0, sym ((Decides-eqb i m.1.file).0 (and_left (i == m.1.file) (is_outermost m.1.parent) h.1)), parent_there ts.messages m.0 m.1 h.0 ∙ outermost_is m.1.parent (and_right (i == m.1.file) (is_outermost m.1.parent) h.1)))
      (all_filtered (Stands ts) (λ m. (i == m.1.file) && is_outermost m.1.parent) (numbered ts) (each_stands ts))

  abbrev Filed : ℕ → ℕ × MessageView → Type 0
  Filed i x = Stands ts x × (x.1.file ≡ i)

  all_filed : (i : ℕ) → AllByRecursion (Filed i) (in_file i)
  all_filed i = all_flat (Outermost i) (Filed i) (under ts (length ts.messages)) (outermost_messages ts i)
      (λ m h. all_each (Under ts pool m.0) (Filed i) (under ts (length ts.messages) m) (λ x k. (k.0, sym (share m.0 x.0 m.1 x.1 k.1 h.0 k.0) ∙ h.1)) (all_under ts pool (length ts.messages) m h.0)) (outermost i)

  file_rises : (i : ℕ) → Rising Key (in_file i)
  file_rises i = siblings_rise ts pool None (under ts (length ts.messages)) (outermost_messages ts i) (rising_filter Key (λ m. (i == m.1.file) && is_outermost m.1.parent) (numbered ts) (rising_numbered 0 ts.messages).0)
      (all_each (Outermost i) (λ c. (parent_of ts.messages c.0 ≡ None) × AllByRecursion (λ x. IsWithin ts.messages c.0 x.0) (under ts (length ts.messages) c) × Rising Key (under ts (length ts.messages) c)) (outermost_messages ts i)
      (λ c h. (h.2, all_each (Under ts pool c.0) (λ x. IsWithin ts.messages c.0 x.0) (under ts (length ts.messages) c) (λ x k. k.1) (all_under ts pool (length ts.messages) c h.0), under_rises ts pool (length ts.messages) c h.0)) (outermost i))

  earlier : (k : ℕ) (x y : ℕ × MessageView) → Filed k x → Stands ts y × (k + 1 ≤ y.1.file) → x.0 < y.0
  earlier k x y first later = by (cases_lt x.0 y.0) (cases_eq y.0 x.0)
    where
      by : (x.0 < y.0) ⊎ (y.0 ≤ x.0) → (y.0 ≡ x.0) ⊎ (y.0 ≢ x.0) → x.0 < y.0
      by (inl less) other = less
      by (inr past) (inl same) =
          let e : y.1.file ≡ k = ap (λ t. t.file) (some_same y.1 x.1 later.0 (ap (slice_get ts.messages) same ∙ first.0)) ∙ first.1 in
          let h = later.1 in absurd (omega (arith, e, h))
      by (inr past) (inr ne) =
          let le = file_no_later ts.messages pool.messages_in_order.0 y.0 x.0 y.1 x.1 (omega (arith, past, ne)) later.0 first.0 in
          let h = later.1 in let e = first.1 in absurd (omega (arith, le, h, e))

  abbrev pub in_files : ℕ → List FileView → List (ℕ × MessageView)
  in_files k fs = flat_map (λ (e : ℕ × FileView). in_file e.0) (enumerate_from k fs)

  files_rise : (k : ℕ) (fs : List FileView) → Rising Key (in_files k fs) × AllByRecursion (λ x. Stands ts x × (k ≤ x.1.file)) (in_files k fs)
  files_rise k [] = (tt, tt)
  files_rise k (f ∷ fs) =
      let rest = files_rise (k + 1) fs in (
        rising_append Key (Filed k) (λ y. Stands ts y × (k + 1 ≤ y.1.file)) (in_file k) (in_files (k + 1) fs) (earlier k) (all_filed k) rest.1 (file_rises k) rest.0,
        all_append (λ x. Stands ts x × (k ≤ x.1.file)) (in_file k) (in_files (k + 1) fs)
            (all_each (Filed k) (λ x. Stands ts x × (k ≤ x.1.file)) (in_file k) (λ x h. let e = h.1 in (h.0, omega (arith, e))) (all_filed k))
            (all_each (λ x. Stands ts x × (k + 1 ≤ x.1.file)) (λ x. Stands ts x × (k ≤ x.1.file)) (in_files (k + 1) fs) (λ x h. let e = h.1 in (h.0, omega (arith, e))) rest.1),
      )

  is_there : (x : ℕ × MessageView) → Stands ts x → In x (in_files 0 ts.files)
  is_there x there =
      let n = length ts.messages in
      let r = root ts.messages (follow ts pool) (before ts pool) (suc x.0) x.0 (omega arith) in
      let least = within_least ts.messages (follow ts pool) (before ts pool) r.0 x.0 r.2 in
      let u = get_there ts.messages r.0 (let h = get_less ts.messages x.0 x.1 there in omega (arith, h, least)) in
      let i = u.0.file in
      let f = get_there ts.files i (all_at (λ t. t.file < length ts.files) ts.messages r.0 u.0 pool.indexes.message_files u.1) in
      let outer : u.0.parent ≡ None = sym (parent_there ts.messages r.0 u.0 u.1) ∙ r.1 in
      let passes : ((i == u.0.file) && is_outermost u.0.parent) ≡ true = ap (λ b. b && is_outermost u.0.parent) ((Decides-eqb i i).1 refl) ∙ ap is_outermost outer in
      in_flat (λ (e : ℕ × FileView). in_file e.0) (enumerate_from 0 ts.files) (0 + i, f.0) x (in_numbered_from 0 ts.files i f.0 f.1)
      (subst (λ j. In x (in_file j)) (zero_plus i)
      (in_flat (under ts n) (outermost_messages ts i) (r.0, u.0) x
      (in_filter (λ m. (i == m.1.file) && is_outermost m.1.parent) (numbered ts) (r.0, u.0) (in_numbered ts (r.0, u.0) u.1) passes)
      (in_under ts pool n (r.0, u.0) x u.1 there r.2 (omega arith))))
    where
      zero_plus : (k : ℕ) → k ≡ 0 + k
      zero_plus k = omega arith

  -- all messages, in their order
  pub whole_order : in_files 0 ts.files ≡ numbered ts
  whole_order =
      let all = files_rise 0 ts.files in
      rising_same Key (in_files 0 ts.files) (numbered ts) all.0 (rising_numbered 0 ts.messages).0
      (λ z h. in_numbered ts z (in_all (λ x. Stands ts x × (0 ≤ x.1.file)) (in_files 0 ts.files) z all.1 h).0)
      (λ z h. is_there z (in_all (Stands ts) (numbered ts) z (each_stands ts) h))
