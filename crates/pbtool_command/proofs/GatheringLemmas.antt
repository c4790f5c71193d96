-- Gathering by parts, and what comes of the files that are open.
use Rattle.std.proofs.Common.{◌≡◌, ◌⊎◌, ℕ, List, [], ◌∷◌, ◌++◌, true, refl, sym, inl, inr, subst}
use Rattle.pb_declarations.specs.Decls.{DeclaredFile}
use Rattle.pbtool_command.specs.Gathering.{Gathered, Gathers, Origin, Outcome, Trouble, gathered, stopped_at, imported, given, none_left, known, left_out, read, refused_inside, refused_here, is_known, with_file, IsLeftOut}
use Rattle.pbtool_command.specs.Reaching.{Moves, OpenFile, RefusesImport, closed, passed, entered, opened}

module _ (IsAbsent : List ℕ → Type 0) (Declares : List ℕ → DeclaredFile → Type 0) (HasTrouble : Origin → List ℕ → Trouble → Type 0) where
  abbrev Gives : Origin → List (List ℕ) → Gathered → Outcome → Type 0
  Gives = Gathers IsAbsent Declares HasTrouble

  -- names and then more names
  pub gathers_then :
      {o : Origin} {names : List (List ℕ)} {g : Gathered} {first : Outcome} (h : Gathered) (more : List (List ℕ)) (out : Outcome) → Gives o names g first
      → first ≡ gathered h → Gives o more h out → Gives o (names ++ more) g out
  gathers_then {o} {names} {g} h more out none_left e next = let same : h ≡ g = cc in subst (λ (k : Gathered). Gives o more k out) same next
  gathers_then h more out (known k r) e next = known k (gathers_then h more out r e next)
  gathers_then h more out (left_out l r) e next = left_out l (gathers_then h more out r e next)
  gathers_then h more out (read k t d inner r) e next = read k t d inner (gathers_then h more out r e next)
  gathers_then h more out (refused_inside k t d inner) e next = absurd (cc)
  gathers_then h more out (refused_here k t w) e next = absurd (cc)

  -- a file that is refused is reported, whatever follows
  pub gathers_stop :
      {o : Origin} {names : List (List ℕ)} {g : Gathered} {first : Outcome} (name : List ℕ) (t : Trouble) (more : List (List ℕ)) → Gives o names g first
      → first ≡ stopped_at name t → Gives o (names ++ more) g first
  gathers_stop name t more none_left e = absurd (cc)
  gathers_stop name t more (known k r) e = known k (gathers_stop name t more r e)
  gathers_stop name t more (left_out l r) e = left_out l (gathers_stop name t more r e)
  gathers_stop name t more (read k w d inner r) e = read k w d inner (gathers_stop name t more r e)
  gathers_stop name t more (refused_inside k w d inner) e = refused_inside k w d inner
  gathers_stop name t more (refused_here k w h) e = refused_here k w h

  -- THE FILES THAT ARE OPEN

  -- closing them, the innermost first, comes to this
  abbrev pub Rest : List OpenFile → Gathered → Outcome → Type 0
  Rest [] g out = out ≡ gathered g
  Rest (o ∷ below) g out =
      ((h : Gathered) × Gives imported o.left g (gathered h) × Rest below (with_file o.file h) out)
      ⊎ ((name : List ℕ) × (t : Trouble) × Gives imported o.left g (stopped_at name t) × (out ≡ stopped_at name t))

  pass :
      {name : List ℕ} {names : List (List ℕ)} {g : Gathered} {out : Outcome} → (is_known g name ≡ true) ⊎ IsLeftOut IsAbsent imported name
      → Gives imported names g out → Gives imported (name ∷ names) g out
  pass (inl k) r = known k r
  pass (inr l) r = left_out l r

  -- what comes of the files that are open after a step came of those before it
  pub moves_back : {g h : Gathered} {s t : List OpenFile} → Moves IsAbsent Declares g s h t → (out : Outcome) → Rest t h out → Rest s g out
  moves_back (closed {g = g}) out rest = inl (g, none_left, rest)
  moves_back (passed why) out (inl r) = inl (r.0, pass why r.1, r.2)
  moves_back (passed why) out (inr r) = inr (r.0, r.1, pass why r.2, r.3)
  moves_back (entered {g = g} {f = f} {inner = inner} {name = name} {names = names} {below = below} k w d) out (inl r) = by r.2
    where
      by : Rest (opened f names ∷ below) (with_file inner r.0) out → Rest (opened f (name ∷ names) ∷ below) g out
      by (inl q) = inl (q.0, read k w d r.1 q.1, q.2)
      by (inr q) = inr (q.0, q.1, read k w d r.1 q.2, q.3)
  moves_back (entered k w d) out (inr r) = inr (r.0, r.1, refused_inside k w d r.2, r.3)

  -- the next import of the innermost file is refused
  pub stops_rest :
      (o : OpenFile) (below : List OpenFile) (g : Gathered) (name : List ℕ) (names : List (List ℕ)) (t : Trouble) → o.left ≡ name ∷ names
      → RefusesImport HasTrouble g name t → Rest (o ∷ below) g (stopped_at name t)
  stops_rest o below g name names t is refuses =
      inr (name, t, subst (λ (l : List (List ℕ)). Gives imported l g (stopped_at name t)) (sym is) (refused_here refuses.0 refuses.1 refuses.2), refl)

  -- one open file alone is closed after its imports
  pub rest_closed :
      (o : OpenFile) (g h : Gathered) → Rest (o ∷ []) g (gathered h)
      → (k : Gathered) × Gives imported o.left g (gathered k) × (h ≡ with_file o.file k)
  rest_closed o g h (inl r) = let same : h ≡ with_file o.file r.0 = cc in (r.0, r.1, same)
  rest_closed o g h (inr r) = absurd (cc)

  pub rest_stopped :
      (o : OpenFile) (g : Gathered) (name : List ℕ) (t : Trouble) → Rest (o ∷ []) g (stopped_at name t) → Gives imported o.left g (stopped_at name t)
  rest_stopped o g name t (inl r) = absurd (cc)
  rest_stopped o g name t (inr r) = subst (λ (out : Outcome). Gives imported o.left g out) (sym r.3) r.2

-- what is known of names may be more
module _
    (A B : List ℕ → Type 0) (D E : List ℕ → DeclaredFile → Type 0) (T U : Origin → List ℕ → Trouble → Type 0) (absent : (name : List ℕ) → A name → B name)
    (declares : (name : List ℕ) (f : DeclaredFile) → D name f → E name f) (trouble : (o : Origin) (name : List ℕ) (t : Trouble) → T o name t → U o name t)
  where
    left_out_map : (o : Origin) (name : List ℕ) → IsLeftOut A o name → IsLeftOut B o name
    left_out_map given name l = l
    left_out_map imported name (inl leaves) = inl leaves
    left_out_map imported name (inr none) = inr (absent name none)

    pub gathers_map : {o : Origin} {names : List (List ℕ)} {g : Gathered} {out : Outcome} → Gathers A D T o names g out → Gathers B E U o names g out
    gathers_map none_left = none_left
    gathers_map (known k r) = known k (gathers_map r)
    gathers_map (left_out {o = o} {name = name} l r) = left_out (left_out_map o name l) (gathers_map r)
    gathers_map (read {name = name} {f = f} k w d inner r) = read k w (declares name f d) (gathers_map inner) (gathers_map r)
    gathers_map (refused_inside {name = name} {f = f} k w d inner) = refused_inside k w (declares name f d) (gathers_map inner)
    gathers_map (refused_here {o = o} {name = name} {t = t} k w h) = refused_here k w (trouble o name t h)

    pub moves_map : {g h : Gathered} {s t : List OpenFile} → Moves A D g s h t → Moves B E g s h t
    moves_map closed = closed
    moves_map (passed (inl k)) = passed (inl k)
    moves_map (passed {name = name} (inr l)) = passed (inr (left_out_map imported name l))
    moves_map (entered {inner = inner} {name = name} k w d) = entered k w (declares name inner d)
