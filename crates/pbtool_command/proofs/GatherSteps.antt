-- What the steps of gathering leave.
use Rattle.std.proofs.Common.{◌≡◌, ℕ, ◌+◌, ◌<◌, ◌≤◌, List, [], ◌∷◌, ◌++◌, length, get_or, take, drop, map, reverse, Bool, true, false, Option, Some, None, refl, sym, ap, ◌∙◌, subst}
use Rattle.std.specs.Prelude.{String, option_map, string_bytes}
use Rattle.std.specs.Borrow.{Bor}
use Rattle.std.specs.declared.alloc.Global.{Global}
use Rattle.std.proofs.lemmas.List.{drop-map, drop_all, drop_more, map-append, reverse-append}
use Rattle.pb_declarations.specs.Decls.{DeclaredFile}
use Rattle.pb_declarations.specs.View.{file_view}
use Rattle.pb_declarations.specs.declared.decl.FileDecl.{FileDecl}
use Rattle.pbtool_files.specs.Answer.{Answer}
use Rattle.pbtool_command.specs.CompileAnswer.{texts_of, told_of}
use Rattle.pbtool_files.specs.FileMap.{FileMap, KeepsMap}
use Rattle.pbtool_command.specs.Gathering.{Gathered, Outcome, Places, Trouble, gathered, given, imported, stopped_at, nothing_yet, with_file, with_name, is_known, known, none_left, read, refused_here, refused_inside}
use Rattle.pbtool_command.specs.Reaching.{FindsImport, Moves, OpenFile, OpensFound, StopsInside, closed, passed, entered, opened, open_view, stack_of}
use Rattle.pbtool_files.specs.Refusal.{Refuses}
use Rattle.pbtool_command.specs.Steps.{AbsentOf, DeclaredOf, GathersOf, StopsOf, TroubleOf}
use Rattle.pbtool_command.specs.declared.gathering.Open.{Open}
use Rattle.pbtool_files.specs.declared.report.Refusal.{Refusal}
use Rattle.pbtool_files.proofs.RefusalLemmas.{refuses_map}
use Rattle.pbtool_command.proofs.GatheringLemmas.{Rest, gathers_stop, gathers_then, moves_back, rest_closed, rest_stopped, stops_rest}
use Rattle.pbtool_command.proofs.SourceSteps.{gathers_later, moves_later, trouble_later}
use Rattle.pbtool_command.proofs.TextLists.{texts_more, texts_whole}

abbrev pub record_of : List (List ℕ) → List DeclaredFile → Gathered
record_of names files = record { names = names; files = files }

-- THE STACK OF OPEN FILES

pub stack_pushed : (opens : List Open) (o : Open) → stack_of (opens ++ o ∷ []) ≡ open_view o ∷ stack_of opens
stack_pushed opens o = ap reverse (map-append open_view opens (o ∷ [])) ∙ reverse-append (map open_view opens) (open_view o ∷ [])

-- the imports that are left of an open file
left_next :
    (names : List (String Global)) (i : ℕ) (x : String Global) → i < length names → x ≡ get_or names i x
    → drop i (map string_bytes names) ≡ string_bytes x ∷ drop (i + 1) (map string_bytes names)
left_next names i x lt at =
    drop-map string_bytes i names ∙ ap (map string_bytes) (drop_more names i x lt)
    ∙ ap (λ (y : String Global). string_bytes y ∷ map string_bytes (drop (i + 1) names)) (sym at)
    ∙ ap (λ (l : List (List ℕ)). string_bytes x ∷ l) (sym (drop-map string_bytes (i + 1) names))

left_none : (names : List (String Global)) (i : ℕ) → length names ≤ i → drop i (map string_bytes names) ≡ []
left_none names i past = drop-map string_bytes i names ∙ ap (map string_bytes) (drop_all i names past)

module _ (A : List ℕ → Type 0) (D : List ℕ → DeclaredFile → Type 0) (g h : Gathered) where
  close_left :
      (f : DeclaredFile) (left : List (List ℕ)) (below : List OpenFile) → left ≡ [] → h ≡ with_file f g → Moves A D g (opened f left ∷ below) h below
  close_left f left below none is =
      subst (λ (l : List (List ℕ)). Moves A D g (opened f l ∷ below) h below) (sym none)
      (subst (λ (k : Gathered). Moves A D g (opened f [] ∷ below) k below) (sym is) closed)

  -- after the last import
  pub go_closed :
      (o : Open) (opens : List Open) → length o.file.imports.items ≤ o.next → h ≡ with_file (file_view o.file) g
      → Moves A D g (open_view o ∷ stack_of opens) h (stack_of opens)
  go_closed o opens past is = close_left (file_view o.file) (open_view o).left (stack_of opens) (left_none o.file.imports.items o.next past) is

  pass_left :
      (f : DeclaredFile) (left : List (List ℕ)) (name : List ℕ) (names : List (List ℕ)) (below : List OpenFile) → left ≡ name ∷ names
      → FindsImport A D g name h None → Moves A D g (opened f left ∷ below) h (opened f names ∷ below)
  pass_left f left name names below is found =
      subst (λ (l : List (List ℕ)). Moves A D g (opened f l ∷ below) h (opened f names ∷ below)) (sym is)
      (subst (λ (k : Gathered). Moves A D g (opened f (name ∷ names) ∷ below) k (opened f names ∷ below)) (sym found.0) (passed found.1))

  enter_left :
      (f inner : DeclaredFile) (left : List (List ℕ)) (name : List ℕ) (names : List (List ℕ)) (below : List OpenFile) → left ≡ name ∷ names
      → FindsImport A D g name h (Some inner) → Moves A D g (opened f left ∷ below) h (opened inner inner.imports ∷ opened f names ∷ below)
  enter_left f inner left name names below is found =
      subst (λ (l : List (List ℕ)). Moves A D g (opened f l ∷ below) h (opened inner inner.imports ∷ opened f names ∷ below)) (sym is)
      (subst (λ (k : Gathered). Moves A D g (opened f (name ∷ names) ∷ below) k (opened inner inner.imports ∷ opened f names ∷ below)) (sym found.0)
      (entered found.1 found.2 found.3))

  module _ (o : Open) (name : String Global) (lt : o.next < length o.file.imports.items) (at : name ≡ get_or o.file.imports.items o.next name) (opens : List Open)
    where
      abbrev next_open : Open
      next_open = record { file = o.file; next = o.next + 1 }

      -- the next import is passed over
      pub go_passed :
          (now : List Open) → now ≡ opens ++ next_open ∷ [] → FindsImport A D g (string_bytes name) h None
          → Moves A D g (open_view o ∷ stack_of opens) h (stack_of now)
      go_passed now is found =
          subst (λ (s : List OpenFile). Moves A D g (open_view o ∷ stack_of opens) h s) (sym (ap stack_of is ∙ stack_pushed opens next_open))
          (pass_left (file_view o.file) (open_view o).left (string_bytes name) (open_view next_open).left (stack_of opens)
          (left_next o.file.imports.items o.next name lt at) found)

      -- or its file is opened
      pub go_entered :
          (inner : Open) (now : List Open) → inner.next ≡ 0 → now ≡ (opens ++ next_open ∷ []) ++ inner ∷ []
          → FindsImport A D g (string_bytes name) h (Some (file_view inner.file)) → Moves A D g (open_view o ∷ stack_of opens) h (stack_of now)
      go_entered inner now first is found =
          let whole : open_view inner ≡ opened (file_view inner.file) (file_view inner.file).imports =
          ap (λ (n : ℕ). opened (file_view inner.file) (drop n (map string_bytes inner.file.imports.items))) first in
          subst (λ (s : List OpenFile). Moves A D g (open_view o ∷ stack_of opens) h s)
          (sym (ap stack_of is ∙ stack_pushed (opens ++ next_open ∷ []) inner ∙ ap (λ (s : List OpenFile). open_view inner ∷ s) (stack_pushed opens next_open)
          ∙ ap (λ (p : OpenFile). p ∷ open_view next_open ∷ stack_of opens) whole))
          (enter_left (file_view o.file) (file_view inner.file) (open_view o).left (string_bytes name) (open_view next_open).left (stack_of opens)
          (left_next o.file.imports.items o.next name lt at) found)

      pub go_found :
          (found : Option FileDecl) (mid now : List Open) → mid ≡ opens ++ next_open ∷ [] → OpensFound mid found now
          → FindsImport A D g (string_bytes name) h (option_map file_view found) → Moves A D g (open_view o ∷ stack_of opens) h (stack_of now)
      go_found None mid now is opens_it finds = go_passed now (opens_it ∙ is) finds
      go_found (Some f) mid now is opens_it finds =
          go_entered (record { file = f; next = 0 }) now refl (opens_it ∙ ap (λ (l : List Open). l ++ (record { file = f; next = 0 }) ∷ []) is) finds

-- the next import is refused
pub left_of :
    (o : Open) (name : String Global) → o.next < length o.file.imports.items → name ≡ get_or o.file.imports.items o.next name
    → (open_view o).left ≡ string_bytes name ∷ drop (o.next + 1) (map string_bytes o.file.imports.items)
left_of o name lt at = left_next o.file.imports.items o.next name lt at

-- OVER THE FILES AS THEY WERE

module _ {F : Type 0} (contents : F → Option FileMap) (is_steady : F → Bool) (old : F) (p : Places) where
  abbrev pub RestOf : List OpenFile → Gathered → Outcome → Type 0
  RestOf = Rest (AbsentOf contents is_steady old p.roots) (DeclaredOf contents is_steady old p) (TroubleOf contents is_steady old p)

  -- what comes of the files that are open now came of those that were first
  abbrev pub LeadsTo : List OpenFile → Gathered → List OpenFile → Gathered → Type 0
  LeadsTo s g t h = (out : Outcome) → RestOf t h out → RestOf s g out

  module _ (mid : F) (kept : KeepsMap (contents old) (contents mid)) (steady : is_steady old ≡ true → is_steady mid ≡ true) where
    -- a step more
    pub leads_more :
        (s : List OpenFile) (g : Gathered) (opens below : List Open) (o : Open) (t : List OpenFile) (h k : Gathered) → LeadsTo s g (stack_of opens) h
        → opens ≡ below ++ o ∷ []
        → Moves (AbsentOf contents is_steady mid p.roots) (DeclaredOf contents is_steady mid p) h (open_view o ∷ stack_of below) k t → LeadsTo s g t k
    leads_more s g opens below o t h k leads popped moves out rest =
        leads out
        (subst (λ (l : List OpenFile). RestOf l h out) (sym (ap stack_of popped ∙ stack_pushed below o))
        (moves_back (AbsentOf contents is_steady old p.roots) (DeclaredOf contents is_steady old p) (TroubleOf contents is_steady old p)
        (moves_later contents is_steady old mid kept steady p moves) out rest))

    -- a step that is refused
    pub leads_stop :
        (f : DeclaredFile) (g : Gathered) (opens below : List Open) (o : Open) (h : Gathered) (a : Answer) → LeadsTo (opened f f.imports ∷ []) g (stack_of opens) h
        → opens ≡ below ++ o ∷ [] → StopsInside (TroubleOf contents is_steady mid p) h (open_view o).left a
        → StopsOf contents is_steady old p imported f.imports g a
    leads_stop f g opens below o h a leads popped stop =
        let name = stop.0 in
        let t = stop.2 in
        let rest : RestOf (stack_of opens) h (stopped_at name t) =
        subst (λ (l : List OpenFile). RestOf l h (stopped_at name t)) (sym (ap stack_of popped ∙ stack_pushed below o))
        (stops_rest (AbsentOf contents is_steady old p.roots) (DeclaredOf contents is_steady old p) (TroubleOf contents is_steady old p) (open_view o) (stack_of below) h name stop.1 t stop.3
        (stop.4.0, stop.4.1, trouble_later contents is_steady old mid kept steady p imported name t stop.4.2)) in
        (name, t, rest_stopped (AbsentOf contents is_steady old p.roots) (DeclaredOf contents is_steady old p) (TroubleOf contents is_steady old p) (opened f f.imports) g name t (leads (stopped_at name t) rest), stop.5)

  -- nothing is open any more
  pub leads_closed :
      (f : DeclaredFile) (g h : Gathered) (opens : List Open) → LeadsTo (opened f f.imports ∷ []) g (stack_of opens) h → opens ≡ []
      → (k : Gathered) × GathersOf contents is_steady old p imported f.imports g (gathered k) × (h ≡ with_file f k)
  leads_closed f g h opens leads none =
      rest_closed (AbsentOf contents is_steady old p.roots) (DeclaredOf contents is_steady old p) (TroubleOf contents is_steady old p) (opened f f.imports) g h
      (leads (gathered h) (subst (λ (l : List OpenFile). RestOf l h (gathered h)) (sym (ap stack_of none)) refl))

  -- GIVEN NAMES

  module _ (mid : F) (kept : KeepsMap (contents old) (contents mid)) (steady : is_steady old ≡ true → is_steady mid ≡ true) where
    -- one more
    pub given_more :
        (names : List (Bor (List ℕ))) (i : ℕ) (d : Bor (List ℕ)) (g h : Gathered) → i < length names
        → GathersOf contents is_steady old p given (texts_of (take i names)) nothing_yet (gathered g)
        → GathersOf contents is_steady mid p given ((get_or names i d).now ∷ []) g (gathered h)
        → GathersOf contents is_steady old p given (texts_of (take (i + 1) names)) nothing_yet (gathered h)
    given_more names i d g h lt first next =
        subst (λ (l : List (List ℕ)). GathersOf contents is_steady old p given l nothing_yet (gathered h)) (sym (texts_more names i d lt))
        (gathers_then _ _ _ g ((get_or names i d).now ∷ []) (gathered h) first refl (gathers_later contents is_steady old mid kept steady p next))

    given_stop :
        (names : List (Bor (List ℕ))) (i : ℕ) (d : Bor (List ℕ)) (g : Gathered) → i < length names
        → GathersOf contents is_steady old p given (texts_of (take i names)) nothing_yet (gathered g) → (a : Answer)
        → StopsOf contents is_steady mid p given ((get_or names i d).now ∷ []) g a → StopsOf contents is_steady old p given (texts_of names) nothing_yet a
    given_stop names i d g lt first a stop =
        let here =
        gathers_then _ _ _ g ((get_or names i d).now ∷ []) (stopped_at stop.0 stop.1) first refl
        (gathers_later contents is_steady old mid kept steady p stop.2) in (
          stop.0,
          stop.1,
          subst (λ (l : List (List ℕ)). GathersOf contents is_steady old p given l nothing_yet (stopped_at stop.0 stop.1)) (texts_whole names i d lt)
              (gathers_stop _ _ _ stop.0 stop.1 (texts_of (drop (i + 1) names)) here refl),
          stop.3,
        )

    -- or it is refused
    pub given_stops :
        (names : List (Bor (List ℕ))) (i : ℕ) (d : Bor (List ℕ)) (g : Gathered) (e : Refusal) → i < length names
        → GathersOf contents is_steady old p given (texts_of (take i names)) nothing_yet (gathered g)
        → Refuses (StopsOf contents is_steady mid p given ((get_or names i d).now ∷ []) g) e
        → Refuses (StopsOf contents is_steady old p given (texts_of names) nothing_yet) e
    given_stops names i d g e lt first =
        refuses_map (StopsOf contents is_steady mid p given ((get_or names i d).now ∷ []) g) (StopsOf contents is_steady old p given (texts_of names) nothing_yet) e
        (given_stop names i d g lt first)

  -- ONE GIVEN NAME

  module _ (name : List ℕ) (g : Gathered) where
    pub given_known : is_known g name ≡ true → GathersOf contents is_steady old p given (name ∷ []) g (gathered g)
    given_known k = known k none_left

    pub given_refused :
        (e : Refusal) → is_known g name ≡ false
        → Refuses (λ a. (t : Trouble) × TroubleOf contents is_steady old p given name t × (a ≡ told_of name t)) e
        → Refuses (StopsOf contents is_steady old p given (name ∷ []) g) e
    given_refused e unknown =
        refuses_map (λ a. (t : Trouble) × TroubleOf contents is_steady old p given name t × (a ≡ told_of name t))
        (StopsOf contents is_steady old p given (name ∷ []) g) e (λ a h. (name, h.0, refused_here unknown tt h.1, h.2))

    module _
        (mid : F) (kept : KeepsMap (contents old) (contents mid)) (steady : is_steady old ≡ true → is_steady mid ≡ true) (f : DeclaredFile) (h : Gathered)
        (unknown : is_known g name ≡ false) (declares : DeclaredOf contents is_steady old p name f) (is : h ≡ with_name name g) where
      inside :
          (out : Outcome) → GathersOf contents is_steady mid p imported f.imports h out → GathersOf contents is_steady old p imported f.imports (with_name name g) out
      inside out r =
          subst (λ (k : Gathered). GathersOf contents is_steady old p imported f.imports k out) is (gathers_later contents is_steady old mid kept steady p r)

      -- one of its imports is refused
      pub given_inside :
          (e : Refusal) → Refuses (StopsOf contents is_steady mid p imported f.imports h) e → Refuses (StopsOf contents is_steady old p given (name ∷ []) g) e
      given_inside e =
          refuses_map (StopsOf contents is_steady mid p imported f.imports h) (StopsOf contents is_steady old p given (name ∷ []) g) e
          (λ a s. (s.0, s.1, refused_inside unknown tt declares (inside (stopped_at s.0 s.1) s.2), s.3))

      -- or it is closed
      pub given_read :
          (now : Gathered) → (k : Gathered) × GathersOf contents is_steady mid p imported f.imports h (gathered k) × (now ≡ with_file f k)
          → GathersOf contents is_steady old p given (name ∷ []) g (gathered now)
      given_read now r =
          subst (λ (k : Gathered). GathersOf contents is_steady old p given (name ∷ []) g (gathered k)) (sym r.2)
          (read unknown tt declares (inside (gathered r.0) r.1) none_left)

-- a name is added to those that were reached
pub name_reached :
    (names now : List (List ℕ)) (files : List DeclaredFile) (name : List ℕ) → now ≡ names ++ name ∷ []
    → record_of now files ≡ with_name name (record_of names files)
name_reached names now files name is = ap (λ (l : List (List ℕ)). record_of l files) is
