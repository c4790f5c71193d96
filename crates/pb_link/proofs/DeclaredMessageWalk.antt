-- Going through the declarations of a message: itself with its parts, the messages in it, its entry messages and its enums.
use Rattle.std.proofs.Common.{◌≡◌, ℕ, zero, suc, ◌+◌, ◌≤◌, List, [], ◌∷◌, ◌++◌, map, length, refl, sym, ap, ◌∙◌, subst, arith, Option, Some, append-nil, length-append}
use Rattle.std.specs.Prelude.{slice_get, filter_map}
use Rattle.std.specs.List.{AllByRecursion, flat_map}
use Rattle.std.proofs.lemmas.List.{length-map}
use Rattle.pb_schema.specs.Names.{in_scope}
use Rattle.pb_schema.specs.Nesting.{parent_of, itself, deeper}
use Rattle.pb_schema.specs.Types.{MessageView, EnumView, Types}
use Rattle.pb_schema.specs.Rules.{IsPool}
use Rattle.pb_declarations.specs.Decls.{MessageHead, DeclaredMessage, message, DeclaredMessages, messages_of}
use Rattle.pb_link_names.specs.Declarations.{a_message, Declaration, enums_declared, head_row, message_declared, messages_declared}
use Rattle.pb_link_rules.specs.Rules.{World, item_of}
use Rattle.pb_link.specs.Heads.{enums_among}
use Rattle.pb_link.specs.PoolOf.{message_index, enum_index, parent_type, parent_by_item}
use Rattle.pb_link.specs.ToDecls.{is_parent, numbered, messages_in, declared_head, declared_message, entry_of_field}
use Rattle.pb_link.proofs.ForestLemmas.{all_each}
use Rattle.pb_link.proofs.FlatLemmas.{Stands, under, before, children, parent_there, get_less}
use Rattle.pb_link.proofs.WholeLemmas.{share}
use Rattle.pb_link.proofs.EnumWholeLemmas.{numbered_enums, own_enums, enums_under, Own, own_held}
use Rattle.pb_link.proofs.EnumHeadLemmas.{declared_one, unnumbered, among_append, no_enums, among_map, declared_under}
use Rattle.pb_link.proofs.EachDeclaredLemmas.{Scope, named}
use Rattle.pb_link.proofs.CutLemmas.{cut_front, cut_back, cut_first, AllFrom, from_append}
use Rattle.pb_link.proofs.RowCountLemmas.{head_messages, head_enums, messages_enums}
use Rattle.pb_link.proofs.DeclaredWalkLemmas.{row_append, index_of, At, Row, Next, NextEnums, next_after, enums_after, Fits, MessageIn, EnumIn, Walks, walk_enums, walk_entries, walk_head, walk_messages}

module _ (ts : Types) (pool : IsPool ts) (w : World) where
  -- WHAT IS IN A MESSAGE

  index_here : (m : ℕ × MessageView) (ms : List (ℕ × MessageView)) (place : ℕ) → Next ts pool w place (m ∷ ms) → message_index w place ≡ m.0
  index_here m ms place next = let z : 0 + message_index w place ≡ message_index w place = omega arith in sym (index_of 0 ts.messages (message_index w place) m (cut_first (ℕ × MessageView) (numbered ts) (message_index w place) m ms next) ∙ z)

  parent_here : (place : ℕ) (d : Declaration) (head : MessageHead) (inner : DeclaredMessages) (i : ℕ) → slice_get w.declared place ≡ Some d → d.item ≡ a_message head inner → message_index w place ≡ i → parent_type w place ≡ Some i
  parent_here place d head inner i there is index = ap (λ o. parent_by_item w place (item_of o)) there ∙ ap (λ x. parent_by_item w place (Some x)) is ∙ ap Some index

  inside : (m : ℕ × MessageView) (file parent : ℕ) (scope : List ℕ) (place of_file : ℕ) (up : Option ℕ) → MessageIn ts pool w file parent scope m → parent_type w place ≡ Some m.0 → of_file ≡ m.1.file → up ≡ Some m.0 → Fits ts pool w file place (in_scope scope m.1.name) of_file up
  inside m file parent scope place of_file up fits here same is = record {
    same_file = fits.1.same_file ∙ sym same;
    same_scope = ap (λ s. in_scope s m.1.name) fits.1.same_scope ∙ named ts pool m fits.0 ∙ ap (Scope ts of_file) (sym is);
    around = here ∙ sym is;
  }

  inner_enums : (levels : ℕ) (m : ℕ × MessageView) → enums_among (messages_of (map (declared_message levels ts) (messages_in ts m.0) ++ filter_map (entry_of_field ts) m.1.fields)) ≡ map declared_one (flat_map (enums_under ts levels) (messages_in ts m.0))
  inner_enums levels m =
      let nested = map (declared_message levels ts) (messages_in ts m.0) in
      among_append nested (filter_map (entry_of_field ts) m.1.fields)
      ∙ ap (λ l. enums_among (messages_of nested) ++ l) (no_enums ts m.1.fields)
      ∙ append-nil (enums_among (messages_of nested))
      ∙ among_map (declared_message levels ts) (enums_under ts levels) (messages_in ts m.0) (declared_under ts levels)

  -- the rows of a message: itself with its parts, the messages in it, its entry messages, its enums
  module _ (levels : ℕ) (m : ℕ × MessageView) (all : AllByRecursion (λ c. (Stands ts c × (parent_of ts.messages c.0 ≡ Some m.0)) × Walks ts pool w levels c) (messages_in ts m.0)) (there : Stands ts m) (file parent : ℕ) (scope : List ℕ) (place : ℕ) (fits : Fits ts pool w file parent scope m.1.file m.1.parent) (cut : Row ts pool w place (message_declared file parent scope place (declared_message (suc levels) ts m))) (next : Next ts pool w place (under ts (suc levels) m)) (enums : NextEnums ts pool w place (enums_under ts (suc levels) m)) where
    abbrev Head : MessageHead
    Head = declared_head ts m.0 m.1

    abbrev Name : List ℕ
    Name = in_scope scope m.1.name

    abbrev Messages : List DeclaredMessage
    Messages = map (declared_message levels ts) (messages_in ts m.0)

    abbrev Entries : List DeclaredMessage
    Entries = filter_map (entry_of_field ts) m.1.fields

    abbrev Inner : DeclaredMessages
    Inner = messages_of (Messages ++ Entries)

    abbrev OwnRow : List Declaration
    OwnRow = head_row file parent scope Name place (message Head Inner)

    abbrev Whole : List Declaration
    Whole = messages_declared file place Name (place + length OwnRow) Inner

    abbrev Nested : List Declaration
    Nested = messages_declared file place Name (place + length OwnRow) (messages_of Messages)

    abbrev EntryRows : List Declaration
    EntryRows = messages_declared file place Name (place + length OwnRow + length Nested) (messages_of Entries)

    abbrev EnumRow : List Declaration
    EnumRow = enums_declared file place Name (place + length OwnRow + length Whole) Head.enums

    abbrev NestedMs : List (ℕ × MessageView)
    NestedMs = flat_map (under ts levels) (messages_in ts m.0)

    abbrev NestedEs : List (ℕ × EnumView)
    NestedEs = flat_map (enums_under ts levels) (messages_in ts m.0)

    size : place + length (OwnRow ++ Whole) ≡ place + length OwnRow + length Whole
    size = let e = length-append OwnRow Whole in omega (arith, e)

    front : Row ts pool w place (OwnRow ++ Whole)
    front = cut_front Declaration w.declared place (OwnRow ++ Whole) EnumRow cut

    cut_own : Row ts pool w place OwnRow
    cut_own = cut_front Declaration w.declared place OwnRow Whole front

    cut_whole : Row ts pool w (place + length OwnRow) Whole
    cut_whole = cut_back Declaration w.declared place OwnRow Whole front

    split : Whole ≡ Nested ++ EntryRows
    split = row_append file place Name (place + length OwnRow) Messages Entries

    here : parent_type w place ≡ Some m.0
    here = parent_here place (record { file = file; parent = parent; scope = scope; item = a_message Head Inner }) Head Inner m.0 (cut_first Declaration w.declared place _ _ cut_own) refl (index_here m NestedMs place next)

    enums_next : NextEnums ts pool w (place + length OwnRow) (NestedEs ++ own_enums ts m.0)
    enums_next = enums_after ts pool w place OwnRow [] (NestedEs ++ own_enums ts m.0) cut_own (head_enums file parent scope Name place Head Inner) enums

    nested_walked : AllFrom (At ts pool w) (place + length OwnRow) Nested
    nested_walked = walk_messages ts pool w levels file place Name (place + length OwnRow) (messages_in ts m.0)
        (all_each (λ c. (Stands ts c × (parent_of ts.messages c.0 ≡ Some m.0)) × Walks ts pool w levels c) (λ c. MessageIn ts pool w file place Name c × Walks ts pool w levels c) (messages_in ts m.0)
        (λ c h. ((h.0.0, inside m file parent scope place c.1.file c.1.parent (there, fits) here (sym (share ts pool m.0 c.0 m.1 c.1 (deeper h.0.1 itself) there h.0.0)) (sym (parent_there ts.messages c.0 c.1 h.0.0) ∙ h.0.1)), h.1)) all)
        (cut_front Declaration w.declared (place + length OwnRow) Nested EntryRows (subst (Row ts pool w (place + length OwnRow)) split cut_whole))
        (next_after ts pool w place OwnRow (m ∷ []) NestedMs cut_own (head_messages file parent scope Name place Head Inner) next)
        (cut_front (ℕ × EnumView) (numbered_enums ts) (enum_index w (place + length OwnRow)) NestedEs (own_enums ts m.0) enums_next)

    whole_walked : AllFrom (At ts pool w) (place + length OwnRow) Whole
    whole_walked = subst (AllFrom (At ts pool w) (place + length OwnRow)) (sym split) (from_append (At ts pool w) (place + length OwnRow) Nested EntryRows nested_walked (walk_entries ts pool w file place Name (place + length OwnRow + length Nested) m.1.fields))

    same : map declared_one (own_enums ts m.0) ≡ Head.enums
    same = unnumbered (λ e. is_parent m.0 e.parent) 0 ts.enums

    enums_walked : AllFrom (At ts pool w) (place + length OwnRow + length Whole) EnumRow
    enums_walked =
        subst (λ l. AllFrom (At ts pool w) (place + length OwnRow + length Whole) (enums_declared file place Name (place + length OwnRow + length Whole) l)) same
        (walk_enums ts pool w file place Name (place + length OwnRow + length Whole) (own_enums ts m.0)
        (all_each (Own ts pool m) (EnumIn ts pool w file place Name) (own_enums ts m.0) (λ e h. (h.0, inside m file parent scope place e.1.file e.1.parent (there, fits) here h.1 h.2)) (own_held ts pool m there))
        (subst (λ l. Row ts pool w (place + length OwnRow + length Whole) (enums_declared file place Name (place + length OwnRow + length Whole) l)) (sym same) (subst (λ n. Row ts pool w n EnumRow) size (cut_back Declaration w.declared place (OwnRow ++ Whole) EnumRow cut)))
        (enums_after ts pool w (place + length OwnRow) Whole NestedEs (own_enums ts m.0) cut_whole (messages_enums file place Name (place + length OwnRow) Inner ∙ ap length (inner_enums levels m) ∙ length-map NestedEs declared_one) enums_next))

    walk_rows : AllFrom (At ts pool w) place (message_declared file parent scope place (declared_message (suc levels) ts m))
    walk_rows =
        from_append (At ts pool w) place (OwnRow ++ Whole) EnumRow
        (from_append (At ts pool w) place OwnRow Whole (walk_head ts pool w m NestedMs Inner file parent scope Name place (there, fits) cut_own next) whole_walked)
        (subst (λ n. AllFrom (At ts pool w) n EnumRow) (sym size) enums_walked)

  pub walk : (levels : ℕ) (m : ℕ × MessageView) → Stands ts m → length ts.messages ≤ levels + m.0 → Walks ts pool w levels m
  walk zero m there enough file parent scope place fits cut next enums = absurd (let h = get_less ts.messages m.0 m.1 there in omega (arith, h, enough))
  walk (suc levels) m there enough file parent scope place fits cut next enums = walk_rows levels m
      (all_each (λ c. Stands ts c × (parent_of ts.messages c.0 ≡ Some m.0)) (λ c. (Stands ts c × (parent_of ts.messages c.0 ≡ Some m.0)) × Walks ts pool w levels c) (messages_in ts m.0)
      (λ c h. (h, walk levels c h.0 (let less = before ts pool c.0 m.0 h.1 in omega (arith, enough, less)))) (children ts pool m))
      there file parent scope place fits cut next enums
