-- Each place among the declarations of a pool's types holds what it should.
use Rattle.std.proofs.Common.{◌≡◌, ℕ, suc, ◌+◌, List, [], ◌∷◌, ◌++◌, ◌&&◌, ◌==◌, map, length, refl, sym, ap, ◌∙◌, subst, arith, Option, Some, None, append-nil, length-append}
use Rattle.std.specs.Prelude.{slice_get}
use Rattle.std.specs.List.{AllByRecursion, flat_map, enumerate_from}
use Rattle.std.proofs.lemmas.List.{length-map}
use Rattle.pb_schema.specs.Types.{MessageView, EnumView, FileView, Types}
use Rattle.pb_schema.specs.Rules.{IsPool}
use Rattle.pb_declarations.specs.Decls.{messages_of}
use Rattle.pb_link_names.specs.Declarations.{a_file, Declaration, messages_declared, enums_declared, file_declared, files_declared, declarations}
use Rattle.pb_link_rules.specs.Rules.{World, item_of}
use Rattle.pb_link_rules.specs.Link.{IsWorldOf}
use Rattle.pb_link.specs.Heads.{enums_among}
use Rattle.pb_link.specs.PoolOf.{message_index, enum_index, parent_type, parent_by_item}
use Rattle.pb_link.specs.ToDecls.{is_outermost, numbered, outermost_messages, outermost_enums, declared_head, declared_enum, declared_message, declared_file, decls_of}
use Rattle.pb_link.proofs.ForestLemmas.{all_each}
use Rattle.pb_link.proofs.FlatLemmas.{under, parent_there, all_numbered}
use Rattle.pb_link.proofs.WholeLemmas.{in_file, in_files, Outermost, outermost, whole_order}
use Rattle.pb_link.proofs.EnumWholeLemmas.{numbered_enums, enums_under, outer_enums, file_enums, in_files as enums_in_files, Outer, outer, whole_enums}
use Rattle.pb_link.proofs.HeadLemmas.{heads_under, among_map as heads_map}
use Rattle.pb_link.proofs.EnumHeadLemmas.{declared_one, unnumbered, file_declared as enums_of_file}
use Rattle.pb_link.proofs.EachDeclaredLemmas.{outer_scope}
use Rattle.pb_link.proofs.CutLemmas.{count, count_append, Cut, cut_front, cut_back, cut_first, AllFrom, from_append, from_get}
use Rattle.pb_link.proofs.RowCountLemmas.{OfMessage, OfEnum, messages_counted, messages_enums, no_messages_in, enums_counted}
use Rattle.pb_link.proofs.DeclaredPlaces.{Placed, at_other}
use Rattle.pb_link.proofs.DeclaredWalkLemmas.{At, Row, Next, NextEnums, next_after, enums_after, Fits, MessageIn, EnumIn, Walks, walk_messages, walk_enums}
use Rattle.pb_link.proofs.DeclaredMessageWalk.{walk}

module _ (ts : Types) (pool : IsPool ts) where
  -- HOW MANY A FILE DECLARES

  abbrev Messages : ℕ → ℕ → FileView → List Declaration
  Messages i place f = messages_declared i place f.package_name (place + 1) (messages_of (map (declared_message (length ts.messages) ts) (outermost_messages ts i)))

  abbrev Enums : ℕ → ℕ → FileView → List Declaration
  Enums i place f = enums_declared i place f.package_name (place + 1 + length (Messages i place f)) (map declared_enum (outermost_enums ts i))

  file_messages : (i place : ℕ) (f : FileView) → count OfMessage (file_declared i place (declared_file ts (i, f))) ≡ length (in_file ts pool i)
  file_messages i place f =
      let n = length ts.messages in
      let messages = Messages i place f in
      let enums = Enums i place f in
      let all = count_append OfMessage (messages ++ enums) [] in
      let both = count_append OfMessage messages enums in
      let first = messages_counted i place f.package_name (place + 1) (messages_of (map (declared_message n ts) (outermost_messages ts i))) ∙ ap length (heads_map ts (declared_message n ts) (under ts n) (outermost_messages ts i) (heads_under ts n)) ∙ length-map (in_file ts pool i) (λ m. declared_head ts m.0 m.1) in
      let none = no_messages_in i place f.package_name (place + 1 + length messages) (map declared_enum (outermost_enums ts i)) in
      let empty : count {X = Declaration} OfMessage [] ≡ 0 = refl in
      omega (arith, all, both, first, none, empty)

  file_enums_counted : (i place : ℕ) (f : FileView) → count OfEnum (file_declared i place (declared_file ts (i, f))) ≡ length (file_enums ts pool i)
  file_enums_counted i place f =
      let n = length ts.messages in
      let messages = Messages i place f in
      let enums = Enums i place f in
      let all = count_append OfEnum (messages ++ enums) [] in
      let both = count_append OfEnum messages enums in
      let first = messages_enums i place f.package_name (place + 1) (messages_of (map (declared_message n ts) (outermost_messages ts i))) in
      let last = enums_counted i place f.package_name (place + 1 + length messages) (map declared_enum (outermost_enums ts i)) in
      let whole = sym (length-append (enums_among (messages_of (map (declared_message n ts) (outermost_messages ts i)))) (map declared_enum (outermost_enums ts i))) ∙ ap length (enums_of_file ts pool i) ∙ length-map (file_enums ts pool i) declared_one in
      let empty : count {X = Declaration} OfEnum [] ≡ 0 = refl in
      omega (arith, all, both, first, last, whole, empty)

  pub files_messages : (k place : ℕ) (fs : List FileView) → count OfMessage (files_declared k place (map (declared_file ts) (enumerate_from k fs))) ≡ length (in_files ts pool k fs)
  files_messages k place [] = refl
  files_messages k place (f ∷ fs) =
      let own = file_declared k place (declared_file ts (k, f)) in
      let both = count_append OfMessage own (files_declared (k + 1) (place + length own) (map (declared_file ts) (enumerate_from (k + 1) fs))) in
      let first = file_messages k place f in
      let rest = files_messages (k + 1) (place + length own) fs in
      let size = length-append (in_file ts pool k) (in_files ts pool (k + 1) fs) in
      omega (arith, both, first, rest, size)

  pub files_enums : (k place : ℕ) (fs : List FileView) → count OfEnum (files_declared k place (map (declared_file ts) (enumerate_from k fs))) ≡ length (enums_in_files ts pool k fs)
  files_enums k place [] = refl
  files_enums k place (f ∷ fs) =
      let own = file_declared k place (declared_file ts (k, f)) in
      let both = count_append OfEnum own (files_declared (k + 1) (place + length own) (map (declared_file ts) (enumerate_from (k + 1) fs))) in
      let first = file_enums_counted k place f in
      let rest = files_enums (k + 1) (place + length own) fs in
      let size = length-append (file_enums ts pool k) (enums_in_files ts pool (k + 1) fs) in
      omega (arith, both, first, rest, size)

  module _ (w : World) where
    -- ONE FILE

    module _ (i : ℕ) (f : FileView) (there : slice_get ts.files i ≡ Some f) (place : ℕ) (cut : Row ts pool w place (file_declared i place (declared_file ts (i, f)))) (next : Next ts pool w place (in_file ts pool i)) (enums : NextEnums ts pool w place (file_enums ts pool i)) where
      abbrev File : Declaration
      File = record { file = i; parent = place; scope = []; item = a_file (declared_file ts (i, f)) }

      abbrev Behind : List Declaration
      Behind = (Messages i place f ++ Enums i place f) ++ []

      around : parent_type w place ≡ None
      around = ap (λ o. parent_by_item w place (item_of o)) (cut_first Declaration w.declared place File Behind cut)

      fits : (of_file : ℕ) (up : Option ℕ) → of_file ≡ i → up ≡ None → Fits ts pool w i place f.package_name of_file up
      fits of_file up same is = record {
        same_file = sym same;
        same_scope = sym (outer_scope ts pool i f there of_file up same is);
        around = around ∙ sym is;
      }

      cut_file : Row ts pool w place (File ∷ [])
      cut_file = cut_front Declaration w.declared place (File ∷ []) Behind cut

      cut_types : Row ts pool w (place + 1) (Messages i place f ++ Enums i place f)
      cut_types = cut_front Declaration w.declared (place + 1) (Messages i place f ++ Enums i place f) [] (cut_back Declaration w.declared place (File ∷ []) Behind cut)

      cut_messages : Row ts pool w (place + 1) (Messages i place f)
      cut_messages = cut_front Declaration w.declared (place + 1) (Messages i place f) (Enums i place f) cut_types

      enums_next : NextEnums ts pool w (place + 1) (file_enums ts pool i)
      enums_next = enums_after ts pool w place (File ∷ []) [] (file_enums ts pool i) cut_file refl enums

      messages_walked : AllFrom (At ts pool w) (place + 1) (Messages i place f)
      messages_walked = walk_messages ts pool w (length ts.messages) i place f.package_name (place + 1) (outermost_messages ts i)
          (all_each (Outermost ts pool i) (λ c. MessageIn ts pool w i place f.package_name c × Walks ts pool w (length ts.messages) c) (outermost_messages ts i)
          (λ c h. ((h.0, fits c.1.file c.1.parent h.1 (sym (parent_there ts.messages c.0 c.1 h.0) ∙ h.2)), walk ts pool w (length ts.messages) c h.0 (omega arith))) (outermost ts pool i))
          cut_messages
          (next_after ts pool w place (File ∷ []) [] (in_file ts pool i) cut_file refl next)
          (cut_front (ℕ × EnumView) (numbered_enums ts) (enum_index w (place + 1)) (flat_map (enums_under ts (length ts.messages)) (outermost_messages ts i)) (outer_enums ts i) enums_next)

      same : map declared_one (outer_enums ts i) ≡ map declared_enum (outermost_enums ts i)
      same = unnumbered (λ e. (i == e.file) && is_outermost e.parent) 0 ts.enums

      nested_enums : count OfEnum (Messages i place f) ≡ length (flat_map (enums_under ts (length ts.messages)) (outermost_messages ts i))
      nested_enums =
          let last = enums_counted i place f.package_name (place + 1 + length (Messages i place f)) (map declared_enum (outermost_enums ts i)) in
          let both = count_append OfEnum (Messages i place f) (Enums i place f) in
          let all = count_append OfEnum (Messages i place f ++ Enums i place f) [] in
          let whole = file_enums_counted i place f in
          let size = length-append (flat_map (enums_under ts (length ts.messages)) (outermost_messages ts i)) (outer_enums ts i) in
          let own = sym (length-map (outer_enums ts i) declared_one) ∙ ap length same in
          let empty : count {X = Declaration} OfEnum [] ≡ 0 = refl in
          omega (arith, last, both, all, whole, size, own, empty)

      enums_walked : AllFrom (At ts pool w) (place + 1 + length (Messages i place f)) (Enums i place f)
      enums_walked =
          subst (λ l. AllFrom (At ts pool w) (place + 1 + length (Messages i place f)) (enums_declared i place f.package_name (place + 1 + length (Messages i place f)) l)) same
          (walk_enums ts pool w i place f.package_name (place + 1 + length (Messages i place f)) (outer_enums ts i)
          (all_each (Outer ts pool i) (EnumIn ts pool w i place f.package_name) (outer_enums ts i) (λ e h. (h.0, fits e.1.file e.1.parent h.1 h.2)) (outer ts pool i))
          (subst (λ l. Row ts pool w (place + 1 + length (Messages i place f)) (enums_declared i place f.package_name (place + 1 + length (Messages i place f)) l)) (sym same) (cut_back Declaration w.declared (place + 1) (Messages i place f) (Enums i place f) cut_types))
          (enums_after ts pool w (place + 1) (Messages i place f) (flat_map (enums_under ts (length ts.messages)) (outermost_messages ts i)) (outer_enums ts i) cut_messages nested_enums enums_next))

      walk_file : AllFrom (At ts pool w) place (file_declared i place (declared_file ts (i, f)))
      walk_file = (at_other refl refl, from_append (At ts pool w) (place + 1) (Messages i place f ++ Enums i place f) [] (from_append (At ts pool w) (place + 1) (Messages i place f) (Enums i place f) messages_walked enums_walked) tt)

    -- ALL FILES

    walk_files : (k place : ℕ) (fs : List FileView) → AllByRecursion (λ e. slice_get ts.files e.0 ≡ Some e.1) (enumerate_from k fs) → Row ts pool w place (files_declared k place (map (declared_file ts) (enumerate_from k fs))) → Next ts pool w place (in_files ts pool k fs) → NextEnums ts pool w place (enums_in_files ts pool k fs) → AllFrom (At ts pool w) place (files_declared k place (map (declared_file ts) (enumerate_from k fs)))
    walk_files k place [] all cut next enums = tt
    walk_files k place (f ∷ fs) all cut next enums =
        let own = file_declared k place (declared_file ts (k, f)) in
        let rest = files_declared (k + 1) (place + length own) (map (declared_file ts) (enumerate_from (k + 1) fs)) in
        let front = cut_front Declaration w.declared place own rest cut in
        from_append (At ts pool w) place own rest
        (walk_file k f all.0 place front (cut_front (ℕ × MessageView) (numbered ts) (message_index w place) (in_file ts pool k) (in_files ts pool (k + 1) fs) next) (cut_front (ℕ × EnumView) (numbered_enums ts) (enum_index w place) (file_enums ts pool k) (enums_in_files ts pool (k + 1) fs) enums))
        (walk_files (k + 1) (place + length own) fs all.1 (cut_back Declaration w.declared place own rest cut)
        (next_after ts pool w place own (in_file ts pool k) (in_files ts pool (k + 1) fs) front (file_messages k place f) next)
        (enums_after ts pool w place own (file_enums ts pool k) (enums_in_files ts pool (k + 1) fs) front (file_enums_counted k place f) enums))

whole : {X : Type 0} (xs ys : List X) → xs ≡ ys → Cut X xs 0 ys
whole xs ys e = record { before = []; after = []; is = e ∙ sym (append-nil ys); at = refl }

pub placed : (ts : Types) → IsPool ts → (w : World) → IsWorldOf (decls_of ts) w → (place : ℕ) (d : Declaration) → slice_get w.declared place ≡ Some d → Placed ts w place d
placed ts pool w world place d there =
    let all = walk_files ts pool w 0 0 ts.files (all_numbered ts.files 0 ts.files (λ j. let e : j ≡ 0 + j = omega arith in ap (slice_get ts.files) e))
    (whole w.declared (declarations (decls_of ts)) world.declared)
    (whole (numbered ts) (in_files ts pool 0 ts.files) (sym (whole_order ts pool)))
    (whole (numbered_enums ts) (enums_in_files ts pool 0 ts.files) (sym (whole_enums ts pool))) in
    let e : 0 + place ≡ place = omega arith in
    subst (λ n. Placed ts w n d) e (from_get (Placed ts w) 0 (declarations (decls_of ts)) place d all (ap (λ ds. slice_get ds place) (sym world.declared) ∙ there))

-- HOW MANY THERE ARE

length-enumerate : {X : Type 0} (k : ℕ) (xs : List X) → length (enumerate_from k xs) ≡ length xs
length-enumerate k [] = refl
length-enumerate k (x ∷ xs) = ap suc (length-enumerate (k + 1) xs)

pub all_messages : (ts : Types) → IsPool ts → (w : World) → IsWorldOf (decls_of ts) w → count OfMessage w.declared ≡ length ts.messages
all_messages ts pool w world = ap (count OfMessage) world.declared ∙ files_messages ts pool 0 0 ts.files ∙ ap length (whole_order ts pool) ∙ length-enumerate 0 ts.messages

pub all_enums : (ts : Types) → IsPool ts → (w : World) → IsWorldOf (decls_of ts) w → count OfEnum w.declared ≡ length ts.enums
all_enums ts pool w world = ap (count OfEnum) world.declared ∙ files_enums ts pool 0 0 ts.files ∙ ap length (whole_enums ts pool) ∙ length-enumerate 0 ts.enums
