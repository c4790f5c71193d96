-- What statements say, one after another.
use Rattle.std.proofs.Common.{◌≡◌, List, [], ◌∷◌, ◌++◌, map, refl, ap, sym, ◌∙◌, append-nil, append_assoc, ℕ, Bool, false, string_bytes, Option, Some, None, option_map, option_to_list}
use Rattle.std.proofs.lemmas.List.{map-append}
use Rattle.pb_declarations.specs.Decls.{DeclaredEnum}
use Rattle.pb_declarations.specs.View.{enum_view, numbered_view}
use Rattle.pb_declarations.specs.declared.decl.EnumDecl.{EnumDecl}
use Rattle.pb_source.specs.Meaning.{EnumStatement, those_said, all_said, alias_from, values_said, enum_ranges_said, enum_names_said, enum_of}

those_said-push : {A : Type 0} (xs : List (Option A)) (x : Option A) → those_said (xs ++ x ∷ []) ≡ those_said xs ++ option_to_list x
those_said-push [] None = refl
those_said-push [] (Some x) = refl
those_said-push (None ∷ xs) x = those_said-push xs x
those_said-push (Some y ∷ xs) x = ap (λ ys. y ∷ ys) (those_said-push xs x)

said_view : {X A : Type 0} (view : X → A) (said : Option X) → map view (option_to_list said) ≡ option_to_list (option_map view said)
said_view view None = refl
said_view view (Some x) = refl

pub said_more : {X A : Type 0} (view : X → A) (items : List X) (front : List (Option A)) (said : Option X) (after : List X) → map view items ≡ those_said front → after ≡ items ++ option_to_list said
    → map view after ≡ those_said (front ++ option_map view said ∷ [])
said_more view items front said after h k =
    ap (map view) k ∙ map-append view items (option_to_list said) ∙ ap (λ x. x ++ map view (option_to_list said)) h ∙ ap (λ x. those_said front ++ x) (said_view view said)
    ∙ sym (those_said-push front (option_map view said))

pub all_said-push : {S A : Type 0} (f : S → List A) (ss : List S) (s : S) → all_said f (ss ++ s ∷ []) ≡ all_said f ss ++ f s
all_said-push f [] s = append-nil (f s)
all_said-push f (t ∷ ss) s = ap (λ xs. f t ++ xs) (all_said-push f ss s) ∙ sym (append_assoc (f t) (all_said f ss) (f s))

alias_from-push : (now : Bool) (ss : List EnumStatement) (s : EnumStatement) → alias_from now (ss ++ s ∷ []) ≡ alias_from (alias_from now ss) (s ∷ [])
alias_from-push now [] s = refl
alias_from-push now (EnumStatement.nothing_said ∷ ss) s = alias_from-push now ss s
alias_from-push now (EnumStatement.allows_alias b ∷ ss) s = alias_from-push b ss s
alias_from-push now (EnumStatement.a_value name n ∷ ss) s = alias_from-push now ss s
alias_from-push now (EnumStatement.reserved_ranges rs ∷ ss) s = alias_from-push now ss s
alias_from-push now (EnumStatement.reserved_names ns ∷ ss) s = alias_from-push now ss s

-- an enum's parts grow by what a statement says
pub enum_more :
    (old : DeclaredEnum) (name : List ℕ) (ss : List EnumStatement) (s : EnumStatement) → old ≡ enum_of name ss
    → ◌≡◌ {A = DeclaredEnum}
    (record {
      name = old.name;
      values = old.values ++ values_said s;
      allows_alias = alias_from old.allows_alias (s ∷ []);
      reserved = old.reserved ++ enum_ranges_said s;
      reserved_names = old.reserved_names ++ enum_names_said s;
    })
    (enum_of name (ss ++ s ∷ []))
enum_more old name ss s h =
    rw (h, all_said-push values_said ss s, all_said-push enum_ranges_said ss s, all_said-push enum_names_said ss s, alias_from-push false ss s) refl

pub enum_changed :
    (old new : EnumDecl) (name : List ℕ) (ss : List EnumStatement) (s : EnumStatement) → enum_view old ≡ enum_of name ss → string_bytes new.name ≡ string_bytes old.name
    → map numbered_view new.values.items ≡ map numbered_view old.values.items ++ values_said s → new.allow_alias ≡ alias_from old.allow_alias (s ∷ [])
    → new.reserved.items ≡ old.reserved.items ++ enum_ranges_said s → map string_bytes new.reserved_names.items ≡ map string_bytes old.reserved_names.items ++ enum_names_said s
    → enum_view new ≡ enum_of name (ss ++ s ∷ [])
enum_changed old new name ss s h n v a r w = rw (n, v, a, r, w) (enum_more (enum_view old) name ss s h)
