-- Which files a row of declarations names: no message and no enum names one, so those of whole files are their names.
use Rattle.std.proofs.Common.{◌≡◌, ℕ, ◌+◌, List, [], ◌∷◌, ◌++◌, Bool, true, false, ◌||◌, map, length, refl, ap, ◌∙◌}
use Rattle.std.specs.List.{list_any, enumerate_from}
use Rattle.std.specs.Str.{bytes_eq}
use Rattle.pb_schema.specs.Types.{FileView, Types}
use Rattle.pb_declarations.specs.Decls.{messages_of}
use Rattle.pb_link_names.specs.Declarations.{Declaration, enums_declared, messages_declared, file_declared, files_declared}
use Rattle.pb_link_names.proofs.NameSetsLemmas.{any_append}
use Rattle.pb_link_rules.proofs.FileRowLemmas.{NamesFile, none_append, no_file_enums, no_file_messages}
use Rattle.pb_link.specs.ToDecls.{outermost_messages, outermost_enums, declared_enum, declared_message, declared_file}

module _ (ts : Types) where
  -- what comes after a file
  abbrev pub Behind : ℕ → ℕ → ℕ → FileView → List Declaration
  Behind file place i f =
      let messages : List Declaration = messages_declared file place f.package_name (place + 1) (messages_of (map (declared_message (length ts.messages) ts) (outermost_messages ts i))) in
      (messages ++ enums_declared file place f.package_name (place + 1 + length messages) (map declared_enum (outermost_enums ts i))) ++ []

  pub no_file_behind : (n : List ℕ) (file place i : ℕ) (f : FileView) → list_any (NamesFile n) (Behind file place i f) ≡ false
  no_file_behind n file place i f =
      let ms = messages_of (map (declared_message (length ts.messages) ts) (outermost_messages ts i)) in
      let messages = messages_declared file place f.package_name (place + 1) ms in
      let es = map declared_enum (outermost_enums ts i) in
      let enums = enums_declared file place f.package_name (place + 1 + length messages) es in
      none_append (NamesFile n) (messages ++ enums) []
      (none_append (NamesFile n) messages enums (no_file_messages n file place f.package_name (place + 1) ms) (no_file_enums n file place f.package_name (place + 1 + length messages) es))
      refl

  pub one_file : (n : List ℕ) (file place i : ℕ) (f : FileView) → list_any (NamesFile n) (file_declared file place (declared_file ts (i, f))) ≡ bytes_eq n f.name
  one_file n file place i f = ap (λ b. bytes_eq n f.name || b) (no_file_behind n file place i f) ∙ or_false (bytes_eq n f.name)
    where
      or_false : (b : Bool) → (b || false) ≡ b
      or_false true = refl
      or_false false = refl

  pub all_files : (n : List ℕ) (file place k : ℕ) (fs : List FileView) → list_any (NamesFile n) (files_declared file place (map (declared_file ts) (enumerate_from k fs))) ≡ list_any (bytes_eq n) (map (λ f. f.name) fs)
  all_files n file place k [] = refl
  all_files n file place k (f ∷ fs) =
      let own = file_declared file place (declared_file ts (k, f)) in
      let rest = files_declared (file + 1) (place + length own) (map (declared_file ts) (enumerate_from (k + 1) fs)) in
      any_append (NamesFile n) own rest
      ∙ ap (λ b. b || list_any (NamesFile n) rest) (one_file n file place k f)
      ∙ ap (λ b. bytes_eq n f.name || b) (all_files n (file + 1) (place + length own) (k + 1) fs)
