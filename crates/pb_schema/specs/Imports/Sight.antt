-- What is known of the files that a file sees.
use Rattle.std.specs.Prelude.{◌≡◌, ◌↔◌, ℕ, List, length, Bool, true, false, IsTrue, Option, Some, None, option_map, slice_get, Contains}
use Rattle.pb_graphs.specs.Reach.{is_marked, IsListed}
use Rattle.pb_schema.specs.declared.imports.sight.Sight.{Sight}
use Rattle.pb_schema.specs.declared.types.Kind.{Kind}
use Rattle.pb_schema.specs.Types.{FileView, MessageView, EnumView}
use Rattle.pb_schema.specs.Kinds.{message_of_kind, enum_of_kind}
use Rattle.pb_schema.specs.Imports.{imports_of, Reaches}

-- file j is reached from i, or one of its imports where the whole was not walked
abbrev pub IsFound : List FileView → Bool → ℕ → ℕ → Type 0
IsFound files true i j = Reaches files i j
IsFound files false i j = Contains (imports_of files i) j

-- the marks are those of the file that was looked at last
pub record KnowsSight (files : List FileView) (s : Sight) : Type 0 where
  pub size : length s.reach.bits.items ≡ length files
  pub listed : IsListed s.reach
  pub exact : (i j : ℕ) → s.file ≡ Some i → IsTrue (is_marked s.reach j) ↔ IsFound files s.is_whole i j

-- the file of the type that a kind names
abbrev pub file_of_kind : List MessageView → List EnumView → Kind → Option ℕ
file_of_kind ms es k = of_type (message_of_kind k) (enum_of_kind k)
  where
    of_type : Option ℕ → Option ℕ → Option ℕ
    of_type (Some m) e = option_map (λ t. t.file) (slice_get ms m)
    of_type None (Some e) = option_map (λ t. t.file) (slice_get es e)
    of_type None None = None
