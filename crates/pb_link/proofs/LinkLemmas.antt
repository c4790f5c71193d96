-- What files of which every rule holds are linked to.
use Rattle.std.proofs.Common.{◌≡◌, List, map, length, sym, ap, ◌∙◌, subst}
use Rattle.std.specs.Prelude.{Result, Ok, Err, IfOk, IfErr, MatchResult}
use Rattle.std.proofs.lemmas.List.{length-map}
use Rattle.pb_schema.specs.Types.{Types}
use Rattle.pb_declarations.specs.Decls.{DeclaredFile}
use Rattle.pb_link_rules.specs.declared.error.LinkError.{LinkError}
use Rattle.pb_link_rules.specs.declared.error.LinkError.TheVariants.{Memory}
use Rattle.pb_link_names.specs.View.{declaration_view, type_names_view}
use Rattle.pb_link_names.specs.declared.declaration.Declaration.{Declaration}
use Rattle.pb_link_names.specs.declared.found.TypeNames.{TypeNames}
use Rattle.pb_link_rules.specs.Faults.{IsUnlinked}
use Rattle.pb_link_rules.specs.Judged.{IsJudged}
use Rattle.pb_link_rules.specs.declared.judged.Judged.{Judged}
use Rattle.pb_link.specs.Linking.{IsLinked, Links}
use Rattle.pb_link.specs.PoolOf.{pool_of}
use Rattle.pb_link_rules.proofs.ExactLemmas.{one_world}

pub links_same : (files : List DeclaredFile) (ts us : Types) → Links files ts → Links files us → ts ≡ us
links_same files ts us one other = one.made ∙ ap (pool_of files) (one_world files one.world other.world one.is_world other.is_world) ∙ sym other.made

-- where making the pool answers it, or want of memory

pub pool_refused : (files : List DeclaredFile) (r : Result Types LinkError) → IfErr r (λ e. e ≡ Memory) → IfErr r (IsUnlinked files)
pool_refused files (Ok ts) memory = tt
pool_refused files (Err e) memory = subst (IsUnlinked files) (sym memory) tt

pub pool_accepted : (files : List DeclaredFile) (r : Result Types LinkError) → IfOk r (Links files) → IfErr r (λ e. e ≡ Memory) → (types : Types) → Links files types → MatchResult r (λ pool. pool ≡ types) (λ e. e ≡ Memory)
pool_accepted files (Ok ts) made memory types links = links_same files ts types made links
pool_accepted files (Err e) made memory types links = memory

-- what is found stands beside the row
pub as_many : {X Y D F : Type 0} (view : X → D) (found_view : Y → F) (f : D → F) (row : List X) (found : List Y) (ds : List D) → map view row ≡ ds → map found_view found ≡ map f ds → length found ≡ length row
as_many view found_view f row found ds declared is = sym (length-map found found_view) ∙ ap length is ∙ length-map ds f ∙ ap length (sym declared) ∙ length-map row view

-- what was judged, in the world of its files
pub judged_linked : (files : List DeclaredFile) (j : Judged) (row : List Declaration) (found : List TypeNames) (is : IsJudged files j) → row ≡ j.row.items → found ≡ j.names.found.items → IsLinked files (map declaration_view row) (map type_names_view found) is.world
judged_linked files j row found is row_is found_is = record {
  is_world = is.is_world;
  holds = is.holds;
  row = sym is.row ∙ ap (map declaration_view) (sym row_is);
  found = ap (map type_names_view) found_is ∙ is.names.of_names.found;
}
