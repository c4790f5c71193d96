use Rattle.std.proofs.Common.{◌≡◌, map, take}
use Rattle.pb_schema.specs.View.{file_view}
use Rattle.pb_declarations.specs.View.{file_view as declared_view}
use Rattle.pb_link_names.specs.Sees.{file_of}
use Rattle.pb_link.proofs.pools.files.files_of.Given as goal

abbrev pub invariant-loop-index : goal.invariant-loop-index
invariant-loop-index l = map file_view l.infos.items ≡ map (λ f. file_of (map declared_view l.files) (declared_view f)) (take l.index l.files)
