use Rattle.std.proofs.Common.{◌≡◌, ◌≤◌, length, map, drop, reverse}
use Rattle.pb_declarations.specs.View.{file_view}
use Rattle.pb_link.specs.ToDecls.{numbered, decls_of}
use Rattle.pb_link.specs.Nested.{inside_file, AreInside}
use Rattle.pb_link.proofs.declaring.pool_decls.Given as goal

abbrev pub invariant-loop-inside : goal.invariant-loop-inside
invariant-loop-inside l = record {
  within : length l.places.items ≤ length l.pool.files;
  places : AreInside (length l.places.items) (inside_file l.pool (numbered l.pool) l.pool.enums) l.places.items;
  made : map file_view l.decls.items ≡ reverse (drop (length l.places.items) (decls_of l.pool));
}

abbrev pub decreases-loop-inside : goal.decreases-loop-inside
decreases-loop-inside l = length l.places.items
