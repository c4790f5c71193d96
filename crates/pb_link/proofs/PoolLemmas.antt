-- Linked declarations are a pool.
use Rattle.std.proofs.Common.{List}
use Rattle.pb_schema.specs.Rules.{FileRules, FieldRules}
use Rattle.pb_declarations.specs.Decls.{DeclaredFile}
use Rattle.pb_link_names.specs.Sees.{files_of}
use Rattle.pb_link_rules.specs.Rules.{World}
use Rattle.pb_link_rules.specs.Link.{NothingFails, IsWorldOf}
use Rattle.pb_link.specs.PoolOf.{pool_of}
use Rattle.pb_link.specs.Law.{LinkedIsPool}
use Rattle.pb_link.proofs.FileLemmas.{files_named, packages_named, imports_few, imports_there, no_cycle}
use Rattle.pb_link.proofs.FieldLemmas.{enums_begin, numbers_right, packed_right}
use Rattle.pb_link.proofs.MemberLemmas.{file_names_differ, numbers_differ, implicit_right}
use Rattle.pb_link.proofs.KindLemmas.{types_seen, keys_right}
use Rattle.pb_link.proofs.SyntaxLemmas.{values_right, syntax_fields, syntax_enums}
use Rattle.pb_link.proofs.OneofLemmas.{oneofs_have_members}
use Rattle.pb_link.proofs.WordLemmas.{message_words, enum_words}
use Rattle.pb_link.proofs.IndexLemmas.{index_rules}
use Rattle.pb_link.proofs.OrderLemmas.{messages_rise}
use Rattle.pb_link.proofs.NameLemmas.{names_differ, packages_free}
use Rattle.pb_link.proofs.FollowLemmas.{follow, enums_in_order}

pub file_rules : (files : List DeclaredFile) (w : World) → IsWorldOf files w → NothingFails w → FileRules (files_of files)
file_rules files w world nothing = record {
  named = files_named files w world nothing;
  names_differ = file_names_differ files w world nothing;
  packages = packages_named files w world nothing;
  few_imports = imports_few files w world nothing;
  imports_name_files = imports_there files;
  no_cycle = no_cycle files w world nothing;
}

pub field_rules : (files : List DeclaredFile) (w : World) → IsWorldOf files w → NothingFails w → FieldRules (pool_of files w)
field_rules files w world nothing = record {
  numbers_differ = numbers_differ files w world nothing;
  types_seen = types_seen files w world nothing;
  oneofs = oneofs_have_members files w world nothing;
  shapes = record {
    numbers = numbers_right files w world nothing;
    keys = keys_right files w world nothing;
    packed = packed_right files w world nothing;
    implicit = implicit_right files w world nothing;
    values = values_right files w world nothing;
  };
}

pub linked_pool : LinkedIsPool
linked_pool files w world nothing = record {
  files = file_rules files w world nothing;
  indexes = index_rules files w world nothing;
  messages_in_order = (messages_rise files w world, follow files w world nothing);
  enums_in_order = enums_in_order files w world nothing;
  names = record { message_words = message_words files w world nothing; enum_words = enum_words files w world nothing; names_differ = names_differ files w world nothing; packages_free = packages_free files w world nothing };
  fields = field_rules files w world nothing;
  syntax = record { fields = syntax_fields files w world nothing; enums = syntax_enums files w world nothing; first_values = enums_begin files w world nothing };
}
