-- The declarations of a pool's types link.
use Rattle.std.proofs.Common.{◌≡◌, ℕ, true, sym, ◌∙◌, Some}
use Rattle.std.specs.Prelude.{slice_get}
use Rattle.std.proofs.lemmas.Bool.{false≢true}
use Rattle.pb_schema.specs.Types.{Types}
use Rattle.pb_schema.specs.Rules.{IsPool}
use Rattle.pb_link_rules.specs.declared.cause.LinkCause.{LinkCause}
use Rattle.pb_link_rules.specs.declared.cause.LinkCause.TheVariants as cause
use Rattle.pb_link_names.specs.Declarations.{Declaration}
use Rattle.pb_link_rules.specs.Rules.{World}
use Rattle.pb_link_rules.specs.Link.{IsWorldOf, NothingFails, holds}
use Rattle.pb_link.proofs.OwnRules.{MeetsOwnRules}
use Rattle.pb_link.specs.ToDecls.{decls_of}
use Rattle.pb_link.proofs.DeclaredImportLemmas.{two_files, missing_import, import_cycle}
use Rattle.pb_link.proofs.DeclaredRulesLemmas.{own_rules}
use Rattle.pb_link.proofs.FromLemmas.{IsFrom}
use Rattle.pb_link.proofs.InMessageLemmas.{from_at}
use Rattle.pb_link.proofs.TypeCaseLemmas.{MeetsTypeRules}
use Rattle.pb_link.proofs.TypeRuleLemmas.{type_rules}
use Rattle.pb_link.proofs.SyntaxRuleLemmas.{oneof_right, first_value, open_right}
use Rattle.pb_link.proofs.EntryUseLemmas.{map_right}
use Rattle.pb_link.proofs.NameRuleLemmas.{name_right, name_free}

module _ (ts : Types) (pool : IsPool ts) (w : World) (world : IsWorldOf (decls_of ts) w) where
  each_rule : (place : ℕ) (d : Declaration) → slice_get w.declared place ≡ Some d → IsFrom ts d → MeetsOwnRules w place d → MeetsTypeRules w place d → (c : LinkCause) → holds w place d c ≡ true
  each_rule place d at from own type cause.TwoFiles = two_files ts pool w world place d at
  each_rule place d at from own type cause.MissingImport = missing_import ts pool w world place d at
  each_rule place d at from own type cause.ImportCycle = import_cycle ts pool w world place d at
  each_rule place d at from own type cause.BadName = name_right ts pool d from
  each_rule place d at from own type cause.NameTaken = name_free ts pool w world place d at
  each_rule place d at from own type cause.NotFound = type.is_found
  each_rule place d at from own type cause.NotVisible = type.visible
  each_rule place d at from own type cause.NotAType = type.a_type
  each_rule place d at from own type cause.BadNumber = own.number
  each_rule place d at from own type cause.NumberTaken = own.number_is_free
  each_rule place d at from own type cause.Reserved = own.not_reserved
  each_rule place d at from own type cause.BadOneof = oneof_right ts pool w world place d from own.oneof
  each_rule place d at from own type cause.BadMap = map_right ts pool w world place d at from
  each_rule place d at from own type cause.BadPacked = own.packed
  each_rule place d at from own type cause.BadEnum = first_value ts pool w world place d from
  each_rule place d at from own type cause.KindMismatch = type.kind
  each_rule place d at from own type cause.BadRange = own.ranges
  each_rule place d at from own type cause.ClosedEnum = open_right ts pool w world place d from

  -- no rule fails
  pub nothing_fails : NothingFails w
  nothing_fails place c fails =
      let d = fails.0 in
      let at = fails.1 in
      let from = from_at ts pool w world place d at in
      false≢true (sym fails.2 ∙ each_rule place d at from (own_rules ts pool w world place d at) (type_rules ts pool w world place d from) c)
