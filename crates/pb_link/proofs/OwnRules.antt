-- The rules that rest on no other declaration than the message or the enum around one, whatever file it stands in: numbers, what is reserved,
-- the members of oneofs, packed lists and ranges.
use Rattle.std.specs.Prelude.{◌≡◌, ℕ, true}
use Rattle.pb_link_rules.specs.declared.cause.LinkCause.TheVariants as cause
use Rattle.pb_link_names.specs.Declarations.{Declaration}
use Rattle.pb_link_rules.specs.Rules.{World}
use Rattle.pb_link_names.specs.MarkRules.{is_oneof_right}
use Rattle.pb_link_rules.specs.Link.{holds}

pub record MeetsOwnRules (w : World) (place : ℕ) (d : Declaration) : Type 0 where
  pub number : holds w place d cause.BadNumber ≡ true
  pub number_is_free : holds w place d cause.NumberTaken ≡ true
  pub not_reserved : holds w place d cause.Reserved ≡ true
  pub oneof : is_oneof_right d.item ≡ true
  pub packed : holds w place d cause.BadPacked ≡ true
  pub ranges : holds w place d cause.BadRange ≡ true
