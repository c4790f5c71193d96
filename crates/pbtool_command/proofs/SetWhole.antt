-- The first bytes of a set, one more than may be read, tell what all of them do.
use Rattle.std.proofs.Common.{◌≡◌, ℕ, ◌+◌, List, take, Option, None, Some, refl, ◌∙◌, subst}
use Rattle.std.specs.Prelude.{option_map}
use Rattle.pb_wire.specs.Grammar.{HasFault}
use Rattle.pb_wire.specs.Limits.{full}
use Rattle.pb_schema.specs.Context.{a_message, schema_of}
use Rattle.pb_schema.specs.Types.{Types}
use Rattle.pb_value.specs.Data.{Message}
use Rattle.pb_declarations.specs.Decls.{DeclaredFile}
use Rattle.pb_descr_message.specs.Omitted.{OmittedView}
use Rattle.pb_descr_message.specs.Pool.{descriptor_types, the_set}
use Rattle.pb_descr_message.specs.Sets.{IsSetText}
use Rattle.pb_json.specs.Given.{NamesGiven}
use Rattle.pb_json_names.specs.Names.{AreNamesOf}
use Rattle.pbtool_files.specs.Answer.{Answer}
use Rattle.pbtool_files.specs.SetFile.{HasPool, HasType, IsSetBy, NoPool, NoType, no_file, no_text, no_set, no_links, no_pool, no_name}
use Rattle.pbtool_files.specs.declared.set_file.Reading.{Reading}
use Rattle.pbtool_command.proofs.Judged.{front_whole, fault_whole, none_whole}

set_text_whole : (b : List ℕ) (v : Message) → IsSetText full (take (full.bytes + 1) b) v → IsSetText full b v
set_text_whole b v t = subst (λ (x : List ℕ). IsSetText full x v) (front_whole full.bytes b t.size) t

module _ (reading : Reading) where
  set_whole :
      (b : List ℕ) (files : List DeclaredFile) (omitted : List OmittedView) → IsSetBy reading (take (full.bytes + 1) b) files omitted
      → IsSetBy reading b files omitted
  set_whole b files omitted s =
      record { set = s.set; text = set_text_whole b s.set s.text; silent = s.silent; declared = s.declared; left_out = s.left_out }

  has_pool_whole :
      (b : List ℕ) (pool : Types) (omitted : List OmittedView) → HasPool reading (take (full.bytes + 1) b) pool omitted → HasPool reading b pool omitted
  has_pool_whole b pool omitted h = record { files = h.files; is_set = set_whole b h.files omitted h.is_set; links = h.links }

  has_type_whole : (name b : List ℕ) (pool : Types) (m : ℕ) → HasType reading name (take (full.bytes + 1) b) pool m → HasType reading name b pool m
  has_type_whole name b pool m h = record { omitted = h.omitted; makes = has_pool_whole b pool h.omitted h.makes; named = h.named }

  -- a pool, or a type, of the first bytes of a set is one of the set
  pub pool_at :
      (set : List ℕ) (pool : Types) (omitted : List OmittedView) (o : Option (List ℕ)) → Some set ≡ option_map (take (full.bytes + 1)) o
      → HasPool reading set pool omitted → (b : List ℕ) × (Some b ≡ o) × HasPool reading b pool omitted
  pool_at set pool omitted None e has = absurd (cc)
  pool_at set pool omitted (Some b) e has =
      let front : set ≡ take (full.bytes + 1) b = cc in
      (b, refl, has_pool_whole b pool omitted (subst (λ (x : List ℕ). HasPool reading x pool omitted) front has))

  pub type_at :
      (name set : List ℕ) (pool : Types) (m : ℕ) (o : Option (List ℕ)) → Some set ≡ option_map (take (full.bytes + 1)) o
      → HasType reading name set pool m → (b : List ℕ) × (Some b ≡ o) × HasType reading name b pool m
  type_at name set pool m None e has = absurd (cc)
  type_at name set pool m (Some b) e has =
      let front : set ≡ take (full.bytes + 1) b = cc in
      (b, refl, has_type_whole name b pool m (subst (λ (x : List ℕ). HasType reading name x pool m) front has))

  -- and so are the names that the set gives to fields
  pub named_at :
      (name set : List ℕ) (pool : Types) (m : ℕ) (names : NamesGiven) (o : Option (List ℕ)) → Some set ≡ option_map (take (full.bytes + 1)) o
      → HasType reading name set pool m → AreNamesOf pool set names → (b : List ℕ) × (Some b ≡ o) × HasType reading name b pool m × AreNamesOf pool b names
  named_at name set pool m names None e has are = absurd (cc)
  named_at name set pool m names (Some b) e has are =
      let front : set ≡ take (full.bytes + 1) b = cc in
      let cut : HasType reading name (take (full.bytes + 1) b) pool m = subst (λ (x : List ℕ). HasType reading name x pool m) front has in
      let whole : take (full.bytes + 1) b ≡ b = front_whole full.bytes b cut.makes.is_set.text.size in
      (b, refl, has_type_whole name b pool m cut, subst (λ (x : List ℕ). AreNamesOf pool x names) (front ∙ whole) are)

  pub no_pool_whole :
      (path : List ℕ) (o : Option (List ℕ)) (a : Answer) → NoPool reading path (option_map (take (full.bytes + 1)) o) a → NoPool reading path o a
  no_pool_whole path o a (no_file none e) = no_file (none_whole (full.bytes + 1) o none) e
  no_pool_whole path None a (no_text there h e) = absurd (cc)
  no_pool_whole path (Some b) a (no_text {f = f} there h e) =
      no_text refl (fault_whole (schema_of descriptor_types) (a_message the_set) full b f
      (subst (λ (x : List ℕ). HasFault (schema_of descriptor_types) (a_message the_set) full x f) (cc) h)) e
  no_pool_whole path None a (no_set there t c e) = absurd (cc)
  no_pool_whole path (Some b) a (no_set {set = v} there t c e) =
      no_set refl (set_text_whole b v (subst (λ (x : List ℕ). IsSetText full x v) (cc) t)) c e
  no_pool_whole path None a (no_links there s l e) = absurd (cc)
  no_pool_whole path (Some b) a (no_links {files = files} {omitted = omitted} there s l e) =
      no_links refl (set_whole b files omitted (subst (λ (x : List ℕ). IsSetBy reading x files omitted) (cc) s)) l e

  pub no_type_whole :
      (name path : List ℕ) (o : Option (List ℕ)) (a : Answer) → NoType reading name path (option_map (take (full.bytes + 1)) o) a
      → NoType reading name path o a
  no_type_whole name path o a (no_pool none) = no_pool (no_pool_whole path o a none)
  no_type_whole name path None a (no_name there has n e) = absurd (cc)
  no_type_whole name path (Some b) a (no_name {pool = pool} {omitted = omitted} there has n e) =
      no_name refl (has_pool_whole b pool omitted (subst (λ (x : List ℕ). HasPool reading x pool omitted) (cc) has)) n e
