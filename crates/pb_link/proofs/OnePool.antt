-- Files make one pool, or have one fault.
use Rattle.std.proofs.Common.{◌≡◌, ℕ, zero, suc, ◌<◌, ◌⊎◌, inl, inr, List, [], ◌∷◌, length, Option, Some, None, refl, ◌∙◌, subst, arith}
use Rattle.std.specs.Prelude.{slice_get}
use Rattle.std.proofs.lemmas.List.{length-map}
use Rattle.pb_schema.specs.Types.{Types}
use Rattle.pb_declarations.specs.Decls.{DeclaredFile}
use Rattle.pb_declarations.specs.One.{ExactlyOne}
use Rattle.pb_link_rules.specs.declared.cause.LinkCause.{LinkCause}
use Rattle.pb_link_names.specs.Declarations.{full_name}
use Rattle.pb_link_names.specs.Sees.{file_of}
use Rattle.pb_link_rules.specs.Rules.{World}
use Rattle.pb_link_rules.specs.Link.{IsWorldOf, first_fault}
use Rattle.pb_link.specs.Linking.{Links}
use Rattle.pb_link_rules.specs.Faults.{ToldFault, HasLinkFault}
use Rattle.pb_link.specs.PoolOf.{pool_of}
use Rattle.pb_link_rules.proofs.FirstLemmas.{first_fault-first, first_fault-none}
use Rattle.pb_link_rules.proofs.ExactLemmas.{first_fault-silent, first-told}
use Rattle.pb_link_rules.proofs.ThereLemmas.{has_file}
use Rattle.pb_link_rules.proofs.FaultLemmas.{silent_fault, same_fault}
use Rattle.pb_link.proofs.LinkLemmas.{links_same}
use Rattle.pb_link_rules.proofs.WorldLemmas.{a_world}

-- what stands at an index
found : {A : Type 0} (xs : List A) (i : ℕ) → i < length xs → (x : A) × (slice_get xs i ≡ Some x)
found [] i l = absurd (omega arith)
found (x ∷ xs) zero l = (x, refl)
found (x ∷ xs) (suc i) l = found xs i (omega arith)

module _ (files : List DeclaredFile) where
  -- what the walk over their world tells is the pool, or the fault
  answer : (w : World) → IsWorldOf files w → (o : Option (ℕ × LinkCause)) → first_fault w 0 w.declared ≡ o
      → ((ts : Types) × Links files ts) ⊎ ((f : ToldFault) × HasLinkFault files f)
  answer w world None told = inl (pool_of files w, record { world = w; is_world = world; holds = first_fault-none w told; made = refl })
  answer w world (Some (p, c)) told =
      let first = first_fault-first w p c told in
      let d = first.fails.0 in
      let P : ℕ → Type 0 = λ n. d.file < n in
      let f = found files d.file (subst P (length-map files (file_of files)) (has_file files w world p d first.fails.1)) in
      inr (
        (f.0.name, full_name d, c),
        record {
          world = w;
          is_world = world;
          place = p;
          fails_first = first;
          declaration = d;
          there = first.fails.1;
          named = refl;
          file = f.0;
          in_file = f.1;
          file_named = refl;
        },
      )

  never_both : (ts : Types) (f : ToldFault) → Links files ts → HasLinkFault files f → ⊥
  never_both ts f links fault = silent_fault files links.world f.0 f.1 f.2 links.is_world (first_fault-silent links.world links.holds) fault

  one_told : (f g : ToldFault) → HasLinkFault files f → HasLinkFault files g → f ≡ g
  one_told f g one other =
      let told = first-told files one.world one.is_world one.place f.2 (one.world, one.is_world, one.fails_first) in
      let same = same_fault files one.world one.place f.2 g.2 one.declaration one.file g.0 g.1 one.is_world told one.there one.in_file other in
      λ i. ((one.file_named ∙ same.0) i, (one.named ∙ same.1) i, same.2 i)

  pub one_pool : ExactlyOne (Links files) (HasLinkFault files)
  one_pool =
      let w = a_world files in
      record { either = answer w.0 w.1 (first_fault w.0 0 w.0.declared) refl; not_both = never_both; one_meaning = links_same files; one_fault = one_told }
