-- What the whole call answers, by what the text is read as.
use Rattle.std.proofs.Common.{◌≡◌, ℕ, List, Result, Ok, Err, IfOk, IfErr, inl, inr, refl, sym, ap, ◌∙◌, subst}
use Rattle.std.specs.Prelude.{◌⊎◌, MatchResult, IsErrAnd, IsSomeAnd, Option, None, Some}
use Rattle.pb_schema.specs.Types.{Types}
use Rattle.pb_value.specs.Data.{Message}
use Rattle.pb_value.specs.Dynamic.{Dynamic}
use Rattle.pb_value.specs.WellFormed.{IsWellFormed}
use Rattle.pb_json.specs.Given.{NamesGiven}
use Rattle.pb_json.specs.Refusals.{Refused, refused}
use Rattle.pb_json_text.specs.Json.{Placed}
use Rattle.pb_json_text.specs.Texts.{IsJson, HasFault}
use Rattle.pb_json_text.specs.Fault as text
use Rattle.pb_json_text.specs.View.{form_view, value_view}
use Rattle.pb_json_text.proofs.ViewLemmas.{value_view-parts}
use Rattle.pb_json_text.specs.declared.fault.JsonCause.{JsonCause}
use Rattle.pb_json_text.specs.declared.fault.JsonFault.{JsonFault}
use Rattle.pb_json_text.specs.declared.value.JsonValue.{JsonValue}
use Rattle.pb_json_read.specs.declared.error.JsonReadError.{JsonReadError}
use Rattle.pb_json_read.specs.declared.rules.JsonRules.{JsonRules}
use Rattle.pb_json_read.specs.Answers.{HasForm, IsReadBy, IsRefusedBy, IsUnfit}
use Rattle.pb_json_read.specs.Faults.{cause_of_form, fault, fault_of, out_of_memory}
use Rattle.pb_json_read.specs.Reads.{ReadsMessage}
use Rattle.pb_json_read.proofs.UniqueReads.{message_one}

-- each value of the bytes is what the reader of texts answers, and each fault too
abbrev pub Accepts : List ℕ → Result JsonValue JsonFault → Type 0
Accepts b r = (v : Placed) → IsJson v b → MatchResult r (λ w. value_view w ≡ v) (λ e. e ≡ text.out_of_memory)

abbrev pub Refuses : List ℕ → Result JsonValue JsonFault → Type 0
Refuses b r = (n : ℕ) (c : JsonCause) → HasFault c b n → IsErrAnd r (λ e. (e ≡ text.out_of_memory) ⊎ (e ≡ text.fault n c))

abbrev Same : (r s : Result Message JsonReadError) → Type 0
Same r s = r ≡ s

ok_err : (x : Message) (e : JsonReadError) → Same (Ok x) (Err e) → ⊥
ok_err x e same = cc

ok_ok : (x y : Message) → Same (Ok x) (Ok y) → x ≡ y
ok_ok x y same = cc

err_err : (e f : JsonReadError) → Same (Err e) (Err f) → e ≡ f
err_err e f same = cc

-- ---- what has no JSON form, or nests too deep

fit_or_not : (pool : Types) (m at : ℕ) (v : Message) (e : JsonReadError) → IsWellFormed pool m v → HasForm pool m v → IsUnfit pool m at v e → ⊥
fit_or_not pool m at v e well form (inl (ill, k)) = ill well
fit_or_not pool m at v e well form (inr (also, some)) =
    subst (λ (o : Option Refused). IsSomeAnd o (λ r. e ≡ fault at (cause_of_form r.cause))) form some

one_cause : (at : ℕ) (e f : JsonReadError) (o : Option Refused) → IsSomeAnd o (λ r. e ≡ fault at (cause_of_form r.cause))
    → IsSomeAnd o (λ r. f ≡ fault at (cause_of_form r.cause)) → e ≡ f
one_cause at e f None h k = absurd h
one_cause at e f (Some r) h k = h ∙ sym k

unfit_one : (pool : Types) (m at : ℕ) (v : Message) (e f : JsonReadError) → IsUnfit pool m at v e → IsUnfit pool m at v f → e ≡ f
unfit_one pool m at v e f (inl (ill, k)) (inl (also, l)) = k ∙ sym l
unfit_one pool m at v e f (inl (ill, k)) (inr (well, some)) = absurd (ill well)
unfit_one pool m at v e f (inr (well, some)) (inl (ill, l)) = absurd (ill well)
unfit_one pool m at v e f (inr (well, some)) (inr (also, other)) = one_cause at e f (refused (record { pool = pool; kind = m; body = v })) some other

module _ (pool : Types) (rules : JsonRules) (names : NamesGiven) (m : ℕ) (b : List ℕ) where
  -- ---- the bytes are no JSON text

  pub no_text_fault : (e : JsonFault) → (e ≡ text.out_of_memory) ⊎ HasFault e.cause b e.byte → (fault_of e ≡ out_of_memory) ⊎ IsRefusedBy pool rules names m b (fault_of e)
  no_text_fault e (inl same) = inl (ap fault_of same)
  no_text_fault e (inr has) = inr (inl (e.byte, e.cause, has, refl))

  pub no_text_accepted : (e : JsonFault) → Accepts b (Err e) → (v : Message) → IsReadBy pool rules names m b v → fault_of e ≡ out_of_memory
  no_text_accepted e accepts v (j, is, reads, well, form) = ap fault_of (accepts j is)

  pub no_text_refused : (e : JsonFault) → Accepts b (Err e) → Refuses b (Err e) → (f : JsonReadError) → IsRefusedBy pool rules names m b f
      → (fault_of e ≡ out_of_memory) ⊎ (fault_of e ≡ f)
  no_text_refused e accepts refuses f (inl (n, c, has, is)) = by (refuses n c has)
    where
      by : (e ≡ text.out_of_memory) ⊎ (e ≡ text.fault n c) → (fault_of e ≡ out_of_memory) ⊎ (fault_of e ≡ f)
      by (inl same) = inl (ap fault_of same)
      by (inr same) = inr (ap fault_of same ∙ sym is)
  no_text_refused e accepts refuses f (inr (j, is, has)) = inl (ap fault_of (accepts j is))

  -- ---- the bytes are a text of this value
  module _ (w : JsonValue) (accepts : Accepts b (Ok w)) (refuses : Refuses b (Ok w)) (is : IsJson (value_view w) b) where
    pub read_fault : (e : JsonReadError) → (e ≡ out_of_memory) ⊎ ReadsMessage pool rules names m (value_view w).0 (value_view w).1 (Err e)
        → (e ≡ out_of_memory) ⊎ IsRefusedBy pool rules names m b e
    read_fault e (inl same) = inl same
    read_fault e (inr reads) = inr (inr (value_view w, is, inl reads))

    same_read : (j : Placed) → IsJson j b → (o : Result Message JsonReadError) → ReadsMessage pool rules names m j.0 j.1 o
        → ReadsMessage pool rules names m (value_view w).0 (value_view w).1 o
    same_read j also o reads = subst (λ (p : Placed). ReadsMessage pool rules names m p.0 p.1 o) (sym (accepts j also)) reads

    pub fault_accepted : (e : JsonReadError) → (e ≡ out_of_memory) ⊎ ReadsMessage pool rules names m (value_view w).0 (value_view w).1 (Err e)
        → (v : Message) → IsReadBy pool rules names m b v → e ≡ out_of_memory
    fault_accepted e (inl same) v read = same
    fault_accepted e (inr reads) v (j, also, other, well, form) =
        absurd (ok_err v e (message_one pool rules names m (value_view w).0 (value_view w).1 (Ok v) (Err e) (same_read j also (Ok v) other) reads))

    pub fault_refused : (e : JsonReadError) → (e ≡ out_of_memory) ⊎ ReadsMessage pool rules names m (value_view w).0 (value_view w).1 (Err e)
        → (f : JsonReadError) → IsRefusedBy pool rules names m b f → (e ≡ out_of_memory) ⊎ (e ≡ f)
    fault_refused e (inl same) f has = inl same
    fault_refused e (inr reads) f (inl (n, c, has, k)) = absurd (refuses n c has)
    fault_refused e (inr reads) f (inr (j, also, inl other)) =
        inr (err_err e f (message_one pool rules names m (value_view w).0 (value_view w).1 (Err e) (Err f) reads (same_read j also (Err f) other)))
    fault_refused e (inr reads) f (inr (j, also, inr (v, other, unfit))) =
        absurd (ok_err v e (message_one pool rules names m (value_view w).0 (value_view w).1 (Ok v) (Err e) (same_read j also (Ok v) other) reads))

    module _ (body : Message) (reads : ReadsMessage pool rules names m (value_view w).0 (value_view w).1 (Ok body)) where
      same_body : (j : Placed) → IsJson j b → (v : Message) → ReadsMessage pool rules names m j.0 j.1 (Ok v) → v ≡ body
      same_body j also v other =
          ok_ok v body (message_one pool rules names m (value_view w).0 (value_view w).1 (Ok v) (Ok body) (same_read j also (Ok v) other) reads)

      no_fault : (j : Placed) → IsJson j b → (e : JsonReadError) → ReadsMessage pool rules names m j.0 j.1 (Err e) → ⊥
      no_fault j also e other =
          ok_err body e (message_one pool rules names m (value_view w).0 (value_view w).1 (Ok body) (Err e) reads (same_read j also (Err e) other))

      pub done_read : IsWellFormed pool m body → HasForm pool m body → IsReadBy pool rules names m b body
      done_read well form = (value_view w, is, reads, well, form)

      pub done_same : (v : Message) → IsReadBy pool rules names m b v → body ≡ v
      done_same v (j, also, other, well, form) = sym (same_body j also v other)

      -- what the other reading is refused with, at this value
      same_unfit : (j : Placed) → IsJson j b → (v : Message) → ReadsMessage pool rules names m j.0 j.1 (Ok v) → (f : JsonReadError) → IsUnfit pool m j.0 v f
          → IsUnfit pool m (value_view w).0 body f
      same_unfit j also v other f unfit =
          subst (λ (x : Message). IsUnfit pool m (value_view w).0 x f) (same_body j also v other)
          (subst (λ (p : Placed). IsUnfit pool m p.0 v f) (sym (accepts j also)) unfit)

      pub done_refused : IsWellFormed pool m body → HasForm pool m body → (f : JsonReadError) → IsRefusedBy pool rules names m b f → ⊥
      done_refused well form f (inl (n, c, has, k)) = refuses n c has
      done_refused well form f (inr (j, also, inl other)) = no_fault j also f other
      done_refused well form f (inr (j, also, inr (v, other, unfit))) = fit_or_not pool m (value_view w).0 body f well form (same_unfit j also v other f unfit)

      -- a message that nests too deep or has no JSON form, or memory ran out
      abbrev pub MayBeUnfit : JsonReadError → Type 0
      MayBeUnfit e = (e ≡ out_of_memory) ⊎ IsUnfit pool m (value_view w).0 body e

      pub unfit_fault : (e : JsonReadError) → MayBeUnfit e → (e ≡ out_of_memory) ⊎ IsRefusedBy pool rules names m b e
      unfit_fault e (inl same) = inl same
      unfit_fault e (inr unfit) = inr (inr (value_view w, is, inr (body, reads, unfit)))

      pub unfit_accepted : (e : JsonReadError) → MayBeUnfit e → (v : Message) → IsReadBy pool rules names m b v → e ≡ out_of_memory
      unfit_accepted e (inl same) v read = same
      unfit_accepted e (inr unfit) v (j, also, other, well, form) =
          absurd (fit_or_not pool m (value_view w).0 body e (subst (λ (x : Message). IsWellFormed pool m x) (same_body j also v other) well)
          (subst (λ (x : Message). HasForm pool m x) (same_body j also v other) form) unfit)

      pub unfit_refused : (e : JsonReadError) → MayBeUnfit e → (f : JsonReadError) → IsRefusedBy pool rules names m b f → (e ≡ out_of_memory) ⊎ (e ≡ f)
      unfit_refused e (inl same) f has = inl same
      unfit_refused e (inr unfit) f (inl (n, c, has, k)) = absurd (refuses n c has)
      unfit_refused e (inr unfit) f (inr (j, also, inl other)) = absurd (no_fault j also f other)
      unfit_refused e (inr unfit) f (inr (j, also, inr (v, other, also_unfit))) =
          inr (unfit_one pool m (value_view w).0 body e f unfit (same_unfit j also v other f also_unfit))

-- as the functions say where a value is
pub at_value : {C : Type 0} (pool : Types) (rules : JsonRules) (names : NamesGiven) (m : ℕ) (w : JsonValue) (o : Result Message JsonReadError) → C ⊎ ReadsMessage pool rules names m w.at (form_view w.form) o
    → C ⊎ ReadsMessage pool rules names m (value_view w).0 (value_view w).1 o
at_value pool rules names m w o (inl c) = inl c
at_value pool rules names m w o (inr h) = inr (subst (λ (p : Placed). ReadsMessage pool rules names m p.0 p.1 o) (sym (value_view-parts w)) h)

module _ (pool : Types) (rules : JsonRules) (names : NamesGiven) (m : ℕ) (b : List ℕ) (w : JsonValue) (accepts : Accepts b (Ok w)) (refuses : Refuses b (Ok w)) (is : IsJson (value_view w) b)
    (body : Message) (reads : ReadsMessage pool rules names m w.at (form_view w.form) (Ok body)) where
  here : ReadsMessage pool rules names m (value_view w).0 (value_view w).1 (Ok body)
  here = subst (λ (p : Placed). ReadsMessage pool rules names m p.0 p.1 (Ok body)) (sym (value_view-parts w)) reads

  abbrev Unfit : JsonReadError → Type 0
  Unfit e = (e ≡ out_of_memory) ⊎ IsUnfit pool m w.at body e

  unfit_here : (e : JsonReadError) → Unfit e → (e ≡ out_of_memory) ⊎ IsUnfit pool m (value_view w).0 body e
  unfit_here e (inl same) = inl same
  unfit_here e (inr unfit) = inr (subst (λ (p : Placed). IsUnfit pool m p.0 body e) (sym (value_view-parts w)) unfit)

  abbrev Made : Result Dynamic JsonReadError → Type 0
  Made r = IfOk r (λ d. d ≡ record { pool = pool; kind = m; body = body })

  abbrev Well : Result Dynamic JsonReadError → Type 0
  Well r = IfOk r (λ d. IsWellFormed pool m body)

  abbrev Formed : Result Dynamic JsonReadError → Type 0
  Formed r = IfOk r (λ d. HasForm pool m body)

  pub all_read : (r : Result Dynamic JsonReadError) → Made r → Well r → Formed r → IfOk r (λ d. IsReadBy pool rules names m b d.body)
  all_read (Ok d) made well form =
      subst (λ (x : Message). IsReadBy pool rules names m b x) (sym (ap (λ (x : Dynamic). x.body) made)) (done_read pool rules names m b w accepts refuses is body here well form)
  all_read (Err e) made well form = tt

  pub all_fault : (r : Result Dynamic JsonReadError) → IfErr r Unfit → IfErr r (λ e. (e ≡ out_of_memory) ⊎ IsRefusedBy pool rules names m b e)
  all_fault (Ok d) h = tt
  all_fault (Err e) h = unfit_fault pool rules names m b w accepts refuses is body here e (unfit_here e h)

  pub all_accepted : (r : Result Dynamic JsonReadError) → Made r → IfErr r Unfit → (v : Message) → IsReadBy pool rules names m b v
      → MatchResult r (λ d. d.body ≡ v) (λ e. e ≡ out_of_memory)
  all_accepted (Ok d) made h v read = ap (λ (x : Dynamic). x.body) made ∙ done_same pool rules names m b w accepts refuses is body here v read
  all_accepted (Err e) made h v read = unfit_accepted pool rules names m b w accepts refuses is body here e (unfit_here e h) v read

  pub all_refused : (r : Result Dynamic JsonReadError) → Well r → Formed r → IfErr r Unfit → (f : JsonReadError) → IsRefusedBy pool rules names m b f
      → IsErrAnd r (λ e. (e ≡ out_of_memory) ⊎ (e ≡ f))
  all_refused (Ok d) well form h f has = absurd (done_refused pool rules names m b w accepts refuses is body here well form f has)
  all_refused (Err e) well form h f has = unfit_refused pool rules names m b w accepts refuses is body here e (unfit_here e h) f has
