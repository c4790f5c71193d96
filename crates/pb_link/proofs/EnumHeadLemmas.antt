-- The declarations of a pool's types declare its enums in their order.
use Rattle.std.proofs.Common.{◌≡◌, ℕ, zero, suc, ◌+◌, List, [], ◌∷◌, ◌++◌, Bool, true, false, ◌&&◌, ◌==◌, cond, map, length, refl, sym, ap, ◌∙◌}
use Rattle.std.specs.Prelude.{filter, filter_map}
use Rattle.std.specs.List.{flat_map, cons_option, enumerate_from}
use Rattle.std.proofs.lemmas.List.{map-append, append_assoc, append-nil}
use Rattle.pb_schema.specs.declared.types.Shape.{Shape}
use Rattle.pb_schema.specs.declared.types.Shape.TheVariants as shape
use Rattle.pb_schema.specs.Types.{FieldView, MessageView, EnumView, FileView, Types}
use Rattle.pb_schema.specs.Rules.{IsPool}
use Rattle.pb_declarations.specs.Decls.{DeclaredEnum, DeclaredMessage, messages_of}
use Rattle.pb_link.specs.ToDecls.{is_parent, is_outermost, messages_in, enums_in, outermost_messages, outermost_enums, declared_enum, declared_message, declared_file, decls_of, entry_of_field}
use Rattle.pb_link.specs.Heads.{enums_in as enums_declared_in, enums_among, declared_enums}
use Rattle.pb_link.proofs.EnumWholeLemmas.{own_enums, outer_enums, enums_under, file_enums, in_files, whole_enums}

abbrev pub declared_one : ℕ × EnumView → DeclaredEnum
declared_one e = declared_enum e.1

-- without their indexes
pub unnumbered : (t : EnumView → Bool) (k : ℕ) (es : List EnumView) → map declared_one (filter (λ e. t e.1) (enumerate_from k es)) ≡ map declared_enum (filter t es)
unnumbered t k [] = refl
unnumbered t k (e ∷ es) = by (t e) (unnumbered t (k + 1) es)
  where
    by : (b : Bool) → map declared_one (filter (λ x. t x.1) (enumerate_from (k + 1) es)) ≡ map declared_enum (filter t es) → map declared_one (cond b ((k, e) ∷ filter (λ x. t x.1) (enumerate_from (k + 1) es)) (filter (λ x. t x.1) (enumerate_from (k + 1) es))) ≡ map declared_enum (cond b (e ∷ filter t es) (filter t es))
    by true rest = ap (λ l. declared_enum e ∷ l) rest
    by false rest = rest

all_unnumbered : (k : ℕ) (es : List EnumView) → map declared_one (enumerate_from k es) ≡ map declared_enum es
all_unnumbered k [] = refl
all_unnumbered k (e ∷ es) = ap (λ l. declared_enum e ∷ l) (all_unnumbered (k + 1) es)

pub among_append : (xs ys : List DeclaredMessage) → enums_among (messages_of (xs ++ ys)) ≡ enums_among (messages_of xs) ++ enums_among (messages_of ys)
among_append [] ys = refl
among_append (x ∷ xs) ys = ap (λ l. enums_declared_in x ++ l) (among_append xs ys) ∙ sym (append_assoc (enums_declared_in x) (enums_among (messages_of xs)) (enums_among (messages_of ys)))

-- entry messages declare none
pub no_enums : (ts : Types) (fs : List FieldView) → enums_among (messages_of (filter_map (entry_of_field ts) fs)) ≡ []
no_enums ts [] = refl
no_enums ts (f ∷ fs) = by f.shape (no_enums ts fs)
  where
    by : (s : Shape) → enums_among (messages_of (filter_map (entry_of_field ts) fs)) ≡ [] → enums_among (messages_of (cons_option (entry_of_field ts (record f { shape = s })) (filter_map (entry_of_field ts) fs))) ≡ []
    by (shape.Map key) rest = rest
    by shape.Implicit rest = rest
    by shape.Explicit rest = rest
    by (shape.OneofMember o) rest = rest
    by (shape.List packed) rest = rest

pub among_map : (g : ℕ × MessageView → DeclaredMessage) (h : ℕ × MessageView → List (ℕ × EnumView)) (ms : List (ℕ × MessageView)) → ((m : ℕ × MessageView) → enums_declared_in (g m) ≡ map declared_one (h m)) → enums_among (messages_of (map g ms)) ≡ map declared_one (flat_map h ms)
among_map g h [] each = refl
among_map g h (m ∷ ms) each =
    ap (λ l. l ++ enums_among (messages_of (map g ms))) (each m) ∙ ap (λ l. map declared_one (h m) ++ l) (among_map g h ms each) ∙ sym (map-append declared_one (h m) (flat_map h ms))

own_declared : (ts : Types) (i : ℕ) → map declared_enum (enums_in ts i) ≡ map declared_one (own_enums ts i)
own_declared ts i = sym (unnumbered (λ e. is_parent i e.parent) 0 ts.enums)

pub declared_under : (ts : Types) (levels : ℕ) (m : ℕ × MessageView) → enums_declared_in (declared_message levels ts m) ≡ map declared_one (enums_under ts levels m)
declared_under ts zero m = own_declared ts m.0
declared_under ts (suc levels) m =
    let nested = map (declared_message levels ts) (messages_in ts m.0) in
    let entries = filter_map (entry_of_field ts) m.1.fields in
    ap (λ l. l ++ map declared_enum (enums_in ts m.0))
    (among_append nested entries
    ∙ ap (λ l. enums_among (messages_of nested) ++ l) (no_enums ts m.1.fields)
    ∙ append-nil (enums_among (messages_of nested))
    ∙ among_map (declared_message levels ts) (enums_under ts levels) (messages_in ts m.0) (declared_under ts levels))
    ∙ ap (λ l. map declared_one (flat_map (enums_under ts levels) (messages_in ts m.0)) ++ l) (own_declared ts m.0)
    ∙ sym (map-append declared_one (flat_map (enums_under ts levels) (messages_in ts m.0)) (own_enums ts m.0))

pub file_declared : (ts : Types) (pool : IsPool ts) (i : ℕ) → enums_among (messages_of (map (declared_message (length ts.messages) ts) (outermost_messages ts i))) ++ map declared_enum (outermost_enums ts i) ≡ map declared_one (file_enums ts pool i)
file_declared ts pool i =
    let n = length ts.messages in
    ap (λ l. l ++ map declared_enum (outermost_enums ts i)) (among_map (declared_message n ts) (enums_under ts n) (outermost_messages ts i) (declared_under ts n))
    ∙ ap (λ l. map declared_one (flat_map (enums_under ts n) (outermost_messages ts i)) ++ l) (sym (unnumbered (λ e. (i == e.file) && is_outermost e.parent) 0 ts.enums))
    ∙ sym (map-append declared_one (flat_map (enums_under ts n) (outermost_messages ts i)) (outer_enums ts i))

files_declared : (ts : Types) (pool : IsPool ts) (k : ℕ) (fs : List FileView) → declared_enums (map (declared_file ts) (enumerate_from k fs)) ≡ map declared_one (in_files ts pool k fs)
files_declared ts pool k [] = refl
files_declared ts pool k (f ∷ fs) =
    ap (λ l. l ++ declared_enums (map (declared_file ts) (enumerate_from (k + 1) fs))) (file_declared ts pool k)
    ∙ ap (λ l. map declared_one (file_enums ts pool k) ++ l) (files_declared ts pool (k + 1) fs)
    ∙ sym (map-append declared_one (file_enums ts pool k) (in_files ts pool (k + 1) fs))

pub enums_in_order : (ts : Types) → IsPool ts → declared_enums (decls_of ts) ≡ map declared_enum ts.enums
enums_in_order ts pool = files_declared ts pool 0 ts.files ∙ ap (map declared_one) (whole_enums ts pool) ∙ all_unnumbered 0 ts.enums
