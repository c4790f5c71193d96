-- The declarations of a pool's types declare its messages in their order.
use Rattle.std.proofs.Common.{◌≡◌, ℕ, zero, suc, ◌+◌, List, [], ◌∷◌, ◌++◌, map, length, refl, sym, ap, ◌∙◌}
use Rattle.std.specs.Prelude.{filter_map}
use Rattle.std.specs.List.{flat_map, cons_option, enumerate_from}
use Rattle.std.proofs.lemmas.List.{map-append, append_assoc, append-nil}
use Rattle.pb_schema.specs.declared.types.Shape.{Shape}
use Rattle.pb_schema.specs.declared.types.Shape.TheVariants as shape
use Rattle.pb_schema.specs.Types.{FieldView, MessageView, FileView, Types}
use Rattle.pb_schema.specs.Rules.{IsPool}
use Rattle.pb_declarations.specs.Decls.{MessageHead, DeclaredMessage, messages_of}
use Rattle.pb_link.specs.ToDecls.{numbered, messages_in, outermost_messages, declared_head, declared_message, declared_file, decls_of, entry_of_field}
use Rattle.pb_link.specs.Heads.{heads_in, heads_among, declared_heads}
use Rattle.pb_link.proofs.FlatLemmas.{under}
use Rattle.pb_link.proofs.WholeLemmas.{in_file, in_files, whole_order}

abbrev head_of : Types → ℕ × MessageView → MessageHead
head_of ts m = declared_head ts m.0 m.1

among_append : (xs ys : List DeclaredMessage) → heads_among (messages_of (xs ++ ys)) ≡ heads_among (messages_of xs) ++ heads_among (messages_of ys)
among_append [] ys = refl
among_append (x ∷ xs) ys = ap (λ l. heads_in x ++ l) (among_append xs ys) ∙ sym (append_assoc (heads_in x) (heads_among (messages_of xs)) (heads_among (messages_of ys)))

no_heads : (ts : Types) (fs : List FieldView) → heads_among (messages_of (filter_map (entry_of_field ts) fs)) ≡ []
no_heads ts [] = refl
no_heads ts (f ∷ fs) = by f.shape (no_heads ts fs)
  where
    by : (s : Shape) → heads_among (messages_of (filter_map (entry_of_field ts) fs)) ≡ [] → heads_among (messages_of (cons_option (entry_of_field ts (record f { shape = s })) (filter_map (entry_of_field ts) fs))) ≡ []
    by (shape.Map key) rest = rest
    by shape.Implicit rest = rest
    by shape.Explicit rest = rest
    by (shape.OneofMember o) rest = rest
    by (shape.List packed) rest = rest

pub among_map : (ts : Types) (g : ℕ × MessageView → DeclaredMessage) (h : ℕ × MessageView → List (ℕ × MessageView)) (ms : List (ℕ × MessageView)) → ((m : ℕ × MessageView) → heads_in (g m) ≡ map (head_of ts) (h m)) → heads_among (messages_of (map g ms)) ≡ map (head_of ts) (flat_map h ms)
among_map ts g h [] each = refl
among_map ts g h (m ∷ ms) each =
    ap (λ l. l ++ heads_among (messages_of (map g ms))) (each m) ∙ ap (λ l. map (head_of ts) (h m) ++ l) (among_map ts g h ms each) ∙ sym (map-append (head_of ts) (h m) (flat_map h ms))

pub heads_under : (ts : Types) (levels : ℕ) (m : ℕ × MessageView) → heads_in (declared_message levels ts m) ≡ map (head_of ts) (under ts levels m)
heads_under ts zero m = refl
heads_under ts (suc levels) m =
    ap (λ l. head_of ts m ∷ l)
    (among_append (map (declared_message levels ts) (messages_in ts m.0)) (filter_map (entry_of_field ts) m.1.fields)
    ∙ ap (λ l. heads_among (messages_of (map (declared_message levels ts) (messages_in ts m.0))) ++ l) (no_heads ts m.1.fields)
    ∙ append-nil (heads_among (messages_of (map (declared_message levels ts) (messages_in ts m.0))))
    ∙ among_map ts (declared_message levels ts) (under ts levels) (messages_in ts m.0) (heads_under ts levels))

heads_files : (ts : Types) (pool : IsPool ts) (k : ℕ) (fs : List FileView) → declared_heads (map (declared_file ts) (enumerate_from k fs)) ≡ map (head_of ts) (in_files ts pool k fs)
heads_files ts pool k [] = refl
heads_files ts pool k (f ∷ fs) =
    ap (λ l. l ++ declared_heads (map (declared_file ts) (enumerate_from (k + 1) fs))) (among_map ts (declared_message (length ts.messages) ts) (under ts (length ts.messages)) (outermost_messages ts k) (heads_under ts (length ts.messages)))
    ∙ ap (λ l. map (head_of ts) (in_file ts pool k) ++ l) (heads_files ts pool (k + 1) fs)
    ∙ sym (map-append (head_of ts) (in_file ts pool k) (in_files ts pool (k + 1) fs))

pub heads_in_order : (ts : Types) → IsPool ts → declared_heads (decls_of ts) ≡ map (λ m. declared_head ts m.0 m.1) (numbered ts)
heads_in_order ts pool = heads_files ts pool 0 ts.files ∙ ap (map (head_of ts)) (whole_order ts pool)
