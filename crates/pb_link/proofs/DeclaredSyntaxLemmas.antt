-- In a world of the declarations of a pool's types a file is of the syntax that it is of in the pool, and the rules of the pool say what of its
-- messages' fields goes with it.
use Rattle.std.proofs.Common.{◌≡◌, ℕ, Bool, true, false, sym, ap, ◌∙◌, Some}
use Rattle.std.specs.Prelude.{slice_get}
use Rattle.std.specs.List.{AllByRecursion}
use Rattle.std.proofs.lemmas.Bool.{false≢true}
use Rattle.pb_schema.specs.declared.types.Kind.{Kind}
use Rattle.pb_schema.specs.declared.types.Shape.{Shape}
use Rattle.pb_schema.specs.Kinds.{is_of_proto2}
use Rattle.pb_schema.specs.Types.{FieldView, MessageView, Types, is_proto2}
use Rattle.pb_schema.specs.Rules.{IsPool, EachField, MayStandIn, EnumIsRight}
use Rattle.pb_link_rules.specs.Rules.{World, is_two}
use Rattle.pb_link_rules.specs.Link.{IsWorldOf}
use Rattle.pb_link.specs.ToDecls.{decls_of}
use Rattle.pb_link.proofs.FieldLemmas.{same_syntax}
use Rattle.pb_link.proofs.FlatLemmas.{Stands}
use Rattle.pb_link.proofs.WholeLemmas.{all_at}
use Rattle.pb_link.proofs.DeclaredFileLemmas.{files_again}

pub two_again : (ts : Types) → IsPool ts → (w : World) → IsWorldOf (decls_of ts) w → (i : ℕ) → is_two w.files i ≡ is_proto2 ts.files i
two_again ts pool w world i = sym (same_syntax (decls_of ts) w world i) ∙ ap (λ fs. is_proto2 fs i) (files_again ts pool)

-- what a rule says of a field of a message
pub rule_at : (P : MessageView → FieldView → Type 0) (ts : Types) → EachField P ts.messages → (m : ℕ × MessageView) → Stands ts m → (j : ℕ) (g : FieldView) →
    slice_get m.1.fields j ≡ Some g → P m.1 g
rule_at P ts rule m there j g at = all_at (P m.1) m.1.fields j g (all_at (λ t. AllByRecursion (P t) t.fields) ts.messages m.0 m.1 rule there) at

-- the field may stand in the message's file
pub stands_in : (ts : Types) → IsPool ts → (m : ℕ × MessageView) → Stands ts m → (j : ℕ) (g : FieldView) → slice_get m.1.fields j ≡ Some g →
    MayStandIn (is_proto2 ts.files m.1.file) g.shape g.kind
stands_in ts pool = rule_at (λ t f. MayStandIn (is_proto2 ts.files t.file) f.shape f.kind) ts pool.syntax.fields

-- an enum that the field names is open or closed as its file has it
pub enum_right : (ts : Types) → IsPool ts → (m : ℕ × MessageView) → Stands ts m → (j : ℕ) (g : FieldView) → slice_get m.1.fields j ≡ Some g →
    EnumIsRight ts.files ts.enums g.kind
enum_right ts pool = rule_at (λ t f. EnumIsRight ts.files ts.enums f.kind) ts pool.syntax.enums

-- what may stand in a file of proto3 is of no kind of proto2
pub not_in_proto3 : (two : Bool) (s : Shape) (k : Kind) → MayStandIn two s k → two ≡ false → is_of_proto2 k ≡ false
not_in_proto3 true s k may three = absurd (false≢true (sym three))
not_in_proto3 false s k may three = may
