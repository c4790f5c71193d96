use Rattle.std.proofs.Common.{◌≡◌, ◌<◌, ℕ, List, [], ◌∷◌, ◌++◌, ◌&&◌, map, codes, refl, ap, sym, subst, ◌∙◌, true, false, Some, None, option_map, Ok, arith, rules}
use Rattle.pb_declarations.specs.View.{message_view}
use Rattle.std.proofs.lemmas.Result.{err_from_is_err_and}
use Rattle.pb_source_tokens.specs.SymbolView.{symbol_of}
use Rattle.pb_source_tokens.specs.Language.{all_rules}
use Rattle.pb_source_tokens.specs.Readers.Forms.{first_passes, mapped, mark_reader}
use Rattle.pb_source_tokens.specs.Readers.Given.{symbols_from, Fails}
use Rattle.pb_source_tokens.proofs.UntilSteps.{fails_on, mapped_fails, mapped_reads, before_map, fails_before, starts, goes_on, refuses, ends}
use Rattle.pb_source.specs.Syntaxes.{is_proto2}
use Rattle.pb_source.specs.declared.kind.Label.TheVariants.{Unlabelled}
use Rattle.pb_source.specs.declared.kind.OneofKind.TheVariants as in_a_oneof
use Rattle.pb_source.specs.declared.kind.ExtendKind.TheVariants as in_extend
use Rattle.pb_source.specs.declared.kind.MessageKind.TheVariants as kind
use Rattle.pb_source.specs.Meaning.{MessageStatement, those_said, message_of}
use Rattle.pb_source.specs.StatementView.{member_view, message_statement_view}
use Rattle.pb_source.specs.PartsView.{is_plain, is_nesting}
use Rattle.pb_source.specs.Readers.Lines.{is_closing, is_group, alone, group_in, nested_in, labelled_reader, message_kind, oneof_kind, extend_kind, oneof_statement_reader, oneof_reader, extension_reader, extend_reader, message_line_reader, room_statement_reader}
use Rattle.pb_source.proofs.RoomSteps.{other_in_room, none_in_room, message_in_room, message_too_deep, no_room_statement, group_in_room, group_too_deep, single_in_room, nesting_not, plain_not}
use Rattle.pb_source.proofs.RoomSteps.{if_taken, oneof_by_line, no_oneof_line, extension_by_line, no_extension_line, required_line, no_required_line, unlabelled_line, no_unlabelled_line}
use Rattle.pb_source.proofs.NoStatement.{no_oneof_statement, no_extension}
use Rattle.pb_source.proofs.SaidSteps.{said_more}
use Rattle.pb_source.proofs.parsing.messages.+message.Goals as goal

-- ---- a message

pub message-returns-in_err-after-clause-read : goal.message-returns-in_err-after-clause-read
unfolding message_line_reader
message-returns-in_err-after-clause-read t c =
    let p = err_from_is_err_and c.from_residual.result c.from_residual.ensures.1 in
    rw (p.1, p.2) (λ n l. fails_on c.args.symbols.now _ _ _ (λ x k. rw k refl) c.in_err-after.ensures.read)

pub message-returns-in_err-name-clause-read : goal.message-returns-in_err-name-clause-read
unfolding message_line_reader
message-returns-in_err-name-clause-read t c =
    let p = err_from_is_err_and c.from_residual-in_err-name.result c.from_residual-in_err-name.ensures.1 in
    rw (p.1, p.2) (λ n l. fails_on c.args.symbols.now _ _ _ (λ x k. rw (c.in_ok-after.ensures.read, k) refl) c.in_err-name.ensures.read)

pub message-returns-in_err-after-2-clause-read : goal.message-returns-in_err-after-2-clause-read
unfolding message_line_reader
message-returns-in_err-after-2-clause-read t c =
    let p = err_from_is_err_and c.from_residual-in_err-after-2.result c.from_residual-in_err-after-2.ensures.1 in
    rw (p.1, p.2) (λ n l. fails_on c.args.symbols.now _ _ _ (λ x k. rw (c.in_ok-after.ensures.read, c.in_ok-name.ensures.read, k) refl) c.in_err-after-2.ensures.read)

pub message-returns-in_err-decl-clause-read : goal.message-returns-in_err-decl-clause-read
unfolding message_line_reader
message-returns-in_err-decl-clause-read t c =
    let p = err_from_is_err_and c.from_residual-in_err-decl.result c.from_residual-in_err-decl.ensures.1 in
    rw (p.1, p.2) (λ n l. fails_before (message_of c.in_ok-name.name.now) c.args.symbols.now _ _ _
    (λ x k. rw (c.in_ok-after.ensures.read, c.in_ok-name.ensures.read, c.in_ok-after-2.ensures.read, k) refl) (c.in_err-decl.ensures.read n l))

pub message-returns-clause-read : goal.message-returns-clause-read
unfolding message_line_reader
message-returns-clause-read t c = λ n l.
    let m = before_map (message_of c.in_ok-name.name.now) _ _ _ (c.in_ok-decl.ensures.read n l) in
    rw (c.in_ok-after.ensures.read, c.in_ok-name.ensures.read, c.in_ok-after-2.ensures.read, m.1) (ap (λ d. Ok (d, symbols_from c.args.symbols.now c.in_ok-decl.after)) m.2)

-- ---- the statements of a message

pub message_body-loop-grammar-init : goal.message_body-loop-grammar-init
message_body-loop-grammar-init t c =
    ([], c.new-parts.ensures, starts is_closing (λ n. room_statement_reader c.args.grammar n c.args.depth_left) (mark_reader (codes "}")) c.args.symbols.now c.args.at (omega arith))

pub message_body-add_statement-requires : goal.message_body-add_statement-requires
message_body-add_statement-requires t c = c.in_ok-statement.ensures.bound

pub message_body-loop-grammar-preserved : goal.message_body-loop-grammar-preserved
message_body-loop-grammar-preserved t c =
    let i = c.loop-grammar.invariant in (
      i.0 ++ (message_statement_view c.in_ok-statement.statement) ∷ [],
      c.in_ok-add_statement.ensures i.0 i.1,
      goes_on is_closing (λ n. room_statement_reader c.args.grammar n c.args.depth_left) (mark_reader (codes "}")) c.args.symbols.now c.args.at i.0 c.loop-grammar.here c.in_ok-statement.after (message_statement_view c.in_ok-statement.statement) i.2
          c.in_ok-statement.ensures.within.0 c.in_ok-statement.ensures.within.1 (sym c.loop-grammar-test.true ∙ c.begins_with_mark.ensures) c.in_ok-statement.ensures.read,
    )

pub message_body-returns-in_err-statement-clause-read : goal.message_body-returns-in_err-statement-clause-read
message_body-returns-in_err-statement-clause-read t c =
    let p = err_from_is_err_and c.from_residual.result c.from_residual.ensures.1 in
    let i = c.loop-grammar.invariant in
    rw (p.1, p.2)
    (refuses is_closing (λ n. room_statement_reader c.args.grammar n c.args.depth_left) (mark_reader (codes "}")) c.args.symbols.now (message_of c.args.name.now) c.args.at i.0 c.loop-grammar.here _ i.2
    (sym c.loop-grammar-test.true ∙ c.begins_with_mark.ensures) (no_room_statement c.args.grammar c.args.depth_left) c.in_err-statement.ensures.read)

pub message_body-returns-clause-read : goal.message_body-returns-clause-read
message_body-returns-clause-read t c = λ n l.
    let i = c.loop-grammar.invariant in
    ends is_closing (λ n. room_statement_reader c.args.grammar n c.args.depth_left) (mark_reader (codes "}")) c.args.symbols.now (message_of c.args.name.now) c.args.at i.0 c.loop-grammar.here c.in_ok-after.after i.2
    (sym c.loop-grammar-test.false ∙ c.begins_with_mark.ensures) c.in_ok-after.ensures.read n l
    ∙ ap (λ d. Ok (d, symbols_from c.args.symbols.now c.in_ok-after.after)) (sym (c.in_ok-decl.ensures i.0 i.1))

-- ---- a oneof

pub oneof_body-loop-alloc-init : goal.oneof_body-loop-alloc-init
oneof_body-loop-alloc-init t c =
    ([], rw c.new-members.ensures.items refl, starts is_closing (λ n. oneof_statement_reader c.args.grammar n (nested_in c.args.grammar n c.args.depth_left)) (mark_reader (codes "}")) c.args.symbols.now c.args.at c.requires)

pub oneof_body-loop-alloc-preserved : goal.oneof_body-loop-alloc-preserved
oneof_body-loop-alloc-preserved t c =
    let i = c.loop-alloc.invariant in (
      i.0 ++ (option_map member_view c.in_ok-said.said) ∷ [],
      said_more member_view _ i.0 c.in_ok-said.said _ i.1 c.in_ok-push_member.ensures,
      goes_on is_closing (λ n. oneof_statement_reader c.args.grammar n (nested_in c.args.grammar n c.args.depth_left)) (mark_reader (codes "}")) c.args.symbols.now c.args.at i.0 c.loop-alloc.here c.in_ok-said.after (option_map member_view c.in_ok-said.said) i.2
          c.in_ok-said.ensures.within.0 c.in_ok-said.ensures.within.1 (sym c.loop-alloc-test.true ∙ c.begins_with_mark.ensures) c.in_ok-said.ensures.read,
    )

pub oneof_body-returns-in_err-said-clause-read : goal.oneof_body-returns-in_err-said-clause-read
oneof_body-returns-in_err-said-clause-read t c =
    let p = err_from_is_err_and c.from_residual.result c.from_residual.ensures.1 in
    let i = c.loop-alloc.invariant in
    rw (p.1, p.2)
    (refuses is_closing (λ n. oneof_statement_reader c.args.grammar n (nested_in c.args.grammar n c.args.depth_left)) (mark_reader (codes "}")) c.args.symbols.now those_said c.args.at i.0 c.loop-alloc.here _ i.2
    (sym c.loop-alloc-test.true ∙ c.begins_with_mark.ensures) (λ n. no_oneof_statement c.args.grammar n (nested_in c.args.grammar n c.args.depth_left)) c.in_err-said.ensures.read)

pub oneof_body-returns-clause-read : goal.oneof_body-returns-clause-read
oneof_body-returns-clause-read t c =
    let i = c.loop-alloc.invariant in
    rw i.1 (ends is_closing (λ n. oneof_statement_reader c.args.grammar n (nested_in c.args.grammar n c.args.depth_left)) (mark_reader (codes "}")) c.args.symbols.now those_said c.args.at i.0 c.loop-alloc.here c.in_ok-after.after i.2
    (sym c.loop-alloc-test.false ∙ c.begins_with_mark.ensures) c.in_ok-after.ensures.read)

-- ---- a block of `extend`

pub extend_body-loop-alloc-init : goal.extend_body-loop-alloc-init
extend_body-loop-alloc-init t c =
    ([], rw c.new-groups.ensures.items refl, starts is_closing (λ n. extension_reader c.args.grammar n (nested_in c.args.grammar n c.args.depth_left)) (mark_reader (codes "}")) c.args.symbols.now c.args.at c.requires)

pub extend_body-loop-alloc-preserved : goal.extend_body-loop-alloc-preserved
extend_body-loop-alloc-preserved t c =
    let i = c.loop-alloc.invariant in (
      i.0 ++ (option_map message_view c.in_ok-said.said) ∷ [],
      said_more message_view _ i.0 c.in_ok-said.said _ i.1 c.in_ok-push_group.ensures,
      goes_on is_closing (λ n. extension_reader c.args.grammar n (nested_in c.args.grammar n c.args.depth_left)) (mark_reader (codes "}")) c.args.symbols.now c.args.at i.0 c.loop-alloc.here c.in_ok-said.after (option_map message_view c.in_ok-said.said) i.2
          c.in_ok-said.ensures.within.0 c.in_ok-said.ensures.within.1 (sym c.loop-alloc-test.true ∙ c.begins_with_mark.ensures) c.in_ok-said.ensures.read,
    )

pub extend_body-returns-in_err-said-clause-read : goal.extend_body-returns-in_err-said-clause-read
extend_body-returns-in_err-said-clause-read t c =
    let p = err_from_is_err_and c.from_residual.result c.from_residual.ensures.1 in
    let i = c.loop-alloc.invariant in
    rw (p.1, p.2)
    (refuses is_closing (λ n. extension_reader c.args.grammar n (nested_in c.args.grammar n c.args.depth_left)) (mark_reader (codes "}")) c.args.symbols.now those_said c.args.at i.0 c.loop-alloc.here _ i.2
    (sym c.loop-alloc-test.true ∙ c.begins_with_mark.ensures) (λ n. no_extension c.args.grammar n (nested_in c.args.grammar n c.args.depth_left)) c.in_err-said.ensures.read)

pub extend_body-returns-clause-read : goal.extend_body-returns-clause-read
extend_body-returns-clause-read t c =
    let i = c.loop-alloc.invariant in
    rw i.1 (ends is_closing (λ n. extension_reader c.args.grammar n (nested_in c.args.grammar n c.args.depth_left)) (mark_reader (codes "}")) c.args.symbols.now those_said c.args.at i.0 c.loop-alloc.here c.in_ok-after.after i.2
    (sym c.loop-alloc-test.false ∙ c.begins_with_mark.ensures) c.in_ok-after.ensures.read)

-- ---- a oneof and its statements

pub oneof-returns-in_err-after-clause-read : goal.oneof-returns-in_err-after-clause-read
unfolding oneof_reader
oneof-returns-in_err-after-clause-read t c =
    let p = err_from_is_err_and c.from_residual.result c.from_residual.ensures.1 in
    rw (p.1, p.2) (λ n l. fails_on c.args.symbols.now _ _ _ (λ x k. rw k refl) c.in_err-after.ensures.read)

pub oneof-returns-in_err-name-clause-read : goal.oneof-returns-in_err-name-clause-read
unfolding oneof_reader
oneof-returns-in_err-name-clause-read t c =
    let p = err_from_is_err_and c.from_residual-in_err-name.result c.from_residual-in_err-name.ensures.1 in
    rw (p.1, p.2) (λ n l. fails_on c.args.symbols.now _ _ _ (λ x k. rw (c.in_ok-after.ensures.read, k) refl) c.in_err-name.ensures.read)

pub oneof-returns-in_err-after-2-clause-read : goal.oneof-returns-in_err-after-2-clause-read
unfolding oneof_reader
oneof-returns-in_err-after-2-clause-read t c =
    let p = err_from_is_err_and c.from_residual-in_err-after-2.result c.from_residual-in_err-after-2.ensures.1 in
    rw (p.1, p.2) (λ n l. fails_on c.args.symbols.now _ _ _ (λ x k. rw (c.in_ok-after.ensures.read, c.in_ok-name.ensures.read, k) refl) c.in_err-after-2.ensures.read)

pub oneof-returns-in_err-members-clause-read : goal.oneof-returns-in_err-members-clause-read
unfolding oneof_reader
oneof-returns-in_err-members-clause-read t c =
    let p = err_from_is_err_and c.from_residual-in_err-members.result c.from_residual-in_err-members.ensures.1 in
    rw (p.1, p.2) (λ n l. fails_before those_said c.args.symbols.now _ _ _ (λ x k. rw (c.in_ok-after.ensures.read, c.in_ok-name.ensures.read, c.in_ok-after-2.ensures.read, k) refl) (c.in_err-members.ensures.read n l))

pub oneof-returns-clause-read : goal.oneof-returns-clause-read
unfolding oneof_reader
oneof-returns-clause-read t c = λ n l.
    let m = before_map those_said _ _ _ (c.in_ok-members.ensures.read n l) in
    rw (c.in_ok-after.ensures.read, c.in_ok-name.ensures.read, c.in_ok-after-2.ensures.read, m.1, m.2)
    (ap (λ w. Ok ((w, map member_view c.in_ok-members.members.items), symbols_from c.args.symbols.now c.in_ok-members.after)) (sym c.in_ok-name-2.ensures.ok))

pub oneof_statement-returns-in_default-clause-read : goal.oneof_statement-returns-in_default-clause-read
oneof_statement-returns-in_default-clause-read t c = λ n l.
    let e : symbols_from c.args.symbols.now c.args.at ≡ [] = search rules in
    rw e (no_oneof_statement c.args.grammar n (nested_in c.args.grammar n c.args.depth_left))

pub oneof_statement-returns-in_ok-after-in-Some-Empty-clause-read : goal.oneof_statement-returns-in_ok-after-in-Some-Empty-clause-read
oneof_statement-returns-in_ok-after-in-Some-Empty-clause-read t c = λ n l.
    let k : oneof_kind (symbol_of c.in-Some.first.now.symbol) ≡ Some in_a_oneof.Empty = cc in
    oneof_by_line c.args.grammar n (nested_in c.args.grammar n c.args.depth_left) _ _ _ in_a_oneof.Empty c.in-Some.ensures.found.1 k ∙ mapped_reads (λ _. None) _ _ _ c.in_ok-after-in-Some-Empty.ensures.read

pub oneof_statement-returns-in_err-after-in-Some-Option-clause-read : goal.oneof_statement-returns-in_err-after-in-Some-Option-clause-read
oneof_statement-returns-in_err-after-in-Some-Option-clause-read t c =
    let p = err_from_is_err_and c.from_residual-in_err-after-in-Some-Option.result c.from_residual-in_err-after-in-Some-Option.ensures.1 in
    let k : oneof_kind (symbol_of c.in-Some.first.now.symbol) ≡ Some in_a_oneof.Option = cc in
    rw (p.1, p.2) (λ n l. rw (oneof_by_line c.args.grammar n (nested_in c.args.grammar n c.args.depth_left) _ _ _ in_a_oneof.Option c.in-Some.ensures.found.1 k) (mapped_fails (λ _. None) c.args.symbols.now _ _ (c.in_err-after-in-Some-Option.ensures.read n l)))

pub oneof_statement-returns-in_ok-after-in-Some-Option-clause-read : goal.oneof_statement-returns-in_ok-after-in-Some-Option-clause-read
oneof_statement-returns-in_ok-after-in-Some-Option-clause-read t c = λ n l.
    let k : oneof_kind (symbol_of c.in-Some.first.now.symbol) ≡ Some in_a_oneof.Option = cc in
    oneof_by_line c.args.grammar n (nested_in c.args.grammar n c.args.depth_left) _ _ _ in_a_oneof.Option c.in-Some.ensures.found.1 k ∙ mapped_reads (λ _. None) _ _ _ (c.in_ok-after-in-Some-Option.ensures.read n l)

pub oneof_statement-returns-in_err-member-in-Some-Field-clause-read : goal.oneof_statement-returns-in_err-member-in-Some-Field-clause-read
oneof_statement-returns-in_err-member-in-Some-Field-clause-read t c =
    let p = err_from_is_err_and c.from_residual-in_err-member-in-Some-Field.result c.from_residual-in_err-member-in-Some-Field.ensures.1 in
    let k : oneof_kind (symbol_of c.in-Some.first.now.symbol) ≡ Some in_a_oneof.Field = cc in
    rw (p.1, p.2) (λ n l. rw (oneof_by_line c.args.grammar n (nested_in c.args.grammar n c.args.depth_left) _ _ _ in_a_oneof.Field c.in-Some.ensures.found.1 k) (mapped_fails Some c.args.symbols.now _ _ (c.in_err-member-in-Some-Field.ensures.read n l)))

pub oneof_statement-returns-in_ok-member-in-Some-Field-clause-read : goal.oneof_statement-returns-in_ok-member-in-Some-Field-clause-read
oneof_statement-returns-in_ok-member-in-Some-Field-clause-read t c = λ n l.
    let k : oneof_kind (symbol_of c.in-Some.first.now.symbol) ≡ Some in_a_oneof.Field = cc in
    oneof_by_line c.args.grammar n (nested_in c.args.grammar n c.args.depth_left) _ _ _ in_a_oneof.Field c.in-Some.ensures.found.1 k ∙ mapped_reads Some _ _ _ (c.in_ok-member-in-Some-Field.ensures.read n l)

pub oneof_statement-returns-in-None-clause-read : goal.oneof_statement-returns-in-None-clause-read
oneof_statement-returns-in-None-clause-read t c = λ n l.
    let k : oneof_kind (symbol_of c.in-Some.first.now.symbol) ≡ None = cc in
    no_oneof_line c.args.grammar n (nested_in c.args.grammar n c.args.depth_left) _ _ _ c.in-Some.ensures.found.1 k

-- ---- a block of `extend` and its statements

pub extend-returns-in_err-after-clause-read : goal.extend-returns-in_err-after-clause-read
unfolding extend_reader
extend-returns-in_err-after-clause-read t c =
    let p = err_from_is_err_and c.from_residual.result c.from_residual.ensures.1 in
    rw (p.1, p.2) (λ n l. fails_on c.args.symbols.now _ _ _ (λ x k. rw k refl) c.in_err-after.ensures.read)

pub extend-returns-in_err-after-2-clause-read : goal.extend-returns-in_err-after-2-clause-read
unfolding extend_reader
extend-returns-in_err-after-2-clause-read t c =
    let p = err_from_is_err_and c.from_residual-in_err-after-2.result c.from_residual-in_err-after-2.ensures.1 in
    rw (p.1, p.2) (λ n l. fails_on c.args.symbols.now _ _ _ (λ x k. rw (c.in_ok-after.ensures.read, k) refl) (c.in_err-after-2.ensures.read n l))

pub extend-returns-in_err-after-3-clause-read : goal.extend-returns-in_err-after-3-clause-read
unfolding extend_reader
extend-returns-in_err-after-3-clause-read t c =
    let p = err_from_is_err_and c.from_residual-in_err-after-3.result c.from_residual-in_err-after-3.ensures.1 in
    rw (p.1, p.2) (λ n l. fails_on c.args.symbols.now _ _ _ (λ x k. rw (c.in_ok-after.ensures.read, c.in_ok-after-2.ensures.read n l, k) refl) c.in_err-after-3.ensures.read)

pub extend-returns-in_err-groups-clause-read : goal.extend-returns-in_err-groups-clause-read
unfolding extend_reader
extend-returns-in_err-groups-clause-read t c =
    let p = err_from_is_err_and c.from_residual-in_err-groups.result c.from_residual-in_err-groups.ensures.1 in
    rw (p.1, p.2) (λ n l. fails_before those_said c.args.symbols.now _ _ _ (λ x k. rw (c.in_ok-after.ensures.read, c.in_ok-after-2.ensures.read n l, c.in_ok-after-3.ensures.read, k) refl) (c.in_err-groups.ensures.read n l))

pub extend-returns-clause-read : goal.extend-returns-clause-read
unfolding extend_reader
extend-returns-clause-read t c = λ n l.
    let m = before_map those_said _ _ _ (c.in_ok-groups.ensures.read n l) in
    rw (c.in_ok-after.ensures.read, c.in_ok-after-2.ensures.read n l, c.in_ok-after-3.ensures.read, m.1, m.2) refl

pub extension-returns-in_default-clause-read : goal.extension-returns-in_default-clause-read
extension-returns-in_default-clause-read t c = λ n l.
    let e : symbols_from c.args.symbols.now c.args.at ≡ [] = search rules in
    rw e (no_extension c.args.grammar n (nested_in c.args.grammar n c.args.depth_left))

pub extension-returns-in_ok-after-in-Some-Empty-clause-read : goal.extension-returns-in_ok-after-in-Some-Empty-clause-read
extension-returns-in_ok-after-in-Some-Empty-clause-read t c = λ n l.
    let k : extend_kind (symbol_of c.in-Some.first.now.symbol) ≡ Some in_extend.Empty = cc in
    extension_by_line c.args.grammar n (nested_in c.args.grammar n c.args.depth_left) _ _ _ in_extend.Empty c.in-Some.ensures.found.1 k ∙ mapped_reads (λ _. None) _ _ _ c.in_ok-after-in-Some-Empty.ensures.read

pub extension-returns-in_err-member-in-Some-Repeated-clause-read : goal.extension-returns-in_err-member-in-Some-Repeated-clause-read
extension-returns-in_err-member-in-Some-Repeated-clause-read t c =
    let p = err_from_is_err_and c.from_residual-in_err-member-in-Some-Repeated.result c.from_residual-in_err-member-in-Some-Repeated.ensures.1 in
    let k : extend_kind (symbol_of c.in-Some.first.now.symbol) ≡ Some in_extend.Repeated = cc in
    rw (p.1, p.2) (λ n l. rw (extension_by_line c.args.grammar n (nested_in c.args.grammar n c.args.depth_left) _ _ _ in_extend.Repeated c.in-Some.ensures.found.1 k) (mapped_fails group_in c.args.symbols.now _ _ (c.in_err-member-in-Some-Repeated.ensures.read n l)))

pub extension-returns-in_ok-member-in-Some-Repeated-clause-read : goal.extension-returns-in_ok-member-in-Some-Repeated-clause-read
extension-returns-in_ok-member-in-Some-Repeated-clause-read t c = λ n l.
    let k : extend_kind (symbol_of c.in-Some.first.now.symbol) ≡ Some in_extend.Repeated = cc in
    extension_by_line c.args.grammar n (nested_in c.args.grammar n c.args.depth_left) _ _ _ in_extend.Repeated c.in-Some.ensures.found.1 k ∙ mapped_reads group_in _ _ _ (c.in_ok-member-in-Some-Repeated.ensures.read n l)

pub extension-returns-in_err-member-in-Some-Optional-clause-read : goal.extension-returns-in_err-member-in-Some-Optional-clause-read
extension-returns-in_err-member-in-Some-Optional-clause-read t c =
    let p = err_from_is_err_and c.from_residual-in_err-member-in-Some-Optional.result c.from_residual-in_err-member-in-Some-Optional.ensures.1 in
    let k : extend_kind (symbol_of c.in-Some.first.now.symbol) ≡ Some in_extend.Optional = cc in
    rw (p.1, p.2) (λ n l. rw (extension_by_line c.args.grammar n (nested_in c.args.grammar n c.args.depth_left) _ _ _ in_extend.Optional c.in-Some.ensures.found.1 k) (subst (λ label. Fails c.args.symbols.now c.in_err-member-in-Some-Optional.field-0.0 (mapped group_in (labelled_reader c.args.grammar n (codes "optional") label (nested_in c.args.grammar n c.args.depth_left)) all_rules (symbols_from c.args.symbols.now c.args.at)))
    c.optional_label-label.ensures (mapped_fails group_in c.args.symbols.now _ _ (c.in_err-member-in-Some-Optional.ensures.read n l))))

pub extension-returns-in_ok-member-in-Some-Optional-clause-read : goal.extension-returns-in_ok-member-in-Some-Optional-clause-read
extension-returns-in_ok-member-in-Some-Optional-clause-read t c = λ n l.
    let k : extend_kind (symbol_of c.in-Some.first.now.symbol) ≡ Some in_extend.Optional = cc in
    extension_by_line c.args.grammar n (nested_in c.args.grammar n c.args.depth_left) _ _ _ in_extend.Optional c.in-Some.ensures.found.1 k
    ∙ subst (λ label. mapped group_in (labelled_reader c.args.grammar n (codes "optional") label (nested_in c.args.grammar n c.args.depth_left)) all_rules (symbols_from c.args.symbols.now c.args.at) ≡ Ok (option_map message_view c.in_ok-member-in-Some-Optional.member.group, symbols_from c.args.symbols.now c.in_ok-member-in-Some-Optional.after))
    c.optional_label-label.ensures (mapped_reads group_in _ _ _ (c.in_ok-member-in-Some-Optional.ensures.read n l))

pub extension-returns-then-not-is_proto2-clause-read : goal.extension-returns-then-not-is_proto2-clause-read
extension-returns-then-not-is_proto2-clause-read t c = λ n l.
    let k : extend_kind (symbol_of c.in-Some.first.now.symbol) ≡ Some in_extend.Required = cc in
    let h : is_proto2 c.args.grammar ≡ false = search rules in
    no_required_line c.args.grammar n (nested_in c.args.grammar n c.args.depth_left) _ _ _ h c.in-Some.ensures.found.1 k

pub extension-returns-in_err-member-in-Some-Required-clause-read : goal.extension-returns-in_err-member-in-Some-Required-clause-read
extension-returns-in_err-member-in-Some-Required-clause-read t c =
    let p = err_from_is_err_and c.from_residual-in_err-member-in-Some-Required.result c.from_residual-in_err-member-in-Some-Required.ensures.1 in
    let k : extend_kind (symbol_of c.in-Some.first.now.symbol) ≡ Some in_extend.Required = cc in
    let h : is_proto2 c.args.grammar ≡ true = search rules in
    rw (p.1, p.2) (λ n l. rw (required_line c.args.grammar n (nested_in c.args.grammar n c.args.depth_left) _ _ _ h c.in-Some.ensures.found.1 k) (mapped_fails group_in c.args.symbols.now _ _ (c.in_err-member-in-Some-Required.ensures.read n l)))

pub extension-returns-in_ok-member-in-Some-Required-clause-read : goal.extension-returns-in_ok-member-in-Some-Required-clause-read
extension-returns-in_ok-member-in-Some-Required-clause-read t c = λ n l.
    let k : extend_kind (symbol_of c.in-Some.first.now.symbol) ≡ Some in_extend.Required = cc in
    let h : is_proto2 c.args.grammar ≡ true = search rules in
    required_line c.args.grammar n (nested_in c.args.grammar n c.args.depth_left) _ _ _ h c.in-Some.ensures.found.1 k ∙ mapped_reads group_in _ _ _ (c.in_ok-member-in-Some-Required.ensures.read n l)

pub extension-returns-then-is_proto2-clause-read : goal.extension-returns-then-is_proto2-clause-read
extension-returns-then-is_proto2-clause-read t c = λ n l.
    let k : extend_kind (symbol_of c.in-Some.first.now.symbol) ≡ Some in_extend.Field = cc in
    let h : is_proto2 c.args.grammar ≡ true = search rules in
    no_unlabelled_line c.args.grammar n (nested_in c.args.grammar n c.args.depth_left) _ _ _ h c.in-Some.ensures.found.1 k

pub extension-returns-in_err-after-in-Some-Field-clause-read : goal.extension-returns-in_err-after-in-Some-Field-clause-read
extension-returns-in_err-after-in-Some-Field-clause-read t c =
    let p = err_from_is_err_and c.from_residual-in_err-after-in-Some-Field.result c.from_residual-in_err-after-in-Some-Field.ensures.1 in
    let k : extend_kind (symbol_of c.in-Some.first.now.symbol) ≡ Some in_extend.Field = cc in
    let h : is_proto2 c.args.grammar ≡ false = search rules in
    rw (p.1, p.2) (λ n l. rw (unlabelled_line c.args.grammar n (nested_in c.args.grammar n c.args.depth_left) _ _ _ h c.in-Some.ensures.found.1 k) (mapped_fails (λ _. None) c.args.symbols.now _ _ (c.in_err-after-in-Some-Field.ensures.read n l)))

pub extension-returns-in_ok-after-in-Some-Field-clause-read : goal.extension-returns-in_ok-after-in-Some-Field-clause-read
extension-returns-in_ok-after-in-Some-Field-clause-read t c = λ n l.
    let k : extend_kind (symbol_of c.in-Some.first.now.symbol) ≡ Some in_extend.Field = cc in
    let h : is_proto2 c.args.grammar ≡ false = search rules in
    unlabelled_line c.args.grammar n (nested_in c.args.grammar n c.args.depth_left) _ _ _ h c.in-Some.ensures.found.1 k ∙ mapped_reads (λ _. None) _ _ _ (c.in_ok-after-in-Some-Field.ensures.read n l)

pub extension-returns-in-None-clause-read : goal.extension-returns-in-None-clause-read
extension-returns-in-None-clause-read t c = λ n l.
    let k : extend_kind (symbol_of c.in-Some.first.now.symbol) ≡ None = cc in
    no_extension_line c.args.grammar n (nested_in c.args.grammar n c.args.depth_left) _ _ _ c.in-Some.ensures.found.1 k

-- ---- a field or a group

pub member-returns-then-depth_left-eq0-clause-read : goal.member-returns-then-depth_left-eq0-clause-read
member-returns-then-depth_left-eq0-clause-read t c = λ n l.
    let h : is_proto2 c.args.grammar ≡ true = search rules in
    let g : first_passes is_group (symbols_from c.args.symbols.now c.args.at) ≡ true = search rules in
    rw c.if-depth_left-eq0.true (group_too_deep c.args.grammar n c.args.label _ h g)

pub member-returns-in_err-head-clause-read : goal.member-returns-in_err-head-clause-read
member-returns-in_err-head-clause-read t c =
    let p = err_from_is_err_and c.from_residual.result c.from_residual.ensures.1 in
    let h : is_proto2 c.args.grammar ≡ true = search rules in
    let g : first_passes is_group (symbols_from c.args.symbols.now c.args.at) ≡ true = search rules in
    let left : 0 < c.args.depth_left = omega arith in
    rw (p.1, p.2) (λ n l. rw (group_in_room c.args.grammar n c.args.depth_left c.args.label _ left h g) (fails_on c.args.symbols.now _ _ _ (λ x k. rw k refl) (c.in_err-head.ensures.read n l)))

pub member-returns-in_err-message-clause-read : goal.member-returns-in_err-message-clause-read
member-returns-in_err-message-clause-read t c =
    let p = err_from_is_err_and c.from_residual-in_err-message.result c.from_residual-in_err-message.ensures.1 in
    let h : is_proto2 c.args.grammar ≡ true = search rules in
    let g : first_passes is_group (symbols_from c.args.symbols.now c.args.at) ≡ true = search rules in
    let left : 0 < c.args.depth_left = omega arith in
    rw (p.1, p.2) (λ n l. rw (group_in_room c.args.grammar n c.args.depth_left c.args.label _ left h g) (fails_before (message_of c.in_ok-head.head.name.now) c.args.symbols.now _ _ _ (λ x k. rw (c.in_ok-head.ensures.read n l, k) refl) (c.in_err-message.ensures.read n l)))

pub member-returns-then-begins_with-clause-read : goal.member-returns-then-begins_with-clause-read
member-returns-then-begins_with-clause-read t c = λ n l.
    let h : is_proto2 c.args.grammar ≡ true = search rules in
    let g : first_passes is_group (symbols_from c.args.symbols.now c.args.at) ≡ true = search rules in
    let left : 0 < c.args.depth_left = omega arith in
    let m = before_map (message_of c.in_ok-head.head.name.now) _ _ _ (c.in_ok-message.ensures.read n l) in
    rw (group_in_room c.args.grammar n c.args.depth_left c.args.label _ left h g, c.in_ok-head.ensures.read n l, m.1)
    (λ i. Ok ((sym c.in_ok-field.ensures i, Some (m.2 i)), symbols_from c.args.symbols.now c.in_ok-message.after))

pub member-returns-in_err-field-2-clause-read : goal.member-returns-in_err-field-2-clause-read
member-returns-in_err-field-2-clause-read t c =
    let p = err_from_is_err_and c.from_residual-in_err-field-2.result c.from_residual-in_err-field-2.ensures.1 in
    let h : (is_proto2 c.args.grammar && first_passes is_group (symbols_from c.args.symbols.now c.args.at)) ≡ false = search rules in
    rw (p.1, p.2) (λ n l. rw (single_in_room c.args.grammar n c.args.depth_left c.args.label _ h) (mapped_fails alone c.args.symbols.now _ _ (c.in_err-field-2.ensures.read n l)))

pub member-returns-clause-read : goal.member-returns-clause-read
member-returns-clause-read t c = λ n l.
    let h : (is_proto2 c.args.grammar && first_passes is_group (symbols_from c.args.symbols.now c.args.at)) ≡ false = search rules in
    single_in_room c.args.grammar n c.args.depth_left c.args.label _ h ∙ mapped_reads alone _ _ _ (c.in_ok-field-2.ensures.read n l)

-- ---- a statement that messages nest in

pub nesting_statement-returns-in_err-member-in-Repeated-clause-read : goal.nesting_statement-returns-in_err-member-in-Repeated-clause-read
nesting_statement-returns-in_err-member-in-Repeated-clause-read t c =
    let p = err_from_is_err_and c.from_residual-in_err-member-in-Repeated.result c.from_residual-in_err-member-in-Repeated.ensures.1 in
    rw (p.1, p.2, c.in-Repeated.is) (λ n l. mapped_fails MessageStatement.a_field c.args.symbols.now _ _ (c.in_err-member-in-Repeated.ensures.read n l))

pub nesting_statement-returns-in_err-member-in-Optional-clause-read : goal.nesting_statement-returns-in_err-member-in-Optional-clause-read
nesting_statement-returns-in_err-member-in-Optional-clause-read t c =
    let p = err_from_is_err_and c.from_residual-in_err-member-in-Optional.result c.from_residual-in_err-member-in-Optional.ensures.1 in
    rw (p.1, p.2, c.in-Optional.is) (λ n l. subst (λ label. Fails c.args.symbols.now c.in_err-member-in-Optional.field-0.0 (mapped MessageStatement.a_field (labelled_reader c.args.grammar n (codes "optional") label (nested_in c.args.grammar n c.args.depth_left)) all_rules (symbols_from c.args.symbols.now c.args.at)))
    c.optional_label-label.ensures (mapped_fails MessageStatement.a_field c.args.symbols.now _ _ (c.in_err-member-in-Optional.ensures.read n l)))

pub nesting_statement-returns-in_err-member-in-Required-clause-read : goal.nesting_statement-returns-in_err-member-in-Required-clause-read
nesting_statement-returns-in_err-member-in-Required-clause-read t c =
    let p = err_from_is_err_and c.from_residual-in_err-member-in-Required.result c.from_residual-in_err-member-in-Required.ensures.1 in
    let h : is_proto2 c.args.grammar ≡ true = search rules in
    rw (p.1, p.2, c.in-Required.is)
    (λ n l. subst (λ o. Fails c.args.symbols.now c.in_err-member-in-Required.field-0.0 o) (sym (if_taken (is_proto2 c.args.grammar) (mapped MessageStatement.a_field (labelled_reader c.args.grammar n (codes "required") Unlabelled (nested_in c.args.grammar n c.args.depth_left))) (symbols_from c.args.symbols.now c.args.at) h))
    (mapped_fails MessageStatement.a_field c.args.symbols.now _ _ (c.in_err-member-in-Required.ensures.read n l)))

pub nesting_statement-returns-in_ok-member-in-Repeated-clause-read : goal.nesting_statement-returns-in_ok-member-in-Repeated-clause-read
nesting_statement-returns-in_ok-member-in-Repeated-clause-read t c =
    rw (c.in-Repeated.is) (λ n l. mapped_reads MessageStatement.a_field _ _ _ (c.in_ok-member-in-Repeated.ensures.read n l))

pub nesting_statement-returns-in_ok-member-in-Optional-clause-read : goal.nesting_statement-returns-in_ok-member-in-Optional-clause-read
nesting_statement-returns-in_ok-member-in-Optional-clause-read t c =
    rw (c.in-Optional.is) (λ n l. subst (λ label. mapped MessageStatement.a_field (labelled_reader c.args.grammar n (codes "optional") label (nested_in c.args.grammar n c.args.depth_left)) all_rules (symbols_from c.args.symbols.now c.args.at) ≡ Ok (MessageStatement.a_field (member_view c.in_ok-member-in-Optional.member), symbols_from c.args.symbols.now c.in_ok-member-in-Optional.after))
    c.optional_label-label.ensures (mapped_reads MessageStatement.a_field _ _ _ (c.in_ok-member-in-Optional.ensures.read n l)))

pub nesting_statement-returns-in_ok-member-in-Required-clause-read : goal.nesting_statement-returns-in_ok-member-in-Required-clause-read
nesting_statement-returns-in_ok-member-in-Required-clause-read t c =
    let h : is_proto2 c.args.grammar ≡ true = search rules in
    rw c.in-Required.is (λ n l. (if_taken (is_proto2 c.args.grammar) (mapped MessageStatement.a_field (labelled_reader c.args.grammar n (codes "required") Unlabelled (nested_in c.args.grammar n c.args.depth_left))) (symbols_from c.args.symbols.now c.args.at) h) ∙ mapped_reads MessageStatement.a_field _ _ _ (c.in_ok-member-in-Required.ensures.read n l))

-- ---- a statement

pub message_statement-returns-in_default-clause-read : goal.message_statement-returns-in_default-clause-read
message_statement-returns-in_default-clause-read t c = λ n l.
    let e : symbols_from c.args.symbols.now c.args.at ≡ [] = search rules in
    rw e (no_room_statement c.args.grammar c.args.depth_left n)

pub message_statement-returns-then-depth_left-eq0-clause-read : goal.message_statement-returns-then-depth_left-eq0-clause-read
message_statement-returns-then-depth_left-eq0-clause-read t c = λ n l.
    let k : message_kind (symbol_of c.in-Some.first.now.symbol) ≡ Some kind.Message = cc in
    rw c.if-depth_left-eq0.true (message_too_deep c.args.grammar n _ _ _ c.in-Some.ensures.found.1 k)

pub message_statement-returns-in_err-inner-in-Some-Message-clause-read : goal.message_statement-returns-in_err-inner-in-Some-Message-clause-read
message_statement-returns-in_err-inner-in-Some-Message-clause-read t c =
    let p = err_from_is_err_and c.from_residual.result c.from_residual.ensures.1 in
    let k : message_kind (symbol_of c.in-Some.first.now.symbol) ≡ Some kind.Message = cc in
    let left : 0 < c.args.depth_left = omega arith in
    rw (p.1, p.2) (λ n l. rw (message_in_room c.args.grammar n c.args.depth_left _ _ _ left c.in-Some.ensures.found.1 k) (mapped_fails MessageStatement.a_message c.args.symbols.now _ _ (c.in_err-inner-in-Some-Message.ensures.read n l)))

pub message_statement-returns-in_ok-inner-in-Some-Message-clause-read : goal.message_statement-returns-in_ok-inner-in-Some-Message-clause-read
message_statement-returns-in_ok-inner-in-Some-Message-clause-read t c = λ n l.
    let k : message_kind (symbol_of c.in-Some.first.now.symbol) ≡ Some kind.Message = cc in
    let left : 0 < c.args.depth_left = omega arith in
    message_in_room c.args.grammar n c.args.depth_left _ _ _ left c.in-Some.ensures.found.1 k ∙ mapped_reads MessageStatement.a_message _ _ _ (c.in_ok-inner-in-Some-Message.ensures.read n l)

pub message_statement-returns-in_err-statement-in-Some-message_kind : goal.message_statement-returns-in_err-statement-in-Some-message_kind
message_statement-returns-in_err-statement-in-Some-message_kind t c =
    let p = err_from_is_err_and c.from_residual-in_err-statement-in-Some-message_kind.result c.from_residual-in_err-statement-in-Some-message_kind.ensures.1 in
    let k : message_kind (symbol_of c.in-Some.first.now.symbol) ≡ Some c.in-Some-message_kind.kind = cc in
    let nesting : is_nesting c.in-Some-message_kind.kind ≡ true = search rules in
    rw (p.1, p.2) (record { within = tt; bound = tt; read = λ n l. rw (other_in_room c.args.grammar n c.args.depth_left _ _ _ c.in-Some-message_kind.kind c.in-Some.ensures.found.1 k (nesting_not c.in-Some-message_kind.kind nesting)) (c.in_err-statement-in-Some-message_kind.ensures.read n l) })

pub message_statement-returns-then-is_nesting : goal.message_statement-returns-then-is_nesting
message_statement-returns-then-is_nesting t c =
    let k : message_kind (symbol_of c.in-Some.first.now.symbol) ≡ Some c.in-Some-message_kind.kind = cc in
    let nesting : is_nesting c.in-Some-message_kind.kind ≡ true = search rules in
    record { within = c.in_ok-statement-in-Some-message_kind.ensures.within; bound = c.in_ok-statement-in-Some-message_kind.ensures.bound; read = λ n l. other_in_room c.args.grammar n c.args.depth_left _ _ _ c.in-Some-message_kind.kind c.in-Some.ensures.found.1 k (nesting_not c.in-Some-message_kind.kind nesting) ∙ c.in_ok-statement-in-Some-message_kind.ensures.read n l }

pub message_statement-returns-in_err-statement-in-Some-message_kind-2 : goal.message_statement-returns-in_err-statement-in-Some-message_kind-2
message_statement-returns-in_err-statement-in-Some-message_kind-2 t c =
    let p = err_from_is_err_and c.from_residual-in_err-statement-in-Some-message_kind-2.result c.from_residual-in_err-statement-in-Some-message_kind-2.ensures.1 in
    let k : message_kind (symbol_of c.in-Some.first.now.symbol) ≡ Some c.in-Some-message_kind.kind = cc in
    let plain : is_plain c.in-Some-message_kind.kind ≡ true = search rules in
    rw (p.1, p.2) (record { within = tt; bound = tt; read = λ n l. rw (other_in_room c.args.grammar n c.args.depth_left _ _ _ c.in-Some-message_kind.kind c.in-Some.ensures.found.1 k (plain_not c.in-Some-message_kind.kind plain)) (c.in_err-statement-in-Some-message_kind-2.ensures.read (nested_in c.args.grammar n c.args.depth_left) n l) })

pub message_statement-returns-in_ok-statement-in-Some-message_kind-2 : goal.message_statement-returns-in_ok-statement-in-Some-message_kind-2
message_statement-returns-in_ok-statement-in-Some-message_kind-2 t c =
    let k : message_kind (symbol_of c.in-Some.first.now.symbol) ≡ Some c.in-Some-message_kind.kind = cc in
    let plain : is_plain c.in-Some-message_kind.kind ≡ true = search rules in
    record { within = c.in_ok-statement-in-Some-message_kind-2.ensures.within; bound = c.in_ok-statement-in-Some-message_kind-2.ensures.bound; read = λ n l. other_in_room c.args.grammar n c.args.depth_left _ _ _ c.in-Some-message_kind.kind c.in-Some.ensures.found.1 k (plain_not c.in-Some-message_kind.kind plain) ∙ c.in_ok-statement-in-Some-message_kind-2.ensures.read (nested_in c.args.grammar n c.args.depth_left) n l }

pub message_statement-returns-in-None-clause-read : goal.message_statement-returns-in-None-clause-read
message_statement-returns-in-None-clause-read t c = λ n l.
    let k : message_kind (symbol_of c.in-Some.first.now.symbol) ≡ None = cc in
    none_in_room c.args.grammar n c.args.depth_left _ _ _ c.in-Some.ensures.found.1 k
