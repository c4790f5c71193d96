use Rattle.std.proofs.Common.{map, refl, ap, sym, ◌∙◌, append-nil, string_bytes}
use Rattle.std.proofs.lemmas.List.{map_push, map-append}
use Rattle.pb_declarations.specs.View.{numbered_view}
use Rattle.pb_source.specs.Meaning.{EnumStatement}
use Rattle.pb_source.proofs.SaidSteps.{enum_changed}
use Rattle.pb_source.proofs.parsing.enums.add_enum_statement.Goals as goal

pub returns-in-Nothing : goal.returns-in-Nothing
returns-in-Nothing c = rw c.in-Nothing.is
    (λ name ss h.
    let d = c.args.decl.now in
    enum_changed d d name ss EnumStatement.nothing_said h refl (sym (append-nil (map numbered_view d.values.items))) refl (sym (append-nil d.reserved.items)) (sym (append-nil (map string_bytes d.reserved_names.items))))

pub returns-in-AllowAlias : goal.returns-in-AllowAlias
returns-in-AllowAlias c = rw c.in-AllowAlias.is
    (λ name ss h.
    let d = c.args.decl.now in
    enum_changed d (record d { allow_alias = c.in-AllowAlias.allow }) name ss (EnumStatement.allows_alias c.in-AllowAlias.allow) h refl (sym (append-nil (map numbered_view d.values.items))) refl
    (sym (append-nil d.reserved.items)) (sym (append-nil (map string_bytes d.reserved_names.items))))

pub returns-in_ok-push-in-Value : goal.returns-in_ok-push-in-Value
returns-in_ok-push-in-Value c = rw c.in-Value.is
    (λ name ss h.
    let d = c.args.decl.now in
    enum_changed d (record d { values = c.push.new.self }) name ss (EnumStatement.a_value (string_bytes c.in-Value.value.0) c.in-Value.value.1) h refl
    (ap (map numbered_view) c.in_ok-push-in-Value.ensures.items ∙ map_push numbered_view d.values.items c.in-Value.value) refl
    (sym (append-nil d.reserved.items)) (sym (append-nil (map string_bytes d.reserved_names.items))))

pub returns-in_ok-append-in-Ranges : goal.returns-in_ok-append-in-Ranges
returns-in_ok-append-in-Ranges c = rw c.in-Ranges.is
    (λ name ss h.
    let d = c.args.decl.now in
    enum_changed d (record d { reserved = c.append.new.self }) name ss (EnumStatement.reserved_ranges c.in-Ranges.ranges.items) h refl (sym (append-nil (map numbered_view d.values.items))) refl
    c.in_ok-append-in-Ranges.ensures.items (sym (append-nil (map string_bytes d.reserved_names.items))))

pub returns-in_ok-append-in-Names : goal.returns-in_ok-append-in-Names
returns-in_ok-append-in-Names c = rw c.in-Names.is
    (λ name ss h.
    let d = c.args.decl.now in
    enum_changed d (record d { reserved_names = c.append-in-Names.new.self }) name ss (EnumStatement.reserved_names (map string_bytes c.in-Names.names.items)) h refl (sym (append-nil (map numbered_view d.values.items))) refl
    (sym (append-nil d.reserved.items)) (ap (map string_bytes) c.in_ok-append-in-Names.ensures.items ∙ map-append string_bytes d.reserved_names.items c.in-Names.names.items))
