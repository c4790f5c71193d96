use Rattle.std.proofs.Common.{◌∙◌, map, take, ap}
use Rattle.pb_declarations.specs.View.{file_view}
use Rattle.pb_link_names.specs.View.{declaration_view, type_names_view}
use Rattle.pb_link_names.specs.TypeRefs.{refs_view}
use Rattle.pb_link_rules.proofs.NamesLemmas.{right_names}
use Rattle.pb_link_rules.proofs.naming.type_names_at.Goals as goal

pub returns : goal.returns
returns c =
    let d = c.args.declaration.now in
    record {
      ready = c.in_ok-look_from.ensures.ready;
      found = λ w is. right_names (map file_view c.args.files.now) c.args.imports.now c.look_from.new.scene w (map declaration_view c.args.row.now) (declaration_view d) (refs_view c.refs_of-refs.result) c.front-scope.result.now (type_names_view c.in_ok-names.names)
          c.in_ok-look_from.ensures.ready c.in_ok-look_from.ensures.file is c.requires.row c.refs_of-refs.ensures
          (c.front-scope.ensures ∙ ap (take d.scope_len) (c.as_bytes.ensures.value ∙ c.as_str.ensures.value)) c.in_ok-names.ensures;
    }
