use Rattle.std.proofs.Common.{◌≡◌, ◌∙◌, Option, map, sym, ap, subst, position}
use Rattle.std.specs.Prelude.{IfSome}
use Rattle.std.specs.Str.{bytes_eq}
use Rattle.pb_names.specs.NameSets.{NameSet}
use Rattle.pb_schema.specs.Types.{FieldView}
use Rattle.pb_names.specs.NameSets.{names_in}
use Rattle.pb_schema.specs.View.{field_view}
use Rattle.pb_schema.proofs.LookupLemmas.{place_by_name, place_read, place_some, read_named, unnamed}
use Rattle.pb_schema.proofs.tables.names.field_named.Goals as goal

pub returns-in-Some-index_of : goal.returns-in-Some-index_of
returns-in-Some-index_of c =
    let name = c.args.name.now in
    let fields = c.args.fields.now in
    let same = subst (λ (o : Option NameSet). IfSome o (λ s. names_in s ≡ map (λ (f : FieldView). f.name) (map field_view fields))) c.in-Some.is c.requires in
    let at = sym c.in-Some-index_of.is ∙ c.index_of.ensures ∙ place_by_name c.as_bytes.result.now (map field_view fields) (names_in c.in-Some.set) same ∙ ap (λ q. position (λ (f : FieldView). bytes_eq q f.name) (map field_view fields)) c.as_bytes.ensures.value in
    read_named name fields c.in-Some-index_of.index c.get.result (place_some (λ (f : FieldView). bytes_eq name f.name) (map field_view fields) c.in-Some-index_of.index (sym at)) (place_read fields c.in-Some-index_of.index c.get.result c.get.ensures.lookup.3)

pub returns-in-None : goal.returns-in-None
returns-in-None c =
    let fields = c.args.fields.now in
    let same = subst (λ (o : Option NameSet). IfSome o (λ s. names_in s ≡ map (λ (f : FieldView). f.name) (map field_view fields))) c.in-Some.is c.requires in
    let at = sym c.in-None.is ∙ c.index_of.ensures ∙ place_by_name c.as_bytes.result.now (map field_view fields) (names_in c.in-Some.set) same ∙ ap (λ q. position (λ (f : FieldView). bytes_eq q f.name) (map field_view fields)) c.as_bytes.ensures.value in
    sym (unnamed c.args.name.now (map field_view fields) (sym at))
