use Rattle.std.proofs.Common.{◌≡◌, length, subst, arith, Some}
use Rattle.std.specs.Prelude.{slice_get}
use Rattle.pb_schema.specs.View.{message_view as view_of_message}
use Rattle.pb_declarations.specs.Decls.{DeclaredMessage}
use Rattle.pb_link.specs.Nested.{PlacesAt, with_message}
use Rattle.pb_link.proofs.DeclaredLemmas.{listed_size, viewed_get}
use Rattle.pb_link.proofs.NestedLemmas.{message_placed}
use Rattle.pb_link.proofs.declaring.nesting.nest_message.Goals as goal

pub returns : goal.returns
returns c =
    let ts = c.args.pool.now in
    let i = c.args.index in
    let m = c.index-messages-index.result in
    let size = listed_size view_of_message c.messages.result.now ts.messages c.messages.ensures.listed in
    let within = c.requires.within in
    let there : slice_get ts.messages i ≡ Some (view_of_message m) = viewed_get view_of_message c.messages.result.now ts.messages i m c.messages.ensures.listed (omega (arith, size, within)) c.index-messages-index.is in
    message_placed ts (length ts.enums) i (view_of_message m) c.args.files.now.items c.args.messages.now.items c.place_message.new.files.items c.place_message.new.messages.items there c.requires.files c.requires.messages
    (subst (λ (d : DeclaredMessage). PlacesAt m.file (view_of_message m).parent (with_message d) c.args.files.now.items c.args.messages.now.items c.place_message.new.files.items c.place_message.new.messages.items) (c.in_ok-decl.ensures (view_of_message m) there) c.in_ok-place_message.ensures)
