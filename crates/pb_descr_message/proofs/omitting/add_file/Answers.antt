use Rattle.std.proofs.Common.{map}
use Rattle.pb_value.specs.View.{value_view}
use Rattle.pb_descr_message.specs.Omitted.{omitted_view}
use Rattle.pb_descr_message.proofs.OmittedLemmas.{file_gathered}
use Rattle.pb_descr_message.proofs.omitting.add_file.Goals as goal

pub returns : goal.returns
returns c =
    file_gathered c.args.index c.is_proto2.result (value_view c.args.file.now) (map omitted_view c.args.omitted.now.items) (map omitted_view c.add_extensions.new.omitted.items) (map omitted_view c.add_messages.new.omitted.items)
    c.name_at-package.result.now (map value_view c.values_at.result.now) (map value_view c.values_at-2.result.now) c.name_at-package.ensures c.is_proto2.ensures c.values_at.ensures c.values_at-2.ensures
    c.in_ok-add_extensions.ensures c.in_ok-add_messages.ensures
