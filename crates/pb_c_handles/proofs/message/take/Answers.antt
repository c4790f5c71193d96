-- A handle that says that it is full holds a pool.
use Rattle.std.proofs.Common.{◌∙◌, sym}
use Rattle.pb_c_handles.proofs.Filled.{filled}
use Rattle.pb_c_handles.proofs.message.take.Goals as goal

pub into_parts-requires : goal.into_parts-requires
into_parts-requires c = filled c.replace-seal.result.seal.message (sym c.replace-seal.result.agrees ∙ c.if-full.true)
