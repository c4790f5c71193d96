-- Sources make one pool or have one fault, so what was answered is all that may be.
use Rattle.pb_source.specs.declared.reading.Reading.TheVariants.{Strict}
use Rattle.pb_c_handles.specs.Held.{types_held}
use Rattle.pb_c.specs.PoolFault.{TellsRefusal}
use Rattle.pb_c.specs.SourcePool.{SourcesFail, SourcesMake}
use Rattle.pb_c.proofs.Exact.{accepted, told}
use Rattle.pb_c.proofs.OneSourcePool.{never_both, one_fault, one_types}
use Rattle.pb_c.proofs.pool.compile.mb_pool_compile.Goals as goal

pub returns-clause-accepted : goal.returns-clause-accepted
returns-clause-accepted c named =
    let names = c.args.names.now in let texts = c.args.texts.now in let s = c.compile_sources in
    accepted (SourcesMake Strict names texts) (SourcesFail Strict names texts) (never_both Strict names texts) s.result (types_held s.new.pool)
    (λ w. TellsRefusal w s.result c.args.refusal.now s.new.refusal c.args.text.now s.new.text) s.ensures.made (s.ensures.refused named) (one_types Strict names texts)

pub returns-clause-told : goal.returns-clause-told
returns-clause-told c named =
    let names = c.args.names.now in let texts = c.args.texts.now in let s = c.compile_sources in
    told (SourcesMake Strict names texts) (SourcesFail Strict names texts) (never_both Strict names texts) s.result (types_held s.new.pool)
    (λ w. TellsRefusal w s.result c.args.refusal.now s.new.refusal c.args.text.now s.new.text) s.ensures.made (s.ensures.refused named) (one_fault Strict names texts)
