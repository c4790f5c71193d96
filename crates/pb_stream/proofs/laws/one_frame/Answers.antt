use Rattle.pb_stream.proofs.OneFrame as frames
use Rattle.pb_stream.proofs.laws.one_frame.Goals as goal

pub returns-clause-exactly : goal.returns-clause-exactly
returns-clause-exactly c = λ pool m limits input some bytes. frames.exactly_one pool m limits input some bytes

pub returns-clause-one : goal.returns-clause-one
returns-clause-one c = λ pool m limits input rest more v w h g. frames.one_frame pool m limits h g
