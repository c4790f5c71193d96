use Rattle.std.proofs.Common.{sym}
use Rattle.pb_text_tokens.proofs.StringLemmas.{string_on, string_closes, string_stops, string_open, room_at}
use Rattle.pb_text_tokens.proofs.strings.string_len.Goals as goal

pub returns-in-Close-clause-inside : goal.returns-in-Close-clause-inside
returns-in-Close-clause-inside c = string_closes c.args.quote c.loop-at.at c.args.bytes.now c.loop-at.invariant.read (sym c.in-Close.ensures.is)

pub loop-at-preserved : goal.loop-at-preserved
loop-at-preserved c = record {
  within = room_at c.args.bytes.now c.loop-at.at c.in-Pass.len c.loop-at.invariant.within c.in-Pass.ensures.within.1;
  read = string_on c.args.quote c.loop-at.at c.in-Pass.len c.args.bytes.now c.loop-at.invariant.read (sym c.in-Pass.ensures.is);
}

pub returns-in-Stop-clause-inside : goal.returns-in-Stop-clause-inside
returns-in-Stop-clause-inside c = string_stops c.args.quote c.loop-at.at c.args.bytes.now c.in-Stop.cause c.loop-at.invariant.read (sym c.in-Stop.ensures.is)

pub returns-clause-inside : goal.returns-clause-inside
returns-clause-inside c = string_open c.args.quote c.loop-at.at c.args.bytes.now c.loop-at-test.false c.loop-at.invariant.read
