use Rattle.pb_source_tokens.proofs.SymbolLemmas.{word_first, number_first, sign_first, texts_first}
use Rattle.pb_source_tokens.proofs.symbols.symbol_at_front.Goals as goal

pub returns-in-Word-clause-read : goal.returns-in-Word-clause-read
returns-in-Word-clause-read c ss r = word_first c.args.tokens.now _ ss c.requires.some c.in-Word.is r

pub returns-in-Number-clause-read : goal.returns-in-Number-clause-read
returns-in-Number-clause-read c ss r = number_first c.args.tokens.now _ ss c.requires.some c.in-Number.is r

pub returns-in-Sign-clause-read : goal.returns-in-Sign-clause-read
returns-in-Sign-clause-read c ss r = sign_first c.args.tokens.now _ ss c.requires.some c.in-Sign.is r

pub returns-in_ok-bytes-in-Text-clause-read : goal.returns-in_ok-bytes-in-Text-clause-read
returns-in_ok-bytes-in-Text-clause-read c ss r =
    texts_first c.args.tokens.now _ c.in_ok-bytes-in-Text.count c.in_ok-bytes-in-Text.bytes.items ss c.requires.some c.in-Text.is c.in_ok-bytes-in-Text.ensures.joined c.in_ok-bytes-in-Text.ensures.stops r
