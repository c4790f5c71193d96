-- Strings as the values of a list.
use Rattle.std.proofs.Common.{◌≡◌, ℕ, ◌+◌, ◌<◌, List, String, Global, string_bytes, length, drop, get_or, map, refl, ap}
use Rattle.pb_value.specs.Data.{Datum, scalar, Datums, no_datums, datum, joined_datums}
use Rattle.pb_schema.specs.Scalar.{text}
use Rattle.pb_json_read.specs.WellKnown.{texts}
use Rattle.pb_json_read.proofs.ReadLemmas.{from_item}

pub joined_none : (ds : Datums) → joined_datums ds no_datums ≡ ds
joined_none no_datums = refl
joined_none (datum d ds) = ap (datum d) (joined_none ds)

pub joined_more : (ds : Datums) (d : Datum) (es : Datums) → joined_datums (joined_datums ds (datum d no_datums)) es ≡ joined_datums ds (datum d es)
joined_more no_datums d es = refl
joined_more (datum e ds) d es = ap (datum e) (joined_more ds d es)

pub texts_next : (ss : List (String Global)) (i : ℕ) (s : String Global) → i < length ss → s ≡ get_or ss i s
    → texts (map string_bytes (drop i ss)) ≡ datum (scalar (text (string_bytes s))) (texts (map string_bytes (drop (i + 1) ss)))
texts_next ss i s below is = ap (λ (l : List (String Global)). texts (map string_bytes l)) (from_item ss i s below is)
