-- The answers of the commands that read by a type, up to where the file of messages is opened: the set is there, is one, links, and has the type.
use Rattle.std.specs.Prelude.{◌≡◌, ℕ, List, Option, Some}
use Rattle.pb_schema.specs.Types.{Types}
use Rattle.pbtool_files.specs.Answer.{Answer, device_failed}
use Rattle.pbtool_files.specs.SetFile.{HasType, NoType}
use Rattle.pbtool_files.specs.declared.set_file.Reading.{Reading}

-- Where IsAtSet says which file is at the set's path, and IsMissing that none is at that of the messages: there is no such type, or no such
-- file, or what is then read by the type gives the answer.
pub data TypeAnswer
    (IsAtSet : Option (List ℕ) → Type 0) (IsMissing : Type 0) (ComesTo : Types → ℕ → Answer → Type 0) (reading : Reading) (name set_path path : List ℕ)
    (answer : Answer) : Type 0 where
  no_type :
      {content : Option (List ℕ)} → IsAtSet content → NoType reading name set_path content answer
      → TypeAnswer IsAtSet IsMissing ComesTo reading name set_path path answer
  missing :
      {set : List ℕ} {pool : Types} {m : ℕ} → IsAtSet (Some set) → HasType reading name set pool m → IsMissing → answer ≡ device_failed path
      → TypeAnswer IsAtSet IsMissing ComesTo reading name set_path path answer
  opened :
      {set : List ℕ} {pool : Types} {m : ℕ} → IsAtSet (Some set) → HasType reading name set pool m → ComesTo pool m answer
      → TypeAnswer IsAtSet IsMissing ComesTo reading name set_path path answer
