-- What is written of the listing of a message.
use Rattle.std.specs.Prelude.{◌≡◌, ℕ, List, Option, Some}
use Rattle.pb_value.specs.Dynamic.{Dynamic}
use Rattle.pb_listing.specs.Listing.{listing}
use Rattle.pb_listing.specs.ListingAs.{IsListing}
use Rattle.pb_listing.specs.declared.form.FloatForm.{FloatForm}
use Rattle.pb_listing.specs.declared.form.FloatForm.TheVariants.{Bits, Decimal}
use Rattle.pb_c_answers.specs.Reporting.{IsLaid}

-- a listing of the message with floats in decimal is laid over the buffer
abbrev pub IsListedDecimal : Dynamic → List ℕ → List ℕ → ℕ → Type 0
IsListedDecimal m old new size = (s : List ℕ) × IsListing Decimal m s × IsLaid s old new size

-- one of the message that is held is
abbrev pub IsListed : Option Dynamic → List ℕ → List ℕ → ℕ → Type 0
IsListed held old new size = (m : Dynamic) × (held ≡ Some m) × IsListedDecimal m old new size

-- the listing of the message in this form is laid over the buffer
abbrev pub IsListedAs : FloatForm → Dynamic → List ℕ → List ℕ → ℕ → Type 0
IsListedAs Bits m old new size = IsLaid (listing m) old new size
IsListedAs Decimal m old new size = IsListedDecimal m old new size
