-- integers and floats
pub mod IntegerLaws
pub mod FloatLaws
-- digits of two and three, and fractions of a second
pub mod DigitLaws
-- points in time and lengths of time
pub mod TimeLaws
-- field masks
pub mod MaskLaws
pub mod PathLaws
-- bytes in base64
pub mod BytesLaws
-- values of each kind, and keys
pub mod ScalarLaws
pub mod EnumLaws
-- the texts of values
pub mod CharacterLaws
pub mod NumberTexts
pub mod TextLaws
pub mod PlainLaws
-- messages
pub mod EntryLaws
pub mod NameLaws
pub mod NanLaws
pub mod MessageLaws
pub mod ValueLaws
pub mod WellLaws
-- types with a form of their own
pub mod WellKnownFields
pub mod FormTexts
pub mod FormLaws
pub mod AnyLaws
pub mod TagLaws
pub mod HereLaws
pub mod WrittenLaws
-- the texts of messages
pub mod MessageTexts
-- small cases
mod Rows
