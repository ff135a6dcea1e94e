-- The definitions that the contracts cite, and beside them their laws.
-- Text, Read, Write and ErrorTexts are what a reader must believe.
pub mod Text
pub mod Read
pub mod Write
pub mod ByTest
pub mod TextLaws
pub mod DigitLaws
pub mod ReadLaws
pub mod RecordLaws
pub mod WriteLaws
pub mod ErrorTexts
pub mod Cases
