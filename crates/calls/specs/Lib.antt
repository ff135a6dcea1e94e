-- The definitions that the contracts cite, and beside them their laws.
-- UnlessZero, Header, FirstLine, Tables, Call and ErrorTexts are what a reader must believe.
pub mod UnlessZero
pub mod UnlessZeroLaws
pub mod Header
pub mod HeaderLaws
pub mod FirstLine
pub mod FirstLineLaws
pub mod Tables
pub mod TablesLaws
pub mod Call
pub mod CallLaws
pub mod ErrorTexts
