-- What the contracts cite.
-- The contracts say of what is read that the places stay within the buffers, and of what is written which bytes.
pub mod Places
pub mod PlacesLaws
pub mod PutOut
pub mod StopLine
pub mod StopLineLaws
pub mod ErrorTexts
