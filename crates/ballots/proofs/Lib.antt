-- What is proved of majorities from the definitions in specs/. Cited by the crates above.
pub mod MajorityLaws
pub mod Words
