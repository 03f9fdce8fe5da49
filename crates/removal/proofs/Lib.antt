-- The laws of ExtractMin's and Delete's finish.
pub mod RemovalLaws
pub mod ExtractLaws
pub mod LiveLaws
