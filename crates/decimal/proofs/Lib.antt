-- The laws of plain decimal that crates above cite.
pub mod ValueLaws
pub mod FieldLaws
pub mod WidthLaws
pub mod PrintLaws
pub mod DecimalLaws
