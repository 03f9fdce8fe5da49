-- The laws of loaded scratches.
pub mod ShownLaws
