-- The laws of this crate: a start where a card stands, and what every call leaves.
pub mod StartLaws
pub mod StayLaws
