-- The laws of stamps looked at one by one.
pub mod StampLaws
pub mod Pins
