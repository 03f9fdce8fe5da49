-- What a reader must believe of card and rack together: what each call makes of them, and what the contracts promise of it.
pub mod World
pub mod Promised
