-- What a reader must believe of the paper's table.
pub mod Run
pub mod Table
