pub mod Cell
pub mod Frame
pub mod Export
pub mod Laws
