pub mod Calls
pub mod Payload
pub mod Independence
pub mod Run
pub mod NoOverlap
pub mod Kept
