pub mod Laws
pub mod Old
pub mod Opening
