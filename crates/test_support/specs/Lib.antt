pub mod Other
pub mod Laws
