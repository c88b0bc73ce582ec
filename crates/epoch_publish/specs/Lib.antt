pub mod History
pub mod Publications
pub mod Lending
