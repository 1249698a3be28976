pub mod Said
pub mod Statement
