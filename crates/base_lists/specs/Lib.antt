pub mod Kit
pub mod List
pub mod Below
