pub mod ComponentNumbers
pub mod Lists
