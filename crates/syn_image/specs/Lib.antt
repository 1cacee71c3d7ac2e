pub mod Images
pub mod Archives
pub mod inner
