pub mod Image
pub mod Books
