pub mod Cases
pub mod Vacant
pub mod Numbers
pub mod Answers
pub mod Views
pub mod Fitness
