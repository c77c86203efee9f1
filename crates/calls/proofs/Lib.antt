-- Lemmas on calls.
pub mod Lefts
pub mod Agree
pub mod Written
pub mod Tested
pub mod Steps
pub mod Lists
pub mod Promise
pub mod Again
pub mod Reaches
pub mod Opened
pub mod FitsAgain
pub mod Reach
pub mod Exist
