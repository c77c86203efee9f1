-- What every call of the engine does, and what is promised of lists of calls.
pub mod Memory
pub mod Left
pub mod Fit
pub mod Process
pub mod Opening
pub mod Equal
pub mod Outcome
pub mod Answer
pub mod Exist
pub mod Runs
pub mod Promise
pub mod NotEmpty
pub mod Again
