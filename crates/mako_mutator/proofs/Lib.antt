pub mod Tasks
pub mod ProgramCalls
pub mod DriverTelling
pub mod DriverGoing
pub mod StepsAtOnce
