mod Trails
mod ArrivalRuns
mod DepartureRuns
mod ReopeningRuns
mod ShutdownRuns
pub mod Changes
pub mod Lists
pub mod Numbers
pub mod GatesKept
pub mod GateKinds
pub mod Found
pub mod ActionSteps
pub mod GatesTell
pub mod GatesHold
mod SingleGates
mod Examples
