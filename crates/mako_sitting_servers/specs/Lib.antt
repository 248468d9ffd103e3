pub mod ServerSteps
