pub mod MutatorSteps
