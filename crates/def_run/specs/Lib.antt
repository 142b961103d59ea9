pub mod SystemStates
pub mod CoreSteps
pub mod Executions
pub mod Openings
pub mod Refusals
pub mod Reports
pub mod CrashFree
pub mod Audits
