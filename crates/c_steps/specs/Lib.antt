-- One step of a run whose state stands in a list, the contract of ligkern_step: Step.
pub mod Step
