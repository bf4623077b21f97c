-- One step of a run that stands in a list and may change its font: FontSteps, the contract of ligkern_font_step.
pub mod FontSteps
