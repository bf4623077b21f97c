-- Laws: Telling, what a call tells from what its function answers.
pub mod Telling
