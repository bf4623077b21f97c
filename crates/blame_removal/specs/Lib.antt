-- One removal answered: Edited (the contract of answer_edited).
pub mod Edited
