-- The numbers of committing after those of the passes: Numbers.
pub mod Numbers
