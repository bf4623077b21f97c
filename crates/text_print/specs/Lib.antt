-- What the programs `ligcols` and `ligcols_convert` print.
--   Printing  the reply or what a text becomes, or the line N: the contracts of `print_answer` and `print_converted`, and what is proved of them
pub mod Printing
