-- A request, and the start of a word, on a run that stands in a list: Told, the contracts of ligkern_ask_font and ligkern_start_word.
pub mod Told
