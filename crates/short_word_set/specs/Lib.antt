-- The next short word with its items: SetNext (the contract of set_next). What it means is crate short_word_settings.
pub mod SetNext
