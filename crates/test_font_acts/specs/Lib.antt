-- What a host does on one run: Acts (where its acts stand, and how many there are).
pub mod Acts
