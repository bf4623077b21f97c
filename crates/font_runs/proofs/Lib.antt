-- The laws of font_runs.
--   Theorems    what specs/ states
--   Passing     the first free state of a step
--   Moving      a run over the rest of a word is one over the word, turn by turn
--   Shifting    the same of steps, in a font that fits
--   Standing    where the free states of a run stand
--   Parts       a host's run is that over a part of a word
--   Idle        without a request
--   Began       a run at its left boundary is as it began
--   Clearing    where no op is to be given, the place among the ops is not read
--   Restarting  a free state and the same restarted answer the same, in one font
--   Asking      a request for the font in force
pub mod Passing
pub mod Moving
pub mod Shifting
pub mod Standing
pub mod Parts
pub mod Idle
pub mod Began
pub mod Clearing
pub mod Restarting
pub mod Asking
pub mod Theorems
