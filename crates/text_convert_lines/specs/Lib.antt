-- Lines written anew.
--   Anew  where lines begin and end, and what put_converted and the functions below it are held to
pub mod Anew
