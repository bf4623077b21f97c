-- What is proved of TeX's main loop.
--   Lettered  the one-by-one reading with letters and hits, which the loop does turn by turn
--   Moving    moving on: the labels of TeX 1036 to 1038
--   Turning   one turn of the loop is one step of the lettered reading
--   Running   so the loop stops when the lettered reading ends, with its nodes
--   Erasing   the lettered reading without letters is the reading
--   Theorems  THE theorem: the loop stops when the reading ends, with its items
--   Words     the nodes of fourteen words, computed
pub mod Lettered
pub mod Moving
pub mod Turning
pub mod Running
pub mod Erasing
pub mod Theorems
pub mod Words
