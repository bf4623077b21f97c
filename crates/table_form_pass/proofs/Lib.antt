-- The laws of table_form_pass.
--   KeyLaws      a pair's place in the order, by the least key that it may have
--   Entries      a record that fits: its ops and its last
--   PairOps      a pair's ops stepped from the front
--   PairReads    the numbers of a pair, from the words that were read
--   PassedPairs  the pass over the pairs tests the form
pub mod KeyLaws
pub mod Entries
pub mod PairOps
pub mod PairReads
pub mod PassedPairs
