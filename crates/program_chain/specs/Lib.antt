-- Crate program_chain is held to two files. Read Chains from its top: the chain, the rule on it, what a rule does, and last the contract of
-- the whole walk. Purpose says what passing over redirects means for the rule of a pair.
pub mod Chains
pub mod Purpose
