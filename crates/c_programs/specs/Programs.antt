-- The replies of the calls about programs: each is the reply that the contract of the port's own function states.
use Rattle.std.specs.Prelude.{List, [], ◌∷◌, ℕ, ℤ, pos, length}
use Rattle.words.specs.Words.{word_of}
use Rattle.lang.specs.Records.{count}
use Rattle.lang.specs.Answers.{Reply, reply_of}
use Rattle.program_chain.specs.Chains.{chain_of, walk_refusal}
use Rattle.reach.specs.Reach.{reach_refusal}

-- instructions_for_entrypoint (R63): how many instructions the chain has
abbrev pub walk_reply : List ℤ → ℤ → ℕ → Reply
walk_reply s entry room = reply_of (walk_refusal s entry room) (pos (length (chain_of s (word_of entry))) ∷ [])

-- reachable_iter (R151): how many instructions there are
abbrev pub reach_reply : List ℤ → List ℤ → ℤ → List ℕ → ℕ → Reply
reach_reply s es left p room = reply_of (reach_refusal s es left p room) (pos (count s) ∷ [])
