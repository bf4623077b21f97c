-- The replies of the questions about a table (R121 to R127): each is the reply that the contract of the port's own function states; those
-- of one number are `hasReply` and `safeReply` of captions/specs/Queries.
use Rattle.std.specs.Prelude.{List, [], ◌∷◌, ℕ, ℤ, pos}
use Rattle.lang.specs.Answers.{Reply, reply_of}
use Rattle.captions.specs.Tables.{pair_count}
use Rattle.captions.specs.Queries.{keys_refusal}

-- all_pairs_with_replacements: how many pairs there are
abbrev pub pairs_reply : List ℤ → ℕ → Reply
pairs_reply pairs room = reply_of (keys_refusal pairs room) (pos (pair_count pairs) ∷ [])
