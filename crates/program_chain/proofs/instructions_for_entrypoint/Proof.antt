-- `program_chain::instructions_for_entrypoint` meets its contract: where the walk is refused the list is zeros, else the chain is written over them.
-- Assumes nothing.
use mathlib.Core.Path.{◌≡◌, sym, ap, ◌∙◌}
use mathlib.Core.List.{List}
use Prim.Native.Nat.{ℕ, ◌≤◌}
use lib.IntN.{ℤ}
use lib.ListN.{length, replicate, length-replicate}
use mir.Syntax.{w32}
use mir.Val.{of_z, to_z, SFits}
use mir.ValLaws.{to_z-of_z}
use borrow.Author.Rules.{rules}
use Rattle.words.specs.Words.{word_of}
use Rattle.words.specs.Lists.{Appending}
use Rattle.words.proofs.Lists.{appending_rest}
use Rattle.lang.specs.declared.Written.TheVariants.{Count, Refused}
use Rattle.lang.specs.Records.{count}
use Rattle.lang.specs.Checks.{or_else, program_refusal, range_refusal}
use Rattle.lang.specs.Answers.{room_refusal}
use Rattle.lang.proofs.Refusals.{or_else_none, program_size, room_fits, refused_answer, taken_answer}
use Rattle.lang.proofs.Filled.{refused_list}
use Rattle.program_chain.specs.Chains.{chain_of, walk_refusal, WalksChain}
use Rattle.program_chain.proofs.instructions_for_entrypoint.Statement.{statement}
use Rattle.program_chain.proofs.instructions_for_entrypoint.Tie as tie

-- the list has been zeroed, and the refusal asked of the entry's bits and the list as it is then
module _ (s : List ℤ) (entry : ℤ) (out zeroed : List ℕ) (f : SFits w32 entry) (z : zeroed ≡ replicate (length out) 0) (r : ℕ)
    (asked : r ≡ walk_refusal s (to_z w32 (of_z w32 entry)) (length zeroed)) where
  refusal_is : r ≡ walk_refusal s entry (length out)
  refusal_is = asked ∙ rw (to_z-of_z w32 entry f, z, length-replicate)

  refused : (r ≡ 0 → ⊥) → WalksChain s entry out (Refused r) zeroed
  refused h =
      record {
        answer = refused_answer (length (chain_of s (word_of entry))) refusal_is h;
        list = refused_list 0 (length out) (chain_of s (word_of entry)) refusal_is h z;
      }

  -- the word of the entry, and the chain from there
  module _ (taken : r ≡ 0) (w : ℕ) (word : w ≡ word_of (to_z w32 (of_z w32 entry))) where
    word_is : w ≡ word_of entry
    word_is = word ∙ ap word_of (to_z-of_z w32 entry f)

    nothing-refused : walk_refusal s entry (length out) ≡ 0
    nothing-refused = sym refusal_is ∙ taken

    few : count s ≤ 32767
    few =
        program_size s
        (or_else_none (program_refusal s) (or_else (range_refusal 65535 entry) (room_refusal (length (chain_of s (word_of entry))) (length out))) nothing-refused).0

    room : length (chain_of s w) ≤ length zeroed
    room =
        let a = or_else_none (program_refusal s) (or_else (range_refusal 65535 entry) (room_refusal (length (chain_of s (word_of entry))) (length out)))
        nothing-refused in
        let b = or_else_none (range_refusal 65535 entry) (room_refusal (length (chain_of s (word_of entry))) (length out)) a.1 in
        rw (word_is, z, length-replicate) (room_fits (length (chain_of s (word_of entry))) (length out) b.1)

    ready : (count s ≤ 32767) × (length (chain_of s w) ≤ length zeroed)
    ready = (few, room)

    written : (m : ℕ) (out' : List ℕ) → m ≡ length (chain_of s w) → Appending (chain_of s w) zeroed out' → WalksChain s entry out (Count m) out'
    written m out' e h =
        record {
          answer = rw (rw word_is at e) (taken_answer (length (chain_of s (word_of entry))) nothing-refused);
          list = rw nothing-refused (appending_rest zeroed 0 (length out) z (rw word_is at h));
        }

zero-all-requires : tie.Need-zero_all-requires
zero-all-requires c κs = search rules

walk-refusal-requires : tie.Need-walk_refusal-refused-requires
walk-refusal-requires c κs = search rules

same_length : tie.Need-shape_of-out-then-refused-ne0
same_length c = search rules

returns : tie.Need-returns-then-refused-ne0
returns c =
    refused c.args.instructions.now c.args.entry c.args.out.now c.zero_all.new.s c.ranges.entry c.zero_all.ensures
    c.walk_refusal-refused.result c.walk_refusal-refused.ensures c.if-refused-ne0.true

word-of-requires : tie.Need-word_of-start-requires
word-of-requires c κs = search rules

cast-start : tie.Need-overflow_cast-start
cast-start c = search rules

write-chain-requires : tie.Need-write_chain-requires
write-chain-requires c κs =
    ready c.args.instructions.now c.args.entry c.args.out.now c.zero_all.new.s c.ranges.entry c.zero_all.ensures
    c.walk_refusal-refused.result c.walk_refusal-refused.ensures c.if-refused-ne0.false c.word_of-start.result c.word_of-start.ensures

same-length-2 : tie.Need-shape_of-out
same-length-2 c = search rules

returns-2 : tie.Need-returns
returns-2 c =
    written c.args.instructions.now c.args.entry c.args.out.now c.zero_all.new.s c.ranges.entry c.zero_all.ensures
    c.walk_refusal-refused.result c.walk_refusal-refused.ensures c.if-refused-ne0.false c.word_of-start.result c.word_of-start.ensures c.write_chain.result
    c.write_chain.new.out c.write_chain.ensures.0 c.write_chain.ensures.1

pub instructions_for_entrypoint_spec : {M : Type 1} → statement M
instructions_for_entrypoint_spec =
    tie.close
    (tie.spec
    zero-all-requires
    walk-refusal-requires
    same_length
    returns
    word-of-requires
    cast-start
    write-chain-requires
    same-length-2
    returns-2)
