-- Laws of two programs that walk alike: a chain reads of each instruction where it goes on, and a rule its right character and whether it is a redirect.
-- Assumes nothing.
use mathlib.Core.Path.{◌≡◌, refl, sym, ap, ◌∙◌}
use mathlib.Core.List.{List, [], ◌∷◌}
use Prim.Native.Nat.{ℕ, zero, suc}
use lib.IntN.{ℤ, pos}
use lib.ListN.{length}
use Rattle.words.specs.Words.{word_of}
use Rattle.lang.specs.declared.instruction.Instruction.{Instruction}
use Rattle.lang.specs.Records.{count, instruction_at}
use Rattle.lang.specs.Checks.{program_refusal}
use Rattle.lang.specs.Answers.{reply_of, list_of}
use Rattle.program_chain.specs.Chains.{Program, onward_from, chain_from, chain, is_redirect_op, first_for, rule_index, chain_of, rule_index_of, walk_refusal}
use Rattle.program_records.specs.RecordChains.{record_at, records_refusal, records_walk_refusal}
use Rattle.program_records.specs.Agreement.{SameWalks}

chain_alike : (p p' : Program) → ((i : ℕ) → (p i).next_instruction ≡ (p' i).next_instruction) → (most n i : ℕ) → chain_from most n p i ≡ chain_from most n p' i
unfolding chain_from
chain_alike p p' e zero n i = refl
chain_alike p p' e (suc most) n i = rw (e i, chain_alike p p' e most n (onward_from n (p' i).next_instruction i))

first_alike : (p p' : Program) → ((i : ℕ) → (p i).right_char.0 ≡ (p' i).right_char.0) →
    ((i : ℕ) → is_redirect_op (p i).operation ≡ is_redirect_op (p' i).operation) → (right : ℕ) (is : List ℕ) → first_for p right is ≡ first_for p' right is
unfolding first_for
first_alike p p' e d right [] = refl
first_alike p p' e d right (i ∷ is) = rw (e i, d i, first_alike p p' e d right is)

module _ (s : List ℤ) (xs : List Instruction) (size : length xs ≡ count s)
    (nexts : (i : ℕ) → (record_at xs i).next_instruction ≡ (instruction_at s i).next_instruction)
    (rights : (i : ℕ) → (record_at xs i).right_char.0 ≡ (instruction_at s i).right_char.0)
    (redirects : (i : ℕ) → is_redirect_op (record_at xs i).operation ≡ is_redirect_op (instruction_at s i).operation)
    (refused : records_refusal (length xs) ≡ program_refusal s) where
  chains : (entry : ℕ) → chain (length xs) (record_at xs) entry ≡ chain_of s entry
  chains entry = chain_alike (record_at xs) (instruction_at s) nexts (length xs) (length xs) entry ∙ rw size

  rules : (entry right : ℕ) → rule_index (length xs) (record_at xs) entry right ≡ rule_index_of s entry right
  rules entry right =
      first_alike (record_at xs) (instruction_at s) rights redirects right (chain (length xs) (record_at xs) entry)
      ∙ ap (first_for (instruction_at s) right) (chains entry)

  module _ (entry : ℤ) (out : List ℕ) where
    answers : reply_of (records_walk_refusal xs entry (length out)) (pos (length (chain (length xs) (record_at xs) (word_of entry))) ∷ [])
        ≡ reply_of (walk_refusal s entry (length out)) (pos (length (chain_of s (word_of entry))) ∷ [])
    answers = rw (refused, chains (word_of entry))

    lists : list_of (records_walk_refusal xs entry (length out)) 0 (length out) (chain (length xs) (record_at xs) (word_of entry))
        ≡ list_of (walk_refusal s entry (length out)) 0 (length out) (chain_of s (word_of entry))
    lists = rw (refused, chains (word_of entry))

  pub alike : SameWalks s xs
  alike =
      record {
        steps = λ i. rw (size, nexts i);
        chains = chains;
        rules = rules;
        walks = λ entry out r out'. (
          λ h. record { answer = h.answer ∙ answers entry out; list = h.list ∙ lists entry out },
          λ h. record { answer = h.answer ∙ sym (answers entry out); list = h.list ∙ sym (lists entry out) },
        );
      }
