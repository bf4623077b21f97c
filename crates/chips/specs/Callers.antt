-- Calls of the chip by several callers (R424, R425), each with whatever table, boundary character and block: what is read off those that are taken.
-- specs/Purpose says of it what is proved.
use Rattle.std.specs.Prelude.{cond, List, [], ◌∷◌, ◌++◌, map, ℕ, zero, suc, eqb, ℤ, take, drop, replicate}
use Rattle.chips.specs.declared.Chip.{Chip}
use Rattle.chips.specs.Blocks.{block_command, block_caller, block_letter, shown_block}
use Rattle.chips.specs.Commands.{fresh_chip, command_of}

-- what one call is handed, beside the chip that the last one returned
pub record ChipCall : Type 0 where
  pub pairs : List ℤ
  pub ops : List ℤ
  pub boundary : ℤ
  pub block : List ℕ

-- a word that was ended, and who began it
pub record EndedWord : Type 0 where
  pub caller : ℕ
  pub letters : List ℕ

-- What is seen of calls: the chip; the caller of the last begin; the letters added since; the words that were ended; and bytes 4 to 7 as the last
-- taken command wrote them.
pub record CallsTrace : Type 0 where
  pub chip : Chip
  pub caller : ℕ
  pub word : List ℕ
  pub ended : List EndedWord
  pub shown : List ℕ

-- before the first call
abbrev pub fresh_calls : CallsTrace
fresh_calls = record { chip = fresh_chip; caller = 0; word = []; ended = []; shown = replicate 4 0 }

-- read off a taken command: begin names its caller
abbrev pub caller_after : List ℕ → ℕ → ℕ
caller_after block caller = cond (eqb (block_command block) 1) (block_caller block) caller

-- begin empties the word, add lengthens it
abbrev pub word_after : List ℕ → List ℕ → List ℕ
word_after block word =
    cond (eqb (block_command block) 1) [] (cond (eqb (block_command block) 2) (word ++ (block_letter block ∷ [])) word)

-- end ends the word, for its caller
abbrev pub words_after : List ℕ → ℕ → List ℕ → List EndedWord → List EndedWord
words_after block caller word words = cond (eqb (block_command block) 3) (words ++ (record { caller = caller; letters = word } ∷ [])) words

-- by the refusal of a call: what is seen after it; nothing new after one that is refused
abbrev pub call_by : ℕ → List ℕ → Chip → CallsTrace → CallsTrace
call_by zero block chip t =
    record {
      chip = chip;
      caller = caller_after block t.caller;
      word = word_after block t.word;
      ended = words_after block t.caller t.word t.ended;
      shown = take 4 (drop 4 (shown_block block chip));
    }
call_by (suc n) block chip t = record { chip = chip; caller = t.caller; word = t.word; ended = t.ended; shown = t.shown }

-- one call
abbrev pub call_of : ChipCall → CallsTrace → CallsTrace
call_of call t =
    call_by (command_of call.pairs call.ops call.boundary call.block t.chip).number call.block
    (command_of call.pairs call.ops call.boundary call.block t.chip).chip t

-- one after the other
unfoldable pub calls_from : CallsTrace → List ChipCall → CallsTrace
calls_from t [] = t
calls_from t (call ∷ calls) = calls_from (call_of call t) calls

abbrev pub calls_of : List ChipCall → CallsTrace
calls_of calls = calls_from fresh_calls calls

-- calls on one table and boundary character
abbrev pub calls_on : List ℤ → List ℤ → ℤ → List (List ℕ) → List ChipCall
calls_on pairs ops boundary blocks = map (λ block. record { pairs = pairs; ops = ops; boundary = boundary; block = block }) blocks

-- the words that one caller ended, in order
unfoldable pub words_by : ℕ → List EndedWord → List (List ℕ)
words_by c [] = []
words_by c (w ∷ words) = cond (eqb w.caller c) (w.letters ∷ words_by c words) (words_by c words)
