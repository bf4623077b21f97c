-- Calls by several callers: a caller's count is its own words, and is what is shown.
-- Assumes nothing.
use mathlib.Core.Path.{◌≡◌, refl, sym, ap, subst, ◌∙◌}
use mathlib.Core.Bool.{Bool, true, false, cond}
use mathlib.Core.List.{List, [], ◌∷◌, ◌++◌, map}
use Prim.Native.Nat.{ℕ, zero, suc, ◌<◌, ◌≤◌}
use native.Mathlib.Omega.{arith}
use lib.Dec.{eqb}
use lib.IntN.{ℤ}
use lib.ListN.{length, get_or, set, replicate, length-set}
use lib.Seq.{get_or-set_same, get_or-set_other}
use borrow.Author.Tests.{eqb-true, eqb-false}
use Rattle.captions.specs.declared.Answer.{Answer}
use Rattle.captions.specs.declared.Step.{Step}
use Rattle.chips.specs.declared.Chip.{Chip}
use Rattle.chips.specs.Blocks.{block_command, block_caller, block_letter, caller_count, high_first}
use Rattle.chips.specs.Commands.{chip_begun, chip_added, chip_step, counted_word, chip_stepped, chip_after, command_refusal, commanded_by, command_of}
use Rattle.chips.specs.Callers.{ChipCall, EndedWord, CallsTrace, fresh_calls, caller_after, words_after, call_by, call_of, calls_from, calls_on, words_by}
use Rattle.chips.specs.Purpose.{Trace, trace_by, trace_from}
use Rattle.chips.proofs.Turns.{can_count_lem, Taken, Turn, begins, adds, ends, takes, taken, turn_of}
use Rattle.chips.proofs.Blocks.{shown_count}

-- ---- the words of a caller

longer_by : (a b : Bool) (v : List ℕ) (x y : List (List ℕ)) → length x ≡ cond b (suc (length y)) (length y) →
    length (cond a (v ∷ x) x) ≡ cond b (suc (length (cond a (v ∷ y) y))) (length (cond a (v ∷ y) y))
longer_by true true v x y e = ap suc e
longer_by true false v x y e = ap suc e
longer_by false b v x y e = e

first_by : (b : Bool) (v : List ℕ) → length (cond b (v ∷ []) []) ≡ cond b 1 0
first_by true v = refl
first_by false v = refl

-- one word more is one of its caller's
words_more : (c : ℕ) (words : List EndedWord) (w : EndedWord) →
    length (words_by c (words ++ (w ∷ []))) ≡ cond (eqb w.caller c) (suc (length (words_by c words))) (length (words_by c words))
unfolding words_by
words_more c [] w = first_by (eqb w.caller c) w.letters
words_more c (v ∷ words) w =
    longer_by (eqb v.caller c) (eqb w.caller c) v.letters (words_by c (words ++ (w ∷ []))) (words_by c words) (words_more c words w)

-- one count is moved
count_by : (counts : List ℕ) (k c : ℕ) → k < length counts → (b : Bool) → eqb k c ≡ b →
    get_or (set counts k (suc (get_or counts k 0))) c 0 ≡ cond b (suc (get_or counts c 0)) (get_or counts c 0)
count_by counts k c h true e =
    let q = eqb-true k c e in rw (sym q) (get_or-set_same counts k (suc (get_or counts k 0)) 0 h)
count_by counts k c h false e = get_or-set_other counts k c (suc (get_or counts k 0)) 0 (λ q. eqb-false k c e (sym q))

-- ---- what stands between two calls

pub record Counts (chip : Chip) (caller : ℕ) (ended : List EndedWord) : Type 0 where
  pub same_caller : caller ≡ chip.caller
  pub eight : length chip.counts ≡ 8
  pub low : chip.caller ≤ 7
  pub counted : (c : ℕ) → caller_count c chip ≡ length (words_by c ended)
  pub fits : (c : ℕ) → caller_count c chip ≤ 4294967295

pub record Own (t : CallsTrace) : Type 0 where
  pub counts : Counts t.chip t.caller t.ended
  pub shows : t.shown ≡ high_first (caller_count t.caller t.chip)

no_count : (n c : ℕ) → get_or {A = ℕ} (replicate n 0) c 0 ≡ 0
no_count zero c = refl
no_count (suc n) zero = refl
no_count (suc n) (suc c) = no_count n c

pub fresh_own : Own fresh_calls
unfolding words_by
fresh_own =
    record {
      counts = record {
        same_caller = refl;
        eight = refl;
        low = omega arith;
        counted = no_count 8;
        fits = λ c. omega (arith, no_count 8 c);
      };
      shows = refl;
    }

-- ---- one call

module _ {chip : Chip} {caller : ℕ} {ended : List EndedWord} (s : Counts chip caller ended) where
  begun : (k : ℕ) → k ≤ 7 → Counts (chip_begun k chip) k ended
  begun k h = record { same_caller = refl; eight = s.eight; low = h; counted = s.counted; fits = s.fits }

  added : (letter : ℕ) → Counts (chip_added letter chip) caller ended
  added letter = record { same_caller = s.same_caller; eight = s.eight; low = s.low; counted = s.counted; fits = s.fits }

  took : (step : Step) → Counts (chip_stepped chip.counts step chip) caller ended
  took step = record { same_caller = s.same_caller; eight = s.eight; low = s.low; counted = s.counted; fits = s.fits }

  moved : (c : ℕ) (b : Bool) → eqb chip.caller c ≡ b →
      get_or (counted_word chip) c 0 ≡ cond b (suc (caller_count c chip)) (caller_count c chip)
  moved c b e = count_by chip.counts chip.caller c (omega (arith, s.eight, s.low)) b e

  still_fits : caller_count chip.caller chip < 4294967295 → (c : ℕ) (b : Bool) → eqb chip.caller c ≡ b →
      cond b (suc (caller_count c chip)) (caller_count c chip) ≤ 4294967295
  still_fits h c true e = omega (arith, h, ap (λ (k : ℕ). caller_count k chip) (eqb-true chip.caller c e))
  still_fits h c false e = s.fits c

  ended_one : (word : List ℕ) (step : Step) → caller_count chip.caller chip < 4294967295 →
      Counts (chip_stepped (counted_word chip) step chip) caller (ended ++ (record { caller = caller; letters = word } ∷ []))
  ended_one word step h =
      let w : EndedWord = record { caller = caller; letters = word } in
      record {
        same_caller = s.same_caller;
        eight = length-set chip.counts chip.caller (suc (caller_count chip.caller chip)) ∙ s.eight;
        low = s.low;
        counted = λ c.
            moved c (eqb chip.caller c) refl
            ∙ (λ j. cond (eqb (sym s.same_caller j) c) (suc (s.counted c j)) (s.counted c j))
            ∙ sym (words_more c ended w);
        fits = λ c. subst (λ (n : ℕ). n ≤ 4294967295) (sym (moved c (eqb chip.caller c) refl)) (still_fits h c (eqb chip.caller c) refl);
      }

module _ (call : ChipCall) (t : CallsTrace) where
  abbrev block : List ℕ
  block = call.block

  abbrev after : Chip
  after = chip_after call.pairs call.ops call.boundary block t.chip

  abbrev refusal : ℕ
  refusal = command_refusal call.pairs call.ops call.boundary block t.chip

  turned : Counts t.chip t.caller t.ended → Taken call.pairs call.ops call.boundary block t.chip →
      Turn call.pairs call.ops call.boundary block t.chip →
      Counts after (caller_after block t.caller) (words_after block t.caller t.word t.ended)
  turned s k (begins e f m h) = rw e (begun s (block_caller block) h)
  turned s k (adds e m) = rw e (added s (block_letter block))
  turned s k (ends e o z) =
      rw e (ended_one s t.word (chip_step call.pairs call.ops call.boundary t.chip) (can_count_lem t.chip k.legal o))
  turned s k (takes e f z) = rw e (took s (chip_step call.pairs call.ops call.boundary t.chip))

  by_refusal : (n : ℕ) → refusal ≡ n → Own t → Own (call_by (commanded_by n after t.chip).number block (commanded_by n after t.chip).chip t)
  by_refusal zero e s =
      let k = taken call.pairs call.ops call.boundary block t.chip e in
      let c = turned s.counts k (turn_of call.pairs call.ops call.boundary block t.chip k.turn) in
      record { counts = c; shows = shown_count block after k.long ∙ ap (λ (n : ℕ). high_first (caller_count n after)) (sym c.same_caller) }
  by_refusal (suc n) e s = s

  one_call : Own t → Own (call_of call t)
  one_call s = by_refusal refusal refl s

-- any number of them
pub all_calls : (calls : List ChipCall) (t : CallsTrace) → Own t → Own (calls_from t calls)
unfolding calls_from
all_calls [] t s = s
all_calls (call ∷ calls) t s = all_calls calls (call_of call t) (one_call call t s)

-- ---- counts of others

module _ (pairs ops : List ℤ) (boundary : ℤ) (block : List ℕ) (chip : Chip) (c : ℕ) (h : c ≡ chip.caller → ⊥) where
  abbrev step : Step
  step = chip_step pairs ops boundary chip

  after_by : (x y z : Bool) →
      caller_count c (cond x (chip_begun (block_caller block) chip)
      (cond y (chip_added (block_letter block) chip) (cond z (chip_stepped (counted_word chip) step chip) (chip_stepped chip.counts step chip))))
      ≡ caller_count c chip
  after_by true y z = refl
  after_by false true z = refl
  after_by false false true = get_or-set_other chip.counts chip.caller c (suc (caller_count chip.caller chip)) 0 h
  after_by false false false = refl

  by_number : (n : ℕ) → caller_count c (commanded_by n (chip_after pairs ops boundary block chip) chip).chip ≡ caller_count c chip
  by_number zero = after_by (eqb (block_command block) 1) (eqb (block_command block) 2) (eqb (block_command block) 3)
  by_number (suc n) = refl

  pub other_stays : caller_count c (command_of pairs ops boundary block chip).chip ≡ caller_count c chip
  other_stays = by_number (command_refusal pairs ops boundary block chip)

-- ---- the words of one table

abbrev letters_of : List EndedWord → List (List ℕ)
letters_of words = map (λ (w : EndedWord). w.letters) words

letters_more : (words : List EndedWord) (w : EndedWord) → letters_of words ++ (w.letters ∷ []) ≡ letters_of (words ++ (w ∷ []))
letters_more [] w = refl
letters_more (v ∷ words) w = ap (λ (l : List (List ℕ)). v.letters ∷ l) (letters_more words w)

-- what is seen of calls, with any items
abbrev seen : CallsTrace → List Answer → List ℕ → Trace
seen t passed shown = record { chip = t.chip; word = t.word; ended = letters_of t.ended; passed = passed; shown = shown }

module _ (block : List ℕ) (chip : Chip) (t : CallsTrace) (passed : List Answer) (shown : List ℕ) where
  abbrev next : ℕ → Trace
  next n = trace_by n block chip (seen t passed shown)

  ended_by : (b : Bool) → cond b (letters_of t.ended ++ (t.word ∷ [])) (letters_of t.ended)
      ≡ letters_of (cond b (t.ended ++ (record { caller = t.caller; letters = t.word } ∷ [])) t.ended)
  ended_by true = letters_more t.ended (record { caller = t.caller; letters = t.word })
  ended_by false = refl

  seen_by : (n : ℕ) → next n ≡ seen (call_by n block chip t) (next n).passed (next n).shown
  seen_by zero = λ j.
      record {
        chip = chip;
        word = (next 0).word;
        ended = ended_by (eqb (block_command block) 3) j;
        passed = (next 0).passed;
        shown = (next 0).shown;
      }
  seen_by (suc n) = refl

pub same_ended : (pairs ops : List ℤ) (boundary : ℤ) (blocks : List (List ℕ)) (t : CallsTrace) (passed : List Answer) (shown : List ℕ) →
    letters_of (calls_from t (calls_on pairs ops boundary blocks)).ended ≡ (trace_from pairs ops boundary (seen t passed shown) blocks).ended
unfolding calls_from trace_from
same_ended pairs ops boundary [] t passed shown = refl
same_ended pairs ops boundary (block ∷ blocks) t passed shown =
    let r = command_of pairs ops boundary block t.chip in
    let n = next block r.chip t passed shown r.number in
    let call : ChipCall = record { pairs = pairs; ops = ops; boundary = boundary; block = block } in
    same_ended pairs ops boundary blocks (call_of call t) n.passed n.shown
    ∙ ap (λ (u : Trace). (trace_from pairs ops boundary u blocks).ended) (sym (seen_by block r.chip t passed shown r.number))
