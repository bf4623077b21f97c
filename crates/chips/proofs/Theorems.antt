-- What specs/Purpose states.
-- Assumes nothing.
use mathlib.Core.Path.{◌≡◌, refl, sym, ap, ◌∙◌}
use mathlib.Core.Bool.{Bool, true, false, cond, not}
use mathlib.Core.List.{List, [], ◌∷◌, ◌++◌}
use mathlib.Core.Logic.{◌↔◌}
use Prim.Native.Nat.{ℕ, ◌≤◌}
use native.Mathlib.Omega.{arith}
use lib.Dec.{leb}
use lib.IntN.{ℤ}
use lib.ListN.{length, length-take, get_or, replicate}
use borrow.Author.Tests.{le-leb}
use Rattle.lang.specs.Every.{both}
use Rattle.lang.specs.Checks.{or_else, absent_refusal}
use Rattle.lang.proofs.Every.{both_false, every_none}
use Rattle.captions.specs.declared.Answer.{Answer}
use Rattle.captions.specs.Begin.{plain_options}
use Rattle.captions.specs.Replies.{is_end}
use Rattle.chips.specs.declared.Chip.{Chip}
use Rattle.chips.specs.declared.Commanded.{Commanded}
use Rattle.chips.specs.Blocks.{block_caller, item_ready, status_byte, caller_count, high_first, item_bytes}
use Rattle.chips.specs.Commands.{chip_word, item_stands, chip_refusal, chip_step, chip_after, answer_number, in_turn, turn_refusal, commanded_by}
use Rattle.chips.specs.Callers.{fresh_calls}
use Rattle.chips.specs.Purpose.{fresh_trace, trace_of, ChipItems, NoneLeftAtBegin, ShownIsNext, NoneRefusedInTurn, AnsweredAlike, ReadyOrOpen}
use Rattle.chips.specs.Purpose.{CountIsOwnWords, SameWordsSameCount, BeginMayWait, SameWords, CountShown, OthersStay}
use Rattle.chips.proofs.Steps.{step_fits, stands}
use Rattle.chips.proofs.Turns.{few_letters, item_stands_lem, none_ready, all_taken, word_open, Turn, begins, adds, ends, takes, taken, turn_of}
use Rattle.chips.proofs.Blocks.{shown_rest, zeros_none}
use Rattle.chips.proofs.Traces.{fresh_stands, all_commands, end_taken, take_taken, all_legal, all_shown}
use Rattle.chips.proofs.Callers.{fresh_own, all_calls, other_stays, same_ended}

-- THE theorem
pub chip_items : ChipItems
chip_items pairs ops boundary blocks =
    let s = all_commands pairs ops boundary blocks fresh_trace (fresh_stands pairs ops boundary) in
    record { items = s.items; of_words = s.of_words; untaken = s.untaken; to_take = s.to_take; joined = s.joined }

pub none_left_at_begin : NoneLeftAtBegin
none_left_at_begin pairs ops boundary block chip e z = by (turn_of pairs ops boundary block chip (taken pairs ops boundary block chip z).turn)
  where
    by : Turn pairs ops boundary block chip → item_ready chip ≡ false
    by (begins f t m l) = all_taken (block_caller block) chip m
    by (adds f m) = absurd (omega (arith, e, f))
    by (ends f o n) = absurd (omega (arith, e, f))
    by (takes f r n) = absurd (omega (arith, e, f))

pub shown_is_next : ShownIsNext
shown_is_next pairs ops boundary blocks = all_shown pairs ops boundary blocks fresh_trace refl

-- ---- in turn

none_by : (a b : ℕ) (t : Bool) (n : ℕ) → a ≡ 0 → b ≡ 0 → t ≡ true → n ≡ 0 → or_else a (or_else b (cond t n 15)) ≡ 0
none_by a b t n e f g h = rw (e, f, g, h)

turn_by : (t : Bool) (n : ℕ) → t ≡ true → n ≡ 0 → in_turn t n ≡ 0
turn_by t n e h = rw (e, h)

pub none_refused_in_turn : NoneRefusedInTurn
none_refused_in_turn pairs ops boundary table edge blocks bytes block long =
    let t = trace_of pairs ops boundary blocks in
    let s = all_commands pairs ops boundary blocks fresh_trace (fresh_stands pairs ops boundary) in
    let l = all_legal pairs ops boundary blocks bytes fresh_trace (fresh_stands pairs ops boundary) fresh-legal in (
      λ e o.
          none_by (absent_refusal 255 boundary) (chip_refusal t.chip) (leb 16 (length block)) (turn_refusal pairs ops boundary block t.chip) edge l
          (le-leb 16 (length block) long) (rw e (turn_by t.chip.opened _ o (end_taken pairs ops boundary s edge l o))),
      λ e f.
          none_by (absent_refusal 255 boundary) (chip_refusal t.chip) (leb 16 (length block)) (turn_refusal pairs ops boundary block t.chip) edge l
          (le-leb 16 (length block) long) (rw e (turn_by (item_ready t.chip) _ f (take_taken pairs ops boundary s f))),
    )
  where
    fresh-legal : chip_refusal fresh_trace.chip ≡ 0
    fresh-legal = rw (every_none (λ i. leb (get_or (replicate 64 0) i 0) 255))

-- ---- alike

-- what is answered and shown, by the bytes that are read
abbrev answer_by : List ℤ → List ℤ → ℤ → Chip → Bool → ℕ → ℕ → Commanded
answer_by pairs ops boundary chip long c l =
    commanded_by (or_else (absent_refusal 255 boundary) (or_else (chip_refusal chip) (cond long (turn_refusal pairs ops boundary (c ∷ l ∷ []) chip) 15)))
    (chip_after pairs ops boundary (c ∷ l ∷ []) chip) chip

abbrev shown_by : Chip → ℕ → List ℕ
shown_by chip mask = (status_byte (0 ∷ 0 ∷ 0 ∷ mask ∷ []) chip ∷ mask ∷ high_first (caller_count chip.caller chip)) ++ item_bytes chip.item

pub answered_alike : AnsweredAlike
answered_alike pairs ops boundary chip a b la lb e f g = (
  let p : leb 16 (length a) ≡ leb 16 (length b) = le-leb 16 (length a) la ∙ sym (le-leb 16 (length b) lb) in
      λ j. answer_by pairs ops boundary chip (p j) (e j) (f j),
  λ shown. shown_rest a shown la ∙ ap (shown_by shown) g ∙ sym (shown_rest b shown lb),
)

-- ---- ready or open

module _ (pairs ops : List ℤ) (boundary : ℤ) (block : List ℕ) (chip : Chip) (l : chip_refusal chip ≡ 0) where
  abbrev answer : Answer
  answer = (chip_step pairs ops boundary chip).answer

  closed : both (not (is_end answer)) false ≡ false
  closed = both_false (not (is_end answer))

  step_stands : answer_number answer ≡ 0 → item_stands answer ≡ true
  step_stands n =
      let few : length (chip_word chip) ≤ 64 = omega (arith, length-take chip.length chip.letters, few_letters chip l) in
      stands (step_fits pairs ops boundary (chip_word chip) plain_options chip.state) few n

  ready_by : Turn pairs ops boundary block chip →
      (both (item_ready (chip_after pairs ops boundary block chip)) (chip_after pairs ops boundary block chip).opened ≡ false)
      × ((item_bytes (chip_after pairs ops boundary block chip).item ≡ replicate 8 0)
      ↔ (item_ready (chip_after pairs ops boundary block chip) ≡ false))
  ready_by (begins e t m h) = rw e (rw (all_taken (block_caller block) chip m), zeros_none chip.item (item_stands_lem chip l))
  ready_by (adds e m) = rw e (rw (none_ready chip l (word_open chip m)), zeros_none chip.item (item_stands_lem chip l))
  ready_by (ends e o n) = rw e (closed, zeros_none answer (step_stands n))
  ready_by (takes e f n) = rw e (closed, zeros_none answer (step_stands n))

pub ready_or_open : ReadyOrOpen
ready_or_open pairs ops boundary block chip z =
    let k = taken pairs ops boundary block chip z in
    ready_by pairs ops boundary block chip k.legal (turn_of pairs ops boundary block chip k.turn)

-- ---- whose words

pub count_is_own_words : CountIsOwnWords
count_is_own_words calls c = let o = all_calls calls fresh_calls fresh_own in (o.counts.counted c, o.counts.fits c)

pub same_words_same_count : SameWordsSameCount
same_words_same_count calls others c e = (count_is_own_words calls c).0 ∙ ap length e ∙ sym (count_is_own_words others c).0

pub begin_may_wait : BeginMayWait
unfolding Rattle.lang.specs.Every.every
begin_may_wait = (refl, refl)

pub same_words : SameWords
same_words pairs ops boundary blocks = same_ended pairs ops boundary blocks fresh_calls [] (replicate 8 0)

pub count_shown : CountShown
count_shown calls = (all_calls calls fresh_calls fresh_own).shows

pub others_stay : OthersStay
others_stay pairs ops boundary block chip c h = other_stays pairs ops boundary block chip c h
