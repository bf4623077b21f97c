-- Letters that are read, a word counted, and what end and take leave.
-- Assumes nothing.
use mathlib.Core.Path.{◌≡◌, refl, sym, ap, subst, ◌∙◌}
use mathlib.Core.Bool.{Bool, true, false, cond}
use mathlib.Core.List.{List, ◌++◌}
use Prim.Native.Nat.{ℕ, zero, suc, ◌+◌, ◌-◌, ◌≤◌}
use native.Mathlib.Omega.{arith}
use lib.Dec.{ltb}
use lib.IntN.{ℤ}
use lib.ListN.{length, get_or, set, take, drop, replicate, length-set}
use lib.Seq.{take-suc, take_all, get_or-set_same, get_or-set_other, take-set-le, take-set-lt, drop-set-lt, drop-set-add}
use borrow.Author.Tests.{le-leb, ltb-true}
use Rattle.words.specs.Lists.{tabulate, Filling}
use Rattle.words.proofs.Lists.{drop_replicate}
use Rattle.captions.specs.declared.Step.{Step}
use Rattle.chips.specs.Blocks.{item_ready}
use Rattle.chips.specs.Commands.{chip_refusal, answer_number, chip_step, counted_word}
use Rattle.chips.proofs.Turns.{low_caller, may_end_lem}
use Rattle.c_states.specs.States.{flag_of}
use Rattle.c_chips.specs.ChipLists.{is_chip, letters_at, chip_at, MovesChip}
use Rattle.c_chips.proofs.Laws.{chip_long, chip_few, chip_counts, count_at}
use Rattle.c_chip_write.specs.Changes.{ShowsChanges}
use Rattle.c_chip_write.proofs.Altered.{Altered, altered_moves}
use Rattle.c_chip_step.specs.StepTurns.{step_turn_number, step_turn_chip}

-- ---- letters that are read

-- the first elements of a list, by their places
tabulate_take : (l : List ℕ) (n : ℕ) → n ≤ length l → tabulate n (λ i. get_or l i 0) ≡ take n l
unfolding tabulate
tabulate_take l zero h = refl
tabulate_take l (suc n) h = rw (tabulate_take l n (omega arith)) (sym (take-suc l n 0 h))

-- all of them over m zeros
pub words_read : (m : ℕ) (codes words : List ℕ) (n : ℕ) → Filling (λ k. get_or codes k 0) (replicate m 0) words n → n ≤ length codes → length codes ≤ n →
    words ≡ codes ++ replicate (m - length codes) 0
words_read m codes words n f h l =
    let e : n ≡ length codes = omega arith in
    f.filled ∙ rw (tabulate_take codes n h, e, take_all (length codes) codes (omega arith), drop_replicate {A = ℕ} (length codes) m 0)

-- ---- a list that is a chip's

module _ (ns : List ℕ) (h : is_chip ns ≡ true) (legal : chip_refusal (chip_at ns) ≡ 0) where
  abbrev k : ℕ
  k = get_or ns 90 0

  abbrev n : ℕ
  n = get_or ns 1 0

  low : k ≤ 7
  low = low_caller (chip_at ns) legal

  long : 91 ≤ length ns
  long = chip_long ns h

  pub count_fits : (91 ≤ length ns) × (k ≤ 7) × (get_or ns (82 + k) 0 ≤ 4294967295)
  count_fits = (long, low, chip_counts ns h k low)

  -- nothing altered
  pub same_altered : Altered ns ns n (letters_at n ns) (take 8 (drop 82 ns))
  same_altered =
      record {
        n_is = refl;
        letters_are = refl;
        counts_are = refl;
        caller_is = refl;
        rest_is = refl;
        can_show_lem = rw (le-leb 91 (length ns) long, le-leb n 64 (chip_few ns h), le-leb k 7 low)
            (le-leb (get_or ns (82 + k) 0) 4294967295 (chip_counts ns h k low));
      }

  -- ---- a word counted

  module _ (o : flag_of (get_or ns 0 0) ≡ true) where
    abbrev count : ℕ
    count = suc (get_or ns (82 + k) 0)

    abbrev counted : List ℕ
    counted = set ns (82 + k) count

    fits : count ≤ 4294967295
    fits = omega (arith, ltb-true (get_or ns (82 + k) 0) 4294967295 (ap (λ (m : ℕ). ltb m 4294967295) (sym (count_at ns k low)) ∙ may_end_lem (chip_at ns) legal o))

    other_at : (i : ℕ) → (i ≡ 82 + k → ⊥) → get_or counted i 0 ≡ get_or ns i 0
    other_at i d = get_or-set_other ns (82 + k) i count 0 d

    counts_more : take 8 (drop 82 counted) ≡ counted_word (chip_at ns)
    counts_more =
        ap (take 8) (drop-set-add 82 ns k count) ∙ take-set-lt 8 (drop 82 ns) k count (omega (arith, low))
        ∙ ap (λ (m : ℕ). set (take 8 (drop 82 ns)) k (suc m)) (sym (count_at ns k low))

    letters-kept : letters_at n counted ≡ letters_at n ns
    letters-kept =
        let e : 82 + k ≡ 18 + (64 + k) = omega arith in
        ap (λ (v : List ℕ). take n v ++ replicate (64 - n) 0)
        (ap (λ (i : ℕ). drop 18 (set ns i count)) e ∙ drop-set-add 18 ns (64 + k) count)
        ∙ ap (λ (v : List ℕ). v ++ replicate (64 - n) 0) (take-set-le n (drop 18 ns) (64 + k) count (omega (arith, chip_few ns h)))

    pub counted_altered : Altered ns counted n (letters_at n ns) (counted_word (chip_at ns))
    counted_altered =
        let m : get_or counted 1 0 ≡ n = other_at 1 (λ e. omega (arith, e)) in
        let c : get_or counted 90 0 ≡ k = other_at 90 (λ e. omega (arith, e, low)) in
        let w : get_or counted (82 + get_or counted 90 0) 0 ≡ count =
        ap (λ (i : ℕ). get_or counted (82 + i) 0) c ∙ get_or-set_same ns (82 + k) count 0 (omega (arith, low, long)) in
        record {
          n_is = m;
          letters_are = letters-kept;
          counts_are = counts_more;
          caller_is = c;
          rest_is = drop-set-lt 91 ns (82 + k) count (omega (arith, low));
          can_show_lem = rw (le-leb 91 (length counted) (omega (arith, length-set ns (82 + k) count, long)), m, le-leb n 64 (chip_few ns h), w, c, le-leb k 7 low)
              (le-leb count 4294967295 fits);
        }

  -- ---- end and take

  module _ (pairs ops : List ℤ) (boundary : ℤ) where
    abbrev given : Step
    given = chip_step pairs ops boundary (chip_at ns)

    pub step_moves : (ends : Bool) (block : List ℕ) {ns₁ block' ns' : List ℕ} → 16 ≤ length block →
        cond ends (flag_of (get_or ns 0 0)) (item_ready (chip_at ns)) ≡ true → answer_number given.answer ≡ 0 →
        ns₁ ≡ cond ends (set ns (82 + k) (suc (get_or ns (82 + k) 0))) ns →
        ShowsChanges false given.answer given.state block ns₁ block' ns' →
        MovesChip (step_turn_number pairs ops boundary ends (chip_at ns)) (step_turn_chip pairs ops boundary ends (chip_at ns)) block ns 0 block' ns'
    step_moves true block {ns₁} {block'} {ns'} b t z e w =
        altered_moves (counted_altered t) false given.answer given.state block b (rw (t, z)) refl
        (subst (λ (l : List ℕ). ShowsChanges false given.answer given.state block l block' ns') e w)
    step_moves false block {ns₁} {block'} {ns'} b t z e w =
        altered_moves same_altered false given.answer given.state block b (rw (t, z)) refl
        (subst (λ (l : List ℕ). ShowsChanges false given.answer given.state block l block' ns') e w)
