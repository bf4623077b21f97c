-- What is tested of a list, and that it is what `isChip` and `chipRefusal` ask.
-- Assumes nothing.
use mathlib.Core.Path.{◌≡◌, refl, sym, ap, ◌∙◌}
use mathlib.Core.Bool.{Bool, true, false, cond}
use mathlib.Core.List.{List, [], ◌∷◌}
use Prim.Native.Nat.{ℕ, zero, suc, ◌+◌, ◌-◌, ◌<◌, ◌≤◌}
use native.Mathlib.Omega.{arith}
use lib.Dec.{leb, ltb}
use lib.ListN.{length, get_or, take, drop, replicate, length-drop, get_or-append}
use lib.Seq.{length-take-le, get_or-take}
use borrow.Author.Tests.{leb-true, le-leb}
use Rattle.lang.specs.Every.{both, every}
use Rattle.lang.specs.Checks.{unless}
use Rattle.lang.proofs.Arms.{NoneOf}
use Rattle.lang.proofs.Every.{both_left, both_right, every_at, every_all, every_ext}
use Rattle.c_states.specs.States.{flag_of, is_state}
use Rattle.chips.specs.declared.Chip.{Chip}
use Rattle.chips.specs.Commands.{item_stands, open_stands, chip_refusal}
use Rattle.chips.proofs.Turns.{every_taken}
use Rattle.c_chips.specs.ChipLists.{is_word, is_shown, are_letters, are_counts, is_chip, shown_by, shown_at, letters_at, chip_at, no_chip, chip_read}
use Rattle.c_chips.proofs.Laws.{part, ready_is, count_at}
use Rattle.c_chip_read.specs.Standing.{byte_letters, callers_stand, list_stands}

-- ---- one test

module _ (ns : List ℕ) where
  pub counts_tested : 91 ≤ length ns →
      every (length (take 8 (drop 82 ns))) (λ i. is_word (get_or (take 8 (drop 82 ns)) i 0)) ≡ every 8 (λ i. is_word (get_or (drop 82 ns) i 0))
  counts_tested h = every_taken is_word 8 (drop 82 ns) (omega (arith, length-drop 82 ns, h))

  abbrev tested : List ℕ → Bool
  tested l = every (length l) (λ i. leb (get_or l i 0) 255)

  pub letters_tested : 91 ≤ length ns → get_or ns 1 0 ≤ 64 →
      tested (take (18 + get_or ns 1 0 - 18) (drop 18 ns)) ≡ every (get_or ns 1 0) (λ i. leb (get_or (drop 18 ns) i 0) 255)
  letters_tested h few = ap tested (part ns) ∙ every_taken (λ n. leb n 255) (get_or ns 1 0) (drop 18 ns) (omega (arith, length-drop 18 ns, h, few))

  -- the item: none, a ligature, any other
  pub none_stands : flag_of (get_or ns 2 0) ≡ false → true ≡ item_stands (shown_at ns)
  none_stands e = rw e

  pub ligature_stands : flag_of (get_or ns 2 0) ≡ true → get_or ns 3 0 ≡ 1 → leb (get_or ns 6 0) 64 ≡ item_stands (shown_at ns)
  ligature_stands e k = rw (e, k)

  pub other_stands : flag_of (get_or ns 2 0) ≡ true → NoneOf (Unit {0}) (get_or ns 3 0) (1 ∷ []) → true ≡ item_stands (shown_at ns)
  other_stands e h = by (get_or ns 3 0) h ∙ rw e
    where
      by : (k : ℕ) → NoneOf (Unit {0}) k (1 ∷ []) →
          true ≡ item_stands (shown_by k (get_or ns 4 0) (get_or ns 5 0) (get_or ns 6 0) (flag_of (get_or ns 7 0)) (flag_of (get_or ns 8 0)))
      by zero h = refl
      by (suc zero) h = absurd (h.1 refl)
      by (suc (suc k)) h = refl

  -- the open word: none, one with an item, and the count
  pub closed_stands : flag_of (get_or ns 0 0) ≡ false → true ≡ open_stands (chip_at ns)
  closed_stands e = rw e

  pub ready_stands : flag_of (get_or ns 0 0) ≡ true → flag_of (get_or ns 2 0) ≡ true → false ≡ open_stands (chip_at ns)
  ready_stands e f = rw (e, ready_is ns, f)

  pub count_stands : flag_of (get_or ns 0 0) ≡ true → flag_of (get_or ns 2 0) ≡ false → get_or ns 90 0 ≤ 7 →
      ltb (get_or ns (82 + get_or ns 90 0) 0) 4294967295 ≡ open_stands (chip_at ns)
  count_stands e f l = rw (e, ready_is ns, f, count_at ns (get_or ns 90 0) l)

-- ---- all of them

both_of : {a b : Bool} → a ≡ true → b ≡ true → both a b ≡ true
both_of p q = rw (p, q)

same_test : (a b : Bool) → (a ≡ true → b ≡ true) → (b ≡ true → a ≡ true) → a ≡ b
same_test true b f g = sym (f refl)
same_test false false f g = refl
same_test false true f g = g refl

-- what `chipRefusal` tests
abbrev chip_tests : Chip → Bool
chip_tests chip =
    both (leb chip.length 64)
    (both (every chip.length (λ i. leb (get_or chip.letters i 0) 255))
    (both (item_stands chip.item) (both (leb chip.caller 7) (open_stands chip))))

low_word : (n : ℕ) → leb n 255 ≡ true → is_word n ≡ true
low_word n e = le-leb n 4294967295 (omega (arith, leb-true n 255 e))

module _ (ns : List ℕ) where
  abbrev n : ℕ
  n = get_or ns 1 0

  abbrev at : ℕ → ℕ
  at i = get_or (drop 18 ns) i 0

  -- a letter of the word, in the chip and in the list
  letter_at : 91 ≤ length ns → n ≤ 64 → (i : ℕ) → i < n → get_or (letters_at n ns) i 0 ≡ at i
  letter_at h f i l =
      let k : length (take n (drop 18 ns)) ≡ n = length-take-le n (drop 18 ns) (omega (arith, length-drop 18 ns, h, f)) in
      get_or-append (take n (drop 18 ns)) (replicate (64 - n) 0) 0 i (omega (arith, k, l)) ∙ get_or-take n (drop 18 ns) i 0 l

  bytes_same : 91 ≤ length ns → n ≤ 64 → every n (λ i. leb (get_or (letters_at n ns) i 0) 255) ≡ every n (λ i. leb (at i) 255)
  bytes_same h f =
      every_ext n (λ i. leb (get_or (letters_at n ns) i 0) 255) (λ i. leb (at i) 255) (λ i l. ap (λ (x : ℕ). leb x 255) (letter_at h f i l))

  module _ (h : list_stands ns ≡ true) where
    s₁ : leb 91 (length ns) ≡ true
    s₁ = both_left (leb 91 (length ns)) _ h

    t₁ : both (leb (get_or ns 0 0) 1) (both (is_shown ns) (both (is_state (drop 9 ns)) (both (byte_letters ns) (both (callers_stand ns)
        (both (item_stands (shown_at ns)) (open_stands (chip_at ns))))))) ≡ true
    t₁ = both_right (leb 91 (length ns)) _ h

    t₂ : both (is_shown ns) (both (is_state (drop 9 ns)) (both (byte_letters ns) (both (callers_stand ns)
        (both (item_stands (shown_at ns)) (open_stands (chip_at ns)))))) ≡ true
    t₂ = both_right (leb (get_or ns 0 0) 1) _ t₁

    t₃ : both (is_state (drop 9 ns)) (both (byte_letters ns) (both (callers_stand ns) (both (item_stands (shown_at ns)) (open_stands (chip_at ns))))) ≡ true
    t₃ = both_right (is_shown ns) _ t₂

    t₄ : both (byte_letters ns) (both (callers_stand ns) (both (item_stands (shown_at ns)) (open_stands (chip_at ns)))) ≡ true
    t₄ = both_right (is_state (drop 9 ns)) _ t₃

    t₅ : both (callers_stand ns) (both (item_stands (shown_at ns)) (open_stands (chip_at ns))) ≡ true
    t₅ = both_right (byte_letters ns) _ t₄

    t₆ : both (item_stands (shown_at ns)) (open_stands (chip_at ns)) ≡ true
    t₆ = both_right (callers_stand ns) _ t₅

    few : leb n 64 ≡ true
    few = both_left (leb n 64) _ (both_left (byte_letters ns) _ t₄)

    low : every n (λ i. leb (at i) 255) ≡ true
    low = both_right (leb n 64) _ (both_left (byte_letters ns) _ t₄)

    caller : leb (get_or ns 90 0) 7 ≡ true
    caller = both_left (leb (get_or ns 90 0) 7) _ (both_left (callers_stand ns) _ t₅)

    counts : every 8 (λ i. is_word (get_or (drop 82 ns) i 0)) ≡ true
    counts = both_right (leb (get_or ns 90 0) 7) _ (both_left (callers_stand ns) _ t₅)

    words : every n (λ i. is_word (at i)) ≡ true
    words = every_all n (λ i. is_word (at i)) (λ i l. low_word (at i) (every_at n i (λ j. leb (at j) 255) low l))

    is_chip_lem : is_chip ns ≡ true
    is_chip_lem =
        both_of s₁ (both_of (both_left (leb (get_or ns 0 0) 1) _ t₁) (both_of (both_left (is_shown ns) _ t₂) (both_of (both_left (is_state (drop 9 ns)) _ t₃)
        (both_of (both_of few words) (both_of counts (le-leb (get_or ns 90 0) 4294967295 (omega (arith, leb-true (get_or ns 90 0) 7 caller))))))))

    stands : chip_tests (chip_at ns) ≡ true
    stands =
        both_of few (both_of (bytes_same (leb-true 91 (length ns) s₁) (leb-true n 64 few) ∙ low)
        (both_of (both_left (item_stands (shown_at ns)) _ t₆) (both_of caller (both_right (item_stands (shown_at ns)) _ t₆))))

  module _ (h : both (is_chip ns) (chip_tests (chip_at ns)) ≡ true) where
    chip : is_chip ns ≡ true
    chip = both_left (is_chip ns) _ h

    tests : chip_tests (chip_at ns) ≡ true
    tests = both_right (is_chip ns) _ h

    u₁ : both (leb (get_or ns 0 0) 1) (both (is_shown ns) (both (is_state (drop 9 ns)) (both (are_letters ns) (are_counts ns)))) ≡ true
    u₁ = both_right (leb 91 (length ns)) _ chip

    u₂ : both (is_shown ns) (both (is_state (drop 9 ns)) (both (are_letters ns) (are_counts ns))) ≡ true
    u₂ = both_right (leb (get_or ns 0 0) 1) _ u₁

    u₃ : both (is_state (drop 9 ns)) (both (are_letters ns) (are_counts ns)) ≡ true
    u₃ = both_right (is_shown ns) _ u₂

    u₄ : both (are_letters ns) (are_counts ns) ≡ true
    u₄ = both_right (is_state (drop 9 ns)) _ u₃

    v₁ : both (every n (λ i. leb (get_or (letters_at n ns) i 0) 255)) (both (item_stands (shown_at ns))
        (both (leb (get_or ns 90 0) 7) (open_stands (chip_at ns)))) ≡ true
    v₁ = both_right (leb n 64) _ tests

    v₂ : both (item_stands (shown_at ns)) (both (leb (get_or ns 90 0) 7) (open_stands (chip_at ns))) ≡ true
    v₂ = both_right (every n (λ i. leb (get_or (letters_at n ns) i 0) 255)) _ v₁

    v₃ : both (leb (get_or ns 90 0) 7) (open_stands (chip_at ns)) ≡ true
    v₃ = both_right (item_stands (shown_at ns)) _ v₂

    room : leb 91 (length ns) ≡ true
    room = both_left (leb 91 (length ns)) _ chip

    within : leb n 64 ≡ true
    within = both_left (leb n 64) _ tests

    all-stand : list_stands ns ≡ true
    all-stand =
        both_of room (both_of (both_left (leb (get_or ns 0 0) 1) _ u₁) (both_of (both_left (is_shown ns) _ u₂) (both_of (both_left (is_state (drop 9 ns)) _ u₃)
        (both_of (both_of within (sym (bytes_same (leb-true 91 (length ns) room) (leb-true n 64 within))
        ∙ both_left (every n (λ i. leb (get_or (letters_at n ns) i 0) 255)) _ v₁))
        (both_of (both_of (both_left (leb (get_or ns 90 0) 7) _ v₃)
        (both_left (every 8 (λ i. is_word (get_or (drop 82 ns) i 0))) _ (both_right (are_letters ns) (are_counts ns) u₄)))
        (both_of (both_left (item_stands (shown_at ns)) _ v₂) (both_right (leb (get_or ns 90 0) 7) _ v₃)))))))

  by : (t : Bool) → list_stands ns ≡ both t (chip_tests (chip_at ns)) → unless 7 (list_stands ns) ≡ chip_refusal (cond t (chip_at ns) no_chip)
  by true e = ap (unless 7) e
  by false e = ap (unless 7) e

  pub stands_is : unless 7 (list_stands ns) ≡ chip_refusal (chip_read ns)
  stands_is =
      by (is_chip ns)
      (same_test (list_stands ns) (both (is_chip ns) (chip_tests (chip_at ns))) (λ h. both_of (is_chip_lem h) (stands h)) all-stand)
