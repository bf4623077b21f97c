-- A letter more, and the chip that it leaves.
-- Assumes nothing.
use mathlib.Core.Path.{◌≡◌, sym, ap, ◌∙◌}
use mathlib.Core.Bool.{true}
use mathlib.Core.List.{List, [], ◌∷◌, ◌++◌}
use Prim.Native.Nat.{ℕ, suc, ◌+◌, ◌-◌, ◌<◌, ◌≤◌}
use native.Mathlib.Numerals.{add-one}
use native.Mathlib.Omega.{arith}
use lib.ListN.{length, get_or, set, take, drop, replicate, length-set, length-drop}
use lib.Seq.{length-take-le, get_or-set_same, get_or-set_other, drop-set-lt, drop-set-add, take-suc-set, set_at, append_snoc}
use borrow.Author.Tests.{le-leb, lt-ltb}
use Rattle.captions.specs.declared.State.{State}
use Rattle.captions.specs.declared.Answer.TheVariants.{End}
use Rattle.chips.specs.Commands.{chip_refusal, may_add, in_turn, chip_added}
use Rattle.chips.proofs.Turns.{low_caller, none_ready}
use Rattle.c_states.specs.States.{flag_of, state_at}
use Rattle.c_chips.specs.ChipLists.{is_chip, letters_at, chip_at}
use Rattle.c_chips.proofs.Laws.{chip_long, chip_counts, ready_is, none_shown}
use Rattle.c_chip_write.proofs.Altered.{Altered, after}

module _ (ns : List ℕ) (h : is_chip ns ≡ true) (legal : chip_refusal (chip_at ns) ≡ 0) where
  abbrev k : ℕ
  k = get_or ns 90 0

  abbrev n : ℕ
  n = get_or ns 1 0

  low : k ≤ 7
  low = low_caller (chip_at ns) legal

  long : 91 ≤ length ns
  long = chip_long ns h

  module _ (x : ℕ) (room : n < 64) where
    abbrev stored : List ℕ
    stored = set ns (18 + n) x

    abbrev lettered : List ℕ
    lettered = set stored 1 (n + 1)

    lettered-long : length lettered ≡ length ns
    lettered-long = length-set stored 1 (n + 1) ∙ length-set ns (18 + n) x

    same_at : (i : ℕ) → 82 ≤ i → get_or lettered i 0 ≡ get_or ns i 0
    same_at i l =
        get_or-set_other stored 1 i (n + 1) 0 (λ e. omega (arith, e, l)) ∙ get_or-set_other ns (18 + n) i x 0 (λ e. omega (arith, e, l, room))

    same_rest : (i : ℕ) → 82 ≤ i → drop i lettered ≡ drop i ns
    same_rest i l = drop-set-lt i stored 1 (n + 1) (omega (arith, l)) ∙ drop-set-lt i ns (18 + n) x (omega (arith, l, room))

    letter-more : letters_at (n + 1) lettered ≡ set (letters_at n ns) n x
    letter-more =
        let d : drop 18 lettered ≡ set (drop 18 ns) n x = drop-set-lt 18 stored 1 (n + 1) (omega arith) ∙ drop-set-add 18 ns n x in
        let t : take (suc n) (set (drop 18 ns) n x) ≡ take n (drop 18 ns) ++ (x ∷ []) =
        take-suc-set (drop 18 ns) n x (omega (arith, length-drop 18 ns, long, room)) in
        let e : 64 - n ≡ suc (64 - suc n) = omega (arith, room) in
        let l : length (take n (drop 18 ns)) ≡ n = length-take-le n (drop 18 ns) (omega (arith, length-drop 18 ns, long, room)) in
        ap (λ (m : ℕ). letters_at m lettered) (add-one n) ∙ ap (λ (v : List ℕ). take (suc n) v ++ replicate (64 - suc n) 0) d
        ∙ ap (λ (v : List ℕ). v ++ replicate (64 - suc n) 0) t ∙ append_snoc (take n (drop 18 ns)) x (replicate (64 - suc n) 0)
        ∙ sym (set_at (take n (drop 18 ns)) 0 (replicate (64 - suc n) 0) x n l)
        ∙ ap (λ (m : ℕ). set (take n (drop 18 ns) ++ replicate m 0) n x) (sym e)

    pub letter_altered : Altered ns lettered (n + 1) (set (letters_at n ns) n x) (take 8 (drop 82 ns))
    letter_altered =
        let m : get_or lettered 1 0 ≡ n + 1 = get_or-set_same stored 1 (n + 1) 0 (omega (arith, length-set ns (18 + n) x, long)) in
        let c : get_or lettered 90 0 ≡ k = same_at 90 (omega arith) in
        let w : get_or lettered (82 + get_or lettered 90 0) 0 ≡ get_or ns (82 + k) 0 =
        ap (λ (i : ℕ). get_or lettered (82 + i) 0) c ∙ same_at (82 + k) (omega arith) in
        record {
          n_is = m;
          letters_are = letter-more;
          counts_are = ap (take 8) (same_rest 82 (omega arith));
          caller_is = c;
          rest_is = same_rest 91 (omega arith);
          can_show_lem = rw (le-leb 91 (length lettered) (omega (arith, lettered-long, long)), m, le-leb (n + 1) 64 (omega (arith, room)), w, c, le-leb k 7 low)
              (le-leb (get_or ns (82 + k) 0) 4294967295 (chip_counts ns h k low));
        }

    -- an open word has no item
    pub added_is : flag_of (get_or ns 0 0) ≡ true → (state : State) → state ≡ state_at (drop 9 ns) →
        after letter_altered true End state ≡ chip_added x (chip_at ns)
    added_is o state s = λ j.
        record {
          opened = sym o j;
          length = add-one n j;
          letters = set (letters_at n ns) n x;
          counts = take 8 (drop 82 ns);
          caller = k;
          item = sym (none_shown ns (sym (ready_is ns) ∙ none_ready (chip_at ns) legal o)) j;
          state = s j;
        }

    pub may_add_lem : flag_of (get_or ns 0 0) ≡ true → in_turn (may_add (chip_at ns)) 0 ≡ 0
    may_add_lem o = rw (o, lt-ltb n 64 room)
