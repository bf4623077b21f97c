-- Laws of the table of 257 places.
-- Assumes nothing.
use mathlib.Core.Path.{◌≡◌, refl, ◌∙◌}
use mathlib.Core.List.{List}
use Prim.Native.Nat.{ℕ, zero, suc, ◌+◌, ◌/◌, ◌≤◌}
use native.Mathlib.Numerals.{add-one}
use native.Mathlib.Omega.{arith}
use lib.IntN.{ℤ}
use lib.ListN.{length, set, length-set}
use mir.Syntax.{w32}
use mir.Val.{of_z, to_z, SFits}
use mir.ValLaws.{to_z-of_z}
use Rattle.words.specs.Words.{Word, word_of, number_of}
use Rattle.words.proofs.Bits.{number_is}
use Rattle.lang.specs.Checks.{char_at, entry_at}
use Rattle.lang.specs.Entries.{entered, entries_table}

pub length_entered : (es : List ℤ) (n : ℕ) → length (entered es n) ≡ 257
unfolding entered
length_entered es zero = refl
length_entered es (suc n) = length-set (entered es n) (word_of (char_at es n)) (entry_at es n) ∙ length_entered es n

-- one more entry, by a store at the word of its character
pub entered_more : (es : List ℤ) (n c e : ℕ) → Word (char_at es n) c → Word (entry_at es n) e → set (entered es n) c (number_of e) ≡ entered es (n + 1)
unfolding entered
entered_more es n c e hc he = rw (add-one, hc.is, number_is he)

-- the left boundary's entry, once all the others are in
pub entered_all : (es table : List ℤ) (left : ℤ) (n : ℕ) → SFits w32 left → table ≡ entered es n → n ≤ length es / 2 → length es / 2 ≤ n →
    set table 256 (to_z w32 (of_z w32 left)) ≡ entries_table es left
unfolding entries_table
entered_all es table left n f e h k =
    let all : n ≡ length es / 2 = omega arith in
    rw (e, all, to_z-of_z w32 left f)
