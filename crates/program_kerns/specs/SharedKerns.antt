-- Kern values that leave a program (R461, R462): its own values, and its indices past the list, become indices to kerns that stand once. The
-- kerns that are there stay as they are, also where one repeats another; new ones come after them, in the order in which they first appear.
use Rattle.std.specs.Prelude.{◌≡◌, Bool, true, false, cond, List, ◌++◌, ℕ, zero, suc, ◌+◌, ℤ, pos, leb, ltb, length, take, drop}
use Rattle.words.specs.Words.{word_of}
use Rattle.words.specs.Lists.{tabulate}
use Rattle.lang.specs.Every.{both}
use Rattle.lang.specs.Records.{count, field, is_kind}
use Rattle.program_kerns.specs.Kerns.{changed, kern_place, shared}

-- R461: instruction i holds a value, with k kerns: a kern value, or an index from k to 65,535, which means a kern of zero. Any other operand of
-- kind 1 is out of range (2), and stays
abbrev pub is_past_index : List ℤ → ℕ → ℕ → Bool
is_past_index s k i = both (is_kind 1 s i) (both (leb k (word_of (field s i 3))) (leb (word_of (field s i 3)) 65535))

abbrev pub holds_value : List ℤ → ℕ → ℕ → Bool
holds_value s k i = cond (ltb i (count s)) (cond (is_kind 0 s i) true (is_past_index s k i)) false

-- that value
abbrev pub held_value : List ℤ → ℕ → ℤ
held_value s i = cond (is_kind 0 s i) (field s i 3) (pos 0)

-- the kerns once the values of the first n instructions are shared
unfoldable pub shared_kerns : List ℤ → List ℤ → ℕ → List ℤ
shared_kerns s kerns zero = kerns
shared_kerns s kerns (suc n) =
    cond (holds_value s (length kerns) n) (shared (shared_kerns s kerns n) (held_value s n)) (shared_kerns s kerns n)

-- R462: the kerns of a program that is shared, and the program: each value is the index of the first kern that equals it
abbrev pub all_kerns : List ℤ → List ℤ → List ℤ
all_kerns s kerns = shared_kerns s kerns (count s)

-- number j of a program whose values, past k kerns, are indices to these kerns
abbrev pub shared_number : List ℤ → List ℤ → ℕ → ℕ → ℤ
shared_number s kerns k j = changed s (holds_value s k) (pos 1) (λ i. pos (kern_place (held_value s i) kerns)) j

abbrev pub share_kerns : List ℤ → List ℤ → List ℤ
share_kerns s kerns = tabulate (length s) (shared_number s (all_kerns s kerns) (length kerns))

-- room for a kern more for each instruction, behind the k kerns that are there, and none with an index above 65,535
abbrev pub has_kern_room : List ℤ → List ℤ → ℕ → Bool
has_kern_room s kerns k = both (leb (k + count s) 65536) (leb (k + count s) (length kerns))

-- THE contract of share_kerns: of a list of kerns the first k are the program's. With room the program is shared in place, and its kerns
-- stand in front of the list, which stays behind them; without room nothing changes. The answer is how many kerns there are.
pub record SharesKerns (s kerns : List ℤ) (k r : ℕ) (s' kerns' : List ℤ) : Type 0 where
  pub answer : r ≡ cond (has_kern_room s kerns k) (length (all_kerns s (take k kerns))) k
  pub program : s' ≡ cond (has_kern_room s kerns k) (share_kerns s (take k kerns)) s
  pub list : kerns' ≡
      cond (has_kern_room s kerns k) (all_kerns s (take k kerns) ++ drop (length (all_kerns s (take k kerns))) kerns) kerns
