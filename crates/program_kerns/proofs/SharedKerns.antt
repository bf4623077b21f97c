-- How many kerns there are once a program is shared, and how long it is. Assumes nothing.
use mathlib.Core.Path.{◌≡◌}
use mathlib.Core.Bool.{Bool, true, false, cond}
use mathlib.Core.List.{List, [], ◌∷◌, ◌++◌}
use Prim.Native.Nat.{ℕ, zero, suc, ◌+◌, ◌≤◌}
use native.Mathlib.Omega.{arith}
use lib.IntN.{ℤ}
use lib.Dec.{eqb}
use lib.ListN.{length}
use Rattle.words.proofs.Lists.{length_tabulate}
use Rattle.program_kerns.specs.Kerns.{kern_place}
use Rattle.program_kerns.specs.SharedKerns.{holds_value, held_value, shared_kerns, all_kerns, shared_number, share_kerns}
use Rattle.program_kerns.proofs.Places.{snoc_length}

few_more : (Y : List ℤ) (v : ℤ) (n : ℕ) (t u : Bool) → length Y ≤ n → length (cond t (cond u (Y ++ (v ∷ [])) Y) Y) ≤ suc n
few_more Y v n true true l = rw (snoc_length Y v) (omega (arith, l))
few_more Y v n true false l = omega (arith, l)
few_more Y v n false u l = omega (arith, l)

pub kerns_few : (s ks : List ℤ) (n : ℕ) → length (shared_kerns s ks n) ≤ length ks + n
unfolding shared_kerns
kerns_few s ks zero = omega arith
kerns_few s ks (suc n) =
    let e : length ks + suc n ≡ suc (length ks + n) = omega arith in
    rw e
    (few_more (shared_kerns s ks n) (held_value s n) (length ks + n) (holds_value s (length ks) n)
    (eqb (kern_place (held_value s n) (shared_kerns s ks n)) (length (shared_kerns s ks n))) (kerns_few s ks n))

-- .. and no fewer than before
least_more : (Y : List ℤ) (v : ℤ) (n : ℕ) (t u : Bool) → n ≤ length Y → n ≤ length (cond t (cond u (Y ++ (v ∷ [])) Y) Y)
least_more Y v n true true l = rw (snoc_length Y v) (omega (arith, l))
least_more Y v n true false l = l
least_more Y v n false u l = l

pub kerns_least : (s ks : List ℤ) (n : ℕ) → length ks ≤ length (shared_kerns s ks n)
unfolding shared_kerns
kerns_least s ks zero = omega arith
kerns_least s ks (suc n) =
    least_more (shared_kerns s ks n) (held_value s n) (length ks) (holds_value s (length ks) n)
    (eqb (kern_place (held_value s n) (shared_kerns s ks n)) (length (shared_kerns s ks n))) (kerns_least s ks n)

pub shared_length : (s ks : List ℤ) → length (share_kerns s ks) ≡ length s
shared_length s ks = length_tabulate (length s) (shared_number s (all_kerns s ks) (length ks))
