-- Laws of kern values that stand in a list once, in the order in which they first appear.
-- Assumes nothing.
use mathlib.Core.Path.{◌≡◌, refl, sym}
use mathlib.Core.Bool.{Bool, true, false, cond}
use mathlib.Core.List.{List, [], ◌∷◌, ◌++◌}
use Prim.Native.Nat.{ℕ, zero, suc, ◌+◌, ◌<◌, ◌≤◌}
use native.Mathlib.Numerals.{add-one}
use native.Mathlib.Decide.{le_ind}
use native.Mathlib.Omega.{arith}
use lib.IntN.{ℤ, pos}
use lib.Dec.{eqb}
use lib.ListN.{length, get_or, set, take, drop, replicate, length-replicate}
use lib.Seq.{take_at}
use borrow.Author.Tests.{eq-eqb, ne_eqb}
use Rattle.words.specs.Words.{Word, word_of, number_of}
use Rattle.words.proofs.Bits.{number_is, read_lt}
use Rattle.words.proofs.Lists.{appending_none, appending_one, appending_length}
use Rattle.lang.specs.Records.{field, is_kind}
use Rattle.program_kerns.specs.Kerns.{kern_place, values}
use Rattle.program_kerns.specs.Sharing.{SearchEnds, Gathered, Counted}
use Rattle.program_kerns.proofs.Places.{snoc_length}
use Rattle.program_kerns.proofs.Tree.{ends_found, ends_absent, linked_none, linked_more}

-- ---- the kern values of the first instructions

module _ (s : List ℤ) where
  -- another kind of instruction
  pub values_other : (i : ℕ) → is_kind 0 s i ≡ false → values s (i + 1) ≡ values s i
  unfolding values
  values_other i k = rw (add-one i, k)

  -- a value that is there
  pub values_there : (i : ℕ) → is_kind 0 s i ≡ true → (kern_place (field s i 3) (values s i) ≡ length (values s i) → ⊥) → values s (i + 1) ≡ values s i
  unfolding values
  values_there i k h = rw (add-one i, k, ne_eqb (kern_place (field s i 3) (values s i)) (length (values s i)) h)

  -- a value that is new
  pub values_new : (i : ℕ) → is_kind 0 s i ≡ true → kern_place (field s i 3) (values s i) ≡ length (values s i) →
      values s (i + 1) ≡ values s i ++ (field s i 3 ∷ [])
  unfolding values
  values_new i k h = rw (add-one i, k, eq-eqb (kern_place (field s i 3) (values s i)) (length (values s i)) h)

  -- each instruction adds one value or none
  values_step : (i : ℕ) → (length (values s i) ≤ length (values s (suc i))) × (length (values s (suc i)) ≤ suc (length (values s i)))
  unfolding values
  values_step i = by (is_kind 0 s i) (eqb (kern_place (field s i 3) (values s i)) (length (values s i)))
    where
      by : (t u : Bool) →
          (length (values s i) ≤ length (cond t (cond u (values s i ++ (field s i 3 ∷ [])) (values s i)) (values s i)))
          × (length (cond t (cond u (values s i ++ (field s i 3 ∷ [])) (values s i)) (values s i)) ≤ suc (length (values s i)))
      by true true = rw (snoc_length (values s i) (field s i 3)) (omega arith)
      by true false = omega arith
      by false true = omega arith
      by false false = omega arith

  pub values_le : (i : ℕ) → length (values s i) ≤ i
  unfolding values
  values_le zero = omega arith
  values_le (suc i) = omega (arith, values_step i, values_le i)

  pub values_mono : (i j : ℕ) → i ≤ j → length (values s i) ≤ length (values s j)
  values_mono i j h = le_ind (λ (m : ℕ). length (values s i) ≤ length (values s m)) (omega arith) (λ m l k. omega (arith, values_step m, k)) j h

-- ---- what stands in the list

pub gathered_none : (s : List ℤ) (n : ℕ) (kerns : List ℤ) (links : List ℕ) → kerns ≡ replicate n (pos 0) → links ≡ replicate 65536 0 →
    Gathered s 0 n kerns links 0
unfolding values
gathered_none s n kerns links k e = record { counted = refl; stands = rw k (appending_none (replicate n (pos 0))); linked = linked_none links e }

module _ {s : List ℤ} {i n : ℕ} {kerns : List ℤ} {links : List ℕ} {m : ℕ} (g : Gathered s i n kerns links m) where
  pub gathered_room : m ≤ n
  gathered_room = omega (arith, g.counted, g.stands.within, length-replicate n (pos 0))

  -- the first m kerns are the values
  pub gathered_front : take m kerns ≡ values s i
  gathered_front = rw g.stands.appended (take_at (values s i) (drop (length (values s i)) (replicate n (pos 0))) m (sym g.counted))

  -- the instruction adds no value
  pub counted_same : values s (i + 1) ≡ values s i → Counted s (i + 1) n kerns links m
  counted_same e =
      record {
        short = λ h. absurd (omega (arith, gathered_room));
        whole = λ h. record { counted = rw e g.counted; stands = rw e g.stands; linked = rw e g.linked };
      }

  -- it adds one, whose link goes into the slot at which the search for it ended
  module _ {w slot : ℕ} (word : Word (field s i 3) w) (kind : is_kind 0 s i ≡ true) (h : SearchEnds (values s i) links w slot) where
    at_value : SearchEnds (values s i) links (word_of (field s i 3)) slot
    at_value = rw (← word.is) h

    -- it is there
    pub counted_there : (get_or links slot 0 ≡ 0 → ⊥) → Counted s (i + 1) n kerns links m
    counted_there some =
        let found = ends_found g.linked h (read_lt word) some in
        let low = g.linked.places slot in
        counted_same (values_there s i kind (λ d. omega (arith, rw (number_is word) at found)))

    module _ (none : get_or links slot 0 ≡ 0) (fits : m < 32767) where
      absent : kern_place (field s i 3) (values s i) ≡ length (values s i)
      absent = rw (number_is word) at (ends_absent g.linked h (read_lt word) none)

      more-counted : m + 1 ≡ length (values s (i + 1))
      more-counted = rw (values_new s i kind absent, snoc_length (values s i) (field s i 3)) (omega (arith, g.counted))

      -- it is new
      pub counted_more : Counted s (i + 1) n (set kerns m (number_of w)) (set links slot (m + 1)) (m + 1)
      counted_more =
          record {
            short = λ l. omega (arith, more-counted);
            whole = λ l.
                record {
                  counted = more-counted;
                  stands =
                      rw (values_new s i kind absent, g.counted, number_is word)
                      (appending_one (replicate n (pos 0)) (field s i 3) g.stands
                      (omega (arith, g.counted, appending_length (replicate n (pos 0)) g.stands, length-replicate n (pos 0))));
                  linked =
                      rw (values_new s i kind absent, g.counted)
                      (linked_more g.linked (field s i 3) at_value none absent (rw word.is at (read_lt word)) (omega (arith, g.counted)));
                };
          }

  pub counted_whole : Counted s i n kerns links m
  counted_whole = record { short = λ h. absurd (omega (arith, gathered_room)); whole = λ h. g }

-- too few places for the first values are too few for all
pub counted_short : {s : List ℤ} {i n : ℕ} {kerns : List ℤ} {links : List ℕ} {m : ℕ} → Counted s i n kerns links m → n < m → (j : ℕ) → i ≤ j →
    Counted s j n kerns links m
counted_short {s} {i} c l j h = record { short = λ k. omega (arith, c.short k, values_mono s i j h); whole = λ k. absurd (omega arith) }
