-- The whole text, and the list that comes back.
-- Assumes nothing.
use mathlib.Core.Path.{◌≡◌, refl, ap, sym, ◌∙◌}
use mathlib.Core.List.{List, [], ◌∷◌, ◌++◌}
use Prim.Native.Nat.{ℕ, ◌+◌, ◌-◌, ◌<◌, ◌≤◌, min}
use native.Mathlib.Omega.{arith}
use lib.IntN.{ℤ, pos}
use lib.ListN.{length, drop, replicate, length-replicate}
use lib.Seq.{length-sets}
use mir.Syntax.{w32}
use mir.Val.{of_z, to_z, SFits}
use mir.ValLaws.{to_z-of_z}
use borrow.Author.Tests.{eq-eqb, ne_eqb}
use Rattle.words.specs.Words.{word_of, number_of}
use Rattle.words.proofs.Bits.{number_is}
use Rattle.words.proofs.Lists.{sets_front, drop_replicate}
use Rattle.lang.specs.Records.{count}
use Rattle.lang.specs.Entries.{entries_table}
use Rattle.lang.specs.Answers.{room_refusal, list_of}
use Rattle.lang.specs.declared.Written.TheVariants.{Count, Refused}
use Rattle.lang.proofs.Records.{word_passed}
use Rattle.lang.proofs.Filled.{refused_list}
use Rattle.lang.proofs.Refusals.{first_refusal, later_refusal_lem, room_is, room_short, refused_answer}
use Rattle.property_lists.specs.Putting.{PutsCounted}
use Rattle.property_lists.specs.Displays.{line_end, program_lines, boundary_line, lig_table_lines, display_text, display_fault, display_refusal, Displays}
use Rattle.property_lists.proofs.Putting.{counted_none, counted_more, counted_long}

-- ---- LIGTABLE

module _ (s kerns t : List ℤ) where
  pub no_table : (out : List ℕ) (at : ℕ) {r : ℕ} → count s ≡ 0 → r ≡ min at (length out + 1) → PutsCounted out at (lig_table_lines s kerns t) r out
  no_table out at e g = rw (eq-eqb (count s) 0 e) (counted_none out at g)

  pub table_put : {out : List ℕ} {at a b r : ℕ} {out₁ out₂ out₃ : List ℕ} → (count s ≡ 0 → ⊥) →
      PutsCounted out at (40 ∷ 76 ∷ 73 ∷ 71 ∷ 84 ∷ 65 ∷ 66 ∷ 76 ∷ 69 ∷ 10 ∷ []) a out₁ →
      PutsCounted out₁ a (program_lines s kerns t (count s)) b out₂ → PutsCounted out₂ b (32 ∷ 32 ∷ 32 ∷ line_end) r out₃ →
      PutsCounted out at (lig_table_lines s kerns t) r out₃
  table_put h p q u = rw (ne_eqb (count s) 0 h) (counted_more p (counted_more q u))

-- ---- the text

pub display_put : (s kerns es t : List ℤ) {b l : ℤ} {w : ℕ} {out : List ℕ} {m r : ℕ} {d d' : List ℕ} → SFits w32 b → SFits w32 l →
    t ≡ entries_table es (to_z w32 (of_z w32 l)) → w ≡ word_of (to_z w32 (of_z w32 b)) → PutsCounted out 0 (boundary_line (number_of w)) m d →
    PutsCounted d m (lig_table_lines s kerns t) r d' → PutsCounted out 0 (display_text s kerns es b l) r d'
display_put s kerns es t {b} {l} {w} {out} {m} {r} {d} {d'} fb fl et ew p q =
    let p' : PutsCounted out 0 (boundary_line b) m d = rw (number_is (word_passed fb ew)) at p in
    let g : t ≡ entries_table es l = et ∙ ap (entries_table es) (to_z-of_z w32 l fl) in
    let q' : PutsCounted d m (lig_table_lines s kerns (entries_table es l)) r d' = rw g at q in
    counted_more p' q'

-- ---- the list

module _ (s kerns es : List ℤ) (b l : ℤ) (text zeroed : List ℕ) (fault : ℕ) (fb : SFits w32 b) (fl : SFits w32 l)
    (z : zeroed ≡ replicate (length text) 0) (e : fault ≡ display_fault s kerns es (to_z w32 (of_z w32 b)) (to_z w32 (of_z w32 l))) where
  fault_is : fault ≡ display_fault s kerns es b l
  fault_is = e ∙ (λ i. display_fault s kerns es (to_z-of_z w32 b fb i) (to_z-of_z w32 l fl i))

  pub refused : (fault ≡ 0 → ⊥) → Displays s kerns es b l text (Refused fault) zeroed
  refused h =
      let n = length (display_text s kerns es b l) in
      let g : fault ≡ display_refusal s kerns es b l (length text) = first_refusal (room_refusal n (length text)) fault_is h in
      record { answer = refused_answer n g h; list = refused_list 0 (length text) (display_text s kerns es b l) g h z }

  module _ (none : fault ≡ 0) {total : ℕ} {put : List ℕ}
      (p : PutsCounted zeroed 0 (display_text s kerns es (to_z w32 (of_z w32 b)) (to_z w32 (of_z w32 l))) total put) where
    puts : PutsCounted zeroed 0 (display_text s kerns es b l) total put
    puts = rw (to_z-of_z w32 b fb, to_z-of_z w32 l fl) at p

    zeroed_long : length zeroed ≡ length text
    zeroed_long = ap length z ∙ length-replicate (length text) 0

    pub put_long : length put ≡ length text
    put_long = counted_long puts ∙ zeroed_long

    by-room : {k : ℕ} → room_refusal (length (display_text s kerns es b l)) (length text) ≡ k → k ≡ display_refusal s kerns es b l (length text)
    by-room g = later_refusal_lem fault_is none (sym g)

    pub too_short : {d : List ℕ} → length put < total → d ≡ replicate (length put) 0 → Displays s kerns es b l text (Refused 15) d
    too_short {d} h g =
        let n = length (display_text s kerns es b l) in
        let u : length text < length (display_text s kerns es b l) = omega (arith, puts.next, put_long, zeroed_long) in
        let r = by-room (room_short (length (display_text s kerns es b l)) (length text) u) in
        let v : d ≡ replicate (length text) 0 = g ∙ ap (λ (k : ℕ). replicate k 0) put_long in
        record {
          answer = refused_answer (length (display_text s kerns es b l)) r (λ q. omega (arith, q));
          list = refused_list 0 (length text) (display_text s kerns es b l) r (λ q. omega (arith, q)) v;
        }

    pub displayed : total ≤ length put → Displays s kerns es b l text (Count total) put
    displayed h =
        let u : length (display_text s kerns es b l) ≤ length text = omega (arith, puts.next, put_long, zeroed_long) in
        let c : total ≡ length (display_text s kerns es b l) = omega (arith, puts.next, zeroed_long) in
        let k : length (display_text s kerns es b l) ≤ length zeroed = omega (arith, zeroed_long) in
        let r : display_refusal s kerns es b l (length text) ≡ 0 =
        sym (by-room (room_is (length (display_text s kerns es b l)) (length text) u)) in
        let w : put ≡ list_of 0 0 (length text) (display_text s kerns es b l) =
        puts.list ∙ sets_front (display_text s kerns es b l) zeroed k
        ∙ ap (λ (t : List ℕ). display_text s kerns es b l ++ t)
        (ap (drop (length (display_text s kerns es b l))) z ∙ drop_replicate (length (display_text s kerns es b l)) (length text) 0) in
        record { answer = rw (r, c); list = rw r w }
