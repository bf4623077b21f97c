-- The font as given: the number before any removal, by what compile answered, and the answer, by the number and the search.
-- Assumes nothing.
use mathlib.Core.Path.{◌≡◌, refl, sym, ap, subst, ◌∙◌}
use mathlib.Core.Bool.{Bool, true, false, cond}
use mathlib.Core.List.{List, [], ◌∷◌}
use Prim.Native.Nat.{ℕ, zero, suc, ◌*◌, ◌≤◌}
use native.Mathlib.Omega.{arith}
use lib.IntN.{ℤ, pos}
use lib.Dec.{eqb}
use lib.ListN.{length, take, length-replicate}
use Rattle.lang.specs.Answers.{Reply, reply_of, room_refusal}
use Rattle.lang.specs.Records.{count}
use Rattle.lang.specs.Checks.{lower}
use Rattle.lang.proofs.Refusals.{lower_none, room_fits}
use Rattle.fonts.specs.declared.Compiled.{Compiled}
use Rattle.fonts.specs.declared.Compiled.TheVariants as compiled
use Rattle.fonts.specs.Fonts.{Font}
use Rattle.fonts.specs.Compiled.{Room, room_of, room_in, font_table, font_ops, table_pairs, total_ops, loops_of_font, font_counts, sized_refusal, compiled_reply, Compiles}
use Rattle.columns.proofs.FontBegins.{lists_of}
use Rattle.captions.specs.declared.RunOptions.{RunOptions}
use Rattle.captions.specs.Begin.{begin_refusal}
use Rattle.removals.specs.declared.Blamed.{Blamed}
use Rattle.removals.specs.declared.Blamed.TheVariants.{At, Nothing, Refused}
use Rattle.removals.specs.Search.{answer_without, first_answer, loop_number, blame_refusal, blamed_by}
use Rattle.blame_search.specs.Searching.{Searches}
use Rattle.blame_given.specs.Given.{blamed_in}

reply_number : (n : ℕ) (vs : List ℤ) → (reply_of n vs).number ≡ n
reply_number zero vs = refl
reply_number (suc n) vs = refl

loop_none : (n : ℕ) (b : Bool) → cond b 28 n ≡ 0 → n ≡ 0
loop_none n true e = absurd (omega (arith, e))
loop_none n false e = e

-- a reply that has values is no refusal
no_refusal : (m k : ℕ) (v : ℤ) (vs : List ℤ) → ◌≡◌ {A = Reply} (record { number = k; values = [] }) (reply_of m (v ∷ vs)) → k ≡ 0 → ⊥
no_refusal zero k v vs e z = let q : ◌≡◌ {A = List ℤ} [] (v ∷ vs) = ap (λ (r : Reply). r.values) e in let w : ◌≡◌ {A = ℕ} 0 1 = cc in omega arith
no_refusal (suc m) k v vs e z = let q : k ≡ suc m = ap (λ (r : Reply). r.number) e in omega (arith, q, z)

by_refused : (m n : ℕ) (b : Blamed) → n ≡ m → (n ≡ 0 → ⊥) → Refused n ≡ blamed_by m b
by_refused zero n b e h = absurd (h e)
by_refused (suc m) n b e h = rw e

by_taken : (m : ℕ) (a b : Blamed) → m ≡ 0 → a ≡ b → a ≡ blamed_by m b
by_taken m a b z e = rw z e

module _ (f : Font) (size : ℕ) (word : List ℕ) (options : RunOptions) (pairs ops pairs' ops' : List ℤ) (work work' : List ℕ) (edited : ℕ) where
  abbrev room : Room
  room = room_in pairs ops [] work

  abbrev others : ℕ
  others = lower (begin_refusal [] [] f.boundary word options) (lower (room_refusal (length f.instructions) edited) size)

  module _ (r : Compiled) (c : Compiles f size pairs ops [] work r pairs' ops' [] work') (n : ℕ) (e : n ≡ lower (loop_number
      (compiled_reply r).number) others) where
    number_is : n ≡ blame_refusal f room size word options edited
    number_is =
        e ∙ ap (λ (k : ℕ). lower (loop_number k) others) (ap (λ (x : Reply). x.number) c.answer ∙ reply_number (sized_refusal f room size) (font_counts f))

    pub given_refused : (without : Room) → (n ≡ 0 → ⊥) → Refused n ≡ blamed_in f room without size word options edited
    given_refused without h =
        by_refused (blame_refusal f room size word options edited) n (first_answer (answer_without f without size word options) (count f.instructions))
        number_is h

    -- the list for edited instructions has room for them
    pub edits_fit : n ≡ 0 → length f.instructions ≤ edited
    edits_fit z =
        room_fits (length f.instructions) edited
        (lower_none (room_refusal (length f.instructions) edited) size
        (lower_none (begin_refusal [] [] f.boundary word options) (lower (room_refusal (length f.instructions) edited) size)
        (lower_none (loop_number (compiled_reply r).number) others (sym e ∙ z)).1).1).0

    -- compile took the font
    pub not_refused : (k : ℕ) → r ≡ compiled.Refused k → n ≡ 0 → ⊥
    not_refused k q z =
        let a : ◌≡◌ {A = Reply} (record { number = k; values = [] }) (reply_of (sized_refusal f room size) (font_counts f)) = ap compiled_reply (sym q)
        ∙ c.answer in
        let m : loop_number (compiled_reply r).number ≡ 0 = (lower_none (loop_number (compiled_reply r).number) others (sym e ∙ z)).0 in
        no_refusal (sized_refusal f room size) k (pos (table_pairs f)) (pos (total_ops f) ∷ pos (length (loops_of_font f)) ∷ []) a
        (ap (λ (x : Compiled). (compiled_reply x).number) (sym q) ∙ loop_none (compiled_reply r).number (eqb (compiled_reply r).number 15) m)

    -- .. and the search answers
    pub given_searched : (p o l : ℕ) → r ≡ compiled.Tables p o l → n ≡ 0 → (pairs₂ ops₂ edited₂ : List ℤ) (x : Blamed) →
        length edited₂ ≡ length f.instructions →
        Searches f size word options (take (6 * p) pairs') (take (2 * o) ops') pairs₂ ops₂ edited₂ work' x →
        x ≡ blamed_in f room (room_of (length pairs₂) (length ops₂) 0 (length work)) size word options edited
    given_searched p o l q z pairs₂ ops₂ edited₂ x le h =
        let d : Compiles f size pairs ops [] work (compiled.Tables p o l) pairs' ops' [] work' =
        subst (λ (y : Compiled). Compiles f size pairs ops [] work y pairs' ops' [] work') q c in
        let t = (lists_of d).1 in
        let long : length work' ≡ length work = ap length c.cleared ∙ length-replicate (length work) 0 in
        by_taken (blame_refusal f room size word options edited) x
        (first_answer (answer_without f (room_of (length pairs₂) (length ops₂) 0 (length work)) size word options) (count f.instructions))
        (sym number_is ∙ z)
        (h.answer t.table t.op_table le
        ∙ ap (λ (w : ℕ). first_answer (answer_without f (room_of (length pairs₂) (length ops₂) 0 w) size word options) (count f.instructions)) long)
