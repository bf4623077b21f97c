-- What a removal answers, by compile's answer of the edited font.
-- Assumes nothing.
use mathlib.Core.Path.{◌≡◌, refl, sym, ap, subst, ◌∙◌}
use mathlib.Core.Bool.{Bool, true, false, cond}
use mathlib.Core.List.{List, [], ◌∷◌}
use Prim.Native.Nat.{ℕ, zero, suc, ◌*◌, ◌≤◌}
use native.Mathlib.Omega.{arith}
use lib.IntN.{ℤ, pos}
use lib.ListN.{length, take, length-take}
use Rattle.lang.specs.Answers.{Reply, reply_of}
use Rattle.fonts.specs.declared.Compiled.{Compiled}
use Rattle.fonts.specs.declared.Compiled.TheVariants.{Tables, Refused}
use Rattle.fonts.specs.Fonts.{Font}
use Rattle.fonts.specs.Compiled.{Room, room_in, font_table, font_ops, table_pairs, total_ops, loops_of_font, sized_refusal, Compiles}
use Rattle.columns.proofs.FontBegins.{lists_of}
use Rattle.captions.specs.declared.RunOptions.{RunOptions}
use Rattle.captions.specs.Begin.{fresh_state}
use Rattle.removals.specs.Items.{run_items, font_items, same_items}
use Rattle.removals.specs.Search.{removal_answer}
use Rattle.blame_removal.specs.Edited.{TablesFit, compiled_answer}

-- a number is answered whatever the items are
any_items : (i m n k : ℕ) (a b : Bool) → m ≡ suc k → n ≡ suc k → removal_answer i n a ≡ removal_answer i m b
any_items i m n k a b e f = rw (e, f)

-- ---- by what compile answered and wrote

refused_known : (m n : ℕ) (v : ℤ) (vs : List ℤ) → ◌≡◌ {A = Reply} (record { number = n; values = [] }) (reply_of m (v ∷ vs)) → (k : ℕ) × (m ≡ suc k) ×
    (n ≡ suc k)
refused_known zero n v vs e =
    absurd (let q : ◌≡◌ {A = List ℤ} [] (v ∷ vs) = ap (λ (r : Reply). r.values) e in let z : ◌≡◌ {A = ℕ} 0 1 = cc in omega arith)
refused_known (suc m) n v vs e = (m, refl, ap (λ (r : Reply). r.number) e)

front_fits : (k : ℕ) (xs ys : List ℤ) → take k xs ≡ ys → length ys ≡ k → k ≤ length xs
front_fits k xs ys e l = omega (arith, length-take k xs, ap length e, l)

module _ (f : Font) (size : ℕ) (pairs ops pairs' ops' : List ℤ) (work work' : List ℕ) where
  pub tables_fit : (r : Compiled) → Compiles f size pairs ops [] work r pairs' ops' [] work' → TablesFit r pairs' ops'
  tables_fit (Tables p o l) c =
      let x = (lists_of c).1 in
      (front_fits (6 * p) pairs' (font_table f) x.table x.table_long, front_fits (2 * o) ops' (font_ops f) x.op_table x.op_table_long)
  tables_fit (Refused n) c = tt

  module _ (i : ℕ) (word : List ℕ) (options : RunOptions) (first second : List ℤ) where
    abbrev same : Bool
    same = same_items (run_items first second f.boundary word options (fresh_state word options)) (font_items f word options)

    pub compiled_is : (r : Compiled) → Compiles f size pairs ops [] work r pairs' ops' [] work' →
        compiled_answer i r f.boundary word options first second pairs' ops' ≡
        removal_answer i (sized_refusal f (room_in pairs ops [] work) size) same
    compiled_is (Tables p o l) c =
        let x = lists_of c in
        rw x.0
        (λ j. removal_answer i 0
        (same_items (run_items first second f.boundary word options (fresh_state word options))
        (run_items (x.1.table j) (x.1.op_table j) f.boundary word options (fresh_state word options))))
    compiled_is (Refused n) c =
        let m = sized_refusal f (room_in pairs ops [] work) size in
        let k = refused_known m n (pos (table_pairs f)) (pos (total_ops f) ∷ pos (length (loops_of_font f)) ∷ []) c.answer in
        any_items i m n k.0 true same k.1 k.2
