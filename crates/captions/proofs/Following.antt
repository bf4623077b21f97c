-- A step from a sound state answers as the plain run over the table does, and is not refused: by turns, one letter each.
-- Assumes nothing.
use mathlib.Core.Path.{◌≡◌, refl, subst}
use mathlib.Core.Bool.{Bool, true, false, cond}
use mathlib.Core.List.{List, [], ◌∷◌}
use mathlib.Core.Option.{Option, some}
use Prim.Native.Nat.{ℕ, zero, suc, ◌+◌, ◌%◌, ◌≤◌}
use native.Mathlib.Omega.{arith}
use lib.IntN.{ℤ}
use lib.Dec.{leb, eqb}
use lib.ListN.{length, drop}
use borrow.Author.Tests.{leb-true, ne_eqb}
use Rattle.words.specs.Words.{word_of}
use Rattle.lang.specs.Every.{both, every}
use Rattle.lang.specs.Records.{within, absent_or}
use Rattle.lang.proofs.Every.{every_at, every_all, both_left, both_right}
use Rattle.lang.proofs.Records.{within_bound}
use Rattle.reading.specs.Items.{Out, glyph, kern}
use Rattle.reading.specs.Depth.{Finished}
use Rattle.reading.specs.Form.{no_plain, formed}
use Rattle.reading.specs.Run as plainly
use Rattle.fonts.specs.Fonts.{left_of}
use Rattle.captions.specs.declared.NextLeft.{NextLeft}
use Rattle.captions.specs.declared.NextLeft.TheVariants as next
use Rattle.captions.specs.declared.Consumes.{Consumes}
use Rattle.captions.specs.declared.State.{State}
use Rattle.captions.specs.declared.Answer.TheVariants.{Char}
use Rattle.captions.specs.declared.Step.{Step}
use Rattle.captions.specs.declared.Turned.{Turned}
use Rattle.captions.specs.Tables.{pair_count, op_count, number, left_place, key_by, find, first_op, count_of, last_code, last_flag, entry_of_pair, ops_from, op_fits}
use Rattle.captions.specs.Tables.{record_fits}
use Rattle.captions.specs.Form.{pair_form, table_form, key_form, ops_end, comes_after, sizes_form}
use Rattle.captions.specs.Steps.{step_by}
use Rattle.captions.proofs.Finding.{find_inside}
use Rattle.captions.proofs.Raising.{raise_first}
use Rattle.captions.proofs.Sound.{state, is_pending, next_of, Sound, Follows}
use Rattle.captions.proofs.Giving.{gives_ligature, gives_op}

-- ---- what a table of the form says of a pair that is found

-- a found pair has the left, its ops and last are formed, and its numbers are in range
pub record Formed (pairs ops : List ℤ) (left k : ℕ) : Type 0 where
  pub fits : record_fits pairs ops k ≡ true
  pub code : last_code pairs k ≤ 255
  pub right : word_of (number pairs k 1) ≤ 255
  pub among : first_op pairs k + count_of pairs k ≤ op_count ops
  pub form : formed (left_of left) (word_of (number pairs k 1)) (entry_of_pair pairs ops k) ≡ true

four : (a b c d : Bool) → both a (both b (both c d)) ≡ true → (a ≡ true) × (b ≡ true) × (c ≡ true) × (d ≡ true)
four a b c d h =
    let i = both_right a (both b (both c d)) h in
    let j = both_right b (both c d) i in
    (both_left a (both b (both c d)) h, both_left b (both c d) i, both_left c d j, both_right c d j)

three : (a b c : Bool) → both a (both b c) ≡ true → (a ≡ true) × (b ≡ true) × (c ≡ true)
three a b c h = (both_left a (both b c) h, both_left b c (both_right a (both b c) h), both_right b c (both_right a (both b c) h))

module _ (pairs ops : List ℤ) (table : table_form pairs ops ≡ true) where
  parts : (sizes_form pairs ops ≡ true) × (every (op_count ops) (op_fits ops) ≡ true) × (every (pair_count pairs) (pair_form pairs ops) ≡ true)
      × (eqb (ops_end pairs (pair_count pairs)) (op_count ops) ≡ true)
  parts =
      four (sizes_form pairs ops) (every (op_count ops) (op_fits ops)) (every (pair_count pairs) (pair_form pairs ops))
      (eqb (ops_end pairs (pair_count pairs)) (op_count ops)) table

  pub few_ops : op_count ops ≤ 2147483647
  few_ops = leb-true (op_count ops) 2147483647 (three (eqb (length pairs % 6) 0) (eqb (length ops % 2) 0) (leb (op_count ops) 2147483647) parts.0).2

  pub all_ops : every (op_count ops) (op_fits ops) ≡ true
  all_ops = parts.1

  pub all_pairs : every (pair_count pairs) (pair_form pairs ops) ≡ true
  all_pairs = parts.2

  pub keys_formed : every (pair_count pairs) (key_form pairs) ≡ true
  keys_formed =
      every_all (pair_count pairs) (key_form pairs) (λ k h. both_left (key_form pairs k) _ (every_at (pair_count pairs) k (pair_form pairs ops) all_pairs h))

  pub found_formed : (left y k : ℕ) → y ≤ 255 → find pairs (key_by left y) ≡ some k → Formed pairs ops left k
  found_formed left y k small e =
      let i = find_inside pairs (key_by left y) k e in
      let right_fits : Bool = within 255 (number pairs k 1) in
      let form = formed (left_of (left_place (number pairs k 0))) (word_of (number pairs k 1)) (entry_of_pair pairs ops k) in
      let h = four (key_form pairs k) (record_fits pairs ops k) (eqb (first_op pairs k) (ops_end pairs k)) form
      (every_at (pair_count pairs) k (pair_form pairs ops) all_pairs i.0) in
      let keyed = three (absent_or 255 (number pairs k 0)) right_fits (comes_after pairs k) h.0 in
      let right : word_of (number pairs k 1) ≤ 255 = within_bound 255 (number pairs k 1) keyed.1 in
      let fits = four (within 255 (number pairs k 2)) (within 1 (number pairs k 3))
      (cond (last_flag pairs k) true (eqb (last_code pairs k) (word_of (number pairs k 1)))) (leb (first_op pairs k + count_of pairs k) (op_count ops)) h.1 in
      let at_left : left_place (number pairs k 0) ≡ left = omega (arith, i.1) in
      record {
        fits = h.1;
        code = within_bound 255 (number pairs k 2) fits.0;
        right = right;
        among = leb-true (first_op pairs k + count_of pairs k) (op_count ops) fits.3;
        form = subst (λ (l : ℕ). formed (left_of l) (word_of (number pairs k 1)) (entry_of_pair pairs ops k) ≡ true) at_left h.3;
      }

-- ---- steps that look nothing up

-- ops are given whatever follows
pub given_first_lem : (t : Finished) (right : Option ℕ) (rest : List ℕ) (b : Bool) (x : Out) (os : List Out) (n : plainly.PlainNext) →
    plainly.step_from t right rest (raise_first b (x ∷ os)) n ≡ plainly.given (raise_first b (x ∷ os)) n rest
unfolding plainly.step_from raise_first
given_first_lem t right [] b (glyph y) os n = refl
given_first_lem t right [] b (kern k) os n = refl
given_first_lem t right (c ∷ cs) b (glyph y) os n = refl
given_first_lem t right (c ∷ cs) b (kern k) os n = refl

pub given_final : (t : Finished) (right : Option ℕ) (rest : List ℕ) (c : ℕ) →
    plainly.step_from t right rest [] (plainly.final c) ≡ plainly.given [] (plainly.final c) rest
unfolding plainly.step_from
given_final t right [] c = refl
given_final t right (y ∷ ys) c = refl

pub given_stop : (t : Finished) (right : Option ℕ) (rest : List ℕ) → plainly.step_from t right rest [] plainly.stop ≡ plainly.given [] plainly.stop rest
unfolding plainly.step_from
given_stop t right [] = refl
given_stop t right (y ∷ ys) = refl

-- the next left is not to be looked up, or an op comes before it
abbrev pub is_now : ℕ → NextLeft → Bool
is_now (suc m) n = true
is_now zero next.Boundary = false
is_now zero (next.Char c) = false
is_now zero (next.Lig c) = false
is_now zero (next.FinalLig c) = true
is_now zero next.None = true

no : {A : Type 0} → ◌≡◌ {A = Bool} false true → A
no e = absurd (let z : ◌≡◌ {A = ℕ} 0 1 = cc in omega arith)

module _ (ops : List ℤ) (word : List ℕ) (fit : every (op_count ops) (op_fits ops) ≡ true) (look : NextLeft → State → Turned) where
  pub gives_now : (go : State → Step) (n : NextLeft) (o m r g p : ℕ) (b : Bool) (k : Consumes) → is_now m n ≡ true →
      Sound ops word (state n o m r g p b k) (ops_from ops o m) →
      Follows ops word (step_by ops look go (state n o m r g p b k)) (plainly.given (raise_first (is_pending p) (ops_from ops o m)) (next_of n) (drop r word))
  unfolding ops_from raise_first no_plain
  gives_now go n o (suc m) r g p b k h s =
      let t : eqb (suc m) 0 ≡ false = ne_eqb (suc m) 0 (λ e. omega (arith, e)) in
      rw t (gives_op ops word n o m r g p b k fit s)
  gives_now go next.Boundary o zero r g p b k h s = no h
  gives_now go (next.Char c) o zero r g p b k h s = no h
  gives_now go (next.Lig c) o zero r g p b k h s = no h
  gives_now go (next.FinalLig c) o zero r g p b k h s =
      gives_ligature ops word next.None o 0 r g p b k c true (s.inside, s.among, refl, refl) (omega (arith, s.counted))
  gives_now go next.None o zero r g p b k h s = record { answers = refl; leaves = refl; sound = s }
