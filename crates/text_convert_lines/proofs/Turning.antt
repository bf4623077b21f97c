-- The lines of a text as they are written anew: each after those before it; the lines of an instruction and of kerns, as `put_lines` writes
-- them. Assumes nothing.
use mathlib.Core.Path.{◌≡◌, refl, sym, ap, ◌∙◌}
use mathlib.Core.Bool.{Bool, true, false, cond}
use mathlib.Core.List.{List, [], ◌∷◌, ◌++◌, map, append_assoc}
use Prim.Native.Nat.{ℕ, suc, ◌+◌, ◌*◌, ◌<◌}
use native.Mathlib.Numerals.{add-one}
use native.Mathlib.Omega.{arith}
use lib.IntN.{ℤ, pos}
use lib.Dec.{eqb}
use lib.ListN.{length, get_or, take, get_or-map, length-map}
use lib.Seq.{ext_get_or, take_at}
use Rattle.words.specs.Lists.{tabulate}
use Rattle.words.proofs.Lists.{length_tabulate, get_d_tabulate, tabulate_ext}
use Rattle.columns.specs.Lines.{Line, write_line, text_of}
use Rattle.columns.specs.Replying.{line_of, bytes_of}
use Rattle.columns.specs.Converting.{begins_with, instruction_line, kern_lines, converted_lines}
use Rattle.columns.proofs.ConvertedLengths.{text_append}
use Rattle.text_justify.specs.InFields.{numbers_from}
use Rattle.text_lines.specs.Writing.{line_at, lines_from}
use Rattle.text_lines.proofs.Bytes.{bytes_one}
use Rattle.text_convert_lines.specs.Anew.{instructions_in, line_anew}

-- ---- the letter of a line

starts : (c : ℕ) → eqb 10 c ≡ false → (l rest : List ℕ) → eqb (get_or (l ++ (10 ∷ rest)) 0 0) c ≡ begins_with c l
starts c e [] rest = e
starts c e (b ∷ l) rest = refl

pub starts_word : (l rest bs : List ℕ) → bs ≡ l ++ (10 ∷ rest) → eqb (get_or bs 0 0) 87 ≡ begins_with 87 l
starts_word l rest bs e = ap (λ (x : List ℕ). eqb (get_or x 0 0) 87) e ∙ starts 87 refl l rest

pub starts_instruction : (l rest bs : List ℕ) → bs ≡ l ++ (10 ∷ rest) → eqb (get_or bs 0 0) 73 ≡ begins_with 73 l
starts_instruction l rest bs e = ap (λ (x : List ℕ). eqb (get_or x 0 0) 73) e ∙ starts 73 refl l rest

-- ---- one line after the other

module _ (s added : List ℤ) where
  -- a line before W, and those after it
  pub turned : (l rest bs : List ℕ) (ls : List (List ℕ)) (i n : ℕ) → bs ≡ l ++ (10 ∷ rest) → n ≡ suc (length l) → begins_with 87 l ≡ false →
      text_of (converted_lines s added i (l ∷ ls)) ≡ line_anew s i bs n ++ text_of (converted_lines s added (i + instructions_in bs 0) ls)
  unfolding text_of converted_lines
  turned l rest bs ls i n e k w =
      ap
      (λ (t : Bool).
      text_of
      (cond t (kern_lines added ++ (l ∷ ls))
      (cond (begins_with 73 l) (instruction_line s i ∷ converted_lines s added (suc i) ls) (l ∷ converted_lines s added i ls))))
      w
      ∙ by (begins_with 73 l) (eqb (get_or bs 0 0) 73) (starts_instruction l rest bs e)
    where
      cut : take n bs ≡ l ++ (10 ∷ [])
      cut =
          ap (take n) (e ∙ sym (append_assoc l (10 ∷ []) rest))
          ∙ take_at (l ++ (10 ∷ [])) rest n (long l ∙ sym k)
        where
          long : (xs : List ℕ) → length (xs ++ (10 ∷ [])) ≡ suc (length xs)
          long [] = refl
          long (x ∷ xs) = ap suc (long xs)

      by : (f g : Bool) → g ≡ f →
          text_of (cond f (instruction_line s i ∷ converted_lines s added (suc i) ls) (l ∷ converted_lines s added i ls)) ≡
          cond g (instruction_line s i ++ (10 ∷ [])) (take n bs) ++ text_of (converted_lines s added (i + cond g 1 0) ls)
      by true true q =
          ap (λ (j : ℕ). instruction_line s i ++ (10 ∷ text_of (converted_lines s added j ls))) (sym (add-one i))
          ∙ sym (append_assoc (instruction_line s i) (10 ∷ []) (text_of (converted_lines s added (i + 1) ls)))
      by false false q =
          let z : i ≡ i + 0 = omega arith in
          sym (append_assoc l (10 ∷ []) (text_of (converted_lines s added i ls)))
          ∙ (λ x. sym cut x ++ text_of (converted_lines s added (z x) ls))
      by true false q = absurd (let z : ◌≡◌ {A = ℕ} 0 1 = cc in omega arith)
      by false true q = absurd (let z : ◌≡◌ {A = ℕ} 0 1 = cc in omega arith)

  -- at the end, and at W
  pub turned_none : (i : ℕ) → text_of (converted_lines s added i []) ≡ text_of (kern_lines added) ++ text_of []
  unfolding converted_lines
  turned_none i = ap text_of (append_none (kern_lines added)) ∙ text_append (kern_lines added) []
    where
      append_none : (xs : List (List ℕ)) → xs ≡ xs ++ []
      append_none [] = refl
      append_none (x ∷ xs) = ap (λ (ys : List (List ℕ)). x ∷ ys) (append_none xs)

  pub turned_word : (l : List ℕ) (ls : List (List ℕ)) (i : ℕ) → begins_with 87 l ≡ true →
      text_of (converted_lines s added i (l ∷ ls)) ≡ text_of (kern_lines added) ++ text_of (l ∷ ls)
  unfolding converted_lines
  turned_word l ls i w =
      ap
      (λ (t : Bool).
      text_of
      (cond t (kern_lines added ++ (l ∷ ls))
      (cond (begins_with 73 l) (instruction_line s i ∷ converted_lines s added (suc i) ls) (l ∷ converted_lines s added i ls))))
      w
      ∙ text_append (kern_lines added) (l ∷ ls)

-- ---- as `put_lines` writes them

four_numbers : (s : List ℤ) (i : ℕ) →
    numbers_from s (4 * (i + 0)) 4 ≡
    get_or s (4 * i) (pos 0) ∷ get_or s (4 * i + 1) (pos 0) ∷ get_or s (4 * i + 2) (pos 0) ∷ get_or s (4 * i + 3) (pos 0) ∷ []
unfolding tabulate
four_numbers s i =
    let a : 4 * (i + 0) + 0 ≡ 4 * i = omega arith in
    let b : 4 * (i + 0) + 1 ≡ 4 * i + 1 = omega arith in
    let c : 4 * (i + 0) + 2 ≡ 4 * i + 2 = omega arith in
    let d : 4 * (i + 0) + 3 ≡ 4 * i + 3 = omega arith in
    (λ x. get_or s (a x) (pos 0) ∷ get_or s (b x) (pos 0) ∷ get_or s (c x) (pos 0) ∷ get_or s (d x) (pos 0) ∷ [])

pub instruction_bytes : (s : List ℤ) (i : ℕ) → bytes_of (lines_from 73 4 s i 1) ≡ instruction_line s i ++ (10 ∷ [])
unfolding tabulate
instruction_bytes s i =
    bytes_one (line_at 73 4 s (i + 0)) ∙ ap (λ (zs : List ℤ). write_line (line_of 73 zs) ++ (10 ∷ [])) (four_numbers s i)

one_number : (xs : List ℤ) (j : ℕ) → line_at 75 1 xs (0 + j) ≡ line_of 75 (get_or xs j (pos 0) ∷ [])
unfolding tabulate
one_number xs j = let e : 1 * (0 + j) + 0 ≡ j = omega arith in ap (λ (k : ℕ). line_of 75 (get_or xs k (pos 0) ∷ [])) e

pub kern_bytes : (added : List ℤ) → bytes_of (lines_from 75 1 added 0 (length added)) ≡ text_of (kern_lines added)
kern_bytes added = ap text_of (ap (map write_line) (tabulate_ext n _ f (λ j h. one_number added j)) ∙ same)
  where
    n : ℕ
    n = length added

    f : ℕ → Line
    f j = line_of 75 (get_or added j (pos 0) ∷ [])

    g : ℤ → List ℕ
    g k = write_line (line_of 75 (k ∷ []))

    same : map write_line (tabulate n f) ≡ kern_lines added
    same =
        ext_get_or (g (pos 0)) (map write_line (tabulate n f)) (map g added)
        (length-map (tabulate n f) write_line ∙ length_tabulate n f ∙ sym (length-map added g))
        (λ i h.
        let l : i < n = omega (arith, h, length-map (tabulate n f) write_line, length_tabulate n f) in
        get_or-map write_line (tabulate n f) i (line_of 75 (pos 0 ∷ []))
        ∙ ap write_line (get_d_tabulate n f i (line_of 75 (pos 0 ∷ [])) l)
        ∙ sym (get_or-map g added i (pos 0)))
