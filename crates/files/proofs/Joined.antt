-- Laws of a written file: its pieces, by the lengths l of the old file, stand one after the other, each as long as its words.
-- Assumes nothing.
use mathlib.Core.Path.{◌≡◌, refl, ◌∙◌}
use mathlib.Core.List.{List, [], ◌++◌}
use Prim.Native.Nat.{ℕ, ◌+◌, ◌-◌, ◌*◌}
use native.Mathlib.Omega.{arith}
use lib.IntN.{ℤ, negsuc}
use lib.ListN.{length, get_or, drop, length-append}
use lib.Seq.{drop_at}
use Rattle.lang.specs.Records.{count}
use Rattle.files.specs.declared.FileLengths.{FileLengths}
use Rattle.files.specs.Lengths.{char_count, char_start, command_start, recipe_start, file_end}
use Rattle.files.specs.Sections.{file_bytes, section_bytes, half_bytes, kern_byte, command_byte, char_byte}
use Rattle.files.specs.Writing.{written_lengths, written_front}
use Rattle.files.proofs.Parts.{Stands, stands_end, stands_more, length_bytes}

-- ---- six pieces, one after the other

pub record Six (F C D W K R : List ℕ) (a b c d e : ℕ) : Type 0 where
  pub long : length (F ++ C ++ D ++ W ++ K ++ R) ≡ e + length R
  pub first : {x : ℕ} {p : List ℕ} → Stands F x p → Stands (F ++ C ++ D ++ W ++ K ++ R) x p
  pub second : Stands (F ++ C ++ D ++ W ++ K ++ R) a C
  pub third : Stands (F ++ C ++ D ++ W ++ K ++ R) b D
  pub fourth : Stands (F ++ C ++ D ++ W ++ K ++ R) c W
  pub fifth : Stands (F ++ C ++ D ++ W ++ K ++ R) d K
  pub last : drop e (F ++ C ++ D ++ W ++ K ++ R) ≡ R

pub six : (F C D W K R : List ℕ) (a b c d e : ℕ) → length F ≡ a → a + length C ≡ b → b + length D ≡ c → c + length W ≡ d → d + length K ≡ e →
    Six F C D W K R a b c d e
six F C D W K R a b c d e f g h i j =
    let two : length (F ++ C) ≡ b = simp length-append (omega arith) in
    let three : length (F ++ C ++ D) ≡ c = length-append (F ++ C) D ∙ omega arith in
    let four : length (F ++ C ++ D ++ W) ≡ d = length-append (F ++ C ++ D) W ∙ omega arith in
    let five : length (F ++ C ++ D ++ W ++ K) ≡ e = length-append (F ++ C ++ D ++ W) K ∙ omega arith in
    record {
      long = length-append (F ++ C ++ D ++ W ++ K) R ∙ omega arith;
      first = λ s. stands_more R (stands_more K (stands_more W (stands_more D (stands_more C s))));
      second = stands_more R (stands_more K (stands_more W (stands_more D (stands_end F C a f))));
      third = stands_more R (stands_more K (stands_more W (stands_end (F ++ C) D b two)));
      fourth = stands_more R (stands_more K (stands_end (F ++ C ++ D) W c three));
      fifth = stands_more R (stands_end (F ++ C ++ D ++ W) K d four);
      last = drop_at (F ++ C ++ D ++ W ++ K) R e five;
    }

-- ---- the five pieces of the front

module _ (old : List ℕ) (l : FileLengths) (n k : ℕ) (long : length old ≡ 4 * file_end l) where
  A : List ℕ
  A = half_bytes (written_lengths l n k).lf

  first_bytes : length (file_bytes old 2 16) ≡ 14
  first_bytes = length_bytes old 2 16 (omega arith)

  header_bytes : length (file_bytes old 20 (4 * char_start l)) ≡ 4 * char_start l - 20
  header_bytes = length_bytes old 20 (4 * char_start l) (omega arith)

  front_two : length (A ++ file_bytes old 2 16) ≡ 16
  unfolding A
  front_two = length-append A (file_bytes old 2 16) ∙ omega (arith, first_bytes)

  front_three : length (A ++ file_bytes old 2 16 ++ half_bytes n) ≡ 18
  front_three = length-append (A ++ file_bytes old 2 16) (half_bytes n) ∙ omega (arith, front_two)

  front_four : length (A ++ file_bytes old 2 16 ++ half_bytes n ++ half_bytes k) ≡ 20
  front_four = length-append (A ++ file_bytes old 2 16 ++ half_bytes n) (half_bytes k) ∙ omega (arith, front_three)

  pub front_long : length (written_front old l n k) ≡ 4 * char_start l
  unfolding A
  front_long =
      length-append (A ++ file_bytes old 2 16 ++ half_bytes n ++ half_bytes k) (file_bytes old 20 (4 * char_start l))
      ∙ omega (arith, front_four, header_bytes)

  pub front_size : Stands (written_front old l n k) 0 (half_bytes (written_lengths l n k).lf)
  unfolding A
  front_size =
      stands_more (file_bytes old 20 (4 * char_start l)) (stands_more (half_bytes k) (stands_more (half_bytes n) (stands_more (file_bytes old 2 16)
      (stands_end [] A 0 refl))))

  pub front_old : Stands (written_front old l n k) 2 (file_bytes old 2 16)
  unfolding A
  front_old =
      stands_more (file_bytes old 20 (4 * char_start l)) (stands_more (half_bytes k) (stands_more (half_bytes n) (stands_end A (file_bytes old 2 16) 2 refl)))

  pub front_words : Stands (written_front old l n k) 16 (half_bytes n)
  unfolding A
  front_words =
      stands_more (file_bytes old 20 (4 * char_start l)) (stands_more (half_bytes k) (stands_end (A ++ file_bytes old 2 16) (half_bytes n) 16 front_two))

  pub front_kerns : Stands (written_front old l n k) 18 (half_bytes k)
  unfolding A
  front_kerns =
      stands_more (file_bytes old 20 (4 * char_start l)) (stands_end (A ++ file_bytes old 2 16 ++ half_bytes n) (half_bytes k) 18 front_three)

  pub front_header : Stands (written_front old l n k) 20 (file_bytes old 20 (4 * char_start l))
  unfolding A
  front_header = stands_end (A ++ file_bytes old 2 16 ++ half_bytes n ++ half_bytes k) (file_bytes old 20 (4 * char_start l)) 20 front_four
