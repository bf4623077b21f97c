-- The I lines of a text that is written anew: they stand as they stood, but for the kind and the operand where a value is held. A statement of
-- specs/SharedPurpose.
-- Assumes nothing.
use mathlib.Core.Path.{◌≡◌, refl, sym, ap, ◌∙◌, subst}
use mathlib.Core.Bool.{Bool, true, false}
use mathlib.Core.List.{List, [], ◌∷◌, ◌++◌, append_assoc, append-nil}
use mathlib.Core.Option.{some, some-injective}
use Prim.Native.Nat.{ℕ, zero, suc, ◌+◌, ◌*◌, ◌/◌, ◌%◌, ◌<◌}
use native.Mathlib.Omega.{arith}
use lib.IntN.{ℤ, pos}
use lib.Dec.{leb, eqb}
use lib.ListN.{length, get_or, take, length-append}
use lib.Seq.{take_at}
use borrow.Author.Tests.{eqb-true, ne_eqb}
use Rattle.lang.specs.Every.{both}
use Rattle.lang.specs.Records.{count}
use Rattle.lang.proofs.Every.{both_left}
use Rattle.program_kerns.specs.SharedKerns.{holds_value, share_kerns}
use Rattle.columns.specs.Numbers.{field_of}
use Rattle.columns.specs.Lines.{lines_of, fields_of, write_line}
use Rattle.columns.specs.Texts.{Text, text_by, opened, by_letter, add_lines, read_lines}
use Rattle.columns.specs.Replying.{line_of}
use Rattle.columns.specs.Converting.{instruction_line}
use Rattle.columns.specs.SharedPurpose.{lines_with, LinesKept}
use Rattle.columns.proofs.Options.{none_some, cond_some}
use Rattle.columns.proofs.ReadBack.{field_long}
use Rattle.columns.proofs.Theorems.{line_written}
use Rattle.columns.proofs.SharedPrograms.{either_way}
use Rattle.columns.proofs.SharedTwice.{shared_at}
use Rattle.columns.proofs.ConvertedLines.{anew, lines_none, Step, step, first, letter_kept}

-- ---- I lines that are read

-- a program, and the I lines that say it
data Said : List ℤ → List (List ℕ) → Type 0 where
  nothing : Said [] []
  line : (a b c d : ℤ) {s : List ℤ} {ls : List (List ℕ)} → Said s ls →
      Said (a ∷ b ∷ c ∷ d ∷ s) (write_line (line_of 73 (a ∷ b ∷ c ∷ d ∷ [])) ∷ ls)

said_more : (zs : List ℤ) {s : List ℤ} {ls : List (List ℕ)} → length zs ≡ 4 → Said s ls → Said (zs ++ s) (write_line (line_of 73 zs) ∷ ls)
said_more [] e r = absurd (omega arith)
said_more (a ∷ []) e r = absurd (omega arith)
said_more (a ∷ b ∷ []) e r = absurd (omega arith)
said_more (a ∷ b ∷ c ∷ []) e r = absurd (omega arith)
said_more (a ∷ b ∷ c ∷ d ∷ []) e r = line a b c d r
said_more (a ∷ b ∷ c ∷ d ∷ z ∷ zs) e r = absurd (omega arith)

said_at : {s : List ℤ} {ls : List (List ℕ)} → Said s ls → (i : ℕ) → i < count s → instruction_line s i ≡ get_or ls i []
said_at nothing i h = absurd (omega arith)
said_at (line a b c d r) zero h = refl
said_at (line a b c d {s = s} r) (suc i) h =
    let p : List ℤ = a ∷ b ∷ c ∷ d ∷ s in
    let e : 4 * suc i ≡ suc (suc (suc (suc (4 * i)))) = omega arith in
    let f : 4 * suc i + 1 ≡ suc (suc (suc (suc (4 * i + 1)))) = omega arith in
    let g : 4 * suc i + 2 ≡ suc (suc (suc (suc (4 * i + 2)))) = omega arith in
    let k : 4 * suc i + 3 ≡ suc (suc (suc (suc (4 * i + 3)))) = omega arith in
    (λ x. write_line (line_of 73 (get_or p (e x) (pos 0) ∷ get_or p (f x) (pos 0) ∷ get_or p (g x) (pos 0) ∷ get_or p (k x) (pos 0) ∷ [])))
    ∙ said_at r i (omega arith)

-- what some lines add to a program
record Added (ls : List (List ℕ)) (t u : Text) : Type 0 where
  numbers : List ℤ
  program : u.instructions ≡ t.instructions ++ numbers
  said : Said numbers (lines_with 73 ls)

-- a line that is not I leaves it
program_kept : (t u : Text) (letter : ℕ) (zs : List ℤ) → eqb letter 73 ≡ false → by_letter t letter zs ≡ some u → u.instructions ≡ t.instructions
program_kept t u letter zs e a = by (eqb letter 87) refl
  where
    v : Text
    v = text_by t.design t.boundary t.left t.instructions t.kerns t.entries (some zs)

    by : (y : Bool) → eqb letter 87 ≡ y → u.instructions ≡ t.instructions
    by true f =
        let w : by_letter t 87 zs ≡ some u = subst (λ (n : ℕ). by_letter t n zs ≡ some u) (eqb-true letter 87 f) a in
        ap (λ (x : Text). x.instructions) (sym (some-injective v u (cond_some (leb (length zs) 64) (some v) u w).1))
    by false f = (letter_kept t u letter zs e f a).program

module _ (t u : Text) (b : ℕ) (bs : List ℕ) (ls : List (List ℕ)) (p : Step t b bs ls u) (r : Added ls p.next u) where
  other_added : eqb b 73 ≡ false → Added ((b ∷ bs) ∷ ls) t u
  unfolding lines_with
  other_added e =
      record {
        numbers = r.numbers;
        program = r.program ∙ ap (λ (s : List ℤ). s ++ r.numbers) (program_kept t p.next b p.numbers e p.adds);
        said = rw e r.said;
      }

  instruction_added : eqb b 73 ≡ true → Added ((b ∷ bs) ∷ ls) t u
  unfolding lines_with
  instruction_added e =
      let zs = p.numbers in
      let q : b ≡ 73 = eqb-true b 73 e in
      let v : Text = anew t (t.instructions ++ zs) t.kerns in
      let few = leb (suc (length t.instructions / 4)) 512 in
      let a : by_letter t 73 zs ≡ some p.next = subst (λ (n : ℕ). by_letter t n zs ≡ some p.next) q p.adds in
      let c = cond_some (both (eqb (length zs) 4) few) (some v) p.next a in
      let four = eqb-true (length zs) 4 (both_left (eqb (length zs) 4) few c.0) in
      let n : t.instructions ++ zs ≡ p.next.instructions = ap (λ (x : Text). x.instructions) (some-injective v p.next c.1) in
      let l : 73 ∷ fields_of zs ≡ b ∷ bs = ap (λ (x : ℕ). x ∷ fields_of zs) (sym q) ∙ line_written (b ∷ bs) (line_of b zs) p.reads in
      record {
        numbers = zs ++ r.numbers;
        program = r.program ∙ ap (λ (s : List ℤ). s ++ r.numbers) (sym n) ∙ append_assoc t.instructions zs r.numbers;
        said = rw e (subst (λ (x : List ℕ). Said (zs ++ r.numbers) (x ∷ lines_with 73 ls)) l (said_more zs four r.said));
      }

  line_added : (x : Bool) → eqb b 73 ≡ x → Added ((b ∷ bs) ∷ ls) t u
  line_added true = instruction_added
  line_added false = other_added

lines_added : (ls : List (List ℕ)) (t u : Text) → add_lines ls (some t) ≡ some u → Added ls t u
unfolding add_lines lines_with
lines_added [] t u e =
    record {
      numbers = [];
      program = ap (λ (x : Text). x.instructions) (sym (some-injective t u e)) ∙ sym (append-nil t.instructions);
      said = nothing;
    }
lines_added ([] ∷ ls) t u e = absurd (none_some (sym (lines_none ls) ∙ e))
lines_added ((b ∷ bs) ∷ ls) t u e =
    let p = step t b bs ls u e in
    line_added t u b bs ls p (lines_added ls p.next u p.rest) (eqb b 73) refl

-- the I lines of a text say its program
all_said : (ls : List (List ℕ)) (t : Text) → read_lines (some ls) ≡ some t → Said t.instructions (lines_with 73 ls)
unfolding lines_with
all_said [] t e = absurd (none_some e)
all_said ([] ∷ ls) t e = absurd (none_some (sym (lines_none ls) ∙ e))
all_said ((b ∷ bs) ∷ ls) t e =
    let f = first b bs ls t e in
    let d = f.letter in
    let a = lines_added ls (opened f.design) t f.rest in
    rw (ne_eqb b 73 (λ z. omega (arith, z))) (subst (λ (s : List ℤ). Said s (lines_with 73 ls)) (sym a.program) a.said)

-- ---- the front of a line: its letter and its first two fields

front_is : (a b : ℤ) (zs : List ℤ) → take 25 (write_line (line_of 73 (a ∷ b ∷ zs))) ≡ 73 ∷ (field_of a ++ field_of b)
unfolding fields_of
front_is a b zs =
    let n : length (field_of a ++ field_of b) ≡ 24 = omega (arith, length-append (field_of a) (field_of b), field_long a, field_long b) in
    ap (λ (l : List ℕ). 73 ∷ l)
    (ap (take 24) (sym (append_assoc (field_of a) (field_of b) (fields_of zs))) ∙ take_at (field_of a ++ field_of b) (fields_of zs) 24 n)

-- ---- the numbers that are shared

module _ (s ks : List ℤ) (i : ℕ) (inside : i < count s) where
  whole_kept : (j : ℕ) → j / 4 ≡ i → holds_value s (length ks) i ≡ false → get_or (share_kerns s ks) j (pos 0) ≡ get_or s j (pos 0)
  whole_kept j d e = shared_at s ks j (omega arith) ∙ rw (d, e)

  front_kept : (j : ℕ) → j / 4 ≡ i → j % 4 < 2 → get_or (share_kerns s ks) j (pos 0) ≡ get_or s j (pos 0)
  front_kept j d l =
      shared_at s ks j (omega arith)
      ∙ rw (ne_eqb (j % 4) 2 (λ z. omega (arith, z)), ne_eqb (j % 4) 3 (λ z. omega (arith, z)))
      (either_way (holds_value s (length ks) (j / 4)) (get_or s j (pos 0)))

  whole_line : holds_value s (length ks) i ≡ false → instruction_line (share_kerns s ks) i ≡ instruction_line s i
  whole_line e =
      let a = whole_kept (4 * i) (omega arith) e in
      let b = whole_kept (4 * i + 1) (omega arith) e in
      let c = whole_kept (4 * i + 2) (omega arith) e in
      let d = whole_kept (4 * i + 3) (omega arith) e in
      (λ x. write_line (line_of 73 (a x ∷ b x ∷ c x ∷ d x ∷ [])))

  front_line : take 25 (instruction_line (share_kerns s ks) i) ≡ take 25 (instruction_line s i)
  front_line =
      let a = front_kept (4 * i) (omega arith) (omega arith) in
      let b = front_kept (4 * i + 1) (omega arith) (omega arith) in
      front_is (get_or (share_kerns s ks) (4 * i) (pos 0)) (get_or (share_kerns s ks) (4 * i + 1) (pos 0)) _
      ∙ (λ x. 73 ∷ (field_of (a x) ++ field_of (b x)))
      ∙ sym (front_is (get_or s (4 * i) (pos 0)) (get_or s (4 * i + 1) (pos 0)) _)

-- An I line stands as it stood where no value is held; its first 25 bytes always do.
pub lines_kept : LinesKept
lines_kept text t lines e l i h =
    let r = (cond_some (leb (length text) 65536) (read_lines (lines_of text)) t e).1 in
    let q : instruction_line t.instructions i ≡ get_or (lines_with 73 lines) i [] =
    said_at (all_said lines t (sym (ap read_lines l) ∙ r)) i h in
    record {
      whole = λ n. whole_line t.instructions t.kerns i h n ∙ q;
      front = front_line t.instructions t.kerns i h ∙ ap (take 25) q;
    }
