-- Lines that are written anew, read again: what was read of the lines as they stood, with the program that was written and the kerns that were added. No line
-- has a line feed in it, so that they are the lines of their text; and written anew again they stay.
-- Assumes nothing.
use mathlib.Core.Path.{◌≡◌, refl, sym, ap, ◌∙◌, subst}
use mathlib.Core.Bool.{Bool, true, false, cond}
use mathlib.Core.List.{List, [], ◌∷◌, ◌++◌, append_assoc, append-nil}
use mathlib.Core.Option.{Option, none, some, some-injective}
use Prim.Native.Nat.{ℕ, suc, ◌+◌, ◌*◌, ◌/◌, ◌%◌, ◌≤◌}
use native.Mathlib.Omega.{arith}
use lib.IntN.{ℤ, pos}
use lib.Dec.{leb, eqb}
use lib.ListN.{length, get_or, length-append}
use borrow.Author.Tests.{le-leb, leb-true, eqb-true, eqb-false, ne_eqb}
use Rattle.words.specs.Lists.{tabulate}
use Rattle.words.proofs.Lists.{length_tabulate}
use Rattle.lang.specs.Every.{both}
use Rattle.lang.proofs.Every.{both_left, both_right}
use Rattle.columns.specs.Lines.{Line, on_first, after_feed, lines_of, read_fields, lettered, read_line, write_line, text_of}
use Rattle.columns.specs.Texts.{Text, text_by, opened, with_boundary, with_left, with_kern, with_entry, with_word, by_one, by_letter, unless_word}
use Rattle.columns.specs.Texts.{add_to, add_lines, opened_by, read_lines}
use Rattle.columns.specs.Replying.{line_of}
use Rattle.columns.specs.Purpose.{is_i32, all_i32}
use Rattle.columns.specs.Converting.{begins_with, instruction_line, kern_lines, converted_lines}
use Rattle.columns.proofs.Options.{none_some, cond_some, lettered_some}
use Rattle.columns.proofs.Fitting.{Fits}
use Rattle.columns.proofs.LinesBack.{Unfed, fields_unfed, line_back}
use Rattle.columns.proofs.LinesBack as back
use Rattle.columns.proofs.Theorems.{line_read}

-- ---- one line

-- what was read so far, with another program and other kerns
abbrev pub anew : Text → List ℤ → List ℤ → Text
anew t s ks = text_by t.design t.boundary t.left s ks t.entries t.word

unless_none : (w : Option (List ℤ)) (r : Option Text) → w ≡ none → unless_word w r ≡ r
unless_none none r e = refl
unless_none (some zs) r e = absurd (none_some (sym e))

unless_is : (w : Option (List ℤ)) (r : Option Text) (u : Text) → unless_word w r ≡ some u → r ≡ some u
unless_is none r u e = e
unless_is (some zs) r u e = absurd (none_some e)

pub lines_none : (ls : List (List ℕ)) → add_lines ls none ≡ none
unfolding add_lines
lines_none [] = refl
lines_none (l ∷ ls) = lines_none ls

some_read : (ls : List (List ℕ)) (r : Option Text) (u : Text) → add_lines ls r ≡ some u → (t : Text) × (r ≡ some t)
some_read ls none u e = absurd (none_some (sym (lines_none ls) ∙ e))
some_read ls (some t) u e = (t, refl)

line_some : (r : Option Text) (o : Option Line) (u : Text) → add_to r o ≡ some u → (l : Line) × (o ≡ some l)
line_some none o u e = absurd (none_some e)
line_some (some t) none u e = absurd (none_some e)
line_some (some t) (some l) u e = (l, refl)

-- a line by its first byte
lettered_by : (b : ℕ) (bs : List ℕ) (l : Line) → read_line (b ∷ bs) ≡ some l → read_line (b ∷ bs) ≡ some (line_of b l.numbers)
lettered_by b bs l e =
    let c = cond_some (eqb (length bs % 12) 0) (lettered b (read_fields (length bs / 12) bs)) l e in
    let g = lettered_some b (read_fields (length bs / 12) bs) l c.1 in
    rw c.0 (ap (lettered b) g.0)

-- one line, of which those that follow are read
pub record Step (t : Text) (b : ℕ) (bs : List ℕ) (ls : List (List ℕ)) (u : Text) : Type 0 where
  pub numbers : List ℤ
  pub next : Text
  pub reads : read_line (b ∷ bs) ≡ some (line_of b numbers)
  pub adds : by_letter t b numbers ≡ some next
  pub rest : add_lines ls (some next) ≡ some u

pub step : (t : Text) (b : ℕ) (bs : List ℕ) (ls : List (List ℕ)) (u : Text) → add_lines ((b ∷ bs) ∷ ls) (some t) ≡ some u → Step t b bs ls u
unfolding add_lines
step t b bs ls u e =
    let n = some_read ls (add_to (some t) (read_line (b ∷ bs))) u e in
    let l = line_some (some t) (read_line (b ∷ bs)) n.0 n.1 in
    let r = lettered_by b bs l.0 l.1 in
    record {
      numbers = l.0.numbers;
      next = n.0;
      reads = r;
      adds = unless_is t.word (by_letter t b l.0.numbers) n.0 (sym (ap (add_to (some t)) r) ∙ n.1);
      rest = sym (ap (add_lines ls) n.1) ∙ e;
    }

-- a line that is read, and added to what has no word yet
line_added : (t : Text) (l : List ℕ) (letter : ℕ) (zs : List ℤ) → t.word ≡ none → read_line l ≡ some (line_of letter zs) →
    add_to (some t) (read_line l) ≡ by_letter t letter zs
line_added t l letter zs w e = ap (add_to (some t)) e ∙ unless_none t.word (by_letter t letter zs) w

-- ---- the first line, D

opened_some : (zs : List ℤ) (t : Text) → by_one (λ z. some (opened z)) zs ≡ some t → (z : ℤ) × (some (opened z) ≡ some t)
opened_some [] t e = absurd (none_some e)
opened_some (z ∷ []) t e = (z, e)
opened_some (z ∷ y ∷ zs) t e = absurd (none_some e)

open_some : (o : Option Line) (t : Text) → opened_by o ≡ some t → (l : Line) × (o ≡ some l)
open_some none t e = absurd (none_some e)
open_some (some l) t e = (l, refl)

-- it, and those that follow, are read
pub record First (b : ℕ) (bs : List ℕ) (ls : List (List ℕ)) (u : Text) : Type 0 where
  pub design : ℤ
  pub letter : b ≡ 68
  pub opens : opened_by (read_line (b ∷ bs)) ≡ some (opened design)
  pub rest : add_lines ls (some (opened design)) ≡ some u

pub first : (b : ℕ) (bs : List ℕ) (ls : List (List ℕ)) (u : Text) → add_lines ls (opened_by (read_line (b ∷ bs))) ≡ some u → First b bs ls u
first b bs ls u e =
    let n = some_read ls (opened_by (read_line (b ∷ bs))) u e in
    let x = open_some (read_line (b ∷ bs)) n.0 n.1 in
    let r = lettered_by b bs x.0 x.1 in
    let c = cond_some (eqb b 68) (by_one (λ z. some (opened z)) x.0.numbers) n.0 (sym (ap opened_by r) ∙ n.1) in
    let o = opened_some x.0.numbers n.0 c.1 in
    let f : opened_by (read_line (b ∷ bs)) ≡ some (opened o.0) = n.1 ∙ sym o.1 in
    record { design = o.0; letter = eqb-true b 68 c.0; opens = f; rest = sym (ap (add_lines ls) f) ∙ e }

-- ---- a line that is neither I nor W: it is read as it was, with another program before it

abbrev again : List ℤ → Option Text → Option Text
again s none = none
again s (some t) = some (anew t s t.kerns)

module _ (t : Text) (s : List ℤ) where
  abbrev t' : Text
  t' = anew t s t.kerns

  again_cond : (b : Bool) (x y x' y' : Option Text) → x' ≡ again s x → y' ≡ again s y → cond b x' y' ≡ again s (cond b x y)
  again_cond true x y x' y' p q = p
  again_cond false x y x' y' p q = q

  again_one : (f g : ℤ → Option Text) (zs : List ℤ) → ((z : ℤ) → g z ≡ again s (f z)) → by_one g zs ≡ again s (by_one f zs)
  again_one f g [] h = refl
  again_one f g (z ∷ []) h = h z
  again_one f g (z ∷ y ∷ zs) h = refl

  again_boundary : (o : Option ℤ) (z : ℤ) → with_boundary t' o z ≡ again s (with_boundary t o z)
  again_boundary none z = refl
  again_boundary (some y) z = refl

  again_left : (o : Option ℤ) (z : ℤ) → with_left t' o z ≡ again s (with_left t o z)
  again_left none z = refl
  again_left (some y) z = refl

  again_kern : (zs : List ℤ) → with_kern t' zs ≡ again s (with_kern t zs)
  again_kern zs = again_cond (both (eqb (length zs) 1) (leb (suc (length t.kerns)) 512)) (some _) none (some _) none refl refl

  again_entry : (zs : List ℤ) → with_entry t' zs ≡ again s (with_entry t zs)
  again_entry zs = again_cond (eqb (length zs) 2) (some _) none (some _) none refl refl

  again_word : (zs : List ℤ) → with_word t' zs ≡ again s (with_word t zs)
  again_word zs = again_cond (leb (length zs) 64) (some _) none (some _) none refl refl

  letter_again : (letter : ℕ) (zs : List ℤ) → eqb letter 73 ≡ false → by_letter t' letter zs ≡ again s (by_letter t letter zs)
  letter_again letter zs e =
      rw e
      (again_cond (eqb letter 75) _ _ _ _ (again_kern zs)
      (again_cond (eqb letter 69) _ _ _ _ (again_entry zs)
      (again_cond (eqb letter 82) _ _ _ _ (again_one (with_boundary t t.boundary) (with_boundary t' t.boundary) zs (again_boundary t.boundary))
      (again_cond (eqb letter 76) _ _ _ _ (again_one (with_left t t.left) (with_left t' t.left) zs (again_left t.left))
      (again_cond (eqb letter 87) _ _ _ _ (again_word zs) refl)))))

-- .. and it leaves the program, and adds no word
pub record Kept (t u : Text) : Type 0 where
  pub program : u.instructions ≡ t.instructions
  pub word : u.word ≡ t.word

module _ (t u : Text) where
  kept_as : (v : Text) → some v ≡ some u → Kept t v → Kept t u
  kept_as v e k = subst (Kept t) (some-injective v u e) k

  same : {v : Text} → some v ≡ some u → v.instructions ≡ t.instructions → v.word ≡ t.word → Kept t u
  same {v} e p w = kept_as v e (record { program = p; word = w })

  kept_cond : (b : Bool) (x y : Option Text) → (x ≡ some u → Kept t u) → (y ≡ some u → Kept t u) → cond b x y ≡ some u → Kept t u
  kept_cond true x y f g e = f e
  kept_cond false x y f g e = g e

  kept_one : (f : ℤ → Option Text) (zs : List ℤ) → ((z : ℤ) → f z ≡ some u → Kept t u) → by_one f zs ≡ some u → Kept t u
  kept_one f [] h e = absurd (none_some e)
  kept_one f (z ∷ []) h e = h z e
  kept_one f (z ∷ y ∷ zs) h e = absurd (none_some e)

  kept_boundary : (o : Option ℤ) (z : ℤ) → with_boundary t o z ≡ some u → Kept t u
  kept_boundary none z e = same e refl refl
  kept_boundary (some y) z e = absurd (none_some e)

  kept_left : (o : Option ℤ) (z : ℤ) → with_left t o z ≡ some u → Kept t u
  kept_left none z e = same e refl refl
  kept_left (some y) z e = absurd (none_some e)

  kept_kern : (zs : List ℤ) → with_kern t zs ≡ some u → Kept t u
  kept_kern zs e = same (cond_some (both (eqb (length zs) 1) (leb (suc (length t.kerns)) 512)) (some _) u e).1 refl refl

  kept_entry : (zs : List ℤ) → with_entry t zs ≡ some u → Kept t u
  kept_entry zs e = same (cond_some (eqb (length zs) 2) (some _) u e).1 refl refl

  pub letter_kept : (letter : ℕ) (zs : List ℤ) → eqb letter 73 ≡ false → eqb letter 87 ≡ false → by_letter t letter zs ≡ some u → Kept t u
  letter_kept letter zs e f =
      rw (e, f)
      (kept_cond (eqb letter 75) _ _ (kept_kern zs)
      (kept_cond (eqb letter 69) _ _ (kept_entry zs)
      (kept_cond (eqb letter 82) _ _ (kept_one (with_boundary t t.boundary) zs (kept_boundary t.boundary))
      (kept_cond (eqb letter 76) _ _ (kept_one (with_left t t.left) zs (kept_left t.left)) (λ g. absurd (none_some g))))))

-- ---- K lines that are added

one_fits : (k : ℤ) → is_i32 k ≡ true → all_i32 (k ∷ []) ≡ true
unfolding all_i32
one_fits k e = rw e

kern_read : (t : Text) (k : ℤ) → t.word ≡ none → is_i32 k ≡ true → suc (length t.kerns) ≤ 512 →
    add_to (some t) (read_line (write_line (line_of 75 (k ∷ [])))) ≡ some (anew t t.instructions (t.kerns ++ (k ∷ [])))
kern_read t k w f l =
    line_added t (write_line (line_of 75 (k ∷ []))) 75 (k ∷ []) w (line_read (line_of 75 (k ∷ [])) (one_fits k f))
    ∙ rw (le-leb (suc (length t.kerns)) 512 l)

kerns_read : (ks : List ℤ) (t : Text) (ls : List (List ℕ)) → t.word ≡ none → Fits ks → length t.kerns + length ks ≤ 512 →
    add_lines (kern_lines ks ++ ls) (some t) ≡ add_lines ls (some (anew t t.instructions (t.kerns ++ ks)))
unfolding add_lines
kerns_read [] t ls w f l = ap (λ (ks : List ℤ). add_lines ls (some (anew t t.instructions ks))) (sym (append-nil t.kerns))
kerns_read (k ∷ ks) t ls w f l =
    let m : length (t.kerns ++ (k ∷ [])) ≡ length t.kerns + 1 = length-append t.kerns (k ∷ []) in
    ap (add_lines (kern_lines ks ++ ls)) (kern_read t k w (f 0) (omega arith))
    ∙ kerns_read ks (anew t t.instructions (t.kerns ++ (k ∷ []))) ls w (λ j. f (suc j)) (omega arith)
    ∙ ap (λ (l : List ℤ). add_lines ls (some (anew t t.instructions l))) (append_assoc t.kerns (k ∷ []) ks)

-- ---- W

-- nothing follows it
word_last : (ls : List (List ℕ)) (t u : Text) (zs : List ℤ) → t.word ≡ some zs → add_lines ls (some t) ≡ some u → (ls ≡ []) × (t ≡ u)
unfolding add_lines
word_last [] t u zs w e = (refl, some-injective t u e)
word_last (l ∷ ls) t u zs w e = absurd (none_some (sym (lines_none ls) ∙ sym (ap (add_lines ls) (refused (read_line l))) ∙ e))
  where
    refused : (o : Option Line) → add_to (some t) o ≡ none
    refused none = refl
    refused (some x) = ap (λ (o : Option (List ℤ)). unless_word o (by_letter t x.letter x.numbers)) w

-- ---- all lines

module _ (s added : List ℤ) (program_fits : Fits s) (added_fits : Fits added) where
  -- the first n numbers of the program
  abbrev front : ℕ → List ℤ
  front n = tabulate n (λ j. get_or s j (pos 0))

  abbrev four : ℕ → List ℤ
  four i = get_or s (4 * i) (pos 0) ∷ get_or s (4 * i + 1) (pos 0) ∷ get_or s (4 * i + 2) (pos 0) ∷ get_or s (4 * i + 3) (pos 0) ∷ []

  four_fits : (i : ℕ) → all_i32 (four i) ≡ true
  unfolding all_i32
  four_fits i = rw (program_fits (4 * i), program_fits (4 * i + 1), program_fits (4 * i + 2), program_fits (4 * i + 3))

  front_four : (i : ℕ) → front (4 * i) ++ four i ≡ front (4 * suc i)
  unfolding tabulate
  front_four i =
      let e : 4 * suc i ≡ suc (suc (suc (suc (4 * i)))) = omega arith in
      let a : 4 * i + 1 ≡ suc (4 * i) = omega arith in
      let b : 4 * i + 2 ≡ suc (suc (4 * i)) = omega arith in
      let c : 4 * i + 3 ≡ suc (suc (suc (4 * i))) = omega arith in
      rw (e, a, b, c) (simp append_assoc)

  -- what is read of the lines before W
  abbrev written : Text → ℕ → Text
  written t i = anew t (front (4 * i)) t.kerns

  -- and of all lines
  abbrev wholly : Text → Text
  wholly u = anew u (front (length u.instructions)) (u.kerns ++ added)

  instruction_read : (t : Text) (i : ℕ) → t.word ≡ none → suc i ≤ 512 →
      add_to (some (written t i)) (read_line (instruction_line s i)) ≡ some (written t (suc i))
  instruction_read t i w l =
      let n : length (front (4 * i)) ≡ 4 * i = length_tabulate (4 * i) (λ j. get_or s j (pos 0)) in
      line_added (written t i) (instruction_line s i) 73 (four i) w (line_read (line_of 73 (four i)) (four_fits i))
      ∙ rw (le-leb (suc (length (front (4 * i)) / 4)) 512 (omega arith))
      (ap (λ (is : List ℤ). some (anew t is t.kerns)) (front_four i))

  abbrev Again : List (List ℕ) → Type 0
  Again ls =
      (t u : Text) (i : ℕ) → t.word ≡ none → length t.instructions ≡ 4 * i → length u.kerns + length added ≤ 512 →
      add_lines ls (some t) ≡ some u → add_lines (converted_lines s added i ls) (some (written t i)) ≡ some (wholly u)

  end_again : Again []
  unfolding add_lines converted_lines
  end_again t u i w n l e =
      let q : t ≡ u = some-injective t u e in
      let m : length t.kerns ≡ length u.kerns = ap (λ (x : Text). length x.kerns) q in
      ap (λ (ls : List (List ℕ)). add_lines ls (some (written t i))) (sym (append-nil (kern_lines added)))
      ∙ kerns_read added (written t i) [] w added_fits (omega arith)
      ∙ ap (λ (k : ℕ). some (anew t (front k) (t.kerns ++ added))) (sym n)
      ∙ ap (λ (x : Text). some (wholly x)) q

  word_again : (bs : List ℕ) (ls : List (List ℕ)) (t u : Text) (i : ℕ) → t.word ≡ none → length t.instructions ≡ 4 * i →
      length u.kerns + length added ≤ 512 → add_lines ((87 ∷ bs) ∷ ls) (some t) ≡ some u →
      add_lines (kern_lines added ++ ((87 ∷ bs) ∷ ls)) (some (written t i)) ≡ some (wholly u)
  unfolding add_lines
  word_again bs ls t u i w n l e =
      let p = step t 87 bs ls u e in
      let zs = p.numbers in
      let v : Text = text_by t.design t.boundary t.left t.instructions t.kerns t.entries (some zs) in
      let c = cond_some (leb (length zs) 64) (some v) p.next p.adds in
      let x = some-injective v p.next c.1 in
      let last = word_last ls p.next u zs (sym (ap (λ (y : Text). y.word) x)) p.rest in
      let q : v ≡ u = x ∙ last.1 in
      let m : length t.kerns ≡ length u.kerns = ap (λ (y : Text). length y.kerns) q in
      kerns_read added (written t i) ((87 ∷ bs) ∷ ls) w added_fits (omega arith)
      ∙ ap (add_lines ls) (line_added (anew t (front (4 * i)) (t.kerns ++ added)) (87 ∷ bs) 87 zs w p.reads)
      ∙ ap (λ (b : Bool). add_lines ls (cond b (some (anew v (front (4 * i)) (t.kerns ++ added))) none)) c.0
      ∙ ap (λ (ks : List (List ℕ)). add_lines ks (some (anew v (front (4 * i)) (t.kerns ++ added)))) last.0
      ∙ ap (λ (k : ℕ). some (anew v (front k) (t.kerns ++ added))) (sym n)
      ∙ ap (λ (y : Text). some (wholly y)) q

  instruction_again : (bs : List ℕ) (ls : List (List ℕ)) → Again ls → (t u : Text) (i : ℕ) → t.word ≡ none → length t.instructions ≡ 4 * i →
      length u.kerns + length added ≤ 512 → add_lines ((73 ∷ bs) ∷ ls) (some t) ≡ some u →
      add_lines (instruction_line s i ∷ converted_lines s added (suc i) ls) (some (written t i)) ≡ some (wholly u)
  unfolding add_lines
  instruction_again bs ls h t u i w n l e =
      let p = step t 73 bs ls u e in
      let zs = p.numbers in
      let v : Text = anew t (t.instructions ++ zs) t.kerns in
      let few = leb (suc (length t.instructions / 4)) 512 in
      let c = cond_some (both (eqb (length zs) 4) few) (some v) p.next p.adds in
      let long = eqb-true (length zs) 4 (both_left (eqb (length zs) 4) few c.0) in
      let short = leb-true (suc (length t.instructions / 4)) 512 (both_right (eqb (length zs) 4) few c.0) in
      let sum = length-append t.instructions zs in
      let k : length (t.instructions ++ zs) ≡ 4 * suc i = omega arith in
      ap (add_lines (converted_lines s added (suc i) ls)) (instruction_read t i w (omega arith))
      ∙ h v u (suc i) w k l (ap (add_lines ls) c.1 ∙ p.rest)

  other_again : (b : ℕ) (bs : List ℕ) (ls : List (List ℕ)) → eqb b 73 ≡ false → eqb b 87 ≡ false → Again ls → (t u : Text) (i : ℕ) →
      t.word ≡ none → length t.instructions ≡ 4 * i → length u.kerns + length added ≤ 512 → add_lines ((b ∷ bs) ∷ ls) (some t) ≡ some u →
      add_lines ((b ∷ bs) ∷ converted_lines s added i ls) (some (written t i)) ≡ some (wholly u)
  unfolding add_lines
  other_again b bs ls a z h t u i w n l e =
      let p = step t b bs ls u e in
      let k = letter_kept t p.next b p.numbers a z p.adds in
      ap (add_lines (converted_lines s added i ls))
      (line_added (written t i) (b ∷ bs) b p.numbers w p.reads
      ∙ letter_again t (front (4 * i)) b p.numbers a ∙ ap (again (front (4 * i))) p.adds)
      ∙ h p.next u i (k.word ∙ w) (ap length k.program ∙ n) l p.rest

  line_again : (l : List ℕ) (ls : List (List ℕ)) → Again ls → Again (l ∷ ls)
  unfolding add_lines converted_lines
  line_again [] ls h t u i w n l e = absurd (none_some (sym (lines_none ls) ∙ e))
  line_again (b ∷ bs) ls h t u i w n l e = by (eqb b 87) refl (eqb b 73) refl
    where
      by : (x : Bool) → eqb b 87 ≡ x → (y : Bool) → eqb b 73 ≡ y →
          add_lines
          (cond x (kern_lines added ++ ((b ∷ bs) ∷ ls))
          (cond y (instruction_line s i ∷ converted_lines s added (suc i) ls) ((b ∷ bs) ∷ converted_lines s added i ls)))
          (some (written t i)) ≡ some (wholly u)
      by true p y q =
          let r : 87 ≡ b = sym (eqb-true b 87 p) in
          subst
          (λ (a : ℕ).
          add_lines ((a ∷ bs) ∷ ls) (some t) ≡ some u → add_lines (kern_lines added ++ ((a ∷ bs) ∷ ls)) (some (written t i)) ≡ some (wholly u))
          r (word_again bs ls t u i w n l) e
      by false p true q =
          let r : b ≡ 73 = eqb-true b 73 q in
          instruction_again bs ls h t u i w n l (subst (λ (a : ℕ). add_lines ((a ∷ bs) ∷ ls) (some t) ≡ some u) r e)
      by false p false q = other_again b bs ls q p h t u i w n l e

  lines_again : (ls : List (List ℕ)) → Again ls
  lines_again [] = end_again
  lines_again (l ∷ ls) = line_again l ls (lines_again ls)

  -- ---- D first

  first_again : (b : ℕ) (bs : List ℕ) (ls : List (List ℕ)) (u : Text) → length u.kerns + length added ≤ 512 →
      add_lines ls (opened_by (read_line (b ∷ bs))) ≡ some u →
      read_lines (some (converted_lines s added 0 ((b ∷ bs) ∷ ls))) ≡ some (wholly u)
  unfolding converted_lines tabulate
  first_again b bs ls u l e =
      let f = first b bs ls u e in
      let d = f.letter in
      rw (ne_eqb b 87 (λ z. omega (arith, z)), ne_eqb b 73 (λ z. omega (arith, z)))
      (ap (add_lines (converted_lines s added 0 ls)) f.opens ∙ lines_again ls (opened f.design) u 0 refl refl l f.rest)

  pub all_again : (ls : List (List ℕ)) (u : Text) → length u.kerns + length added ≤ 512 → read_lines (some ls) ≡ some u →
      read_lines (some (converted_lines s added 0 ls)) ≡ some (wholly u)
  all_again [] u l e = absurd (none_some e)
  all_again ([] ∷ ls) u l e = absurd (none_some (sym (lines_none ls) ∙ e))
  all_again ((b ∷ bs) ∷ ls) u l e = first_again b bs ls u l e

-- ---- no line feeds

pub data AllUnfed : List (List ℕ) → Type 0 where
  nothing : AllUnfed []
  line : {l : List ℕ} {ls : List (List ℕ)} → Unfed l → AllUnfed ls → AllUnfed (l ∷ ls)

-- such lines are those of their text
pub unfed_back : {ls : List (List ℕ)} → AllUnfed ls → lines_of (text_of ls) ≡ some ls
unfolding lines_of text_of
unfed_back nothing = refl
unfed_back (line {ls = ls} u t) = line_back u (text_of ls) ls (unfed_back t)

-- the lines of a text have none
feed_unfed : (r : Option (List (List ℕ))) (ls : List (List ℕ)) → after_feed r ≡ some ls → ((ks : List (List ℕ)) → r ≡ some ks → AllUnfed ks) → AllUnfed ls
feed_unfed none ls e h = absurd (none_some e)
feed_unfed (some ks) ls e h = subst AllUnfed (some-injective ([] ∷ ks) ls e) (line back.none (h ks refl))

first_unfed : (b : ℕ) {k : List ℕ} {ks : List (List ℕ)} → (b ≡ 10 → ⊥) → AllUnfed (k ∷ ks) → AllUnfed ((b ∷ k) ∷ ks)
first_unfed b n (line u t) = line (back.byte b n u) t

byte_unfed : (b : ℕ) → (b ≡ 10 → ⊥) → (r : Option (List (List ℕ))) (ls : List (List ℕ)) → on_first b r ≡ some ls →
    ((ks : List (List ℕ)) → r ≡ some ks → AllUnfed ks) → AllUnfed ls
byte_unfed b n none ls e h = absurd (none_some e)
byte_unfed b n (some []) ls e h = absurd (none_some e)
byte_unfed b n (some (k ∷ ks)) ls e h = subst AllUnfed (some-injective ((b ∷ k) ∷ ks) ls e) (first_unfed b n (h (k ∷ ks) refl))

pub lines_unfed : (bs : List ℕ) (ls : List (List ℕ)) → lines_of bs ≡ some ls → AllUnfed ls
unfolding lines_of
lines_unfed [] ls e = subst AllUnfed (some-injective [] ls e) nothing
lines_unfed (b ∷ bs) ls e = by (eqb b 10) refl e (lines_unfed bs)
  where
    by : (t : Bool) → eqb b 10 ≡ t → cond t (after_feed (lines_of bs)) (on_first b (lines_of bs)) ≡ some ls →
        ((ks : List (List ℕ)) → lines_of bs ≡ some ks → AllUnfed ks) → AllUnfed ls
    by true t e h = feed_unfed (lines_of bs) ls e h
    by false t e h = byte_unfed b (eqb-false b 10 t) (lines_of bs) ls e h

-- a line that is written has none
written_unfed : (letter : ℕ) (zs : List ℤ) → (letter ≡ 10 → ⊥) → Unfed (write_line (line_of letter zs))
written_unfed letter zs n = back.byte letter n (fields_unfed zs)

kerns_unfed : (ks : List ℤ) {ls : List (List ℕ)} → AllUnfed ls → AllUnfed (kern_lines ks ++ ls)
kerns_unfed [] u = u
kerns_unfed (k ∷ ks) u = line (written_unfed 75 (k ∷ []) (λ e. omega (arith, e))) (kerns_unfed ks u)

pub converted_unfed : (s added : List ℤ) (i : ℕ) {ls : List (List ℕ)} → AllUnfed ls → AllUnfed (converted_lines s added i ls)
unfolding converted_lines
converted_unfed s added i nothing = subst AllUnfed (append-nil (kern_lines added)) (kerns_unfed added nothing)
converted_unfed s added i (line {l = l} {ls = ls} u t) =
    by (begins_with 87 l) (begins_with 73 l) (converted_unfed s added (suc i) t) (converted_unfed s added i t)
  where
    by : (x y : Bool) → AllUnfed (converted_lines s added (suc i) ls) → AllUnfed (converted_lines s added i ls) →
        AllUnfed
        (cond x (kern_lines added ++ (l ∷ ls)) (cond y (instruction_line s i ∷ converted_lines s added (suc i) ls) (l ∷ converted_lines s added i ls)))
    by true y a b = kerns_unfed added (line u t)
    by false true a b = line (written_unfed 73 _ (λ e. omega (arith, e))) a
    by false false a b = line u b

-- ---- written anew again

kern_lines_stay : (s ks : List ℤ) (i : ℕ) (ls : List (List ℕ)) → converted_lines s [] i (kern_lines ks ++ ls) ≡ kern_lines ks ++ converted_lines s [] i ls
unfolding converted_lines
kern_lines_stay s [] i ls = refl
kern_lines_stay s (k ∷ ks) i ls = ap (λ (l : List (List ℕ)). write_line (line_of 75 (k ∷ [])) ∷ l) (kern_lines_stay s ks i ls)

pub lines_stay : (s added : List ℤ) (i : ℕ) (ls : List (List ℕ)) → converted_lines s [] i (converted_lines s added i ls) ≡ converted_lines s added i ls
unfolding converted_lines
lines_stay s added i [] =
    ap (converted_lines s [] i) (sym (append-nil (kern_lines added))) ∙ kern_lines_stay s added i [] ∙ append-nil (kern_lines added)
lines_stay s added i (l ∷ ls) =
    by (begins_with 87 l) refl (begins_with 73 l) refl (lines_stay s added (suc i) ls) (lines_stay s added i ls)
  where
    by : (x : Bool) → begins_with 87 l ≡ x → (y : Bool) → begins_with 73 l ≡ y →
        converted_lines s [] (suc i) (converted_lines s added (suc i) ls) ≡ converted_lines s added (suc i) ls →
        converted_lines s [] i (converted_lines s added i ls) ≡ converted_lines s added i ls →
        converted_lines s [] i
        (cond x (kern_lines added ++ (l ∷ ls)) (cond y (instruction_line s i ∷ converted_lines s added (suc i) ls) (l ∷ converted_lines s added i ls))) ≡
        cond x (kern_lines added ++ (l ∷ ls)) (cond y (instruction_line s i ∷ converted_lines s added (suc i) ls) (l ∷ converted_lines s added i ls))
    by true p y q a b = kern_lines_stay s added i (l ∷ ls) ∙ ap (λ (r : List (List ℕ)). kern_lines added ++ r) (rw p)
    by false p true q a b = ap (λ (r : List (List ℕ)). instruction_line s i ∷ r) a
    by false p false q a b = rw (p, q) (ap (λ (r : List (List ℕ)). l ∷ r) b)
