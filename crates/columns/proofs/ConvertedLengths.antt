-- How long a text is that is written anew: as long as it was, and a K line more for each kern that is added. Assumes nothing.
use mathlib.Core.Path.{◌≡◌, refl, sym, ap, ◌∙◌, subst}
use mathlib.Core.Bool.{Bool, true, false, cond}
use mathlib.Core.List.{List, [], ◌∷◌, ◌++◌, append_assoc}
use mathlib.Core.Option.{Option, none, some}
use Prim.Native.Nat.{ℕ, suc, ◌+◌, ◌*◌, ◌/◌}
use native.Mathlib.Omega.{arith}
use lib.IntN.{ℤ}
use lib.Dec.{leb, eqb}
use lib.ListN.{length, length-append}
use borrow.Author.Tests.{eqb-true}
use Rattle.lang.specs.Every.{both}
use Rattle.lang.proofs.Every.{both_left}
use Rattle.columns.specs.Lines.{Line, lines_of, fields_of, write_line, text_of, read_line}
use Rattle.columns.specs.Texts.{Text, opened, by_one, by_letter, unless_word, add_to, add_lines, opened_by, read_lines, read_text, shared_text}
use Rattle.columns.specs.Converting.{begins_with, instruction_line, kern_lines, converted_lines, added_kerns, converted_bytes, converted_by, converted_text}
use Rattle.columns.proofs.Options.{none_some, cond_some}
use Rattle.columns.proofs.Fields.{lines_written}
use Rattle.columns.proofs.ReadBack.{fields_long}
use Rattle.columns.proofs.Theorems.{line_written}

-- ---- lines that are written

pub text_append : (ls ms : List (List ℕ)) → text_of (ls ++ ms) ≡ text_of ls ++ text_of ms
unfolding text_of
text_append [] ms = refl
text_append (l ∷ ls) ms = ap (λ (t : List ℕ). l ++ (10 ∷ t)) (text_append ls ms) ∙ sym (append_assoc l (10 ∷ text_of ls) (text_of ms))

pub kern_lines_long : (added : List ℤ) → length (text_of (kern_lines added)) ≡ 14 * length added
unfolding text_of
kern_lines_long [] = refl
kern_lines_long (k ∷ ks) =
    omega (arith, length-append (fields_of (k ∷ [])) (10 ∷ text_of (kern_lines ks)), fields_long (k ∷ []), kern_lines_long ks)

pub instruction_line_long : (s : List ℤ) (i : ℕ) → length (instruction_line s i) ≡ 49
instruction_line_long s i = ap suc (fields_long _)

-- ---- an I line that is read

letter_of : (bs : List ℕ) (l : Line) (c : ℕ) → read_line bs ≡ some l → begins_with c bs ≡ true → l.letter ≡ c
letter_of [] l c e t = absurd (none_some e)
letter_of (b ∷ bs) l c e t =
    let w : l.letter ∷ fields_of l.numbers ≡ b ∷ bs = line_written (b ∷ bs) l e in
    let h : l.letter ≡ b = cc in
    h ∙ eqb-true b c t

unless_read : (w : Option (List ℤ)) (r : Option Text) (u : Text) → unless_word w r ≡ some u → r ≡ some u
unless_read none r u e = e
unless_read (some zs) r u e = absurd (none_some e)

four_by : (t u : Text) (letter : ℕ) (zs : List ℤ) → letter ≡ 73 → by_letter t letter zs ≡ some u → length zs ≡ 4
four_by t u letter zs h e =
    let few = leb (suc (length t.instructions / 4)) 512 in
    let c = cond_some (both (eqb (length zs) 4) few) (some _) u (ap (λ (n : ℕ). by_letter t n zs) (sym h) ∙ e) in
    eqb-true (length zs) 4 (both_left (eqb (length zs) 4) few c.0)

four_read : (r : Option Text) (bs : List ℕ) (o : Option Line) → read_line bs ≡ o → (u : Text) → add_to r o ≡ some u → begins_with 73 bs ≡ true → length bs ≡ 49
four_read none bs o q u e b = absurd (none_some e)
four_read (some t) bs none q u e b = absurd (none_some e)
four_read (some t) bs (some l) q u e b =
    let n = four_by t u l.letter l.numbers (letter_of bs l 73 q b) (unless_read t.word (by_letter t l.letter l.numbers) u e) in
    let w : write_line l ≡ bs = line_written bs l q in
    omega (arith, n, fields_long l.numbers, ap length w)

-- ---- all lines

none_added : (ls : List (List ℕ)) → add_lines ls none ≡ none
unfolding add_lines
none_added [] = refl
none_added (l ∷ ls) = none_added ls

read_before : (ls : List (List ℕ)) (r : Option Text) (u : Text) → add_lines ls r ≡ some u → (t : Text) × (r ≡ some t)
read_before ls none u e = absurd (none_some (sym (none_added ls) ∙ e))
read_before ls (some t) u e = (t, refl)

module _ (s added : List ℤ) where
  abbrev longer : List ℕ → ℕ
  longer bs = length bs + 14 * length added

  line_longer : (l : List ℕ) (ls : List (List ℕ)) (i : ℕ) → (begins_with 87 l ≡ false → begins_with 73 l ≡ true → length l ≡ 49) →
      ((j : ℕ) → length (text_of (converted_lines s added j ls)) ≡ longer (text_of ls)) →
      length (text_of (converted_lines s added i (l ∷ ls))) ≡ longer (text_of (l ∷ ls))
  unfolding text_of converted_lines
  line_longer l ls i h k = by (begins_with 87 l) (begins_with 73 l) h
    where
      by : (w f : Bool) → (w ≡ false → f ≡ true → length l ≡ 49) →
          length
          (text_of
          (cond w (kern_lines added ++ (l ∷ ls))
          (cond f (instruction_line s i ∷ converted_lines s added (suc i) ls) (l ∷ converted_lines s added i ls)))) ≡
          longer (l ++ (10 ∷ text_of ls))
      by true f h =
          ap length (text_append (kern_lines added) (l ∷ ls))
          ∙ omega (arith, length-append (text_of (kern_lines added)) (text_of (l ∷ ls)), kern_lines_long added)
      by false true h =
          omega (
            arith,
            length-append (instruction_line s i) (10 ∷ text_of (converted_lines s added (suc i) ls)),
            length-append l (10 ∷ text_of ls),
            instruction_line_long s i,
            h refl refl,
            k (suc i),
          )
      by false false h = omega (arith, length-append l (10 ∷ text_of (converted_lines s added i ls)), length-append l (10 ∷ text_of ls), k i)

  lines_longer : (ls : List (List ℕ)) (r : Option Text) (u : Text) (i : ℕ) → add_lines ls r ≡ some u →
      length (text_of (converted_lines s added i ls)) ≡ longer (text_of ls)
  unfolding add_lines text_of converted_lines
  lines_longer [] r u i e = omega (arith, kern_lines_long added)
  lines_longer (l ∷ ls) r u i e =
      let t = read_before ls (add_to r (read_line l)) u e in
      line_longer l ls i (λ w f. four_read r l (read_line l) refl t.0 t.1 f) (λ j. lines_longer ls (add_to r (read_line l)) u j e)

  -- the first line is D's
  opened_not : (bs : List ℕ) (o : Option Line) → read_line bs ≡ o → (u : Text) → opened_by o ≡ some u → begins_with 73 bs ≡ true → ⊥
  opened_not bs none q u e b = none_some e
  opened_not bs (some l) q u e b =
      let c = cond_some (eqb l.letter 68) (by_one (λ z. some (opened z)) l.numbers) u e in
      let d : l.letter ≡ 68 = eqb-true l.letter 68 c.0 in
      omega (arith, letter_of bs l 73 q b, d)

  all_longer : (ls : List (List ℕ)) (u : Text) → read_lines (some ls) ≡ some u → length (text_of (converted_lines s added 0 ls)) ≡ longer (text_of ls)
  all_longer [] u e = absurd (none_some e)
  all_longer (l ∷ ls) u e =
      let t = read_before ls (opened_by (read_line l)) u e in
      line_longer l ls 0 (λ w f. absurd (opened_not l (read_line l) refl t.0 t.1 f)) (λ j. lines_longer ls (opened_by (read_line l)) u j e)

-- ---- the text

bytes_longer : (text : List ℕ) (t u : Text) (o : Option (List (List ℕ))) → lines_of text ≡ o → read_lines o ≡ some u →
    length (converted_bytes t o) ≡ length text + 14 * length (added_kerns t)
bytes_longer text t u none q e = absurd (none_some e)
bytes_longer text t u (some ls) q e =
    all_longer (shared_text t).instructions (added_kerns t) ls u e ∙ ap (λ (bs : List ℕ). length bs + 14 * length (added_kerns t)) (lines_written text ls q)

-- Of a text that is read.
pub converted_length : (text : List ℕ) (t : Text) → read_text text ≡ some t → length (converted_text text) ≡ length text + 14 * length (added_kerns t)
converted_length text t e =
    let c = cond_some (leb (length text) 65536) (read_lines (lines_of text)) t e in
    ap (λ (o : Option Text). length (converted_by o text)) e ∙ bytes_longer text t t (lines_of text) refl c.1
