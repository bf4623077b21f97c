-- What is known of a text that is read: its design size, its instructions' numbers and its kerns are i32, as every number is that is read from a field; it has
-- at most 512 instructions, four numbers each, and 512 kerns; and its word has at most 64 letters.
-- Assumes nothing.
use mathlib.Core.Path.{◌≡◌, refl, sym, ap, ◌∙◌, subst}
use mathlib.Core.Bool.{Bool, true, false, cond}
use mathlib.Core.List.{List, [], ◌∷◌}
use mathlib.Core.Option.{Option, none, some, some-injective}
use Prim.Native.Nat.{ℕ, zero, suc, ◌/◌, ◌%◌, ◌≤◌}
use native.Mathlib.Omega.{arith}
use lib.IntN.{ℤ, pos, negsuc}
use lib.Dec.{leb, eqb}
use lib.ListN.{length, take, drop, length-append}
use borrow.Author.Tests.{leb-true, eqb-true}
use Rattle.lang.specs.Every.{both}
use Rattle.lang.proofs.Every.{both_left, both_right}
use Rattle.columns.specs.Numbers.{unsigned, without_sign, with_sign, read_field}
use Rattle.columns.specs.Lines.{Line, lines_of, read_fields, lettered, read_line}
use Rattle.columns.specs.Texts.{Text, opened, with_boundary, with_left, with_instruction, with_kern, with_entry, with_word, by_one, by_letter, unless_word, add_to}
use Rattle.columns.specs.Texts.{add_lines, opened_by, read_lines, read_text}
use Rattle.columns.specs.Scanned.{letters_of}
use Rattle.columns.specs.Purpose.{is_i32, all_i32}
use Rattle.columns.proofs.Fitting.{all_both}
use Rattle.columns.proofs.Options.{none_some, cond_some, and_some, lettered_some}

-- ---- numbers that are read

without_fits : (r : Option ℕ) (z : ℤ) → without_sign r ≡ some z → is_i32 z ≡ true
without_fits none z e = absurd (none_some e)
without_fits (some n) z e =
    let c = cond_some (leb n 2147483647) (some (pos n)) z e in
    subst (λ (x : ℤ). is_i32 x ≡ true) (some-injective (pos n) z c.1) c.0

with_fits : (r : Option ℕ) (z : ℤ) → with_sign r ≡ some z → is_i32 z ≡ true
with_fits none z e = absurd (none_some e)
with_fits (some zero) z e = absurd (none_some e)
with_fits (some (suc n)) z e =
    let c = cond_some (leb n 2147483647) (some (negsuc n)) z e in
    subst (λ (x : ℤ). is_i32 x ≡ true) (some-injective (negsuc n) z c.1) c.0

field_fits : (bs : List ℕ) (z : ℤ) → read_field bs ≡ some z → is_i32 z ≡ true
unfolding read_field
field_fits [] z e = absurd (none_some e)
field_fits (b ∷ bs) z e = by (eqb b 32) (eqb b 45) e (field_fits bs z)
  where
    by : (s t : Bool) → cond s (read_field bs) (cond t (with_sign (unsigned bs)) (without_sign (unsigned (b ∷ bs)))) ≡ some z →
        (read_field bs ≡ some z → is_i32 z ≡ true) → is_i32 z ≡ true
    by true t e k = k e
    by false true e k = with_fits (unsigned bs) z e
    by false false e k = without_fits (unsigned (b ∷ bs)) z e

fields_fit : (n : ℕ) (bs : List ℕ) (zs : List ℤ) → read_fields n bs ≡ some zs → all_i32 zs ≡ true
unfolding read_fields all_i32
fields_fit zero bs zs e = ap all_i32 (sym (some-injective [] zs e))
fields_fit (suc n) bs zs e =
    let g = and_some (read_field (take 12 bs)) (read_fields n (drop 12 bs)) zs e in
    ap all_i32 (sym g.all) ∙ rw (field_fits (take 12 bs) g.first g.is_first, fields_fit n (drop 12 bs) g.others g.are_others)

line_fits : (bs : List ℕ) (l : Line) → read_line bs ≡ some l → all_i32 l.numbers ≡ true
line_fits [] l e = absurd (none_some e)
line_fits (b ∷ bs) l e =
    let c = cond_some (eqb (length bs % 12) 0) (lettered b (read_fields (length bs / 12) bs)) l e in
    fields_fit (length bs / 12) bs l.numbers (lettered_some b (read_fields (length bs / 12) bs) l c.1).0

-- ---- a text

pub record KnownBy (d : ℤ) (is ks : List ℤ) (w : Option (List ℤ)) : Type 0 where
  pub design : is_i32 d ≡ true
  pub fours : length is % 4 ≡ 0
  pub instructions : length is ≤ 2048
  pub kerns : length ks ≤ 512
  pub instruction_numbers : all_i32 is ≡ true
  pub kern_numbers : all_i32 ks ≡ true
  pub short : length (letters_of w) ≤ 64

abbrev pub Known : Text → Type 0
Known t = KnownBy t.design t.instructions t.kerns t.word

known_as : {t u : Text} → some t ≡ some u → Known t → Known u
known_as {t} {u} e k = subst Known (some-injective t u e) k

module _ (t u : Text) (k : Known t) where
  boundary_known : (o : Option ℤ) (z : ℤ) → with_boundary t o z ≡ some u → Known u
  boundary_known none z e = known_as e k
  boundary_known (some y) z e = absurd (none_some e)

  left_known : (o : Option ℤ) (z : ℤ) → with_left t o z ≡ some u → Known u
  left_known none z e = known_as e k
  left_known (some y) z e = absurd (none_some e)

  one_known : (f : ℤ → Option Text) (zs : List ℤ) → ((z : ℤ) → f z ≡ some u → Known u) → by_one f zs ≡ some u → Known u
  one_known f [] h e = absurd (none_some e)
  one_known f (z ∷ []) h e = h z e
  one_known f (z ∷ y ∷ zs) h e = absurd (none_some e)

  instruction_known : (zs : List ℤ) → all_i32 zs ≡ true → with_instruction t zs ≡ some u → Known u
  instruction_known zs f e =
      let few = leb (suc (length t.instructions / 4)) 512 in
      let c = cond_some (both (eqb (length zs) 4) few) (some _) u e in
      let four = eqb-true (length zs) 4 (both_left (eqb (length zs) 4) few c.0) in
      let more = leb-true (suc (length t.instructions / 4)) 512 (both_right (eqb (length zs) 4) few c.0) in
      let sum = length-append t.instructions zs in
      known_as c.1
      (record {
        design = k.design;
        fours = omega (arith, sum, four, k.fours);
        instructions = omega (arith, sum, four, more, k.fours);
        kerns = k.kerns;
        instruction_numbers = all_both t.instructions zs k.instruction_numbers f;
        kern_numbers = k.kern_numbers;
        short = k.short;
      })

  kern_known : (zs : List ℤ) → all_i32 zs ≡ true → with_kern t zs ≡ some u → Known u
  kern_known zs f e =
      let few = leb (suc (length t.kerns)) 512 in
      let c = cond_some (both (eqb (length zs) 1) few) (some _) u e in
      let one = eqb-true (length zs) 1 (both_left (eqb (length zs) 1) few c.0) in
      let more = leb-true (suc (length t.kerns)) 512 (both_right (eqb (length zs) 1) few c.0) in
      let sum = length-append t.kerns zs in
      known_as c.1
      (record {
        design = k.design;
        fours = k.fours;
        instructions = k.instructions;
        kerns = omega (arith, sum, one, more);
        instruction_numbers = k.instruction_numbers;
        kern_numbers = all_both t.kerns zs k.kern_numbers f;
        short = k.short;
      })

  entry_known : (zs : List ℤ) → with_entry t zs ≡ some u → Known u
  entry_known zs e = known_as (cond_some (eqb (length zs) 2) (some _) u e).1 k

  word_known : (zs : List ℤ) → with_word t zs ≡ some u → Known u
  word_known zs e =
      let c = cond_some (leb (length zs) 64) (some _) u e in
      known_as c.1
      (record {
        design = k.design;
        fours = k.fours;
        instructions = k.instructions;
        kerns = k.kerns;
        instruction_numbers = k.instruction_numbers;
        kern_numbers = k.kern_numbers;
        short = leb-true (length zs) 64 c.0;
      })

  either : (b : Bool) {x y : Option Text} → (x ≡ some u → Known u) → (y ≡ some u → Known u) → cond b x y ≡ some u → Known u
  either true f g e = f e
  either false f g e = g e

  letter_known : (letter : ℕ) (zs : List ℤ) → all_i32 zs ≡ true → by_letter t letter zs ≡ some u → Known u
  letter_known letter zs f =
      either (eqb letter 73) (instruction_known zs f)
      (either (eqb letter 75) (kern_known zs f)
      (either (eqb letter 69) (entry_known zs)
      (either (eqb letter 82) (one_known (with_boundary t t.boundary) zs (boundary_known t.boundary))
      (either (eqb letter 76) (one_known (with_left t t.left) zs (left_known t.left))
      (either (eqb letter 87) (word_known zs) (λ e. absurd (none_some e)))))))

unless_some : (w : Option (List ℤ)) (r : Option Text) (u : Text) → unless_word w r ≡ some u → r ≡ some u
unless_some none r u e = e
unless_some (some zs) r u e = absurd (none_some e)

line_known : (r : Option Text) (l : Option Line) (u : Text) → ((t : Text) → r ≡ some t → Known t) → ((x : Line) → l ≡ some x → all_i32 x.numbers ≡ true) →
    add_to r l ≡ some u → Known u
line_known none l u h f e = absurd (none_some e)
line_known (some t) none u h f e = absurd (none_some e)
line_known (some t) (some l) u h f e =
    letter_known t u (h t refl) l.letter l.numbers (f l refl) (unless_some t.word (by_letter t l.letter l.numbers) u e)

lines_known : (ls : List (List ℕ)) (r : Option Text) (u : Text) → ((t : Text) → r ≡ some t → Known t) → add_lines ls r ≡ some u → Known u
unfolding add_lines
lines_known [] r u h e = h u e
lines_known (l ∷ ls) r u h e = lines_known ls (add_to r (read_line l)) u (λ t. line_known r (read_line l) t h (line_fits l)) e

one_fits : (zs : List ℤ) (u : Text) → all_i32 zs ≡ true → by_one (λ z. some (opened z)) zs ≡ some u → Known u
unfolding all_i32
one_fits [] u f e = absurd (none_some e)
one_fits (z ∷ []) u f e =
    known_as e
    (record {
      design = both_left (is_i32 z) true f;
      fours = refl;
      instructions = omega arith;
      kerns = omega arith;
      instruction_numbers = refl;
      kern_numbers = refl;
      short = omega arith;
    })
one_fits (z ∷ y ∷ zs) u f e = absurd (none_some e)

opened_known : (o : Option Line) (u : Text) → ((l : Line) → o ≡ some l → all_i32 l.numbers ≡ true) → opened_by o ≡ some u → Known u
opened_known none u h e = absurd (none_some e)
opened_known (some l) u h e = one_fits l.numbers u (h l refl) (cond_some (eqb l.letter 68) (by_one (λ z. some (opened z)) l.numbers) u e).1

all_known : (ls : Option (List (List ℕ))) (u : Text) → read_lines ls ≡ some u → Known u
all_known none u e = absurd (none_some e)
all_known (some []) u e = absurd (none_some e)
all_known (some (l ∷ ls)) u e = lines_known ls (opened_by (read_line l)) u (λ t. opened_known (read_line l) t (line_fits l)) e

-- Of a text that is read.
pub text_known : (text : List ℕ) (t : Text) → read_text text ≡ some t → Known t
text_known text t e = all_known (lines_of text) t (cond_some (leb (length text) 65536) (read_lines (lines_of text)) t e).1
