-- A line that is read, added to what was read before it; and where no line is read, the text is unreadable.
-- Assumes nothing.
use mathlib.Core.Path.{◌≡◌, refl, sym, ap, ◌∙◌}
use mathlib.Core.List.{List, [], ◌∷◌, ◌++◌}
use mathlib.Core.Option.{Option, none, some}
use Prim.Native.Nat.{ℕ, ◌+◌, ◌*◌, ◌/◌, ◌%◌, ◌<◌}
use native.Mathlib.Numerals.{add-one}
use native.Mathlib.Omega.{arith}
use lib.IntN.{ℤ}
use lib.Dec.{ltb, eqb}
use lib.ListN.{length, get_or, take, drop, length-append}
use lib.Seq.{split_at, length-take-le, get_or_at, drop-append-add}
use borrow.Author.Tests.{lt-ltb, eq-eqb, ltb-true, eqb-true}
use Rattle.lang.proofs.Every.{both_left, both_right}
use Rattle.columns.specs.Lines.{Line, lines_of, read_fields, lettered, read_line}
use Rattle.columns.specs.Texts.{Text, add_line, add_lines}
use Rattle.columns.proofs.Options.{none_some, cond_some, lettered_some}
use Rattle.text_scan.specs.Following.{add_all, rest_of, first_by, line_of, line_ends, numbers_on}
use Rattle.text_scan.proofs.Feeds.{feedless_more, fields_feedless, first_of, lines_first, FirstLine, lines_split, lines_some, fields_prefix}
use Rattle.text_line_numbers.proofs.Storing.{fields_count}

-- ---- nothing, and something

pub none_by : {A : Type 0} (r : Option A) → ((x : A) → r ≡ some x → ⊥) → r ≡ none
none_by none h = refl
none_by (some x) h = absurd (h x refl)

pub lines_none : (ls : List (List ℕ)) → add_lines ls none ≡ none
unfolding add_lines
lines_none [] = refl
lines_none (l ∷ ls) = lines_none ls

pub all_none : (r : Option (List (List ℕ))) → add_all r none ≡ none
all_none none = refl
all_none (some ls) = lines_none ls

-- ---- a line of n numbers

pub record Numbered (n : ℕ) (bs : List ℕ) (zs : List ℤ) : Type 0 where
  pub long : 12 * n < length bs
  pub feed : get_or bs (12 * n) 0 ≡ 10
  pub reads : read_fields n bs ≡ some zs

pub numbered : (n : ℕ) (bs : List ℕ) (zs : List ℤ) → numbers_on n bs ≡ some zs → Numbered n bs zs
numbered n bs zs e =
    let c = cond_some (line_ends n bs) (read_fields n bs) zs e in
    record {
      long = ltb-true (12 * n) (length bs) (both_left (ltb (12 * n) (length bs)) (eqb (get_or bs (12 * n) 0) 10) c.0);
      feed = eqb-true (get_or bs (12 * n) 0) 10 (both_right (ltb (12 * n) (length bs)) (eqb (get_or bs (12 * n) 0) 10) c.0);
      reads = c.1;
    }

pub numbers_on_lem : (n : ℕ) (bs : List ℕ) (zs : List ℤ) → Numbered n bs zs → numbers_on n bs ≡ some zs
numbers_on_lem n bs zs g = rw (lt-ltb (12 * n) (length bs) g.long, eq-eqb (get_or bs (12 * n) 0) 10 g.feed) g.reads

module _ (n : ℕ) (b : ℕ) (bs : List ℕ) (zs : List ℤ) (g : Numbered n bs zs) where
  parted : bs ≡ take (12 * n) bs ++ (10 ∷ drop (12 * n + 1) bs)
  parted = split_at bs (12 * n) 0 g.long ∙ rw (g.feed, add-one)

  long : length (take (12 * n) bs) ≡ 12 * n
  long = length-take-le (12 * n) bs (omega (arith, g.long))

  line_on : read_line (b ∷ take (12 * n) bs) ≡ some (line_of b zs)
  line_on =
      let m : length (take (12 * n) bs) % 12 ≡ 0 = omega (arith, long) in
      let d : length (take (12 * n) bs) / 12 ≡ n = omega (arith, long) in
      let p : read_fields n (take (12 * n) bs)
      ≡ some zs = sym (fields_prefix n (take (12 * n) bs) (10 ∷ drop (12 * n + 1) bs) long) ∙ ap (read_fields n) (sym parted) ∙ g.reads in
      rw (m, d, p)

  lines_on : (b ≡ 10 → ⊥) → lines_of (b ∷ bs) ≡ first_of (b ∷ take (12 * n) bs) (lines_of (drop (12 * n + 1) bs))
  lines_on o =
      ap (λ (l : List ℕ). lines_of (b ∷ l)) parted
      ∙ lines_first (b ∷ take (12 * n) bs) (drop (12 * n + 1) bs) (feedless_more b (take (12 * n) bs) o (fields_feedless n bs zs g.reads))

-- ---- the first line by f

first_of_lem : (f : Option Line → Option Text) (l : List ℕ) (r : Option (List (List ℕ))) → first_by f (first_of l r) ≡ add_all r (f (read_line l))
first_of_lem f l none = refl
first_of_lem f l (some ls) = refl

-- the first line is read: f of it, and the rest added
pub first_on : (f : Option Line → Option Text) (n b : ℕ) (bs : List ℕ) (zs : List ℤ) → (b ≡ 10 → ⊥) → numbers_on n bs ≡ some zs →
    first_by f (lines_of (b ∷ bs)) ≡ rest_of (drop (12 * n + 1) bs) (f (some (line_of b zs)))
first_on f n b bs zs o e =
    let g = numbered n bs zs e in
    ap (first_by f) (lines_on n b bs zs g o)
    ∙ first_of_lem f (b ∷ take (12 * n) bs) (lines_of (drop (12 * n + 1) bs))
    ∙ ap (λ (l : Option Line). rest_of (drop (12 * n + 1) bs) (f l)) (line_on n b bs zs g)

-- and back: where something is read, the first line is of numbers
pub record Opened (f : Option Line → Option Text) (b : ℕ) (bs : List ℕ) (u : Text) : Type 0 where
  pub zs : List ℤ
  pub numbers : numbers_on (length zs) bs ≡ some zs
  pub rest : rest_of (drop (12 * length zs + 1) bs) (f (some (line_of b zs))) ≡ some u

-- the fields of a line that is read
fields_back : (b : ℕ) (ds : List ℕ) (l : Line) → read_line (b ∷ ds) ≡ some l →
    (length ds ≡ 12 * length l.numbers) × (read_fields (length l.numbers) ds ≡ some l.numbers) × (b ≡ l.letter)
fields_back b ds l e =
    let c = cond_some (eqb (length ds % 12) 0) (lettered b (read_fields (length ds / 12) ds)) l e in
    let z : length ds % 12 ≡ 0 = eqb-true (length ds % 12) 0 c.0 in
    let g = lettered_some b (read_fields (length ds / 12) ds) l c.1 in
    let m = fields_count (length ds / 12) ds l.numbers g.0 in
    (omega (arith, m), rw m g.0, g.1)

module _ (f : Option Line → Option Text) (no : f none ≡ none) (b : ℕ) (bs : List ℕ) (u : Text) where
  line_back : (c : ℕ) (ds rest : List ℕ) (ls : List (List ℕ)) → b ∷ bs ≡ (c ∷ ds) ++ (10 ∷ rest) → lines_of rest ≡ some ls → (r : Option Line) →
      read_line (c ∷ ds) ≡ r → add_lines ls (f r) ≡ some u → Opened f b bs u
  line_back c ds rest ls i o none e h = absurd (none_some (sym (lines_none ls) ∙ ap (add_lines ls) (sym no) ∙ h))
  line_back c ds rest ls i o (some l) e h =
      let k = fields_back c ds l e in
      let m = length l.numbers in
      let q : b ≡ c = cc in
      let s : bs ≡ ds ++ (10 ∷ rest) = cc in
      let p : read_fields m bs ≡ some l.numbers = ap (read_fields m) s ∙ fields_prefix m ds (10 ∷ rest) k.0 ∙ k.1 in
      let d : drop (12 * m + 1) bs ≡ rest = ap (λ (j : ℕ). drop (j + 1) bs) (sym k.0) ∙ ap (drop (length ds + 1)) s ∙ drop-append-add ds (10 ∷ rest) 1 in
      record {
        zs = l.numbers;
        numbers =
            numbers_on_lem m bs l.numbers
            (record { long = omega (arith, ap length s, length-append ds (10 ∷ rest), k.0); feed = rw s (get_or_at ds 10 rest 0 (12 * m) k.0); reads = p });
        rest = rw (d, o) (ap (λ (x : ℕ). add_lines ls (f (some (line_of x l.numbers)))) (q ∙ k.2) ∙ h);
      }

  split_back : (l : List ℕ) (ls : List (List ℕ)) → FirstLine (b ∷ bs) l ls → add_lines ls (f (read_line l)) ≡ some u → Opened f b bs u
  split_back [] ls g h = absurd (none_some (sym (lines_none ls) ∙ ap (add_lines ls) (sym no) ∙ h))
  split_back (c ∷ ds) ls g h = line_back c ds g.rest ls g.is g.others (read_line (c ∷ ds)) refl h

  first_by_lem : (r : Option (List (List ℕ))) → lines_of (b ∷ bs) ≡ r → first_by f r ≡ some u → Opened f b bs u
  first_by_lem none i h = absurd (none_some h)
  first_by_lem (some []) i h = absurd (none_some h)
  first_by_lem (some (l ∷ ls)) i h = split_back l ls (lines_split (b ∷ bs) l ls i) h

  pub first_back : first_by f (lines_of (b ∷ bs)) ≡ some u → Opened f b bs u
  first_back h = first_by_lem (lines_of (b ∷ bs)) refl h

-- so nothing is read where no line of numbers is, to which the rest adds
pub first_stuck : (f : Option Line → Option Text) (b : ℕ) (bs : List ℕ) → f none ≡ none → ((u : Text) → Opened f b bs u → ⊥) →
    first_by f (lines_of (b ∷ bs)) ≡ none
first_stuck f b bs on h = none_by (first_by f (lines_of (b ∷ bs))) (λ u e. h u (first_back f on b bs u e))

-- ---- one line more, to what was read

by_adding : (t : Text) (r : Option (List (List ℕ))) → (r ≡ some [] → ⊥) → add_all r (some t) ≡ first_by (add_line t) r
unfolding add_lines
by_adding t none o = refl
by_adding t (some []) o = absurd (o refl)
by_adding t (some (l ∷ ls)) o = refl

pub rest_first : (t : Text) (b : ℕ) (bs : List ℕ) → rest_of (b ∷ bs) (some t) ≡ first_by (add_line t) (lines_of (b ∷ bs))
rest_first t b bs = by_adding t (lines_of (b ∷ bs)) (lines_some b bs)

pub rest_on : (t : Text) (n b : ℕ) (bs : List ℕ) (zs : List ℤ) → (b ≡ 10 → ⊥) → numbers_on n bs ≡ some zs →
    rest_of (b ∷ bs) (some t) ≡ rest_of (drop (12 * n + 1) bs) (add_line t (some (line_of b zs)))
rest_on t n b bs zs o e = rest_first t b bs ∙ first_on (add_line t) n b bs zs o e

pub rest_stuck : (t : Text) (b : ℕ) (bs : List ℕ) → ((u : Text) → Opened (add_line t) b bs u → ⊥) → rest_of (b ∷ bs) (some t) ≡ none
rest_stuck t b bs h = rest_first t b bs ∙ first_stuck (add_line t) b bs refl h

-- what the first line was added to is something
pub record Added (r : Option Text) : Type 0 where
  pub text : Text
  pub is : r ≡ some text

pub rest_added : (bs : List ℕ) (r : Option Text) (u : Text) → rest_of bs r ≡ some u → Added r
rest_added bs none u e = absurd (none_some (sym (all_none (lines_of bs)) ∙ e))
rest_added bs (some t) u e = record { text = t; is = refl }

-- a letter that takes n numbers, where there are none; and one to which nothing is added
pub rest_short : (t : Text) (n b : ℕ) (bs : List ℕ) → ((zs : List ℤ) (u : Text) → add_line t (some (line_of b zs)) ≡ some u → length zs ≡ n) →
    numbers_on n bs ≡ none → rest_of (b ∷ bs) (some t) ≡ none
rest_short t n b bs only e =
    rest_stuck t b bs
    (λ u g.
    let a = rest_added (drop (12 * length g.zs + 1) bs) (add_line t (some (line_of b g.zs))) u g.rest in
    let l : length g.zs ≡ n = only g.zs a.text a.is in
    none_some (sym e ∙ ap (λ (m : ℕ). numbers_on m bs) (sym l) ∙ g.numbers))

pub rest_refused : (t : Text) (b : ℕ) (bs : List ℕ) → ((zs : List ℤ) → add_line t (some (line_of b zs)) ≡ none) → rest_of (b ∷ bs) (some t) ≡ none
rest_refused t b bs h =
    rest_stuck t b bs
    (λ u g.
    let a = rest_added (drop (12 * length g.zs + 1) bs) (add_line t (some (line_of b g.zs))) u g.rest in
    none_some (sym (h g.zs) ∙ a.is))

-- nothing is added after a word
pub rest_after_word : (t : Text) (w : List ℤ) → t.word ≡ some w → (b : ℕ) (bs : List ℕ) → rest_of (b ∷ bs) (some t) ≡ none
rest_after_word t w e b bs = rest_refused t b bs (λ zs. rw e)

pub rest_none_left : (t : Text) → rest_of [] (some t) ≡ some t
unfolding lines_of add_lines
rest_none_left t = refl
