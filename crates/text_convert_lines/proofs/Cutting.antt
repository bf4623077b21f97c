-- A text cut behind its first line, and a text that is no lines since it does not end with a line feed. Assumes nothing.
use mathlib.Core.Path.{◌≡◌, refl, sym, ap, ◌∙◌}
use mathlib.Core.Bool.{Bool, true, false, cond}
use mathlib.Core.List.{List, [], ◌∷◌, ◌++◌}
use mathlib.Core.Option.{Option, none, some, some-injective}
use Prim.Native.Nat.{ℕ, suc, ◌+◌, ◌-◌, ◌<◌}
use native.Mathlib.Numerals.{add-one}
use native.Mathlib.Omega.{arith}
use lib.Dec.{eqb}
use lib.ListN.{length, get_or, drop}
use lib.Seq.{drop-cons, drop-length}
use borrow.Author.Tests.{eqb-true, ne_eqb}
use Rattle.columns.specs.Lines.{on_first, after_feed, lines_of, text_of}
use Rattle.columns.proofs.Options.{none_some}
use Rattle.columns.proofs.Fields.{lines_written}
use Rattle.text_convert_lines.specs.Anew.{is_whole_lines, line_length}

-- ---- the first line

-- a text whose first line is l, with the lines ls after it
pub record First (bs l : List ℕ) (ls : List (List ℕ)) : Type 0 where
  pub rest : List ℕ
  pub bytes : bs ≡ l ++ (10 ∷ rest)
  pub lines : lines_of rest ≡ some ls
  pub long : line_length bs ≡ suc (length l)

first_feed : (b : ℕ) (bs : List ℕ) → b ≡ 10 → (r : Option (List (List ℕ))) → lines_of bs ≡ r → (l : List ℕ) (ls : List (List ℕ)) →
    after_feed r ≡ some (l ∷ ls) → line_length (b ∷ bs) ≡ 1 → First (b ∷ bs) l ls
first_feed b bs t none q l ls e n = absurd (none_some e)
first_feed b bs t (some ks) q l ls e n =
    let p : [] ∷ ks ≡ l ∷ ls = some-injective ([] ∷ ks) (l ∷ ls) e in
    let l₀ : [] ≡ l = cc in
    let ls₀ : ks ≡ ls = cc in
    record {
      rest = bs;
      bytes = (λ i. t i ∷ bs) ∙ ap (λ (x : List ℕ). x ++ (10 ∷ bs)) l₀;
      lines = q ∙ ap some ls₀;
      long = n ∙ ap (λ (x : List ℕ). suc (length x)) l₀;
    }

first_byte : (b : ℕ) (bs : List ℕ) (r : Option (List (List ℕ))) → ((k : List ℕ) (ks : List (List ℕ)) → r ≡ some (k ∷ ks) → First bs k ks) →
    (l : List ℕ) (ls : List (List ℕ)) → on_first b r ≡ some (l ∷ ls) → line_length (b ∷ bs) ≡ suc (line_length bs) → First (b ∷ bs) l ls
first_byte b bs none h l ls e n = absurd (none_some e)
first_byte b bs (some []) h l ls e n = absurd (none_some e)
first_byte b bs (some (k ∷ ks)) h l ls e n =
    let p : (b ∷ k) ∷ ks ≡ l ∷ ls = some-injective ((b ∷ k) ∷ ks) (l ∷ ls) e in
    let l₀ : b ∷ k ≡ l = cc in
    let ls₀ : ks ≡ ls = cc in
    let f = h k ks refl in
    record {
      rest = f.rest;
      bytes = ap (λ (x : List ℕ). b ∷ x) f.bytes ∙ ap (λ (x : List ℕ). x ++ (10 ∷ f.rest)) l₀;
      lines = f.lines ∙ ap some ls₀;
      long = n ∙ ap suc f.long ∙ ap (λ (x : List ℕ). suc (length x)) l₀;
    }

pub first_line_lem : (bs l : List ℕ) (ls : List (List ℕ)) → lines_of bs ≡ some (l ∷ ls) → First bs l ls
unfolding lines_of line_length
first_line_lem [] l ls e =
    absurd (let p : [] ≡ l ∷ ls = some-injective [] (l ∷ ls) e in let z : ◌≡◌ {A = ℕ} 0 1 = cc in omega arith)
first_line_lem (b ∷ bs) l ls e = by (eqb b 10) refl e (first_line_lem bs)
  where
    by : (t : Bool) → eqb b 10 ≡ t → cond t (after_feed (lines_of bs)) (on_first b (lines_of bs)) ≡ some (l ∷ ls) →
        ((k : List ℕ) (ks : List (List ℕ)) → lines_of bs ≡ some (k ∷ ks) → First bs k ks) → First (b ∷ bs) l ls
    by true t e h = first_feed b bs (eqb-true b 10 t) (lines_of bs) refl l ls e (rw t)
    by false t e h = first_byte b bs (lines_of bs) h l ls e (rw t)

-- ---- the length of a line, byte by byte

pub length_feed : (text : List ℕ) (n : ℕ) → n < length text → get_or text n 0 ≡ 10 → line_length (drop n text) ≡ 1
unfolding line_length
length_feed text n h e = ap line_length (drop-cons text n 0 h) ∙ ap (λ (b : ℕ). cond (eqb b 10) 1 (suc (line_length (drop (suc n) text)))) e

pub length_more : (text : List ℕ) (n : ℕ) → n < length text → eqb (get_or text n 0) 10 ≡ false → line_length (drop n text) ≡ suc (line_length (drop (n + 1) text))
unfolding line_length
length_more text n h e =
    ap line_length (drop-cons text n 0 h) ∙ ap (λ (t : Bool). cond t 1 (suc (line_length (drop (suc n) text)))) e
    ∙ ap (λ (k : ℕ). suc (line_length (drop k text))) (sym (add-one n))

pub length_none : (text : List ℕ) (n : ℕ) → length text ≡ n → line_length (drop n text) ≡ 0
unfolding line_length
length_none text n e = ap (λ (k : ℕ). line_length (drop k text)) (sym e) ∙ ap line_length (drop-length text)

-- ---- lines, or none

whole_is : (b : ℕ) (bs : List ℕ) → is_whole_lines (b ∷ bs) ≡ eqb (get_or (b ∷ bs) (length bs) 0) 10
whole_is b bs =
    let e : length (b ∷ bs) - 1 ≡ length bs = omega arith in
    ap (λ (t : Bool). cond t true (eqb (get_or (b ∷ bs) (length (b ∷ bs) - 1) 0) 10)) (ne_eqb (length (b ∷ bs)) 0 (λ z. omega (arith, z)))
    ∙ ap (λ (k : ℕ). eqb (get_or (b ∷ bs) k 0) 10) e

whole_more : (b c : ℕ) (bs : List ℕ) → is_whole_lines (b ∷ c ∷ bs) ≡ is_whole_lines (c ∷ bs)
whole_more b c bs = whole_is b (c ∷ bs) ∙ sym (whole_is c bs)

record Lines (bs : List ℕ) : Type 0 where
  line : List ℕ
  others : List (List ℕ)
  are : lines_of bs ≡ some (line ∷ others)

lines_here : (b : ℕ) (bs : List ℕ) → is_whole_lines (b ∷ bs) ≡ true → Lines (b ∷ bs)
unfolding lines_of
lines_here b [] e = record { line = []; others = []; are = ap (λ (t : Bool). cond t (some ([] ∷ [])) none) (sym (whole_is b []) ∙ e) }
lines_here b (c ∷ bs) e = by (eqb b 10) refl (lines_here c bs (sym (whole_more b c bs) ∙ e))
  where
    by : (t : Bool) → eqb b 10 ≡ t → Lines (c ∷ bs) → Lines (b ∷ c ∷ bs)
    by true t g = record { line = []; others = g.line ∷ g.others; are = rw t (ap after_feed g.are) }
    by false t g = record { line = b ∷ g.line; others = g.others; are = rw t (ap (on_first b) g.are) }

pub record AllLines (bs : List ℕ) : Type 0 where
  pub lines : List (List ℕ)
  pub are : lines_of bs ≡ some lines

pub lines_there : (bs : List ℕ) → is_whole_lines bs ≡ true → AllLines bs
unfolding lines_of
lines_there [] e = record { lines = []; are = refl }
lines_there (b ∷ bs) e = let g = lines_here b bs e in record { lines = g.line ∷ g.others; are = g.are }

pub lines_none : (bs : List ℕ) → is_whole_lines bs ≡ false → lines_of bs ≡ none
unfolding lines_of
lines_none [] e = absurd (let z : true ≡ false = e in let y : ◌≡◌ {A = ℕ} 0 1 = cc in omega arith)
lines_none (b ∷ []) e = ap (λ (t : Bool). cond t (some ([] ∷ [])) none) (sym (whole_is b []) ∙ e)
lines_none (b ∷ c ∷ bs) e = by (eqb b 10) (lines_none (c ∷ bs) (sym (whole_more b c bs) ∙ e))
  where
    by : (t : Bool) → lines_of (c ∷ bs) ≡ none → cond t (after_feed (lines_of (c ∷ bs))) (on_first b (lines_of (c ∷ bs))) ≡ none
    by true g = ap after_feed g
    by false g = ap (on_first b) g

-- ---- what is left of a text

-- a text that goes on has a line more
pub one_more : (text : List ℕ) (at : ℕ) (ls : List (List ℕ)) → at < length text → lines_of (drop at text) ≡ some ls →
    (l : List ℕ) × (ks : List (List ℕ)) × (ls ≡ l ∷ ks)
unfolding text_of
one_more text at [] h e =
    absurd
    (let p : [] ≡ drop at text = lines_written (drop at text) [] e in
    let q : drop at text ≡ get_or text at 0 ∷ drop (suc at) text = drop-cons text at 0 h in
    let z : ◌≡◌ {A = ℕ} 0 1 = cc in
    omega arith)
one_more text at (l ∷ ks) h e = (l, ks, refl)
