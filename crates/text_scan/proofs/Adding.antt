-- A line read, added to what was read before it, by its letter; and where none is read, the text is unreadable.
-- Assumes nothing.
use mathlib.Core.Path.{◌≡◌, refl, sym, ap, subst, ◌∙◌}
use mathlib.Core.Bool.{Bool, true, false, cond}
use mathlib.Core.List.{List, [], ◌∷◌, ◌++◌}
use mathlib.Core.Option.{Option, none, some}
use Prim.Native.Nat.{ℕ, ◌+◌, ◌-◌, ◌*◌, ◌<◌, ◌≤◌}
use native.Mathlib.Numerals.{add-one}
use native.Mathlib.Omega.{arith}
use lib.IntN.{ℤ, pos}
use lib.Dec.{leb}
use lib.ListN.{length, get_or, take, drop, length-drop, length-replicate}
use lib.Seq.{sets, drop-cons, drop-drop}
use mir.Syntax.{w32}
use mir.Val.{SFits}
use borrow.Author.Tests.{leb-true, leb-false}
use Rattle.words.specs.Words.{word_of, number_of}
use Rattle.words.specs.Lists.{Appending}
use Rattle.words.proofs.Lists.{appending_length, appending_more}
use Rattle.columns.specs.Numbers.{read_field}
use Rattle.columns.specs.Lines.{and_number, read_fields}
use Rattle.columns.specs.Texts.{Text, by_one, add_line, read_text}
use Rattle.columns.proofs.Options.{none_some, cond_some}
use Rattle.text_scan.specs.declared.progress.TextProgress.{TextProgress}
use Rattle.text_scan.specs.declared.progress.NextLine.{NextLine}
use Rattle.text_scan.specs.declared.progress.NextLine.TheVariants as next
use Rattle.text_scan.specs.Following.{rest_of, line_of, line_ends, numbers_on, numbers_in, number_on}
use Rattle.text_scan.specs.Standing.{zeros, HeadSaid, TellsText, Scanning, Before, next_by, TakesLine, head_by, head_line, Goes}
use Rattle.text_scan.proofs.Following.{numbered, rest_on, rest_short, rest_refused}
use Rattle.text_line_numbers.proofs.Storing.{fields_count, field_fits}

pub zeros_long : {A : Type 0} (o : A) (n : ℕ) → length (zeros o n) ≡ n
unfolding zeros
zeros_long o n = length-replicate n o

-- ---- one number

abbrev pub once : Option ℤ → Text → Option Text
once none u = some u
once (some y) u = none

none_by_one : (zs : List ℤ) → by_one (λ z. none) zs ≡ none
none_by_one [] = refl
none_by_one (z ∷ []) = refl
none_by_one (z ∷ y ∷ zs) = refl

pub one_by_one : (f : ℤ → Option Text) (zs : List ℤ) (u : Text) → by_one f zs ≡ some u → length zs ≡ 1
one_by_one f [] u e = absurd (none_some e)
one_by_one f (z ∷ []) u e = refl
one_by_one f (z ∷ y ∷ zs) u e = absurd (none_some e)

pub same_by_one : (f g : ℤ → Option Text) (zs : List ℤ) → ((z : ℤ) → f z ≡ g z) → by_one f zs ≡ by_one g zs
same_by_one f g [] h = refl
same_by_one f g (z ∷ []) h = h z
same_by_one f g (z ∷ y ∷ zs) h = refl

pub one_some : (bs : List ℕ) (z : ℤ) → number_on bs ≡ some z → numbers_on 1 bs ≡ some (z ∷ [])
unfolding read_fields
one_some bs z e = let c = cond_some (line_ends 1 bs) (read_field (take 12 bs)) z e in rw (c.0, c.1)

pub one_none : (bs : List ℕ) → number_on bs ≡ none → numbers_on 1 bs ≡ none
unfolding read_fields
one_none bs e = by (line_ends 1 bs) (read_field (take 12 bs)) e
  where
    by : (k : Bool) (n : Option ℤ) → cond k n none ≡ none → cond k (and_number n (some [])) none ≡ none
    by true none e = refl
    by true (some z) e = absurd (none_some (sym e))
    by false n e = refl

pub fits_one : (bs : List ℕ) (z : ℤ) → number_on bs ≡ some z → SFits w32 z
fits_one bs z e = field_fits (take 12 bs) z (cond_some (line_ends 1 bs) (read_field (take 12 bs)) z e).1

-- ---- further on, or not

module _ (text : List ℕ) (p : TextProgress) (instructions kerns entries : List ℤ) (r : NextLine) where
  pub goes_at : (q : TextProgress) → r ≡ next.At q → p.at < q.at → Scanning text q instructions kerns entries → Goes text p instructions kerns entries r
  goes_at q e h s =
      record {
        on = λ v i. let k : q ≡ v = cc in subst (λ (x : TextProgress). (p.at < x.at) × Scanning text x instructions kerns entries) k (h, s);
        stuck = λ i. absurd (let z : ◌≡◌ {A = ℕ} 0 1 = cc in omega arith);
      }

  pub goes_nowhere : r ≡ next.Unreadable → read_text text ≡ none → Goes text p instructions kerns entries r
  goes_nowhere e n = record { on = λ q i. absurd (let z : ◌≡◌ {A = ℕ} 0 1 = cc in omega arith); stuck = λ _. n }

-- ---- one line

module _ (text : List ℕ) (p : TextProgress) (t : Text) (tells : TellsText text p t) (before : Before text p) (b : ℕ) (is : get_or text p.at 0 ≡ b) where
  stands : drop p.at text ≡ b ∷ drop (p.at + 1) text
  stands = drop-cons text p.at 0 before.inside ∙ rw (is, add-one)

  pub from_here : rest_of (b ∷ drop (p.at + 1) text) (some t) ≡ read_text text
  from_here = ap (λ (l : List ℕ). rest_of l (some t)) (sym stands) ∙ tells.rest

  pub further : (n : ℕ) (zs : List ℤ) (u : Text) → (b ≡ 10 → ⊥) → numbers_on n (drop (p.at + 1) text) ≡ some zs → add_line t (some (line_of b zs)) ≡ some u →
      rest_of (drop (p.at + (12 * n + 2)) text) (some u) ≡ read_text text
  further n zs u o e a =
      let k : p.at + 1 + (12 * n + 1) ≡ p.at + (12 * n + 2) = omega arith in
      ap (λ (j : ℕ). rest_of (drop j text) (some u)) (sym k)
      ∙ ap (λ (l : List ℕ). rest_of l (some u)) (sym (drop-drop (12 * n + 1) (p.at + 1) text))
      ∙ ap (rest_of (drop (12 * n + 1) (drop (p.at + 1) text))) (sym a)
      ∙ sym (rest_on t n b (drop (p.at + 1) text) zs o e) ∙ from_here

  inside : (n : ℕ) (zs : List ℤ) → numbers_on n (drop (p.at + 1) text) ≡ some zs → p.at + (12 * n + 2) ≤ length text
  inside n zs e = omega (arith, (numbered n (drop (p.at + 1) text) zs e).long, length-drop (p.at + 1) text, before.inside)

  pub none_short : (n : ℕ) → ((zs : List ℤ) (u : Text) → add_line t (some (line_of b zs)) ≡ some u → length zs ≡ n) → numbers_on n (drop (p.at + 1) text) ≡ none →
      read_text text ≡ none
  none_short n only e = sym from_here ∙ rest_short t n b (drop (p.at + 1) text) only e

  pub none_refused : ((zs : List ℤ) → add_line t (some (line_of b zs)) ≡ none) → read_text text ≡ none
  none_refused h = sym from_here ∙ rest_refused t b (drop (p.at + 1) text) h

  -- n numbers, to a list of so many places
  module _ (n limit place : ℕ) (q : TextProgress) (done list list' : List ℤ) (more : List ℤ → Text) (instructions kerns entries : List ℤ) (o : b ≡ 10 → ⊥)
      (at_end_lem : length done ≡ place) (held : Appending done (zeros (pos 0) limit) list)
      (add : (zs : List ℤ) → length zs ≡ n → place + n ≤ limit → add_line t (some (line_of b zs)) ≡ some (more zs))
      (only : (zs : List ℤ) (u : Text) → add_line t (some (line_of b zs)) ≡ some u → length zs ≡ n) (full : limit < place + n → read_text text ≡ none)
      (then : (zs : List ℤ) → length zs ≡ n → p.at + (12 * n + 2) ≤ length text → rest_of (drop (p.at + (12 * n + 2)) text) (some (more zs)) ≡ read_text text →
      Appending (done ++ zs) (zeros (pos 0) limit) list' → Scanning text q instructions kerns entries) where
    room : place ≤ limit
    room = omega (arith, held.within, zeros_long (pos 0) limit)

    stored : (zs : List ℤ) → length zs ≡ n → place + n ≤ limit → list' ≡ sets list place zs → Appending (done ++ zs) (zeros (pos 0) limit) list'
    stored zs l h e =
        let m : length done + length zs ≤ length list = omega (arith, appending_length (zeros (pos 0) limit) held, zeros_long (pos 0) limit) in
        rw (e, ← at_end_lem) (appending_more (zeros (pos 0) limit) zs held m)

    by-room : (k : Bool) → leb n (limit - place) ≡ k → cond k (numbers_on n (drop (p.at + 1) text)) none ≡ none → read_text text ≡ none
    by-room true k e = none_short n only e
    by-room false k e = full (omega (arith, leb-false n (limit - place) k, room))

    by_read : (r : NextLine) (v : Option (List ℤ)) → numbers_in (limit - place) n (drop (p.at + 1) text) ≡ v → p.at < q.at → r ≡ next_by v q →
        ((zs : List ℤ) → v ≡ some zs → list' ≡ sets list place zs) → Goes text p instructions kerns entries r
    by_read r none e h a s = goes_nowhere text p instructions kerns entries r a (by-room (leb n (limit - place)) refl e)
    by_read r (some zs) e h a s =
        let c = cond_some (leb n (limit - place)) (numbers_on n (drop (p.at + 1) text)) zs e in
        let l : place + n ≤ limit = omega (arith, leb-true n (limit - place) c.0, room) in
        let m : length zs ≡ n = fields_count n (drop (p.at + 1) text) zs (numbered n (drop (p.at + 1) text) zs c.1).reads in
        goes_at text p instructions kerns entries r q a h
        (then zs m (inside n zs c.1) (further n zs (more zs) o c.1 (add zs m l)) (stored zs m l (s zs refl)))

    pub line_goes : (r : NextLine) → p.at < q.at → TakesLine (numbers_in (limit - place) n (drop (p.at + 1) text)) q list place r list' →
        Goes text p instructions kerns entries r
    line_goes r h k = by_read r (numbers_in (limit - place) n (drop (p.at + 1) text)) refl h k.answer k.stored

  -- one number, once: `once o u` is u where there is none yet
  module _ (read : Bool) (w : ℕ) (v : Option ℤ) (f : ℕ → TextProgress) (more : ℤ → Text) (instructions kerns entries : List ℤ) (o : b ≡ 10 → ⊥)
      (head : HeadSaid v read w)
      (add : (zs : List ℤ) → add_line t (some (line_of b zs)) ≡ by_one (λ z. once v (more z)) zs) (ahead : (z : ℤ) → p.at < (f (word_of z)).at)
      (then : (z : ℤ) → SFits w32 z → p.at + 14 ≤ length text → rest_of (drop (p.at + 14) text) (some (more z)) ≡ read_text text →
      Scanning text (f (word_of z)) instructions kerns entries) where
    again : read ≡ true → read_text text ≡ none
    again e = let i : v ≡ some (number_of w) = head.is ∙ rw e in none_refused (λ zs. add zs ∙ rw i (none_by_one zs))

    first-time : read ≡ false → v ≡ none
    first-time e = head.is ∙ rw e

    only : (zs : List ℤ) (u : Text) → add_line t (some (line_of b zs)) ≡ some u → length zs ≡ 1
    only zs u e = one_by_one (λ z. once v (more z)) zs u (sym (add zs) ∙ e)

    by_number : (r : NextLine) (n : Option ℤ) → number_on (drop (p.at + 1) text) ≡ n → read ≡ false → r ≡ head_by f n → Goes text p instructions kerns entries r
    by_number r none e i a = goes_nowhere text p instructions kerns entries r a (none_short 1 only (one_none (drop (p.at + 1) text) e))
    by_number r (some z) e i a =
        let g = one_some (drop (p.at + 1) text) z e in
        goes_at text p instructions kerns entries r (f (word_of z)) a (ahead z)
        (then z (fits_one (drop (p.at + 1) text) z e) (inside 1 (z ∷ []) g) (further 1 (z ∷ []) (more z) o g (add (z ∷ []) ∙ rw (first-time i))))

    by_flag : (r : NextLine) (k : Bool) → read ≡ k → r ≡ cond k next.Unreadable (head_by f (number_on (drop (p.at + 1) text))) →
        Goes text p instructions kerns entries r
    by_flag r true i a = goes_nowhere text p instructions kerns entries r a (again i)
    by_flag r false i a = by_number r (number_on (drop (p.at + 1) text)) refl i a

    pub head_goes : (r : NextLine) → r ≡ head_line text p read f → Goes text p instructions kerns entries r
    head_goes r a = by_flag r read refl a
