-- A program that is written, read again.
-- Assumes nothing.
use mathlib.Core.Path.{◌≡◌, refl, ap, sym, ◌∙◌, subst}
use mathlib.Core.Bool.{Bool, true, false, cond, not}
use mathlib.Core.List.{List, [], ◌∷◌, ◌++◌, append_assoc, append-nil}
use mathlib.Core.Logic.{◌⊎◌, inl, inr}
use mathlib.Core.Option.{Option, none, some}
use Prim.Native.Nat.{ℕ, zero, suc, ◌+◌, ◌-◌, ◌*◌, ◌/◌, ◌%◌, ◌^◌, ◌<◌, ◌≤◌}
use native.Mathlib.Numerals.{add-one}
use native.Mathlib.Omega.{arith}
use lib.Dec.{leb, ltb, eqb}
use lib.IntN.{ℤ, pos, negsuc}
use lib.ListN.{length, get_or, set}
use lib.Seq.{set_at}
use mir.Syntax.{w32}
use mir.Val.{SFits}
use borrow.Author.Tests.{eq-eqb, eqb-true, ltb-true, leb-true, le-leb}
use Rattle.words.specs.Words.{word_of, number_of}
use Rattle.words.specs.Lists.{tabulate}
use Rattle.words.proofs.Lists.{length_tabulate}
use Rattle.lang.specs.Every.{both}
use Rattle.lang.specs.Records.{count, field, right_of, absent_or, within, operand_fits, is_instruction}
use Rattle.lang.proofs.Every.{both_left, both_right}
use Rattle.property_lists.specs.declared.Property.{Property}
use Rattle.property_lists.specs.declared.Property.TheVariants as property
use Rattle.property_lists.specs.Displays.{next_line, step_line, label_lines, instruction_lines, program_lines, next_shown, instruction_shown, kerns_shown}
use Rattle.property_lists.specs.ListReading.{ListRead, reading_by, progress_by, at_least, stepped, applied}
use Rattle.pl_read_backs.proofs.Texts.{LineOf, LinesOf, no_lines, line_more, one_line, lines_append, stop_line, skip_line, applied_all}
use Rattle.pl_read_backs.proofs.Labels.{labels_at, label_props, labels_lines, Standing, After, after_none, after_append, least_few, labels_after}
use Rattle.pl_read_backs.proofs.Steps.{packed_at, StepRead, step_read, right_read, next_kept, next_shown_lem}

-- ---- where an instruction goes on

abbrev pub next_props : ℤ → List Property
next_props (negsuc n) = property.Stop ∷ []
next_props (pos zero) = []
next_props (pos (suc n)) = property.Skip (suc n) ∷ []

next_lines : (n i : ℕ) (z : ℤ) → next_shown n i z ≡ true → LinesOf (next_line z) (next_props z)
next_lines n i (negsuc m) e = one_line (stop_line m)
next_lines n i (pos zero) e = no_lines
next_lines n i (pos (suc m)) e =
    let l : suc m ≤ 127 = leb-true (suc m) 127 (both_left (leb (suc m) 127) (ltb (i + 1 + suc m) n) e) in
    one_line (skip_line m (omega arith))

-- ---- four numbers more

four : (f : ℕ → ℤ) (n : ℕ) → tabulate (4 * (n + 1)) f ≡ tabulate (4 * n) f ++ (f (4 * n + 0) ∷ f (4 * n + 1) ∷ f (4 * n + 2) ∷ f (4 * n + 3) ∷ [])
unfolding tabulate
four f n =
    let e : 4 * (n + 1) ≡ suc (suc (suc (suc (4 * n)))) = omega arith in
    let e₀ : 4 * n + 0 ≡ 4 * n = omega arith in
    let e₁ : 4 * n + 1 ≡ suc (4 * n) = omega arith in
    let e₂ : 4 * n + 2 ≡ suc (suc (4 * n)) = omega arith in
    let e₃ : 4 * n + 3 ≡ suc (suc (suc (4 * n))) = omega arith in
    rw (e, e₀, e₁, e₂, e₃) (simp append_assoc)

module _ (s kerns labels : List ℤ) (boundary i : ℕ) (there : i < count s) (fs : (j : ℕ) → SFits w32 (get_or s j (pos 0)))
    (fk : (j : ℕ) → SFits w32 (get_or kerns j (pos 0))) (ok : is_instruction s i ≡ true) (shown : instruction_shown s (length kerns) i ≡ true)
    (texts : kerns_shown kerns ≡ true) where
  abbrev read : StepRead s kerns i there fs fk ok shown texts
  read = step_read s kerns i there fs fk ok shown texts

  abbrev before : List ℤ
  before = tabulate (4 * i) (packed_at s kerns)

  abbrev behind : List ℤ
  behind = pos (right_of s i % 256) ∷ pos read.kind ∷ read.operand ∷ []

  -- the numbers with this next
  numbers : (z : ℤ) → field s i 0 ≡ z → before ++ (z ∷ behind) ≡ tabulate (4 * (i + 1)) (packed_at s kerns)
  numbers z e =
      let a : z ≡ packed_at s kerns (4 * i + 0) = sym e ∙ next_kept s kerns i there fs fk ok shown texts in
      sym (four (packed_at s kerns) i
      ∙ (λ j. before ++ (sym a j ∷ sym (right_read s kerns i there fs fk ok shown texts) j ∷ sym read.kind_is j ∷ sym read.operand_is j ∷ [])))

  next_set_lem : (z : ℤ) → set (before ++ (pos 0 ∷ behind)) (4 * (i + 1 - 1)) z ≡ before ++ (z ∷ behind)
  next_set_lem z =
      let e : 4 * (i + 1 - 1) ≡ 4 * i = omega arith in
      rw e (set_at before (pos 0) behind z (4 * i) (length_tabulate (4 * i) (packed_at s kerns)))

  abbrev Stands : List ℤ → ℕ → ListRead → Type 0
  Stands program steps r = Standing labels program boundary (count s) steps r

  -- behind the step
  step_after : (r : ListRead) → Stands before i r →
      After (read.step ∷ []) r (λ x. (needed : ℕ) × ((needed ≤ count s) × (x ≡ reading_by (progress_by 2 boundary (i + 1) true needed) (before ++
      (pos 0 ∷ behind)) labels)))
  unfolding applied_all
  step_after r l =
      record {
        reading = reading_by (progress_by 2 boundary (i + 1) true l.needed) (before ++ (pos 0 ∷ behind)) labels;
        read = rw (read.does r, l.is);
        holds = (l.needed, (l.few, refl));
      }

  next_after : (z : ℤ) → field s i 0 ≡ z → next_shown (count s) i z ≡ true → absent_or 255 z ≡ true → (needed : ℕ) → needed ≤ count s →
      After (next_props z) (reading_by (progress_by 2 boundary (i + 1) true needed) (before ++ (pos 0 ∷ behind)) labels)
      (Stands (tabulate (4 * (i + 1)) (packed_at s kerns)) (i + 1))
  unfolding applied_all applied
  next_after (negsuc m) e n a needed h =
      let m-is : m ≡ 0 = eqb-true m 0 a in
      let e₀ : field s i 0 ≡ negsuc 0 = e ∙ ap negsuc m-is in
      record {
        reading = reading_by (progress_by 2 boundary (i + 1) false needed) (set (before ++ (pos 0 ∷ behind)) (4 * (i + 1 - 1)) (negsuc 0)) labels;
        read = refl;
        holds =
            record {
              ending = false;
              needed = needed;
              is = ap (λ (p : List ℤ). reading_by (progress_by 2 boundary (i + 1) false needed) p labels) (next_set_lem (negsuc 0) ∙ numbers (negsuc 0) e₀);
              few = h;
              done = λ q. refl;
            };
      }
  next_after (pos zero) e n a needed h =
      let l : i + 1 + 0 < count s = ltb-true (i + 1 + 0) (count s) (both_right (leb 0 127) (ltb (i + 1 + 0) (count s)) n) in
      record {
        reading = reading_by (progress_by 2 boundary (i + 1) true needed) (before ++ (pos 0 ∷ behind)) labels;
        read = refl;
        holds =
            record {
              ending = true;
              needed = needed;
              is = ap (λ (p : List ℤ). reading_by (progress_by 2 boundary (i + 1) true needed) p labels) (numbers (pos 0) e);
              few = h;
              done = λ q. absurd (omega (arith, q));
            };
      }
  next_after (pos (suc m)) e n a needed h =
      let k : suc m ≤ 127 = leb-true (suc m) 127 (both_left (leb (suc m) 127) (ltb (i + 1 + suc m) (count s)) n) in
      let l : i + 1 + suc m < count s = ltb-true (i + 1 + suc m) (count s) (both_right (leb (suc m) 127) (ltb (i + 1 + suc m) (count s)) n) in
      record {
        reading =
            reading_by (progress_by 2 boundary (i + 1) false (at_least needed (i + 1 + suc m))) (set (before ++ (pos 0 ∷ behind)) (4 * (i + 1 - 1)) (pos (suc m)))
            labels;
        read = rw (le-leb (suc m) 127 k);
        holds =
            record {
              ending = false;
              needed = at_least needed (i + 1 + suc m);
              is =
                  ap (λ (p : List ℤ). reading_by (progress_by 2 boundary (i + 1) false (at_least needed (i + 1 + suc m))) p labels)
                  (next_set_lem (pos (suc m)) ∙ numbers (pos (suc m)) e);
              few = least_few needed (i + 1 + suc m) (count s) h l;
              done = λ q. refl;
            };
      }

  pub both_after : (r : ListRead) → Stands before i r →
      After ((read.step ∷ []) ++ next_props (field s i 0)) r (Stands (tabulate (4 * (i + 1)) (packed_at s kerns)) (i + 1))
  both_after r l =
      after_append (read.step ∷ []) (next_props (field s i 0)) r
      (λ x. (needed : ℕ) × ((needed ≤ count s) × (x ≡ reading_by (progress_by 2 boundary (i + 1) true needed) (before ++ (pos 0 ∷ behind)) labels)))
      (Stands (tabulate (4 * (i + 1)) (packed_at s kerns)) (i + 1)) (step_after r l)
      (λ x q.
      subst (λ (y : ListRead). After (next_props (field s i 0)) y (Stands (tabulate (4 * (i + 1)) (packed_at s kerns)) (i + 1))) (sym q.1.1)
      (next_after (field s i 0) refl (next_shown_lem s kerns i there fs fk ok shown texts)
      (both_left (absent_or 255 (field s i 0)) (both (within 255 (field s i 1)) (operand_fits (word_of (field s i 2)) (field s i 3))) ok) q.0 q.1.0))

  pub both_lines : LinesOf (step_line s kerns i ++ next_line (field s i 0)) ((read.step ∷ []) ++ next_props (field s i 0))
  both_lines = lines_append (one_line read.line) (next_lines (count s) i (field s i 0) (next_shown_lem s kerns i there fs fk ok shown texts))

-- ---- the first n instructions

module _ (s kerns t : List ℤ) (boundary : ℕ) (few : count s ≤ 32767) (fs : (j : ℕ) → SFits w32 (get_or s j (pos 0)))
    (fk : (j : ℕ) → SFits w32 (get_or kerns j (pos 0))) (ok : (i : ℕ) → i < count s → is_instruction s i ≡ true)
    (shown : (i : ℕ) → i < count s → instruction_shown s (length kerns) i ≡ true) (texts : kerns_shown kerns ≡ true)
    (values : (b n : ℕ) → b < 257 → n < count s → word_of (get_or t b (pos 0)) ≡ n → get_or t b (pos 0) ≡ pos n) where
  abbrev StandsAt : ℕ → ListRead → Type 0
  StandsAt n r = Standing (labels_at t n 0 false) (tabulate (4 * n) (packed_at s kerns)) boundary (count s) n r

  pub record ProgramRead (n : ℕ) (r : ListRead) : Type 0 where
    pub props : List Property
    pub lines : LinesOf (program_lines s kerns t n) props
    pub after : After props r (StandsAt n)

  program_none : (r : ListRead) → StandsAt 0 r → ProgramRead 0 r
  unfolding program_lines
  program_none r l = record { props = []; lines = no_lines; after = after_none l }

  program_next : (n : ℕ) → n < count s → (r : ListRead) → ProgramRead n r → ProgramRead (suc n) r
  unfolding program_lines
  program_next n h r p =
      let e : n + 1 ≡ suc n = add-one n in
      record {
        props = p.props ++ (label_props t n ++ (((step_read s kerns n h fs fk (ok n h) (shown n h) texts).step ∷ []) ++ next_props (field s n 0)));
        lines =
            lines_append p.lines (lines_append (labels_lines t n) (both_lines s kerns (labels_at t (suc n) 0 false) boundary n h fs fk (ok n h)
            (shown n h) texts));
        after =
            after_append p.props (label_props t n ++ (((step_read s kerns n h fs fk (ok n h) (shown n h) texts).step ∷ []) ++ next_props (field s n 0))) r
            (StandsAt n) (StandsAt (suc n)) p.after
            (λ x l.
            after_append (label_props t n) (((step_read s kerns n h fs fk (ok n h) (shown n h) texts).step ∷ []) ++ next_props (field s n 0)) x
            (λ y. Standing (labels_at t (suc n) 0 false) (tabulate (4 * n) (packed_at s kerns)) boundary (count s) n y) (StandsAt (suc n))
            (labels_after t (tabulate (4 * n) (packed_at s kerns)) boundary (count s) n h few (λ b k q. values b n k h q) x l)
            (λ y m.
            let a = both_after s kerns (labels_at t (suc n) 0 false) boundary n h fs fk (ok n h) (shown n h) texts y m in
            record {
              reading = a.reading;
              read = a.read;
              holds =
                  subst (λ (k : ℕ). Standing (labels_at t (suc n) 0 false) (tabulate (4 * k) (packed_at s kerns)) boundary (count s) k a.reading) e a.holds;
            }));
      }

  pub program_read : (n : ℕ) → n ≤ count s → (r : ListRead) → StandsAt 0 r → ProgramRead n r
  program_read zero h r l = program_none r l
  program_read (suc n) h r l = program_next n (omega arith) r (program_read n (omega arith) r l)
