-- What holds of all that is read, property by property.
-- Assumes nothing.
use mathlib.Core.Path.{◌≡◌, refl, ap, ◌∙◌, subst}
use mathlib.Core.Bool.{Bool, true, false, cond}
use mathlib.Core.List.{List, [], ◌∷◌, ◌++◌}
use mathlib.Core.Logic.{◌⊎◌, inl, inr}
use mathlib.Core.Option.{none, some}
use Prim.Native.Nat.{ℕ, zero, suc, ◌+◌, ◌-◌, ◌*◌, ◌%◌, ◌<◌, ◌≤◌, min}
use native.Mathlib.Omega.{arith}
use lib.Dec.{leb, eqb}
use lib.IntN.{ℤ, pos, negsuc}
use lib.ListN.{length, get_or, set, length-append, length-replicate, get_or-replicate, length-set, get_or-append}
use lib.Seq.{get_or-set_same, get_or-set_other, get_or-append-add}
use mir.Syntax.{w32}
use mir.Val.{SFits}
use borrow.Author.Tests.{leb-true, leb-false, ne_eqb}
use Rattle.words.specs.Words.{number_of}
use Rattle.words.proofs.Bits.{word_number, number_pos, number_fits}
use Rattle.words.proofs.Tests.{same_or_not, less_or_not}
use Rattle.lang.specs.Every.{both}
use Rattle.lang.proofs.Every.{both_left, both_right}
use Rattle.lang.specs.Operations.{is_standard}
use Rattle.property_lists.specs.declared.Property.{Property}
use Rattle.property_lists.specs.declared.Property.TheVariants as property
use Rattle.property_lists.specs.declared.Progress.{Progress}
use Rattle.property_lists.specs.Indents.{good_indents}
use Rattle.property_lists.specs.Displays.{has_text}
use Rattle.property_lists.specs.ListReading.{ListRead, reading_by, progress_by, nothing_read, at_stage, at_least, may_label, labelled_at}
use Rattle.property_lists.specs.ListReading.{label_set, may_end, ended_at, next_set, stepped_at, with_now, applied, is_ended, property_on, read_all}
use Rattle.property_lists.specs.ListReading.{list_finished, pl_read}
use Rattle.pl_programs.proofs.Given.{Gives, nothing, this, then_gives, either_gives, RealBits, InProperty, property_gives}
use Rattle.pl_programs.proofs.Given.{a_comment, a_boundary, a_table, a_closing, an_end, a_label, a_stop, a_skip, a_ligature, a_kern}

-- ---- the numbers of a step and of a label

-- every number of a list is an i32
abbrev AllFit : List ℤ → Type 0
AllFit zs = (i : ℕ) → SFits w32 (get_or zs i (pos 0))

-- next of step i: none; to a step that is asked for; to the one that follows, or that may follow yet
pub data NextIn (steps needed : ℕ) (ending : Bool) (i : ℕ) : ℤ → Type 0 where
  halts : NextIn steps needed ending i (negsuc 0)
  leads : (m : ℕ) → m ≤ 127 → i + 1 + m < needed → NextIn steps needed ending i (pos m)
  follows : i + 1 < steps → NextIn steps needed ending i (pos 0)
  last : i + 1 ≡ steps → ending ≡ true → NextIn steps needed ending i (pos 0)

-- kind and operand: a kern that has a text, or a ligature of a standard op byte
pub data OperandIn : ℤ → ℤ → Type 0 where
  kern : (z : ℤ) → has_text z ≡ true → OperandIn (pos 0) z
  ligature : (op inserted : ℕ) → op < 128 → inserted < 256 → is_standard op ≡ true → OperandIn (pos 2) (pos (256 * op + inserted))

-- the right character
pub data RightIn : ℤ → Type 0 where
  right : (c : ℕ) → c < 256 → RightIn (pos c)

-- a label: none, or a step that is asked for
pub data LabelIn (needed : ℕ) : ℤ → Type 0 where
  no_label : LabelIn needed (negsuc 0)
  to : (m : ℕ) → m < needed → m ≤ 65535 → LabelIn needed (pos m)

-- the bits of the boundary character, or of its absence
pub data BoundaryIn : ℕ → Type 0 where
  absent : BoundaryIn 4294967295
  there : (c : ℕ) → c ≤ 255 → BoundaryIn c

pub record SoundRead (x : ListRead) : Type 0 where
  pub long : length x.program ≡ 4 * x.now.steps
  pub fits : AllFit x.program
  pub next : (i : ℕ) → i < x.now.steps → NextIn x.now.steps x.now.needed x.now.ending i (get_or x.program (4 * i) (pos 0))
  pub right : (i : ℕ) → i < x.now.steps → RightIn (get_or x.program (4 * i + 1) (pos 0))
  pub operand : (i : ℕ) → i < x.now.steps → OperandIn (get_or x.program (4 * i + 2) (pos 0)) (get_or x.program (4 * i + 3) (pos 0))
  pub begun : x.now.ending ≡ true → 1 ≤ x.now.steps
  pub places : length x.labels ≡ 257
  pub labels : (c : ℕ) → c < 257 → LabelIn x.now.needed (get_or x.labels c (pos 0))
  pub boundary : BoundaryIn x.now.boundary

-- ---- i32 lists

pub small_fits : (n : ℕ) → n < 2147483648 → SFits w32 (pos n)
small_fits n h = subst (λ z. SFits w32 z) (number_pos n h) (number_fits n (omega arith))

pub absent_fits : SFits w32 (negsuc 0)
absent_fits = number_fits 4294967295 (omega arith)

fits_set : (l : List ℤ) (k : ℕ) (z : ℤ) → k < length l → AllFit l → SFits w32 z → AllFit (set l k z)
fits_set l k z h f g b = by (same_or_not b k)
  where
    by : (b ≡ k) ⊎ (b ≡ k → ⊥) → SFits w32 (get_or (set l k z) b (pos 0))
    by (inl e) = rw (e, get_or-set_same l k z (pos 0) h) g
    by (inr n) = rw (get_or-set_other l k b z (pos 0) n) (f b)

fits_append : (l m : List ℤ) → AllFit l → AllFit m → AllFit (l ++ m)
fits_append l m f g b = by (less_or_not b (length l))
  where
    by : (b < length l) ⊎ (length l ≤ b) → SFits w32 (get_or (l ++ m) b (pos 0))
    by (inl h) = rw (get_or-append l m (pos 0) b h) (f b)
    by (inr h) =
        let e : b ≡ length l + (b - length l) = omega arith in
        let q : get_or (l ++ m) b (pos 0) ≡ get_or m (b - length l) (pos 0) =
        ap (λ (k : ℕ). get_or (l ++ m) k (pos 0)) e ∙ get_or-append-add l m (b - length l) (pos 0) in
        rw q (g (b - length l))

fits_four : (a b c d : ℤ) → SFits w32 a → SFits w32 b → SFits w32 c → SFits w32 d → AllFit (a ∷ b ∷ c ∷ d ∷ [])
fits_four a b c d fa fb fc fd zero = fa
fits_four a b c d fa fb fc fd (suc zero) = fb
fits_four a b c d fa fb fc fd (suc (suc zero)) = fc
fits_four a b c d fa fb fc fd (suc (suc (suc zero))) = fd
fits_four a b c d fa fb fc fd (suc (suc (suc (suc n)))) = small_fits 0 (omega arith)

-- ---- at least as many steps

least_most : (needed n : ℕ) → (needed ≤ at_least needed n) × (n < at_least needed n)
least_most needed n = by (leb needed n) refl
  where
    by : (t : Bool) → leb needed n ≡ t → (needed ≤ cond t (n + 1) needed) × (n < cond t (n + 1) needed)
    by true e = let l = leb-true needed n e in (omega arith, omega arith)
    by false e = let l = leb-false needed n e in (omega arith, omega arith)

label_more : {needed more : ℕ} {z : ℤ} → needed ≤ more → LabelIn needed z → LabelIn more z
label_more h no_label = no_label
label_more h (to m k l) = to m (omega arith) l

-- a label after a step: that is one that another follows
next_labelled : {steps needed more i : ℕ} {ending : Bool} {z : ℤ} → needed ≤ more → steps < more → NextIn steps needed ending i z → NextIn steps more false i z
next_labelled h k halts = halts
next_labelled h k (leads m a b) = leads m a (omega arith)
next_labelled h k (follows a) = follows a
next_labelled h k (last e t) = leads 0 (omega arith) (omega arith)

-- a step before one that has ended
next_ended : {steps needed more i : ℕ} {ending : Bool} {z : ℤ} → needed ≤ more → (i + 1 ≡ steps → ending ≡ true → ⊥) → NextIn steps needed ending i z →
    NextIn steps more false i z
next_ended h k halts = halts
next_ended h k (leads m a b) = leads m a (omega arith)
next_ended h k (follows a) = follows a
next_ended h k (last e t) = absurd (k e t)

-- a step before one more
next_stepped : {steps needed i : ℕ} {ending : Bool} {z : ℤ} → NextIn steps needed ending i z → NextIn (steps + 1) needed true i z
next_stepped halts = halts
next_stepped (leads m a b) = leads m a b
next_stepped (follows a) = follows (omega arith)
next_stepped (last e t) = follows (omega arith)

-- ---- each change

module _ (x : ListRead) (s : SoundRead x) where
  labelled_sound : (c : ℕ) → c ≤ 256 → SoundRead (reading_by (labelled_at x.now) x.program (label_set c x.now.steps x.labels))
  labelled_sound c h =
      let n = x.now.steps in
      let l = least_most x.now.needed n in
      record {
        long = s.long;
        fits = s.fits;
        next = λ i k. next_labelled l.0 l.1 (s.next i k);
        right = s.right;
        operand = s.operand;
        begun = λ e. absurd (let z : ◌≡◌ {A = ℕ} 0 1 = cc in omega arith);
        places = length-set x.labels c (pos (min n 65535)) ∙ s.places;
        labels = λ b k. by b k (same_or_not b c);
        boundary = s.boundary;
      }
    where
      by : (b : ℕ) → b < 257 → (b ≡ c) ⊎ (b ≡ c → ⊥) →
          LabelIn (at_least x.now.needed x.now.steps) (get_or (label_set c x.now.steps x.labels) b (pos 0))
      by b k (inl e) =
          let l = least_most x.now.needed x.now.steps in
          let p = s.places in
          let g : get_or (label_set c x.now.steps x.labels) b (pos 0) ≡ pos (min x.now.steps 65535) =
          ap (λ (j : ℕ). get_or (label_set c x.now.steps x.labels) j (pos 0)) e
          ∙ get_or-set_same x.labels c (pos (min x.now.steps 65535)) (pos 0) (omega arith) in
          rw g (to (min x.now.steps 65535) (omega (arith, l.1)) (omega arith))
      by b k (inr n) =
          rw (get_or-set_other x.labels c b (pos (min x.now.steps 65535)) (pos 0) n)
          (label_more (least_most x.now.needed x.now.steps).0 (s.labels b k))

  -- the last step ends
  ended_sound : (more : ℕ) (z : ℤ) → x.now.ending ≡ true → x.now.needed ≤ more → SFits w32 z →
      NextIn x.now.steps more false (x.now.steps - 1) z →
      SoundRead (reading_by (ended_at more x.now) (next_set x.now.steps z x.program) x.labels)
  ended_sound more z e h f g =
      record {
        long = length-set x.program (4 * (x.now.steps - 1)) z ∙ s.long;
        fits = fits_set x.program (4 * (x.now.steps - 1)) z inside s.fits f;
        next = λ i k. by i k (same_or_not i (x.now.steps - 1));
        right = λ i k. rw (other i 1 (omega arith) (omega arith)) (s.right i k);
        operand = λ i k. rw (other i 2 (omega arith) (omega arith), other i 3 (omega arith) (omega arith)) (s.operand i k);
        begun = λ e. absurd (let z : ◌≡◌ {A = ℕ} 0 1 = cc in omega arith);
        places = s.places;
        labels = λ b k. label_more h (s.labels b k);
        boundary = s.boundary;
      }
    where
      inside : 4 * (x.now.steps - 1) < length x.program
      inside = let a = s.begun e in let b = s.long in omega arith

      other : (i j : ℕ) → 1 ≤ j → j < 4 → get_or (set x.program (4 * (x.now.steps - 1)) z) (4 * i + j) (pos 0) ≡ get_or x.program (4 * i + j) (pos 0)
      other i j a b = get_or-set_other x.program (4 * (x.now.steps - 1)) (4 * i + j) z (pos 0) (λ q. omega (arith, q))

      by : (i : ℕ) → i < x.now.steps → (i ≡ x.now.steps - 1) ⊎ (i ≡ x.now.steps - 1 → ⊥) →
          NextIn x.now.steps more false i (get_or (set x.program (4 * (x.now.steps - 1)) z) (4 * i) (pos 0))
      by i k (inl q) = rw (q, get_or-set_same x.program (4 * (x.now.steps - 1)) z (pos 0) inside) g
      by i k (inr n) =
          rw (get_or-set_other x.program (4 * (x.now.steps - 1)) (4 * i) z (pos 0) (λ q. n (let u : i ≡ x.now.steps - 1 = omega (arith, q) in u)))
          (next_ended h (λ q t. n (let u : i ≡ x.now.steps - 1 = omega (arith, q) in u)) (s.next i k))

  -- one step more
  stepped_sound : (c kind : ℕ) (z : ℤ) → c < 256 → kind < 256 → SFits w32 z → OperandIn (pos kind) z →
      SoundRead (reading_by (stepped_at x.now) (x.program ++ (pos 0 ∷ pos c ∷ pos kind ∷ z ∷ [])) x.labels)
  stepped_sound c kind z hc hk f o =
      record {
        long = length-append x.program four ∙ (let a = s.long in let q : length x.program + 4 ≡ 4 * (x.now.steps + 1) = omega arith in q);
        fits = fits_append x.program four s.fits
            (fits_four (pos 0) (pos c) (pos kind) z (small_fits 0 (omega arith)) (small_fits c (omega arith)) (small_fits kind (omega arith)) f);
        next = λ i k. next_by_lem i (at i k);
        right = λ i k. right_by i (at i k);
        operand = λ i k. operand_by i (at i k);
        begun = λ e. omega arith;
        places = s.places;
        labels = s.labels;
        boundary = s.boundary;
      }
    where
      four : List ℤ
      four = pos 0 ∷ pos c ∷ pos kind ∷ z ∷ []

      at : (i : ℕ) → i < x.now.steps + 1 → (i < x.now.steps) ⊎ (i ≡ x.now.steps)
      at i k = by (less_or_not i x.now.steps)
        where
          by : (i < x.now.steps) ⊎ (x.now.steps ≤ i) → (i < x.now.steps) ⊎ (i ≡ x.now.steps)
          by (inl h) = inl h
          by (inr h) = inr (omega arith)

      before : (i j : ℕ) → i < x.now.steps → j < 4 → get_or (x.program ++ four) (4 * i + j) (pos 0) ≡ get_or x.program (4 * i + j) (pos 0)
      before i j h k = get_or-append x.program four (pos 0) (4 * i + j) (let a = s.long in omega arith)

      behind : (i j k : ℕ) → i ≡ x.now.steps → k ≡ 4 * i + j → get_or (x.program ++ four) k (pos 0) ≡ get_or four j (pos 0)
      behind i j k e q =
          ap (λ (m : ℕ). get_or (x.program ++ four) m (pos 0)) (let a = s.long in let u : k ≡ length x.program + j = omega arith in u)
          ∙ get_or-append-add x.program four j (pos 0)

      next_by_lem : (i : ℕ) → (i < x.now.steps) ⊎ (i ≡ x.now.steps) →
          NextIn (x.now.steps + 1) x.now.needed true i (get_or (x.program ++ four) (4 * i) (pos 0))
      next_by_lem i (inl h) =
          rw (get_or-append x.program four (pos 0) (4 * i) (let a = s.long in omega arith)) (next_stepped (s.next i h))
      next_by_lem i (inr e) = rw (behind i 0 (4 * i) e (omega arith)) (last (omega arith) refl)

      right_by : (i : ℕ) → (i < x.now.steps) ⊎ (i ≡ x.now.steps) → RightIn (get_or (x.program ++ four) (4 * i + 1) (pos 0))
      right_by i (inl h) = rw (before i 1 h (omega arith)) (s.right i h)
      right_by i (inr e) = rw (behind i 1 (4 * i + 1) e refl) (right c hc)

      operand_by : (i : ℕ) → (i < x.now.steps) ⊎ (i ≡ x.now.steps) →
          OperandIn (get_or (x.program ++ four) (4 * i + 2) (pos 0)) (get_or (x.program ++ four) (4 * i + 3) (pos 0))
      operand_by i (inl h) = rw (before i 2 h (omega arith), before i 3 h (omega arith)) (s.operand i h)
      operand_by i (inr e) = rw (behind i 2 (4 * i + 2) e refl, behind i 3 (4 * i + 3) e refl) o

  -- what is behind LIGTABLE's properties alone
  stage_sound : (stage : ℕ) → SoundRead (reading_by (at_stage stage x.now) x.program x.labels)
  stage_sound stage =
      record {
        long = s.long;
        fits = s.fits;
        next = s.next;
        right = s.right;
        operand = s.operand;
        begun = s.begun;
        places = s.places;
        labels = s.labels;
        boundary = s.boundary;
      }

  bounded_sound : (c : ℕ) → c ≤ 255 →
      SoundRead (reading_by (progress_by 1 c x.now.steps x.now.ending x.now.needed) x.program x.labels)
  bounded_sound c h =
      record {
        long = s.long;
        fits = s.fits;
        next = s.next;
        right = s.right;
        operand = s.operand;
        begun = s.begun;
        places = s.places;
        labels = s.labels;
        boundary = there c h;
      }

  now_gives : (t : Bool) (p : Progress) → SoundRead (reading_by p x.program x.labels) → Gives SoundRead (with_now x (cond t (some p) none))
  now_gives true p k = this k
  now_gives false p k = nothing

  ends : may_end x.now ≡ true → x.now.ending ≡ true
  ends e = both_right (eqb x.now.stage 2) x.now.ending e

  real_text_lem : (w : ℕ) → RealBits w → has_text (number_of w) ≡ true
  real_text_lem w h = rw (word_number w (omega (arith, h.0)), ne_eqb w 2147483648 h.1)

  pub applied_sound : {p : Property} → InProperty p → Gives SoundRead (applied p x)
  unfolding applied
  applied_sound a_comment = this s
  applied_sound (a_boundary c h) =
      now_gives (eqb x.now.stage 0) (progress_by 1 c x.now.steps x.now.ending x.now.needed) (bounded_sound c h)
  applied_sound a_table = now_gives (leb x.now.stage 1) (at_stage 2 x.now) (stage_sound 2)
  applied_sound a_closing = now_gives (eqb x.now.stage 2) (at_stage 3 x.now) (stage_sound 3)
  applied_sound an_end = nothing
  applied_sound (a_label c h) =
      either_gives (may_label c x.now x.labels) (λ _. this (labelled_sound c h)) (λ _. nothing)
  applied_sound a_stop =
      either_gives (may_end x.now) (λ e. this (ended_sound x.now.needed (negsuc 0) (ends e) (omega arith) absent_fits halts)) (λ _. nothing)
  applied_sound (a_skip n) =
      either_gives (both (may_end x.now) (leb n 127))
      (λ e. this (skipped (both_left (may_end x.now) (leb n 127) e) (both_right (may_end x.now) (leb n 127) e)))
      (λ _. nothing)
    where
      skipped : may_end x.now ≡ true → leb n 127 ≡ true →
          SoundRead (reading_by (ended_at (at_least x.now.needed (x.now.steps + n)) x.now) (next_set x.now.steps (pos n) x.program) x.labels)
      skipped e q =
          let l = least_most x.now.needed (x.now.steps + n) in
          let m = leb-true n 127 q in
          let b = s.begun (ends e) in
          let l1 = l.1 in
          ended_sound (at_least x.now.needed (x.now.steps + n)) (pos n) (ends e) l.0 (small_fits n (omega arith)) (leads n m (omega (arith, l1, b)))
  applied_sound (a_ligature op c inserted e) =
      either_gives (eqb x.now.stage 2)
      (λ _. this (stepped_sound (c % 256) 2 (pos (256 * (op % 128) + inserted % 256)) (omega arith) (omega arith)
      (small_fits (256 * (op % 128) + inserted % 256) (omega arith)) (ligature (op % 128) (inserted % 256) (omega arith) (omega arith) e)))
      (λ _. nothing)
  applied_sound (a_kern c bits h) =
      either_gives (eqb x.now.stage 2)
      (λ _. this (stepped_sound (c % 256) 0 (number_of bits) (omega arith) (omega arith) (number_fits bits (omega (arith, h.0)))
      (kern (number_of bits) (real_text_lem bits h))))
      (λ _. nothing)

-- ---- all of a text

nothing_sound : SoundRead nothing_read
nothing_sound =
    record {
      long = refl;
      fits = λ i. small_fits 0 (omega arith);
      next = λ i h. absurd (omega arith);
      right = λ i h. absurd (omega arith);
      operand = λ i h. absurd (omega arith);
      begun = λ e. absurd (let z : ◌≡◌ {A = ℕ} 0 1 = cc in omega arith);
      places = length-replicate 257 (negsuc 0);
      labels = λ c h. rw (get_or-replicate 257 c (negsuc 0) (pos 0) h) no_label;
      boundary = absent;
    }

all_sound : (f : ℕ) (x : ListRead) (bs : List ℕ) → SoundRead x → Gives SoundRead (read_all f x bs)
unfolding read_all
all_sound zero x bs s = nothing
all_sound (suc f) x bs s =
    then_gives (property_on (read_all f) x) (property_gives bs)
    (λ p i. either_gives (is_ended p.0) (λ _. this s)
    (λ _. then_gives (λ y. read_all f y p.1) (applied_sound x s i) (λ y k. all_sound f y p.1 k)))

-- the end: no label and no next leads past the last step
pub record Finished (x : ListRead) : Type 0 where
  pub sound : SoundRead (reading_by (ended_at x.now.needed x.now) x.program x.labels)
  pub few : x.now.needed ≤ x.now.steps

module _ (x : ListRead) (s : SoundRead x) where
  last_sound : (t : Bool) → x.now.ending ≡ t →
      SoundRead (reading_by (ended_at x.now.needed x.now) (cond t (next_set x.now.steps (negsuc 0) x.program) x.program) x.labels)
  last_sound true e = ended_sound x s x.now.needed (negsuc 0) e (omega arith) absent_fits halts
  last_sound false e =
      record {
        long = s.long;
        fits = s.fits;
        next = λ i k. next_ended (omega arith) (λ q t. let z : ◌≡◌ {A = ℕ} 0 1 = cc in omega (arith, z)) (s.next i k);
        right = s.right;
        operand = s.operand;
        begun = λ q. absurd (let z : ◌≡◌ {A = ℕ} 0 1 = cc in omega arith);
        places = s.places;
        labels = s.labels;
        boundary = s.boundary;
      }

  finished_gives : Gives Finished (list_finished x)
  finished_gives =
      either_gives (eqb x.now.stage 2) (λ _. nothing)
      (λ _. either_gives (leb x.now.needed x.now.steps)
      (λ e. this (record { sound = last_sound x.now.ending refl; few = leb-true x.now.needed x.now.steps e })) (λ _. nothing))

pub list_gives : (text : List ℕ) → Gives Finished (pl_read text)
list_gives text =
    either_gives (good_indents text)
    (λ _. then_gives list_finished (all_sound (suc (length text)) nothing_read text nothing_sound) (λ x s. finished_gives x s)) (λ _. nothing)
