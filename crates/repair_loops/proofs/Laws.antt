-- Laws of the warnings of pairs that are listed one after the other.
-- Assumes nothing.
use mathlib.Core.Path.{◌≡◌, refl, sym, ap, ◌∙◌, subst}
use mathlib.Core.Bool.{Bool, true}
use mathlib.Core.List.{List, [], ◌∷◌, ◌++◌}
use Prim.Native.Nat.{ℕ, zero, suc, ◌+◌, ◌*◌, ◌/◌, ◌%◌, ◌<◌, ◌≤◌, min}
use native.Mathlib.Omega.{arith}
use lib.IntN.{ℤ, pos}
use lib.Dec.{ltb}
use lib.ListN.{length, replicate}
use lib.Seq.{sets}
use borrow.Author.Tests.{lt-ltb, le-ltb}
use Rattle.words.specs.Words.{number_of}
use Rattle.words.specs.Lists.{tabulate}
use Rattle.words.proofs.Bits.{number_pos, number_neg}
use Rattle.words.proofs.Lists.{length_tabulate}
use Rattle.lang.specs.declared.Written.TheVariants.{Count, Refused}
use Rattle.lang.specs.Every.{both}
use Rattle.lang.specs.Answers.{reply_of}
use Rattle.lang.proofs.Refusals.{first_refusal, refused_reply, taken_reply}
use Rattle.reading.specs.Depth.{Pair}
use Rattle.fonts.specs.Fonts.{Font, left_of}
use Rattle.fonts.specs.Numbers.{left_number}
use Rattle.fonts.specs.Compiled.{loops_of_font}
use Rattle.compiling.specs.declared.WalkedFont.TheVariants as walked
use Rattle.compiling.specs.Rows.{at}
use Rattle.compiling.specs.LoopSteps.{Listing}
use Rattle.compiling.proofs.LoopLaws.{listed_pair, left_small}
use Rattle.compile_prepare.specs.Prepares.{prepare_refusal}
use Rattle.compile_loops.specs.FindsLoops.{FindsLoopsBy}
use Rattle.repairs.specs.Warnings.{warning, warn_if, loop_warnings}
use Rattle.repairs.specs.Pushed.{Pushed}
use Rattle.repairs.proofs.Pushing.{pushed_none, pushed_append, pushed_if, loop_count}
use Rattle.repair_loops.specs.WarnsLoops.{if_taken, loop_search_refusal, WarnsLoops}

-- ---- of plain values

min_self : (n : ℕ) → min n n ≡ n
min_self n = omega arith

last_warning : (ps : List Pair) (p : Pair) → loop_warnings (ps ++ (p ∷ [])) ≡ loop_warnings ps ++ warning 10 (left_number p.left) (pos p.right) (pos 0)
unfolding loop_warnings
last_warning [] p = refl
last_warning (q ∷ qs) p = ap (λ (ws : List ℤ). warning 10 (left_number q.left) (pos q.right) (pos 0) ++ ws) (last_warning qs p)

-- ---- of the rows that are listed

-- a left by its number, one less
left_word : (t : ℕ) → t < 257 → number_of ((t + 4294967295) % 4294967296) ≡ left_number (left_of t)
left_word zero h = number_neg 4294967295 (omega arith)
left_word (suc c) h =
    let e : (suc c + 4294967295) % 4294967296 ≡ c = omega arith in
    ap number_of e ∙ number_pos c (omega arith)

pub none_listed : (w : List ℕ) (d : List ℤ) (n : ℕ) → Pushed d n (loop_warnings (tabulate 0 (listed_pair w))) d n
unfolding tabulate loop_warnings
none_listed w d n = pushed_none d n

-- how many warnings there are after i rows
pub counted : (w : List ℕ) (d₀ d : List ℤ) (n i count : ℕ) → Pushed d₀ n (loop_warnings (tabulate i (listed_pair w))) d count → count ≡ n + i
counted w d₀ d n i count s = omega (arith, s.count, loop_count (tabulate i (listed_pair w)), length_tabulate i (listed_pair w))

-- the pair of row k, which is listed i-th: its left number t, its right number y
pub one_more : (w : List ℕ) (r : ℕ) (d₀ d d₁ : List ℤ) (n i k t y count count₁ : ℕ) → Listing r w → i < r → r ≤ 65792 → n < 2147483648 → k ≡ at w i 8 →
    t ≡ at w k 0 → y ≡ at w k 1 →
    Pushed d₀ n (loop_warnings (tabulate i (listed_pair w))) d count →
    Pushed d count (warn_if (both true (ltb count 4294967296)) (warning 10 (number_of ((t + 4294967295) % 4294967296)) (number_of y) (number_of 0))) d₁ count₁ →
    Pushed d₀ n (loop_warnings (tabulate (i + 1) (listed_pair w))) d₁ count₁
unfolding tabulate
one_more w r d₀ d d₁ n i k t y count count₁ l h few small a b e s p =
    let left : number_of ((t + 4294967295) % 4294967296)
    ≡ left_number (left_of (at w (at w i 8) 0)) = left_word t (left_small w r i k t l h a b)
    ∙ ap (λ (z : ℕ). left_number (left_of z)) (b ∙ ap (λ (z : ℕ). at w z 0) a) in
    let right : number_of y ≡ pos (at w (at w i 8) 1) = ap number_of (e ∙ ap (λ (z : ℕ). at w z 1) a)
    ∙ number_pos (at w (at w i 8) 1) (omega (arith, l.right i h)) in
    let q = pushed_if d count true (warning 10 (number_of ((t + 4294967295) % 4294967296)) (number_of y) (number_of 0)) d₁ count₁
    (omega (arith, counted w d₀ d n i count s)) p in
    let both-said : warning 10 (number_of ((t + 4294967295) % 4294967296)) (number_of y) (number_of 0)
    ≡ warning 10 (left_number (listed_pair w i).left) (pos (listed_pair w i).right) (pos 0) = (λ j. warning 10 (left j) (right j) (pos 0)) in
    let x = subst (λ (ws : List ℤ). Pushed d count ws d₁ count₁) both-said q in
    let whole = pushed_append d₀ n (loop_warnings (tabulate i (listed_pair w))) d count _ d₁ count₁ s x in
    let done : loop_warnings (tabulate i (listed_pair w)) ++ warning 10 (left_number (listed_pair w i).left) (pos (listed_pair w i).right) (pos 0)
    ≡ loop_warnings (tabulate (i + 1) (listed_pair w)) = sym (last_warning (tabulate i (listed_pair w)) (listed_pair w i))
    ∙ ap (λ (z : ℕ). loop_warnings (tabulate z (listed_pair w))) (let o : suc i ≡ i + 1 = omega arith in o) in
    subst (λ (ws : List ℤ). Pushed d₀ n ws d₁ count₁) done whole

pub all_listed : (w : List ℕ) (r i : ℕ) (d₀ d : List ℤ) (n count : ℕ) → i ≤ r → r ≤ i → Pushed d₀ n (loop_warnings (tabulate i (listed_pair w))) d count →
    Pushed d₀ n (loop_warnings (tabulate r (listed_pair w))) d count
all_listed w r i d₀ d n count h l s =
    let a : i ≡ r = omega arith in
    subst (λ (z : ℕ). Pushed d₀ n (loop_warnings (tabulate z (listed_pair w))) d count) a s

-- ---- the contract, by what the search answers

pub if_refused : {A : Type 0} (k : ℕ) (x y : A) → (k ≡ 0 → ⊥) → if_taken k x y ≡ y
if_refused zero x y h = absurd (h refl)
if_refused (suc k) x y h = refl

-- a refusal, with the warnings as they came and the work all zeros
refuses : (f : Font) (n : ℕ) (d : List ℤ) (w w₁ : List ℕ) (k : ℕ) → k ≡ loop_search_refusal f n w → (k ≡ 0 → ⊥) → w₁ ≡ replicate (length w) 0 →
    WarnsLoops f n d w (Refused k) d w₁
refuses f n d w w₁ k e h z =
    let none = if_refused (loop_search_refusal f n w) (loop_warnings (loops_of_font f)) [] (λ o. h (e ∙ o)) in
    record { answer = refused_reply _ e h; warned = ap (λ (ws : List ℤ). sets d (4 * n) ws) (sym none); cleared = z }

module _ (f : Font) (n : ℕ) (d : List ℤ) (w w₁ : List ℕ) where
  -- 1 or 12
  pub unfit : (k : ℕ) → FindsLoopsBy f (min (length w / 16) (length w / 16)) w w₁ (walked.Refused k) → WarnsLoops f n d w (Refused k) d w₁
  unfit k p =
      let e : k ≡ prepare_refusal f (length w / 16) = sym p.0 ∙ ap (prepare_refusal f) (min_self (length w / 16)) in
      let h : k ≡ 0 → ⊥ = λ z. omega (arith, p.1) in
      refuses f n d w w₁ k (first_refusal _ e h) h p.2

  module _ (rows m r : ℕ) (b : Bool) (p : FindsLoopsBy f (min (length w / 16) (length w / 16)) w w₁ (walked.Rows rows m r b)) where
    pub few : r ≤ 65792
    few = omega (arith, p.4.few, p.4.encoded.ascending.few)

    fit : prepare_refusal f (length w / 16) ≡ 0
    fit = ap (prepare_refusal f) (sym (min_self (length w / 16))) ∙ p.0

    -- the search leaves its rows, which are zeroed
    zeroed : {w₂ : List ℕ} → w₂ ≡ replicate (length w₁) 0 → w₂ ≡ replicate (length w) 0
    zeroed z = z ∙ ap (λ (x : ℕ). replicate x 0) p.1

    -- 15
    pub too_many : (w₂ : List ℕ) → 2147483647 < n → w₂ ≡ replicate (length w₁) 0 → WarnsLoops f n d w (Refused 15) d w₂
    too_many w₂ h z =
        let e : loop_search_refusal f n w ≡ 15 = rw (fit, le-ltb n 2147483648 (omega arith)) in
        refuses f n d w w₂ 15 (sym e) (λ o. omega (arith, o)) (zeroed z)

    pub listed : (d₁ : List ℤ) (w₂ : List ℕ) (t : ℕ) → n < 2147483648 → Pushed d n (loop_warnings (tabulate r (listed_pair w₁))) d₁ t →
        w₂ ≡ replicate (length w₁) 0 → WarnsLoops f n d w (Count t) d₁ w₂
    listed d₁ w₂ t h s z =
        let e : loop_search_refusal f n w ≡ 0 = rw (fit, lt-ltb n 2147483648 h) in
        let c : t ≡ n + length (loops_of_font f) = counted w₁ d d₁ n r t s
        ∙ ap (λ (x : ℕ). n + x) (sym (length_tabulate r (listed_pair w₁)) ∙ ap length p.4.loops_are) in
        record {
          answer = ap (λ (x : ℕ). reply_of 0 (pos x ∷ [])) c ∙ taken_reply _ e;
          warned =
              s.list ∙ ap (λ (ps : List Pair). sets d (4 * n) (loop_warnings ps)) p.4.loops_are
              ∙ ap (λ (x : ℕ). sets d (4 * n) (if_taken x (loop_warnings (loops_of_font f)) [])) (sym e);
          cleared = zeroed z;
        }
