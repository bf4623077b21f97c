-- The items of a run over a table of the form: it gives items, and then the end for ever.
-- Assumes nothing.
use mathlib.Core.Path.{◌≡◌, refl, sym, ap, subst, ◌∙◌}
use mathlib.Core.Bool.{true, false}
use mathlib.Core.List.{List, [], ◌∷◌}
use Prim.Native.Nat.{ℕ, zero, suc, ◌+◌, ◌<◌, ◌≤◌}
use native.Mathlib.Omega.{arith}
use lib.IntN.{ℤ}
use lib.Dec.{leb}
use lib.ListN.{length, get_or, drop, replicate}
use borrow.Author.Tests.{leb-true}
use Rattle.lang.specs.Every.{every}
use Rattle.lang.specs.Records.{absent_or}
use Rattle.lang.specs.Checks.{absent_refusal, is_letter}
use Rattle.lang.proofs.Every.{every_none, every_all, every_at}
use Rattle.lang.proofs.Refusals.{unless_none}
use Rattle.lang.proofs.Checks.{letter_low}
use Rattle.captions.specs.declared.State.{State}
use Rattle.captions.specs.declared.Answer.{Answer}
use Rattle.captions.specs.declared.Answer.TheVariants.{Char, Ligature, Kern, End, Refused}
use Rattle.captions.specs.declared.Step.{Step}
use Rattle.captions.specs.declared.Begun.TheVariants.{Run}
use Rattle.captions.specs.Replies.{is_end}
use Rattle.captions.specs.Form.{table_refusal}
use Rattle.captions.specs.Begin.{begun_by, begin_refusal, fresh_state, plain_options}
use Rattle.captions.specs.Steps.{step_of}
use Rattle.captions.specs.Runs.{answers}
use Rattle.captions.specs.Demand3.{Caption}
use Rattle.captions.specs.Letters.{state_after, answer_after, NoLetterLost}
use Rattle.captions.proofs.Ending.{end_stays}
use Rattle.captions.proofs.Theorems.{every_formed_table}
use Rattle.chips.specs.Commands.{answer_number}
use Rattle.chips.specs.Purpose.{items_then_end, gives_item, RunGives, WordGives}

-- ---- items, and then the end

no_more : (n : ℕ) → items_then_end n [] ≡ replicate n End
unfolding items_then_end
no_more zero = refl
no_more (suc n) = ap (λ (l : List Answer). End ∷ l) (no_more n)

all_items : (i : Answer) (items : List Answer) → gives_item i ≡ true → every (length items) (λ k. gives_item (get_or items k End)) ≡ true →
    every (length (i ∷ items)) (λ k. gives_item (get_or (i ∷ items) k End)) ≡ true
all_items i items h e = every_all (suc (length items)) (λ k. gives_item (get_or (i ∷ items) k End)) go
  where
    go : (k : ℕ) → k < suc (length items) → gives_item (get_or (i ∷ items) k End) ≡ true
    go zero l = h
    go (suc k) l = every_at (length items) k (λ k. gives_item (get_or items k End)) e (omega (arith, l))

module _ (pairs ops : List ℤ) (boundary : ℤ) (word : List ℕ) where
  -- a run with its items
  pub record Given (s : State) : Type 0 where
    pub items : List Answer
    pub gives : RunGives pairs ops boundary word s items

  abbrev NeverRefused : State → Type 0
  NeverRefused s = (n k : ℕ) → answer_after pairs ops boundary word plain_options n s ≡ Refused k → ⊥

  abbrev next : State → Step
  next s = step_of pairs ops boundary word plain_options s

  -- over at once
  ended : (s : State) → (next s).answer ≡ End → Given s
  unfolding answers items_then_end
  ended s e = record { items = []; gives = record { answered = go; only_items = every_none (λ k. gives_item (get_or [] k End)) } }
    where
      go : (n : ℕ) → answers pairs ops boundary word plain_options n s ≡ items_then_end n []
      go zero = refl
      go (suc n) =
          (λ j. e j ∷ (end_stays pairs ops boundary word plain_options s e).1 n j) ∙ ap (λ (l : List Answer). End ∷ l) (sym (no_more n))

  -- an item, and a run after it
  one_item : (s : State) (i : Answer) → (next s).answer ≡ i → gives_item i ≡ true → Given (next s).state → Given s
  unfolding answers items_then_end
  one_item s i e h g =
      record {
        items = i ∷ g.items;
        gives = record { answered = go; only_items = all_items i g.items h g.gives.only_items };
      }
    where
      go : (n : ℕ) → answers pairs ops boundary word plain_options n s ≡ items_then_end n (i ∷ g.items)
      go zero = refl
      go (suc n) = λ j. e j ∷ g.gives.answered n j

  by_answer : (s : State) (a : Answer) → (next s).answer ≡ a → ((k : ℕ) → a ≡ Refused k → ⊥) → Given (next s).state → Given s
  by_answer s (Char c p) e h g = one_item s (Char c p) e refl g
  by_answer s (Ligature c p n a b) e h g = one_item s (Ligature c p n a b) e refl g
  by_answer s (Kern v) e h g = one_item s (Kern v) e refl g
  by_answer s End e h g = ended s e
  by_answer s (Refused n) e h g = absurd (h n refl)

  -- never refused, and over after m steps
  runs : (m : ℕ) (s : State) → NeverRefused s → answer_after pairs ops boundary word plain_options m s ≡ End → Given s
  unfolding state_after
  runs zero s h e = ended s e
  runs (suc m) s h e = by_answer s (next s).answer refl (h 0) (runs m (next s).state (λ n k. h (suc n) k) e)

  -- ---- the word of a chip

  fresh_by : (n : ℕ) (s t : State) → begun_by n s ≡ Run t → t ≡ s
  fresh_by zero s t e = cc
  fresh_by (suc n) s t e = absurd (let z : ◌≡◌ {A = ℕ} 0 1 = cc in omega arith)

  -- its items: those of the run that begin gives for it, which is the run that begin gives for no letters
  pub record Worded : Type 0 where
    pub items : List Answer
    pub whole : WordGives pairs ops boundary word items
    pub run : RunGives pairs ops boundary word (fresh_state [] plain_options) items

  pub word_gives : table_refusal pairs ops ≡ 0 → absent_refusal 255 boundary ≡ 0 → length word ≤ 64 →
      every (length word) (λ i. leb (get_or word i 0) 255) ≡ true → Worded
  word_gives table edge few low =
      let f = unless_none 3 (absent_or 255 boundary) edge in
      let n : NoLetterLost pairs ops boundary word plain_options = every_formed_table pairs ops boundary table f word plain_options caption in
      let g = runs (n.steps + 0) n.start n.not_refused (n.then_end 0) in
      let r = begin_refusal pairs ops boundary word plain_options in
      let e : n.start ≡ fresh_state [] plain_options = fresh_by r (fresh_state word plain_options) n.start n.begins in
      record {
        items = g.items;
        whole = record { start = n.start; begins = n.begins; gives = g.gives };
        run = subst (λ (s : State). RunGives pairs ops boundary word s g.items) e g.gives;
      }
    where
      caption : Caption word plain_options
      caption =
          record {
            override_fits_lem = refl;
            letters_fit = every_all (length word) (λ i. is_letter (get_or word i 0)) (λ i h. letter_low (get_or word i 0)
                (omega (arith, leb-true (get_or word i 0) 255 (every_at (length word) i (λ i. leb (get_or word i 0) 255) low h))));
            word_fits = omega (arith, few);
          }

  -- ---- one step of a run

  module _ {s : State} where
    pub last_answer : RunGives pairs ops boundary word s [] → (next s).answer ≡ End
    unfolding answers items_then_end
    last_answer g = ap (λ (l : List Answer). get_or l 0 End) (g.answered 1)

    module _ {i : Answer} {items : List Answer} (g : RunGives pairs ops boundary word s (i ∷ items)) where
      pub item_answer : (next s).answer ≡ i
      unfolding answers items_then_end
      item_answer = ap (λ (l : List Answer). get_or l 0 End) (g.answered 1)

      pub is_item_lem : gives_item i ≡ true
      is_item_lem = every_at (suc (length items)) 0 (λ k. gives_item (get_or (i ∷ items) k End)) g.only_items (omega arith)

      pub others : RunGives pairs ops boundary word (next s).state items
      unfolding answers items_then_end
      others =
          record {
            answered = λ n. ap (λ (l : List Answer). drop 1 l) (g.answered (suc n));
            only_items = every_all (length items) (λ k. gives_item (get_or items k End))
                (λ k h. every_at (suc (length items)) (suc k) (λ k. gives_item (get_or (i ∷ items) k End)) g.only_items (omega (arith, h)));
          }

-- ---- an item, by what it is

pub item_ready_lem : (i : Answer) → gives_item i ≡ true → is_end i ≡ false
item_ready_lem (Char c p) h = refl
item_ready_lem (Ligature c p n a b) h = refl
item_ready_lem (Kern v) h = refl
item_ready_lem End h = absurd (let z : ◌≡◌ {A = ℕ} 0 1 = cc in omega arith)
item_ready_lem (Refused n) h = absurd (let z : ◌≡◌ {A = ℕ} 0 1 = cc in omega arith)

pub item_number : (i : Answer) → gives_item i ≡ true → answer_number i ≡ 0
item_number (Char c p) h = refl
item_number (Ligature c p n a b) h = refl
item_number (Kern v) h = refl
item_number End h = refl
item_number (Refused n) h = absurd (let z : ◌≡◌ {A = ℕ} 0 1 = cc in omega arith)
