-- Laws of chains: indices ascend, so that the count of instructions is enough of a bound on a chain's length (`chain-whole`); a step of a walk,
-- and what is left of the chain after it.
-- Assumes nothing.
use mathlib.Core.Path.{◌≡◌, refl, sym, ap, ◌∙◌}
use mathlib.Core.Bool.{Bool, true, false, cond}
use mathlib.Core.List.{List, [], ◌∷◌, ◌++◌, append_assoc, append-nil}
use mathlib.Core.Option.{some}
use Prim.Native.Nat.{ℕ, zero, suc, ◌+◌, ◌<◌, ◌≤◌}
use native.Mathlib.Omega.{arith}
use lib.Dec.{ltb}
use lib.IntN.{ℤ}
use lib.ListN.{length, set, length-append}
use borrow.Author.Tests.{lt-ltb, le-ltb, ltb-true, ltb-false}
use Rattle.std.specs.Prelude.{Option, None, Some}
use Rattle.words.specs.Lists.{Appending}
use Rattle.words.proofs.Lists.{appending_none, appending_length, appending_one}
use Rattle.lang.specs.Records.{count, instruction_at}
use Rattle.program_chain.specs.Chains.{Program, onward_from, step_at, chain_from, chain, is_rule_for, first_for, rule_index, found, chain_of}

-- a chain goes on past its index
pub onward_ascends : (n : ℕ) (x : Option ℕ) (i : ℕ) → i < n → i < onward_from n x i
onward_ascends n None i h = h
onward_ascends n (Some k) i h = omega arith

-- past the end nothing is left
pub chain_past : (most n : ℕ) (program : Program) (i : ℕ) → n ≤ i → chain_from most n program i ≡ []
unfolding chain_from
chain_past zero n program i h = refl
chain_past (suc most) n program i h = rw (le-ltb i n h)

-- a test may be taken to pass where what it guards is compared
under {ℓ} : {A : Type ℓ} (t : Bool) (x y z : A) → (t ≡ true → x ≡ y) → cond t x z ≡ cond t y z
under true x y z h = h refl
under false x y z h = refl

-- two bounds that are enough give the same chain
enough : (a b n : ℕ) (program : Program) (i : ℕ) → n ≤ i + a → n ≤ i + b → chain_from a n program i ≡ chain_from b n program i
unfolding chain_from
enough zero b n program i h k = chain_past zero n program i (omega arith) ∙ sym (chain_past b n program i (omega arith))
enough (suc a) zero n program i h k = chain_past (suc a) n program i (omega arith) ∙ sym (chain_past zero n program i (omega arith))
enough (suc a) (suc b) n program i h k =
    under (ltb i n) _ _ []
    (λ e.
    let o = onward_ascends n (program i).next_instruction i (ltb-true i n e) in
    ap (λ (is : List ℕ). i ∷ is) (enough a b n program (onward_from n (program i).next_instruction i) (omega arith) (omega arith)))

-- any bound that reaches the end gives the whole chain
pub chain_whole : (n : ℕ) (program : Program) (i : ℕ) (most : ℕ) → n ≤ i + most → chain_from most n program i ≡ chain n program i
chain_whole n program i most h = enough most n n program i h (omega arith)

-- inside, a chain is its index and the chain from where it goes on
pub chain_step : (n : ℕ) (program : Program) (i : ℕ) → i < n → chain n program i ≡ i ∷ chain n program (onward_from n (program i).next_instruction i)
unfolding chain_from
chain_step zero program i h = absurd (omega arith)
chain_step (suc n) program i h =
    let o = onward_ascends (suc n) (program i).next_instruction i h in
    rw (lt-ltb i (suc n) h)
    (ap (λ (is : List ℕ). i ∷ is) (chain_whole (suc n) program (onward_from (suc n) (program i).next_instruction i) n (omega arith)))

pub chain_end : (n : ℕ) (program : Program) (i : ℕ) → n ≤ i → chain n program i ≡ []
chain_end n program i h = chain_past n n program i h

-- no chain is longer than its bound
bounded : (t : Bool) (i m : ℕ) (is : List ℕ) → length is ≤ m → length (cond t (i ∷ is) []) ≤ suc m
bounded true i m is h = omega arith
bounded false i m is h = omega arith

pub length_chain : (most n : ℕ) (program : Program) (i : ℕ) → length (chain_from most n program i) ≤ most
unfolding chain_from
length_chain zero n program i = omega arith
length_chain (suc most) n program i = bounded (ltb i n) i most _ (length_chain most n program (onward_from n (program i).next_instruction i))

-- ---- a step of a walk

-- inside, a step goes where the instruction says
pub step_to : (n : ℕ) (program : Program) (at : ℕ) (x : Option ℕ) → at < n → (program at).next_instruction ≡ x →
    Some (at, onward_from n x at) ≡ step_at n program at
step_to n program at x h e = rw (lt-ltb at n h, e)

-- a step from index `at` that goes on: it is at that index, moves ahead, and the chain is the index and what is left
pub record Stepped (n : ℕ) (program : Program) (at i on : ℕ) : Type 0 where
  pub here : i ≡ at
  pub inside : at < n
  pub ahead : at < on
  pub rest : chain n program at ≡ at ∷ chain n program on

stepped_by : (t : Bool) (n : ℕ) (program : Program) (at i on : ℕ) → ltb at n ≡ t →
    cond {A = Option (ℕ × ℕ)} t (Some (at, onward_from n (program at).next_instruction at)) None ≡ Some (i, on) → Stepped n program at i on
stepped_by true n program at i on e h =
    let l = ltb-true at n e in
    let p : ◌≡◌ {A = ℕ × ℕ} (at, onward_from n (program at).next_instruction at) (i, on) = cc in
    let o : onward_from n (program at).next_instruction at ≡ on = ap (λ (x : ℕ × ℕ). x.1) p in
    record {
      here = sym (ap (λ (x : ℕ × ℕ). x.0) p);
      inside = l;
      ahead = rw o at (onward_ascends n (program at).next_instruction at l);
      rest = rw o at (chain_step n program at l);
    }
stepped_by false n program at i on e h = absurd (let z : ◌≡◌ {A = ℕ} 0 1 = cc in omega arith)

pub step_on : (n : ℕ) (program : Program) (at i on : ℕ) → step_at n program at ≡ Some (i, on) → Stepped n program at i on
step_on n program at i on h = stepped_by (ltb at n) n program at i on refl h

ended_by : (t : Bool) (n : ℕ) (program : Program) (at : ℕ) → ltb at n ≡ t → cond {A = Option (ℕ × ℕ)} t (Some (at, onward_from n (program at).next_instruction at)) None ≡ None →
    chain n program at ≡ []
ended_by true n program at e h = absurd (let z : ◌≡◌ {A = ℕ} 0 1 = cc in omega arith)
ended_by false n program at e h = chain_end n program at (ltb-false at n e)

pub step_end : (n : ℕ) (program : Program) (at : ℕ) → step_at n program at ≡ None → chain n program at ≡ []
step_end n program at h = ended_by (ltb at n) n program at refl h

-- ---- the rule of a right character

pub first_here : (program : Program) (right i : ℕ) (is : List ℕ) → is_rule_for right (program i) ≡ true → first_for program right (i ∷ is) ≡ some i
unfolding first_for
first_here program right i is e = rw e

pub first_later : (program : Program) (right i : ℕ) (is : List ℕ) → is_rule_for right (program i) ≡ false →
    first_for program right (i ∷ is) ≡ first_for program right is
unfolding first_for
first_later program right i is e = rw e

-- a walk from an entry that has come to index `at`, where the rule of the chain from there is the entry's
module _ (n : ℕ) (program : Program) (right entry at : ℕ) where
  pub rule_here : (i on : ℕ) → Stepped n program at i on → first_for program right (chain n program at) ≡ rule_index n program entry right →
      is_rule_for right (program i) ≡ true → Some i ≡ found (rule_index n program entry right)
  rule_here i on step inv e =
      let left : first_for program right (i ∷ chain n program on) ≡ rule_index n program entry right = rw (step.here, ← step.rest) inv in
      ap found (sym (first_here program right i (chain n program on) e) ∙ left)

  pub rule_later : (i on : ℕ) → Stepped n program at i on → first_for program right (chain n program at) ≡ rule_index n program entry right →
      is_rule_for right (program i) ≡ false → first_for program right (chain n program on) ≡ rule_index n program entry right
  rule_later i on step inv e =
      sym (first_later program right i (chain n program on) e) ∙ rw (step.here, ← step.rest) inv

  pub rule_nowhere : chain n program at ≡ [] → first_for program right (chain n program at) ≡ rule_index n program entry right →
      None ≡ found (rule_index n program entry right)
  unfolding first_for
  rule_nowhere e inv = ap found (sym (ap (first_for program right) e) ∙ inv)

-- ---- a walk into a list

-- the n indices of the chain before `at` are written at the front of a list
pub record Walking (s : List ℤ) (entry : ℕ) (out₀ out : List ℕ) (n at : ℕ) : Type 0 where
  pub done : List ℕ
  pub reached : n ≡ length done
  pub split : done ++ chain_of s at ≡ chain_of s entry
  pub written : Appending done out₀ out

pub walking_none : (s : List ℤ) (entry : ℕ) (out : List ℕ) → Walking s entry out out 0 entry
walking_none s entry out = record { done = []; reached = refl; split = refl; written = appending_none out }

module _ {s : List ℤ} {entry : ℕ} {out₀ out : List ℕ} {n at : ℕ} where
  pub walking_length : Walking s entry out₀ out n at → length out ≡ length out₀
  walking_length h = appending_length out₀ h.written

  pub walking_room : {i on : ℕ} → Stepped (count s) (instruction_at s) at i on → Walking s entry out₀ out n at → length (chain_of s entry) ≤ length out₀ →
      n < length out
  walking_room step h l =
      omega (arith, walking_length h, h.reached, ap length step.rest, simp length-append at (ap length h.split))

  pub walking_more : {i on : ℕ} → Stepped (count s) (instruction_at s) at i on → Walking s entry out₀ out n at → n < length out →
      Walking s entry out₀ (set out n i) (n + 1) on
  walking_more {i} {on} step h l =
      record {
        done = h.done ++ (i ∷ []);
        reached = simp length-append (ap (λ (k : ℕ). k + 1) h.reached);
        split = append_assoc h.done (i ∷ []) (chain_of s on) ∙ rw (step.here, ← step.rest) h.split;
        written = rw h.reached (appending_one out₀ i h.written (rw h.reached at l));
      }

  pub walking_all : Walking s entry out₀ out n at → chain_of s at ≡ [] → (n ≡ length (chain_of s entry)) × Appending (chain_of s entry) out₀ out
  walking_all h e =
      let whole : h.done ≡ chain_of s entry = sym (append-nil h.done) ∙ rw (← e) h.split in
      (h.reached ∙ ap length whole, rw whole at h.written)
