-- What an item and an op give, by the tests of the code. Assumes nothing.
use mathlib.Core.Path.{◌≡◌, ap}
use mathlib.Core.Bool.{Bool, true, false}
use mathlib.Core.List.{List}
use Prim.Native.Nat.{ℕ, suc, ◌+◌, ◌<◌, ◌≤◌}
use native.Mathlib.Omega.{arith}
use lib.IntN.{ℤ}
use lib.Dec.{ltb, eqb}
use borrow.Author.Tests.{ltb-true, le-leb, lt-leb, eq-eqb, ne_eqb}
use Rattle.words.specs.Words.{word_of}
use Rattle.lang.proofs.Every.{both_left}
use Rattle.captions.specs.declared.State.{State}
use Rattle.captions.specs.declared.Answer.{Answer}
use Rattle.captions.specs.declared.Answer.TheVariants.{Char, Ligature, Kern}
use Rattle.captions.specs.declared.Step.{Step}
use Rattle.captions.specs.Tables.{op_count, op_kind, op_value, op_holds, op_fits}
use Rattle.captions.specs.Steps.{refused, taken, takes_boundary, settled, give_item, give_character, give_ligature, after_op, is_none, ends_word, give_op, ops_fit}
use Rattle.captions.specs.Steps.{read_op}

-- ---- giving an item

pub item_refused : (a : Answer) (n : ℕ) (s : State) → s.read < s.given + n → give_item a n s ≡ refused 7 s
item_refused a n s h = rw (lt-leb (s.given + n) s.read h)

pub item_given : (a : Answer) (n : ℕ) (s : State) → s.given + n ≤ s.read → give_item a n s ≡ record { answer = a; state = settled n s }
item_given a n s h = rw (le-leb (s.given + n) s.read h)

pub character_plain : (c : ℕ) (s : State) → s.pending ≡ 0 → give_character c s ≡ give_item (Char c s.given) 1 s
character_plain c s h = rw (eq-eqb s.pending 0 h)

pub character_pending : (c : ℕ) (s : State) → (s.pending ≡ 0 → ⊥) →
    give_character c s ≡ give_item (Ligature c s.given s.pending s.pending_boundary false) s.pending s
character_pending c s h = rw (ne_eqb s.pending 0 h)

pub ligature_refused : (c : ℕ) (right : Bool) (s : State) → s.read < taken s → give_ligature c right s ≡ refused 7 s
ligature_refused c right s h = item_refused (Ligature c s.given (taken s) (takes_boundary s) right) (taken s) s (omega arith)

-- a step that leaves one state leaves another name of it
pub step_with_lem : (a : Answer) {t u : State} → t ≡ u → ◌≡◌ {A = Step} (record { answer = a; state = t }) (record { answer = a; state = u })
step_with_lem a e = ap (λ (x : State). record { answer = a; state = x }) e

-- ---- ops

module _ (ops : List ℤ) (s : State) where
  pub ends_later : is_none s.next_left ≡ false → ends_word ops s ≡ false
  ends_later h = rw h

  pub ends_here : is_none s.next_left ≡ true → s.ops ≡ 0 → ends_word ops s ≡ true
  ends_here h e = rw (h, eq-eqb s.ops 0 e)

  pub ends_many : is_none s.next_left ≡ true → (s.ops ≡ 0 → ⊥) → (s.ops ≡ 1 → ⊥) → ends_word ops s ≡ false
  ends_many h n m = rw (h, ne_eqb s.ops 0 n, ne_eqb s.ops 1 m)

  pub ends_kern : is_none s.next_left ≡ true → (s.ops ≡ 0 → ⊥) → s.ops ≡ 1 → ends_word ops s ≡ eqb (word_of (op_kind ops s.op)) 2
  ends_kern h n e = rw (h, ne_eqb s.ops 0 n, eq-eqb s.ops 1 e)

  pub op_character : word_of (op_kind ops s.op) ≡ 0 → give_op ops s ≡ give_character (word_of (op_value ops s.op)) (after_op s)
  op_character e = rw (eq-eqb (word_of (op_kind ops s.op)) 0 e)

  pub op_ligature : (word_of (op_kind ops s.op) ≡ 0 → ⊥) → word_of (op_kind ops s.op) ≡ 1 →
      give_op ops s ≡ give_ligature (word_of (op_value ops s.op)) (ends_word ops (after_op s)) (after_op s)
  op_ligature n e = rw (ne_eqb (word_of (op_kind ops s.op)) 0 n, eq-eqb (word_of (op_kind ops s.op)) 1 e)

  pub op_kern : (word_of (op_kind ops s.op) ≡ 0 → ⊥) → (word_of (op_kind ops s.op) ≡ 1 → ⊥) →
      give_op ops s ≡ record { answer = Kern (op_value ops s.op); state = after_op s }
  op_kern n m = rw (ne_eqb (word_of (op_kind ops s.op)) 0 n, ne_eqb (word_of (op_kind ops s.op)) 1 m)

  -- an op that fits is there
  pub fit_there : (i : ℕ) → op_fits ops i ≡ true → i < op_count ops
  fit_there i h = ltb-true i (op_count ops) (both_left (ltb i (op_count ops)) (op_holds ops i) h)

  pub all_there : ops_fit ops s ≡ true → s.op < op_count ops
  all_there h = fit_there s.op (both_left (op_fits ops s.op) _ h)

  pub fit_not : op_fits ops s.op ≡ false → ops_fit ops s ≡ false
  fit_not h = rw h

  pub fit_one : op_fits ops s.op ≡ true → s.ops < 2 → ops_fit ops s ≡ true
  fit_one h l = rw (h, lt-leb 2 s.ops l)

  pub fit_two : op_fits ops s.op ≡ true → 2 ≤ s.ops → ops_fit ops s ≡ op_fits ops (suc s.op)
  fit_two h l = rw (h, le-leb 2 s.ops l)

  pub op_fit : ops_fit ops s ≡ true → read_op ops s ≡ give_op ops s
  op_fit h = rw h

  pub op_unfit : ops_fit ops s ≡ false → read_op ops s ≡ refused 7 s
  op_unfit h = rw h
