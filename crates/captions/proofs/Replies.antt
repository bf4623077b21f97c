-- Each reply determines its answer, since the answer can be read back from it; so the contracts of begin and step say the same as equations with
-- `beginOf` and `step_of`. And the reply to a question, from the number of the refusal.
-- Assumes nothing.
use mathlib.Core.Path.{◌≡◌, refl, sym, ap, ◌∙◌}
use mathlib.Core.Bool.{Bool, true, false}
use mathlib.Core.List.{List, [], ◌∷◌}
use Prim.Native.Nat.{ℕ, zero, suc}
use lib.IntN.{ℤ, pos, negsuc}
use lib.ListN.{get_or}
use Rattle.lang.specs.Answers.{Reply, reply_of}
use Rattle.captions.specs.declared.RunOptions.{RunOptions}
use Rattle.captions.specs.declared.NextLeft.{NextLeft}
use Rattle.captions.specs.declared.NextLeft.TheVariants as next
use Rattle.captions.specs.declared.Consumes.{Consumes}
use Rattle.captions.specs.declared.Consumes.TheVariants as consumes
use Rattle.captions.specs.declared.State.{State}
use Rattle.captions.specs.declared.Step.{Step}
use Rattle.captions.specs.declared.Begun.{Begun}
use Rattle.captions.specs.declared.Begun.TheVariants as begun
use Rattle.captions.specs.declared.Answer.{Answer}
use Rattle.captions.specs.declared.Answer.TheVariants.{Char, Ligature, Kern, End, Refused}
use Rattle.captions.specs.declared.Told.{Told}
use Rattle.captions.specs.declared.Told.TheVariants as told
use Rattle.captions.specs.Replies.{bit_number, next_kind, next_code, consumes_number, state_numbers, begun_reply, answer_reply, is_end, told_reply}
use Rattle.captions.specs.Begin.{begin_refusal, fresh_state, begun_by, begin_of, begin_reply}
use Rattle.captions.specs.Steps.{step_of, Stepped}

-- ---- the numbers of a state, read back

abbrev natural : ℤ → ℕ
natural (pos n) = n
natural (negsuc n) = 0

abbrev place : List ℤ → ℕ → ℕ
place vs i = natural (get_or vs i (pos 0))

abbrev bit_back : ℕ → Bool
bit_back zero = false
bit_back (suc n) = true

abbrev next_back : ℕ → ℕ → NextLeft
next_back zero c = next.Boundary
next_back (suc zero) c = next.Char c
next_back (suc (suc zero)) c = next.Lig c
next_back (suc (suc (suc zero))) c = next.FinalLig c
next_back (suc (suc (suc (suc n)))) c = next.None

abbrev consumes_back : ℕ → Consumes
consumes_back zero = consumes.Nothing
consumes_back (suc zero) = consumes.Letter
consumes_back (suc (suc n)) = consumes.Boundary

abbrev state_back : List ℤ → State
state_back vs =
    record {
      next_left = next_back (place vs 0) (place vs 1);
      op = place vs 2;
      ops = place vs 3;
      read = place vs 4;
      given = place vs 5;
      pending = place vs 6;
      pending_boundary = bit_back (place vs 7);
      consumes_left = consumes_back (place vs 8);
    }

bit_back_lem : (b : Bool) → bit_back (natural (bit_number b)) ≡ b
bit_back_lem true = refl
bit_back_lem false = refl

next_back_lem : (x : NextLeft) → next_back (next_kind x) (next_code x) ≡ x
next_back_lem next.Boundary = refl
next_back_lem (next.Char c) = refl
next_back_lem (next.Lig c) = refl
next_back_lem (next.FinalLig c) = refl
next_back_lem next.None = refl

consumes_back_lem : (x : Consumes) → consumes_back (consumes_number x) ≡ x
consumes_back_lem consumes.Nothing = refl
consumes_back_lem consumes.Letter = refl
consumes_back_lem consumes.Boundary = refl

state_back_lem : (s : State) → state_back (state_numbers s) ≡ s
state_back_lem s i =
    record {
      next_left = next_back_lem s.next_left i;
      op = s.op;
      ops = s.ops;
      read = s.read;
      given = s.given;
      pending = s.pending;
      pending_boundary = bit_back_lem s.pending_boundary i;
      consumes_left = consumes_back_lem s.consumes_left i;
    }

-- ---- begin

abbrev begun_from : ℕ → List ℤ → Begun
begun_from n [] = begun.Refused n
begun_from n (v ∷ vs) = begun.Run (state_back (v ∷ vs))

abbrev begun_back : Reply → Begun
begun_back r = begun_from r.number r.values

begun_back_lem : (a : Begun) → begun_back (begun_reply a) ≡ a
begun_back_lem (begun.Run s) = ap begun.Run (state_back_lem s)
begun_back_lem (begun.Refused n) = refl

pub begun_determined : (a b : Begun) → begun_reply a ≡ begun_reply b → a ≡ b
begun_determined a b e = sym (begun_back_lem a) ∙ ap begun_back e ∙ begun_back_lem b

begun_reply_lem : (n : ℕ) (s : State) → begun_reply (begun_by n s) ≡ reply_of n (state_numbers s)
begun_reply_lem zero s = refl
begun_reply_lem (suc n) s = refl

-- what meets the contract of begin is `beginOf`
pub begin_is : (pairs ops : List ℤ) (boundary : ℤ) (word : List ℕ) (options : RunOptions) (r : Begun) →
    begun_reply r ≡ begin_reply pairs ops boundary word options → r ≡ begin_of pairs ops boundary word options
begin_is pairs ops boundary word options r e =
    begun_determined r (begin_of pairs ops boundary word options)
    (e ∙ sym (begun_reply_lem (begin_refusal pairs ops boundary word options) (fresh_state word options)))

-- ---- step

abbrev item_back : ℕ → List ℤ → Answer
item_back zero vs = Char (place vs 0) (place vs 1)
item_back (suc zero) vs = Ligature (place vs 0) (place vs 1) (place vs 2) (bit_back (place vs 3)) (bit_back (place vs 4))
item_back (suc (suc n)) vs = Kern (get_or vs 0 (pos 0))

abbrev answer_from : Bool → ℕ → List ℤ → Answer
answer_from true n vs = End
answer_from false n [] = Refused n
answer_from false n (v ∷ vs) = item_back (natural v) vs

abbrev answer_back : Bool → Reply → Answer
answer_back b r = answer_from b r.number r.values

answer_back_lem : (a : Answer) → answer_back (is_end a) (answer_reply a) ≡ a
answer_back_lem (Char c start) = refl
answer_back_lem (Ligature c start n left right) = λ i. Ligature c start n (bit_back_lem left i) (bit_back_lem right i)
answer_back_lem (Kern k) = refl
answer_back_lem End = refl
answer_back_lem (Refused n) = refl

pub answer_determined : (a b : Answer) → answer_reply a ≡ answer_reply b → is_end a ≡ is_end b → a ≡ b
answer_determined a b e f = sym (answer_back_lem a) ∙ (λ i. answer_back (f i) (e i)) ∙ answer_back_lem b

module _ (pairs ops : List ℤ) (boundary : ℤ) (word : List ℕ) (options : RunOptions) (s : State) {r : Step} where
  -- what meets the contract of step is `step_of`
  pub stepped_is : Stepped pairs ops boundary word options s r → r ≡ step_of pairs ops boundary word options s
  stepped_is h i =
      record { answer = answer_determined r.answer (step_of pairs ops boundary word options s).answer h.reply h.ends i; state = h.state i }

  pub stepped_as : r ≡ step_of pairs ops boundary word options s → Stepped pairs ops boundary word options s r
  stepped_as e =
      record { reply = ap (λ (t : Step). answer_reply t.answer) e; ends = ap (λ (t : Step). is_end t.answer) e; state = ap (λ (t : Step). t.state) e }

-- ---- a question

abbrev told_from : ℕ → List ℤ → Told
told_from n [] = told.Refused n
told_from n (v ∷ vs) = told.Is (bit_back (natural v))

abbrev told_back : Reply → Told
told_back r = told_from r.number r.values

told_back_lem : (a : Told) → told_back (told_reply a) ≡ a
told_back_lem (told.Is b) = ap told.Is (bit_back_lem b)
told_back_lem (told.Refused n) = refl

pub told_determined : (a b : Told) → told_reply a ≡ told_reply b → a ≡ b
told_determined a b e = sym (told_back_lem a) ∙ ap told_back e ∙ told_back_lem b

-- the reply to a question that is refused, and to one that is taken
pub told_refused : (n r : ℕ) (vs : List ℤ) → n ≡ r → (n ≡ 0 → ⊥) → told_reply (told.Refused n) ≡ reply_of r vs
told_refused zero r vs e h = absurd (h refl)
told_refused (suc n) r vs e h = rw (← e)

pub told_is : (n r : ℕ) (a b : Bool) → n ≡ r → n ≡ 0 → a ≡ b → told_reply (told.Is a) ≡ reply_of r (bit_number b ∷ [])
told_is n r a b e z q = rw (← e, z, q)
