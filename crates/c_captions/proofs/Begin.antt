-- A fresh run whose state stands in a list: refused by begin, or by 15, or taken.
-- Assumes nothing.
use mathlib.Core.Path.{◌≡◌, refl, sym, ap, ◌∙◌}
use mathlib.Core.List.{List, ◌++◌}
use mathlib.Core.Option.{some}
use Prim.Native.Nat.{ℕ, zero, suc}
use native.Mathlib.Omega.{arith}
use lib.IntN.{ℤ}
use lib.ListN.{length, drop, replicate}
use Rattle.words.proofs.Lists.{drop_replicate}
use Rattle.lang.specs.Checks.{lower}
use Rattle.lang.specs.Answers.{room_refusal, list_of}
use Rattle.lang.proofs.Refusals.{lower_some}
use Rattle.lang.proofs.Filled.{refused_list}
use Rattle.captions.specs.declared.RunOptions.{RunOptions}
use Rattle.captions.specs.declared.State.{State}
use Rattle.captions.specs.declared.Begun.TheVariants.{Run, Refused}
use Rattle.captions.specs.Begin.{begin_refusal, fresh_state, begun_by, begin_of}
use Rattle.c_states.specs.States.{numbers_of, state_read, moved_to, PutsState}
use Rattle.c_captions.specs.Begin.{begin_number, BeginsRun}
use Rattle.c_states.proofs.Writing.{zeroed_length}
use Rattle.c_states.proofs.ReadBack.{read_back}

pub run_known : (m : ℕ) (f s : State) → Run s ≡ begun_by m f → (m ≡ 0) × (s ≡ f)
run_known zero f s e = let q : s ≡ f = cc in (refl, q)
run_known (suc m) f s e = absurd (let z : ◌≡◌ {A = ℕ} 0 1 = cc in omega arith)

refused_known : (m n : ℕ) (f : State) → Refused n ≡ begun_by m f → (n ≡ m) × (n ≡ 0 → ⊥)
refused_known zero n f e = absurd (let z : ◌≡◌ {A = ℕ} 0 1 = cc in omega arith)
refused_known (suc m) n f e = let q : n ≡ suc m = cc in (q, λ z. omega (arith, q, z))

module _ (pairs ops : List ℤ) (boundary : ℤ) (word : List ℕ) (options : RunOptions) (state zeros : List ℕ) (blank : zeros ≡ replicate (length state) 0) where
  abbrev refusal : ℕ
  refusal = begin_refusal pairs ops boundary word options

  abbrev number : ℕ
  number = begin_number pairs ops boundary word options (length state)

  abbrev fresh : State
  fresh = fresh_state word options

  pub begins_refused : (n : ℕ) → Refused n ≡ begin_of pairs ops boundary word options → (r : ℕ) → r ≡ lower n (room_refusal 9 (length zeros)) →
      BeginsRun pairs ops boundary word options state r zeros
  begins_refused n e r g =
      let q = refused_known refusal n fresh e in
      let k : r ≡ number = g ∙ (λ i. lower (q.0 i) (room_refusal 9 (zeroed_length 0 (length state) blank i))) in
      let h : r ≡ 0 → ⊥ = λ z. omega (arith, lower_some n (room_refusal 9 (length zeros)) q.1, sym g ∙ z) in
      record { number = k; list = refused_list 0 (length state) (numbers_of fresh) k h blank; again = λ z. absurd (h z) }

  moved : (m : ℕ) (s : State) (d : List ℕ) → d ≡ moved_to m zeros s → d ≡ list_of m 0 (length state) (numbers_of s)
  moved zero s d e = e ∙ ap (λ (t : List ℕ). numbers_of s ++ t) (ap (drop 9) blank ∙ drop_replicate 9 (length state) 0)
  moved (suc m) s d e = e ∙ blank

  pub begins_run : (s : State) → Run s ≡ begin_of pairs ops boundary word options → (r : ℕ) (d : List ℕ) → PutsState s zeros r d →
      BeginsRun pairs ops boundary word options state r d
  begins_run s e r d p =
      let q = run_known refusal fresh s e in
      let k : room_refusal 9 (length zeros)
      ≡ number = ap (room_refusal 9) (zeroed_length 0 (length state) blank) ∙ sym (ap (λ (m : ℕ). lower m (room_refusal 9 (length state))) q.0) in
      let w : d ≡ moved_to number zeros s = p.stored ∙ ap (λ (m : ℕ). moved_to m zeros s) k in
      let n : r ≡ number = p.number ∙ k in
      record {
        number = n;
        list = moved number s d w ∙ ap (λ (t : State). list_of number 0 (length state) (numbers_of t)) q.1;
        again = λ z. ap state_read (w ∙ ap (λ (m : ℕ). moved_to m zeros s) (sym n ∙ z)) ∙ read_back s (drop 9 zeros) (p.code z) ∙ ap some q.1;
      }
