-- Laws of what a committed repair tells: the left entry over zeros, and its lists kept or zeroed by the number. Assumes nothing.
use mathlib.Core.Path.{◌≡◌, refl, sym, ap, ◌∙◌}
use mathlib.Core.List.{List, [], ◌∷◌}
use Prim.Native.Nat.{ℕ, zero, suc, ◌≤◌}
use lib.IntN.{ℤ, pos}
use lib.ListN.{length, length-replicate, replicate}
use lib.Seq.{sets}
use Rattle.lang.specs.Checks.{lower}
use Rattle.lang.specs.Answers.{reply_of, room_refusal, list_of}
use Rattle.lang.proofs.Refusals.{room_fits, lower_none}
use Rattle.lang.proofs.Filled.{refused_list}
use Rattle.repairs.specs.declared.Committed.{Committed}
use Rattle.repairs.specs.Damaged.{Damaged, repaired_left, repaired_passthrough}
use Rattle.repairs.specs.Repaired.{repaired_instructions}
use Rattle.repairs.specs.Committing.{CommitRoom, commit_room, commit_refusal, committed_reply, Commits}
use Rattle.c_values.specs.Telling.{kept}
use Rattle.c_values.proofs.Telling.{none_listed, listed, reply_number, kept_list}
use Rattle.c_repair_commit.specs.Committing.{TellsLeft, commit_number, HostCommits}

-- ---- the left entry, told

module _ (left : List ℤ) {z : List ℤ} (blank : z ≡ replicate (length left) (pos 0)) {room : ℕ} (e : room ≡ room_refusal 1 (length z)) where
  -- the list is as long as it was lent
  lent : room ≡ room_refusal 1 (length left)
  lent = e ∙ ap (room_refusal 1) (ap length blank ∙ length-replicate (length left) (pos 0))

  pub told_number_lem : (n : ℕ) {r : ℕ} → r ≡ lower n room → TellsLeft (record { number = n; values = [] }) left r z
  told_number_lem n {r} g = record { number = g ∙ ap (lower n) lent; told = none_listed (pos 0) (length left) r blank }

  pub told_short : (v : ℤ) → (room ≡ 0 → ⊥) → TellsLeft (reply_of 0 (v ∷ [])) left room z
  told_short v h = record { number = lent; told = refused_list (pos 0) (length left) (v ∷ []) {m = room} refl h blank }

  pub has_place : room ≡ 0 → 1 ≤ length z
  has_place h = room_fits 1 (length z) (sym e ∙ h)

  pub told_entry : (v : ℤ) → room ≡ 0 → {d : List ℤ} → d ≡ sets z 0 (v ∷ []) → TellsLeft (reply_of 0 (v ∷ [])) left 0 d
  told_entry v h w =
      record {
        number = sym h ∙ lent;
        told = listed (pos 0) (length left) (v ∷ []) {m = 0} refl blank (room_fits 1 (length left) (sym lent ∙ h)) w;
      }

-- ---- the lists

-- the values of a reply count only where nothing is refused
told_values : (k m n : ℕ) (v : ℤ) → (m ≡ 0 → k ≡ 0) → list_of m (pos 0) n (reply_of k (v ∷ [])).values ≡ list_of m (pos 0) n (v ∷ [])
told_values k zero n v f = ap (λ (j : ℕ). list_of 0 (pos 0) n (reply_of j (v ∷ [])).values) (f refl)
told_values k (suc m) n v f = refl

module _ (d : Damaged) (handed fixed : List ℤ) (through : List ℕ) (found : List ℤ) (work : List ℕ) (left : List ℤ) where
  abbrev room : CommitRoom
  room = commit_room fixed through found work

  abbrev number : ℕ
  number = commit_number d handed room (length left)

  -- where nothing is refused, committing refused nothing
  none : number ≡ 0 → commit_refusal d handed room ≡ 0
  none z = (lower_none (commit_refusal d handed room) (room_refusal 1 (length left)) z).0

  pub host_commits : {answer : Committed} {r : ℕ} {fixed₁ fixed₂ found₁ left₂ : List ℤ} {through₁ through₂ work₁ : List ℕ} →
      Commits d handed fixed through found work answer fixed₁ through₁ found₁ work₁ → length fixed₁ ≡ length fixed → length through₁ ≡ length through →
      TellsLeft (committed_reply answer) left r left₂ → fixed₂ ≡ kept r (pos 0) fixed₁ → through₂ ≡ kept r 0 through₁ →
      HostCommits d handed fixed through found work left r fixed₂ through₂ found₁ work₁ left₂
  host_commits {r = r} {fixed₁} {left₂ = left₂} {through₁ = through₁} q f t told a b =
      let k = commit_refusal d handed room in
      let t' : TellsLeft (reply_of k (repaired_left d ∷ [])) left r left₂ = rw q.answer at told in
      let e : r ≡ number = t'.number ∙ ap (λ (j : ℕ). lower j (room_refusal 1 (length left))) (reply_number k (repaired_left d ∷ [])) in
      record {
        number = e;
        instructions =
            kept_list (pos 0) (length fixed) number k (repaired_instructions d) none q.instructions f (a ∙ ap (λ (j : ℕ). kept j (pos 0) fixed₁) e);
        passthrough = kept_list 0 (length through) number k (repaired_passthrough d) none q.passthrough t (b ∙ ap (λ (j : ℕ). kept j 0 through₁) e);
        entry =
            t'.told ∙ ap (λ (j : ℕ). list_of j (pos 0) (length left) (reply_of k (repaired_left d ∷ [])).values) e
            ∙ told_values k number (length left) (repaired_left d) none;
        emptied = q.emptied;
        cleared = q.cleared;
      }
