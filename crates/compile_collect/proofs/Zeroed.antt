-- Collecting in a work buffer that was zeroed first: the rows, or 1 or 12.
-- Assumes nothing.
use mathlib.Core.Path.{◌≡◌, sym, ap, ◌∙◌, subst}
use mathlib.Core.List.{List, [], ◌∷◌}
use Prim.Native.Nat.{ℕ, ◌*◌, ◌/◌, ◌<◌, ◌≤◌, min}
use native.Mathlib.Omega.{arith}
use lib.IntN.{ℤ, pos}
use lib.ListN.{length, replicate, length-replicate}
use borrow.Author.Tests.{le-leb, lt-leb}
use Rattle.lang.specs.Records.{count}
use Rattle.lang.specs.Answers.{reply_of, list_of}
use Rattle.lang.proofs.Refusals.{taken_reply, refused_reply}
use Rattle.lang.proofs.Filled.{refused_list}
use Rattle.fonts.specs.Fonts.{pairs_by}
use Rattle.fonts.proofs.Replies.{values_known, number_known, taken_unlike}
use Rattle.compiling.specs.declared.Collected.{Collected}
use Rattle.compiling.specs.declared.Collected.TheVariants.{Rows, Refused}
use Rattle.compiling.specs.RowNumbers.{boundary_pairs, pair_row_numbers}
use Rattle.compiling.specs.PairRows.{Collects, CollectsBy}
use Rattle.compiling.proofs.RowNumberLaws.{boundary_is, collected_rows}
use Rattle.compile_collect.specs.Collecting.{collect_refusal, CollectsFontBy, collected_reply, CollectsFont}

-- the work zeroed has room for as many rows
pub room_zeroed : (room cap : ℕ) (w z : List ℕ) → z ≡ replicate (length w) 0 → cap ≡ min room (length z / 16) →
    (16 * cap ≤ length z) × (z ≡ replicate (length z) 0)
room_zeroed room cap w z e c = (omega (arith, c), e ∙ ap (λ (n : ℕ). replicate n 0) (sym (ap length e ∙ length-replicate (length w) 0)))

module _ (s table : List ℤ) (room : ℕ) (w w' : List ℕ) where
  abbrev top : ℕ
  top = min room (length w / 16)

  pub too_long : 32767 < count s → w' ≡ replicate (length w) 0 → CollectsFontBy s table top w w' (Refused 1)
  too_long h z = (rw (lt-leb (count s) 32767 h), omega arith, z)

  module _ (few : count s ≤ 32767) (z : List ℕ) (blank : z ≡ replicate (length w) 0) (cap : ℕ) (c : cap ≡ min room (length z / 16)) (t : List ℤ) (e : t ≡ table)
      (u : Collected) (w₁ : List ℕ) (d : CollectsBy s t cap z w₁ u) where
    long : length z ≡ length w
    long = ap length blank ∙ length-replicate (length w) 0

    capped : cap ≡ top
    capped = c ∙ ap (λ (n : ℕ). min room (n / 16)) long

    at_table : CollectsBy s table top z w₁ u
    at_table = subst (λ (x : List ℤ). CollectsBy s x top z w₁ u) e (subst (λ (m : ℕ). CollectsBy s t m z w₁ u) capped d)

    pub rows_left : (n k : ℕ) → u ≡ Rows n k → CollectsFontBy s table top w w₁ (Rows n k)
    rows_left n k i =
        let q : (n ≤ top) × Collects s table z w₁ n k = subst (CollectsBy s table top z w₁) i at_table in
        let a = q.1 in
        let c : Collects s table w w₁ n k =
        record {
          same_length = a.same_length ∙ long;
          all = a.all;
          ascending = a.ascending;
          pair = a.pair;
          turns = a.turns;
          rest = a.rest;
          after = a.after;
        } in (
          rw (le-leb (count s) 32767 few, le-leb (length (pairs_by s table)) top (omega (arith, q.0, a.all))),
          q.0,
          c,
        )

    pub zeros_left : (k : ℕ) → u ≡ Refused k → length w₁ ≡ length z → w' ≡ replicate (length w₁) 0 → CollectsFontBy s table top w w' (Refused k)
    zeros_left k i l o =
        let q : (k ≡ 12) × (top < length (pairs_by s table)) = subst (CollectsBy s table top z w₁) i at_table in (
          rw (le-leb (count s) 32767 few, lt-leb (length (pairs_by s table)) top q.1) (sym q.0),
          omega (arith, q.0),
          o ∙ ap (λ (n : ℕ). replicate n 0) (l ∙ long),
        )

-- ---- the contract, from what the answer says

module _ (s table : List ℤ) (cap : ℕ) (w w' : List ℕ) where
  -- the values of an answer that is taken
  abbrev replied : List ℤ
  replied = pos (length (pairs_by s table)) ∷ pos (boundary_pairs (pairs_by s table)) ∷ []

  reply_by_lem : (r : Collected) → CollectsFontBy s table cap w w' r → collected_reply r ≡ reply_of (collect_refusal s table cap) replied
  reply_by_lem (Rows n e) d =
      let c = d.2 in
      let a = c.all in
      let b = boundary_is (pairs_by s table) n e w' c.ascending a c.pair c.turns in
      (λ i. reply_of 0 (pos (a i) ∷ pos (sym b i) ∷ [])) ∙ taken_reply replied d.0
  reply_by_lem (Refused k) d = refused_reply replied (sym d.0) (λ z. omega (arith, d.1))

  work_by : (r : Collected) → CollectsFontBy s table cap w w' r → w' ≡ list_of (collect_refusal s table cap) 0 (length w) (pair_row_numbers (pairs_by s table))
  work_by (Rows n e) d = rw d.0 (collected_rows s table w w' n e d.2)
  work_by (Refused k) d = refused_list 0 (length w) (pair_row_numbers (pairs_by s table)) (sym d.0) (λ z. omega (arith, d.1)) d.2

  pub collects : (r : Collected) → CollectsFontBy s table cap w w' r → CollectsFont s table cap w w' r
  collects r d = record { reply = reply_by_lem r d; work = work_by r d; rows = d }

-- ---- the answer is known from its reply

pub collected_determined : (a b : Collected) → collected_reply a ≡ collected_reply b → a ≡ b
collected_determined (Rows n e) (Rows n' e') q = let v = values_known q in cc
collected_determined (Rows n e) (Refused k) q = taken_unlike q
collected_determined (Refused k) (Rows n e) q = taken_unlike (sym q)
collected_determined (Refused j) (Refused k) q = ap Refused (number_known q)
