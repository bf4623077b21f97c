-- Passes over settled rows that store a number of each: in the order of rows, and op counts in the order in which rows finished.
-- Assumes nothing.
use mathlib.Core.Path.{◌≡◌, refl, sym, ap, ◌∙◌, subst}
use mathlib.Core.List.{List}
use mathlib.Core.Logic.{◌⊎◌, inl, inr}
use Prim.Native.Nat.{ℕ, zero, suc, ◌+◌, ◌*◌, ◌<◌, ◌≤◌}
use native.Mathlib.Numerals.{add-one}
use native.Mathlib.Omega.{arith}
use lib.ListN.{length, set, length-set}
use Rattle.words.proofs.Tests.{same_or_not, less_or_not}
use Rattle.compiling.specs.declared.Part.{Part}
use Rattle.compiling.specs.declared.Part.TheVariants.{Nothing, Character, Ligature, Kern, OfRow}
use Rattle.compiling.specs.Rows.{at, Encoded}
use Rattle.compiling.specs.SettledRows.{Settled}
use Rattle.fonts.specs.Numbers.{ops_of, ops_before}
use Rattle.compiling.specs.OpRows.{capped, OnlyField, row_ops, op_total, Exact}
use Rattle.compiling.specs.OpSteps.{LastFits, first_part, second_part, part_outs, part_count, row_count, counts_before, FieldStored, OpsCounted}
use Rattle.compiling.proofs.RowLaws.{SameRules, at_stored, at_other, at_row, keeps_rules, only_keeps, settled_kept, encoded_same, outcome_same}
use Rattle.compiling.proofs.RowLaws.{finished_same, pairs_same}
use Rattle.compiling.proofs.OpLaws.{ops_up_to, before_more, ends_within, Sound, finished_row, row_finished, unfinished_row, parts_of, last_of, count_parts}

-- ---- a number of each row

pub only_none : (g n : ℕ) (w : List ℕ) → OnlyField g n w w
only_none g n w = record { same_length = refl; same = λ k f h i j. refl }

pub only_store : {g n : ℕ} (w u : List ℕ) (k v : ℕ) → g < 16 → OnlyField g n w u → OnlyField g n w (set u (16 * k + g) v)
only_store {g} w u k v small o = record {
  same_length = length-set u (16 * k + g) v ∙ o.same_length;
  same = λ j f h i ne. at_other u k g v j f small i ne ∙ o.same j f h i ne;
}

pub only_more : {g n : ℕ} (w u v : List ℕ) → OnlyField g n w u → OnlyField g n u v → OnlyField g n w v
only_more w u v a b = record { same_length = b.same_length ∙ a.same_length; same = λ k f h i j. b.same k f h i j ∙ a.same k f h i j }

module _ (g n : ℕ) (v : ℕ → ℕ) (w : List ℕ) where
  pub stored_none : FieldStored g n v w w 0
  stored_none = record { only = only_none g n w; stored = λ k h. absurd (omega arith) }

  stored_by : (u : List ℕ) (i x k : ℕ) → g < 16 → 16 * i + g < length u → x ≡ v i → (k < i → at u k g ≡ v k) → (k ≡ i) ⊎ (k ≡ i → ⊥) → k < i + 1 →
      at (set u (16 * i + g) x) k g ≡ v k
  stored_by u i x k small l e f (inl j) h = ap (λ (z : ℕ). at (set u (16 * i + g) x) z g) j ∙ at_stored u i g x l ∙ e ∙ ap v (sym j)
  stored_by u i x k small l e f (inr j) h = at_row u i g x k small j ∙ f (omega arith)

  pub stored_more : (u u' : List ℕ) (i x : ℕ) → g < 16 → i < n → 16 * n ≤ length w → x ≡ v i → FieldStored g n v w u i → u' ≡ set u (16 * i + g) x →
      FieldStored g n v w u' (i + 1)
  stored_more u u' i x small h room e s l = subst (λ (z : List ℕ). FieldStored g n v w z (i + 1)) (sym l) (record {
    only = only_store w u i x small s.only;
    stored = λ k j. stored_by u i x k small (omega (arith, s.only.same_length)) e (s.stored k) (same_or_not k i) j;
  })

  pub stored_all : (u : List ℕ) (i : ℕ) → n ≤ i → FieldStored g n v w u i → FieldStored g n v w u n
  stored_all u i h s = record { only = s.only; stored = λ k j. s.stored k (omega arith) }

-- the first op of row k is stored, and then its count is added
module _ (n : ℕ) (w : List ℕ) (room : 16 * n ≤ length w) (exact : Exact n w) (u u' : List ℕ) (k t c : ℕ) (h : k < n) (s : FieldStored 13 n (ops_up_to n w) w u k)
    (e : t ≡ ops_up_to n w k) (l : u' ≡ set u (16 * k + 13) t) (j : c ≡ at u' k 12) where
  first_stored : FieldStored 13 n (ops_up_to n w) w u' (k + 1)
  first_stored = stored_more 13 n (ops_up_to n w) w u u' k t (omega arith) h room e s l

  count_is : c ≡ row_ops n w k
  count_is = j ∙ first_stored.only.same k 12 h (omega arith) (omega arith) ∙ exact k h

  pub first_again : FieldStored 13 n (ops_up_to n w) w u' (k + 1) × (t + c ≡ ops_up_to n w (k + 1))
  first_again = (first_stored, rw add-one (omega (arith, count_is, before_more n w k h)))

  pub first_within : t + c ≤ op_total n w
  first_within = omega (arith, count_is, ends_within n w k h)

-- ---- op counts

module _ (n m : ℕ) (w : List ℕ) (e : Encoded n w) (s : Settled n w w m) where
  part_count_lem : (i : ℕ) (part : Part) → Sound n w i part → ((k : ℕ) → k < n → at w k 5 ≡ 2 → at w k 11 < i → at w k 12 ≡ capped (row_ops n w k)) →
      part_count w part ≡ capped (length (part_outs n w part))
  part_count_lem i Nothing x h = refl
  part_count_lem i (Character c) x h = refl
  part_count_lem i (Ligature c) x h = refl
  part_count_lem i (Kern v) x h = refl
  part_count_lem i (OfRow k) x h = h k x.row x.status x.turn

  -- the count of a row, from the counts of the rows that finished before
  count_row : (k : ℕ) → k < n → at w k 5 ≡ 2 → ((j : ℕ) → j < n → at w j 5 ≡ 2 → at w j 11 < at w k 11 → at w j 12 ≡ capped (row_ops n w j)) →
      row_count n w k ≡ capped (row_ops n w k)
  count_row k h t f =
      let p = parts_of n m w e s k h t in
      omega (arith, count_parts n m w e s k h t, part_count_lem (at w k 11) (first_part n w k) p.first f, part_count_lem (at w k 11) (second_part n w k) p.second f)

-- the rows that finished before turn i are counted; those that never finish have no ops
pub record Counting (n : ℕ) (w u : List ℕ) (i : ℕ) : Type 0 where
  pub only : OnlyField 12 n w u
  pub counted : (k : ℕ) → k < n → at w k 5 ≡ 2 → at w k 11 < i → at u k 12 ≡ capped (row_ops n w k)
  pub rest : (k : ℕ) → k < n → (at w k 5 ≡ 2 → ⊥) → at u k 12 ≡ 0

not_state : (f : ℕ) → f < 12 → (f ≡ 8 → ⊥) → f ≡ 12 → ⊥
not_state f h i j = omega arith

module _ (n m : ℕ) (w : List ℕ) (e : Encoded n w) (s : Settled n w w m) where
  pub counting_none : ((k : ℕ) → k < n → at w k 12 ≡ 0) → Counting n w w 0
  counting_none z = record { only = only_none 12 n w; counted = λ k h t i. absurd (omega arith); rest = λ k h t. z k h }

  module _ (u : List ℕ) (o : OnlyField 12 n w u) where
    pub encoded_still : Encoded n u
    encoded_still = encoded_same n w u (keeps_rules w u (only_keeps w u not_state o)) o.same_length e

    pub settled_still : Settled n u u m
    settled_still = settled_kept n m w u (only_keeps w u not_state o) s

    pub count_still : (k : ℕ) → k < n → row_ops n u k ≡ row_ops n w k
    count_still k h = ap (λ x. length (ops_of x)) (outcome_same n w u (keeps_rules w u (only_keeps w u not_state o)) k h)

    pub status_still : (k : ℕ) → k < n → at u k 5 ≡ at w k 5
    status_still k h = o.same k 5 h (omega arith) (omega arith)

    pub turn_still : (k : ℕ) → k < n → at u k 11 ≡ at w k 11
    turn_still k h = o.same k 11 h (omega arith) (omega arith)

  module _ (u : List ℕ) (i : ℕ) (c : Counting n w u i) (h : i < m) where
    -- the row of turn i
    abbrev rowOfTurn : ℕ
    rowOfTurn = at u i 10

    turn_row : rowOfTurn ≡ at w i 10
    turn_row = c.only.same i 10 (omega (arith, s.few)) (omega arith) (omega arith)

    turn_in : rowOfTurn < n
    turn_in = rw turn_row (s.order i h).0

    turn-status : at w rowOfTurn 5 ≡ 2
    turn-status = rw turn_row (s.order i h).1

    turn-place : at w rowOfTurn 11 ≡ i
    turn-place = rw turn_row (s.order i h).2

    turn_last : LastFits n u rowOfTurn
    turn_last =
        last_of n m u (encoded_still u c.only) (settled_still u c.only) rowOfTurn turn_in (status_still u c.only rowOfTurn turn_in ∙ turn-status)

    count_turn : row_count n u rowOfTurn ≡ capped (row_ops n w rowOfTurn)
    count_turn =
        count_row n m u (encoded_still u c.only) (settled_still u c.only) rowOfTurn turn_in (status_still u c.only rowOfTurn turn_in ∙ turn-status)
        (λ j l t k. c.counted j l (sym (status_still u c.only j l) ∙ t)
        (omega (arith, turn_still u c.only j l, turn_still u c.only rowOfTurn turn_in, turn-place)) ∙ ap capped (sym (count_still u c.only j l)))
        ∙ ap capped (count_still u c.only rowOfTurn turn_in)

    counted-by : (x k : ℕ) → x ≡ row_count n u rowOfTurn → k < n → at w k 5 ≡ 2 → at w k 11 < i + 1 → (k ≡ rowOfTurn) ⊎ (k ≡ rowOfTurn → ⊥) →
        at (set u (16 * rowOfTurn + 12) x) k 12 ≡ capped (row_ops n w k)
    counted-by x k e' l t p (inl j) =
        ap (λ (z : ℕ). at (set u (16 * rowOfTurn + 12) x) z 12) j
        ∙ at_stored u rowOfTurn 12 x (omega (arith, c.only.same_length, e.ascending.room, turn_in))
        ∙ e' ∙ count_turn ∙ ap (λ (z : ℕ). capped (row_ops n w z)) (sym j)
    counted-by x k e' l t p (inr j) =
        at_row u rowOfTurn 12 x k (omega arith) j ∙ c.counted k l t (before-turn (less_or_not (at w k 11) i))
      where
        ordered : at w (at w k 11) 10 ≡ k
        ordered = let q = finished_row n m w e s k l t in (row_finished n m w e s k q.0 l q.1).ordered

        before-turn : (at w k 11 < i) ⊎ (i ≤ at w k 11) → at w k 11 < i
        before-turn (inl y) = y
        before-turn (inr y) =
            let same : at w k 11 ≡ i = omega arith in
            absurd (j (sym ordered ∙ ap (λ (z : ℕ). at w z 10) same ∙ sym turn_row))

    more_by : (x : ℕ) → x ≡ row_count n u rowOfTurn → Counting n w (set u (16 * rowOfTurn + 12) x) (i + 1)
    more_by x e' = record {
      only = only_store w u rowOfTurn x (omega arith) c.only;
      counted = λ k l t p. counted-by x k e' l t p (same_or_not k rowOfTurn);
      rest = λ k l t. at_row u rowOfTurn 12 x k (omega arith) (λ j. t (ap (λ (z : ℕ). at w z 5) j ∙ turn-status)) ∙ c.rest k l t;
    }

    -- of the row k that turn i reads
    pub turn_needs : (k : ℕ) → k ≡ at u i 10 → Encoded n u × (k < n) × LastFits n u k
    turn_needs k j = subst (λ (z : ℕ). Encoded n u × (z < n) × LastFits n u z) (sym j) (encoded_still u c.only, turn_in, turn_last)

    pub counting_more : (k x : ℕ) (u' : List ℕ) → k ≡ at u i 10 → x ≡ row_count n u k → u' ≡ set u (16 * k + 12) x → Counting n w u' (i + 1)
    counting_more k x u' j e' l =
        subst (λ (z : List ℕ). Counting n w z (i + 1)) (sym (l ∙ ap (λ (z : ℕ). set u (16 * z + 12) x) j)) (more_by x (e' ∙ ap (row_count n u) j))

  counts_by : (u : List ℕ) (i k : ℕ) → Counting n w u i → m ≤ i → k < n → (at w k 5 ≡ 2) ⊎ (at w k 5 ≡ 2 → ⊥) → at u k 12 ≡ capped (row_ops n w k)
  counts_by u i k c l h (inl t) =
      let q = finished_row n m w e s k h t in
      c.counted k h t (omega (arith, (row_finished n m w e s k q.0 h q.1).place))
  counts_by u i k c l h (inr t) = c.rest k h t ∙ ap (λ o. capped (length (ops_of o))) (sym (unfinished_row n m w e s k h t))

  pub counting_all : (u : List ℕ) (i : ℕ) → Counting n w u i → m ≤ i → OpsCounted n w u
  counting_all u i c l = record { only = c.only; counts = λ k h. counts_by u i k c l h (same_or_not (at w k 5) 2) }

-- the capped sum of capped counts
pub total_is : (n : ℕ) (w u : List ℕ) → ((k : ℕ) → k < n → at u k 12 ≡ capped (row_ops n w k)) → (k : ℕ) → k ≤ n →
    capped (counts_before u k) ≡ capped (ops_up_to n w k)
unfolding counts_before ops_before
total_is n w u c zero h = refl
total_is n w u c (suc k) h = omega (arith, total_is n w u c k (omega arith), c k h, before_more n w k h)

pub counts_more : (u : List ℕ) (k t : ℕ) → t ≡ capped (counts_before u k) → capped (t + at u k 12) ≡ capped (counts_before u (k + 1))
unfolding counts_before
counts_more u k t e = rw add-one (omega arith)

pub counts_none : (u : List ℕ) → 0 ≡ capped (counts_before u 0)
unfolding counts_before
counts_none u = refl

-- over rows that say the same, the ops before a row are as many; and so are all of them
pub total_same : (n : ℕ) (w u : List ℕ) → SameRules n w u → (k : ℕ) → ops_up_to n u k ≡ ops_up_to n w k
total_same n w u r k = λ i. ops_before (finished_same n w u r i) (pairs_same n w u r i) k

pub total_still : (n : ℕ) (w u : List ℕ) → OnlyField 12 n w u → op_total n u ≡ op_total n w
total_still n w u o = total_same n w u (keeps_rules w u (only_keeps w u not_state o)) n

pub before_none : (n : ℕ) (w : List ℕ) → 0 ≡ ops_up_to n w 0
unfolding ops_before
before_none n w = refl
