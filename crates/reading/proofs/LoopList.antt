-- The loop list: every pair on it never ends, and where some pair never ends it is not empty, since the first walk meets nothing of
-- earlier walks and cannot leave the pairs that have not finished, so that it stops at a pair of its own.
-- Assumes nothing.
use mathlib.Core.Path.{◌≡◌, refl, sym, ◌∙◌, ap}
use mathlib.Core.Bool.{Bool, true, false, cond, false≢true}
use mathlib.Core.List.Memᴰ
use mathlib.Core.List.{List, [], ◌∷◌, ◌++◌, Memᴰ}
use mathlib.Core.List.{cons-ne-nil}
use mathlib.Core.Logic.{◌↔◌, ◌⊎◌, inl, inr, ⊎_elim}
use mathlib.Core.Option.{Option, none, some, none-ne-some}
use Prim.Native.Nat.{ℕ, zero, suc, ◌+◌, ◌<◌}
use native.Mathlib.Omega.{arith}
use lib.Dec.{T, eqb, eqb_refl}
use lib.ListN.{length}
use borrow.Author.Tests.{eqb-true}
use Rattle.reading.specs.Items.{Left, bnd, chr, Rules, at}
use Rattle.reading.specs.Reading.{NeverEnds, Ends}
use Rattle.reading.specs.Depth.{Res, Finished, Pair}
use Rattle.reading.specs.Loops.{Ruled, same_left, same_pair, member, walked_before, insert, ordered, is_finished, unfinished, waits, Walked, walk, walks}
use Rattle.reading.specs.Loops.{finished, loop_list}
use Rattle.reading.specs.Cycles.{followed}
use Rattle.reading.proofs.Right.{right}
use Rattle.reading.proofs.Count.{count, count_all, grown}
use Rattle.reading.proofs.Covers.{Covers}
use Rattle.reading.proofs.Never.{not_both}
use Rattle.reading.proofs.Complete.{unfinished_waits, unfinished_never}

-- ---- a pair met before

test_true : (b : Bool) → T b → b ≡ true
test_true true t = refl
test_true false t = absurd t

same_left_lem : (l : Left) → same_left l l ≡ true
same_left_lem bnd = refl
same_left_lem (chr c) = test_true (eqb c c) (eqb_refl c)

same_pair_lem : (p : Pair) → same_pair p p ≡ true
same_pair_lem p = rw (same_left_lem p.left) (test_true (eqb p.right p.right) (eqb_refl p.right))

member_own : (p : Pair) (ps : List Pair) → member p (p ∷ ps) ≡ true
unfolding member
member_own p ps = rw (same_pair_lem p)

member_more : (p q : Pair) (ps : List Pair) → member p ps ≡ true → member p (q ∷ ps) ≡ true
unfolding member
member_more p q ps e = rw e (both (same_pair p q))
  where
    both : (b : Bool) → cond b true true ≡ true
    both true = refl
    both false = refl

pub in_member : {p : Pair} {ps : List Pair} → Memᴰ p ps → member p ps ≡ true
in_member (Memᴰ.head {x} {xs} e) = rw e (member_own x xs)
in_member {p} (Memᴰ.tail {x} {xs} m) = member_more p x xs (in_member m)

both_true : (a b : Bool) → cond a b false ≡ true → (a ≡ true) × (b ≡ true)
both_true true b e = (refl, e)
both_true false b e = absurd (false≢true e)

left_same : (l m : Left) → same_left l m ≡ true → l ≡ m
left_same bnd bnd e = refl
left_same bnd (chr b) e = absurd (false≢true e)
left_same (chr a) bnd e = absurd (false≢true e)
left_same (chr a) (chr b) e = ap chr (eqb-true a b e)

pair_same : (p q : Pair) → same_pair p q ≡ true → p ≡ q
pair_same p q e =
    let t = both_true (same_left p.left q.left) (eqb p.right q.right) e in
    of_parts (left_same p.left q.left t.0) (eqb-true p.right q.right t.1)
  where
    of_parts : {l m : Left} {r s : ℕ} → l ≡ m → r ≡ s → ◌≡◌ {A = Pair} (record { left = l; right = r }) (record { left = m; right = s })
    of_parts a b = cc

in_by : (p q : Pair) (ps : List Pair) (b : Bool) → same_pair p q ≡ b → (member p ps ≡ true → Memᴰ p ps) → cond b true (member p ps) ≡ true →
    Memᴰ p (q ∷ ps)
in_by p q ps true i k e = Memᴰ.head (pair_same p q i)
in_by p q ps false i k e = Memᴰ.tail (k e)

pub member_in : (p : Pair) (ps : List Pair) → member p ps ≡ true → Memᴰ p ps
unfolding member
member_in p [] e = absurd (false≢true e)
member_in p (q ∷ ps) e = in_by p q ps (same_pair p q) refl (member_in p ps) e

none_found : (xs ys : List Pair) → xs ++ ys ≡ [] → xs ≡ []
none_found [] ys e = refl
none_found (x ∷ xs) ys e = absurd (cons-ne-nil x (xs ++ ys) e)

-- ---- where a walk stops

-- The pairs that a walk has met, and p the one that comes next: each of them leads to one of them or to p, and p is met from each.
pub record Leads (next : Pair → Pair) (own : List Pair) (p : Pair) : Type 0 where
  pub on : (q : Pair) → Memᴰ q own → Memᴰ (next q) (p ∷ own)
  pub to : (q : Pair) → Memᴰ q own → (n : ℕ) × (followed next (suc n) q ≡ p)

-- A walk stops at p: a pair of earlier walks, where it finds nothing, or else one of its own, which it finds.
pub data StopsAt (met : List Pair) (w : Walked) (p : Pair) : Type 0 where
  earlier : Memᴰ p met → w.found ≡ [] → StopsAt met w p
  again : (Memᴰ p met → ⊥) → Memᴰ p w.own → w.found ≡ p ∷ [] → StopsAt met w p

-- What a walk leaves that has met `own` and goes on from p.
pub record Stops (next : Pair → Pair) (met own : List Pair) (p : Pair) (w : Walked) : Type 0 where
  pub last : Pair
  pub leads : Leads next w.own last
  pub keeps : (q : Pair) → Memᴰ q own → Memᴰ q w.own
  pub from : Memᴰ p (w.own ++ met)
  pub how : StopsAt met w last

module _ (next : Pair → Pair) where
  pub followed_last : (n : ℕ) (p : Pair) → followed next (suc n) p ≡ next (followed next n p)
  unfolding followed
  followed_last zero p = refl
  followed_last (suc n) p = followed_last n (next p)

  once : (p : Pair) → followed next 1 p ≡ next p
  unfolding followed
  once p = refl

  leads_none : (p : Pair) → Leads next [] p
  leads_none p = record { on = λ q m. absurd (Memᴰ.not-nil m); to = λ q m. absurd (Memᴰ.not-nil m) }

  leads_on : {own : List Pair} {p : Pair} → Leads next own p → Leads next (p ∷ own) (next p)
  leads_on {own} {p} l = record { on = λ q m. on q (Memᴰ.cases_cons m); to = λ q m. to q (Memᴰ.cases_cons m) }
    where
      on : (q : Pair) → (q ≡ p) ⊎ Memᴰ q own → Memᴰ (next q) (next p ∷ p ∷ own)
      on q (inl e) = Memᴰ.head (ap next e)
      on q (inr m) = Memᴰ.tail (l.on q m)

      to : (q : Pair) → (q ≡ p) ⊎ Memᴰ q own → (n : ℕ) × (followed next (suc n) q ≡ next p)
      to q (inl e) = (0, once q ∙ ap next e)
      to q (inr m) = (suc (l.to q m).0, followed_last (suc (l.to q m).0) q ∙ ap next (l.to q m).1)

  stops_by : (a b : Bool) {met own : List Pair} {p : Pair} {on : Walked} → member p met ≡ a → member p own ≡ b → Leads next own p →
      (b ≡ false → Stops next met (p ∷ own) (next p) on) →
      Stops next met own p (cond a (record { own = own; found = [] }) (cond b (record { own = own; found = p ∷ [] }) on))
  stops_by true b {met} {own} {p} {on} i j l g =
      let m = member_in p met i in
      record { last = p; leads = l; keeps = λ q k. k; from = Memᴰ.append_right own m; how = earlier m refl }
  stops_by false true {met} {own} {p} {on} i j l g =
      let m = member_in p own j in
      record { last = p; leads = l; keeps = λ q k. k; from = Memᴰ.append_left met m; how = again (λ k. false≢true (sym i ∙ in_member k)) m refl }
  stops_by false false {met} {own} {p} {on} i j l g =
      let t = g refl in
      record {
        last = t.last;
        leads = t.leads;
        keeps = λ q k. t.keeps q (Memᴰ.tail k);
        from = Memᴰ.append_left met (t.keeps p (Memᴰ.head refl));
        how = t.how;
      }

-- ---- walks that stay in a set of pairs

module _ (P : Pair → Type 0) (next : Pair → Pair) (onward : (p : Pair) → P p → P (next p)) where
  -- what a walk finds is in the set
  found_by_lem : (a b : Bool) (own : List Pair) (on : Walked) (p : Pair) → P p → ((q : Pair) → Memᴰ q on.found → P q) → (q : Pair) →
      Memᴰ q (cond a (record { own = own; found = [] }) (cond b (record { own = own; found = p ∷ [] }) on)).found → P q
  found_by_lem true b own on p s g q m = absurd (Memᴰ.not-nil m)
  found_by_lem false true own on p s g q m = rw (Memᴰ.eq_of_singleton m) s
  found_by_lem false false own on p s g q m = g q m

  found_in : (n : ℕ) (met own : List Pair) (p : Pair) → P p → (q : Pair) → Memᴰ q (walk next n met own p).found → P q
  unfolding walk
  found_in zero met own p s q m = absurd (Memᴰ.not-nil m)
  found_in (suc n) met own p s q m =
      found_by_lem (member p met) (member p own) own (walk next n met (p ∷ own) (next p)) p s (found_in n met (p ∷ own) (next p) (onward p s)) q m

  walks_in : (n : ℕ) (met : List Pair) (us : List Ruled) → ((u : Ruled) → Memᴰ u us → P u.pair) → (q : Pair) → Memᴰ q (walks next n met us) → P q
  unfolding walks
  walks_in n met [] g q m = absurd (Memᴰ.not-nil m)
  walks_in n met (u ∷ us) g q m =
      ⊎_elim (found_in n met [] u.pair (g u (Memᴰ.head refl)) q)
      (walks_in n ((walk next n met [] u.pair).own ++ met) us (λ v k. g v (Memᴰ.tail k)) q)
      (Memᴰ.append_cases (walk next n met [] u.pair).found m)

  module _ (us : List Ruled) (within : (p : Pair) → P p → (i : ℕ) × Memᴰ (record { pair = p; index = i }) us) where
    -- whether a pair of the list was met
    abbrev met_by : List Pair → Ruled → Bool
    met_by own u = member u.pair own

    -- a pair that this walk has not met counts once it has
    counts : (own : List Pair) (p : Pair) → P p → member p own ≡ false → count (met_by own) us < count (met_by (p ∷ own)) us
    counts own p s e = go (grown (met_by own) (met_by (p ∷ own)) (λ u. member_more u.pair p own) us).less
      where
        go : (count (met_by own) us < count (met_by (p ∷ own)) us) ⊎ ((u : Ruled) → Memᴰ u us → met_by own u ≡ met_by (p ∷ own) u) →
            count (met_by own) us < count (met_by (p ∷ own)) us
        go (inl h) = h
        go (inr same) = absurd (false≢true (sym e ∙ same _ (within p s).1 ∙ member_own p own))

    -- a walk longer than the list stops
    stops : (n : ℕ) (met own : List Pair) (p : Pair) → P p → length us < n + count (met_by own) us → Leads next own p →
        Stops next met own p (walk next n met own p)
    unfolding walk
    stops zero met own p s h l = absurd (omega (arith, count_all (met_by own) us))
    stops (suc n) met own p s h l =
        stops_by next (member p met) (member p own) refl refl l
        (λ i. stops n met (p ∷ own) (next p) (onward p s) (omega (arith, counts own p s i)) (leads_on next l))

    -- from its first pair, with a step for each pair of the list and one more
    pub stops_first : (met : List Pair) (p : Pair) → P p → Stops next met [] p (walk next (suc (length us)) met [] p)
    stops_first met p s = stops (suc (length us)) met [] p s (omega arith) (leads_none next p)

  -- where the set is not empty and all of it is in the list, the first walk finds a pair
  some_found : (us : List Ruled) → ((u : Ruled) → Memᴰ u us → P u.pair) → ((p : Pair) → P p → (i : ℕ) × Memᴰ (record { pair = p; index = i }) us) →
      (p : Pair) → P p → walks next (suc (length us)) [] us ≡ [] → ⊥
  unfolding walks
  some_found [] g within p s e = Memᴰ.not-nil (within p s).1
  some_found (u ∷ us) g within p s e = nowhere (none_found _ _ e) (stops_first (u ∷ us) within [] u.pair (g u (Memᴰ.head refl))).how
    where
      nowhere : {last : Pair} {w : Walked} → w.found ≡ [] → StopsAt [] w last → ⊥
      nowhere e (earlier m i) = Memᴰ.not-nil m
      nowhere e (again k m i) = cons-ne-nil _ _ (sym i ∙ e)

-- ---- the pairs walked from are those of the list that have not finished

-- u passes w at the head of a list
later : {v u w : Ruled} {us xs : List Ruled} → (Memᴰ v (u ∷ us) → Memᴰ v xs) → Memᴰ v (u ∷ w ∷ us) → Memᴰ v (w ∷ xs)
later k (Memᴰ.head e) = Memᴰ.tail (k (Memᴰ.head e))
later k (Memᴰ.tail (Memᴰ.head e)) = Memᴰ.head e
later k (Memᴰ.tail (Memᴰ.tail m)) = Memᴰ.tail (k (Memᴰ.tail m))

second : {v u w : Ruled} {us : List Ruled} → Memᴰ v (u ∷ us) → Memᴰ v (u ∷ w ∷ us)
second (Memᴰ.head e) = Memᴰ.head e
second (Memᴰ.tail m) = Memᴰ.tail (Memᴰ.tail m)

sooner : {v u w : Ruled} {us xs : List Ruled} → (Memᴰ v xs → Memᴰ v (u ∷ us)) → Memᴰ v (w ∷ xs) → Memᴰ v (u ∷ w ∷ us)
sooner k (Memᴰ.head e) = Memᴰ.tail (Memᴰ.head e)
sooner k (Memᴰ.tail m) = second (k m)

insert_keeps : (v u : Ruled) (us : List Ruled) → Memᴰ v (u ∷ us) → Memᴰ v (insert u us)
unfolding insert
insert_keeps v u [] m = m
insert_keeps v u (w ∷ us) m = go (walked_before u w) (insert_keeps v u us)
  where
    go : (b : Bool) → (Memᴰ v (u ∷ us) → Memᴰ v (insert u us)) → Memᴰ v (cond b (u ∷ w ∷ us) (w ∷ insert u us))
    go true k = m
    go false k = later k m

insert_only : (v u : Ruled) (us : List Ruled) → Memᴰ v (insert u us) → Memᴰ v (u ∷ us)
unfolding insert
insert_only v u [] m = m
insert_only v u (w ∷ us) m = go (walked_before u w) (insert_only v u us) m
  where
    go : (b : Bool) → (Memᴰ v (insert u us) → Memᴰ v (u ∷ us)) → Memᴰ v (cond b (u ∷ w ∷ us) (w ∷ insert u us)) → Memᴰ v (u ∷ w ∷ us)
    go true k m = m
    go false k m = sooner k m

-- a list with more at its head
onto : {v u : Ruled} {us xs : List Ruled} → (Memᴰ v us → Memᴰ v xs) → Memᴰ v (u ∷ us) → Memᴰ v (u ∷ xs)
onto k (Memᴰ.head e) = Memᴰ.head e
onto k (Memᴰ.tail m) = Memᴰ.tail (k m)

ordered_keeps : (v : Ruled) (us : List Ruled) → Memᴰ v us → Memᴰ v (ordered us)
unfolding ordered
ordered_keeps v [] m = m
ordered_keeps v (u ∷ us) m = insert_keeps v u (ordered us) (onto (ordered_keeps v us) m)

ordered_only : (v : Ruled) (us : List Ruled) → Memᴰ v (ordered us) → Memᴰ v us
unfolding ordered
ordered_only v [] m = m
ordered_only v (u ∷ us) m = onto (ordered_only v us) (insert_only v u (ordered us) m)

module _ (f : Finished) where
  -- a pair that has not finished
  abbrev pub Open : Pair → Type 0
  Open p = f p.left p.right ≡ none

  keeps_by : (v p : Ruled) {ps us : List Ruled} (o : Option Res) → f p.pair.left p.pair.right ≡ o → Open v.pair → (Memᴰ v ps → Memᴰ v us) →
      (v ≡ p) ⊎ Memᴰ v ps → Memᴰ v (cond (is_finished o) us (p ∷ us))
  keeps_by v p none i s k (inl e) = Memᴰ.head e
  keeps_by v p none i s k (inr m) = Memᴰ.tail (k m)
  keeps_by v p (some q) i s k (inl e) = let z : ◌≡◌ {A = ℕ} 0 1 = cc in absurd (omega arith)
  keeps_by v p (some q) i s k (inr m) = k m

  unfinished_keeps : (v : Ruled) (ps : List Ruled) → Open v.pair → Memᴰ v ps → Memᴰ v (unfinished f ps)
  unfolding unfinished
  unfinished_keeps v [] s m = m
  unfinished_keeps v (p ∷ ps) s m = keeps_by v p (f p.pair.left p.pair.right) refl s (unfinished_keeps v ps s) (Memᴰ.cases_cons m)

  only_by : (v p : Ruled) {us : List Ruled} (o : Option Res) → f p.pair.left p.pair.right ≡ o → (Memᴰ v us → Open v.pair) →
      Memᴰ v (cond (is_finished o) us (p ∷ us)) → Open v.pair
  only_by v p none i k m = ⊎_elim (λ e. rw e i) k (Memᴰ.cases_cons m)
  only_by v p (some q) i k m = k m

  unfinished_only : (v : Ruled) (ps : List Ruled) → Memᴰ v (unfinished f ps) → Open v.pair
  unfolding unfinished
  unfinished_only v [] m = absurd (Memᴰ.not-nil m)
  unfinished_only v (p ∷ ps) m = only_by v p (f p.pair.left p.pair.right) refl (unfinished_only v ps) m

-- ---- the loop list

module _ (rule : Rules) (ps : List Ruled) (c : Covers rule ps) where
  -- the pairs walked from
  abbrev pub us : List Ruled
  us = unfinished (finished rule ps) (ordered ps)

  -- each of them has not finished, waits for a pair that has not, and all that have not are among them
  pub all_open : (u : Ruled) → Memᴰ u us → Open (finished rule ps) u.pair
  all_open u m = unfinished_only (finished rule ps) u (ordered ps) m

  pub open_on : (p : Pair) → Open (finished rule ps) p → Open (finished rule ps) (waits rule (finished rule ps) p)
  open_on p s =
      let w = unfinished_waits rule ps c p s in
      rw w.waits w.open_still

  pub within_us : (p : Pair) → Open (finished rule ps) p → (i : ℕ) × Memᴰ (record { pair = p; index = i }) us
  within_us p s =
      let w = unfinished_waits rule ps c p s in
      let t = c.covers p.left p.right (λ e. none-ne-some w.for (rw e at w.waits)) in
      (t.0, unfinished_keeps (finished rule ps) _ (ordered ps) s (ordered_keeps _ _ t.1))

  listed_open : (p : Pair) → Memᴰ p (loop_list rule ps) → Open (finished rule ps) p
  unfolding loop_list
  listed_open p m = walks_in (Open (finished rule ps)) (waits rule (finished rule ps)) open_on (suc (length us)) [] us all_open p m

  open_listed : (p : Pair) → Open (finished rule ps) p → loop_list rule ps ≡ [] → ⊥
  unfolding loop_list
  open_listed p s e = some_found (Open (finished rule ps)) (waits rule (finished rule ps)) open_on us all_open within_us p s e

  pub loops_never : (p : Pair) → Memᴰ p (loop_list rule ps) → NeverEnds rule p.left p.right
  loops_never p m = unfinished_never rule ps c p.left p.right (listed_open p m)

  pub loops_some : (loop_list rule ps ≡ [] → ⊥) → (p : Pair) × NeverEnds rule p.left p.right
  loops_some e = go (loop_list rule ps) refl
    where
      go : (qs : List Pair) → loop_list rule ps ≡ qs → (p : Pair) × NeverEnds rule p.left p.right
      go [] i = absurd (e i)
      go (p ∷ qs) i = (p, loops_never p (rw i (Memᴰ.head refl)))

  pub loops_none : loop_list rule ps ≡ [] ↔ ((l : Left) (r : ℕ) → Ends rule l r)
  loops_none = (λ e l r. ends e l r (finished rule ps l r) refl, λ e. empty e (loop_list rule ps) refl)
    where
      ends : loop_list rule ps ≡ [] → (l : Left) (r : ℕ) (o : Option Res) → finished rule ps l r ≡ o → Ends rule l r
      ends e l r none i = absurd (open_listed (record { left = l; right = r }) i e)
      ends e l r (some q) i =
          let t = right rule (suc (length ps)) l r i in
          record { steps = t.0; outs = q.outs; last = at q.last; ends = t.1 }

      empty : ((l : Left) (r : ℕ) → Ends rule l r) → (qs : List Pair) → loop_list rule ps ≡ qs → qs ≡ []
      empty e [] i = refl
      empty e (p ∷ qs) i =
          let t = e p.left p.right in
          absurd (not_both (loops_never p (rw i (Memᴰ.head refl)) t.steps) t.ends)
