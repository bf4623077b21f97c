-- One pair per cycle: the loop list has one pair of each cycle of pairs that never end, and nothing else. What a walk leaves is closed
-- under following, so a pair that a later walk finds is not met from what an earlier one found; and a pair on a cycle is met from
-- whatever is met from it, so the walk that first meets it stops at a pair of its own.
-- Assumes nothing.
use mathlib.Core.Path.{◌≡◌, refl, sym, ◌∙◌, ap}
use mathlib.Core.Bool.{Bool, true, false, false≢true}
use mathlib.Core.List.{List, [], ◌∷◌, ◌++◌, Memᴰ}
use mathlib.Core.Logic.{◌⊎◌, inl, inr, ⊎_elim}
use mathlib.Core.Option.{Option, none, some}
use Prim.Native.Nat.{ℕ, zero, suc}
use lib.ListN.{length}
use Rattle.reading.specs.Items.{Rules}
use Rattle.reading.specs.Reading.{NeverEnds}
use Rattle.reading.specs.Depth.{Res, Pair}
use Rattle.reading.specs.Loops.{Ruled, member, waits, Walked, walk, walks, finished, loop_list}
use Rattle.reading.specs.Cycles.{followed, Meets, OnCycle, OnCyclesApart, one, none as none_Apart, CyclesListed}
use Rattle.reading.proofs.Right.{right}
use Rattle.reading.proofs.Covers.{Covers}
use Rattle.reading.proofs.Never.{not_both}
use Rattle.reading.proofs.LoopList.{in_member, member_in, followed_last, Leads, StopsAt, earlier, again, Stops, stops_first, Open, us, all_open, open_on}
use Rattle.reading.proofs.LoopList.{within_us, loops_never}

-- ---- following

module _ (next : Pair → Pair) where
  -- a list that following does not leave
  abbrev Closed : List Pair → Type 0
  Closed met = (q : Pair) → Memᴰ q met → Memᴰ (next q) met

  stays : {met : List Pair} → Closed met → (n : ℕ) (q : Pair) → Memᴰ q met → Memᴰ (followed next n q) met
  unfolding followed
  stays c zero q m = m
  stays c (suc n) q m = stays c n (next q) (c q m)

  back_by : {p q : Pair} → OnCycle next p → (n : ℕ) → followed next n q ≡ p → Meets next (next q) p
  unfolding followed
  back_by {p} {q} c zero e = record { times = c.times; met = ap (λ (x : Pair). followed next (suc c.times) x) e ∙ c.back }
  back_by c (suc n) e = record { times = n; met = e }

  -- a pair on a cycle is met from whatever is met from it
  comes_round : {p : Pair} → OnCycle next p → (n : ℕ) → Meets next (followed next n p) p
  unfolding followed
  comes_round c zero = record { times = 0; met = refl }
  comes_round {p} c (suc n) =
      let t = comes_round c n in
      rw (followed_last next n p) (back_by c t.times t.met)

  -- what a walk leaves is closed, if what it was given was
  closed_more : {met : List Pair} {p : Pair} {w : Walked} → Closed met → Stops next met [] p w → Closed (w.own ++ met)
  closed_more {met} {p} {w} c s q m = by (mathlib.Core.List.Memᴰ.append_cases w.own m)
    where
      last : {x : Pair} → StopsAt met w x → Memᴰ x (w.own ++ met)
      last (earlier k i) = mathlib.Core.List.Memᴰ.append_right w.own k
      last (again j k i) = mathlib.Core.List.Memᴰ.append_left met k

      by : Memᴰ q w.own ⊎ Memᴰ q met → Memᴰ (next q) (w.own ++ met)
      by (inl k) = ⊎_elim (λ e. mathlib.Core.List.Memᴰ.cast e (last s.how)) (mathlib.Core.List.Memᴰ.append_left met) (mathlib.Core.List.Memᴰ.cases_cons (s.leads.on q k))
      by (inr k) = mathlib.Core.List.Memᴰ.append_right w.own (c q k)

-- ---- one walk

module _ (next : Pair → Pair) {met : List Pair} {w : Walked} where
  -- what it finds comes back to itself, and was met by no earlier walk
  found_cycle : {x q : Pair} → Leads next w.own x → StopsAt met w x → Memᴰ q w.found → OnCycle next q
  found_cycle {x} {q} l (earlier k i) m = absurd (mathlib.Core.List.Memᴰ.not-nil (rw i at m))
  found_cycle {x} {q} l (again j k i) m =
      let e : q ≡ x = mathlib.Core.List.Memᴰ.eq_of_singleton (rw i at m) in
      let t = l.to x k in
      rw e (record { times = t.0; back = t.1 })

  found_new : {x q : Pair} → StopsAt met w x → Memᴰ q w.found → Memᴰ q met → ⊥
  found_new {x} {q} (earlier k i) m n = mathlib.Core.List.Memᴰ.not-nil (rw i at m)
  found_new {x} {q} (again j k i) m n = j (mathlib.Core.List.Memᴰ.cast (sym (mathlib.Core.List.Memᴰ.eq_of_singleton (rw i at m))) n)

-- ---- all walks

module _ (next : Pair → Pair) (n : ℕ) where
  -- what each walk from these pairs leaves
  abbrev Stop : List Ruled → Type 0
  Stop vs = (met : List Pair) (v : Ruled) → Memᴰ v vs → Stops next met [] v.pair (walk next n met [] v.pair)

  rest : {v : Ruled} {vs : List Ruled} → Stop (v ∷ vs) → Stop vs
  rest s met u m = s met u (mathlib.Core.List.Memᴰ.tail m)

  all_cycles : (vs : List Ruled) (met : List Pair) → Stop vs → (q : Pair) → Memᴰ q (walks next n met vs) → OnCycle next q
  unfolding walks
  all_cycles [] met s q m = absurd (mathlib.Core.List.Memᴰ.not-nil m)
  all_cycles (v ∷ vs) met s q m =
      let t = s met v (mathlib.Core.List.Memᴰ.head refl) in
      ⊎_elim (found_cycle next t.leads t.how) (all_cycles vs ((walk next n met [] v.pair).own ++ met) (rest s) q)
      (mathlib.Core.List.Memᴰ.append_cases (walk next n met [] v.pair).found m)

  -- no walk finds a pair of an earlier one
  all_new : (vs : List Ruled) (met : List Pair) → Stop vs → (q : Pair) → Memᴰ q (walks next n met vs) → Memᴰ q met → ⊥
  unfolding walks
  all_new [] met s q m k = mathlib.Core.List.Memᴰ.not-nil m
  all_new (v ∷ vs) met s q m k =
      let w = walk next n met [] v.pair in
      ⊎_elim (λ a. found_new next (s met v (mathlib.Core.List.Memᴰ.head refl)).how a k) (λ a. all_new vs (w.own ++ met) (rest s) q a (mathlib.Core.List.Memᴰ.append_right w.own k))
      (mathlib.Core.List.Memᴰ.append_cases w.found m)

  apart_by : {x : Pair} {met : List Pair} {w : Walked} {qs : List Pair} → StopsAt met w x → Closed next (w.own ++ met) →
      ((q : Pair) → Memᴰ q qs → Memᴰ q (w.own ++ met) → ⊥) → OnCyclesApart next qs → OnCyclesApart next (w.found ++ qs)
  apart_by (earlier k i) c f a = rw i a
  apart_by {x} {met} {w} {qs} (again j k i) c f a =
      rw i (one (λ q m t. f q m (mathlib.Core.List.Memᴰ.cast (sym t.met) (stays next c t.times x (mathlib.Core.List.Memᴰ.append_left met k)))) a)

  all_apart : (vs : List Ruled) (met : List Pair) → Stop vs → Closed next met → OnCyclesApart next (walks next n met vs)
  unfolding walks
  all_apart [] met s c = none_Apart
  all_apart (v ∷ vs) met s c =
      let w = walk next n met [] v.pair in
      let t = s met v (mathlib.Core.List.Memᴰ.head refl) in
      let d = closed_more next c t in
      apart_by t.how d (all_new vs (w.own ++ met) (rest s)) (all_apart vs (w.own ++ met) (rest s) d)

  -- a pair met from p, in a list
  abbrev Listed : Pair → List Pair → Type 0
  Listed p qs = (q : Pair) × Memᴰ q qs × Meets next p q

  listed_by : (qs : List Pair) {x p : Pair} {met : List Pair} {w : Walked} → StopsAt met w x → Leads next w.own x → Closed next met → OnCycle next p →
      (Memᴰ p met → ⊥) → Memᴰ p w.own → Listed p (w.found ++ qs)
  listed_by qs {x} {p} (earlier k i) l c o f m =
      let t = l.to p m in
      let b = comes_round next o (suc t.0) in
      absurd (f (mathlib.Core.List.Memᴰ.cast (sym b.met) (stays next c b.times _ (mathlib.Core.List.Memᴰ.cast t.1 k))))
  listed_by qs {x} {p} (again j k i) l c o f m =
      let t = l.to p m in
      (x, rw i (mathlib.Core.List.Memᴰ.head refl), record { times = suc t.0; met = t.1 })

  -- from a pair on a cycle that is walked from, and was met by no walk before, a listed pair is met
  all_found : (vs : List Ruled) (met : List Pair) → Stop vs → Closed next met → (v : Ruled) → Memᴰ v vs → OnCycle next v.pair →
      (Memᴰ v.pair met → ⊥) → Listed v.pair (walks next n met vs)
  unfolding walks
  all_found [] met s c v m o f = absurd (mathlib.Core.List.Memᴰ.not-nil m)
  all_found (u ∷ vs) met s c v m o f = by (member v.pair w.own) refl (λ k g. all_found vs (w.own ++ met) (rest s) (closed_more next c t) v k o g)
    where
      w : Walked
      w = walk next n met [] u.pair

      t : Stops next met [] u.pair w
      t = s met u (mathlib.Core.List.Memᴰ.head refl)

      by : (b : Bool) → member v.pair w.own ≡ b →
          (Memᴰ v vs → (Memᴰ v.pair (w.own ++ met) → ⊥) → Listed v.pair (walks next n (w.own ++ met) vs)) →
          Listed v.pair (w.found ++ walks next n (w.own ++ met) vs)
      by true i later = listed_by (walks next n (w.own ++ met) vs) t.how t.leads c o f (member_in v.pair w.own i)
      by false i later =
          let new : Memᴰ v.pair (w.own ++ met) → ⊥ = λ k. ⊎_elim (λ a. false≢true (sym i ∙ in_member a)) f (mathlib.Core.List.Memᴰ.append_cases w.own k) in
          let r = later (⊎_elim (λ e. absurd (new (mathlib.Core.List.Memᴰ.cast (ap (λ (x : Ruled). x.pair) e) t.from))) (λ k. k) (mathlib.Core.List.Memᴰ.cases_cons m)) new in
          (r.0, mathlib.Core.List.Memᴰ.append_right w.found r.1, r.2)

-- ---- the loop list

module _ (rule : Rules) (ps : List Ruled) (c : Covers rule ps) where
  never_open : (p : Pair) → NeverEnds rule p.left p.right → Open (finished rule ps) p
  never_open p h = by (finished rule ps p.left p.right) refl
    where
      by : (o : Option Res) → finished rule ps p.left p.right ≡ o → finished rule ps p.left p.right ≡ none
      by none e = e
      by (some q) e =
          let t = right rule (suc (length ps)) p.left p.right e in
          absurd (not_both (h t.0) t.1)

  all_stop : Stop (waits rule (finished rule ps)) (suc (length (us rule ps c))) (us rule ps c)
  all_stop met v m =
      stops_first (Open (finished rule ps)) (waits rule (finished rule ps)) (open_on rule ps c) (us rule ps c) (within_us rule ps c) met v.pair
      (all_open rule ps c v m)

  pub one_per_cycle : CyclesListed rule (waits rule (finished rule ps)) (loop_list rule ps)
  unfolding loop_list
  one_per_cycle =
      let next = waits rule (finished rule ps) in
      let n = suc (length (us rule ps c)) in
      let closed : Closed next [] = λ q m. absurd (mathlib.Core.List.Memᴰ.not-nil m) in
      record {
        comes_back = λ p m. (loops_never rule ps c p m, all_cycles next n (us rule ps c) [] all_stop p m);
        one_each = all_apart next n (us rule ps c) [] all_stop closed;
        all_listed = λ p h o. all_found next n (us rule ps c) [] all_stop closed _ (within_us rule ps c p (never_open p h)).1 o mathlib.Core.List.Memᴰ.not-nil;
      }
