-- The search of the second stage while it runs: which pairs have finished so far, the rows that are open, and what one turn does. A row
-- that is open waits for the next one of the path; numbers 8 of the first h rows are the path, the row that was opened first at its
-- front.
use Rattle.std.specs.Prelude.{◌≡◌, cond, ℕ, zero, suc, ◌+◌, ◌*◌, ◌<◌, ◌≤◌, ltb, eqb, length, set}
use mathlib.Core.List.{List, Memᴰ}
use Rattle.std.proofs.Math.Option.{Option, none, some}
use Rattle.reading.specs.Items.{Left, chr, plain, code, flag, head, fin}
use Rattle.reading.specs.Depth.{Res, Finished, comp_by, waits_by}
use Rattle.compiling.specs.declared.Last.{Last}
use Rattle.compiling.specs.declared.Last.TheVariants.{Known, Waits}
use Rattle.compiling.specs.declared.Progress.{Progress}
use Rattle.compiling.specs.Rows.{at, pair_at, rule_at, row_of, Encoded, SameRows}
use Rattle.fonts.specs.Fonts.{number_of_left}
use Rattle.compiling.specs.SettledRows.{bit, finished_rows, outcome, consults}

-- how many k below n have g k ≡ s
unfoldable pub tally : (ℕ → ℕ) → ℕ → ℕ → ℕ
tally g s zero = 0
tally g s (suc n) = tally g s n + bit (eqb (g n) s)

-- number 5 of row k: 0 new, 1 open, 2 finished, 3 never
abbrev pub status : List ℕ → ℕ → ℕ
status w k = at w k 5

-- ---- the pairs that have finished so far: those of rows of status 2, and every pair without a row

-- a pair by its row: without one, its left finished and its right as it came; else its entry once the row has finished
abbrev pub known_by : ℕ → List ℕ → Left → ℕ → Option ℕ → Option Res
known_by n w l r none = some (record { outs = fin (head l); last = plain r })
known_by n w l r (some k) = cond (eqb (status w k) 2) (finished_rows n w l r) none

-- what is known so far of the pair of l and r
unfoldable pub known : ℕ → List ℕ → Finished
known n w l r = known_by n w l r (row_of w n (number_of_left l) r)

-- c and f are the code and the flag of q's last
pub record LastIs (q : Res) (c f : ℕ) : Type 0 where
  pub is_code : c ≡ code q.last
  pub is_flag : f ≡ bit (flag q.last)
  pub small : c < 256

-- rows whose finished ones have their lasts stored
pub record LastsStored (n : ℕ) (w : List ℕ) : Type 0 where
  pub encoded : Encoded n w
  pub lasts : (k : ℕ) → k < n → status w k ≡ 2 → (q : Res) × (outcome n w k ≡ some q) × LastIs q (at w k 6) (at w k 7)

-- row k waits for row j
pub record Waiting (n : ℕ) (w : List ℕ) (k j : ℕ) : Type 0 where
  pub row : j < n
  pub waits : waits_by (rule_at w k) (known n w) (pair_at w k).left (pair_at w k).right ≡ some (pair_at w j)

-- what is said of a pair: its last, or its row, which has not finished
abbrev pub PairSays : ℕ → List ℕ → Left → ℕ → Last → Type 0
PairSays n w l r (Known c f) = (q : Res) × (known n w l r ≡ some q) × LastIs q c f
PairSays n w l r (Waits j) = (j < n) × (pair_at w j ≡ record { left = l; right = r }) × (status w j ≡ 2 → ⊥)

-- what is said of row k by its rule: its last, or the row that it waits for, which has not finished
abbrev pub RuleSays : ℕ → List ℕ → ℕ → Last → Type 0
RuleSays n w k (Known c f) = (q : Res) × (comp_by (rule_at w k) (known n w) (pair_at w k).left (pair_at w k).right ≡ some q) × LastIs q c f
RuleSays n w k (Waits j) = Waiting n w k j × (status w j ≡ 2 → ⊥)

-- the same last as a ligature
abbrev pub flagged : Last → Last
flagged (Known c f) = Known c 1
flagged (Waits j) = Waits j

-- the code of a last that is known
abbrev pub code_of : Last → ℕ
code_of (Known c f) = c
code_of (Waits j) = 0

-- after a first pair: its last with r, or what the first waits for
abbrev pub SecondSays : ℕ → List ℕ → ℕ → Last → Last → Type 0
SecondSays n w r (Known c f) x = PairSays n w (chr c) r x
SecondSays n w r (Waits j) x = x ≡ Waits j

-- ---- the state of the search: m rows have finished, h are open

-- row k has finished: its entry, its last as it is stored, and its place in the order of the m rows that have
pub record DoneRow (n : ℕ) (w : List ℕ) (m k : ℕ) : Type 0 where
  pub result : Res
  pub finishes : outcome n w k ≡ some result
  pub last : LastIs result (at w k 6) (at w k 7)
  pub place : at w k 11 < m
  pub ordered : at w (at w k 11) 10 ≡ k

-- rows that have finished, in the order in which they did: what goes into one came before it
pub record Done (n : ℕ) (w : List ℕ) (m : ℕ) : Type 0 where
  pub rows : (k : ℕ) → k < n → status w k ≡ 2 → DoneRow n w m k
  pub order : (i : ℕ) → i < m → (at w i 10 < n) × (status w (at w i 10) ≡ 2) × (at w (at w i 10) 11 ≡ i)
  pub earlier : (k j : ℕ) → k < n → j < n → status w k ≡ 2 →
      Memᴰ (pair_at w j) (consults (rule_at w k) (finished_rows n w) (pair_at w k).left (pair_at w k).right) →
      (status w j ≡ 2) × (at w j 11 < at w k 11)
  pub count : m ≡ tally (status w) 2 n

-- the path: open rows, each once, each but the last waiting for the next
pub record Opened (n : ℕ) (w : List ℕ) (h : ℕ) : Type 0 where
  pub row : (i : ℕ) → i < h → at w i 8 < n
  pub open_still : (i : ℕ) → i < h → status w (at w i 8) ≡ 1
  pub each : (k : ℕ) → k < n → status w k ≡ 1 → (i : ℕ) × (i < h) × (at w i 8 ≡ k)
  pub once : (i j : ℕ) → i < h → j < h → at w i 8 ≡ at w j 8 → i ≡ j
  pub waiting : (i : ℕ) → suc i < h → Waiting n w (at w i 8) (at w (suc i) 8)
  pub count : h ≡ tally (status w) 1 n

-- rows that never finish wait for such rows, which their numbers 9 say
abbrev pub Never : ℕ → List ℕ → Type 0
Never n w = (k : ℕ) → k < n → status w k ≡ 3 → Waiting n w k (at w k 9) × (status w (at w k 9) ≡ 3)

-- rows during the search: each has one of the four statuses, and m have finished, h are open, and the rest are new or never finish
pub record Searching (n : ℕ) (w : List ℕ) (h m : ℕ) : Type 0 where
  pub encoded : Encoded n w
  pub statuses : (k : ℕ) → k < n → status w k < 4
  pub done : Done n w m
  pub never : Never n w
  pub opened : Opened n w h

-- ---- what the steps do

-- row j opens, at place h of the path
abbrev pub opening : List ℕ → ℕ → ℕ → List ℕ
opening w j h = set (set w (16 * j + 5) 1) (16 * h + 8) j

-- row k finishes, after m rows, with the last code c and the last flag f
abbrev pub finishing : List ℕ → ℕ → ℕ → ℕ → ℕ → List ℕ
finishing w k m c f = set (set (set (set (set w (16 * k + 5) 2) (16 * k + 6) c) (16 * k + 7) f) (16 * k + 11) m) (16 * m + 10) k

-- the last row of the path waits for row j, which has not finished
pub record Stuck (n : ℕ) (w : List ℕ) (h j : ℕ) : Type 0 where
  pub row : j < n
  pub some_open : 0 < h
  pub unfinished : status w j ≡ 2 → ⊥
  pub waiting : (i : ℕ) → suc i ≡ h → Waiting n w (at w i 8) j

-- the row after place i of a path of h rows, whose last waits for j
abbrev pub next_on_path : List ℕ → ℕ → ℕ → ℕ → ℕ
next_on_path w h j i = cond (ltb (suc i) h) (at w (suc i) 8) j

-- the rows from place i of the path on never finish
pub record GivenUp (w w' : List ℕ) (h j i : ℕ) : Type 0 where
  pub same_length : length w' ≡ length w
  pub same : (k f : ℕ) → f < 16 → (f ≡ 5 → ⊥) → (f ≡ 9 → ⊥) → at w' k f ≡ at w k f
  pub given : (x : ℕ) → i ≤ x → x < h → (status w' (at w x 8) ≡ 3) × (at w' (at w x 8) 9 ≡ next_on_path w h j x)
  pub kept : (k : ℕ) → ((x : ℕ) → i ≤ x → x < h → at w x 8 ≡ k → ⊥) → (status w' k ≡ status w k) × (at w' k 9 ≡ at w k 9)

-- a number that falls in each turn
abbrev pub remaining : ℕ → List ℕ → ℕ → ℕ
remaining n w h = 2 * tally (status w) 0 n + h

-- rows that are no longer new stay so
abbrev pub StillSeen : ℕ → List ℕ → List ℕ → Type 0
StillSeen n w w' = (k : ℕ) → k < n → (status w k ≡ 0 → ⊥) → status w' k ≡ 0 → ⊥

-- one turn of a search with h open rows: it stays a search, no row becomes new, and less remains
pub record Advanced (n : ℕ) (w w' : List ℕ) (h : ℕ) (p : Progress) : Type 0 where
  pub rows : SameRows n w w'
  pub searching : Searching n w' p.path p.done
  pub less : remaining n w' p.path < remaining n w h
  pub seen : StillSeen n w w'

-- a whole search from row k: no row is open then, m have finished, and row k is no longer new
pub record Searched (n : ℕ) (w w' : List ℕ) (k m : ℕ) : Type 0 where
  pub rows : SameRows n w w'
  pub searching : Searching n w' 0 m
  pub met : status w' k ≡ 0 → ⊥
  pub seen : StillSeen n w w'
