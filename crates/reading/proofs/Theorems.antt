-- What is proved of the definitions of specs/. Each statement can be read without its proof, which stands in the file that it cites.
-- Assumes nothing.
use mathlib.Core.Path.{◌≡◌}
use mathlib.Core.Bool.{Bool, false}
use mathlib.Core.List.{List, [], ◌∷◌, ◌++◌, Memᴰ}
use mathlib.Core.Logic.{◌↔◌}
use mathlib.Core.Option.{Option, none, some}
use Prim.Native.Nat.{ℕ, ◌+◌}
use lib.Dec.{T}
use Rattle.reading.specs.Items.{Left, Rules, Item, item, code, flag, plain, Head, at, key, head, Out}
use Rattle.reading.specs.Reading.{read, done, more, reading, ended, NeverEnds, Ends}
use Rattle.reading.specs.Depth.{Res, Finished, Pair, comp, raised, waits_by}
use Rattle.reading.specs.Loops.{Ruled, finished, loop_list}
use Rattle.reading.specs.Cycles.{OnePerCycle}
use Rattle.reading.specs.Run.{head_flag, plain_answers, begin, in_order}
use Rattle.reading.specs.Form.{formed}
pub use Rattle.reading.proofs.Covers.{Covers}
pub use Rattle.reading.proofs.Holds.{Holds}
use Rattle.reading.proofs.Steps
use Rattle.reading.proofs.Right
use Rattle.reading.proofs.Formed
use Rattle.reading.proofs.Ends
use Rattle.reading.proofs.Enough
use Rattle.reading.proofs.Never
use Rattle.reading.proofs.Complete
use Rattle.reading.proofs.LoopList
use Rattle.reading.proofs.Cycles
use Rattle.reading.proofs.Unkerned
pub use Rattle.reading.proofs.Unkerned.{unkerned, unkerned_rules, Seen, seen_of, seen}
use Rattle.reading.proofs.RunAll
use Rattle.reading.proofs.RunRight

-- ---- the reading

-- Determinism: more steps change nothing once a reading has ended, and it ends in one way.
pub longer : (rule : Rules) (m k : ℕ) (x : Head) (ys : List Item) {os : List Out} {u : Head} → read rule m x ys ≡ done os u → read rule (m + k) x ys ≡ done os u
longer rule m k x ys e = Steps.longer rule m k x ys e

pub one_end : (rule : Rules) (m n : ℕ) (x : Head) (ys : List Item) {os ps : List Out} {u v : Head} → read rule m x ys ≡ done os u →
    read rule n x ys ≡ done ps v → (os ≡ ps) × (u ≡ v)
one_end rule m n x ys e f = Steps.one_end rule m n x ys e f

-- Locality: what follows in the text does not touch the reading of what comes before.
pub in_sequence : (rule : Rules) (m n : ℕ) (x : Head) (ys zs : List Item) {os ps : List Out} {u v : Head} → read rule m x ys ≡ done os u →
    read rule n u zs ≡ done ps v → read rule (m + n) x (ys ++ zs) ≡ done (os ++ ps) v
in_sequence rule m n x ys zs e f = Steps.in_sequence rule m n x ys zs e f

pub begins : (rule : Rules) (x : Head) (ys zs : List Item) → ((n : ℕ) → read rule n x ys ≡ more) → (n : ℕ) → read rule n x (ys ++ zs) ≡ more
begins rule x ys zs e n = Steps.begins rule x ys zs e n

pub follows : (rule : Rules) (m : ℕ) (x : Head) (ys zs : List Item) {os : List Out} {u : Head} → read rule m x ys ≡ done os u →
    ((n : ℕ) → read rule n u zs ≡ more) → (n : ℕ) → read rule n x (ys ++ zs) ≡ more
follows rule m x ys zs e f n = Steps.follows rule m x ys zs e f n

-- ---- the pair by depth

-- Depth only grows.
pub deeper : (rule : Rules) (d k : ℕ) (l : Left) (r : ℕ) {q : Res} → comp rule d l r ≡ some q → comp rule (d + k) l r ≡ some q
deeper rule d k l r e = Right.deeper rule d k l r e

-- Flags only follow codes: items that are ligatures are read as the characters of their codes, with the flags put into the result.
pub flags : (rule : Rules) (d : ℕ) (x : Head) (y : Item) {q : Res} → comp rule d (key x) (code y) ≡ some q →
    (n : ℕ) × (read rule n x (y ∷ []) ≡ done (raised (head_flag x) (flag y) q).outs (at (raised (head_flag x) (flag y) q).last))
flags rule d x y e = Right.flags rule d x y e

-- A pair that finishes at some depth is read to its end, with those ops and that last.
pub right : (rule : Rules) (d : ℕ) (l : Left) (r : ℕ) {q : Res} → comp rule d l r ≡ some q →
    (n : ℕ) × (read rule n (head l) (plain r ∷ []) ≡ done q.outs (at q.last))
right rule d l r e = Right.right rule d l r e

-- A reading that ends has a depth.
pub ends_depth : (rule : Rules) (n : ℕ) (x : Head) (y : Item) {os : List Out} {u : Head} → read rule n x (y ∷ []) ≡ done os u →
    (d : ℕ) × (q : Res) × (comp rule d (key x) (code y) ≡ some q)
ends_depth rule n x y e = Ends.ends_depth rule n x y e

-- One more than the number of pairs with a rule is depth enough.
pub depth_enough : (rule : Rules) (ps : List Ruled) → Covers rule ps → (d : ℕ) (l : Left) (r : ℕ) {q : Res} → comp rule d l r ≡ some q →
    finished rule ps l r ≡ some q
depth_enough rule ps c d l r e = Enough.depth_enough rule ps c d l r e

-- A reading that ends has a depth, at most that, and gives that pair's ops and last.
pub complete : (rule : Rules) (ps : List Ruled) → Covers rule ps → (n : ℕ) (l : Left) (r : ℕ) {os : List Out} {u : Head} →
    read rule n (head l) (plain r ∷ []) ≡ done os u → (q : Res) × (finished rule ps l r ≡ some q) × (os ≡ q.outs) × (u ≡ at q.last)
complete rule ps c n l r e = Complete.complete rule ps c n l r e

-- ---- loops

-- A set of pairs that is closed under waiting never ends.
pub never : (rule : Rules) (f : Finished) → ((l : Left) (r : ℕ) (q : Res) → f l r ≡ some q → (d : ℕ) × (comp rule d l r ≡ some q)) → (S : Pair → Type 0) →
    ((p : Pair) → S p → (q : Pair) × (waits_by (rule p.left p.right) f p.left p.right ≡ some q) × S q) → (p : Pair) → S p →
    NeverEnds rule p.left p.right
never rule f sound S closed p s = Never.never rule f sound S closed p s

-- Every pair ends, or some pair never ends, and which is the case is decided by the finished pairs.
pub unfinished_never : (rule : Rules) (ps : List Ruled) → Covers rule ps → (l : Left) (r : ℕ) → finished rule ps l r ≡ none → NeverEnds rule l r
unfinished_never rule ps c l r e = Complete.unfinished_never rule ps c l r e

-- The loop list is empty exactly when every pair ends, and every listed pair never ends.
pub loops_none : (rule : Rules) (ps : List Ruled) → Covers rule ps → loop_list rule ps ≡ [] ↔ ((l : Left) (r : ℕ) → Ends rule l r)
loops_none rule ps c = LoopList.loops_none rule ps c

pub loops_some : (rule : Rules) (ps : List Ruled) → Covers rule ps → (loop_list rule ps ≡ [] → ⊥) → (p : Pair) × NeverEnds rule p.left p.right
loops_some rule ps c e = LoopList.loops_some rule ps c e

pub loops_never : (rule : Rules) (ps : List Ruled) → Covers rule ps → (p : Pair) → Memᴰ p (loop_list rule ps) → NeverEnds rule p.left p.right
loops_never rule ps c p m = LoopList.loops_never rule ps c p m

-- One pair per cycle: the statement is specs/Cycles.
pub one_per_cycle : OnePerCycle
one_per_cycle = Cycles.one_per_cycle

-- The size of a kern makes no loop: the loop list is that of the rules with kerns of zero.
pub loops_unkerned : (rule : Rules) (ps : List Ruled) → loop_list rule ps ≡ loop_list (unkerned_rules rule) ps
loops_unkerned rule ps = Unkerned.loops_unkerned rule ps

-- Nor does it make an op: each pair has as many with kerns of zero, and a last of the same code.
pub seen_unkerned : (rule : Rules) (ps : List Ruled) (l : Left) (r : ℕ) → seen (finished rule ps l r) ≡ seen (finished (unkerned_rules rule) ps l r)
seen_unkerned rule ps l r = Unkerned.seen_unkerned rule ps l r

-- ---- runs

-- Whatever the reading of a word gives once it ends, the run gives, one item a step, and then the end for ever. Loops or not.
pub run_right : (rule : Rules) (table : Finished) → Holds rule table → (n : ℕ) (b : Bool) (word : List ℕ) (right : Option ℕ) {os : List Out} →
    reading rule n b word right ≡ ended os → (m : ℕ) → plain_answers table right m (begin b word) ≡ in_order m os
run_right rule table h n b word right e m = RunRight.run_right rule table h n b word right e m

-- Every run ends, over any table.
pub run_ends : (table : Finished) (b : Bool) (word : List ℕ) (right : Option ℕ) →
    (os : List Out) × ((m : ℕ) → plain_answers table right m (begin b word) ≡ in_order m os)
run_ends table b word right = RunAll.run_ends table b word right

-- Where every pair ends, every word's reading ends.
pub word_ends : (rule : Rules) → ((l : Left) (r : ℕ) → Ends rule l r) → (b : Bool) (word : List ℕ) (right : Option ℕ) →
    (n : ℕ) × (os : List Out) × (reading rule n b word right ≡ ended os)
word_ends rule e b word right = RunRight.word_ends rule e b word right

-- With a right item, what remains of a reading and is no ligature is that item, as it came.
pub last_plain : (rule : Rules) (n : ℕ) (x : Head) (ys : List Item) (r : ℕ) {os : List Out} {c : ℕ} →
    read rule n x (ys ++ (plain r ∷ [])) ≡ done os (at (item false c)) → c ≡ r
last_plain rule n x ys r e = Steps.last_plain rule n x ys r e

-- Demand 3 over an abstract rule.
pub all_answers : (rule : Rules) (ps : List Ruled) (table : Finished) → Covers rule ps → Holds rule table → loop_list rule ps ≡ [] →
    (b : Bool) (word : List ℕ) (right : Option ℕ) →
    (os : List Out) × ((n : ℕ) × (reading rule n b word right ≡ ended os)) × ((m : ℕ) → plain_answers table right m (begin b word) ≡ in_order m os)
all_answers rule ps table c h e b word right = RunRight.ends_answers rule table h ((loops_none rule ps c).0 e) b word right

-- ---- the form of the table

pub form : (rule : Rules) (d : ℕ) (l : Left) (r : ℕ) {q : Res} → comp rule d l r ≡ some q → T (formed l r q)
form rule d l r e = Formed.form rule d l r e
