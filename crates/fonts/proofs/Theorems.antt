-- What is proved of the definitions that compile's contract is an equation with: the table is exactly the finished pairs of the one-by-one reading over the
-- font's rules (R79), and the loop list is that of R83. Each statement can be read without its proof.
-- Assumes nothing.
use mathlib.Core.Path.{◌≡◌, refl, sym, ap, ◌∙◌, subst, fun_ext}
use mathlib.Core.Bool.{Bool, true, false, cond}
use mathlib.Core.List.{List, [], ◌∷◌, ◌++◌, Memᴰ}
use mathlib.Core.Logic.{◌↔◌}
use mathlib.Core.Option.{Option, none, some, some-injective, none-ne-some}
use Prim.Native.Nat.{ℕ, zero, suc, ◌+◌, ◌*◌, ◌/◌, ◌<◌}
use native.Mathlib.Omega.{arith}
use lib.Dec.{T, leb, eqb}
use lib.IntN.{ℤ, pos}
use lib.ListN.{length}
use Rattle.std.specs.Prelude.{Result, Ok, Err}
use Rattle.words.specs.Words.{word_of}
use Rattle.tfm.specs.declared.ScalingError.{ScalingError}
use Rattle.tfm.specs.declared.ScalingError.TheVariants.{TooLarge}
use Rattle.tfm.specs.Scaled.{to_scaled}
use Rattle.lang.specs.declared.operation.Operation.{Operation}
use Rattle.lang.specs.declared.operation.Operation.TheVariants.{Kern, KernAtIndex, Ligature, EntrypointRedirect}
use Rattle.lang.specs.Every.{both, every}
use Rattle.lang.specs.Records.{instruction_at}
use Rattle.lang.specs.Checks.{unless, or_else}
use Rattle.lang.specs.Answers.{room_refusal}
use Rattle.program_chain.specs.Chains.{acts_as}
use Rattle.reading.specs.Items.{Left, Rule, free, kerned, Rules, plain, Head, at, key, head, Out}
use Rattle.reading.specs.Reading.{act, read, done, more, NeverEnds, Ends}
use Rattle.reading.specs.Depth.{Res, Finished, Pair}
use Rattle.reading.specs.Loops.{Ruled, finished, loop_list, waits}
use Rattle.reading.specs.Cycles.{CyclesListed}
use Rattle.reading.specs.Form.{formed}
use Rattle.reading.proofs.Steps.{key_head, more_not_done, nothing_right, turn_more}
use Rattle.reading.proofs.Theorems as Reading
use Rattle.fonts.specs.Fonts.{Font, number_of_left, table_of, index_of, pairs_of, scaled_kern, rule_of_operation, rule_of_index, rules_of}
use Rattle.fonts.specs.Numbers.{nth, ops_of, ops_before}
use Rattle.fonts.specs.Compiled.{finished_of, loops_of_font, total_ops, is_scaled, scales, pair_scales, pairs_refusal}
use Rattle.fonts.specs.Sizes.{at_size, LoopsAtAnySize, TablesAtAnySize}
use Rattle.fonts.proofs.FontLaws.{covers_font, ruled_in_range}

-- Every entry of the table is the reading of its pair: those ops, and that last.
pub entry_reads_lem : (f : Font) (l : Left) (r : ℕ) (q : Res) → finished_of f l r ≡ some q →
    (n : ℕ) × (read (rules_of f) n (head l) (plain r ∷ []) ≡ done q.outs (at q.last))
entry_reads_lem f l r q e = Reading.right (rules_of f) _ l r e

-- And whatever the reading of a pair gives once it ends, its entry holds.
pub reading_entered : (f : Font) (n : ℕ) (l : Left) (r : ℕ) {os : List Out} {u : Head} → read (rules_of f) n (head l) (plain r ∷ []) ≡ done os u →
    (q : Res) × (finished_of f l r ≡ some q) × (os ≡ q.outs) × (u ≡ at q.last)
reading_entered f n l r e = Reading.complete (rules_of f) (pairs_of f) (covers_font f) n l r e

-- A pair has no entry exactly when it never ends.
pub no_entry : (f : Font) (l : Left) (r : ℕ) → (finished_of f l r ≡ none) ↔ NeverEnds (rules_of f) l r
no_entry f l r = (Reading.unfinished_never (rules_of f) (pairs_of f) (covers_font f) l r, λ h. by (finished_of f l r) refl h)
  where
    by : (o : Option Res) → finished_of f l r ≡ o → NeverEnds (rules_of f) l r → finished_of f l r ≡ none
    by none e h = e
    by (some q) e h =
        let d = entry_reads_lem f l r q e in
        let c : more ≡ done q.outs (at q.last) = sym (h d.0) ∙ d.1 in
        absurd (let z : ◌≡◌ {A = ℕ} 0 1 = cc in omega arith)

-- The table has the form (R260 to R262).
pub entry_formed : (f : Font) (l : Left) (r : ℕ) (q : Res) → finished_of f l r ≡ some q → T (formed l r q)
entry_formed f l r q e = Reading.form (rules_of f) _ l r e

-- No loop is reported exactly when every pair ends, and every reported pair never ends.
pub no_loops : (f : Font) → (loops_of_font f ≡ []) ↔ ((l : Left) (r : ℕ) → Ends (rules_of f) l r)
no_loops f = Reading.loops_none (rules_of f) (pairs_of f) (covers_font f)

pub some_loop : (f : Font) → (loops_of_font f ≡ [] → ⊥) → (p : Pair) × NeverEnds (rules_of f) p.left p.right
some_loop f h = Reading.loops_some (rules_of f) (pairs_of f) (covers_font f) h

pub reported_never : (f : Font) (p : Pair) → Memᴰ p (loops_of_font f) → NeverEnds (rules_of f) p.left p.right
reported_never f p m = Reading.loops_never (rules_of f) (pairs_of f) (covers_font f) p m

-- The loop list has one pair of each cycle.
pub one_per_cycle : (f : Font) → CyclesListed (rules_of f) (waits (rules_of f) (finished_of f)) (loops_of_font f)
one_per_cycle f = Reading.one_per_cycle (rules_of f) (pairs_of f) (covers_font f)

-- where a pair has no rule, one step ends it
free_ends : (rule : Rules) (l : Left) (r : ℕ) → rule l r ≡ free → NeverEnds rule l r → ⊥
free_ends rule l r e h =
    by (rule (key (head l)) r) (rw (key_head l) e) (turn_more rule 0 (head l) (plain r) [] (h 1))
  where
    by : (u : Rule) → u ≡ free → read rule 0 (act u (head l) (plain r)).left ((act u (head l) (plain r)).back ++ []) ≡ more → ⊥
    by u i m =
        let k : read rule 0 (at (plain r)) []
        ≡ more = subst (λ (v : Rule). read rule 0 (act v (head l) (plain r)).left ((act v (head l) (plain r)).back ++ []) ≡ more) i m in
        more_not_done (sym k ∙ nothing_right rule 0 (at (plain r)))

-- A pair that never ends has a left of -1 to 255 and a right of 0 to 255: no other pair has a rule.
pub never_in_range : (f : Font) (l : Left) (r : ℕ) → NeverEnds (rules_of f) l r → (number_of_left l < 257) × (r < 256)
never_in_range f l r h = ruled_in_range f l r (λ e. free_ends (rules_of f) l r e h)

-- ---- design sizes

-- with a kern of zero a kern is the same, scaled or not
kern_zero : (t : Result ℤ ScalingError) → Reading.unkerned (scaled_kern t) ≡ kerned (pos 0)
kern_zero (Ok v) = refl
kern_zero (Err e) = refl

-- so what an operation does with a kern of zero is the same at two sizes
same_operation : (a b : ℤ) (op : Operation) → Reading.unkerned (rule_of_operation a op) ≡ Reading.unkerned (rule_of_operation b op)
same_operation a b (Kern k) = kern_zero (to_scaled k.0 a) ∙ sym (kern_zero (to_scaled k.0 b))
same_operation a b (KernAtIndex i) = refl
same_operation a b (Ligature c p t) = refl
same_operation a b (EntrypointRedirect t g) = refl

same_rule : (f : Font) (size : ℤ) (o : Option ℕ) → Reading.unkerned (rule_of_index (at_size f size) o) ≡ Reading.unkerned (rule_of_index f o)
same_rule f size none = refl
same_rule f size (some i) = same_operation size f.design (acts_as f.kerns (instruction_at f.instructions i).operation)

same_rules : (f : Font) (size : ℤ) → Reading.unkerned_rules (rules_of (at_size f size)) ≡ Reading.unkerned_rules (rules_of f)
same_rules f size = fun_ext (λ l. fun_ext (λ r. same_rule f size (index_of f.instructions (table_of f) l r)))

-- The loops of a font are the same at every design size.
pub loops_at_any_size : LoopsAtAnySize
loops_at_any_size f size =
    Reading.loops_unkerned (rules_of (at_size f size)) (pairs_of f)
    ∙ ap (λ (rule : Rules). loop_list rule (pairs_of f)) (same_rules f size)
    ∙ sym (Reading.loops_unkerned (rules_of f) (pairs_of f))

-- So is the number of ops of each pair, and of all pairs.
ops_seen : (o o' : Option Res) → Reading.seen o ≡ Reading.seen o' → length (ops_of o) ≡ length (ops_of o')
ops_seen none none e = refl
ops_seen none (some q) e = absurd (none-ne-some (Reading.seen_of q) e)
ops_seen (some p) none e = absurd (none-ne-some (Reading.seen_of p) (sym e))
ops_seen (some p) (some q) e = ap (λ (s : Reading.Seen). s.ops) (some-injective (Reading.seen_of p) (Reading.seen_of q) e)

ops_same : (f g : Finished) (ps : List Ruled) → ((l : Left) (r : ℕ) → length (ops_of (f l r)) ≡ length (ops_of (g l r))) → (k : ℕ) →
    ops_before f ps k ≡ ops_before g ps k
unfolding ops_before
ops_same f g ps h zero = refl
ops_same f g ps h (suc k) = λ i. ops_same f g ps h k i + h (nth ps k).pair.left (nth ps k).pair.right i

pub ops_at_any_size : (f : Font) (size : ℤ) → total_ops (at_size f size) ≡ total_ops f
ops_at_any_size f size =
    let ps = pairs_of f in
    let h : (l : Left) (r : ℕ) → length (ops_of (finished_of (at_size f size) l r)) ≡ length (ops_of (finished_of f l r)) =
    λ l r. ops_seen (finished_of (at_size f size) l r) (finished_of f l r)
    (Reading.seen_unkerned (rules_of (at_size f size)) ps l r
    ∙ ap (λ (rule : Rules). Reading.seen (finished rule ps l r)) (same_rules f size)
    ∙ sym (Reading.seen_unkerned (rules_of f) ps l r)) in
    ops_same (finished_of (at_size f size)) (finished_of f) ps h (length ps)

-- Whether a number scales goes by its top byte, at every design size of 0 or more.
scaled_by : (t u : Bool) (x y x' y' : ℤ) →
    is_scaled (cond t (Ok x) (cond u (Ok y) (Err TooLarge))) ≡ is_scaled (cond t (Ok x') (cond u (Ok y') (Err TooLarge)))
scaled_by true u x y x' y' = refl
scaled_by false true x y x' y' = refl
scaled_by false false x y x' y' = refl

same_scaled : (kern : ℤ) (a b : ℕ) → is_scaled (to_scaled kern (pos a)) ≡ is_scaled (to_scaled kern (pos b))
unfolding to_scaled
same_scaled kern a b = scaled_by (eqb (word_of kern / 16777216) 0) (eqb (word_of kern / 16777216) 255) _ _ _ _

same_scales : (a b : ℕ) (op : Operation) → scales (pos a) op ≡ scales (pos b) op
same_scales a b (Kern k) = same_scaled k.0 a b
same_scales a b (KernAtIndex i) = refl
same_scales a b (Ligature c p t) = refl
same_scales a b (EntrypointRedirect t g) = refl

-- 12 to 15 are the same at every design size of 0 or more.
pub tables_at_any_size : TablesAtAnySize
tables_at_any_size f room a b =
    let ps = pairs_of f in
    let k : pair_scales (at_size f (pos a)) ≡ pair_scales (at_size f (pos b)) =
    fun_ext (λ j. same_scales a b (acts_as f.kerns (instruction_at f.instructions (nth ps j).index).operation)) in
    let o : total_ops (at_size f (pos a)) ≡ total_ops (at_size f (pos b)) = ops_at_any_size f (pos a) ∙ sym (ops_at_any_size f (pos b)) in
    let l : loops_of_font (at_size f (pos a)) ≡ loops_of_font (at_size f (pos b)) = loops_at_any_size f (pos a) ∙ sym (loops_at_any_size f (pos b)) in
    λ i.
    or_else (pairs_refusal f room)
    (or_else (unless 13 (every (length ps) (k i)))
    (or_else (unless 14 (both (leb (o i) 2147483647) (leb (2 * o i) room.ops))) (room_refusal (2 * length (l i)) room.loops)))
