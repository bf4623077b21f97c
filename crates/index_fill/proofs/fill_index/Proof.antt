-- `index_fill::fill_index` meets its contract: zeros where it is refused, else the bits and then the counts.
-- Assumes nothing.
use mathlib.Core.Path.{◌≡◌, refl, sym, ap, ◌∙◌}
use mathlib.Core.Bool.{true}
use mathlib.Core.List.{List}
use Prim.Native.Nat.{ℕ, ◌%◌, ◌≤◌}
use native.Mathlib.Omega.{arith}
use lib.IntN.{ℤ}
use lib.Dec.{eqb}
use lib.ListN.{length, replicate}
use Rattle.lang.specs.Every.{both, every}
use Rattle.lang.specs.Checks.{unless}
use Rattle.lang.specs.Answers.{list_of, padded, room_refusal}
use Rattle.lang.proofs.Every.{both_right}
use Rattle.lang.proofs.Filled.{refused_list}
use Rattle.lang.proofs.Refusals.{or_else_none, unless_none, room_fits}
use Rattle.captions.specs.Tables.{pair_count}
use Rattle.captions.specs.Form.{key_form}
use Rattle.index.specs.Index.{index_of_table, index_refusal, FillsIndex}
use Rattle.index_fill.specs.Filling.{Filled}
use Rattle.index_fill.proofs.Laws.{filled_all}
use borrow.Author.Rules.{rules}
use Rattle.index_fill.proofs.fill_index.Statement.{statement}
use Rattle.index_fill.proofs.fill_index.Tie as tie

-- z is the list of zeros, r the refusal
record Begun (pairs : List ℤ) (index z : List ℕ) (r : ℕ) : Type 0 where
  zeros : z ≡ replicate (length index) 0
  same : length z ≡ length index
  refusal : r ≡ index_refusal pairs (length z)

module _ {pairs : List ℤ} {index z : List ℕ} {r : ℕ} (b : Begun pairs index z r) where
  number_is : r ≡ index_refusal pairs (length index)
  number_is = rw b.same at b.refusal

  own-zeros : z ≡ replicate (length z) 0
  own-zeros = b.zeros ∙ ap (λ (n : ℕ). replicate n 0) (sym b.same)

  refused : (r ≡ 0 → ⊥) → FillsIndex pairs index r z
  refused h = record { answer = number_is; list = refused_list 0 (length index) (index_of_table pairs) number_is h b.zeros }

  module _ (e : r ≡ 0) where
    parts : (unless 7 (both (eqb (length pairs % 6) 0) (every (pair_count pairs) (key_form pairs))) ≡ 0) × (room_refusal 1285 (length z) ≡ 0)
    parts =
        or_else_none (unless 7 (both (eqb (length pairs % 6) 0) (every (pair_count pairs) (key_form pairs)))) (room_refusal 1285 (length z)) (sym b.refusal ∙ e)

    enough : 1285 ≤ length z
    enough = room_fits 1285 (length z) parts.1

    formed : every (pair_count pairs) (key_form pairs) ≡ true
    formed =
        both_right (eqb (length pairs % 6) 0) (every (pair_count pairs) (key_form pairs))
        (unless_none 6 (both (eqb (length pairs % 6) 0) (every (pair_count pairs) (key_form pairs))) parts.0)

    done : {d d' : List ℕ} → Filled pairs (pair_count pairs) 0 z d → Filled pairs (pair_count pairs) 257 d d' → FillsIndex pairs index r d'
    done {d} f g =
        let n : length d ≡ length index = f.same ∙ b.same in
        record {
          answer = number_is;
          list =
              filled_all pairs g (omega (arith, enough, f.same)) ∙ ap (λ (m : ℕ). padded 0 m (index_of_table pairs)) n
              ∙ ap (λ (m : ℕ). list_of m 0 (length index) (index_of_table pairs)) (sym (sym number_is ∙ e));
        }

begun : (c : tie.After-index_refusal-refusal) → Begun c.args.pairs.now c.args.index.now c.zero_all.new.s c.index_refusal-refusal.result
begun c = record { zeros = c.zero_all.ensures; same = c.zero_all.auto.s; refusal = c.index_refusal-refusal.ensures }

zero-all-requires : tie.Need-zero_all-requires
zero-all-requires c κs = search rules

index-refusal-requires : tie.Need-index_refusal-refusal-requires
index-refusal-requires c κs = search rules

set-bits-requires : tie.Need-set_bits-requires
set-bits-requires c κs = let b = begun c.before.before in let e = c.if-refusal-eq0.true in (own-zeros b, enough b e, formed b e)

count-pairs-requires : tie.Need-count_pairs-requires
count-pairs-requires c κs =
    let b = begun c.before.before.before.before.before.before in
    let e = c.if-refusal-eq0.true in
    ((omega (arith, enough b e, c.set_bits.ensures.same), formed b e), record { same = refl; numbers = c.set_bits.ensures.numbers })

same_length : tie.Need-shape_of-index-then-refusal-eq0
same_length c = search rules

returns : tie.Need-returns-then-refusal-eq0
returns c =
    done (begun (c.before.before.before.before.before.before.before.before.before)) c.if-refusal-eq0.true c.set_bits.ensures c.count_pairs.ensures

same-length-2 : tie.Need-shape_of-index-else-refusal-eq0
same-length-2 c = search rules

returns-2 : tie.Need-returns-else-refusal-eq0
returns-2 c = refused (begun c.before) c.if-refusal-eq0.false

pub fill_index_spec : {M : Type 1} → statement M
fill_index_spec =
    tie.close
    (tie.spec
    zero-all-requires
    index-refusal-requires
    set-bits-requires
    count-pairs-requires
    same_length
    returns
    same-length-2
    returns-2)
