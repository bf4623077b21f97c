-- `table_queries::all_pairs_with_replacements` meets its contract: zeros where it is refused, else the lefts and rights and zeros.
-- Assumes nothing.
use mathlib.Core.Path.{◌≡◌, sym, ◌∙◌}
use mathlib.Core.List.{List, ◌++◌}
use Prim.Native.Nat.{ℕ, ◌*◌, ◌/◌, ◌%◌, ◌≤◌}
use lib.IntN.{ℤ, pos}
use lib.Dec.{eqb}
use lib.ListN.{length, drop, replicate}
use Rattle.lang.specs.declared.Written.TheVariants.{Count, Refused}
use Rattle.lang.specs.Every.{both, every}
use Rattle.lang.specs.Checks.{unless}
use Rattle.lang.specs.Answers.{room_refusal}
use Rattle.lang.proofs.Refusals.{or_else_none, room_fits, refused_answer, taken_answer}
use Rattle.lang.proofs.Filled.{refused_list, written_list}
use Rattle.captions.specs.Tables.{pair_count, number}
use Rattle.captions.specs.Form.{key_form}
use Rattle.captions.specs.Queries.{keys_of, keys_refusal, ListsPairs}
use borrow.Author.Rules.{rules}
use Rattle.table_queries.proofs.all_pairs_with_replacements.Statement.{statement}
use Rattle.table_queries.proofs.all_pairs_with_replacements.Tie as tie

-- z is the list of zeros, r the refusal
record Begun (pairs out z : List ℤ) (r : ℕ) : Type 0 where
  zeros : z ≡ replicate (length out) (pos 0)
  same : length z ≡ length out
  refusal : r ≡ keys_refusal pairs (length z)

module _ {pairs out z : List ℤ} {r : ℕ} (b : Begun pairs out z r) where
  number_is : r ≡ keys_refusal pairs (length out)
  number_is = rw b.same at b.refusal

  refused : (r ≡ 0 → ⊥) → ListsPairs pairs out (Refused r) z
  refused h =
      record {
        answer = refused_answer (pair_count pairs) number_is h;
        list = refused_list (pos 0) (length out) (keys_of pairs) number_is h b.zeros;
      }

  enough : r ≡ 0 → 2 * pair_count pairs ≤ length z
  enough e =
      room_fits (2 * pair_count pairs) (length z)
      (or_else_none (unless 7 (both (eqb (length pairs % 6) 0) (every (pair_count pairs) (key_form pairs)))) (room_refusal (2 * pair_count pairs) (length z))
      (sym b.refusal ∙ e)).1

  done : {out' : List ℤ} → r ≡ 0 → out' ≡ keys_of pairs ++ drop (2 * pair_count pairs) z → ListsPairs pairs out (Count (pair_count pairs)) out'
  done e w =
      record {
        answer = taken_answer (pair_count pairs) (sym number_is ∙ e);
        list = written_list (pos 0) (length out) (2 * pair_count pairs) (λ j. number pairs (j / 2) (j % 2)) (sym number_is ∙ e) b.zeros w;
      }

begun : (c : tie.After-keys_refusal-refusal) →
    Begun c.args.pairs.now c.args.out.now c.zero_all.new.s
    c.keys_refusal-refusal.result
begun c = record { zeros = c.zero_all.ensures; same = c.zero_all.auto.s; refusal = c.keys_refusal-refusal.ensures }

zero-all-requires : tie.Need-zero_all-requires
zero-all-requires c κs = search rules

keys-refusal-requires : tie.Need-keys_refusal-refusal-requires
keys-refusal-requires c κs = search rules

same_length : tie.Need-shape_of-out-then-refusal-ne0
same_length c = search rules

returns : tie.Need-returns-then-refusal-ne0
returns c = refused (begun c.before) c.if-refusal-ne0.true

write-keys-requires : tie.Need-write_keys-requires
write-keys-requires c κs = enough (begun c.before.before) c.if-refusal-ne0.false

same-length-2 : tie.Need-shape_of-out
same-length-2 c = search rules

returns-2 : tie.Need-returns
returns-2 c = done (begun c.before.before.before.before) c.if-refusal-ne0.false c.write_keys.ensures

pub all_pairs_with_replacements_spec : {M : Type 1} → statement M
all_pairs_with_replacements_spec =
    tie.close
    (tie.spec
    zero-all-requires
    keys-refusal-requires
    same_length
    returns
    write-keys-requires
    same-length-2
    returns-2)
