-- `c_repair_commit::ligkern_commit_repair` meets its contract. Assumes nothing.
use mathlib.Core.List.{[], ◌∷◌}
use lib.IntN.{ℤ}
use Rattle.words.specs.Words.{word_of, number_of}
use Rattle.words.proofs.Bits.{number_word}
use Rattle.repairs.specs.Damaged.{Damaged}
use Rattle.repairs.specs.Repairs.{damaged_of}
use Rattle.c_values.proofs.Telling.{lent_three}
use Rattle.c_repair_commit.specs.Committing.{HostCommits}
use Rattle.c_repair_commit.proofs.Telling.{host_commits}
use borrow.Author.Rules.{rules}
use Rattle.c_repair_commit.proofs.ligkern_commit_repair.Statement.{statement}
use Rattle.c_repair_commit.proofs.ligkern_commit_repair.Tie as tie

commit-repair-requires : tie.Need-commit_repair-committed-requires
commit-repair-requires c κs = search rules

tell-left-requires : tie.Need-tell_left-number-requires
tell-left-requires c κs = search rules

keep-i32-requires : tie.Need-keep_list-requires
keep-i32-requires c κs = search rules

keep-u8-requires : tie.Need-keep_list-requires-2
keep-u8-requires c κs = search rules

same_length : tie.Need-shape_of-fixed
same_length c = search rules

same-length-2 : tie.Need-shape_of-through
same-length-2 c = search rules

same-length-3 : tie.Need-shape_of-found
same-length-3 c = search rules

same-length-4 : tie.Need-shape_of-work
same-length-4 c = search rules

same-length-5 : tie.Need-shape_of-left
same-length-5 c = search rules

returns : tie.Need-returns
returns c =
    let a = c.args in
    let e = a.from_0 ∷ a.from_64 ∷ a.from_128 ∷ a.from_192 ∷ [] in
    let font : ℤ → ℤ → ℤ → Damaged = (λ x y z. damaged_of a.instructions.now a.kerns.now a.entries.now x y z e a.passthrough.now) in
    lent_three
    (λ (x y z : ℤ). HostCommits (font x y z) a.warnings.now a.fixed.now a.through.now a.found.now a.work.now a.left.now
    c.tell_left-number.result c.keep_list.new.out c.keep_list-2.new.out c.commit_repair-committed.new.found
    c.commit_repair-committed.new.work c.tell_left-number.new.left) (number_word a.boundary c.ranges.boundary)
    (number_word a.left_entry c.ranges.left_entry) (number_word a.replacement c.ranges.replacement)
    (host_commits (font (number_of (word_of a.boundary)) (number_of (word_of a.left_entry)) (number_of (word_of a.replacement))) a.warnings.now
    a.fixed.now a.through.now a.found.now a.work.now a.left.now c.commit_repair-committed.ensures
    c.commit_repair-committed.auto.fixed c.commit_repair-committed.auto.through c.tell_left-number.ensures
    c.keep_list.ensures c.keep_list-2.ensures)

pub ligkern_commit_repair_spec : {M : Type 1} → statement M
ligkern_commit_repair_spec =
    tie.close
    (tie.spec
    commit-repair-requires
    tell-left-requires
    keep-i32-requires
    keep-u8-requires
    same_length
    same-length-2
    same-length-3
    same-length-4
    same-length-5
    returns)
