use mathlib.Core.Path.{◌≡◌, refl, ap, ◌∙◌}
use Prim.Native.Nat.{ℕ}
use native.Mathlib.Omega.{arith}
use lib.ListN.{length}
use Rattle.pl_apply.specs.Standing.{overlay}
use Rattle.property_lists.specs.ListReading.{label_entries}
use Rattle.pl_entries.proofs.EntryLaws.{entry_more, entries_few}
use Rattle.pl_entries.proofs.put_label_entries.Goals as goal

pub loop-c-init : goal.loop-c-init
unfolding overlay label_entries
loop-c-init c = (refl, refl)

pub put_label_entry-n-requires : goal.put_label_entry-n-requires
put_label_entry-n-requires c =
    (omega arith, omega (arith, c.loop-c.invariant.1, entries_few c.args.labels.now c.loop-c.c))

pub loop-c-preserved : goal.loop-c-preserved
loop-c-preserved c =
    let a = c.args in
    let l = c.loop-c in
    let p = c.put_label_entry-n.ensures in
    entry_more a.labels.now a.entries.now l.c l.n l.invariant.0 l.invariant.1 _ refl p.0 p.1

pub returns : goal.returns
returns c =
    let a = c.args in
    let k : c.loop-c.c ≡ 256 = omega arith in (
      c.loop-c.invariant.0 ∙ ap (λ (x : ℕ). overlay (label_entries a.labels.now x) a.entries.now) k,
      c.loop-c.invariant.1 ∙ ap (λ (x : ℕ). length (label_entries a.labels.now x)) k,
    )
