use Rattle.std.proofs.Common.{◌+◌, ◌≤◌, ℕ, length, sym, ap, ◌∙◌, arith}
use Rattle.files.specs.Commands.{char_entry}
use Rattle.file_reading.proofs.Laws.{entries_none, entries_more, length_entries_none, length_entries_more, length_entries_le}
use Rattle.file_reading.proofs.entries.write_entries.Goals as goal

pub loop-i-init : goal.loop-i-init
loop-i-init c =
    let a = c.args in (sym (length_entries_none a.file.now a.c a.w), entries_none a.file.now a.c a.w a.out.now)

pub put_entry-at-requires : goal.put_entry-at-requires
put_entry-at-requires c =
    let a = c.args in (
      omega arith,
      omega (
        arith,
        c.loop-i.invariant.0,
        c.requires.1.1,
        length_entries_more a.file.now a.c a.w c.loop-i.i,
        length_entries_le a.file.now a.c a.w a.n (c.loop-i.i + 1) (omega (arith, c.loop-i-test.true)),
      ),
    )

pub loop-i-preserved : goal.loop-i-preserved
loop-i-preserved c =
    let a = c.args in
    let i = c.loop-i.i in
    let inv = c.loop-i.invariant in
    let room : c.loop-i.at + length (char_entry a.file.now (a.c + i) (a.w + i)) ≤ length c.loop-i.out
    = omega (
      arith,
      inv.0,
      c.requires.1.1,
      length_entries_more a.file.now a.c a.w i,
      length_entries_le a.file.now a.c a.w a.n (i + 1) (omega (arith, c.loop-i-test.true)),
    ) in (
      c.put_entry-at.ensures.1 ∙ ap (λ (k : ℕ). k + length (char_entry a.file.now (a.c + i) (a.w + i))) inv.0
          ∙ sym (length_entries_more a.file.now a.c a.w i),
      entries_more a.file.now a.c a.w i inv.1 inv.0 room c.put_entry-at.ensures.0,
    )
