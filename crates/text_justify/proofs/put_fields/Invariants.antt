use Prim.Native.Nat.{◌+◌, ◌-◌, ◌*◌}
use mathlib.Core.Path.{◌≡◌}
use Rattle.text_justify.specs.InFields.{numbers_from}
use Rattle.text_justify.proofs.Fill.{filled}
use Rattle.text_justify.proofs.put_fields.Given as goal

-- the fields of the first j numbers are written, with blanks after them, and the next comes there
abbrev pub invariant-loop-j : goal.invariant-loop-j
invariant-loop-j l = record {
  place : l.next ≡ l.at + 12 * l.j;
  written : l.out ≡ filled l.fn.out l.at (numbers_from l.numbers l.from l.j) (l.n - l.j);
}
