use Rattle.std.proofs.Common.{◌≡◌, true}
use Rattle.lang.specs.Every.{every}
use Rattle.captions.specs.Form.{key_form}
use Rattle.table_form.proofs.keys.keys_form.Given as goal

-- every pair passed has its left and right in range, and ascends
abbrev pub invariant-loop-k : goal.invariant-loop-k
invariant-loop-k l = every l.k (key_form l.pairs) ≡ true
