-- A test that every index below a number passes, in the order in which a loop tries them.
use Rattle.std.specs.Prelude.{Bool, true, false, ℕ, zero, suc}

-- both tests pass
abbrev pub both : Bool → Bool → Bool
both true b = b
both false b = false

-- every index below n passes a test
unfoldable pub every : ℕ → (ℕ → Bool) → Bool
every zero p = true
every (suc n) p = both (every n p) (p n)
