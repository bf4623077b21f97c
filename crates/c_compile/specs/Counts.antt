-- A font compiled (R90 to R94, R356) for a host in C, with the counts in a list (R215): the contract of `ligkern_compile`.
use Rattle.std.specs.Prelude.{◌≡◌, List, [], ◌∷◌, ℕ, ℤ, length, replicate}
use Rattle.lang.specs.Checks.{lower}
use Rattle.lang.specs.Answers.{list_of, room_refusal}
use Rattle.fonts.specs.Fonts.{Font}
use Rattle.fonts.specs.Compiled.{Room, room_in, sized_refusal, table_pairs, total_ops, loops_of_font, ListsWritten}

-- the counts: pairs in the table, ops, loops
abbrev pub counts_of : Font → List ℕ
counts_of f = table_pairs f ∷ total_ops f ∷ length (loops_of_font f) ∷ []

-- compile's numbers, the size's among them, and 15 where n places do not hold the counts (R216): the lower of the two, so that 15 comes
-- before 19 (R356)
abbrev pub counts_refusal : Font → ℕ → Room → ℕ → ℕ
counts_refusal f size room n = lower (sized_refusal f room size) (room_refusal 3 n)

-- the number, and the final content of every lent list, taken or refused; `size` is the number of the size asked for
pub record CompilesCounts (f : Font) (size : ℕ) (pairs ops loops : List ℤ) (work counts : List ℕ) (r : ℕ) (pairs' ops' loops' : List ℤ)
    (work' counts' : List ℕ) : Type 0 where
  pub number : r ≡ counts_refusal f size (room_in pairs ops loops work) (length counts)
  pub lists : ListsWritten f (counts_refusal f size (room_in pairs ops loops work) (length counts)) pairs ops loops pairs' ops' loops'
  pub cleared : work' ≡ replicate (length work) 0
  pub counted : counts' ≡ list_of (counts_refusal f size (room_in pairs ops loops work) (length counts)) 0 (length counts) (counts_of f)
