-- What passing over redirects means for the rule of a pair (R58 to R60): theorems `no-redirect`, `as-without` and `left_out` of
-- proofs/Theorems. No contract cites this.
use Rattle.std.specs.Prelude.{◌≡◌, false, cond, ℕ, eqb}
use mathlib.Core.List.{List, [], ◌∷◌, Memᴰ}
use Rattle.std.proofs.Math.Option.{Option, none, some}
use Rattle.program_chain.specs.Chains.{Program, chain, is_redirect_op, first_for, rule_index, redirected}

-- the first index of a list whose instruction has a right character, be it a redirect or not: so TFtoPL 91 to 93 and the Rust read a chain
unfoldable pub first_with : Program → ℕ → List ℕ → Option ℕ
first_with program right [] = none
first_with program right (i ∷ is) = cond (eqb (program i).right_char.0 right) (some i) (first_with program right is)

-- the indices of a list whose instructions are no redirects
unfoldable pub without_redirects : Program → List ℕ → List ℕ
without_redirects program [] = []
without_redirects program (i ∷ is) =
    cond (is_redirect_op (program i).operation) (without_redirects program is) (i ∷ without_redirects program is)

-- A rule is no redirect, and so does what its own operation says.
abbrev pub NoRedirect : Type 0
NoRedirect =
    (n : ℕ) (program : Program) (entry right i : ℕ) → rule_index n program entry right ≡ some i →
    (is_redirect_op (program i).operation ≡ false) × (redirected (program i).operation ≡ (program i).operation)

-- Where a chain has no redirect, its rule is the first instruction for the right character.
abbrev pub AsWithout : Type 0
AsWithout =
    (n : ℕ) (program : Program) (entry right : ℕ) →
    ((i : ℕ) → Memᴰ i (chain n program entry) → is_redirect_op (program i).operation ≡ false) →
    rule_index n program entry right ≡ first_with program right (chain n program entry)

-- Leaving the redirects of a chain out changes no rule: it is then the first instruction for the right character.
abbrev pub LeftOut : Type 0
LeftOut =
    (n : ℕ) (program : Program) (entry right : ℕ) →
    (first_for program right (without_redirects program (chain n program entry)) ≡ rule_index n program entry right)
    × (first_with program right (without_redirects program (chain n program entry)) ≡ rule_index n program entry right)
