-- Chains (R56 to R63): each next goes to index + 1 + next (R56); a chain stops at an index past the end (R57). TeX 1039 and TFtoPL 91.
-- Which instruction is the rule (`ruleIndex`, R58 to R60) and what it does (`actsAs`, R61) are two definitions. Both are said of a count
-- and of a function from an index to an instruction, so that they hold of any form in which a program is lent.
use Rattle.std.specs.Prelude.{◌≡◌, Bool, true, false, cond, not, List, [], ◌∷◌, ℕ, zero, suc, ◌+◌, ◌/◌, ◌%◌, ℤ, pos, ltb, eqb, length, get_or, None, Some}
use Rattle.std.proofs.Math.Option.{Option, none, some}
use Rattle.std.specs.declared.option.Option as rust
use Rattle.words.specs.Words.{word_of}
use Rattle.lang.specs.declared.operation.Operation.{Operation}
use Rattle.lang.specs.declared.operation.Operation.TheVariants.{Kern, KernAtIndex, Ligature, EntrypointRedirect}
use Rattle.lang.specs.declared.instruction.Instruction.{Instruction}
use Rattle.lang.specs.Operations.{from_bytes}
use Rattle.lang.specs.Every.{both}
use Rattle.lang.specs.Records.{count, instruction_at}
use Rattle.lang.specs.Checks.{program_refusal, range_refusal, or_else}
use Rattle.lang.specs.declared.Written.{Written}
use Rattle.lang.specs.Answers.{room_refusal, written_reply, reply_of, list_of}

-- a program: the instruction at each index; how many there are is said beside it
abbrev pub Program : Type 0
Program = ℕ → Instruction

-- where a chain goes on after index i of n instructions (R56, R60): past the end where it stops (R57)
abbrev pub onward_from : ℕ → rust.Option ℕ → ℕ → ℕ
onward_from n None i = n
onward_from n (Some k) i = i + 1 + k

-- one step of a walk: the index and where the walk goes on, or the end
abbrev pub step_at : ℕ → Program → ℕ → rust.Option (ℕ × ℕ)
step_at n program i = cond (ltb i n) (Some (i, onward_from n (program i).next_instruction i)) None

-- the indices of the chain from i, none where it is past the end (R62), at most as many as the first number says. Indices ascend, so n is
-- enough (theorem `chain-whole`).
unfoldable pub chain_from : ℕ → ℕ → Program → ℕ → List ℕ
chain_from zero n program i = []
chain_from (suc most) n program i =
    let rest = chain_from most n program (onward_from n (program i).next_instruction i) in
    cond (ltb i n) (i ∷ rest) []

-- the whole chain from i, of n instructions
abbrev pub chain : ℕ → Program → ℕ → List ℕ
chain n program i = chain_from n n program i

-- an operation is a redirect
abbrev pub is_redirect_op : Operation → Bool
is_redirect_op (Kern k) = false
is_redirect_op (KernAtIndex i) = false
is_redirect_op (Ligature c p t) = false
is_redirect_op (EntrypointRedirect t f) = true

-- an instruction can be the rule of a right character: it is no redirect, and has that character (TeX 1039: a step whose skip byte is
-- above 128 does nothing, whatever its character)
abbrev pub is_rule_for : ℕ → Instruction → Bool
is_rule_for right x = both (not (is_redirect_op x.operation)) (eqb x.right_char.0 right)

-- the first index of a list whose instruction can be the rule of a right character
unfoldable pub first_for : Program → ℕ → List ℕ → Option ℕ
first_for program right [] = none
first_for program right (i ∷ is) = cond (is_rule_for right (program i)) (some i) (first_for program right is)

-- which instruction is the rule of the right character on the chain from an entry (R58). A redirect is on the chain, and passed over
abbrev pub rule_index : ℕ → Program → ℕ → ℕ → Option ℕ
rule_index n program entry right = first_for program right (chain n program entry)

-- what a search answers: the index of the rule, or nothing
abbrev pub found : Option ℕ → rust.Option ℕ
found none = None
found (some i) = Some i

-- what an instruction does: a redirect would act by its target's two bytes (TFtoPL 91 to 93 read them so), but no rule is one (theorem
-- `no-redirect`) ..
abbrev pub redirected : Operation → Operation
redirected (Kern k) = Kern k
redirected (KernAtIndex i) = KernAtIndex i
redirected (Ligature c p t) = Ligature c p t
redirected (EntrypointRedirect t f) = from_bytes (t / 256) (t % 256)

-- .. and a kern index is the kern there, or past the list a kern of zero (R61)
abbrev pub kern_of : List ℤ → Operation → Operation
kern_of kerns (Kern k) = Kern k
kern_of kerns (KernAtIndex i) = Kern (record { 0 = get_or kerns i (pos 0) })
kern_of kerns (Ligature c p t) = Ligature c p t
kern_of kerns (EntrypointRedirect t f) = EntrypointRedirect t f

-- what a rule does, by both: it is then neither a redirect nor a kern index
abbrev pub acts_as : List ℤ → Operation → Operation
acts_as kerns op = kern_of kerns (redirected op)

-- ---- of a program lent as numbers

-- the indices of the chain from i
abbrev pub chain_of : List ℤ → ℕ → List ℕ
chain_of s i = chain (count s) (instruction_at s) i

-- the index of the rule of a right character on the chain from an entry
abbrev pub rule_index_of : List ℤ → ℕ → ℕ → Option ℕ
rule_index_of s entry right = rule_index (count s) (instruction_at s) entry right

-- the whole walk into a list of `room` places: 1 and 2 of the program, 4 of the entry, 15
abbrev pub walk_refusal : List ℤ → ℤ → ℕ → ℕ
walk_refusal s entry room =
    or_else (program_refusal s) (or_else (range_refusal 65535 entry) (room_refusal (length (chain_of s (word_of entry))) room))

-- the contract of instructions_for_entrypoint (R63): `out` is the list as it was lent, out' as it comes back
pub record WalksChain (s : List ℤ) (entry : ℤ) (out : List ℕ) (r : Written) (out' : List ℕ) : Type 0 where
  pub answer : written_reply r ≡ reply_of (walk_refusal s entry (length out)) (pos (length (chain_of s (word_of entry))) ∷ [])
  pub list : out' ≡ list_of (walk_refusal s entry (length out)) 0 (length out) (chain_of s (word_of entry))
