-- `compile::late_answer` meets its contract: by the number, and then by the answer.
-- Assumes nothing.
use mathlib.Core.Path.{◌≡◌, refl}
use Prim.Native.Nat.{ℕ, zero, suc}
use borrow.Author.Rules.{rules}
use Rattle.fonts.specs.declared.Compiled.{Compiled}
use Rattle.fonts.specs.declared.Compiled.TheVariants.{Tables, Refused}
use Rattle.compile.specs.Late.{late_answer}
use Rattle.compile.proofs.late_answer.Statement.{statement}
use Rattle.compile.proofs.late_answer.Tie as tie

none-late : (n : ℕ) (r : Compiled) → n ≡ 0 → r ≡ late_answer n r
none-late n r e = rw e

taken : (n : ℕ) (r : Compiled) (p o l : ℕ) → (n ≡ 0 → ⊥) → r ≡ Tables p o l → Refused n ≡ late_answer n r
taken zero r p o l h e = absurd (h refl)
taken (suc n) r p o l h e = rw e

before : (n : ℕ) (r : Compiled) (k : ℕ) → (n ≡ 0 → ⊥) → r ≡ Refused k → Refused k ≡ late_answer n r
before zero r k h e = absurd (h refl)
before (suc n) r k h e = rw e

returns : tie.Need-returns-then-number-eq0
returns c = none-late c.args.number c.args.compiled c.if-number-eq0.true

enum_told : tie.Need-enum_told-1
enum_told c = search rules

enum-known-compiled : tie.Need-enum_known-compiled
enum-known-compiled c = search rules

returns-2 : tie.Need-returns-in-Tables
returns-2 c =
    taken c.args.number c.args.compiled c.in-Tables.field-0 c.in-Tables.field-1 c.in-Tables.field-2 c.if-number-eq0.false c.in-Tables.is

returns-3 : tie.Need-returns-in-Refused
returns-3 c =
    before c.args.number c.args.compiled c.in-Refused.n c.if-number-eq0.false c.in-Refused.is

pub late_answer_spec : {M : Type 1} → statement M
late_answer_spec =
    tie.close
    (tie.spec
    returns
    enum_told
    enum-known-compiled
    returns-2
    returns-3)
