-- `pl_reals::typed_real` meets its contract.
-- Assumes nothing.
use mathlib.Core.Path.{◌≡◌, sym, ◌∙◌}
use mathlib.Core.Bool.{true, false}
use lib.Dec.{eqb}
use lib.ListN.{get_or}
use borrow.Author.Tests.{not-true, not-false}
use Rattle.property_lists.specs.Chars.{upper_case, one_of}
use Rattle.pl_blanks.proofs.Places.{at_byte, at_end_lem}
use Rattle.pl_values.proofs.Scanning.{scanned_none, scanned_from, value_at, value_none}
use borrow.Author.Rules.{rules}
use native.Mathlib.Omega.{arith}
use Rattle.pl_reals.proofs.typed_real.Statement.{statement}
use Rattle.pl_reals.proofs.typed_real.Tie as tie

returns : tie.Need-returns-then-text-at
returns c =
    let args = c.args in
    scanned_none _ (rw (at_end_lem args.text.now args.at c.if-text-at.true))

shared-slice-read-upper-case : tie.Need-bounds-text-at
shared-slice-read-upper-case c = search rules

upper-case-requires : tie.Need-upper_case-requires
upper-case-requires c κs = search rules

is-real-requires : tie.Need-is_real-requires
is-real-requires c κs = search rules

returns-2 : tie.Need-returns-then-not-is_real
returns-2 c =
    let args = c.args in
    let t = args.text.now in
    let f : one_of (eqb c.upper_case.result 82) (eqb c.upper_case.result 68) ≡ false = sym c.is_real.ensures ∙ c.if-not-is_real.true in
    let u : upper_case (get_or t args.at 0) ≡ c.upper_case.result = sym c.upper_case.ensures in
    scanned_none _ (rw (at_byte t args.at c.if-text-at.false, u, f))

add-past-signs : tie.Need-overflow_add-at
add-past-signs c = search rules

past-signs-requires : tie.Need-past_signs-requires
past-signs-requires c κs = omega arith

enum-known-minus : tie.Need-enum_known-minus
enum-known-minus c = search rules

enum_told : tie.Need-enum_told-1
enum_told c = search rules

returns-3 : tie.Need-returns-in_default
returns-3 c =
    let args = c.args in
    let t = args.text.now in
    let u : upper_case (get_or t args.at 0) ≡ c.upper_case.result = sym c.upper_case.ensures in
    let f : one_of (eqb c.upper_case.result 82) (eqb c.upper_case.result 68) ≡ true = sym c.is_real.ensures ∙ c.if-not-is_real.false in
    let b = at_byte t args.at c.if-text-at.false in
    scanned_none _ (rw (b, u, f, value_none c.past_signs.ensures c.in_default.is))

whole-digits-requires : tie.Need-whole_digits-requires
whole-digits-requires c κs =
    (value_at c.past_signs.ensures c.in-Value.is).2

enum-known-whole : tie.Need-enum_known-whole
enum-known-whole c = search rules

enum-told-2 : tie.Need-enum_told-in_default-whole_digits
enum-told-2 c = search rules

returns-4 : tie.Need-returns-in_default-whole_digits
returns-4 c =
    let args = c.args in
    let t = args.text.now in
    let u : upper_case (get_or t args.at 0) ≡ c.upper_case.result = sym c.upper_case.ensures in
    let f : one_of (eqb c.upper_case.result 82) (eqb c.upper_case.result 68) ≡ true = sym c.is_real.ensures ∙ c.if-not-is_real.false in
    let b = at_byte t args.at c.if-text-at.false in
    let s = value_at c.past_signs.ensures c.in-Value.is in
    scanned_none _ (rw (b, u, f, s.0, value_none c.whole_digits.ensures c.in_default-whole_digits.is))

real-from-requires : tie.Need-real_from-requires
real-from-requires c κs =
    (value_at c.whole_digits.ensures c.in-Value-whole_digits.is).2

returns-5 : tie.Need-returns
returns-5 c =
    let args = c.args in
    let t = args.text.now in
    let u : upper_case (get_or t args.at 0) ≡ c.upper_case.result = sym c.upper_case.ensures in
    let f : one_of (eqb c.upper_case.result 82) (eqb c.upper_case.result 68) ≡ true = sym c.is_real.ensures ∙ c.if-not-is_real.false in
    let b = at_byte t args.at c.if-text-at.false in
    let s = value_at c.past_signs.ensures c.in-Value.is in
    let w = value_at c.whole_digits.ensures c.in-Value-whole_digits.is in
    scanned_from c.real_from.result c.real_from.ensures (sym (rw (b, u, f, s.0, w.0))) (λ h.
    (omega (arith, s.1 (omega (arith, c.if-text-at.false)), w.1 s.2), w.2))

pub typed_real_spec : {M : Type 1} → statement M
typed_real_spec =
    tie.close
    (tie.spec
    returns
    shared-slice-read-upper-case
    upper-case-requires
    is-real-requires
    returns-2
    add-past-signs
    past-signs-requires
    enum-known-minus
    enum_told
    returns-3
    whole-digits-requires
    enum-known-whole
    enum-told-2
    returns-4
    real-from-requires
    returns-5)
