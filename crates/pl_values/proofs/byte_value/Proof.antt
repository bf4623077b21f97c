-- `pl_values::byte_value` meets its contract.
-- Assumes nothing.
use mathlib.Core.Path.{◌≡◌, sym, ap, ◌∙◌}
use lib.ListN.{drop}
use Rattle.property_lists.specs.Chars.{then_by}
use Rattle.property_lists.specs.Values.{byte_value, typed_byte, by_type}
use Rattle.pl_blanks.proofs.Places.{at_byte, at_end_lem, known_at, known_none}
use Rattle.pl_values.proofs.Scanning.{scanned_none, scanned_from}
use borrow.Author.Rules.{rules}
use native.Mathlib.Omega.{arith}
use Rattle.pl_values.proofs.byte_value.Statement.{statement}
use Rattle.pl_values.proofs.byte_value.Tie as tie

past-blanks-requires : tie.Need-past_blanks-requires
past-blanks-requires c κs = search rules

enum-known-i : tie.Need-enum_known-i
enum-known-i c = search rules

enum_told : tie.Need-enum_told-1
enum_told c = search rules

returns : tie.Need-returns-in_default
returns c =
    scanned_none _ (ap (λ o. then_by o (by_type typed_byte)) (known_none c.past_blanks.ensures c.in_default.is))

returns-2 : tie.Need-returns-then-text-i
returns-2 c =
    let args = c.args in
    let k = known_at c.past_blanks.ensures c.in-Some.is in
    scanned_none _ (ap (λ o. then_by o (by_type typed_byte)) k.0 ∙ rw (at_end_lem args.text.now c.in-Some.i c.if-text-i.true))

shared-slice-read-upper-case : tie.Need-bounds-text-i
shared-slice-read-upper-case c = search rules

upper-case-requires : tie.Need-upper_case-t-requires
upper-case-requires c κs = search rules

add-past-blanks : tie.Need-overflow_add-i
add-past-blanks c = search rules

past-blanks-requires-2 : tie.Need-past_blanks-requires-2
past-blanks-requires-2 c κs = search rules

enum-known-j : tie.Need-enum_known-j
enum-known-j c = search rules

enum-told-2 : tie.Need-enum_told-in_default-past_blanks
enum-told-2 c = search rules

returns-3 : tie.Need-returns-in_default-past_blanks
returns-3 c =
    let args = c.args in
    let k = known_at c.past_blanks.ensures c.in-Some.is in
    let n = known_none c.past_blanks-2.ensures c.in_default-past_blanks.is in
    scanned_none _ (ap (λ o. then_by o (by_type typed_byte)) k.0 ∙ rw (at_byte args.text.now c.in-Some.i c.if-text-i.false, n))

typed-byte-requires : tie.Need-typed_byte-requires
typed-byte-requires c κs =
    (known_at c.past_blanks-2.ensures c.in-Some-past_blanks.is).2

returns-4 : tie.Need-returns
returns-4 c =
    let Typed-Byte = c.typed_byte in
    let args = c.args in
    let k = known_at c.past_blanks.ensures c.in-Some.is in
    let n = known_at c.past_blanks-2.ensures c.in-Some-past_blanks.is in
    let e : byte_value (drop args.at args.text.now) ≡ typed_byte c.upper_case-t.result (drop c.in-Some-past_blanks.j args.text.now) =
    ap (λ o. then_by o (by_type typed_byte)) k.0 ∙ rw (at_byte args.text.now c.in-Some.i c.if-text-i.false, n.0, c.upper_case-t.ensures) in
    scanned_from Typed-Byte.result Typed-Byte.ensures (sym e) (λ h. (omega (arith, k.1 h, n.1 (omega (arith, c.if-text-i.false))), n.2))

pub byte_value_spec : {M : Type 1} → statement M
byte_value_spec =
    tie.close
    (tie.spec
    past-blanks-requires
    enum-known-i
    enum_told
    returns
    returns-2
    shared-slice-read-upper-case
    upper-case-requires
    add-past-blanks
    past-blanks-requires-2
    enum-known-j
    enum-told-2
    returns-3
    typed-byte-requires
    returns-4)
