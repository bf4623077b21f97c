-- `pl_values::bytes::typed_byte` meets its contract.
-- Assumes nothing.
use mathlib.Core.Path.{sym}
use borrow.Author.Tests.{eq-eqb, ne_eqb}
use Rattle.pl_values.proofs.Scanning.{scanned_none, scanned_from}
use borrow.Author.Rules.{rules}
use native.Mathlib.Omega.{arith}
use Rattle.pl_values.proofs.bytes.typed_byte.Statement.{statement}
use Rattle.pl_values.proofs.bytes.typed_byte.Tie as tie

char-value-requires : tie.Need-char_value-requires
char-value-requires c κs = search rules

returns : tie.Need-returns-then-t-eq67
returns c =
    let args = c.args in
    scanned_from c.char_value.result c.char_value.ensures (sym (rw (eq-eqb args.t 67 c.if-t-eq67.true))) (λ h. (omega arith, h))

byte-digits-requires : tie.Need-byte_digits-requires
byte-digits-requires c κs = search rules

returns-2 : tie.Need-returns-then-t-eq68
returns-2 c =
    let args = c.args in
    scanned_from c.byte_digits.result c.byte_digits.ensures (sym (rw (ne_eqb args.t 67 c.if-t-eq67.false, eq-eqb args.t 68 c.if-t-eq68.true))) (λ h. (omega arith, h))

byte-digits-requires-2 : tie.Need-byte_digits-requires-then-t-eq79
byte-digits-requires-2 c κs = search rules

returns-3 : tie.Need-returns-then-t-eq79
returns-3 c =
    let args = c.args in
    scanned_from c.byte_digits-then-t-eq79.result c.byte_digits-then-t-eq79.ensures (sym (rw (ne_eqb args.t 67 c.if-t-eq67.false, ne_eqb args.t 68 c.if-t-eq68.false, eq-eqb args.t 79 c.if-t-eq79.true))) (λ h. (omega arith, h))

byte-digits-requires-3 : tie.Need-byte_digits-requires-then-t-eq72
byte-digits-requires-3 c κs = search rules

returns-4 : tie.Need-returns-then-t-eq72
returns-4 c =
    let args = c.args in
    scanned_from c.byte_digits-then-t-eq72.result c.byte_digits-then-t-eq72.ensures (sym (rw (ne_eqb args.t 67 c.if-t-eq67.false, ne_eqb args.t 68 c.if-t-eq68.false, ne_eqb args.t 79 c.if-t-eq79.false, eq-eqb args.t 72 c.if-t-eq72.true))) (λ h. (omega arith, h))

face-value-requires : tie.Need-face_value-requires
face-value-requires c κs = search rules

returns-5 : tie.Need-returns-then-t-eq70
returns-5 c =
    let args = c.args in
    scanned_from c.face_value.result c.face_value.ensures (sym (rw (ne_eqb args.t 67 c.if-t-eq67.false, ne_eqb args.t 68 c.if-t-eq68.false, ne_eqb args.t 79 c.if-t-eq79.false, ne_eqb args.t 72 c.if-t-eq72.false, eq-eqb args.t 70 c.if-t-eq70.true))) (λ h. (omega arith, h))

returns-6 : tie.Need-returns
returns-6 c =
    let args = c.args in
    scanned_none _ (rw (ne_eqb args.t 67 c.if-t-eq67.false, ne_eqb args.t 68 c.if-t-eq68.false, ne_eqb args.t 79 c.if-t-eq79.false, ne_eqb args.t 72 c.if-t-eq72.false, ne_eqb args.t 70 c.if-t-eq70.false))

pub typed_byte_spec : {M : Type 1} → statement M
typed_byte_spec =
    tie.close
    (tie.spec
    char-value-requires
    returns
    byte-digits-requires
    returns-2
    byte-digits-requires-2
    returns-3
    byte-digits-requires-3
    returns-4
    face-value-requires
    returns-5
    returns-6)
