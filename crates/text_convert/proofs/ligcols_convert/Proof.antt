-- `text_convert::ligcols_convert` meets its contract: the length of the text, or minus the number.
-- Assumes nothing.
use mathlib.Core.Path.{◌≡◌, sym, ap, subst, ◌∙◌}
use Prim.Native.Nat.{◌-◌, ◌<◌, ◌≤◌}
use native.Mathlib.Omega.{arith}
use lib.IntN.{ℤ, pos}
use lib.ListN.{length}
use mir.Syntax.{w32}
use mir.Val.{SFits, of_z}
use borrow.Author.Rules.{rules}
use Rattle.words.specs.Words.{number_of}
use Rattle.words.proofs.Bits.{number_pos, number_fits, number_word}
use Rattle.lang.specs.declared.Written.{Written}
use Rattle.lang.specs.declared.Written.TheVariants as written
use Rattle.columns.specs.Texts.{read_text}
use Rattle.columns.specs.Converting.{converted_text, convert_number, ConvertsText}
use Rattle.text_font_reply.specs.Answering.{AnswersBytes}
use Rattle.text_convert.proofs.Laws.{length_converted, number_converted}
use Rattle.text_convert.proofs.ligcols_convert.Statement.{statement}
use Rattle.text_convert.proofs.ligcols_convert.Tie as tie

-- what was answered
told : (a : tie.After-convert) (r : Written) → r ≡ a.convert.result → AnswersBytes (convert_number (read_text a.args.text.now) (converted_text a.args.text.now) (length a.args.out.now)) (converted_text a.args.text.now)
    a.args.out.now r a.convert.new.out
told a r e =
    subst (λ (x : Written). AnswersBytes (convert_number (read_text a.args.text.now) (converted_text a.args.text.now) (length a.args.out.now))
    (converted_text a.args.text.now) a.args.out.now x a.convert.new.out) (sym e) a.convert.ensures

counted : (v : tie.In-Count) → (v.in-Count.n ≤ 65536) × ConvertsText v.args.text.now v.args.out.now (pos v.in-Count.n) v.convert.new.out
counted v = length_converted v.in-Count.n (told v.before.before.before (written.Count v.in-Count.n) (sym v.in-Count.is))

refused : (v : tie.In-Refused) → (0 < v.in-Refused.n) × (v.in-Refused.n ≤ 20)
    × ConvertsText v.args.text.now v.args.out.now (number_of (4294967295 - (v.in-Refused.n - 1))) v.convert.new.out
refused v = number_converted v.in-Refused.n (told v.before.before.before (written.Refused v.in-Refused.n) (sym v.in-Refused.is))

convert-requires : tie.Need-convert-requires
convert-requires c κs = search rules

enum-known-n : tie.Need-enum_known-n
enum-known-n c = search rules

cast-result : tie.Need-overflow_cast-result
cast-result c =
    let n = c.in-Count.n in
    let l : n < 2147483648 = omega (arith, (counted c).0) in
    subst (SFits w32) (number_pos n l) (number_fits n (omega (arith, l)))

enum-known-n-2 : tie.Need-enum_known-n-in-Refused-1
enum-known-n-2 c = search rules

sub-number-of : tie.Need-overflow_sub-n
sub-number-of c = omega (arith, (refused c).0)

sub-number-of-2 : tie.Need-overflow_sub-n-in-Refused
sub-number-of-2 c = search rules

number-of-requires : tie.Need-number_of-requires
number-of-requires c κs = search rules

same_length : tie.Need-shape_of-out-in-Count
same_length c = search rules

returns : tie.Need-returns-in-Count
returns c =
    let n = c.in-Count.n in
    let l : n < 2147483648 = omega (arith, (counted c).0) in
    subst (λ (z : ℤ). ConvertsText c.args.text.now c.args.out.now z c.convert.new.out) (sym (number_pos n l)) (counted c).1

same-length-2 : tie.Need-shape_of-out-in-Refused
same-length-2 c = search rules

returns-2 : tie.Need-returns-in-Refused
returns-2 c =
    let n = c.in-Refused.n in
    let w = 4294967295 - (n - 1) in
    let z : number_of (of_z w32 c.number_of.result)
    ≡ number_of w = ap (λ (y : ℤ). number_of (of_z w32 y)) c.number_of.ensures ∙ number_word (number_of w) (number_fits w (omega arith)) in
    subst (λ (y : ℤ). ConvertsText c.args.text.now c.args.out.now y c.convert.new.out) (sym z) (refused (c.before)).2

pub ligcols_convert_spec : {M : Type 1} → statement M
ligcols_convert_spec =
    tie.close
    (tie.spec
    convert-requires
    enum-known-n
    cast-result
    enum-known-n-2
    sub-number-of
    sub-number-of-2
    number-of-requires
    same_length
    returns
    same-length-2
    returns-2)
