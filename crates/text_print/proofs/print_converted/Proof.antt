-- `text_print::print_converted` meets its contract: what `ligcols_convert` wrote, or the line N over the zeros that it left.
-- Assumes nothing.
use mathlib.Core.Path.{◌≡◌, subst, ◌∙◌}
use mathlib.Core.List.{List}
use Prim.Native.Nat.{ℕ}
use lib.IntN.{ℤ}
use lib.ListN.{length, take}
use borrow.Author.Rules.{rules}
use Rattle.words.specs.Words.{word_of, number_of}
use Rattle.words.proofs.Bits.{number_word}
use Rattle.columns.specs.Texts.{read_text}
use Rattle.columns.specs.Converting.{converted_text, convert_number, ConvertsText}
use Rattle.text_convert.proofs.Laws.{convert_few}
use Rattle.text_print.specs.Printing.{PrintsNumber}
use Rattle.text_print.proofs.Laws.{is_answer, converted_printed}
use Rattle.text_print.proofs.print_converted.Statement.{statement}
use Rattle.text_print.proofs.print_converted.Tie as tie

abbrev start : tie.After-ligcols_convert-answer → tie.Start
start l = l.before.before.before.before

-- what `ligcols_convert` answered for the bytes that were read
answered : (l : tie.After-ligcols_convert-answer) →
    ConvertsText (take (start l).args.got (start l).args.read.now) (start l).args.out.now l.ligcols_convert-answer.result l.ligcols_convert-answer.new.out
answered l =
    subst (λ (t : List ℕ). ConvertsText t (start l).args.out.now l.ligcols_convert-answer.result l.ligcols_convert-answer.new.out) l.front.ensures
    l.ligcols_convert-answer.ensures

-- .. which is passed on by its bits
passed : (l : tie.After-ligcols_convert-answer) → number_of (word_of l.ligcols_convert-answer.result) ≡ l.ligcols_convert-answer.result
passed l = number_word l.ligcols_convert-answer.result (record { sfits = l.ligcols_convert-answer.type_inv })

-- how long the lists are that were lent
read-long : (l : tie.After-ligcols_convert-answer) → length (start l).args.read.now ≡ 65537
read-long l = search rules

out_long : (l : tie.After-ligcols_convert-answer) → length (start l).args.out.now ≡ 65536
out_long l = search rules

front-requires : tie.Need-front-requires
front-requires c κs = search rules

ligcols-convert-requires : tie.Need-ligcols_convert-answer-requires
ligcols-convert-requires c κs = search rules

print-number-requires : tie.Need-print_number-requires
print-number-requires c κs = (
  search rules,
  is_answer (convert_number (read_text (take (start (c.before)).args.got (start (c.before)).args.read.now)) (converted_text (take (start (c.before)).args.got (start (c.before)).args.read.now)) (length (start (c.before)).args.out.now)) (length (converted_text (take (start (c.before)).args.got (start (c.before)).args.read.now)))
      (convert_few (read_text (take (start (c.before)).args.got (start (c.before)).args.read.now)) (converted_text (take (start (c.before)).args.got (start (c.before)).args.read.now)) (length (start (c.before)).args.out.now)) (passed (c.before) ∙ (answered (c.before)).answer),
)

returns : tie.Need-returns
returns c =
    let o = c.print_number.new.out in
    converted_printed (start (c.before.before)).args.read.now (start (c.before.before)).args.got (read-long (c.before.before)) (out_long (c.before.before)) (c.print_number.auto.out ∙ c.ligcols_convert-answer.auto.out)
    (subst (λ (z : ℤ). PrintsNumber z c.ligcols_convert-answer.new.out c.print_number.result o) (passed (c.before.before)) c.print_number.ensures) (answered (c.before.before))

pub print_converted_spec : {M : Type 1} → statement M
print_converted_spec =
    tie.close
    (tie.spec
    front-requires
    ligcols-convert-requires
    print-number-requires
    returns)
