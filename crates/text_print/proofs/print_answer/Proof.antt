-- `text_print::print_answer` meets its contract: what `ligcols` wrote, or the line N over the zeros that it left.
-- Assumes nothing.
use mathlib.Core.Path.{◌≡◌, subst, ◌∙◌}
use mathlib.Core.List.{List}
use Prim.Native.Nat.{ℕ}
use lib.IntN.{ℤ}
use lib.ListN.{length, take}
use borrow.Author.Rules.{rules}
use Rattle.words.specs.Words.{word_of, number_of}
use Rattle.words.proofs.Bits.{number_word}
use Rattle.columns.specs.Texts.{read_text}
use Rattle.columns.specs.Ligcols.{number_of_text, bytes_of_text, AnswersText}
use Rattle.text_answer.proofs.TextLaws.{text_few}
use Rattle.text_print.specs.Printing.{PrintsNumber}
use Rattle.text_print.proofs.Laws.{is_answer, answer_printed}
use Rattle.text_print.proofs.print_answer.Statement.{statement}
use Rattle.text_print.proofs.print_answer.Tie as tie

abbrev start : tie.After-ligcols-answer → tie.Start
start l = l.before.before.before.before

-- what `ligcols` answered for the bytes that were read
answered : (l : tie.After-ligcols-answer) →
    AnswersText (take (start l).args.got (start l).args.read.now) (start l).args.out.now l.ligcols-answer.result l.ligcols-answer.new.reply
answered l =
    subst (λ (t : List ℕ). AnswersText t (start l).args.out.now l.ligcols-answer.result l.ligcols-answer.new.reply) l.front.ensures
    l.ligcols-answer.ensures

-- .. which is passed on by its bits
passed : (l : tie.After-ligcols-answer) → number_of (word_of l.ligcols-answer.result) ≡ l.ligcols-answer.result
passed l = number_word l.ligcols-answer.result (record { sfits = l.ligcols-answer.type_inv })

-- how long the lists are that were lent
read-long : (l : tie.After-ligcols-answer) → length (start l).args.read.now ≡ 65537
read-long l = search rules

out_long : (l : tie.After-ligcols-answer) → length (start l).args.out.now ≡ 65536
out_long l = search rules

front-requires : tie.Need-front-requires
front-requires c κs = search rules

ligcols-requires : tie.Need-ligcols-answer-requires
ligcols-requires c κs = search rules

print-number-requires : tie.Need-print_number-requires
print-number-requires c κs = (
  search rules,
  is_answer (number_of_text (read_text (take (start (c.before)).args.got (start (c.before)).args.read.now)) (length (start (c.before)).args.out.now)) (length (bytes_of_text (read_text (take (start (c.before)).args.got (start (c.before)).args.read.now))))
      (text_few (read_text (take (start (c.before)).args.got (start (c.before)).args.read.now)) (length (start (c.before)).args.out.now)) (passed (c.before) ∙ (answered (c.before)).answer),
)

returns : tie.Need-returns
returns c =
    let o = c.print_number.new.out in
    answer_printed (start (c.before.before)).args.read.now (start (c.before.before)).args.got (read-long (c.before.before)) (out_long (c.before.before)) (c.print_number.auto.out ∙ c.ligcols-answer.auto.reply)
    (subst (λ (z : ℤ). PrintsNumber z c.ligcols-answer.new.reply c.print_number.result o) (passed (c.before.before)) c.print_number.ensures) (answered (c.before.before))

pub print_answer_spec : {M : Type 1} → statement M
print_answer_spec =
    tie.close
    (tie.spec
    front-requires
    ligcols-requires
    print-number-requires
    returns)
