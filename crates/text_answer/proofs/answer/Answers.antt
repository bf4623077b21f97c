-- `text_answer::answer` meets its contract: 16, or what `answer_font` answers for what the text says.
-- Assumes nothing.
use Rattle.std.proofs.Common.{◌≡◌, rules, length, take, ap, ◌∙◌, w32}
use mir.Val.{SFits}
use Rattle.words.proofs.Bits.{number_word}
use Rattle.fonts.specs.Fonts.{font_of}
use Rattle.columns.specs.Scanned.{letters_in, shared_read}
use Rattle.columns.specs.Texts.{read_text}
use Rattle.columns.specs.Ligcols.{column_number, column_bytes}
use Rattle.columns.proofs.Saying.{Said, text_said}
use Rattle.text_answer.proofs.TextLaws.{answers_as, said_answer}
use Rattle.text_answer.proofs.answer.Goals as goal

pub returns : goal.returns
returns c =
    let h = c.in-Some.heads in
    let is = c.read_shared.new.instructions in
    let ks = c.read_shared.new.kerns in
    let es = c.read_shared.new.entries in
    let ws = c.read_shared.new.word in
    let m = length c.args.reply.now in
    let w : Said (shared_read (read_text c.args.text.now)) 1024 h is ks es ws = text_said c.in-Some.ensures in
    let fd : SFits w32 h.design = search rules in
    let fb : SFits w32 h.boundary = search rules in
    let fl : SFits w32 h.left = search rules in
    let fn : SFits w32 h.letters = search rules in
    let d = number_word h.design fd in
    let b = number_word h.boundary fb in
    let e = number_word h.left fl in
    let n = number_word h.letters fn in
    let q : c.letters_in-n.result ≡ letters_in h.letters = c.letters_in-n.ensures ∙ ap letters_in n in
    said_answer c.args.text.now w
    (answers_as (λ i. column_number (font_of (take h.instructions is) (take h.kerns ks) (take h.entries es) (b i) (e i) (d i)) (n i) (take (q i) ws) m)
    (λ i. column_bytes (font_of (take h.instructions is) (take h.kerns ks) (take h.entries es) (b i) (e i) (d i)) (n i) (take (q i) ws))
    c.answer_font.ensures)
