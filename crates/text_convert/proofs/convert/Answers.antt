-- `text_convert::convert` meets its contract: 16, or what `convert_shared` answers for what the text says with its kern values shared. Assumes nothing.
use Rattle.std.proofs.Common.{◌≡◌, ℕ, rules, length, take, ap, ◌∙◌, w32}
use mir.Val.{SFits}
use Rattle.words.proofs.Bits.{number_word}
use Rattle.captions.specs.Begin.{letters_refusal}
use Rattle.columns.specs.Scanned.{letters_in}
use Rattle.text_convert_refusal.specs.Judging.{said_refusal}
use Rattle.text_convert.proofs.Laws.{meant, bytes_are, length_known, number_is, answers_as}
use Rattle.text_convert.proofs.convert.Goals as goal

pub convert_shared-requires : goal.convert_shared-requires
convert_shared-requires c = length_known (meant c.args.text.now c.in-Some.ensures c.share_text-m.ensures)

pub returns : goal.returns
returns c =
    let h = c.in-Some.said in
    let a = c.args in
    let w = meant a.text.now c.in-Some.ensures c.share_text-m.ensures in
    let is = c.share_text-m.new.instructions in
    let ks = c.share_text-m.new.kerns in
    let es = c.read_text.new.entries in
    let ws = c.read_text.new.word in
    let fl : SFits w32 h.letters = search rules in
    let q : c.letters_in.result ≡ letters_in h.letters = c.letters_in.ensures ∙ ap letters_in (number_word h.letters fl) in
    let bad : c.said_refusal-bad.result
    ≡ said_refusal h (take h.instructions is) (take c.share_text-m.result ks) (take h.entries es) (take (letters_in h.letters) ws) =
    c.said_refusal-bad.ensures
    ∙ ap (λ (n : ℕ). said_refusal h (take h.instructions is) (take c.share_text-m.result ks) (take h.entries es) (take n ws)) q in
    let letters = ap (λ (n : ℕ). letters_refusal (take n ws)) q in
    answers_as (number_is w (length a.out.now) c.said_refusal-bad.result _ bad letters) (bytes_are w) c.convert_shared.ensures
