use Rattle.std.proofs.Common.{ℕ, ℤ, List, ◌+◌, ap, ◌∙◌, get_or, negsuc, arith}
use Rattle.files.specs.Lengths.{char_count}
use Rattle.files.specs.Sections.{byte_of, char_byte, words_in_front}
use Rattle.file_words.specs.Fours.{four_bytes}
use Rattle.file_words.proofs.Sections.{words_none, words_more, words_all}
use Rattle.file_chars.proofs.write_chars.Goals as goal

-- byte j of the character's word i, from the first character and its word on
abbrev old_byte : List ℕ → List ℤ → ℕ → ℕ → ℕ → ℕ → ℕ
old_byte old table first start i = char_byte old (get_or table (first + i) (negsuc 0)) (start + i)

pub loop-i-init : goal.loop-i-init
loop-i-init c =
    let a = c.args in words_none (old_byte a.old.now a.table.now a.lengths.bc c.char_start-start.result) a.out.now

pub loop-i-preserved : goal.loop-i-preserved
loop-i-preserved c =
    let a = c.args in
    let start = c.char_start-start.result in
    words_more (old_byte a.old.now a.table.now a.lengths.bc start) a.out.now c.char_count.result c.put_four.new.out
    (four_bytes (byte_of c.char_word.result)) c.min-n.ensures c.loop-i-test.true c.loop-i.invariant
    (c.char_word.ensures ∙ ap (λ (z : ℤ). four_bytes (char_byte a.old.now z (start + c.loop-i.i))) c.entry_word-entry.ensures)
    c.put_four.ensures

pub returns : goal.returns
returns c =
    let a = c.args in
    words_all (old_byte a.old.now a.table.now a.lengths.bc c.char_start-start.result) a.out.now c.char_count.result c.min-n.result
    c.min-n.ensures (omega arith) c.loop-i-test.false c.loop-i.invariant
    ∙ ap (λ (k : ℕ). words_in_front k (old_byte a.old.now a.table.now a.lengths.bc c.char_start-start.result) a.out.now) c.char_count.ensures
    ∙ ap (λ (k : ℕ). words_in_front (char_count a.lengths) (old_byte a.old.now a.table.now a.lengths.bc k) a.out.now) c.char_start-start.ensures
