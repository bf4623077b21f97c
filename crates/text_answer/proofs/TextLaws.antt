-- From a text that is read to its answer, and what is known of every answer's number and length. Over plain values.
-- Assumes nothing.
use mathlib.Core.Path.{◌≡◌, refl, sym, ap, subst, ◌∙◌}
use mathlib.Core.Bool.{Bool, true, false, cond}
use mathlib.Core.List.{List, [], ◌∷◌, map}
use mathlib.Core.Option.{Option, none, some, some-injective}
use Prim.Native.Nat.{ℕ, zero, suc, ◌-◌, ◌*◌, ◌/◌, ◌%◌, ◌<◌, ◌≤◌}
use native.Mathlib.Omega.{arith}
use lib.IntN.{ℤ, pos, negsuc}
use lib.Dec.{leb, ltb, eqb}
use lib.ListN.{length, take, get_or}
use lib.Signed.{non_neg}
use borrow.Author.Tests.{leb-true}
use Rattle.words.specs.Words.{number_of}
use Rattle.words.proofs.Bits.{number_neg}
use Rattle.lang.specs.declared.Written.{Written}
use Rattle.lang.specs.declared.Written.TheVariants as written
use Rattle.lang.specs.Every.{both, every}
use Rattle.lang.specs.Records.{count, is_instruction, absent_or}
use Rattle.lang.specs.Checks.{or_else, lower, size_refusal, record_refusal, program_refusal, kerns_refusal, entries_refusal, absent_refusal, design_refusal, entry_fits}
use Rattle.lang.specs.Checks.{is_letter}
use Rattle.lang.specs.Answers.{Reply, reply_of, list_of}
use Rattle.lang.proofs.Every.{both_left}
use Rattle.lang.proofs.Refusals.{or_else_none, lower_few, unless_none}
use Rattle.fonts.specs.Fonts.{Font, font_of, pairs_of}
use Rattle.fonts.specs.Compiled.{font_refusal, pairs_refusal, kern_refusal, ops_refusal, loops_refusal, tables_refusal, compile_refusal, font_table, font_ops, font_loops}
use Rattle.fonts.specs.Compiled.{total_ops, loops_of_font, all_scale}
use Rattle.captions.specs.Form.{table_form, table_refusal}
use Rattle.captions.specs.Begin.{fresh_state, edges_refusal, letters_refusal, word_refusal, begin_refusal, plain_options}
use Rattle.word_set.specs.Setting.{items_from, after_begin}
use Rattle.word_set.proofs.Bounds.{or_else_few}
use Rattle.word_set.proofs.Few.{items_few}
use Rattle.columns.specs.declared.TextHeads.{TextHeads}
use Rattle.columns.specs.Texts.{Text, read_text, shared_text, font_as_it_stands, font_of_text}
use Rattle.columns.specs.Scanned.{length_of_word, shared_read}
use Rattle.columns.specs.Replying.{reply_bytes, reply_refusal}
use Rattle.columns.specs.Ligcols.{column_room, column_items, column_bytes, column_number, word_of_text, number_of_text, bytes_of_text, length_or}
use Rattle.columns.specs.Ligcols.{signs_refusal, or_lower, word_number, AnswersText}
use Rattle.text_font_reply.specs.Answering.{AnswersBytes}
use Rattle.columns.specs.Scanned.{letters_in}
use Rattle.text_font_reply.proofs.Laws.{count_known, refused_known}
use Rattle.columns.proofs.Options.{none_some}
use Rattle.columns.proofs.Saying.{Said}

pub answers_as : {m m' : ℕ} {bytes bytes' reply reply' : List ℕ} {r : Written} → m ≡ m' → bytes ≡ bytes' → AnswersBytes m bytes reply r reply' →
    AnswersBytes m' bytes' reply r reply'
answers_as {m} {m'} {bytes} {bytes'} {reply} {reply'} {r} p q a =
    subst (λ (k : ℕ). AnswersBytes k bytes' reply r reply') p (subst (λ (bs : List ℕ). AnswersBytes m bs reply r reply') q a)

-- ---- a text that is not read

pub unread_number : (o : Option Text) → shared_read o ≡ none → (room : ℕ) → number_of_text o room ≡ 16
unread_number none e room = refl
unread_number (some t) e room = absurd (none_some (sym e))

-- ---- a text that is read

-- the font of a text is that of what was said, which is the text with its kern values shared
shared_is : (t u : Text) → shared_read (some t) ≡ some u → u ≡ shared_text t
shared_is t u e = sym (some-injective (shared_text t) u e)

said_number : (o : Option Text) (u : Text) → shared_read o ≡ some u → (room : ℕ) →
    column_number (font_as_it_stands u) (length_of_word u.word) (word_of_text u) room ≡ number_of_text o room
said_number none u e room = absurd (none_some e)
said_number (some t) u e room = ap (λ (v : Text). column_number (font_as_it_stands v) (length_of_word v.word) (word_of_text v) room) (shared_is t u e)

said_bytes : (o : Option Text) (u : Text) → shared_read o ≡ some u → column_bytes (font_as_it_stands u) (length_of_word u.word) (word_of_text u) ≡ bytes_of_text o
said_bytes none u e = absurd (none_some e)
said_bytes (some t) u e = ap (λ (v : Text). column_bytes (font_as_it_stands v) (length_of_word v.word) (word_of_text v)) (shared_is t u e)

-- the answer for what was said is that for the text
pub said_answer : (bytes : List ℕ) {h : TextHeads} {is ks es : List ℤ} {ws : List ℕ} (s : Said (shared_read (read_text bytes)) 1024 h is ks es ws)
    {reply reply' : List ℕ} {r : Written} →
    AnswersBytes
    (column_number (font_of (take h.instructions is) (take h.kerns ks) (take h.entries es) h.boundary h.left h.design) h.letters
    (take (letters_in h.letters) ws) (length reply))
    (column_bytes (font_of (take h.instructions is) (take h.kerns ks) (take h.entries es) h.boundary h.left h.design) h.letters
    (take (letters_in h.letters) ws)) reply r reply' →
    AnswersBytes (number_of_text (read_text bytes) (length reply)) (bytes_of_text (read_text bytes)) reply r reply'
said_answer bytes s {reply} a =
    answers_as
    ((λ i. column_number (font_of (s.instructions i) (s.kerns i) (s.entries i) (s.boundary i) (s.left i) (s.design i)) (s.letters i) (s.word i)
    (length reply)) ∙ said_number (read_text bytes) s.said s.read (length reply))
    ((λ i. column_bytes (font_of (s.instructions i) (s.kerns i) (s.entries i) (s.boundary i) (s.left i) (s.design i)) (s.letters i) (s.word i))
    ∙ said_bytes (read_text bytes) s.said s.read)
    a

-- ---- every number is at most 20

few_if : (m n : ℕ) (t : Bool) → n ≤ m → cond t 0 n ≤ m
few_if m n true l = omega arith
few_if m n false l = l

compile_few : (f : Font) → compile_refusal f column_room ≤ 15
compile_few f =
    let p = or_else_few 15 (size_refusal f.instructions) (record_refusal f.instructions)
    (few_if 15 1 (both (eqb (length f.instructions % 4) 0) (leb (count f.instructions) 32767)) (omega arith))
    (few_if 15 2 (every (count f.instructions) (is_instruction f.instructions)) (omega arith)) in
    let e = or_else_few 15 (absent_refusal 65535 f.left) (design_refusal f.design) (few_if 15 4 (absent_or 65535 f.left) (omega arith))
    (few_if 15 5 (non_neg f.design) (omega arith)) in
    let b = or_else_few 15 (absent_refusal 255 f.boundary) (or_else (absent_refusal 65535 f.left) (design_refusal f.design))
    (few_if 15 4 (absent_or 255 f.boundary) (omega arith)) e in
    let n = or_else_few 15 (entries_refusal 65535 f.entries)
    (or_else (absent_refusal 255 f.boundary) (or_else (absent_refusal 65535 f.left) (design_refusal f.design)))
    (few_if 15 4 (both (eqb (length f.entries % 2) 0) (every (length f.entries / 2) (entry_fits 65535 f.entries))) (omega arith)) b in
    let k = or_else_few 15 (kerns_refusal f.kerns)
    (or_else (entries_refusal 65535 f.entries)
    (or_else (absent_refusal 255 f.boundary) (or_else (absent_refusal 65535 f.left) (design_refusal f.design))))
    (few_if 15 3 (leb (length f.kerns) 32767) (omega arith)) n in
    let font = or_else_few 15 (program_refusal f.instructions)
    (or_else (kerns_refusal f.kerns)
    (or_else (entries_refusal 65535 f.entries)
    (or_else (absent_refusal 255 f.boundary) (or_else (absent_refusal 65535 f.left) (design_refusal f.design))))) p k in
    let o = or_else_few 15 (ops_refusal f column_room) (loops_refusal f column_room)
    (few_if 15 14 (both (leb (total_ops f) 2147483647) (leb (2 * total_ops f) column_room.ops)) (omega arith))
    (few_if 15 15 (leb (2 * length (loops_of_font f)) column_room.loops) (omega arith)) in
    let s = or_else_few 15 (kern_refusal f) (or_else (ops_refusal f column_room) (loops_refusal f column_room)) (few_if 15 13 (all_scale f) (omega arith)) o in
    let t = or_else_few 15 (pairs_refusal f column_room) (or_else (kern_refusal f) (or_else (ops_refusal f column_room) (loops_refusal f column_room)))
    (few_if 15 12 (both (leb (length (pairs_of f)) (column_room.work / 16)) (leb (length (pairs_of f)) (column_room.pairs / 6))) (omega arith)) s in
    or_else_few 15 (font_refusal f) (tables_refusal f column_room) font t

letters_few : (word : List ℕ) → letters_refusal word ≤ 20
letters_few word = few_if 20 20 (every (length word) (λ i. is_letter (get_or word i 0))) (omega arith)

begin_few : (pairs ops : List ℤ) (boundary : ℤ) (word : List ℕ) → begin_refusal pairs ops boundary word plain_options ≤ 20
begin_few pairs ops boundary word =
    let l = or_else_few 20 (letters_refusal word) 0 (letters_few word) (omega arith) in
    let t = or_else_few 20 (table_refusal pairs ops) (or_else (letters_refusal word) 0) (few_if 20 7 (table_form pairs ops) (omega arith)) l in
    let w = or_else_few 20 (word_refusal word) (or_else (table_refusal pairs ops) (or_else (letters_refusal word) 0))
    (few_if 20 6 (leb (length word) 65535) (omega arith)) t in
    let e = or_else_few 20 (absent_refusal 255 boundary) (absent_refusal 2147483647 (negsuc 0)) (few_if 20 4 (absent_or 255 boundary) (omega arith))
    (omega arith) in
    or_else_few 20 (edges_refusal boundary plain_options) (or_else (word_refusal word) (or_else (table_refusal pairs ops) (or_else (letters_refusal word) 0))) e w

after_few : (n : ℕ) (r : Reply) → n ≤ 20 → r.number ≤ 20 → (after_begin n r).number ≤ 20
after_few zero r l k = k
after_few (suc n) r l k = l

items_of_few : (f : Font) (letters : ℤ) (word : List ℕ) → (column_items f letters word).number ≤ 20
items_of_few f (pos n) word =
    after_few (begin_refusal (font_table f) (font_ops f) f.boundary word plain_options)
    (items_from (font_table f) (font_ops f) f.boundary word plain_options 885 (fresh_state word plain_options))
    (begin_few (font_table f) (font_ops f) f.boundary word)
    (items_few (font_table f) (font_ops f) f.boundary word plain_options 885 (fresh_state word plain_options))
items_of_few f (negsuc n) word = omega arith

reply_few : (bytes : List ℕ) (room : ℕ) → reply_refusal bytes room ≤ 20
reply_few bytes room = few_if 20 15 (both (leb (length bytes) 65536) (leb (length bytes) room)) (omega arith)

or_lower_few : (m n : ℕ) → m ≤ 20 → n ≤ 20 → or_lower m n ≤ 20
or_lower_few zero n h k = h
or_lower_few (suc m) n h k = lower_few 20 (suc m) n h k

column_few : (f : Font) (letters : ℤ) (word : List ℕ) (room : ℕ) → column_number f letters word room ≤ 20
column_few f letters word room =
    let alone = reply_bytes (font_table f) (font_ops f) (font_loops f) (negsuc 0) [] in
    let set = or_else (column_items f letters word).number (reply_refusal (column_bytes f letters word) room) in
    or_else_few 20 (lower (compile_refusal f column_room) (signs_refusal word)) (or_else (word_number (font_table f) (font_ops f) (font_loops f) word room) set)
    (lower_few 20 (compile_refusal f column_room) (signs_refusal word) (omega (arith, compile_few f))
    (few_if 20 4 (every (length word) (λ i. ltb (get_or word i 0) 2147483648)) (omega arith)))
    (or_else_few 20 (word_number (font_table f) (font_ops f) (font_loops f) word room) set
    (or_lower_few (letters_refusal word) (reply_refusal alone room) (letters_few word) (reply_few alone room))
    (or_else_few 20 (column_items f letters word).number (reply_refusal (column_bytes f letters word) room) (items_of_few f letters word)
    (reply_few (column_bytes f letters word) room)))

pub text_few : (o : Option Text) (room : ℕ) → number_of_text o room ≤ 20
text_few none room = omega arith
text_few (some t) room = omega (arith, column_few (font_of_text t) (length_of_word t.word) (word_of_text t) room)

-- ---- and every reply at most 65,536 bytes long

pub text_short : (o : Option Text) (room : ℕ) → number_of_text o room ≡ 0 → length (bytes_of_text o) ≤ 65536
text_short none room e = absurd (omega (arith, e))
text_short (some t) room e =
    let f = font_of_text t in
    let n = length_of_word t.word in
    let w = word_of_text t in
    let k = length (column_bytes f n w) in
    let set = or_else (column_items f n w).number (reply_refusal (column_bytes f n w) room) in
    let v = word_number (font_table f) (font_ops f) (font_loops f) w room in
    let a = (or_else_none v set (or_else_none (lower (compile_refusal f column_room) (signs_refusal w)) (or_else v set) e).1).1 in
    let b = (or_else_none (column_items f n w).number (reply_refusal (column_bytes f n w) room) a).1 in
    leb-true k 65536 (both_left (leb k 65536) (leb k room) (unless_none 14 (both (leb k 65536) (leb k room)) b))

-- ---- the length, or minus the number

pub length_answer : {text reply reply' : List ℕ} (n : ℕ) →
    AnswersBytes (number_of_text (read_text text) (length reply)) (bytes_of_text (read_text text)) reply (written.Count n) reply' →
    (n ≤ 65536) × AnswersText text reply (pos n) reply'
length_answer {text} {reply} n a =
    let k = count_known (number_of_text (read_text text) (length reply)) n (length (bytes_of_text (read_text text))) a.answer in (
      omega (arith, k.1, text_short (read_text text) (length reply) k.0),
      record { answer = ap pos k.1 ∙ sym (ap (λ (m : ℕ). length_or m (length (bytes_of_text (read_text text)))) k.0); list = a.list },
    )

minus : (n m : ℕ) → 0 < n → negsuc (n - 1) ≡ length_or n m
minus zero m h = absurd (omega (arith, h))
minus (suc n) m h = ap negsuc (omega arith)

pub number_answer : {text reply reply' : List ℕ} (n : ℕ) →
    AnswersBytes (number_of_text (read_text text) (length reply)) (bytes_of_text (read_text text)) reply (written.Refused n) reply' →
    (0 < n) × (n ≤ 20) × AnswersText text reply (number_of (4294967295 - (n - 1))) reply'
number_answer {text} {reply} n a =
    let k = refused_known (number_of_text (read_text text) (length reply)) n (length (bytes_of_text (read_text text))) a.answer in
    let few : n ≤ 20 = omega (arith, k.0, text_few (read_text text) (length reply)) in
    let w : 4294967296 - suc (4294967295 - (n - 1)) ≡ n - 1 = omega (arith, k.1, few) in
    let z : number_of (4294967295 - (n - 1)) ≡ negsuc (n - 1) = number_neg (4294967295 - (n - 1)) (omega (arith, few)) ∙ ap negsuc w in (
      k.1,
      few,
      record {
        answer = z ∙ minus n (length (bytes_of_text (read_text text))) k.1 ∙ ap (λ (m : ℕ). length_or m (length (bytes_of_text (read_text text)))) k.0;
        list = a.list;
      },
    )
