-- From a text that is read and shared to the text that it becomes, and what is known of its number and length. Over plain values.
-- Assumes nothing.
use mathlib.Core.Path.{◌≡◌, refl, sym, ap, subst, ◌∙◌}
use mathlib.Core.Bool.{Bool, true, false, cond}
use mathlib.Core.List.{List, [], ◌∷◌}
use mathlib.Core.Option.{Option, none, some, some-injective}
use Prim.Native.Nat.{ℕ, zero, suc, ◌-◌, ◌/◌, ◌%◌, ◌<◌, ◌≤◌}
use native.Mathlib.Omega.{arith}
use lib.IntN.{ℤ, pos, negsuc}
use lib.Dec.{leb, ltb, eqb}
use lib.ListN.{length, get_or, take, drop, replicate, length-take, length-drop}
use lib.Seq.{take_all}
use lib.Signed.{non_neg}
use borrow.Author.Tests.{le-leb, leb-true}
use Rattle.words.specs.Words.{number_of}
use Rattle.words.proofs.Bits.{number_neg}
use Rattle.lang.specs.declared.Written.{Written}
use Rattle.lang.specs.declared.Written.TheVariants as written
use Rattle.lang.specs.Every.{both, every}
use Rattle.lang.specs.Records.{count, is_instruction, absent_or}
use Rattle.lang.specs.Checks.{unless, or_else, lower, size_refusal, record_refusal, program_refusal, kerns_refusal, entries_refusal, absent_refusal, design_refusal, entry_fits}
use Rattle.lang.specs.Checks.{is_letter}
use Rattle.lang.specs.Answers.{Reply, list_of, room_refusal}
use Rattle.lang.proofs.Refusals.{lower_few}
use Rattle.program_kerns.proofs.SharedKerns.{kerns_least}
use Rattle.fonts.specs.Fonts.{Font, font_of}
use Rattle.fonts.specs.Compiled.{font_refusal}
use Rattle.captions.specs.Begin.{letters_refusal}
use Rattle.columns.specs.declared.TextHeads.{TextHeads}
use Rattle.std.specs.Prelude as rust
use Rattle.columns.specs.Lines.{lines_of}
use Rattle.columns.specs.Texts.{Text, or_absent, read_lines, read_text, shared_text, font_of_text}
use Rattle.columns.specs.Scanned.{letters_in, head_numbers, text_heads, ReadsText, ReadsTextAs}
use Rattle.columns.specs.Ligcols.{signs_refusal, word_of_text, length_or}
use Rattle.columns.specs.Converting.{added_kerns, converted_bytes, converted_by, converted_text, convert_number, ConvertsText}
use Rattle.columns.proofs.ConvertedLengths.{converted_length}
use Rattle.columns.proofs.Options.{cond_some, none_some}
use Rattle.columns.proofs.Saying.{text_said}
use Rattle.text_convert_lines.specs.Anew.{lines_anew, PutsAnew}
use Rattle.text_font_reply.specs.Answering.{AnswersBytes}
use Rattle.text_font_reply.proofs.Laws.{count_known, refused_known}
use Rattle.text_shared.specs.Fronts.{SharesText}
use Rattle.text_shared.proofs.Laws.{read_and_shared}
use Rattle.text_convert_refusal.specs.Judging.{said_refusal, anew_refusal}
use Rattle.text_convert_refusal.proofs.Laws.{none_refused}
use Rattle.text_convert.specs.Lengths.{LengthKnown}

-- ---- what is written

-- a refusal
pub number_answers : (n m : ℕ) (bytes out out' : List ℕ) → n ≡ m → (n ≡ 0 → ⊥) → out' ≡ replicate (length out) 0 →
    AnswersBytes m bytes out (written.Refused n) out'
number_answers zero m bytes out out' e h z = absurd (h refl)
number_answers (suc n) zero bytes out out' e h z = absurd (omega (arith, e))
number_answers (suc n) (suc m) bytes out out' e h z =
    record { answer = ap (λ (k : ℕ). record { number = k; values = [] }) e; list = z }

-- the text
pub bytes_answer : (m : ℕ) (bytes out out' : List ℕ) (r : ℕ) → m ≡ 0 → length bytes ≤ length out → PutsAnew bytes out r out' →
    AnswersBytes m bytes out (written.Count r) out'
bytes_answer (suc m) bytes out out' r e l p = absurd (omega (arith, e))
bytes_answer zero bytes out out' r e l p =
    let t = le-leb (length bytes) (length out) l in
    record {
      answer = ap (λ (k : ℕ). record { number = 0; values = pos k ∷ [] }) (p.answer ∙ ap (λ (b : Bool). cond b (length bytes) 0) t);
      list = p.list ∙ ap (λ (b : Bool). list_of (cond b 0 15) 0 (length out) bytes) t;
    }

-- what is left of a list, as it is lent
pub rest_is : (k : ℕ) (l : List ℤ) → take (length l - k) (drop k l) ≡ drop k l
rest_is k l = take_all (length l - k) (drop k l) (omega (arith, length-drop k l))

pub answers_as : {m m' : ℕ} {bytes bytes' out out' : List ℕ} {r : Written} → m ≡ m' → bytes ≡ bytes' → AnswersBytes m bytes out r out' →
    AnswersBytes m' bytes' out r out'
answers_as {m} {m'} {bytes} {bytes'} {out} {out'} {r} p q a =
    subst (λ (k : ℕ). AnswersBytes k bytes' out r out') p (subst (λ (bs : List ℕ). AnswersBytes m bs out r out') q a)

-- ---- a text that is read and shared

-- what the heads and the fronts of the lists say
pub record Meant (bytes : List ℕ) (h : TextHeads) (m : ℕ) (is ks es : List ℤ) (ws : List ℕ) : Type 0 where
  pub said : Text
  pub read : read_text bytes ≡ some said
  pub own : h.kerns ≡ length said.kerns
  pub instructions : take h.instructions is ≡ (shared_text said).instructions
  pub kerns : take m ks ≡ (shared_text said).kerns
  pub entries : take h.entries es ≡ said.entries
  pub boundary : h.boundary ≡ or_absent said.boundary
  pub left : h.left ≡ or_absent said.left
  pub design : h.design ≡ said.design
  pub word : take (letters_in h.letters) ws ≡ word_of_text said
  pub few : (h.instructions ≤ 2048) × (m ≤ 1024) × (h.entries ≤ 5040) × (letters_in h.letters ≤ 64)
  pub long : (length is ≡ 2048) × (length ks ≡ 1024) × (length es ≡ 5040) × (length ws ≡ 64)

pub meant : (bytes : List ℕ) {h : TextHeads} {is own es : List ℤ} {ws : List ℕ} → ReadsText bytes (rust.Some h) is own es ws → {m : ℕ} {is' ks : List ℤ} →
    SharesText h.instructions h.kerns is own m is' ks → Meant bytes h m is' ks es ws
meant bytes {h} {is} {own} {es} {ws} a {m} {is'} {ks} g = by (read_text bytes) refl a
  where
    by : (o : Option Text) → read_text bytes ≡ o → ReadsTextAs o 512 (rust.Some h) is own es ws → Meant bytes h m is' ks es ws
    by none e a = absurd (let s = text_said a in none_some s.read)
    by (some t) e a =
        let v : head_numbers h ≡ text_heads t = ap (λ (r : Reply). r.values) a.answer in
        let s = text_said (read_and_shared (some t) a g) in
        let q : s.said ≡ shared_text t = sym (some-injective (shared_text t) s.said s.read) in
        record {
          said = t;
          read = e;
          own = cc;
          instructions = s.instructions ∙ ap (λ (x : Text). x.instructions) q;
          kerns = s.kerns ∙ ap (λ (x : Text). x.kerns) q;
          entries = s.entries ∙ ap (λ (x : Text). x.entries) q;
          boundary = s.boundary ∙ ap (λ (x : Text). or_absent x.boundary) q;
          left = s.left ∙ ap (λ (x : Text). or_absent x.left) q;
          design = s.design ∙ ap (λ (x : Text). x.design) q;
          word = s.word ∙ ap word_of_text q;
          long = (read_and_shared (some t) a g).long;
          few = (s.few_instructions, s.few_kerns, s.few_entries, s.few_letters);
        }

module _ {bytes : List ℕ} {h : TextHeads} {m : ℕ} {is ks es : List ℤ} {ws : List ℕ} (a : Meant bytes h m is ks es ws) where
  abbrev t : Text
  t = a.said

  same_bytes : (o : Option (List (List ℕ))) → lines_anew (shared_text t).instructions (added_kerns t) o ≡ converted_bytes t o
  same_bytes none = refl
  same_bytes (some ls) = refl

  pub bytes_are : lines_anew (take h.instructions is) (drop h.kerns (take m ks)) (lines_of bytes) ≡ converted_text bytes
  bytes_are =
      (λ i. lines_anew (a.instructions i) (drop (a.own i) (a.kerns i)) (lines_of bytes))
      ∙ same_bytes (lines_of bytes)
      ∙ sym (ap (λ (o : Option Text). converted_by o bytes) a.read)

  kerns_long : length (take m ks) ≡ length (shared_text t).kerns
  kerns_long = ap length a.kerns

  pub length_known : LengthKnown bytes h.kerns (take h.instructions is) (take m ks)
  length_known =
      let l = kerns_least t.instructions t.kerns (count t.instructions) in
      let c = cond_some (leb (length bytes) 65536) (read_lines (lines_of bytes)) t a.read in
      record {
        own = omega (arith, l, a.own, kerns_long);
        few = (leb-true (length bytes) 65536 c.0, omega (arith, length-take m ks, a.few.1));
        long =
            ap length bytes_are ∙ converted_length bytes t a.read
            ∙ omega (arith, length-drop (length t.kerns) (shared_text t).kerns, a.own, kerns_long);
      }

  -- the number, as the code finds it
  pub number_is : (room bad letters : ℕ) →
      bad ≡ said_refusal h (take h.instructions is) (take m ks) (take h.entries es) (take (letters_in h.letters) ws) →
      letters ≡ letters_refusal (take (letters_in h.letters) ws) →
      anew_refusal (length (take m ks)) (length (lines_anew (take h.instructions is) (drop h.kerns (take m ks)) (lines_of bytes))) bad letters room ≡
      convert_number (read_text bytes) (converted_text bytes) room
  number_is room bad letters b c =
      let f : said_refusal h (take h.instructions is) (take m ks) (take h.entries es) (take (letters_in h.letters) ws)
      ≡ lower (font_refusal (font_of_text t)) (signs_refusal (word_of_text t)) = (λ i. lower
      (font_refusal (font_of (a.instructions i) (a.kerns i) (a.entries i) (a.boundary i) (a.left i) (a.design i))) (signs_refusal (a.word i))) in
      let bl = b ∙ f in
      let cl = c ∙ ap letters_refusal a.word in
      (λ i. anew_refusal (kerns_long i) (length (bytes_are i)) (bl i) (cl i) room)
      ∙ sym (ap (λ (o : Option Text). convert_number o (converted_text bytes) room) a.read)

-- ---- every number is at most 20, and what is written at most 65,536 bytes

few_if : (m n : ℕ) (t : Bool) → n ≤ m → cond t 0 n ≤ m
few_if m n true l = omega arith
few_if m n false l = l

or_few : (m a b : ℕ) → a ≤ m → b ≤ m → or_else a b ≤ m
or_few m zero b la lb = lb
or_few m (suc a) b la lb = la

font_few : (f : Font) → font_refusal f ≤ 20
font_few f =
    let p = or_few 20 (size_refusal f.instructions) (record_refusal f.instructions)
    (few_if 20 1 (both (eqb (length f.instructions % 4) 0) (leb (count f.instructions) 32767)) (omega arith))
    (few_if 20 2 (every (count f.instructions) (is_instruction f.instructions)) (omega arith)) in
    let e = or_few 20 (absent_refusal 65535 f.left) (design_refusal f.design) (few_if 20 4 (absent_or 65535 f.left) (omega arith))
    (few_if 20 5 (non_neg f.design) (omega arith)) in
    let b = or_few 20 (absent_refusal 255 f.boundary) (or_else (absent_refusal 65535 f.left) (design_refusal f.design))
    (few_if 20 4 (absent_or 255 f.boundary) (omega arith)) e in
    let n = or_few 20 (entries_refusal 65535 f.entries)
    (or_else (absent_refusal 255 f.boundary) (or_else (absent_refusal 65535 f.left) (design_refusal f.design)))
    (few_if 20 4 (both (eqb (length f.entries % 2) 0) (every (length f.entries / 2) (entry_fits 65535 f.entries))) (omega arith)) b in
    let k = or_few 20 (kerns_refusal f.kerns)
    (or_else (entries_refusal 65535 f.entries)
    (or_else (absent_refusal 255 f.boundary) (or_else (absent_refusal 65535 f.left) (design_refusal f.design))))
    (few_if 20 3 (leb (length f.kerns) 32767) (omega arith)) n in
    or_few 20 (program_refusal f.instructions)
    (or_else (kerns_refusal f.kerns)
    (or_else (entries_refusal 65535 f.entries)
    (or_else (absent_refusal 255 f.boundary) (or_else (absent_refusal 65535 f.left) (design_refusal f.design))))) p k

pub convert_few : (o : Option Text) (bytes : List ℕ) (room : ℕ) → convert_number o bytes room ≤ 20
convert_few none bytes room = omega arith
convert_few (some t) bytes room =
    let w = word_of_text t in
    let s = few_if 20 4 (every (length w) (λ i. ltb (get_or w i 0) 2147483648)) (omega arith) in
    let l = few_if 20 20 (every (length w) (λ i. is_letter (get_or w i 0))) (omega arith) in
    let r = or_few 20 (room_refusal (length bytes) room) (letters_refusal w) (few_if 20 15 (leb (length bytes) room) (omega arith)) l in
    let f = or_few 20 (lower (font_refusal (font_of_text t)) (signs_refusal w)) (or_else (room_refusal (length bytes) room) (letters_refusal w))
    (lower_few 20 (font_refusal (font_of_text t)) (signs_refusal w) (font_few (font_of_text t)) s) r in
    or_few 20 (unless 16 (both (leb (length (shared_text t).kerns) 512) (leb (length bytes) 65536)))
    (or_else (lower (font_refusal (font_of_text t)) (signs_refusal w)) (or_else (room_refusal (length bytes) room) (letters_refusal w)))
    (few_if 20 16 (both (leb (length (shared_text t).kerns) 512) (leb (length bytes) 65536)) (omega arith)) f

pub convert_short : (o : Option Text) (bytes : List ℕ) (room : ℕ) → convert_number o bytes room ≡ 0 → length bytes ≤ 65536
convert_short none bytes room e = absurd (omega (arith, e))
convert_short (some t) bytes room e =
    (none_refused (length (shared_text t).kerns) (length bytes) (lower (font_refusal (font_of_text t)) (signs_refusal (word_of_text t)))
    (letters_refusal (word_of_text t)) room e).0

-- ---- the length, or minus the number

minus : (n m : ℕ) → 0 < n → negsuc (n - 1) ≡ length_or n m
minus zero m h = absurd (omega (arith, h))
minus (suc n) m h = ap negsuc (omega arith)

pub length_converted : {bytes out out' : List ℕ} (n : ℕ) →
    AnswersBytes (convert_number (read_text bytes) (converted_text bytes) (length out)) (converted_text bytes) out (written.Count n) out' →
    (n ≤ 65536) × ConvertsText bytes out (pos n) out'
length_converted {bytes} {out} n a =
    let k = count_known (convert_number (read_text bytes) (converted_text bytes) (length out)) n (length (converted_text bytes)) a.answer in (
      omega (arith, k.1, convert_short (read_text bytes) (converted_text bytes) (length out) k.0),
      record { answer = ap pos k.1 ∙ sym (ap (λ (m : ℕ). length_or m (length (converted_text bytes))) k.0); list = a.list },
    )

pub number_converted : {bytes out out' : List ℕ} (n : ℕ) →
    AnswersBytes (convert_number (read_text bytes) (converted_text bytes) (length out)) (converted_text bytes) out (written.Refused n) out' →
    (0 < n) × (n ≤ 20) × ConvertsText bytes out (number_of (4294967295 - (n - 1))) out'
number_converted {bytes} {out} n a =
    let k = refused_known (convert_number (read_text bytes) (converted_text bytes) (length out)) n (length (converted_text bytes)) a.answer in
    let few : n ≤ 20 = omega (arith, k.0, convert_few (read_text bytes) (converted_text bytes) (length out)) in
    let w : 4294967296 - suc (4294967295 - (n - 1)) ≡ n - 1 = omega (arith, k.1, few) in
    let z : number_of (4294967295 - (n - 1)) ≡ negsuc (n - 1) = number_neg (4294967295 - (n - 1)) (omega (arith, few)) ∙ ap negsuc w in (
      k.1,
      few,
      record {
        answer = z ∙ minus n (length (converted_text bytes)) k.1 ∙ ap (λ (m : ℕ). length_or m (length (converted_text bytes))) k.0;
        list = a.list;
      },
    )
