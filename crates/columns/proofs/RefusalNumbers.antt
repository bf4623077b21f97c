-- The numbers that refuse a text. Not 1 or 3: its I lines are in fours, and these, its K lines and the kerns that are added are few. Not 6 or 7: once compiling
-- accepts its font, and its letters are characters, begin and every step accept its word. Assumes nothing.
use mathlib.Core.Path.{◌≡◌, refl}
use mathlib.Core.Bool.{Bool, true, false, cond}
use mathlib.Core.List.Memᴰ
use mathlib.Core.List.{List, [], ◌∷◌, Memᴰ}
use mathlib.Core.Option.{Option, none, some}
use Prim.Native.Nat.{ℕ, zero, suc, ◌*◌, ◌/◌, ◌%◌, ◌<◌, ◌≤◌}
use native.Mathlib.Omega.{arith}
use lib.IntN.{ℤ, negsuc}
use lib.Dec.{leb, ltb, eqb}
use lib.ListN.{length, get_or}
use lib.Signed.{non_neg}
use borrow.Author.Tests.{le-leb}
use Rattle.lang.specs.Every.{both, every}
use Rattle.lang.specs.Records.{count, is_instruction, absent_or}
use Rattle.lang.specs.Checks.{unless, or_else, lower, size_refusal, kerns_refusal, entry_fits, is_letter}
use Rattle.lang.proofs.Refusals.{lower_none}
use Rattle.program_kerns.proofs.SharedKerns.{kerns_few, shared_length}
use Rattle.fonts.specs.Fonts.{Font, pairs_of}
use Rattle.fonts.specs.Compiled.{Room, loops_of_font, total_ops, font_table, font_ops, font_loops, all_scale, font_refusal, compile_refusal}
use Rattle.captions.specs.Begin.{letters_refusal}
use Rattle.columns.specs.Texts.{Text, read_text, font_of_text}
use Rattle.columns.specs.Scanned.{length_of_word}
use Rattle.columns.specs.Replying.{reply_bytes, reply_refusal}
use Rattle.columns.specs.Ligcols.{column_room, column_items, column_bytes, signs_refusal, or_lower, word_of_text, number_of_text}
use Rattle.columns.specs.Purpose.{refusals_of_texts, TextNumbers}
use Rattle.columns.proofs.TextLaws.{Known, text_known}
use Rattle.columns.proofs.WordRead.{word_none, set_or_15, word_short}

-- ---- 0, or one of the numbers

abbrev Told : ℕ → Type 0
Told n = Memᴰ n (0 ∷ refusals_of_texts)

there : (xs : List ℕ) (i : ℕ) → i < length xs → Memᴰ (get_or xs i 0) xs
there [] i h = absurd (omega arith)
there (x ∷ xs) zero h = Memᴰ.head refl
there (x ∷ xs) (suc i) h = Memᴰ.tail (there xs i (omega arith))

-- the number at a place of the list
told : (i : ℕ) → i < 10 → Told (get_or (0 ∷ refusals_of_texts) i 0)
told i h = there (0 ∷ refusals_of_texts) i h

unless_told : {n : ℕ} (b : Bool) → Told n → Told (unless n b)
unless_told true h = told 0 (omega arith)
unless_told false h = h

-- the second is asked where the first is 0
or_by : {m n : ℕ} → Told m → (m ≡ 0 → Told n) → Told (or_else m n)
or_by {m = zero} h k = k refl
or_by {m = suc m} h k = h

or_told : {m n : ℕ} → Told m → Told n → Told (or_else m n)
or_told h k = or_by h (λ _. k)

lower_told : {m n : ℕ} → Told m → Told n → Told (lower m n)
lower_told {m = zero} h k = k
lower_told {m = suc m} {n = zero} h k = h
lower_told {m = suc m} {n = suc n} h k = by (leb m n)
  where
    by : (b : Bool) → Told (cond b (suc m) (suc n))
    by true = h
    by false = k

word_told : {m n : ℕ} → Told m → Told n → Told (or_lower m n)
word_told {m = zero} h k = h
word_told {m = suc m} h k = lower_told h k

-- ---- compiling

module _ (f : Font) (fours : length f.instructions % 4 ≡ 0) (few : length f.instructions ≤ 2048) (kerns : length f.kerns ≤ 1024) where
  no_1 : size_refusal f.instructions ≡ 0
  no_1 = rw (fours, le-leb (count f.instructions) 32767 (omega arith))

  no_3 : kerns_refusal f.kerns ≡ 0
  no_3 = rw (le-leb (length f.kerns) 32767 (omega arith))

  font_told : Told (font_refusal f)
  font_told =
      let es = f.entries in
      let s = f.instructions in
      or_told (or_told (Memᴰ.cast no_1 (told 0 (omega arith))) (unless_told (every (count s) (is_instruction s)) (told 1 (omega arith))))
      (or_told (Memᴰ.cast no_3 (told 0 (omega arith)))
      (or_told (unless_told (both (eqb (length es % 2) 0) (every (length es / 2) (entry_fits 65535 es))) (told 2 (omega arith)))
      (or_told (unless_told (absent_or 255 f.boundary) (told 2 (omega arith)))
      (or_told (unless_told (absent_or 65535 f.left) (told 2 (omega arith))) (unless_told (non_neg f.design) (told 3 (omega arith)))))))

  compile_told : (room : Room) → Told (compile_refusal f room)
  compile_told room =
      or_told font_told
      (or_told (unless_told (both (leb (length (pairs_of f)) (room.work / 16)) (leb (length (pairs_of f)) (room.pairs / 6))) (told 4 (omega arith)))
      (or_told (unless_told (all_scale f) (told 5 (omega arith)))
      (or_told (unless_told (both (leb (total_ops f) 2147483647) (leb (2 * total_ops f) room.ops)) (told 6 (omega arith)))
      (unless_told (leb (2 * length (loops_of_font f)) room.loops) (told 7 (omega arith))))))

-- ---- a text

module _ (t : Text) (k : Known t) where
  set_told : (o : Option (List ℤ)) → compile_refusal (font_of_text t) column_room ≡ 0 → letters_refusal (word_of_text t) ≡ 0 →
      Told (column_items (font_of_text t) (length_of_word o) (word_of_text t)).number
  set_told none c l = told 0 (omega arith)
  set_told (some zs) c l =
      let s = set_or_15 (font_of_text t) (word_of_text t) c l (word_short t k) in
      Memᴰ.cast s.1 (unless_told (leb s.0 885) (told 7 (omega arith)))

  known_told : (room : ℕ) → Told (number_of_text (some t) room)
  known_told room =
      let f = font_of_text t in
      let w = word_of_text t in
      let bytes = column_bytes f (length_of_word t.word) w in
      let long = shared_length t.instructions t.kerns in
      let alone = reply_bytes (font_table f) (font_ops f) (font_loops f) (negsuc 0) [] in
      or_by
      (lower_told
      (compile_told f (omega (arith, long, k.fours)) (omega (arith, long, k.instructions))
      (omega (arith, kerns_few t.instructions t.kerns (count t.instructions), k.instructions, k.kerns)) column_room)
      (unless_told (every (length w) (λ i. ltb (get_or w i 0) 2147483648)) (told 2 (omega arith))))
      (λ e. or_by
      (word_told (unless_told (every (length w) (λ i. is_letter (get_or w i 0))) (told 9 (omega arith)))
      (unless_told (both (leb (length alone) 65536) (leb (length alone) room)) (told 7 (omega arith))))
      (λ z. or_told
      (set_told t.word (lower_none (compile_refusal f column_room) (signs_refusal w) e).0 (word_none (letters_refusal w) (reply_refusal alone room) z))
      (unless_told (both (leb (length bytes) 65536) (leb (length bytes) room)) (told 7 (omega arith)))))

pub text_numbers : TextNumbers
text_numbers text room = by (read_text text) refl
  where
    by : (o : Option Text) → read_text text ≡ o → Told (number_of_text o room)
    by none e = told 8 (omega arith)
    by (some t) e = known_told t (text_known text t e) room
