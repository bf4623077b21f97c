-- Laws of reading a file: its refusals in their order, what is known where none holds, and the contract of reading it.
-- Assumes nothing.
use mathlib.Core.Path.{◌≡◌, sym, ap, ◌∙◌}
use mathlib.Core.Bool.{true, cond}
use mathlib.Core.List.{List}
use Prim.Native.Nat.{ℕ, suc, ◌+◌, ◌-◌, ◌*◌, ◌/◌, ◌^◌, ◌<◌, ◌≤◌}
use native.Mathlib.Omega.{arith}
use lib.IntN.{ℤ, pos, negsuc}
use lib.Dec.{leb, ltb}
use lib.ListN.{length, replicate}
use borrow.Author.Tests.{leb-true, eqb-true}
use Rattle.words.specs.Words.{word_of, number_of}
use Rattle.words.specs.Lists.{Filling, Appending}
use Rattle.words.proofs.Bits.{word_number}
use Rattle.words.proofs.Lists.{length_tabulate, appending_rest}
use Rattle.lang.specs.Every.{both, every}
use Rattle.lang.specs.Answers.{reply_of, room_refusal, list_of}
use Rattle.lang.proofs.Every.{both_left, both_right, every_at}
use Rattle.lang.proofs.Refusals.{or_else_none, unless_none, room_fits, refused_reply, taken_reply}
use Rattle.lang.proofs.Filled.{refused_list, written_list}
use Rattle.files.specs.declared.FileLengths.{FileLengths}
use Rattle.files.specs.declared.Deserialized.{Deserialized}
use Rattle.files.specs.declared.Deserialized.TheVariants.{Font, Refused}
use Rattle.files.specs.Lengths.{file_half, lengths_of, char_count, char_start, command_start, kern_start, recipe_start, file_end, lengths_fit, lengths_refusal}
use Rattle.files.specs.Commands.{word_byte, is_first255, kern_number}
use Rattle.files.specs.Reading.{commands_from, entries_from, file_instructions, file_kerns, file_entries, file_boundary, file_left}
use Rattle.files.specs.Reading.{deserialized_reply, deserialize_refusal, font_values, Deserializes}
use Rattle.file_reading.specs.Writing.{WritesFont}
use Rattle.file_reading.proofs.Laws.{length_commands}

-- ---- 15, by the lengths that were read

module _ (file : List ℕ) (room : ℕ) {l : FileLengths} (e : l ≡ lengths_of file) {r : ℕ} where
  pub program_room : r ≡ room_refusal (4 * l.nl) room → r ≡ room_refusal (length (file_instructions file)) room
  program_room h =
      h
      ∙ ap (λ (n : ℕ). room_refusal n room)
      (ap (λ (x : FileLengths). 4 * x.nl) e ∙ sym (length_commands file (command_start (lengths_of file)) (lengths_of file).nl))

  pub kern_room : r ≡ room_refusal l.nk room → r ≡ room_refusal (length (file_kerns file)) room
  kern_room h =
      h
      ∙ ap (λ (n : ℕ). room_refusal n room)
      (ap (λ (x : FileLengths). x.nk) e ∙ sym (length_tabulate (lengths_of file).nk (λ i. kern_number file (kern_start (lengths_of file) + i))))

  pub entry_room : (w n k : ℕ) → w ≡ char_start l → n ≡ char_count l → ((c : ℕ) → length (entries_from file c w n) ≡ 2 * k) → r ≡ room_refusal (2 * k) room →
      r ≡ room_refusal (length (file_entries file)) room
  entry_room w n k a b g h =
      let p : length (entries_from file (lengths_of file).bc w n) ≡ length (file_entries file) = rw (a, b, e) in
      h ∙ ap (λ (m : ℕ). room_refusal m room) (sym (g (lengths_of file).bc) ∙ p)

-- ---- where nothing is refused

-- the lists have room, the characters are of 0 to 255, and the sections end at the last word; l is the file's lengths
pub record Taken (file : List ℕ) (l : FileLengths) (room kernRoom entryRoom : ℕ) : Type 0 where
  pub program : 4 * l.nl ≤ room
  pub kerns : l.nk ≤ kernRoom
  pub entries : length (entries_from file l.bc (char_start l) (char_count l)) ≤ entryRoom
  pub characters : l.bc + char_count l ≤ 256
  pub sections : recipe_start l ≤ 32767

fit : (l : FileLengths) → lengths_fit l ≡ true → (l.bc + char_count l ≤ 256) × (recipe_start l ≤ l.lf)
fit l t =
    let b = leb-true l.bc (suc l.ec) (both_left (leb l.bc (suc l.ec)) _ t) in
    let c = both_right (leb l.bc (suc l.ec)) _ t in
    let e = eqb-true l.lf (file_end l) (both_right (leb l.ec 255) _ c) in
    (omega (arith, b, leb-true l.ec 255 (both_left (leb l.ec 255) _ c)), omega (arith, e))

pub taken : (file : List ℕ) (room kernRoom entryRoom : ℕ) {l : FileLengths} → l ≡ lengths_of file →
    deserialize_refusal file room kernRoom entryRoom ≡ 0 → Taken file l room kernRoom entryRoom
taken file room kernRoom entryRoom e h =
    let a = or_else_none (lengths_refusal file) _ h in
    let b = or_else_none (room_refusal (length (file_instructions file)) room) _ a.1 in
    let c = or_else_none (room_refusal (length (file_kerns file)) kernRoom) _ b.1 in
    let p = room_fits (length (file_instructions file)) room b.0 in
    let k = room_fits (length (file_kerns file)) kernRoom c.0 in
    let t = unless_none 16 _ a.0 in
    let f = fit (lengths_of file) (both_left (lengths_fit (lengths_of file)) _ (both_right (every 12 (λ i. leb (file_half file i) 32767)) _ t)) in
    let m = every_at 12 0 (λ i. leb (file_half file i) 32767) (both_left (every 12 (λ i. leb (file_half file i) 32767)) _ t) (omega arith) in
    rw e
    (record {
      program = omega (arith, p, length_commands file (command_start (lengths_of file)) (lengths_of file).nl);
      kerns = rw length_tabulate at k;
      entries = room_fits (length (file_entries file)) entryRoom c.1;
      characters = f.0;
      sections = omega (arith, f.1, leb-true (file_half file 0) 32767 m);
    })

-- ---- what is written, by the lengths that were read

-- a word that is returned as a number
pub answered : {z y : ℤ} (b : ℕ) → b < 2 ^ 32 → z ≡ number_of b → number_of b ≡ y → number_of (word_of z) ≡ y
answered b h e g = ap (λ (x : ℤ). number_of (word_of x)) e ∙ ap number_of (word_number b h) ∙ g

module _ (file : List ℕ) {l : FileLengths} (e : l ≡ lengths_of file) {w : ℕ} where
  pub program_written : {d₀ d : List ℤ} → w ≡ command_start l → Appending (commands_from file w l.nl) d₀ d → Appending (file_instructions file) d₀ d
  program_written a h = rw (a, e) at h

  pub kerns_written : {d₀ d : List ℤ} → w ≡ command_start l → Filling (λ i. kern_number file (w + l.nl + i)) d₀ d l.nk →
      Filling (λ i. kern_number file (kern_start (lengths_of file) + i)) d₀ d (lengths_of file).nk
  kerns_written a h = rw (a, e) at h

  pub entries_written : {n : ℕ} {d₀ d : List ℤ} → w ≡ char_start l → n ≡ char_count l → Appending (entries_from file l.bc w n) d₀ d →
      Appending (file_entries file) d₀ d
  entries_written a b h = rw (a, b, e) at h

  pub entries_counted : {n m : ℕ} → w ≡ char_start l → n ≡ char_count l → m ≡ length (entries_from file l.bc w n) / 2 → m ≡ length (file_entries file) / 2
  entries_counted a b h = rw (a, b, e) at h

  pub boundary_read : {z : ℤ} → w ≡ command_start l → z ≡ cond (both (ltb 0 l.nl) (is_first255 file w)) (pos (word_byte file w 1)) (negsuc 0) →
      z ≡ file_boundary file
  boundary_read a h = rw (a, e) at h

  pub left_read : {z : ℤ} → w ≡ command_start l →
      z ≡ cond (both (ltb 0 l.nl) (is_first255 file (w + l.nl - 1)))
      (pos (256 * word_byte file (w + l.nl - 1) 2 + word_byte file (w + l.nl - 1) 3))
      (negsuc 0) →
      z ≡ file_left file
  left_read a h = rw (a, e) at h

pub font_answer : (file : List ℕ) {l : FileLengths} {n : ℕ} {y z : ℤ} → l ≡ lengths_of file → n ≡ length (file_entries file) / 2 → y ≡ file_boundary file →
    z ≡ file_left file → deserialized_reply (Font l.nl l.nk n y z) ≡ reply_of 0 (font_values file)
font_answer file e a b c = rw (a, b, c, e)

-- ---- the contract

-- what is written over zeros
appended_list : {A : Type 0} (o : A) (n : ℕ) (xs : List A) {m : ℕ} {d₀ d : List A} → m ≡ 0 → d₀ ≡ replicate n o → Appending xs d₀ d → d ≡ list_of m o n xs
appended_list o n xs {d₀ = d₀} z e h = rw z (appending_rest d₀ o n e h)

module _ {file : List ℕ} {is ks es is₀ ks₀ es₀ : List ℤ} (a : is₀ ≡ replicate (length is) (pos 0)) (b : ks₀ ≡ replicate (length ks) (pos 0))
    (c : es₀ ≡ replicate (length es) (pos 0)) where
  -- lists of zeros, which are left so
  pub reads_refused : {r : ℕ} → r ≡ deserialize_refusal file (length is) (length ks) (length es) → (r ≡ 0 → ⊥) →
      Deserializes file is ks es (Refused r) is₀ ks₀ es₀
  reads_refused e h =
      record {
        answer = refused_reply (font_values file) e h;
        program = refused_list (pos 0) (length is) (file_instructions file) e h a;
        kern_list = refused_list (pos 0) (length ks) (file_kerns file) e h b;
        entry_list = refused_list (pos 0) (length es) (file_entries file) e h c;
      }

  -- lists of zeros, to which the font is written
  pub reads_taken : {r : Deserialized} {is' ks' es' : List ℤ} → deserialize_refusal file (length is) (length ks) (length es) ≡ 0 →
      WritesFont file is₀ ks₀ es₀ r is' ks' es' → Deserializes file is ks es r is' ks' es'
  reads_taken e w =
      record {
        answer = w.answer ∙ taken_reply (font_values file) e;
        program = appended_list (pos 0) (length is) (file_instructions file) e a w.program;
        kern_list =
            written_list (pos 0) (length ks) (lengths_of file).nk (λ i. kern_number file (kern_start (lengths_of file) + i)) e b w.kern_list.filled;
        entry_list = appended_list (pos 0) (length es) (file_entries file) e c w.entry_list;
      }
