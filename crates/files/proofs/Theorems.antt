-- What reading and writing a font file are for (specs/Purpose). `rest-kept`: all but the program is the old file's. `read-after-write`: the file is read
-- again as it was written. `entries-lead`: each entry that is read again leads to its instruction. Assumes nothing.
use mathlib.Core.Path.{◌≡◌, refl, sym, ap, ◌∙◌}
use mathlib.Core.Bool.{false}
use mathlib.Core.List.{List, [], ◌∷◌}
use Prim.Native.Nat.{ℕ, ◌+◌, ◌*◌, ◌/◌, ◌<◌, ◌≤◌}
use native.Mathlib.Omega.{arith}
use lib.IntN.{ℤ, pos, negsuc}
use lib.Dec.{eqb}
use lib.ListN.{length, get_or, drop}
use lib.Signed.{non_neg}
use Rattle.words.specs.Words.{word_of}
use Rattle.lang.specs.Records.{count, is_kind, instruction_at}
use Rattle.lang.specs.Checks.{char_at, entry_at}
use Rattle.lang.specs.Answers.{reply_of}
use Rattle.lang.proofs.Records.{within_bound}
use Rattle.entry_unpack.specs.Unpacking.{unpack_entry}
use Rattle.pack.specs.Packing.{font_offset, packed_entries}
use Rattle.pack.specs.Purpose.{old_entry}
use Rattle.files.specs.declared.FileLengths.{FileLengths}
use Rattle.files.specs.Lengths.{lengths_of, char_count, char_start, command_start, recipe_start}
use Rattle.files.specs.Reading.{file_instructions, file_entries}
use Rattle.files.specs.Writing.{Writable, shared_font, written_kerns, written_instructions, written_table, written_file, written_lengths, write_refusal}
use Rattle.files.specs.Purpose.{AreI32, unflagged, ascending, AllElseKept, RestKept, ReadAfterWrite, ReadsAgain, EntriesLead, EntryLeads}
use Rattle.files.proofs.Parts.{same_bytes}
use Rattle.files.proofs.Laid.{Laid, joined_laid, laid_lengths, half_same}
use Rattle.files.proofs.Lengths.{Fits, taken_fits, laid_taken}
use Rattle.files.proofs.Shared.{shared_count}
use Rattle.files.proofs.Kerns.{fits_kerns, kerns_read}
use Rattle.files.proofs.Program.{program_read}
use Rattle.files.proofs.Own.{within_pos}
use Rattle.files.proofs.Packed.{packed_fours, old_field, fits_behind}
use Rattle.files.proofs.Edges.{boundary_read, left_read}
use Rattle.files.proofs.Entries.{entry_char}
use Rattle.files.proofs.Chars.{entries_read_lem}
use Rattle.files.proofs.Listed.{ListedAt, listed}
use Rattle.files.proofs.Unflagged.{unflagged_count, unflagged_same, unflagged_unpacks}
use Rattle.files.proofs.Taken.{WritesFile, written}
use Rattle.files.proofs.Font.{font_fours, font_packed, font_some, left_some, font_plain, font_next, font_readable, entry_inside}
use Rattle.files.proofs.Table.{unpacks, table_at, table_holds}

-- ---- a file that is written

module _ (old : List ℕ) (f : Writable) (room : ℕ) (accepted : write_refusal old f room ≡ 0) where
  taken : WritesFile old f
  taken = written old f room accepted

  laid : Laid old (written_file old f) (lengths_of old) (written_instructions f) (written_kerns f) (written_table f) f.boundary
  laid =
      let v = taken_fits old taken.lengths in
      joined_laid old (lengths_of old) (written_instructions f) (written_kerns f) (written_table f) f.boundary (omega (arith, v.sum, v.whole))

  old_fits : Fits (lengths_of old) (length old)
  old_fits = taken_fits old taken.lengths

  lengths : lengths_of (written_file old f) ≡ written_lengths (lengths_of old) (count (written_instructions f)) (length (written_kerns f))
  lengths = laid_lengths laid taken.writes.size

  -- ---- all else is kept

  recipes_kept : drop (4 * recipe_start (lengths_of (written_file old f))) (written_file old f) ≡ drop (4 * recipe_start (lengths_of old)) old
  recipes_kept =
      ap (λ (l : FileLengths). drop (4 * recipe_start l) (written_file old f)) lengths ∙ laid.recipes

  pub kept : RestKept old f
  kept =
      let v = old_fits in
      record {
        before_program = λ i h g. half_same laid.same_front i (omega arith) (omega arith);
        after_program = λ i h g. half_same laid.same_header i (omega arith) (omega arith);
        header = same_bytes (written_file old f) old 24 (4 * char_start (lengths_of old)) (omega (arith, laid.long)) (omega (arith, v.sum, v.whole))
            (λ i h g. laid.same_header.at i (omega arith) g);
        dimensions = same_bytes (written_file old f) old (4 * (char_start (lengths_of old) + char_count (lengths_of old))) (4 * command_start (lengths_of old))
            (omega (arith, laid.long)) (omega (arith, v.sum, v.whole)) laid.same_dimensions.at;
        recipes = recipes_kept;
      }

  -- ---- it is read again

  module _ (are : AreI32 f.instructions) where
    program-again : file_instructions (written_file old f) ≡ unflagged (written_instructions f)
    program-again =
        program_read (written_file old f) (written_instructions f) f.boundary (command_start (lengths_of old)) laid.words
        (font_readable f taken.packs old (count (written_instructions f)) (length (written_kerns f)) taken.writes are)
        (lengths_of old) (length (written_kerns f)) lengths refl (packed_fours (shared_font f) (font_fours f taken.packs))

    entries-again : file_entries (written_file old f) ≡ ascending (written_table f) 256
    entries-again =
        entries_read_lem old (written_file old f) (lengths_of old) (written_table f) old_fits.low old_fits.high (table_holds old f taken are) laid.chars
        (count (written_instructions f)) (length (written_kerns f)) lengths

    pub again : AreI32 f.kerns → ReadsAgain old f
    again kerns_are =
        let n = count (written_instructions f) in
        let k = length (written_kerns f) in
        let fours = font_fours f taken.packs in
        let plain = font_plain f taken.packs old n k taken.writes are in
        let next = font_next f taken.packs old n k taken.writes are in
        let some = font_some f taken.packs old n k taken.writes in
        record {
          taken = laid_taken taken.lengths laid taken.writes.size;
          program = program-again;
          kerns = kerns_read (written_file old f) (lengths_of old) n (written_kerns f) lengths (fits_kerns f.instructions f.kerns are kerns_are)
              laid.kern_words;
          entries = entries-again;
          boundary = boundary_read (shared_font f) fours plain next some (written_file old f) (command_start (lengths_of old)) laid.words (lengths_of old) k
              lengths refl taken.packs.boundary (left_some f taken.packs old n k taken.writes);
          left = left_read (shared_font f) fours plain next some (written_file old f) (command_start (lengths_of old)) laid.words (lengths_of old) k lengths refl
              (font_packed f taken.packs).shifts_left;
        }

    -- ---- each entry of it leads to its instruction

    module _ (i : ℕ) (h : i < length f.entries / 2) where
      abbrev led : ℕ
      led = old_entry (shared_font f) i

      led-inside : led < count (shared_font f).instructions
      led-inside =
          omega (
            arith,
            entry_inside f taken.packs old (count (written_instructions f)) (length (written_kerns f)) taken.writes i h,
            shared_count f.instructions f.kerns,
          )

      instruction-same :
          instruction_at (file_instructions (written_file old f)) (led + font_offset (shared_font f)) ≡ instruction_at (shared_font f).instructions led
      instruction-same =
          let n = count (written_instructions f) in
          let k = length (written_kerns f) in
          let p : is_kind 3 (written_instructions f) (led + font_offset (shared_font f)) ≡ false =
          ap (λ (z : ℤ). eqb (word_of z) 3) (old_field (shared_font f) led 2 led-inside (omega arith))
          ∙ font_plain f taken.packs old n k taken.writes are led led-inside in
          ap (λ (s : List ℤ). instruction_at s (led + font_offset (shared_font f))) program-again
          ∙ unflagged_same (written_instructions f) (led + font_offset (shared_font f)) (omega (arith, led-inside, fits_behind (shared_font f))) p
          ∙ (unpacks old f taken are i h).same

      abbrev code : ℕ
      code = word_of (char_at f.entries i)

      code_is : char_at f.entries i ≡ pos code
      code_is = within_pos 255 (char_at f.entries i) (entry_char 65535 f.entries taken.packs.entries i h)

      code_lt : code < 256
      code_lt = omega (arith, within_bound 255 (char_at f.entries i) (entry_char 65535 f.entries taken.packs.entries i h))

      entry_is : get_or (written_table f) code (negsuc 0) ≡ entry_at (packed_entries (shared_font f)) i
      entry_is = table_at old f taken are code i code_lt h refl

      entry_listed : ListedAt (ascending (written_table f) 256) code (get_or (written_table f) code (negsuc 0))
      entry_listed =
          listed (written_table f) 256 code code_lt
          (ap non_neg (entry_is ∙ within_pos 255 (entry_at (packed_entries (shared_font f)) i) (unpacks old f taken are i h).byte))

      entry-unpacks : (p : List ℕ) (space : ℕ) → length p ≡ count (file_instructions (written_file old f)) → length p ≤ space →
          unpack_entry (file_instructions (written_file old f)) (entry_at (file_entries (written_file old f)) entry_listed.place) p space
          ≡ reply_of 0 (pos (led + font_offset (shared_font f)) ∷ [])
      entry-unpacks p space n r =
          let m : length p ≡ count (written_instructions f) = n ∙ ap count program-again ∙ unflagged_count (written_instructions f) in
          ap (λ (s : List ℤ). unpack_entry s (entry_at (file_entries (written_file old f)) entry_listed.place) p space) program-again
          ∙ ap (λ (es : List ℤ). unpack_entry (unflagged (written_instructions f)) (entry_at es entry_listed.place) p space) entries-again
          ∙ ap (λ (z : ℤ). unpack_entry (unflagged (written_instructions f)) z p space) (entry_listed.entry ∙ entry_is)
          ∙ unflagged_unpacks (written_instructions f) (entry_at (packed_entries (shared_font f)) i) p space (pos (led + font_offset (shared_font f)) ∷ [])
          ((unpacks old f taken are i h).entry p space m r)

      pub leads : EntryLeads old f i
      leads =
          record {
            k = entry_listed.place;
            listed = rw entries-again entry_listed.inside;
            char = ap (λ (es : List ℤ). char_at es entry_listed.place) entries-again ∙ entry_listed.char ∙ sym code_is;
            entry = entry-unpacks;
            same = instruction-same;
          }

pub rest_kept : AllElseKept
rest_kept = kept

pub read_after_write : ReadAfterWrite
read_after_write old f room are kerns_are accepted = again old f room accepted are kerns_are

pub entries_lead : EntriesLead
entries_lead old f room are kerns_are accepted i h = leads old f room accepted are i h
