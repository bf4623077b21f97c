-- What stands in the table of the packed entries of a file that is written: each entry at its character, packed into one byte, and nothing else.
-- Assumes nothing.
use mathlib.Core.Path.{◌≡◌, sym, ap, ◌∙◌}
use mathlib.Core.Bool.{true, false, not}
use mathlib.Core.List.{List}
use mathlib.Core.Logic.{◌⊎◌, inl, inr}
use Prim.Native.Nat.{ℕ, ◌+◌, ◌-◌, ◌/◌, ◌<◌}
use native.Mathlib.Omega.{arith}
use lib.IntN.{ℤ, negsuc}
use lib.Dec.{leb, eqb}
use lib.ListN.{length, get_or}
use lib.Signed.{non_neg}
use borrow.Author.Tests.{leb-true, eqb-false, not-true}
use Rattle.words.specs.Words.{word_of}
use Rattle.words.proofs.Lists.{length_tabulate}
use Rattle.lang.specs.Every.{both}
use Rattle.lang.specs.Records.{count, within}
use Rattle.lang.specs.Checks.{char_at, entry_at}
use Rattle.lang.specs.Entries.{entered}
use Rattle.lang.proofs.Every.{both_left, both_right}
use Rattle.pack.specs.Packing.{packed_instructions, packed_entries, packed_entry_number}
use Rattle.pack.specs.Purpose.{UnpacksAt}
use Rattle.pack.proofs.Purpose.{packed_unpacks}
use Rattle.files.specs.Lengths.{lengths_of, char_start}
use Rattle.files.specs.Commands.{word_byte}
use Rattle.files.specs.Writing.{Writable, shared_font, written_table, written_instructions, written_kerns, is_in_file}
use Rattle.files.specs.Purpose.{AreI32}
use Rattle.files.proofs.Shared.{shared_count}
use Rattle.files.proofs.Entries.{Found, Absent, found, entered_at, entered_none, table_is, entry_once}
use Rattle.files.proofs.Chars.{Holds}
use Rattle.files.proofs.Taken.{WritesFile}
use Rattle.files.proofs.Font.{font_accepted, font_plain, entry_inside, entry_in_file}

-- what is known of a character that is in a file
in_file : (old : List ℕ) (c : ℕ) (z : ℤ) → is_in_file old c ≡ true → within 255 z ≡ true → Holds old (lengths_of old) c z
in_file old c z t b =
    let w = not (eqb (word_byte old (char_start (lengths_of old) + (c - (lengths_of old).bc)) 0) 0) in
    let r = both_right (leb (lengths_of old).bc c) (both (leb c (lengths_of old).ec) w) t in
    record {
      from = leb-true (lengths_of old).bc c (both_left (leb (lengths_of old).bc c) (both (leb c (lengths_of old).ec) w) t);
      to = leb-true c (lengths_of old).ec (both_left (leb c (lengths_of old).ec) w r);
      wide = eqb-false (word_byte old (char_start (lengths_of old) + (c - (lengths_of old).bc)) 0) 0
          (not-true (eqb (word_byte old (char_start (lengths_of old) + (c - (lengths_of old).bc)) 0) 0) (both_right (leb c (lengths_of old).ec) w r));
      byte = b;
    }

module _ (old : List ℕ) (f : Writable) (v : WritesFile old f) (are : AreI32 f.instructions) where
  -- ---- each packed entry

  pub unpacks : (i : ℕ) → i < length f.entries / 2 → UnpacksAt (shared_font f) i
  unpacks i h =
      let w = v.writes in
      let l : word_of (entry_at f.entries i) < count (shared_font f).instructions =
      omega (
        arith,
        entry_inside f v.packs old (count (written_instructions f)) (length (written_kerns f)) w i h,
        shared_count f.instructions f.kerns,
      ) in
      packed_unpacks (shared_font f) (length (packed_instructions (shared_font f))) (length f.entries) (font_accepted f v.packs)
      (omega (arith, w.size)) i h l
      (font_plain f v.packs old (count (written_instructions f)) (length (written_kerns f)) w are (word_of (entry_at f.entries i)) l)

  abbrev packed : List ℤ
  packed = packed_entries (shared_font f)

  packed_length : length packed ≡ length f.entries
  packed_length = length_tabulate (length f.entries) (packed_entry_number (shared_font f))

  packed_char : (i : ℕ) → i < length f.entries / 2 → word_of (char_at packed i) ≡ word_of (char_at f.entries i)
  packed_char i h = ap word_of (unpacks i h).char

  -- ---- a place of the table

  at_place : (c i : ℕ) → c < 256 → i < length f.entries / 2 → word_of (char_at f.entries i) ≡ c →
      get_or (entered packed (length f.entries / 2)) c (negsuc 0) ≡ entry_at packed i
  at_place c i h l e =
      entered_at packed (length f.entries / 2) i c (omega arith) (packed_char i l ∙ e)
      (λ j a b q. entry_once 65535 f.entries v.packs.entries i j a b (sym (packed_char i l) ∙ q ∙ packed_char j b)) l

  table_entered : (c : ℕ) → c < 256 → get_or (written_table f) c (negsuc 0) ≡ get_or (entered packed (length f.entries / 2)) c (negsuc 0)
  table_entered c h =
      table_is packed (negsuc 0) c h ∙ ap (λ (n : ℕ). get_or (entered packed (n / 2)) c (negsuc 0)) packed_length

  -- the place of an entry
  pub table_at : (c i : ℕ) → c < 256 → i < length f.entries / 2 → word_of (char_at f.entries i) ≡ c →
      get_or (written_table f) c (negsuc 0) ≡ entry_at packed i
  table_at c i h l e = table_entered c h ∙ at_place c i h l e

  -- the place of a character without one
  table_none : (c : ℕ) → c < 256 → Absent f.entries (length f.entries / 2) c → get_or (written_table f) c (negsuc 0) ≡ negsuc 0
  table_none c h a =
      table_entered c h ∙ entered_none packed (length f.entries / 2) c (omega arith) (λ i l e. a i l (sym (packed_char i l) ∙ e))

  -- ---- every place

  holds_by : (c : ℕ) → c < 256 → Found f.entries (length f.entries / 2) c ⊎ Absent f.entries (length f.entries / 2) c →
      non_neg (get_or (written_table f) c (negsuc 0)) ≡ true → Holds old (lengths_of old) c (get_or (written_table f) c (negsuc 0))
  holds_by c h (inl r) t =
      let e = table_at c r.place h r.inside r.char in
      in_file old c (get_or (written_table f) c (negsuc 0))
      (ap (is_in_file old) (sym r.char)
      ∙ entry_in_file f v.packs old (count (written_instructions f)) (length (written_kerns f)) v.writes r.place r.inside)
      (ap (within 255) e ∙ (unpacks r.place r.inside).byte)
  holds_by c h (inr a) t = absurd (let z : true ≡ false = sym t ∙ ap non_neg (table_none c h a) in let y : ◌≡◌ {A = ℕ} 0 1 = cc in omega arith)

  pub table_holds : (c : ℕ) → c < 256 → non_neg (get_or (written_table f) c (negsuc 0)) ≡ true →
      Holds old (lengths_of old) c (get_or (written_table f) c (negsuc 0))
  table_holds c h = holds_by c h (found f.entries (length f.entries / 2) c)
