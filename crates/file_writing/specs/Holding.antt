-- What is known once a font is packed.
use Rattle.std.specs.Prelude.{◌≡◌, List, ℕ, ◌*◌, ◌≤◌, ℤ, length, take}
use Rattle.lang.specs.Records.{count}
use Rattle.pack.specs.Packing.{packed_entries}
use Rattle.files.specs.Writing.{Writable, shared_font, written_instructions, written_kerns, pack_font_refusal}

-- three lists begin with what a file of the font holds: n instructions, k kerns, and as many entries as were lent
pub record Holds (f : Writable) (program kerns entries : List ℤ) (n k : ℕ) : Type 0 where
  pub taken : pack_font_refusal f ≡ 0
  pub words : n ≡ count (written_instructions f)
  pub shared : k ≡ length (written_kerns f)
  pub program_long : 4 * n ≤ length program
  pub kerns_long : k ≤ length kerns
  pub entries_long : length f.entries ≤ length entries
  pub program_is : take (4 * n) program ≡ written_instructions f
  pub kerns_are : take k kerns ≡ written_kerns f
  pub entries_are : take (length f.entries) entries ≡ packed_entries (shared_font f)
