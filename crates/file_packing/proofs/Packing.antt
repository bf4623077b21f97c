-- Laws of packing a font whose kerns are shared: what its entries refuse, that its lists fit into those of any font, and what the lists hold at the end.
-- Assumes nothing.
use mathlib.Core.Path.{◌≡◌, refl, sym, ap, ◌∙◌}
use mathlib.Core.Bool.{Bool, true, false, cond}
use mathlib.Core.List.{List, [], ◌∷◌}
use Prim.Native.Nat.{ℕ, zero, suc, ◌+◌, ◌-◌, ◌≤◌}
use native.Mathlib.Omega.{arith}
use lib.IntN.{ℤ, pos, negsuc}
use lib.Dec.{leb}
use lib.ListN.{length, replicate, take}
use lib.Seq.{take_at}
use lib.Signed.{non_neg}
use borrow.Author.Tests.{leb-true}
use Rattle.lang.specs.declared.Written.{Written}
use Rattle.lang.specs.declared.Written.TheVariants as written
use Rattle.lang.specs.Every.{every}
use Rattle.lang.specs.Records.{count}
use Rattle.lang.specs.Checks.{or_else, program_refusal, kerns_refusal, entries_refusal, absent_refusal}
use Rattle.lang.specs.Answers.{Reply, reply_of, room_refusal, list_of, written_reply}
use Rattle.lang.proofs.Entered.{entries_even, entries_few}
use Rattle.lang.proofs.Refusals.{or_else_none, room_is, room_fits, program_size, program_fours, refused_reply}
use Rattle.lang.proofs.Filled.{refused_list}
use Rattle.program_kerns.specs.Kerns.{packed, kerns_of, PacksKerns, UnpacksKerns, pack_refusal, unpack_kerns_refusal}
use Rattle.pack_labels.specs.Labels.{labels_of, largest, redirects_of, offset_by}
use Rattle.pack.specs.declared.Packed.{Packed}
use Rattle.pack.specs.declared.Packed.TheVariants as packing
use Rattle.pack.specs.Packing.{Packable, packable, back, font_redirects, font_offset, packed_instructions, packed_entries, redirect_refusal, shift_refusal, left_or}
use Rattle.pack.specs.Packing.{packable_refusal, packing_refusal, packed_sizes, packed_reply, Packs}
use Rattle.pack.proofs.Packing.{Plan, plan_size, plan_offset_le, font_entered}
use Rattle.files.specs.declared.PackedFont.{PackedFont}
use Rattle.files.specs.declared.PackedFont.TheVariants.{Refused}
use Rattle.files.specs.Writing.{Writable, writable, shared_font, written_instructions, written_kerns, pack_font_refusal, pack_font_number, packed_font_reply, PacksFont}
use Rattle.files.proofs.Shared.{shared_by, packed_length, packed_taken, shared_length, shared_taken, kerns_few}

-- ---- what a font is refused with where its lists are long enough

-- at most two numbers for each of 256 characters
pub entries_fit : (limit : ℕ) (es : List ℤ) → entries_refusal limit es ≡ 0 → length es ≤ 512
entries_fit limit es ok = omega (arith, entries_even limit es ok, entries_few limit es ok)

back_short : (z : ℤ) (o : ℕ) → length (back z o) ≤ 4
back_short (pos n) o = omega arith
back_short (negsuc n) o = omega arith

or_else_zero : (m : ℕ) → or_else m 0 ≡ m
or_else_zero zero = refl
or_else_zero (suc m) = refl

module _ (f : Packable) where
  plan : Plan f (labels_of f.entries) (non_neg f.boundary) (font_redirects f) (font_offset f)
  plan = record { same = refl; bounded = refl; redirects = refl; offset = refl }

  -- at most 256 instructions in front, and one at the end
  pub program_fits : font_redirects f ≤ 255 → length (packed_instructions f) ≤ length f.instructions + 1028
  program_fits h = omega (arith, plan_size plan, plan_offset_le plan h, back_short f.left (font_offset f))

  module _ (room entryRoom : ℕ) (long : length f.instructions + 1028 ≤ room) (entryLong : 512 ≤ entryRoom) where
    abbrev shift : ℕ
    shift = shift_refusal (largest (labels_of f.entries)) (left_or f.left) (font_offset f)

    abbrev rooms : ℕ
    rooms = or_else (room_refusal (length (packed_instructions f)) room) (room_refusal (length f.entries) entryRoom)

    rooms-none : font_redirects f ≤ 255 → packable_refusal f ≡ 0 → rooms ≡ 0
    rooms-none h ok =
        rw (
          room_is (length (packed_instructions f)) room (omega (arith, program_fits h)),
          room_is (length f.entries) entryRoom (omega (arith, entries_fit 65535 f.entries (font_entered f ok))),
        )

    later : packable_refusal f ≡ 0 → (b : Bool) → leb (font_redirects f) 255 ≡ b → or_else (cond b 0 10) (or_else shift rooms) ≡ or_else (cond b 0 10) shift
    later ok true e = ap (or_else shift) (rooms-none (leb-true (font_redirects f) 255 e) ok) ∙ or_else_zero shift
    later ok false e = refl

    by : (n : ℕ) → packable_refusal f ≡ n →
        or_else n (or_else (redirect_refusal (font_redirects f)) (or_else shift rooms)) ≡ or_else n (or_else (redirect_refusal (font_redirects f)) shift)
    by zero e = later e (leb (font_redirects f) 255) refl
    by (suc n) e = refl

    -- 15 is none of its refusals
    roomy-refusal : packing_refusal f room entryRoom ≡ or_else (packable_refusal f) (or_else (redirect_refusal (font_redirects f)) shift)
    roomy-refusal = by (packable_refusal f) refl

-- ---- what its entries refuse, by themselves

-- 4, 10 or 11
abbrev entered_refusal : List ℤ → ℤ → ℤ → ℕ
entered_refusal es b l =
    or_else (entries_refusal 65535 es)
    (or_else (absent_refusal 255 b)
    (or_else (absent_refusal 65535 l)
    (or_else (redirect_refusal (redirects_of (non_neg b) (labels_of es)))
    (shift_refusal (largest (labels_of es)) (left_or l) (offset_by (non_neg b) (redirects_of (non_neg b) (labels_of es)))))))

program_none : program_refusal [] ≡ 0
unfolding every
program_none = refl

empty_is : (es : List ℤ) (b l : ℤ) → pack_font_refusal (writable [] [] es b l) ≡ entered_refusal es b l
empty_is es b l = rw program_none

pub empty_known : (es : List ℤ) {b l b' l' : ℤ} {r : ℕ} → b' ≡ b → l' ≡ l → r ≡ pack_font_refusal (writable [] [] es b' l') → r ≡ entered_refusal es b l
empty_known es {b} {l} x y e = rw (x, y) at e ∙ empty_is es b l

in_row : (e a c d : ℕ) → or_else (or_else e (or_else a c)) d ≡ or_else e (or_else a (or_else c d))
in_row zero zero c d = refl
in_row zero (suc a) c d = refl
in_row (suc e) a c d = refl

-- any program that is taken leaves it to the entries
entered_is : (s es : List ℤ) (b l : ℤ) (room entryRoom : ℕ) → program_refusal s ≡ 0 → length s + 1028 ≤ room → 512 ≤ entryRoom →
    packing_refusal (packable s es b l) room entryRoom ≡ entered_refusal es b l
entered_is s es b l room entryRoom ok h g =
    roomy-refusal (packable s es b l) room entryRoom h g
    ∙ rw ok
    (in_row (entries_refusal 65535 es) (absent_refusal 255 b) (absent_refusal 65535 l)
    (or_else (redirect_refusal (redirects_of (non_neg b) (labels_of es)))
    (shift_refusal (largest (labels_of es)) (left_or l) (offset_by (non_neg b) (redirects_of (non_neg b) (labels_of es))))))

-- the number that packing answers
answered : (a : Packed) (m : ℕ) (vs : List ℤ) → packed_reply a ≡ reply_of m vs → (packed_reply a).number ≡ m
answered a zero vs e = ap (λ (r : Reply). r.number) e
answered a (suc m) vs e = ap (λ (r : Reply). r.number) e

-- an empty program, packed with the entries into lists that are long enough
pub empty_answered : (es : List ℤ) {b l b' l' : ℤ} (out entriesOut : List ℤ) {a : Packed} {out' entriesOut' : List ℤ} → b' ≡ b → l' ≡ l →
    1028 ≤ length out → 512 ≤ length entriesOut → Packs (packable [] es b' l') out entriesOut a out' entriesOut' →
    (packed_reply a).number ≡ pack_font_refusal (writable [] [] es b l)
empty_answered es {b} {l} out entriesOut {a} x y h g p =
    answered a (packing_refusal (packable [] es b l) (length out) (length entriesOut)) (packed_sizes (packable [] es b l)) (rw (x, y) at p.answer)
    ∙ entered_is [] es b l (length out) (length entriesOut) program_none h g
    ∙ sym (empty_is es b l)

-- ---- the answer of a font that is taken

-- as `sizes_of` makes it, from a count of kerns and the sizes of what is packed
abbrev pub Sized : Written → Packed → Reply → Type 0
Sized w p a =
    (k n offset redirects : ℕ) → written_reply w ≡ reply_of 0 (pos k ∷ []) → packed_reply p ≡ reply_of 0 (pos n ∷ pos offset ∷ pos redirects ∷ []) →
    a ≡ reply_of 0 (pos n ∷ pos k ∷ [])

never : {A : Type 0} {u : ℤ} {us : List ℤ} → ◌≡◌ {A = List ℤ} [] (u ∷ us) → A
never e = let z : ◌≡◌ {A = ℕ} 0 1 = cc in absurd (omega arith)

pub sized_uncounted : {w : Written} (p : Packed) {a : Reply} {n : ℕ} → w ≡ written.Refused n → Sized w p a
sized_uncounted p e k n offset redirects x y = never (ap (λ (r : Reply). r.values) (ap written_reply (sym e) ∙ x))

pub sized_unpacked : (w : Written) {p : Packed} {a : Reply} {n : ℕ} → p ≡ packing.Refused n → Sized w p a
sized_unpacked w e k n offset redirects x y = never (ap (λ (r : Reply). r.values) (ap packed_reply (sym e) ∙ y))

pub sized : {w : Written} {p : Packed} {k n o r : ℕ} → w ≡ written.Count k → p ≡ packing.Sizes n o r → Sized w p (reply_of 0 (pos n ∷ pos k ∷ []))
sized {k = k} {n} e g k' n' o' r' x y =
    let u : ◌≡◌ {A = List ℤ} (pos k ∷ []) (pos k' ∷ []) = ap (λ (r : Reply). r.values) (ap written_reply (sym e) ∙ x) in
    let v : ◌≡◌ {A = List ℤ} _ (pos n' ∷ pos o' ∷ pos r' ∷ []) = ap (λ (r : Reply). r.values) (ap packed_reply (sym g) ∙ y) in
    cc

-- ---- zeros where it is refused

pub font_refused : (f : Writable) (out kernsOut entriesOut : List ℤ) {r : ℕ} {out' kernsOut' entriesOut' : List ℤ} →
    r ≡ pack_font_number f (length out) (length kernsOut) (length entriesOut) → (r ≡ 0 → ⊥) → out' ≡ replicate (length out) (pos 0) →
    kernsOut' ≡ replicate (length kernsOut) (pos 0) → entriesOut' ≡ replicate (length entriesOut) (pos 0) →
    PacksFont f out kernsOut entriesOut (Refused r) out' kernsOut' entriesOut'
font_refused f out kernsOut entriesOut e h a b c =
    record {
      answer = refused_reply (pos (count (written_instructions f)) ∷ pos (length (written_kerns f)) ∷ []) e h;
      program = refused_list (pos 0) (length out) (written_instructions f) e h a;
      kern_list = refused_list (pos 0) (length kernsOut) (written_kerns f) e h b;
      entry_list = refused_list (pos 0) (length entriesOut) (packed_entries (shared_font f)) e h c;
    }

-- ---- where nothing is refused

-- what is written stands at the front
front_is : (n k : ℕ) (xs : List ℤ) {m : ℕ} {d : List ℤ} → m ≡ 0 → d ≡ list_of m (pos 0) n xs → length xs ≡ k → take k d ≡ xs
front_is n k xs z e l = rw (e, z) (take_at xs (replicate (n - length xs) (pos 0)) k l)

module _ (s kerns es : List ℤ) (b l : ℤ) (out kernsOut entriesOut : List ℤ)
    (ok : pack_font_number (writable s kerns es b l) (length out) (length kernsOut) (length entriesOut) ≡ 0) where
  abbrev font : Writable
  font = writable s kerns es b l

  abbrev rooms_refusal : ℕ
  rooms_refusal = or_else (room_refusal 132096 (length out)) (or_else (room_refusal 32767 (length kernsOut)) (room_refusal 512 (length entriesOut)))

  room_there : rooms_refusal ≡ 0
  room_there = (or_else_none (pack_font_refusal font) rooms_refusal ok).1

  program_taken : program_refusal s ≡ 0
  program_taken = (or_else_none (program_refusal s) (or_else (kerns_refusal kerns) (entered_refusal es b l)) (or_else_none (pack_font_refusal font) rooms_refusal ok).0).0

  later_taken : (kerns_refusal kerns ≡ 0) × (entered_refusal es b l ≡ 0)
  later_taken =
      or_else_none (kerns_refusal kerns) (entered_refusal es b l)
      (or_else_none (program_refusal s) (or_else (kerns_refusal kerns) (entered_refusal es b l)) (or_else_none (pack_font_refusal font) rooms_refusal ok).0).1

  out_long : 132096 ≤ length out
  out_long = room_fits 132096 (length out) (or_else_none (room_refusal 132096 (length out)) _ room_there).0

  lists_long : (32767 ≤ length kernsOut) × (512 ≤ length entriesOut)
  lists_long =
      let e = or_else_none (room_refusal 32767 (length kernsOut)) (room_refusal 512 (length entriesOut))
      (or_else_none (room_refusal 132096 (length out)) (or_else (room_refusal 32767 (length kernsOut)) (room_refusal 512 (length entriesOut))) room_there).1 in
      (room_fits 32767 (length kernsOut) e.0, room_fits 512 (length entriesOut) e.1)

  pub lent_short : length s ≤ 131068
  lent_short = omega (arith, program_size s program_taken, program_fours s program_taken)

  pub lent_fits : length s ≤ length out
  lent_fits = omega (arith, lent_short, out_long)

  -- what each of the three calls refuses: nothing
  packs_kerns : pack_refusal s kerns (length out) ≡ 0
  packs_kerns = rw (program_taken, later_taken.0) (room_is (length s) (length out) lent_fits)

  unpacks_kerns : (room : ℕ) → 131068 ≤ room → unpack_kerns_refusal (packed s kerns) room (length kernsOut) ≡ 0
  unpacks_kerns room h =
      rw (
        packed_taken s kerns program_taken,
        room_is (length (packed s kerns)) room (omega (arith, packed_length s kerns, lent_short)),
        room_is (length (kerns_of (packed s kerns))) (length kernsOut) (omega (arith, kerns_few s kerns program_taken, lists_long.0)),
      )

  packs_entries : packing_refusal (shared_font font) (length out) (length entriesOut) ≡ 0
  packs_entries =
      entered_is (shared_by s kerns) es b l (length out) (length entriesOut) (shared_taken s kerns program_taken)
      (omega (arith, shared_length s kerns, lent_short, out_long)) lists_long.1
      ∙ later_taken.1

  -- ---- the three calls, each with what the one before it has left: kern indices packed, kern values unpacked, entries packed

  module _ (numbers : List ℤ) (room : 131068 ≤ length numbers) {w : Written} {out₁ : List ℤ} (first : PacksKerns s kerns out w out₁)
      (same : length out₁ ≡ length out) {r : Written} {numbers₁ kernsOut₁ : List ℤ}
      (second : UnpacksKerns (take (length s) out₁) numbers kernsOut r numbers₁ kernsOut₁) where
    unpacks : UnpacksKerns (packed s kerns) numbers kernsOut r numbers₁ kernsOut₁
    unpacks = rw (front_is (length out) (length s) (packed s kerns) packs_kerns first.list (packed_length s kerns)) at second

    none : unpack_kerns_refusal (packed s kerns) (length numbers) (length kernsOut) ≡ 0
    none = unpacks_kerns (length numbers) room

    shared-front : take (length s) numbers₁ ≡ shared_by s kerns
    shared-front = front_is (length numbers) (length s) (shared_by s kerns) none unpacks.list (shared_length s kerns)

    module _ {b' l' : ℤ} (same-boundary : b' ≡ b) (same_left : l' ≡ l) {p : Packed} {out₂ entriesOut₂ : List ℤ}
        (third : Packs (packable (take (length s) numbers₁) es b' l') out₁ entriesOut p out₂ entriesOut₂) where
      packs : Packs (shared_font font) out₁ entriesOut p out₂ entriesOut₂
      packs = rw (shared-front, same-boundary, same_left) at third

      none-later : packing_refusal (shared_font font) (length out₁) (length entriesOut) ≡ 0
      none-later = rw same packs_entries

      pub font_taken : {a : PackedFont} → Sized r p (packed_font_reply a) → PacksFont font out kernsOut entriesOut a out₂ kernsOut₁ entriesOut₂
      font_taken sizes =
          record {
            answer = rw ok (sizes _ _ _ _ (rw none at unpacks.answer) (rw none-later at packs.answer));
            program = rw (ok, ← same) (rw none-later at packs.instructions);
            kern_list = rw ok (rw none at unpacks.shares);
            entry_list = rw ok (rw none-later at packs.entries);
          }
