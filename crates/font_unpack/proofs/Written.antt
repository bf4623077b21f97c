-- Laws of what unpacking writes, and the contract of the whole by what is refused. Assumes nothing.
use mathlib.Core.Path.{◌≡◌, refl, sym, ap, ◌∙◌}
use mathlib.Core.Bool.{Bool, true, false, cond}
use mathlib.Core.List.{List, [], ◌∷◌, ◌++◌}
use Prim.Native.Nat.{ℕ, zero, suc, ◌+◌, ◌-◌, ◌*◌, ◌/◌, ◌%◌, ◌<◌, ◌≤◌}
use native.Mathlib.Omega.{arith}
use lib.IntN.{ℤ, pos}
use lib.Dec.{eqb}
use lib.ListN.{length, get_or, take, drop, replicate, length-drop}
use lib.Seq.{take-suc, get_or-drop, ext_get_or}
use borrow.Author.Tests.{eqb-false, eq-eqb, ne_eqb}
use Rattle.words.specs.Words.{Word, word_of, number_of}
use Rattle.words.specs.Lists.{tabulate, Filling, Appending}
use Rattle.words.proofs.Bits.{number_is, read_pos}
use Rattle.words.proofs.Lists.{length_tabulate, get_d_tabulate, appending_rest}
use Rattle.lang.specs.Records.{count}
use Rattle.lang.specs.Checks.{program_refusal, entries_refusal, absent_refusal, or_else}
use Rattle.lang.specs.Answers.{reply_of, room_refusal, list_of}
use Rattle.lang.proofs.Refusals.{or_else_none, room_fits, refused_reply, taken_reply}
use Rattle.lang.proofs.Entered.{entries_even}
use Rattle.lang.proofs.Filled.{refused_list}
use Rattle.pack.proofs.Packing.{filling_appends}
use Rattle.font_unpackings.specs.declared.UnpackedFont.{UnpackedFont}
use Rattle.font_unpackings.specs.declared.UnpackedFont.TheVariants.{Own, Kept, Refused}
use Rattle.font_unpackings.specs.Unpackings.{own_start, own_count, stands_packed, moved_number, moved_entries, left_moved_back, unpacked_program, own_entries}
use Rattle.font_unpackings.specs.Unpackings.{unpack_font_refusal, unpacked_font_reply, unpacked_font_values, UnpacksFont}
use Rattle.font_unpackings.proofs.Moved.{entry_pos}
use Rattle.font_unpack.specs.OwnPart.{part_front, own_part_count}
use Rattle.font_unpack.proofs.Standing.{part_program, part_length}

-- ---- a part of a list, by its places

pub tabulate_part : (l : List ℤ) (k n : ℕ) → k + n ≤ length l → tabulate n (λ i. get_or l (k + i) (pos 0)) ≡ take n (drop k l)
unfolding tabulate
tabulate_part l k zero h = refl
tabulate_part l k (suc n) h =
    rw (tabulate_part l k n (omega arith))
    (sym (take-suc (drop k l) n (pos 0) (omega (arith, length-drop k l)) ∙ ap (λ (z : ℤ). take n (drop k l) ++ (z ∷ [])) (get_or-drop k l n (pos 0))))

-- a list filled with its numbers
pub filling_part : (s : List ℤ) (front count : ℕ) {d₀ d : List ℤ} {j : ℕ} → 4 * front + 4 * count ≤ length s → j ≡ 4 * count →
    Filling (λ i. get_or s (4 * front + i) (pos 0)) d₀ d j → Appending (take (4 * count) (drop (4 * front) s)) d₀ d
filling_part s front count h e v =
    rw (tabulate_part s (4 * front) (4 * count) h) at (filling_appends (λ i. get_or s (4 * front + i) (pos 0)) (4 * count) (rw e at v))

-- ---- entries moved back

module _ (es : List ℤ) (front j : ℕ) {w : ℕ} (r : Word (get_or es j (pos 0)) w) where
  pub moved_char : j % 2 ≡ 0 → number_of w ≡ moved_number es front j
  moved_char e = number_is r ∙ rw (eq-eqb (j % 2) 0 e)

  pub moved_entry : (j % 2 ≡ 0 → ⊥) → w < 2147483648 → left_moved_back (number_of w) front ≡ moved_number es front j
  moved_entry e h =
      ap (λ (z : ℤ). left_moved_back z front) (number_is r ∙ read_pos r h) ∙ rw (ne_eqb (j % 2) 0 e, ← r.is)

-- by no places: they stay
module _ (es : List ℤ) (ok : entries_refusal 65535 es ≡ 0) (even : length es % 2 ≡ 0) where
  unmoved_by : (j : ℕ) → j < length es → (t : Bool) → eqb (j % 2) 0 ≡ t → cond t (get_or es j (pos 0)) (pos (word_of (get_or es j (pos 0)) - 0)) ≡ get_or es j (pos 0)
  unmoved_by j h true t = refl
  unmoved_by j h false t =
      let n : j % 2 ≡ 0 → ⊥ = eqb-false (j % 2) 0 t in
      let q : 2 * (j / 2) + 1 ≡ j = omega arith in
      let p = rw q at (entry_pos es ok (j / 2) (omega arith)) in
      sym (p ∙ ap pos (let z : word_of (get_or es j (pos 0)) ≡ word_of (get_or es j (pos 0)) - 0 = omega arith in z))

  unmoved : moved_entries es 0 ≡ es
  unmoved =
      ext_get_or (pos 0) (moved_entries es 0) es (length_tabulate (length es) (moved_number es 0))
      (λ j h.
      let l : j < length es = omega (arith, h, length_tabulate (length es) (moved_number es 0)) in
      get_d_tabulate (length es) (moved_number es 0) j (pos 0) l ∙ unmoved_by j l (eqb (j % 2) 0) refl)

  entries_by : (front : ℕ) (t : Bool) → moved_entries es (cond t front 0) ≡ cond t (moved_entries es front) es
  entries_by front true = refl
  entries_by front false = unmoved

  -- what is written of them is what unpacking leaves
  pub part_entries : (s : List ℤ) (left : ℤ) → moved_entries es (part_front s es left) ≡ own_entries s es left
  part_entries s left = entries_by (own_start s left) (stands_packed s es left)

-- ---- the contract of the whole

-- what is known of a font that is not refused, with lists of so many places
pub record Taken (s es : List ℤ) (left : ℤ) (room entryRoom : ℕ) : Type 0 where
  pub program : program_refusal s ≡ 0
  pub entered : entries_refusal 65535 es ≡ 0
  pub size : 4 * own_part_count s es left ≤ room
  pub entry_size : length es ≤ entryRoom

module _ (s es : List ℤ) (left : ℤ) (room entryRoom : ℕ) where
  pub taken : unpack_font_refusal s es left room entryRoom ≡ 0 → Taken s es left room entryRoom
  taken z =
      let m = room_refusal (length es) entryRoom in
      let n = or_else (room_refusal (length (unpacked_program s es left)) room) m in
      let p = or_else_none (program_refusal s) (or_else (entries_refusal 65535 es) (or_else (absent_refusal 65535 left) n)) z in
      let q = or_else_none (entries_refusal 65535 es) (or_else (absent_refusal 65535 left) n) p.1 in
      let r = or_else_none (room_refusal (length (unpacked_program s es left)) room) m (or_else_none (absent_refusal 65535 left) n q.1).1 in
      record {
        program = p.0;
        entered = q.0;
        size = omega (arith, part_length s es left p.0, room_fits (length (unpacked_program s es left)) room r.0);
        entry_size = room_fits (length es) entryRoom r.1;
      }

-- what is refused, by the left entry and the lengths of the lists
pub refusal_as : (s es : List ℤ) {x left : ℤ} {m m' room entryRoom : ℕ} {n : ℕ} → n ≡ unpack_font_refusal s es x m m' → x ≡ left → m ≡ room → m' ≡ entryRoom →
    n ≡ unpack_font_refusal s es left room entryRoom
refusal_as s es e f g h = e ∙ (λ i. unpack_font_refusal s es (f i) (g i) (h i))

-- the answers
module _ (s es : List ℤ) (left : ℤ) where
  pub kept_answer : stands_packed s es left ≡ false → unpacked_font_reply Kept ≡ reply_of 0 (unpacked_font_values s es left)
  kept_answer t = rw t

  pub own_answer : {front n : ℕ} {z : ℤ} → stands_packed s es left ≡ true → front ≡ part_front s es left → n ≡ own_part_count s es left →
      z ≡ left_moved_back left front →
      unpacked_font_reply (Own front n z) ≡ reply_of 0 (unpacked_font_values s es left)
  own_answer {front} {n} {z} t f g e =
      let f' : front ≡ own_start s left = f ∙ ap (λ (b : Bool). cond b (own_start s left) 0) t in
      let g' : n ≡ own_count s left = g ∙ ap (λ (b : Bool). cond b (own_count s left) (count s)) t in
      let e' : z ≡ left_moved_back left (own_start s left) = e ∙ ap (left_moved_back left) f' in
      (λ i. reply_of 0 (pos (f' i) ∷ pos (g' i) ∷ e' i ∷ []))
      ∙ ap (λ (b : Bool). reply_of 0 (cond b (pos (own_start s left) ∷ pos (own_count s left) ∷ left_moved_back left (own_start s left) ∷ []) [])) (sym t)

-- lists that were zeroed
module _ (s es : List ℤ) (left : ℤ) (out entriesOut zeros zerosOut : List ℤ) (z : zeros ≡ replicate (length out) (pos 0))
    (y : zerosOut ≡ replicate (length entriesOut) (pos 0)) where
  abbrev refusal : ℕ
  refusal = unpack_font_refusal s es left (length out) (length entriesOut)

  pub unpacks_refused : (n : ℕ) → n ≡ refusal → (n ≡ 0 → ⊥) → UnpacksFont s es left out entriesOut (Refused n) zeros zerosOut
  unpacks_refused n e h =
      record {
        answer = refused_reply (unpacked_font_values s es left) e h;
        program = refused_list (pos 0) (length out) (unpacked_program s es left) e h z;
        entry_list = refused_list (pos 0) (length entriesOut) (own_entries s es left) e h y;
      }

  -- what is written over zeros
  over_zeros : (n m : ℕ) {xs xs' d₀ d : List ℤ} → m ≡ 0 → d₀ ≡ replicate n (pos 0) → xs ≡ xs' → Appending xs d₀ d → d ≡ list_of m (pos 0) n xs'
  over_zeros n m {xs} {xs'} {d₀} e a q v = rw (e, ← q) (appending_rest d₀ (pos 0) n a v)

  pub unpacks_taken : (r : UnpackedFont) (front n : ℕ) (out' entriesOut' : List ℤ) → refusal ≡ 0 → front ≡ part_front s es left → n ≡ own_part_count s es left →
      Appending (take (4 * n) (drop (4 * front) s)) zeros out' → Appending (moved_entries es front) zerosOut entriesOut' →
      unpacked_font_reply r ≡ reply_of 0 (unpacked_font_values s es left) → UnpacksFont s es left out entriesOut r out' entriesOut'
  unpacks_taken r front n out' entriesOut' e f g a b t =
      let k = taken s es left (length out) (length entriesOut) e in
      record {
        answer = t ∙ taken_reply (unpacked_font_values s es left) e;
        program =
            over_zeros (length out) refusal e z
            ((λ i. take (4 * g i) (drop (4 * f i) s)) ∙ part_program s es left k.program) a;
        entry_list =
            over_zeros (length entriesOut) refusal e y
            (ap (moved_entries es) f ∙ part_entries es k.entered (entries_even 65535 es k.entered) s left) b;
      }
