-- What packing is for (specs/Purpose). `packed-unpacks`: the packed program is a program, each entry is one byte, and it unpacks to the old entry,
-- shifted. `packed-chains`: the old program stands whole in the packed one, and the left entry behind it. `packed-rules`: so its rules are the old ones.
-- Assumes nothing.
use mathlib.Core.Path.{◌≡◌, refl, sym, ap, ◌∙◌}
use mathlib.Core.Bool.{Bool, true, false, cond}
use mathlib.Core.List.{List, [], ◌∷◌, Memᴰ}
use mathlib.Core.Option.{none, some}
use Prim.Native.Nat.{ℕ, ◌+◌, ◌*◌, ◌-◌, ◌/◌, ◌%◌, ◌<◌, ◌≤◌}
use native.Mathlib.Omega.{arith}
use lib.IntN.{ℤ, pos, negsuc}
use lib.Dec.{ltb, eqb}
use lib.ListN.{length, get_or}
use lib.Signed.{non_neg}
use borrow.Author.Tests.{lt-ltb, le-leb, eq-eqb, ne_eqb, ltb-true, ltb-false}
use Rattle.std.specs.Prelude.{None}
use Rattle.words.specs.Words.{word_of}
use Rattle.words.proofs.Lists.{get_d_tabulate}
use Rattle.lang.specs.declared.operation.Operation.TheVariants.{EntrypointRedirect}
use Rattle.lang.specs.declared.instruction.Instruction.{Instruction}
use Rattle.lang.specs.Every.{both}
use Rattle.lang.specs.Records.{count, field, within, absent_or, operand_fits, next_of, operation_of, instruction_at, is_instruction, is_kind}
use Rattle.lang.specs.Checks.{program_refusal, entries_refusal, absent_refusal, range_refusal, passthrough_refusal, or_else, entry_at}
use Rattle.lang.specs.Answers.{reply_of}
use Rattle.lang.proofs.Every.{every_all}
use Rattle.lang.proofs.Refusals.{or_else_none, unless_none, program_fours, program_record, room_is, taken_reply}
use Rattle.program_chain.specs.Chains.{Program, chain, is_rule_for, first_for, rule_index_of}
use Rattle.program_chain.proofs.Walks.{chain_step, chain_end}
use Rattle.program_chain.proofs.Rules.{redirect_passed_lem, redirect_kind}
use Rattle.entry_targets.specs.Targets.{target_at, stands_for, entry_refusal}
use Rattle.entry_targets.proofs.Targets.{stands_target, stands_itself, entry_plain, entry_followed}
use Rattle.entry_unpack.specs.Unpacking.{unpack_refusal, unpack_entry}
use Rattle.pack_labels.specs.Labels.{labels_of}
use Rattle.pack_labels.proofs.Redirects.{offset_some, labels_has, unredirected}
use Rattle.pack.specs.Packing.{Packable, redirect, present_or, left_or, back, font_redirects, font_offset, packable_refusal, packing_refusal}
use Rattle.pack.specs.Packing.{packed_instructions, packed_entry, packed_entry_number, packed_entries, place_among}
use Rattle.pack.specs.Purpose.{old_entry, UnpacksAt, PackedUnpacks, StaysInside, ChainShifted, PackedChains, SameRules, PackedRules}
use Rattle.pack.proofs.Places.{place_is, place_lt}
use Rattle.pack.proofs.Packing.{Plan, Taken, taken, later_refusal, target_of, target_le, number_front, number_old, number_back, plan_few, plan_size}
use Rattle.pack.proofs.Packing.{plan_shifts, back_some, back_none, under, entry_char, entry_entry}
use Rattle.pack.proofs.Shifts.{chain_below, chain_moved, rule_moved, rules_moved}

-- ---- an instruction by its four numbers

from_fields : ℤ → ℤ → ℤ → ℤ → Instruction
from_fields next right kind operand =
    record { next_instruction = next_of next; right_char = record { 0 = word_of right % 256 }; operation = operation_of (word_of kind) operand }

from_same : {a a' b b' c c' d d' : ℤ} → a ≡ a' → b ≡ b' → c ≡ c' → d ≡ d' → from_fields a b c d ≡ from_fields a' b' c' d'
from_same p q r s = rw (p, q, r, s)

fits_fields : ℤ → ℤ → ℤ → ℤ → Bool
fits_fields next right kind operand = both (absent_or 255 next) (both (within 255 right) (operand_fits (word_of kind) operand))

fits_same : {a a' b b' c c' d d' : ℤ} → a ≡ a' → b ≡ b' → c ≡ c' → d ≡ d' → fits_fields a b c d ≡ fits_fields a' b' c' d'
fits_same p q r s = rw (p, q, r, s)

-- a redirect is an instruction
redirect_fits : (right : ℤ) (operand : ℕ) → within 255 right ≡ true → operand ≤ 131071 → fits_fields (negsuc 0) right (pos 3) (pos operand) ≡ true
unfolding fits_fields
redirect_fits right operand h l = rw (h, le-leb operand 131071 l)

right_fits : (z : ℤ) → absent_or 255 z ≡ true → within 255 (present_or z) ≡ true
right_fits (pos b) h = h
right_fits (negsuc n) h = refl

operation_same : {c c' d d' : ℤ} → c ≡ c' → d ≡ d' → operation_of (word_of c) d ≡ operation_of (word_of c') d'
operation_same p q = rw (p, q)

-- the operation of a redirect without a flag
redirect_operation : (t : ℕ) → t ≤ 65535 → operation_of 3 (pos (t + 0)) ≡ EntrypointRedirect t false
redirect_operation t h =
    let a : (t + 0) % 65536 ≡ t = omega arith in
    rw (a, ne_eqb ((t + 0) / 65536 % 2) 1 (λ z. omega arith))

-- ---- refusals of which none holds

none_of_five : {a b c d e : ℕ} → a ≡ 0 → b ≡ 0 → c ≡ 0 → d ≡ 0 → e ≡ 0 → or_else a (or_else b (or_else c (or_else d e))) ≡ 0
none_of_five p q r s t = rw (p, q, r, s, t)

module _ (f : Packable) where
  plan_of : Plan f (labels_of f.entries) (non_neg f.boundary) (font_redirects f) (font_offset f)
  plan_of = record { same = refl; bounded = refl; redirects = refl; offset = refl }

  whole_size : length (packed_instructions f) ≡ 4 * font_offset f + length f.instructions + length (back f.left (font_offset f))
  whole_size = plan_size plan_of

  abbrev target : ℕ → ℕ
  target i = target_of (font_redirects f) (font_offset f) (labels_of f.entries) i

  -- ---- number m of an instruction in front, of an old one, and of the one at the end

  front_field : (i m : ℕ) → i < font_offset f → m < 4 → field (packed_instructions f) i m ≡ get_or (redirect (present_or f.boundary) (target i) 1) m (pos 0)
  front_field i m h l =
      let q : (4 * i + m) / 4 ≡ i = omega arith in
      let r : (4 * i + m) % 4 ≡ m = omega arith in
      rw (lt-ltb i (count (packed_instructions f)) (omega (arith, whole_size)))
      (sym (number_front f.boundary (font_redirects f) (font_offset f) (labels_of f.entries) f.instructions f.left refl (plan_few plan_of) (4 * i + m)
      (omega arith))
      ∙ rw (q, r))

  old_field : (e m : ℕ) → e < count f.instructions → m < 4 → field (packed_instructions f) (e + font_offset f) m ≡ field f.instructions e m
  old_field e m h l =
      let j : 4 * (e + font_offset f) + m - 4 * font_offset f ≡ 4 * e + m = omega arith in
      rw (lt-ltb (e + font_offset f) (count (packed_instructions f)) (omega (arith, whole_size)), lt-ltb e (count f.instructions) h)
      (sym (number_old f.boundary (font_redirects f) (font_offset f) (labels_of f.entries) f.instructions f.left refl (plan_few plan_of)
      (4 * (e + font_offset f) + m) (omega arith) (omega arith))
      ∙ ap (λ (n : ℕ). get_or f.instructions n (pos 0)) j)

  back_field : (m : ℕ) → length f.instructions % 4 ≡ 0 → non_neg f.left ≡ true → m < 4 →
      field (packed_instructions f) (font_offset f + count f.instructions) m ≡ get_or (redirect (pos 0) (left_or f.left + font_offset f) 0) m (pos 0)
  back_field m z t l =
      let b = back_some f.left (font_offset f) t in
      let j : 4 * (font_offset f + count f.instructions) + m - 4 * font_offset f - length f.instructions ≡ m = omega arith in
      rw (lt-ltb (font_offset f + count f.instructions) (count (packed_instructions f)) (omega (arith, whole_size, ap length b)))
      (sym (number_back f.boundary (font_redirects f) (font_offset f) (labels_of f.entries) f.instructions f.left refl (plan_few plan_of)
      (4 * (font_offset f + count f.instructions) + m) (omega arith) (omega arith))
      ∙ rw (j, b))

  -- the old instructions stand behind those in front
  packed_same : (e : ℕ) → e < count f.instructions → instruction_at (packed_instructions f) (e + font_offset f) ≡ instruction_at f.instructions e
  unfolding from_fields
  packed_same e h =
      from_same (old_field e 0 h (omega arith)) (old_field e 1 h (omega arith)) (old_field e 2 h (omega arith)) (old_field e 3 h (omega arith))

  module _ (room entryRoom : ℕ) (accepted : packing_refusal f room entryRoom ≡ 0) where
    packs : Taken f room entryRoom
    packs = taken f room entryRoom accepted

    -- ---- the packed program is a program

    lent : packable_refusal f ≡ 0
    lent = (or_else_none (packable_refusal f) (later_refusal f room entryRoom) accepted).0

    edges : or_else (absent_refusal 255 f.boundary) (absent_refusal 65535 f.left) ≡ 0
    edges =
        let a = or_else_none (program_refusal f.instructions)
        (or_else (entries_refusal 65535 f.entries) (or_else (absent_refusal 255 f.boundary) (absent_refusal 65535 f.left))) lent in
        (or_else_none (entries_refusal 65535 f.entries) (or_else (absent_refusal 255 f.boundary) (absent_refusal 65535 f.left)) a.1).1

    old-program : program_refusal f.instructions ≡ 0
    old-program =
        (or_else_none (program_refusal f.instructions)
        (or_else (entries_refusal 65535 f.entries) (or_else (absent_refusal 255 f.boundary) (absent_refusal 65535 f.left))) lent).0

    old-fours : length f.instructions % 4 ≡ 0
    old-fours = omega (arith, program_fours f.instructions old-program)

    old_fits : (e : ℕ) → e < count f.instructions → is_instruction f.instructions e ≡ true
    old_fits = program_record f.instructions old-program

    front_fits : (i : ℕ) → i < font_offset f → is_instruction (packed_instructions f) i ≡ true
    unfolding fits_fields
    front_fits i h =
        let b = right_fits f.boundary
        (unless_none 3 (absent_or 255 f.boundary) (or_else_none (absent_refusal 255 f.boundary) (absent_refusal 65535 f.left) edges).0) in
        fits_same (front_field i 0 h (omega arith)) (front_field i 1 h (omega arith)) (front_field i 2 h (omega arith)) (front_field i 3 h (omega arith))
        ∙ redirect_fits (present_or f.boundary) (target i + 65536) b
        (omega (arith, target_le (font_redirects f) (font_offset f) (labels_of f.entries) i (plan_shifts plan_of packs)))

    shifted_fits : (e : ℕ) → e < count f.instructions → is_instruction (packed_instructions f) (e + font_offset f) ≡ true
    unfolding fits_fields
    shifted_fits e h =
        fits_same (old_field e 0 h (omega arith)) (old_field e 1 h (omega arith)) (old_field e 2 h (omega arith)) (old_field e 3 h (omega arith))
        ∙ old_fits e h

    back_fits : non_neg f.left ≡ true → is_instruction (packed_instructions f) (font_offset f + count f.instructions) ≡ true
    unfolding fits_fields
    back_fits t =
        fits_same (back_field 0 old-fours t (omega arith)) (back_field 1 old-fours t (omega arith)) (back_field 2 old-fours t (omega arith))
        (back_field 3 old-fours t (omega arith))
        ∙ redirect_fits (pos 0) (left_or f.left + font_offset f + 0) refl (omega (arith, packs.shifts_left))

    -- at any place behind those in front
    later-fits : (i : ℕ) → font_offset f ≤ i → i < count (packed_instructions f) → (b : Bool) → ltb (i - font_offset f) (count f.instructions) ≡ b →
        (l : Bool) → non_neg f.left ≡ l → is_instruction (packed_instructions f) i ≡ true
    later-fits i h g true t l n =
        let e : i - font_offset f + font_offset f ≡ i = omega arith in
        rw e at (shifted_fits (i - font_offset f) (ltb-true (i - font_offset f) (count f.instructions) t))
    later-fits i h g false t true n =
        let b = ap length (back_some f.left (font_offset f) n) in
        let k : count f.instructions ≤ i - font_offset f = ltb-false (i - font_offset f) (count f.instructions) t in
        let e : font_offset f + count f.instructions ≡ i = omega (arith, whole_size, old-fours) in
        rw e at (back_fits n)
    later-fits i h g false t false n =
        let b = ap length (back_none f.left (font_offset f) n) in
        let k : count f.instructions ≤ i - font_offset f = ltb-false (i - font_offset f) (count f.instructions) t in
        absurd (omega (arith, whole_size, old-fours))

    place_fits : (i : ℕ) → i < count (packed_instructions f) → is_instruction (packed_instructions f) i ≡ true
    place_fits i h = by (ltb i (font_offset f)) refl
      where
        by : (b : Bool) → ltb i (font_offset f) ≡ b → is_instruction (packed_instructions f) i ≡ true
        by true t = front_fits i (ltb-true i (font_offset f) t)
        by false t =
            later-fits i (ltb-false i (font_offset f) t) h (ltb (i - font_offset f) (count f.instructions)) refl (non_neg f.left) refl

    packed_fours : length (packed_instructions f) % 4 ≡ 0
    packed_fours = by (non_neg f.left) refl
      where
        by : (b : Bool) → non_neg f.left ≡ b → length (packed_instructions f) % 4 ≡ 0
        by true t = omega (arith, whole_size, old-fours, ap length (back_some f.left (font_offset f) t))
        by false t = omega (arith, whole_size, old-fours, ap length (back_none f.left (font_offset f) t))

    packed-program : count (packed_instructions f) ≤ 32767 → program_refusal (packed_instructions f) ≡ 0
    packed-program few =
        rw (
          eq-eqb (length (packed_instructions f) % 4) 0 packed_fours,
          le-leb (count (packed_instructions f)) 32767 few,
          every_all (count (packed_instructions f)) (is_instruction (packed_instructions f)) place_fits,
        )

    -- ---- the packed entry of e, which is an old instruction and no redirect itself, stands for e, shifted

    Follows : ℕ → ℕ → Type 0
    Follows e p = (0 ≡ entry_refusal (packed_instructions f) p) × (e + font_offset f ≡ stands_for (packed_instructions f) p)

    redirected : (e : ℕ) → place_among e (labels_of f.entries) < font_redirects f → e < count f.instructions →
        Follows e (place_among e (labels_of f.entries))
    unfolding Follows
    redirected e h l =
        let p : ℕ = place_among e (labels_of f.entries) in
        let o : font_offset f ≡ font_redirects f = offset_some (non_neg f.boundary) (font_redirects f) (λ z. omega arith) in
        let x : get_or (labels_of f.entries) p 0 ≡ e = place_is e (labels_of f.entries) (omega (arith, plan_few plan_of)) in
        let m : e + font_offset f ≤ 65535 = omega (arith, plan_shifts plan_of packs p) in
        let n : (e + font_offset f + 65536) % 65536 ≡ e + font_offset f = omega arith in
        let k : is_kind 3 (packed_instructions f) p ≡ true = ap (λ (z : ℤ). eqb (word_of z) 3) (front_field p 2 (omega arith) (omega arith)) in
        let t : target p ≡ e + font_offset f = rw (ne_eqb (font_redirects f) 0 (λ z. omega arith), x) in
        let g : e + font_offset f ≡ target_at (packed_instructions f) p =
        sym (ap (λ (z : ℤ). word_of z % 65536) (front_field p 3 (omega arith) (omega arith)) ∙ ap (λ (w : ℕ). (w + 65536) % 65536) t ∙ n) in
        (entry_followed (packed_instructions f) p (omega (arith, whole_size)) k g (omega (arith, whole_size)), g ∙ stands_target (packed_instructions f) p k)

    shifted : (e : ℕ) → e < count f.instructions → is_kind 3 f.instructions e ≡ false → Follows e (e + font_offset f)
    unfolding Follows
    shifted e h k =
        let q : is_kind 3 (packed_instructions f) (e + font_offset f) ≡ false = ap (λ (z : ℤ). eqb (word_of z) 3) (old_field e 2 h (omega arith)) ∙ k in
        (entry_plain (packed_instructions f) (e + font_offset f) (omega (arith, whole_size)) q, stands_itself (packed_instructions f) (e + font_offset f) q)

    follows : (e : ℕ) → e < count f.instructions → is_kind 3 f.instructions e ≡ false →
        Follows e (packed_entry (font_redirects f) (font_offset f) (labels_of f.entries) e)
    follows e h k = by (ltb (place_among e (labels_of f.entries)) (font_redirects f)) refl
      where
        by : (b : Bool) → ltb (place_among e (labels_of f.entries)) (font_redirects f) ≡ b →
            Follows e (cond b (place_among e (labels_of f.entries)) (e + font_offset f))
        by true t = redirected e (ltb-true (place_among e (labels_of f.entries)) (font_redirects f) t) h
        by false t = shifted e h k

    -- a label's packed entry is one byte
    packed_byte : {e : ℕ} → Memᴰ e (labels_of f.entries) → packed_entry (font_redirects f) (font_offset f) (labels_of f.entries) e ≤ 255
    packed_byte {e} m = by (ltb (place_among e (labels_of f.entries)) (font_redirects f)) refl
      where
        by : (b : Bool) → ltb (place_among e (labels_of f.entries)) (font_redirects f) ≡ b →
            cond b (place_among e (labels_of f.entries)) (e + font_offset f) ≤ 255
        by true t = omega (arith, ltb-true (place_among e (labels_of f.entries)) (font_redirects f) t, packs.few)
        by false t =
            let l : font_redirects f ≤ place_among e (labels_of f.entries) = ltb-false (place_among e (labels_of f.entries)) (font_redirects f) t in
            let x : get_or (labels_of f.entries) (place_among e (labels_of f.entries)) 0 ≡ e = place_is e (labels_of f.entries) (place_lt m) in
            omega (
              arith,
              unredirected (non_neg f.boundary) (labels_of f.entries) (under 65535 f.entries packs.entered) (place_among e (labels_of f.entries))
                  (place_lt m) l,
            )

    -- ---- the entry at place i

    module _ (few : count (packed_instructions f) ≤ 32767) (i : ℕ) (h : i < length f.entries / 2) where
      abbrev byte : ℕ
      byte = packed_entry (font_redirects f) (font_offset f) (labels_of f.entries) (old_entry f i)

      byte-is : entry_at (packed_entries f) i ≡ pos byte
      byte-is =
          get_d_tabulate (length f.entries) (packed_entry_number f) (2 * i + 1) (pos 0) (omega arith)
          ∙ sym (entry_entry f.entries (font_redirects f) (font_offset f) (labels_of f.entries) (2 * i + 1) (λ z. omega arith))

      byte_le : byte ≤ 255
      byte_le = packed_byte (labels_has f.entries (length f.entries / 2) i h)

      unpacked : old_entry f i < count f.instructions → is_kind 3 f.instructions (old_entry f i) ≡ false → (p : List ℕ) (room' : ℕ) →
          length p ≡ count (packed_instructions f) → length p ≤ room' →
          unpack_entry (packed_instructions f) (pos byte) p room' ≡ reply_of 0 (pos (old_entry f i + font_offset f) ∷ [])
      unfolding Follows
      unpacked l k p room' n r =
          let g = follows (old_entry f i) l k in
          let w : word_of (pos byte) ≡ byte = refl in
          let a : range_refusal 255 (pos byte) ≡ 0 = rw (le-leb byte 255 byte_le) in
          let b : passthrough_refusal p (packed_instructions f) ≡ 0 = rw (eq-eqb (length p) (count (packed_instructions f)) n) in
          let z : unpack_refusal (packed_instructions f) (pos byte) p room'
          ≡ 0 = none_of_five (packed-program few) a b (sym g.0) (room_is (length p) room' r) in
          sym (taken_reply (pos (stands_for (packed_instructions f) byte) ∷ []) z) ∙ ap (λ (t : ℕ). reply_of 0 (pos t ∷ [])) (sym g.1)

      unpacks-at : old_entry f i < count f.instructions → is_kind 3 f.instructions (old_entry f i) ≡ false → UnpacksAt f i
      unpacks-at l k =
          record {
            char =
                get_d_tabulate (length f.entries) (packed_entry_number f) (2 * i) (pos 0) (omega arith)
                ∙ sym (entry_char f.entries (font_redirects f) (font_offset f) (labels_of f.entries) (2 * i) (omega arith));
            byte = ap (within 255) byte-is ∙ le-leb byte 255 byte_le;
            entry = λ p room' n r. ap (λ (z : ℤ). unpack_entry (packed_instructions f) z p room') byte-is ∙ unpacked l k p room' n r;
            same = packed_same (old_entry f i) l;
          }

pub packed_unpacks : PackedUnpacks
packed_unpacks f room entryRoom accepted few i h l k = unpacks-at f room entryRoom accepted few i h l k

-- ---- chains

module _ (f : Packable) where
  fits_behind : count f.instructions + font_offset f ≤ count (packed_instructions f)
  fits_behind = omega (arith, whole_size f)

  chain_shifted : (e : ℕ) → e < count f.instructions → StaysInside f.instructions e → ChainShifted f e
  chain_shifted e h s =
      let n = count f.instructions in
      let n' = count (packed_instructions f) in
      let p = instruction_at f.instructions in
      let p' = instruction_at (packed_instructions f) in
      record {
        indices = chain_moved n n' (font_offset f) p p' fits_behind (packed_same f) e h s;
        same = λ i m. packed_same f i (chain_below n p n e i m);
        rule = λ right. rule_moved n n' (font_offset f) p p' fits_behind (packed_same f) right e h s;
      }

  module _ (room entryRoom : ℕ) (accepted : packing_refusal f room entryRoom ≡ 0) where
    left-held : (e : ℕ) → f.left ≡ pos e →
        (instruction_at (packed_instructions f) (count (packed_instructions f) - 1)).operation ≡ EntrypointRedirect (e + font_offset f) false
    left-held e q =
        let t : non_neg f.left ≡ true = ap non_neg q in
        let z = old-fours f room entryRoom accepted in
        let last : count (packed_instructions f) - 1 ≡ font_offset f + count f.instructions =
        omega (arith, whole_size f, z, ap length (back_some f.left (font_offset f) t)) in
        ap (λ (i : ℕ). (instruction_at (packed_instructions f) i).operation) last
        ∙ operation_same (back_field f 2 z t (omega arith)) (back_field f 3 z t (omega arith))
        ∙ redirect_operation (left_or f.left + font_offset f) (packs f room entryRoom accepted).shifts_left
        ∙ ap (λ (z : ℤ). EntrypointRedirect (left_or z + font_offset f) false) q

pub packed_chains : PackedChains
packed_chains f room entryRoom accepted = record { chains = chain_shifted f; left = left-held f room entryRoom accepted }

-- ---- rules

-- the first index for a right character is one of the list
first_in : (program : Program) (right i : ℕ) (is : List ℕ) → first_for program right is ≡ some i → Memᴰ i is
unfolding first_for
first_in program right i [] h = absurd (let z : ◌≡◌ {A = ℕ} 0 1 = cc in omega arith)
first_in program right i (j ∷ is) h = go (is_rule_for right (program j)) (first_in program right i is) h
  where
    go : (t : Bool) → (first_for program right is ≡ some i → Memᴰ i is) → cond t (some j) (first_for program right is) ≡ some i → Memᴰ i (j ∷ is)
    go true k e = let m : i ≡ j = cc in Memᴰ.head m
    go false k e = Memᴰ.tail (k e)

module _ (f : Packable) (room entryRoom : ℕ) (accepted : packing_refusal f room entryRoom ≡ 0) where
  abbrev packed_size : ℕ
  packed_size = count (packed_instructions f)

  -- behind the old program stands at most the instruction that holds the left entry: it is passed over, and ends the chain
  held_by : (right : ℕ) → non_neg f.left ≡ true → rule_index_of (packed_instructions f) (font_offset f + count f.instructions) right ≡ none
  unfolding first_for
  held_by right t =
      let s = packed_instructions f in
      let i = font_offset f + count f.instructions in
      let z = old-fours f room entryRoom accepted in
      let stops : (instruction_at s i).next_instruction ≡ None = ap next_of (back_field f 0 z t (omega arith)) in
      let k : is_kind 3 s i ≡ true = ap (λ (n : ℤ). eqb (word_of n) 3) (back_field f 2 z t (omega arith)) in
      let inside : i < packed_size = omega (arith, whole_size f, z, ap length (back_some f.left (font_offset f) t)) in
      rw (
        chain_step packed_size (instruction_at s) i inside,
        stops,
        redirect_passed_lem right (instruction_at s i) (redirect_kind s i ∙ k),
        chain_end packed_size (instruction_at s) packed_size (omega arith),
      )

  beyond_by : (i right : ℕ) → font_offset f + count f.instructions ≤ i → (t u : Bool) → ltb i packed_size ≡ t → non_neg f.left ≡ u →
      rule_index_of (packed_instructions f) i right ≡ none
  unfolding first_for
  beyond_by i right h false u e d = rw (chain_end packed_size (instruction_at (packed_instructions f)) i (ltb-false i packed_size e))
  beyond_by i right h true true e d =
      let z = old-fours f room entryRoom accepted in
      let l = ltb-true i packed_size e in
      let q : i ≡ font_offset f + count f.instructions = omega (arith, whole_size f, z, ap length (back_some f.left (font_offset f) d)) in
      rw q (held_by right d)
  beyond_by i right h true false e d =
      let z = old-fours f room entryRoom accepted in
      let l = ltb-true i packed_size e in
      absurd (omega (arith, whole_size f, z, ap length (back_none f.left (font_offset f) d)))

  beyond : (i right : ℕ) → count f.instructions + font_offset f ≤ i → rule_index_of (packed_instructions f) i right ≡ none
  beyond i right h = beyond_by i right (omega arith) (ltb i packed_size) (non_neg f.left) refl refl

  same_rules : (e : ℕ) → SameRules f e
  same_rules e =
      let n = count f.instructions in
      let p = instruction_at f.instructions in
      record {
        rule = λ right. rules_moved n packed_size (font_offset f) p (instruction_at (packed_instructions f)) (fits_behind f) (packed_same f) beyond right e;
        same = λ right i h. packed_same f i (chain_below n p n e i (first_in p right i (chain n p e) h));
      }

pub packed_rules : PackedRules
packed_rules f room entryRoom accepted few =
    record {
      entries = λ i h l k. ((packed_unpacks f room entryRoom accepted few i h l k).entry, same_rules f room entryRoom accepted (old_entry f i));
      left = λ e q. same_rules f room entryRoom accepted e;
    }
