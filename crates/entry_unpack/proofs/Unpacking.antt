-- Laws of unpacking an entry, of passthrough and of the seven-bit test: each says over plain values what a step of the code shows; and that both
-- answers are known from their replies. Assumes nothing.
use mathlib.Core.Path.{◌≡◌, refl, sym, ap, ◌∙◌}
use mathlib.Core.Bool.{Bool, true, false, cond}
use mathlib.Core.List.{List, [], ◌∷◌, ◌++◌}
use mathlib.Core.Logic.{◌⊎◌, inl, inr}
use Prim.Native.Nat.{ℕ, ◌%◌, ◌<◌, ◌≤◌}
use native.Mathlib.Omega.{arith}
use lib.IntN.{ℤ, pos}
use lib.Dec.{leb, eqb}
use lib.ListN.{length, get_or, drop, replicate, length-replicate}
use borrow.Author.Tests.{le-leb, lt-leb, eq-eqb, ne_eqb}
use Rattle.words.specs.Words.{word_of}
use Rattle.entry_unpack.specs.declared.Unpacked.{Unpacked}
use Rattle.entry_unpack.specs.declared.Unpacked.TheVariants.{Entry, Direct, Indirect, Refused}
use Rattle.entry_unpack.specs.declared.SevenBit.{SevenBit}
use Rattle.entry_unpack.specs.declared.SevenBit.TheVariants.{Safe, Refused as RefusedFont}
use Rattle.lang.specs.Records.{count, field, instruction_at, is_kind}
use Rattle.lang.specs.Checks.{program_refusal, range_refusal, passthrough_refusal, or_else, char_at, entry_at}
use Rattle.lang.specs.Answers.{Reply, room_refusal}
use Rattle.lang.proofs.Refusals.{or_else_none, room_fits, refused_reply, taken_reply}
use Rattle.lang.proofs.Filled.{refused_list, written_list}
use Rattle.program_chain.specs.Chains.{chain_of}
use Rattle.program_chain.proofs.Walks.{Stepped}
use Rattle.entry_targets.specs.Targets.{stands_for, entry_refusal}
use Rattle.entry_unpack.specs.Unpacking.{UnpacksEntry, unpack_refusal, unpacked_reply, is_named, passthrough_at, passthrough_after, inserts_seven_bit}
use Rattle.entry_unpack.specs.Unpacking.{all_seven_bit, entry_safe, seven_bit_reply}

-- ---- the answer of unpacking an entry

-- by steps: zeros where it is refused, and else passthrough over them. `zeros` is the list `out` once it is zeroed, and r what is then asked.
module _ (s : List ℤ) (e : ℤ) (p out zeros : List ℕ) {r : ℕ} (zs : zeros ≡ replicate (length out) 0) (rs : r ≡ unpack_refusal s e p (length zeros)) where
  asked : r ≡ unpack_refusal s e p (length out)
  asked = rs ∙ rw (zs, length-replicate)

  pub unpacks_refused : (r ≡ 0 → ⊥) → (u : Unpacked) → (unpacked_reply u ≡ record { number = r; values = [] }) × (is_named u ≡ true) →
      UnpacksEntry s e p out u zeros
  unpacks_refused h u us =
      record {
        answer = us.0 ∙ refused_reply (pos (stands_for s (word_of e)) ∷ []) asked h;
        named = us.1;
        list = refused_list 0 (length out) (passthrough_after s (word_of e) p) asked h zs;
      }

  module _ (none : r ≡ 0) where
    pub unpacks_room : length p ≤ length zeros
    unpacks_room =
        let a = or_else_none (program_refusal s)
        (or_else (range_refusal 255 e) (or_else (passthrough_refusal p s) (or_else (entry_refusal s (word_of e)) (room_refusal (length p) (length zeros)))))
        (sym rs ∙ none) in
        let b = or_else_none (range_refusal 255 e) (or_else (passthrough_refusal p s) (or_else (entry_refusal s (word_of e)) (room_refusal (length p) (length zeros))))
        a.1 in
        let c = or_else_none (passthrough_refusal p s) (or_else (entry_refusal s (word_of e)) (room_refusal (length p) (length zeros))) b.1 in
        room_fits (length p) (length zeros) (or_else_none (entry_refusal s (word_of e)) (room_refusal (length p) (length zeros)) c.1).1

    pub unpacks_entry : {w : ℕ} → w ≡ word_of e → {last : List ℕ} → last ≡ passthrough_after s w p ++ drop (length p) zeros → {t : ℕ} → t ≡ stands_for s w →
        UnpacksEntry s e p out (Entry t) last
    unpacks_entry ws ls ts =
        record {
          answer = rw (ts, ws) (taken_reply (pos (stands_for s (word_of e)) ∷ []) (sym asked ∙ none));
          named = refl;
          list = written_list 0 (length out) (length p) (passthrough_at s (word_of e) p) (sym asked ∙ none) zs (rw ws at ls);
        }

-- a refusal by its number
pub other_named : (n : ℕ) → (n ≡ 8 → ⊥) → (n ≡ 9 → ⊥) → is_named (Refused n) ≡ true
other_named n a b = rw (ne_eqb n 8 a, ne_eqb n 9 b)

-- ---- passthrough at one place

module _ (s : List ℤ) (e : ℕ) (p : List ℕ) (i : ℕ) where
  pub passthrough_redirect : i ≡ e → is_kind 3 s e ≡ true → passthrough_at s e p i ≡ 1
  passthrough_redirect h k = rw (eq-eqb i e h, k)

  pub passthrough_same : (i ≡ e → ⊥) ⊎ (is_kind 3 s e ≡ false) → passthrough_at s e p i ≡ cond (eqb (get_or p i 0) 0) 0 1
  passthrough_same (inl h) = rw (ne_eqb i e h)
  passthrough_same (inr k) = rw k (either (eqb i e) (cond (eqb (get_or p i 0) 0) 0 1))
    where
      either : (t : Bool) (x : ℕ) → cond t x x ≡ x
      either true x = refl
      either false x = refl

-- ---- the seven-bit test

module _ (s : List ℤ) (i : ℕ) {right : ℕ} (rs : right ≡ word_of (field s i 1)) where
  pub right_above : 127 < right % 256 → inserts_seven_bit s i ≡ true
  right_above h = rw (← rs, lt-leb (right % 256) 127 h)

  module _ (h : right % 256 ≤ 127) {kind : ℕ} (ks : kind ≡ word_of (field s i 2)) where
    pub inserts_nothing : (kind ≡ 2 → ⊥) → inserts_seven_bit s i ≡ true
    inserts_nothing k = rw (← rs, le-leb (right % 256) 127 h, ← ks, ne_eqb kind 2 k)

    pub inserts_one : kind ≡ 2 → {operand : ℕ} → operand ≡ word_of (field s i 3) → inserts_seven_bit s i ≡ leb (operand % 256) 127
    inserts_one k {operand} os = rw (← rs, le-leb (right % 256) 127 h, ← ks, eq-eqb kind 2 k, ← os)

module _ (s : List ℤ) where
  seven_none : all_seven_bit s [] ≡ true
  unfolding all_seven_bit
  seven_none = refl

  seven_more : (i : ℕ) (is : List ℕ) → inserts_seven_bit s i ≡ true → all_seven_bit s (i ∷ is) ≡ all_seven_bit s is
  unfolding all_seven_bit
  seven_more i is h = rw h

  seven_fails : (i : ℕ) (is : List ℕ) → inserts_seven_bit s i ≡ false → all_seven_bit s (i ∷ is) ≡ false
  unfolding all_seven_bit
  seven_fails i is h = rw h

-- of a walk that is at index `at`, where what is left has the test of the whole chain
module _ (s : List ℤ) (entry at : ℕ) (inv : all_seven_bit s (chain_of s entry) ≡ all_seven_bit s (chain_of s at)) where
  pub sevens_end : chain_of s at ≡ [] → true ≡ all_seven_bit s (chain_of s entry)
  sevens_end h = sym (inv ∙ ap (all_seven_bit s) h ∙ seven_none s)

  module _ {i on : ℕ} (st : Stepped (count s) (instruction_at s) at i on) {b : Bool} (bs : b ≡ inserts_seven_bit s i) where
    here-is : {t : Bool} → b ≡ t → inserts_seven_bit s at ≡ t
    here-is h = ap (inserts_seven_bit s) (sym st.here) ∙ sym bs ∙ h

    pub sevens_fail : b ≡ false → false ≡ all_seven_bit s (chain_of s entry)
    sevens_fail h = sym (inv ∙ ap (all_seven_bit s) st.rest ∙ seven_fails s at (chain_of s on) (here-is h))

    pub sevens_more : b ≡ true → all_seven_bit s (chain_of s entry) ≡ all_seven_bit s (chain_of s on)
    sevens_more h = inv ∙ ap (all_seven_bit s) st.rest ∙ seven_more s at (chain_of s on) (here-is h)

-- of the entry at place i of the entries
module _ (s es : List ℤ) (i : ℕ) {c : ℕ} (cs : c ≡ word_of (char_at es i)) where
  pub safe_above : 127 < c → entry_safe s es i ≡ true
  safe_above h = rw (← cs, lt-leb c 127 h)

  pub safe_chain : c ≤ 127 → {w : ℕ} → w ≡ word_of (entry_at es i) → entry_safe s es i ≡ all_seven_bit s (chain_of s w)
  safe_chain h {w} ws = rw (← cs, le-leb c 127 h, ← ws)

-- ---- the answers are known from their replies

module _ {x y : Reply} (e : x ≡ y) where
  same_number : x.number ≡ y.number
  same_number = ap (λ (r : Reply). r.number) e

  same_values : x.values ≡ y.values
  same_values = ap (λ (r : Reply). r.values) e

not_8 : (n : ℕ) {A : Type 0} → is_named (Refused n) ≡ true → n ≡ 8 → A
not_8 n h e = let q : is_named (Refused n) ≡ false = rw (eq-eqb n 8 e) in let z : ◌≡◌ {A = ℕ} 0 1 = cc in absurd (omega arith)

not_9 : (n : ℕ) {A : Type 0} → is_named (Refused n) ≡ true → n ≡ 9 → A
not_9 n h e = let q : is_named (Refused n) ≡ false = rw e in let z : ◌≡◌ {A = ℕ} 0 1 = cc in absurd (omega arith)

no_values : {A : Type 0} (z : ℤ) (zs : List ℤ) → ◌≡◌ {A = List ℤ} (z ∷ zs) [] → A
no_values z zs e = let q : ◌≡◌ {A = ℕ} 0 1 = cc in absurd (omega arith)

pub unpacked_injective : (x y : Unpacked) → is_named x ≡ true → is_named y ≡ true → unpacked_reply x ≡ unpacked_reply y → x ≡ y
unpacked_injective (Entry a) (Entry b) h k e = let q = same_values e in cc
unpacked_injective (Entry a) Direct h k e = no_values (pos a) [] (same_values e)
unpacked_injective (Entry a) Indirect h k e = no_values (pos a) [] (same_values e)
unpacked_injective (Entry a) (Refused n) h k e = no_values (pos a) [] (same_values e)
unpacked_injective Direct (Entry b) h k e = no_values (pos b) [] (sym (same_values e))
unpacked_injective Direct Direct h k e = refl
unpacked_injective Direct Indirect h k e = absurd (omega (arith, same_number e))
unpacked_injective Direct (Refused n) h k e = not_8 n k (sym (same_number e))
unpacked_injective Indirect (Entry b) h k e = no_values (pos b) [] (sym (same_values e))
unpacked_injective Indirect Direct h k e = absurd (omega (arith, same_number e))
unpacked_injective Indirect Indirect h k e = refl
unpacked_injective Indirect (Refused n) h k e = not_9 n k (sym (same_number e))
unpacked_injective (Refused m) (Entry b) h k e = no_values (pos b) [] (sym (same_values e))
unpacked_injective (Refused m) Direct h k e = not_8 m h (same_number e)
unpacked_injective (Refused m) Indirect h k e = not_9 m h (same_number e)
unpacked_injective (Refused m) (Refused n) h k e = ap Refused (same_number e)

safe_injective : (a b : Bool) → ◌≡◌ {A = List ℤ} (cond a (pos 1) (pos 0) ∷ []) (cond b (pos 1) (pos 0) ∷ []) → Safe a ≡ Safe b
safe_injective true true e = refl
safe_injective true false e = let q : ◌≡◌ {A = ℕ} 1 0 = cc in absurd (omega arith)
safe_injective false true e = let q : ◌≡◌ {A = ℕ} 0 1 = cc in absurd (omega arith)
safe_injective false false e = refl

pub seven_bit_injective : (x y : SevenBit) → seven_bit_reply x ≡ seven_bit_reply y → x ≡ y
seven_bit_injective (Safe a) (Safe b) e = safe_injective a b (same_values e)
seven_bit_injective (Safe a) (RefusedFont n) e = no_values (cond a (pos 1) (pos 0)) [] (same_values e)
seven_bit_injective (RefusedFont m) (Safe b) e = no_values (cond b (pos 1) (pos 0)) [] (sym (same_values e))
seven_bit_injective (RefusedFont m) (RefusedFont n) e = ap RefusedFont (same_number e)
