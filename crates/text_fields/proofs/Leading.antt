-- The blanks that a field starts with, and where it ends.
-- Assumes nothing.
use mathlib.Core.Path.{◌≡◌, refl, sym, ap, subst, ◌∙◌}
use mathlib.Core.List.{List}
use mathlib.Core.Option.{none}
use Prim.Native.Nat.{ℕ, ◌+◌, ◌-◌, ◌*◌, ◌<◌, ◌≤◌}
use native.Mathlib.Numerals.{add-one}
use native.Mathlib.Omega.{arith}
use lib.ListN.{length, get_or, take, drop, length-drop, drop_of_length-le}
use lib.Seq.{slice-cons, take-add, take_all, take-length, length-take-le, drop_at}
use Rattle.columns.specs.Numbers.{read_field}
use Rattle.text_fields.specs.Steps.{WithinText, EndsField, Blank, Blanks, BlanksEnd, Unblank}

module _ (text : List ℕ) where
  -- ---- where a field ends

  pub ends_whole : (at : ℕ) → at + 12 ≤ length text → EndsField text at (at + 12)
  ends_whole at h =
      record {
        part = record { order = omega arith; few = omega arith; inside = h };
        is = sym (rw (take-add at 12 text) (drop_at (take at text) (take 12 (drop at text)) at (length-take-le at text (omega arith))));
      }

  pub ends_short : (at : ℕ) → at ≤ length text → length text - at < 12 → EndsField text at (length text)
  ends_short at h l =
      record {
        part = record { order = h; few = omega arith; inside = omega arith };
        is = take_all 12 (drop at text) (simp length-drop (omega arith)) ∙ sym (ap (drop at) (take-length text));
      }

  -- nothing is left
  pub past_none : (at : ℕ) → length text ≤ at → read_field (take 12 (drop at text)) ≡ none
  unfolding read_field
  past_none at h = rw (drop_of_length-le text {i = at} h)

  -- ---- blanks

  pub blank_none : (i : ℕ) → Blank text i i
  blank_none i = record { reads = λ end h l. refl }

  pub blank_join : {a b c : ℕ} → b ≤ c → Blank text a b → Blank text b c → Blank text a c
  blank_join o p q = record { reads = λ end h l. p.reads end (omega (arith, h)) l ∙ q.reads end h l }

  pub blank_one : (i : ℕ) → get_or text i 0 ≡ 32 → Blank text i (i + 1)
  unfolding read_field
  blank_one i e = record { reads = λ end h l. rw (slice-cons i end text 0 (omega (arith, h)) l, e, add-one) }

  pub blank_more : {a i : ℕ} → Blank text a i → get_or text i 0 ≡ 32 → Blank text a (i + 1)
  blank_more {a} {i} p e = blank_join (omega arith) p (blank_one i e)

  -- as many blanks again
  pub blank_twice : (at n to : ℕ) → at + n + n ≡ to → Blank text at (at + n) → Blank text (at + n) (at + n + n) → Blank text at to
  blank_twice at n to e p q = subst (Blank text at) e (blank_join (omega arith) p q)

  pub two_are : (at : ℕ) → get_or text at 0 < 256 → get_or text (at + 1) 0 < 256 → Blanks text at 2 65536 8224 (get_or text at 0 + get_or text (at + 1) 0 * 256)
  two_are at a b =
      record {
        below = omega arith;
        all = λ e. blank_twice at 1 (at + 2) (omega arith) (blank_one at (omega (arith, e))) (blank_one (at + 1) (omega (arith, e)));
      }

  -- ---- where they end

  pub blanks_stop : {from end r : ℕ} → from ≤ r → r < end → Blank text from r → (get_or text r 0 ≡ 32 → ⊥) → BlanksEnd text from end r
  blanks_stop o h p n = record { after = o; before = omega arith; blank = p; other = λ _. n }

  pub blanks_all : {from end r : ℕ} → from ≤ r → r ≤ end → end ≤ r → Blank text from r → BlanksEnd text from end r
  blanks_all o h l p = record { after = o; before = h; blank = p; other = λ s. absurd (omega (arith, s)) }

  -- after the blanks of a field
  pub unblank : {at end r : ℕ} → WithinText text at end → BlanksEnd text at end r → Unblank text r end
  unblank w e =
      record {
        part = record { order = e.before; few = omega (arith, w.few, e.after); inside = w.inside };
        other = e.other;
      }
