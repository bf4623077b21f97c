-- A field that is read, written again, is that field; and so are the fields of a line, and the lines of a text.
-- Assumes nothing.
use mathlib.Core.Path.{◌≡◌, refl, sym, ap, ◌∙◌}
use mathlib.Core.Bool.{Bool, true, false, cond}
use mathlib.Core.List.{List, [], ◌∷◌, ◌++◌}
use mathlib.Core.Option.{Option, none, some, some-injective}
use Prim.Native.Nat.{ℕ, zero, suc, ◌-◌, ◌*◌, ◌≤◌}
use native.Mathlib.Omega.{arith}
use lib.IntN.{ℤ, pos, negsuc}
use lib.Dec.{leb, eqb}
use lib.ListN.{length, take, drop, replicate, length-drop, take-append-drop}
use lib.Seq.{length-take-le}
use borrow.Author.Tests.{leb-true, eqb-true}
use Rattle.columns.specs.Numbers.{unsigned, with_sign, without_sign, read_field, spelled, field_of}
use Rattle.columns.specs.Lines.{on_first, after_feed, lines_of, read_fields, fields_of, text_of}
use Rattle.columns.proofs.Options.{none_some, cond_some, and_some}
use Rattle.columns.proofs.Digits.{unsigned_written}

with_sign_lem : (bs : List ℕ) (r : Option ℕ) (z : ℤ) → unsigned bs ≡ r → with_sign r ≡ some z → spelled z ≡ 45 ∷ bs
with_sign_lem bs none z u e = absurd (none_some e)
with_sign_lem bs (some zero) z u e = absurd (none_some e)
with_sign_lem bs (some (suc n)) z u e =
    let c = cond_some (leb n 2147483647) (some (negsuc n)) z e in
    let q : negsuc n ≡ z = some-injective (negsuc n) z c.1 in
    ap spelled (sym q) ∙ ap (λ (ds : List ℕ). 45 ∷ ds) (unsigned_written bs (suc n) (omega (arith, leb-true n 2147483647 c.0)) u)

without_sign_lem : (bs : List ℕ) (r : Option ℕ) (z : ℤ) → unsigned bs ≡ r → without_sign r ≡ some z → spelled z ≡ bs
without_sign_lem bs none z u e = absurd (none_some e)
without_sign_lem bs (some n) z u e =
    let c = cond_some (leb n 2147483647) (some (pos n)) z e in
    let q : pos n ≡ z = some-injective (pos n) z c.1 in
    ap spelled (sym q) ∙ unsigned_written bs n (omega (arith, leb-true n 2147483647 c.0)) u

-- blanks before the spelling
record Justified (bs : List ℕ) (z : ℤ) : Type 0 where
  fits : length (spelled z) ≤ length bs
  is : replicate (length bs - length (spelled z)) 32 ++ spelled z ≡ bs

whole : (bs : List ℕ) (z : ℤ) → spelled z ≡ bs → Justified bs z
whole bs z e =
    let l : length (spelled z) ≡ length bs = ap length e in
    let d : length bs - length (spelled z) ≡ 0 = omega arith in
    record { fits = omega arith; is = rw d e }

justified : (bs : List ℕ) (z : ℤ) → read_field bs ≡ some z → Justified bs z
unfolding read_field
justified [] z e = absurd (none_some e)
justified (b ∷ bs) z e = by (eqb b 32) refl e (justified bs z)
  where
    unblank : (t : Bool) → eqb b 45 ≡ t → cond t (with_sign (unsigned bs)) (without_sign (unsigned (b ∷ bs))) ≡ some z → Justified (b ∷ bs) z
    unblank true t e = whole (b ∷ bs) z (with_sign_lem bs (unsigned bs) z refl e ∙ ap (λ (x : ℕ). x ∷ bs) (sym (eqb-true b 45 t)))
    unblank false t e = whole (b ∷ bs) z (without_sign_lem (b ∷ bs) (unsigned (b ∷ bs)) z refl e)

    by : (t : Bool) → eqb b 32 ≡ t → cond t (read_field bs) (cond (eqb b 45) (with_sign (unsigned bs)) (without_sign (unsigned (b ∷ bs)))) ≡ some z →
        (read_field bs ≡ some z → Justified bs z) → Justified (b ∷ bs) z
    by true t e k =
        let j = k e in
        let s : length (b ∷ bs) - length (spelled z) ≡ suc (length bs - length (spelled z)) = omega (arith, j.fits) in
        record { fits = omega (arith, j.fits); is = rw s (λ i. sym (eqb-true b 32 t) i ∷ j.is i) }
    by false t e k = unblank (eqb b 45) refl e

pub field_written : (bs : List ℕ) (z : ℤ) → length bs ≡ 12 → read_field bs ≡ some z → field_of z ≡ bs
field_written bs z l e = ap (λ (n : ℕ). replicate (n - length (spelled z)) 32 ++ spelled z) (sym l) ∙ (justified bs z e).is

pub fields_written : (n : ℕ) (bs : List ℕ) (zs : List ℤ) → length bs ≡ 12 * n → read_fields n bs ≡ some zs → fields_of zs ≡ bs
unfolding read_fields fields_of
fields_written zero [] zs l e = ap fields_of (sym (some-injective [] zs e))
fields_written zero (b ∷ bs) zs l e = absurd (omega arith)
fields_written (suc n) bs zs l e =
    let g = and_some (read_field (take 12 bs)) (read_fields n (drop 12 bs)) zs e in
    let t : length (take 12 bs) ≡ 12 = length-take-le 12 bs (omega arith) in
    let d : length (drop 12 bs) ≡ 12 * n = length-drop 12 bs ∙ omega arith in
    ap fields_of (sym g.all)
    ∙ (λ i. field_written (take 12 bs) g.first t g.is_first i ++ fields_written n (drop 12 bs) g.others d g.are_others i)
    ∙ take-append-drop 12 bs

-- ---- the lines of a text

feed_written : (bs : List ℕ) (r : Option (List (List ℕ))) (ls : List (List ℕ)) → after_feed r ≡ some ls → ((ks : List (List ℕ)) → r ≡ some ks → text_of ks ≡ bs) →
    text_of ls ≡ 10 ∷ bs
unfolding text_of
feed_written bs none ls e h = absurd (none_some e)
feed_written bs (some ks) ls e h =
    let q : [] ∷ ks ≡ ls = some-injective ([] ∷ ks) ls e in
    ap text_of (sym q) ∙ ap (λ (l : List ℕ). 10 ∷ l) (h ks refl)

byte_written : (b : ℕ) (bs : List ℕ) (r : Option (List (List ℕ))) (ls : List (List ℕ)) → on_first b r ≡ some ls →
    ((ks : List (List ℕ)) → r ≡ some ks → text_of ks ≡ bs) → text_of ls ≡ b ∷ bs
unfolding text_of
byte_written b bs none ls e h = absurd (none_some e)
byte_written b bs (some []) ls e h = absurd (none_some e)
byte_written b bs (some (k ∷ ks)) ls e h =
    let q : (b ∷ k) ∷ ks ≡ ls = some-injective ((b ∷ k) ∷ ks) ls e in
    ap text_of (sym q) ∙ ap (λ (l : List ℕ). b ∷ l) (h (k ∷ ks) refl)

pub lines_written : (bs : List ℕ) (ls : List (List ℕ)) → lines_of bs ≡ some ls → text_of ls ≡ bs
unfolding lines_of text_of
lines_written [] ls e = ap text_of (sym (some-injective [] ls e))
lines_written (b ∷ bs) ls e = by (eqb b 10) refl e (lines_written bs)
  where
    by : (t : Bool) → eqb b 10 ≡ t → cond t (after_feed (lines_of bs)) (on_first b (lines_of bs)) ≡ some ls →
        ((ks : List (List ℕ)) → lines_of bs ≡ some ks → text_of ks ≡ bs) → text_of ls ≡ b ∷ bs
    by true t e h = feed_written bs (lines_of bs) ls e h ∙ ap (λ (x : ℕ). x ∷ bs) (sym (eqb-true b 10 t))
    by false t e h = byte_written b bs (lines_of bs) ls e h
