-- A word set whole, its count told and its items kept by the number: of any reply that is answered as `Tells` has it.
-- Assumes nothing.
use mathlib.Core.Path.{◌≡◌, refl, ap, ◌∙◌}
use mathlib.Core.Bool.{Bool, true, false, cond}
use mathlib.Core.List.{List, [], ◌∷◌, map}
use Prim.Native.Nat.{ℕ, zero, suc, ◌/◌}
use lib.IntN.{ℤ, pos}
use lib.Dec.{leb}
use lib.ListN.{length}
use Rattle.lang.specs.declared.Written.{Written}
use Rattle.lang.specs.Checks.{or_else, lower}
use Rattle.lang.specs.Answers.{Reply, reply_of, list_of, room_refusal, written_reply}
use Rattle.lang.proofs.Refusals.{lower_none}
use Rattle.word_set.specs.Writing.{Tells}
use Rattle.c_values.specs.Telling.{natural, told_number, TellsHost, kept}
use Rattle.c_values.proofs.Telling.{kept_list, tells_as, lent_two}
use Rattle.c_captions.specs.Whole.{SetsCaption}

-- one value is told: the number, and its list
one_number : (n : ℕ) (v : ℤ) (room : ℕ) → told_number (reply_of n (v ∷ [])) room ≡ or_else n (room_refusal 1 room)
one_number zero v room = refl
one_number (suc n) v room = refl

one_listed : (n k room : ℕ) →
    list_of (told_number (reply_of n (pos k ∷ [])) room) 0 room (map natural (reply_of n (pos k ∷ [])).values)
    ≡ list_of (or_else n (room_refusal 1 room)) 0 room (k ∷ [])
one_listed zero k room = refl
one_listed (suc n) k room = refl

-- the lower of what is told and of the room is that of the number and of the room
lower_told : (n room : ℕ) → lower (or_else n room) room ≡ lower n room
lower_told zero zero = refl
lower_told zero (suc m) = by (leb m m)
  where
    by : (b : Bool) → cond b (suc m) (suc m) ≡ suc m
    by true = refl
    by false = refl
lower_told (suc n) room = refl

-- both refuse, or neither
lower_listed : (n room k : ℕ) (xs : List ℕ) → list_of (or_else n room) 0 k xs ≡ list_of (lower n room) 0 k xs
lower_listed zero room k xs = refl
lower_listed (suc n) zero k xs = refl
lower_listed (suc n) (suc m) k xs = by (leb n m)
  where
    by : (b : Bool) → list_of (suc n) 0 k xs ≡ list_of (cond b (suc n) (suc m)) 0 k xs
    by true = refl
    by false = refl

module _ (items : List ℤ) (count : List ℕ) (w : Written) {t r : ℕ} {d items' : List ℤ} {count' : List ℕ} where
  -- `d` is what setting left in the items, `t` the number that was told, and `items'` what is kept of them
  kept_caption : (reply : Reply) → Tells reply items w d → TellsHost (written_reply w) count t count' → r ≡ lower t (room_refusal 1 (length count)) →
      length d ≡ length items → items' ≡ kept r (pos 0) d → SetsCaption reply items count r items' count'
  kept_caption reply h c g l e =
      let n = reply.number in
      let k = length reply.values / 6 in
      let room = room_refusal 1 (length count) in
      let told = tells_as h.answer c in
      let q : r ≡ lower n room = g ∙ ap (λ (m : ℕ). lower m room) (told.number ∙ one_number n (pos k) (length count)) ∙ lower_told n room in
      record {
        number = q;
        list = kept_list (pos 0) (length items) (lower n room) n reply.values (λ z. (lower_none n room z).0) h.list l
            (e ∙ ap (λ (m : ℕ). kept m (pos 0) d) q);
        counted = told.told ∙ one_listed n k (length count) ∙ lower_listed n room (length count) (k ∷ []);
      }

  -- the boundary character and the override come to the function that sets by way of their 32 bits
  pub caption_set : (reply : ℤ → ℤ → Reply) {b b' o o' : ℤ} → b' ≡ b → o' ≡ o → Tells (reply b' o') items w d → TellsHost (written_reply w) count t count' →
      r ≡ lower t (room_refusal 1 (length count)) → length d ≡ length items → items' ≡ kept r (pos 0) d → SetsCaption (reply b o) items count r items' count'
  caption_set reply {b' = b'} {o' = o'} p q h c g l e =
      lent_two (λ (x y : ℤ). SetsCaption (reply x y) items count r items' count') p q (kept_caption (reply b' o') h c g l e)
