-- A list of items, six numbers each (R132, R133): when an answer is an item, what keeps its numbers i32, what is written of it, and what is
-- left where a run stops. The contracts of crate word_items.
use Rattle.std.specs.Prelude.{◌≡◌, Bool, true, false, cond, List, ℕ, ◌<◌, ◌≤◌, ℤ, pos, leb, ltb, length, replicate}
use Rattle.lang.specs.declared.Written.{Written}
use Rattle.lang.specs.declared.Written.TheVariants as written
use Rattle.lang.specs.Every.{both}
use Rattle.captions.specs.declared.Answer.{Answer}
use Rattle.captions.specs.declared.Answer.TheVariants.{Char, Ligature, Kern, End, Refused}
use Rattle.captions.specs.Replies.{answer_reply}
use Rattle.word_plain_letters.specs.PlainLetters.{six_at}

-- an item, and neither the end nor a refusal
abbrev pub is_item : Answer → Bool
is_item (Char c start) = true
is_item (Ligature c start n left right) = true
is_item (Kern k) = true
is_item End = false
is_item (Refused k) = false

-- a code is at most the greatest letter (R371), a ligature's too, since a lent state may have letters pending before any character; a start
-- and a length are within the longest word; a refusal is not 0, and at most 20
abbrev pub Small : Answer → Type 0
Small (Char c start) = (c ≤ 1114111) × (start ≤ 65535)
Small (Ligature c start n left right) = (c ≤ 1114111) × (start ≤ 65535) × (n ≤ 65535)
Small (Kern k) = Unit {0}
Small End = Unit {0}
Small (Refused k) = (0 < k) × (k ≤ 20)

-- the same, as a test
abbrev pub is_small : Answer → Bool
is_small (Char c start) = both (leb c 1114111) (leb start 65535)
is_small (Ligature c start n left right) = both (leb c 1114111) (both (leb start 65535) (leb n 65535))
is_small (Kern k) = true
is_small End = true
is_small (Refused k) = both (ltb 0 k) (leb k 20)

-- the numbers of an item at a place; nothing where there is no room for six numbers, or where those of the answer are not small
abbrev pub item_at : List ℤ → ℕ → Answer → List ℤ
item_at items at a = cond (is_small a) (six_at items at (answer_reply a).values) items

-- the run stops after k items: they stay, and are counted; or the number of a refusal, and zeros
abbrev pub Stops : Answer → ℕ → List ℤ → Written → List ℤ → Type 0
Stops (Char c start) k items r items' = (r ≡ written.Count k) × (items' ≡ items)
Stops (Ligature c start n left right) k items r items' = (r ≡ written.Count k) × (items' ≡ items)
Stops (Kern v) k items r items' = (r ≡ written.Count k) × (items' ≡ items)
Stops End k items r items' = (r ≡ written.Count k) × (items' ≡ items)
Stops (Refused n) k items r items' = (r ≡ written.Refused n) × (items' ≡ replicate (length items) (pos 0))
