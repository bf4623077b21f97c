-- The one-by-one reading with letters and hits: each item has the letters that it stands for, a finished item is a node, and both hits are
-- kept until a ligature takes them. It stands between TeX's main loop and the reading of crate `reading`.
-- Assumes nothing.
use mathlib.Core.Bool.{Bool, true, false, cond}
use mathlib.Core.List.{List, [], ◌∷◌, ◌++◌, map}
use mathlib.Core.Option.{Option, none, some}
use Prim.Native.Nat.{ℕ, zero, suc}
use Rattle.lang.specs.declared.operation.PostLigOperation.TheVariants.{RetainBothMoveNowhere, RetainBothMoveToInserted, RetainBothMoveToRight}
use Rattle.lang.specs.declared.operation.PostLigOperation.TheVariants.{RetainRightMoveToInserted, RetainRightMoveToRight, RetainLeftMoveNowhere}
use Rattle.lang.specs.declared.operation.PostLigOperation.TheVariants.{RetainLeftMoveToInserted, RetainNeitherMoveToInserted}
use Rattle.reading.specs.Items.{Left, bnd, chr, Rule, free, kerned, lig, Rules}
use Rattle.main_loops.specs.Nodes.{Node, char_node, kern_node, ligature_node}
use Rattle.main_loops.specs.Loop.{subtype_of}

-- an item: a letter of the word as it came, a ligature with its letters, or the right item as it came
pub data Mark : Type 0 where
  letter : ℕ → Mark
  made : ℕ → List ℕ → Mark
  last : ℕ → Mark

abbrev pub code_of : Mark → ℕ
code_of (letter c) = c
code_of (made c ls) = c
code_of (last r) = r

abbrev pub letters_of : Mark → List ℕ
letters_of (letter c) = c ∷ []
letters_of (made c ls) = ls
letters_of (last r) = []

abbrev pub is_made : Mark → Bool
is_made (letter c) = false
is_made (made c ls) = true
is_made (last r) = false

abbrev pub is_last : Mark → Bool
is_last (letter c) = false
is_last (made c ls) = false
is_last (last r) = true

-- what stands left of the cursor: the left boundary, or an item
pub data Place : Type 0 where
  start : Place
  on : Mark → Place

abbrev pub place_code : Place → Option ℕ
place_code start = none
place_code (on y) = some (code_of y)

abbrev pub place_key : Place → Left
place_key start = bnd
place_key (on y) = chr (code_of y)

abbrev pub place_letters : Place → List ℕ
place_letters start = []
place_letters (on y) = letters_of y

abbrev pub place_made : Place → Bool
place_made start = false
place_made (on y) = is_made y

-- ---- finishing an item; f is whether a ligature takes the right hit

abbrev pub node_of : Bool → Bool → Place → List Node
node_of lft f start = []
node_of lft f (on (letter c)) = char_node c ∷ []
node_of lft f (on (made c ls)) = ligature_node c ls (subtype_of lft f) ∷ []
node_of lft f (on (last r)) = []

abbrev pub lft_after : Bool → Place → Bool
lft_after lft start = lft
lft_after lft (on (letter c)) = lft
lft_after lft (on (made c ls)) = false
lft_after lft (on (last r)) = lft

abbrev pub rt_after : Bool → Bool → Place → Bool
rt_after rt f start = rt
rt_after rt f (on (letter c)) = rt
rt_after rt f (on (made c ls)) = cond f false rt
rt_after rt f (on (last r)) = rt

-- ---- hits, before a ligature operation; e is whether the right item stands right of the cursor

abbrev pub lft_hit : Bool → Place → Bool
lft_hit lft start = true
lft_hit lft (on y) = lft

abbrev pub rt_hit : Bool → Bool → Place → Bool
rt_hit rt e start = rt
rt_hit rt e (on y) = cond e true rt

-- ---- what stands, and one step of it

pub record Text : Type 0 where
  pub given : List Node
  pub lft : Bool
  pub rt : Bool
  pub left : Place
  pub right : List Mark

abbrev pub text : List Node → Bool → Bool → Place → List Mark → Text
text ns lft rt x ys = record { given = ns; lft = lft; rt = rt; left = x; right = ys }

-- x is finished, with the text as it stands, and z comes in its place
abbrev pub finish : List Node → Bool → Bool → Bool → Place → Place → List Mark → Text
finish ns lft rt f x z ys = text (ns ++ node_of lft f x) (lft_after lft x) (rt_after rt f x) z ys

-- as finish, with more nodes behind the one of x
abbrev pub finish_with : List Node → Text → Text
finish_with ks t = text (t.given ++ ks) t.lft t.rt t.left t.right

-- c is finished next, before z comes in its place
abbrev pub then_finish : Bool → Place → Text → Text
then_finish e z t = finish t.given t.lft t.rt (cond t.rt e false) t.left z t.right

-- one step by a rule, with y right of the cursor and ys behind it
abbrev pub step_by : Rule → List Node → Bool → Bool → Place → Bool → Mark → List Mark → Text
step_by free ns lft rt x e y ys = finish ns lft rt (cond rt e false) x (on y) ys
step_by (kerned k) ns lft rt x e y ys = finish_with (kern_node k ∷ []) (finish ns lft rt (cond rt e false) x (on y) ys)
step_by (lig RetainNeitherMoveToInserted c) ns lft rt x e y ys =
    text ns (lft_hit lft x) (rt_hit rt e x) (on (made c (place_letters x ++ letters_of y))) ys
step_by (lig RetainRightMoveToInserted c) ns lft rt x e y ys = text ns (lft_hit lft x) (rt_hit rt e x) (on (made c (place_letters x))) (y ∷ ys)
step_by (lig RetainLeftMoveNowhere c) ns lft rt x e y ys = text ns (lft_hit lft x) (rt_hit rt e x) x (made c (letters_of y) ∷ ys)
step_by (lig RetainBothMoveNowhere c) ns lft rt x e y ys = text ns (lft_hit lft x) (rt_hit rt e x) x (made c [] ∷ y ∷ ys)
step_by (lig RetainRightMoveToRight c) ns lft rt x e y ys =
    finish ns (lft_hit lft x) (rt_hit rt e x) (cond (rt_hit rt e x) e false) (on (made c (place_letters x))) (on y) ys
step_by (lig RetainLeftMoveToInserted c) ns lft rt x e y ys =
    finish ns (lft_hit lft x) (rt_hit rt e x) (cond (rt_hit rt e x) false false) x (on (made c (letters_of y))) ys
step_by (lig RetainBothMoveToInserted c) ns lft rt x e y ys = finish ns (lft_hit lft x) (rt_hit rt e x) false x (on (made c [])) (y ∷ ys)
step_by (lig RetainBothMoveToRight c) ns lft rt x e y ys =
    then_finish e (on y) (finish ns (lft_hit lft x) (rt_hit rt e x) false x (on (made c [])) ys)

-- what an ended text gives
abbrev pub whole : Text → List Node
whole t = t.given ++ node_of t.lft (cond t.rt true false) t.left

-- ---- the lettered reading

pub data LetteredRead : Type 0 where
  over : List Node → LetteredRead
  yet : LetteredRead

-- at most n steps
unfoldable pub read_text : Rules → ℕ → Text → List Mark → LetteredRead
read_text rule zero t [] = over (whole t)
read_text rule zero t (y ∷ ys) = yet
read_text rule (suc n) t [] = over (whole t)
read_text rule (suc n) t (y ∷ ys) =
    let u = step_by (rule (place_key t.left) (code_of y)) t.given t.lft t.rt t.left (is_last y) y ys in
    read_text rule n u u.right
