-- The lettered reading without letters is the reading.
-- Assumes nothing.
use mathlib.Core.Path.{◌≡◌, refl, sym, ap, ◌∙◌}
use mathlib.Core.Bool.{Bool, true, false, cond}
use mathlib.Core.List.{List, [], ◌∷◌, ◌++◌, map, append-nil, append_assoc}
use mathlib.Core.Option.{Option, none, some}
use Prim.Native.Nat.{ℕ, zero, suc}
use Rattle.lang.specs.declared.operation.PostLigOperation.TheVariants.{RetainBothMoveNowhere, RetainBothMoveToInserted, RetainBothMoveToRight}
use Rattle.lang.specs.declared.operation.PostLigOperation.TheVariants.{RetainRightMoveToInserted, RetainRightMoveToRight, RetainLeftMoveNowhere}
use Rattle.lang.specs.declared.operation.PostLigOperation.TheVariants.{RetainLeftMoveToInserted, RetainNeitherMoveToInserted}
use Rattle.reading.specs.Items.{Rule, free, kerned, lig, Rules, Item, plain, inserted, code, Head, edge, at, key, Out, glyph, kern, fin}
use Rattle.reading.specs.Reading.{Act, act, Read, done, more, push, read, Reading, ended, going, remains, close}
use Rattle.main_loops.specs.Nodes.{Node}
use Rattle.main_loops.specs.Purpose.{node_item}
use Rattle.main_loops.proofs.Lettered.{Mark, letter, made, last, code_of, is_last, Place, start, on, place_key, node_of, lft_hit, rt_hit, Text, text, step_by}
use Rattle.main_loops.proofs.Lettered.{whole}
use Rattle.main_loops.proofs.Lettered.{LetteredRead, over, yet, read_text}
use Rattle.main_loops.proofs.Running.{step_text}

-- ---- without letters

abbrev pub erase_mark : Mark → Item
erase_mark (letter c) = plain c
erase_mark (made c ls) = inserted c
erase_mark (last r) = plain r

abbrev pub erase_place : Place → Head
erase_place start = edge
erase_place (on y) = at (erase_mark y)

abbrev pub erase_read : LetteredRead → Reading
erase_read (over ns) = ended (map node_item ns)
erase_read yet = going

erase_code : (y : Mark) → code (erase_mark y) ≡ code_of y
erase_code (letter c) = refl
erase_code (made c ls) = refl
erase_code (last r) = refl

erase_key : (x : Place) → key (erase_place x) ≡ place_key x
erase_key start = refl
erase_key (on (letter c)) = refl
erase_key (on (made c ls)) = refl
erase_key (on (last r)) = refl

-- ---- the right item is last, and nothing else is; where there is one, no letter is

abbrev EndFits : Option ℕ → Place → Type 0
EndFits right start = Unit {0}
EndFits none (on (letter c)) = Unit {0}
EndFits none (on (made c ls)) = Unit {0}
EndFits none (on (last r)) = ⊥
EndFits (some q) (on (letter c)) = ⊥
EndFits (some q) (on (made c ls)) = Unit {0}
EndFits (some q) (on (last r)) = Unit {0}

abbrev Inner : Place → Type 0
Inner start = Unit {0}
Inner (on (letter c)) = Unit {0}
Inner (on (made c ls)) = Unit {0}
Inner (on (last r)) = ⊥

unfoldable pub Fits : Option ℕ → Place → List Mark → Type 0
Fits right x [] = EndFits right x
Fits right x (y ∷ ys) = Inner x × Fits right (on y) ys

-- a finished item
erase_node : (lft f : Bool) (x : Place) → Inner x → map node_item (node_of lft f x) ≡ fin (erase_place x)
erase_node lft f start h = refl
erase_node lft f (on (letter c)) h = refl
erase_node lft f (on (made c ls)) h = refl
erase_node lft f (on (last r)) h = absurd h

-- what remains
erase_remains : (lft f : Bool) (right : Option ℕ) (x : Place) → EndFits right x → map node_item (node_of lft f x) ≡ remains right (erase_place x)
erase_remains lft f right start h = refl
erase_remains lft f none (on (letter c)) h = refl
erase_remains lft f none (on (made c ls)) h = refl
erase_remains lft f none (on (last r)) h = absurd h
erase_remains lft f (some q) (on (letter c)) h = absurd h
erase_remains lft f (some q) (on (made c ls)) h = refl
erase_remains lft f (some q) (on (last r)) h = refl

-- ---- one step

map_append : (ns ms : List Node) → map node_item (ns ++ ms) ≡ map node_item ns ++ map node_item ms
map_append [] ms = refl
map_append (n ∷ ns) ms = ap (λ (l : List Out). node_item n ∷ l) (map_append ns ms)

finish_outs : (ns : List Node) (lft f : Bool) (x : Place) → Inner x → map node_item (ns ++ node_of lft f x) ≡ map node_item ns ++ fin (erase_place x)
finish_outs ns lft f x h = map_append ns (node_of lft f x) ∙ ap (λ (l : List Out). map node_item ns ++ l) (erase_node lft f x h)

-- with one more node
finish_more : (ns : List Node) (lft f : Bool) (x : Place) (n : Node) → Inner x →
    map node_item (ns ++ node_of lft f x ++ (n ∷ [])) ≡ map node_item ns ++ (fin (erase_place x) ++ (node_item n ∷ []))
finish_more ns lft f x n h =
    map_append (ns ++ node_of lft f x) (n ∷ [])
    ∙ ap (λ (l : List Out). l ++ (node_item n ∷ [])) (finish_outs ns lft f x h)
    ∙ append_assoc (map node_item ns) (fin (erase_place x)) (node_item n ∷ [])

step_outs : (R : Rule) (ns : List Node) (lft rt : Bool) (x : Place) (e : Bool) (y : Mark) (ys : List Mark) → Inner x →
    map node_item (step_by R ns lft rt x e y ys).given ≡ map node_item ns ++ (act R (erase_place x) (erase_mark y)).outs
step_outs free ns lft rt x e y ys h = finish_outs ns lft _ x h
step_outs (kerned k) ns lft rt x e y ys h = finish_more ns lft _ x _ h
step_outs (lig RetainNeitherMoveToInserted c) ns lft rt x e y ys h = sym (append-nil _)
step_outs (lig RetainRightMoveToInserted c) ns lft rt x e y ys h = sym (append-nil _)
step_outs (lig RetainLeftMoveNowhere c) ns lft rt x e y ys h = sym (append-nil _)
step_outs (lig RetainBothMoveNowhere c) ns lft rt x e y ys h = sym (append-nil _)
step_outs (lig RetainRightMoveToRight c) ns lft rt x e y ys h = map_append ns _
step_outs (lig RetainLeftMoveToInserted c) ns lft rt x e y ys h = finish_outs ns (lft_hit lft x) _ x h
step_outs (lig RetainBothMoveToInserted c) ns lft rt x e y ys h = finish_outs ns (lft_hit lft x) false x h
step_outs (lig RetainBothMoveToRight c) ns lft rt x e y ys h = finish_more ns (lft_hit lft x) false x _ h

step_left : (R : Rule) (ns : List Node) (lft rt : Bool) (x : Place) (e : Bool) (y : Mark) (ys : List Mark) →
    erase_place (step_by R ns lft rt x e y ys).left ≡ (act R (erase_place x) (erase_mark y)).left
step_left free ns lft rt x e y ys = refl
step_left (kerned k) ns lft rt x e y ys = refl
step_left (lig RetainNeitherMoveToInserted c) ns lft rt x e y ys = refl
step_left (lig RetainRightMoveToInserted c) ns lft rt x e y ys = refl
step_left (lig RetainLeftMoveNowhere c) ns lft rt x e y ys = refl
step_left (lig RetainBothMoveNowhere c) ns lft rt x e y ys = refl
step_left (lig RetainRightMoveToRight c) ns lft rt x e y ys = refl
step_left (lig RetainLeftMoveToInserted c) ns lft rt x e y ys = refl
step_left (lig RetainBothMoveToInserted c) ns lft rt x e y ys = refl
step_left (lig RetainBothMoveToRight c) ns lft rt x e y ys = refl

step_right : (R : Rule) (ns : List Node) (lft rt : Bool) (x : Place) (e : Bool) (y : Mark) (ys : List Mark) →
    map erase_mark (step_by R ns lft rt x e y ys).right ≡ (act R (erase_place x) (erase_mark y)).back ++ map erase_mark ys
step_right free ns lft rt x e y ys = refl
step_right (kerned k) ns lft rt x e y ys = refl
step_right (lig RetainNeitherMoveToInserted c) ns lft rt x e y ys = refl
step_right (lig RetainRightMoveToInserted c) ns lft rt x e y ys = refl
step_right (lig RetainLeftMoveNowhere c) ns lft rt x e y ys = refl
step_right (lig RetainBothMoveNowhere c) ns lft rt x e y ys = refl
step_right (lig RetainRightMoveToRight c) ns lft rt x e y ys = refl
step_right (lig RetainLeftMoveToInserted c) ns lft rt x e y ys = refl
step_right (lig RetainBothMoveToInserted c) ns lft rt x e y ys = refl
step_right (lig RetainBothMoveToRight c) ns lft rt x e y ys = refl

made_fits : (right : Option ℕ) (c : ℕ) (ls : List ℕ) (z : Place) (ys : List Mark) → Fits right z ys → Fits right (on (made c ls)) ys
unfolding Fits
made_fits none c ls z [] h = record {}
made_fits (some q) c ls z [] h = record {}
made_fits none c ls z (y ∷ ys) h = (record {}, h.1)
made_fits (some q) c ls z (y ∷ ys) h = (record {}, h.1)

step_fits : (R : Rule) (right : Option ℕ) (ns : List Node) (lft rt : Bool) (x : Place) (e : Bool) (y : Mark) (ys : List Mark) → Inner x → Fits right (on y) ys →
    Fits right (step_by R ns lft rt x e y ys).left (step_by R ns lft rt x e y ys).right
unfolding Fits
step_fits free right ns lft rt x e y ys h i = i
step_fits (kerned k) right ns lft rt x e y ys h i = i
step_fits (lig RetainNeitherMoveToInserted c) right ns lft rt x e y ys h i = made_fits right c _ (on y) ys i
step_fits (lig RetainRightMoveToInserted c) right ns lft rt x e y ys h i = (record {}, i)
step_fits (lig RetainLeftMoveNowhere c) right ns lft rt x e y ys h i = (h, made_fits right c _ (on y) ys i)
step_fits (lig RetainBothMoveNowhere c) right ns lft rt x e y ys h i = (h, (record {}, i))
step_fits (lig RetainRightMoveToRight c) right ns lft rt x e y ys h i = i
step_fits (lig RetainLeftMoveToInserted c) right ns lft rt x e y ys h i = made_fits right c _ (on y) ys i
step_fits (lig RetainBothMoveToInserted c) right ns lft rt x e y ys h i = (record {}, i)
step_fits (lig RetainBothMoveToRight c) right ns lft rt x e y ys h i = i

-- ---- any number of steps

push_push : (os ps : List Out) (r : Read) → push os (push ps r) ≡ push (os ++ ps) r
push_push os ps (done qs x) = ap (λ (l : List Out). done l x) (sym (append_assoc os ps qs))
push_push os ps more = refl

erase_whole : (right : Option ℕ) (t : Text) → EndFits right t.left →
    close right (push (map node_item t.given) (done [] (erase_place t.left))) ≡ ended (map node_item (whole t))
erase_whole right t h =
    ap (λ (l : List Out). ended (l ++ remains right (erase_place t.left))) (append-nil (map node_item t.given))
    ∙ ap (λ (l : List Out). ended (map node_item t.given ++ l)) (sym (erase_remains t.lft (cond t.rt true false) right t.left h))
    ∙ ap ended (sym (map_append t.given _))

as_step : (rule : Rules) (R : Rule) (n : ℕ) (ns : List Node) (lft rt : Bool) (x : Place) (e : Bool) (y : Mark) (ys : List Mark) → Inner x →
    push (map node_item ns)
    (push (act R (erase_place x) (erase_mark y)).outs
    (read rule n (act R (erase_place x) (erase_mark y)).left ((act R (erase_place x) (erase_mark y)).back ++ map erase_mark ys)))
    ≡ push (map node_item (step_by R ns lft rt x e y ys).given)
    (read rule n (erase_place (step_by R ns lft rt x e y ys).left) (map erase_mark (step_by R ns lft rt x e y ys).right))
as_step rule R n ns lft rt x e y ys h =
    push_push (map node_item ns) (act R (erase_place x) (erase_mark y)).outs
    (read rule n (act R (erase_place x) (erase_mark y)).left ((act R (erase_place x) (erase_mark y)).back ++ map erase_mark ys))
    ∙ rw (← step_outs R ns lft rt x e y ys h, ← step_left R ns lft rt x e y ys, ← step_right R ns lft rt x e y ys) refl

pub erased : (rule : Rules) (right : Option ℕ) (n : ℕ) (t : Text) (ys : List Mark) → Fits right t.left ys →
    close right (push (map node_item t.given) (read rule n (erase_place t.left) (map erase_mark ys))) ≡ erase_read (read_text rule n t ys)
unfolding read read_text Fits
erased rule right zero t [] h = erase_whole right t h
erased rule right zero t (y ∷ ys) h = refl
erased rule right (suc n) t [] h = erase_whole right t h
erased rule right (suc n) t (y ∷ ys) h =
    let R = rule (place_key t.left) (code_of y) in
    let u = step_text rule t y ys in
    let i = erased rule right n u u.right (step_fits R right t.given t.lft t.rt t.left (is_last y) y ys h.0 h.1) in
    rw (erase_key t.left, erase_code y)
    (ap (close right) (as_step rule R n t.given t.lft t.rt t.left (is_last y) y ys h.0) ∙ i)
