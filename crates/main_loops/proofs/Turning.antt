-- One turn of the loop is one step of the lettered reading.
-- Assumes nothing.
use mathlib.Core.Path.{◌≡◌, refl, sym, ap, ◌∙◌}
use mathlib.Core.Bool.{Bool, true, false, cond}
use mathlib.Core.List.{List, [], ◌∷◌, ◌++◌, map, append-nil}
use mathlib.Core.Logic.{◌⊎◌, inl, inr}
use mathlib.Core.Option.{Option, none, some}
use Prim.Native.Nat.{ℕ, zero, suc}
use lib.IntN.{ℤ}
use Rattle.lang.specs.declared.operation.PostLigOperation.TheVariants.{RetainBothMoveNowhere, RetainBothMoveToInserted, RetainBothMoveToRight}
use Rattle.lang.specs.declared.operation.PostLigOperation.TheVariants.{RetainRightMoveToInserted, RetainRightMoveToRight, RetainLeftMoveNowhere}
use Rattle.lang.specs.declared.operation.PostLigOperation.TheVariants.{RetainLeftMoveToInserted, RetainNeitherMoveToInserted}
use Rattle.reading.specs.Items.{Rule, free, kerned, lig, Rules}
use Rattle.main_loops.specs.Nodes.{Node, char_node, kern_node, ligature_node, LigStack, null, character, pseudo, MainLoop, Jump, main_lig_loop, reswitch}
use Rattle.main_loops.specs.Loop.{is_null, lig_ptr, wrapup, main_loop_wrapup, do_kern, hit, left_becomes, right_becomes, pushed, between, both_become, do_command}
use Rattle.main_loops.specs.Loop.{main_loop_move1}
use Rattle.main_loops.proofs.Lettered.{Mark, letter, made, last, letters_of, Place, start, on, place_code, place_letters, place_made, node_of, lft_after}
use Rattle.main_loops.proofs.Lettered.{rt_after}
use Rattle.main_loops.proofs.Lettered.{lft_hit, rt_hit, Text, text, finish, finish_with, step_by, whole}
use Rattle.main_loops.proofs.Moving.{state, shows, marks, Stacked, empty, char, lettered, bare, Full, full_stacked, top_mark, behind, AtLoop, into, onto}

-- out of the loop, with the nodes of this text, which has ended
pub record AtStop (j : Jump) (t : Text) : Type 0 where
  pub jumps : j ≡ reswitch (whole t)
  pub nothing : t.right ≡ []

abbrev pub Shown : Jump → Text → Type 0
Shown j t = AtLoop j t ⊎ AtStop j t

-- ---- main_loop_wrapup

pub wrapped : {stack : LigStack} {rest : List ℕ} → Full stack rest → (ns : List Node) (lft rt : Bool) (x : Place) (b : Option ℕ) →
    AtLoop (main_loop_wrapup (shows ns lft rt x stack b rest))
    (finish ns lft rt (cond rt (is_null stack) false) x (on (top_mark stack)) (behind stack rest b))
wrapped h ns lft rt start b = onto h ns [] none _ lft rt b refl
wrapped h ns lft rt (on (letter c)) b = onto h ns (c ∷ []) (some c) _ lft rt b refl
wrapped h ns lft rt (on (made c ls)) b = onto h _ [] (some c) _ false _ b (append-nil _)
wrapped h ns lft rt (on (last r)) b = onto h ns [] (some r) _ lft rt b refl

pub stopped : (ns : List Node) (lft rt : Bool) (x : Place) (b : Option ℕ) →
    main_loop_wrapup (shows ns lft rt x null b []) ≡ reswitch (ns ++ node_of lft (cond rt true false) x)
stopped ns lft rt start b = refl
stopped ns lft rt (on (letter c)) b = refl
stopped ns lft rt (on (made c ls)) b = ap reswitch (append-nil _)
stopped ns lft rt (on (last r)) b = refl

-- ---- a kern

kern_behind : (a : List Node) (n : Node) → a ++ [] ++ (n ∷ []) ++ [] ≡ a ++ (n ∷ [])
kern_behind a n = append-nil _ ∙ ap (λ (l : List Node). l ++ (n ∷ [])) (append-nil a)

kern_full : {stack : LigStack} {rest : List ℕ} → Full stack rest → (k : ℤ) (ns : List Node) (lft rt : Bool) (x : Place) (b : Option ℕ) →
    AtLoop (do_command (kerned k) (shows ns lft rt x stack b rest))
    (step_by (kerned k) ns lft rt x (is_null stack) (top_mark stack) (behind stack rest b))
kern_full h k ns lft rt start b = onto h _ [] none _ lft rt b (append-nil _)
kern_full h k ns lft rt (on (letter c)) b = onto h _ [] (some c) _ lft rt b (append-nil _)
kern_full {stack} h k ns lft rt (on (made c ls)) b =
    onto h _ [] (some c) _ false _ b (kern_behind (ns ++ node_of lft (cond rt (is_null stack) false) (on (made c ls))) (kern_node k))
kern_full h k ns lft rt (on (last r)) b = onto h _ [] (some r) _ lft rt b (append-nil _)

kern_null : (k : ℤ) (ns : List Node) (lft rt : Bool) (x : Place) (b : Option ℕ) →
    do_command (kerned k) (shows ns lft rt x null b []) ≡ reswitch (ns ++ node_of lft (cond rt true false) x ++ (kern_node k ∷ []))
kern_null k ns lft rt start b = ap reswitch (append-nil _)
kern_null k ns lft rt (on (letter c)) b = ap reswitch (append-nil _)
kern_null k ns lft rt (on (made c ls)) b = ap reswitch (kern_behind (ns ++ node_of lft (cond rt true false) (on (made c ls))) (kern_node k))
kern_null k ns lft rt (on (last r)) b = ap reswitch (append-nil _)

-- ---- the states that the ligature operations leave

left_becomes_lem : (c : ℕ) (ns : List Node) (lft rt : Bool) (x : Place) (stack : LigStack) (b : Option ℕ) (rest : List ℕ) →
    left_becomes c (hit (shows ns lft rt x stack b rest))
    ≡ shows ns (lft_hit lft x) (rt_hit rt (is_null stack) x) (on (made c (place_letters x))) stack b rest
left_becomes_lem c ns lft rt start stack b rest = refl
left_becomes_lem c ns lft rt (on y) stack b rest = refl

-- a full stack whose first is now c
abbrev becomes : ℕ → LigStack → LigStack
becomes c null = pseudo c none null
becomes c (character l) = pseudo c (some l) null
becomes c (pseudo d p link) = pseudo c p link

becomes_full : {stack : LigStack} {rest : List ℕ} → (c : ℕ) → Full stack rest → Full (becomes c stack) rest
becomes_full c (char d rest) = lettered c d rest
becomes_full c (lettered d l rest) = lettered c l rest
becomes_full c (bare d link rest h) = bare c link rest h

becomes_null : {stack : LigStack} {rest : List ℕ} → (c : ℕ) → Full stack rest → is_null (becomes c stack) ≡ false
becomes_null c (char d rest) = refl
becomes_null c (lettered d l rest) = refl
becomes_null c (bare d link rest h) = refl

becomes_top : {stack : LigStack} {rest : List ℕ} → (c : ℕ) → Full stack rest → top_mark (becomes c stack) ≡ made c (letters_of (top_mark stack))
becomes_top c (char d rest) = refl
becomes_top c (lettered d l rest) = refl
becomes_top c (bare d link rest h) = refl

becomes_behind : {stack : LigStack} {rest : List ℕ} → (c : ℕ) → Full stack rest → (b : Option ℕ) → behind (becomes c stack) rest b ≡ behind stack rest b
unfolding marks
becomes_behind c (char d rest) b = refl
becomes_behind c (lettered d l rest) b = refl
becomes_behind c (bare d link rest h) b = refl

pub full_marks : {stack : LigStack} {rest : List ℕ} → Full stack rest → (b : Option ℕ) → top_mark stack ∷ behind stack rest b ≡ marks stack rest b
unfolding marks
full_marks (char d rest) b = refl
full_marks (lettered d l rest) b = refl
full_marks (bare d link rest h) b = refl

right_becomes_lem : {stack : LigStack} {rest : List ℕ} → (c : ℕ) → Full stack rest → (ns : List Node) (lft rt : Bool) (x : Place) (b : Option ℕ) →
    right_becomes c (hit (shows ns lft rt x stack b rest))
    ≡ shows ns (lft_hit lft x) (rt_hit rt (is_null stack) x) x (becomes c stack) b rest
right_becomes_lem c (char d rest) ns lft rt start b = refl
right_becomes_lem c (char d rest) ns lft rt (on y) b = refl
right_becomes_lem c (lettered d l rest) ns lft rt start b = refl
right_becomes_lem c (lettered d l rest) ns lft rt (on y) b = refl
right_becomes_lem c (bare d link rest h) ns lft rt start b = refl
right_becomes_lem c (bare d link rest h) ns lft rt (on y) b = refl

right_consumed : (c : ℕ) (ns : List Node) (lft rt : Bool) (x : Place) (r : ℕ) →
    right_becomes c (hit (shows ns lft rt x null (some r) []))
    ≡ shows ns (lft_hit lft x) (rt_hit rt true x) x (pseudo c none null) none []
right_consumed c ns lft rt start r = refl
right_consumed c ns lft rt (on y) r = refl

right_pushed : (c : ℕ) (ns : List Node) (lft rt : Bool) (x : Place) (stack : LigStack) (b : Option ℕ) (rest : List ℕ) →
    pushed c (hit (shows ns lft rt x stack b rest))
    ≡ shows ns (lft_hit lft x) (rt_hit rt (is_null stack) x) x (pseudo c none stack) b rest
right_pushed c ns lft rt start stack b rest = refl
right_pushed c ns lft rt (on y) stack b rest = refl

pushed_marks : (c : ℕ) (stack : LigStack) (rest : List ℕ) (b : Option ℕ) {ys : List Mark} → ys ≡ marks stack rest b →
    made c [] ∷ ys ≡ marks (pseudo c none stack) rest b
unfolding marks
pushed_marks c stack rest b e = ap (λ (l : List Mark). made c [] ∷ l) e

in_between : (c : ℕ) (ns : List Node) (lft rt : Bool) (x : Place) (stack : LigStack) (b : Option ℕ) (rest : List ℕ) →
    between c (wrapup false (hit (shows ns lft rt x stack b rest)))
    ≡ shows (ns ++ node_of (lft_hit lft x) false x) (lft_after (lft_hit lft x) x) (rt_after (rt_hit rt (is_null stack) x) false x) (on (made c [])) stack b rest
in_between c ns lft rt start stack b rest = refl
in_between c ns lft rt (on (letter d)) stack b rest = refl
in_between c ns lft rt (on (made d ls)) stack b rest = rw append-nil
in_between c ns lft rt (on (last d)) stack b rest = refl

loop_by : {j i : Jump} {t : Text} → j ≡ i → AtLoop i t → AtLoop j t
loop_by e h =
    record { stack = h.stack; rest = h.rest; bchar = h.bchar; stacked = h.stacked; jumps = e ∙ h.jumps; marked = h.marked }

loop_as : {j : Jump} {t u : Text} → t ≡ u → AtLoop j t → AtLoop j u
loop_as e h = rw e at h

both_full : {stack : LigStack} {rest : List ℕ} → Full stack rest → (s : MainLoop) → both_become stack s ≡ main_loop_move1 stack s
both_full (char c rest) s = refl
both_full (lettered c l rest) s = refl
both_full (bare c link rest h) s = refl

-- ---- a turn with a stack that is not null

pub turned : (R : Rule) {stack : LigStack} {rest : List ℕ} → Full stack rest → (ns : List Node) (lft rt : Bool) (x : Place) (b : Option ℕ) →
    AtLoop (do_command R (shows ns lft rt x stack b rest)) (step_by R ns lft rt x (is_null stack) (top_mark stack) (behind stack rest b))
turned free h ns lft rt x b = wrapped h ns lft rt x b
turned (kerned k) h ns lft rt x b = kern_full h k ns lft rt x b
turned (lig RetainNeitherMoveToInserted c) {stack} {rest} h ns lft rt x b =
    loop_by (both_full h (left_becomes c (hit (shows ns lft rt x stack b rest))) ∙ ap (main_loop_move1 stack) (left_becomes_lem c ns lft rt x stack b rest))
    (into h ns (place_letters x) c _ _ _ b)
turned (lig RetainRightMoveToInserted c) {stack} {rest} h ns lft rt x b =
    record {
      stack = stack;
      rest = rest;
      bchar = b;
      stacked = full_stacked h;
      jumps = ap main_lig_loop (left_becomes_lem c ns lft rt x stack b rest);
      marked = full_marks h b;
    }
turned (lig RetainLeftMoveNowhere c) {stack} {rest} h ns lft rt x b =
    record {
      stack = becomes c stack;
      rest = rest;
      bchar = b;
      stacked = full_stacked (becomes_full c h);
      jumps = ap main_lig_loop (right_becomes_lem c h ns lft rt x b);
      marked = cc (becomes_top c h, becomes_behind c h b, full_marks (becomes_full c h) b);
    }
turned (lig RetainBothMoveNowhere c) {stack} {rest} h ns lft rt x b =
    record {
      stack = pseudo c none stack;
      rest = rest;
      bchar = b;
      stacked = bare c stack rest (full_stacked h);
      jumps = ap main_lig_loop (right_pushed c ns lft rt x stack b rest);
      marked = pushed_marks c stack rest b (full_marks h b);
    }
turned (lig RetainRightMoveToRight c) {stack} {rest} h ns lft rt x b =
    loop_by (ap main_loop_wrapup (left_becomes_lem c ns lft rt x stack b rest)) (wrapped h ns (lft_hit lft x) (rt_hit rt (is_null stack) x) (on (made c
    (place_letters x))) b)
turned (lig RetainLeftMoveToInserted c) {stack} {rest} h ns lft rt x b =
    loop_by (ap main_loop_wrapup (right_becomes_lem c h ns lft rt x b))
    (rw (becomes_null c h, becomes_top c h, becomes_behind c h b) at
    (wrapped (becomes_full c h) ns (lft_hit lft x) (rt_hit rt (is_null stack) x) x b))
turned (lig RetainBothMoveToInserted c) {stack} {rest} h ns lft rt x b =
    record {
      stack = stack;
      rest = rest;
      bchar = b;
      stacked = full_stacked h;
      jumps = ap main_lig_loop (in_between c ns lft rt x stack b rest);
      marked = full_marks h b;
    }
turned (lig RetainBothMoveToRight c) {stack} {rest} h ns lft rt x b =
    loop_by (ap main_loop_wrapup (in_between c ns lft rt x stack b rest))
    (wrapped h (ns ++ node_of (lft_hit lft x) false x) (lft_after (lft_hit lft x) x) (rt_after (rt_hit rt (is_null stack) x) false x) (on (made c [])) b)

-- ---- a turn at the right item

pub turned_last : (R : Rule) (ns : List Node) (lft rt : Bool) (x : Place) (r : ℕ) →
    Shown (do_command R (shows ns lft rt x null (some r) [])) (step_by R ns lft rt x true (last r) [])
unfolding marks
turned_last free ns lft rt x r = inr (record { jumps = stopped ns lft rt x (some r) ∙ ap reswitch (sym (append-nil _)); nothing = refl })
turned_last (kerned k) ns lft rt x r = inr (record { jumps = kern_null k ns lft rt x (some r) ∙ ap reswitch (sym (append-nil _)); nothing = refl })
turned_last (lig RetainNeitherMoveToInserted c) ns lft rt x r =
    inr
    (record {
      jumps =
          ap main_loop_wrapup (left_becomes_lem c ns lft rt x null (some r) [])
          ∙ stopped ns (lft_hit lft x) (rt_hit rt true x) (on (made c (place_letters x))) (some r)
          ∙ ap (λ (ls : List ℕ). reswitch (ns ++ node_of (lft_hit lft x) (cond (rt_hit rt true x) true false) (on (made c ls)))) (sym (append-nil _));
      nothing = refl;
    })
turned_last (lig RetainRightMoveToInserted c) ns lft rt x r =
    inl
    (record {
      stack = null;
      rest = [];
      bchar = some r;
      stacked = empty;
      jumps = ap main_lig_loop (left_becomes_lem c ns lft rt x null (some r) []);
      marked = refl;
    })
turned_last (lig RetainLeftMoveNowhere c) ns lft rt x r =
    inl
    (record {
      stack = pseudo c none null;
      rest = [];
      bchar = none;
      stacked = bare c null [] empty;
      jumps = ap main_lig_loop (right_consumed c ns lft rt x r);
      marked = refl;
    })
turned_last (lig RetainBothMoveNowhere c) ns lft rt x r =
    inl
    (record {
      stack = pseudo c none null;
      rest = [];
      bchar = some r;
      stacked = bare c null [] empty;
      jumps = ap main_lig_loop (right_pushed c ns lft rt x null (some r) []);
      marked = refl;
    })
turned_last (lig RetainRightMoveToRight c) ns lft rt x r =
    inr
    (record {
      jumps =
          ap main_loop_wrapup (left_becomes_lem c ns lft rt x null (some r) [])
          ∙ stopped ns (lft_hit lft x) (rt_hit rt true x) (on (made c (place_letters x))) (some r)
          ∙ ap reswitch (sym (append-nil _));
      nothing = refl;
    })
turned_last (lig RetainLeftMoveToInserted c) ns lft rt x r =
    inl
    (loop_by (ap main_loop_wrapup (right_consumed c ns lft rt x r))
    (wrapped (bare c null [] empty) ns (lft_hit lft x) (rt_hit rt true x) x none))
turned_last (lig RetainBothMoveToInserted c) ns lft rt x r =
    inl
    (record {
      stack = null;
      rest = [];
      bchar = some r;
      stacked = empty;
      jumps = ap main_lig_loop (in_between c ns lft rt x null (some r) []);
      marked = refl;
    })
turned_last (lig RetainBothMoveToRight c) ns lft rt x r =
    inr
    (record {
      jumps =
          ap main_loop_wrapup (in_between c ns lft rt x null (some r) [])
          ∙ stopped (ns ++ node_of (lft_hit lft x) false x) (lft_after (lft_hit lft x) x) (rt_after (rt_hit rt true x) false x) (on (made c [])) (some r)
          ∙ ap reswitch (sym (append-nil _));
      nothing = refl;
    })
