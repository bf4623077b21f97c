-- The nodes of a word by a table of entries: pair after pair, each entry's ops as nodes, and its last item left of the next letter.
-- Assumes nothing.
use mathlib.Core.Bool.{Bool, true, false, cond}
use mathlib.Core.List.{List, [], ◌∷◌, ◌++◌}
use mathlib.Core.Option.{Option, none, some}
use Prim.Native.Nat.{ℕ}
use Rattle.reading.specs.Items.{Left, Item, item, plain, head, at, fin}
use Rattle.reading.specs.Depth.{Res, Finished}
use Rattle.main_loops.specs.Nodes.{Node, ligature_node}
use Rattle.main_loops.specs.Loop.{subtype_of}
use Rattle.main_loops.proofs.Lettered.{letter, Place, place_key, place_letters, node_of, lft_hit}
use Rattle.main_loop_pairs.proofs.Held.{Held, hold, give_all, head_flag_of}
use Rattle.main_loop_pairs.proofs.Pairs.{own_of, ends_by}
use Rattle.main_loop_pairs.proofs.Phases.{end_place}

-- a pair's entry, or the left finished and the right as it came
abbrev pub res_or : Option Res → Left → ℕ → Res
res_or none l r = record { outs = fin (head l); last = plain r }
res_or (some q) l r = q

-- what a pair's ops take in of its left
abbrev pub taking : Place → Bool → List Node → Held
taking x lft ns = hold ns (own_of lft x) (place_letters x) (lft_hit lft x)

-- the last item, at the word's end
abbrev pub last_nodes : Item → Held → List Node
last_nodes (item false c) h = h.nodes
last_nodes (item true c) h = h.nodes ++ (ligature_node c h.letters (subtype_of h.lft true) ∷ [])

-- the last left, with the right item where there is one
abbrev pub end_nodes : Finished → Option ℕ → Place → Bool → List Node → List Node
end_nodes table none x lft ns = ns ++ node_of lft false x
end_nodes table (some r) x lft ns =
    let q = res_or (table (place_key x) r) (place_key x) r in
    last_nodes q.last (give_all (ends_by true (at q.last)) (taking x lft ns) q.outs)

-- a pair with the letter y: what is held after its ops
abbrev pub after_pair : Finished → Place → Bool → ℕ → List Node → Held
after_pair table x lft y ns = give_all false (taking x lft ns) (res_or (table (place_key x) y) (place_key x) y).outs

abbrev pub last_of : Finished → Place → ℕ → Item
last_of table x y = (res_or (table (place_key x) y) (place_key x) y).last

unfoldable pub word_nodes : Finished → Option ℕ → List ℕ → Place → Bool → List Node → List Node
word_nodes table right [] x lft ns = end_nodes table right x lft ns
word_nodes table right (y ∷ ys) x lft ns =
    word_nodes table right ys (end_place (letter y) (at (last_of table x y)) (after_pair table x lft y ns).letters)
    (cond (head_flag_of (at (last_of table x y))) (after_pair table x lft y ns).lft false) (after_pair table x lft y ns).nodes
