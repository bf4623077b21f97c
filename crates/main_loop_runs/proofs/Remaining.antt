-- What a state of a run has still to give, as nodes: its ops, what is next, and the rest of the word.
-- Assumes nothing.
use mathlib.Core.Path.{◌≡◌, refl, sym, ap, ◌∙◌}
use mathlib.Core.Bool.{Bool, true, false, cond}
use mathlib.Core.List.{List, [], ◌∷◌, ◌++◌, append_assoc}
use mathlib.Core.Option.{Option, none, some}
use Prim.Native.Nat.{ℕ, zero, suc, ◌+◌, ◌-◌}
use lib.IntN.{ℤ}
use lib.ListN.{get_or, take, drop}
use Rattle.reading.specs.Items.{Item, item, Out, glyph, kern, at}
use Rattle.reading.specs.Depth.{Finished}
use Rattle.captions.specs.declared.NextLeft.{NextLeft}
use Rattle.captions.specs.declared.NextLeft.TheVariants as next
use Rattle.captions.specs.declared.Consumes.{Consumes}
use Rattle.captions.specs.declared.State.{State}
use Rattle.captions.specs.declared.Step.{Step}
use Rattle.captions.specs.declared.Answer.{Answer}
use Rattle.captions.specs.declared.Answer.TheVariants.{Char, Ligature, Kern, End, Refused}
use Rattle.captions.specs.Tables.{ops_from}
use Rattle.captions.specs.Steps.{left_letters, left_boundary, is_none}
use Rattle.captions.specs.Queries.{original_of}
use Rattle.main_loops.specs.Nodes.{Node, char_node, kern_node, ligature_node}
use Rattle.main_loops.specs.Loop.{subtype_of}
use Rattle.main_loops.proofs.Lettered.{letter, made, Place, start, on, place_key, place_letters, node_of, lft_hit}
use Rattle.main_loop_pairs.proofs.Held.{Held, hold, none_own, give_all, head_flag_of}
use Rattle.main_loop_pairs.proofs.Pairs.{own_of, ends_by}
use Rattle.main_loop_pairs.proofs.Phases.{end_place}
use Rattle.main_loop_pairs.proofs.Made.{res_or, taking, last_nodes, end_nodes, after_pair, word_nodes}

-- ---- nodes in front

abbrev pub in_front : List Node → Held → Held
in_front ns h = hold (ns ++ h.nodes) h.own h.letters h.lft

pub give_front : (ends : Bool) (ns ms : List Node) (own : ℕ → List Node) (ls : List ℕ) (lft : Bool) (os : List Out) →
    give_all ends (hold (ns ++ ms) own ls lft) os ≡ in_front ns (give_all ends (hold ms own ls lft) os)
unfolding give_all
give_front ends ns ms own ls lft [] = refl
give_front ends ns ms own ls lft (kern k ∷ os) = rw (append_assoc ns ms (kern_node k ∷ [])) (give_front ends ns (ms ++ (kern_node k ∷ [])) own ls lft os)
give_front ends ns ms own ls lft (glyph (item false c) ∷ os) = rw (append_assoc ns ms (own c)) (give_front ends ns (ms ++ own c) none_own [] false os)
give_front ends ns ms own ls lft (glyph (item true c) ∷ os) =
    rw append_assoc (give_front ends ns _ none_own [] false os)

last_front : (ns : List Node) (i : Item) (h : Held) → last_nodes i (in_front ns h) ≡ ns ++ last_nodes i h
last_front ns (item false c) h = refl
last_front ns (item true c) h = append_assoc ns h.nodes (ligature_node c h.letters (subtype_of h.lft true) ∷ [])

end_front : (table : Finished) (right : Option ℕ) (x : Place) (lft : Bool) (ns ms : List Node) →
    end_nodes table right x lft (ns ++ ms) ≡ ns ++ end_nodes table right x lft ms
end_front table none x lft ns ms = append_assoc ns ms (node_of lft false x)
end_front table (some r) x lft ns ms =
    let q = res_or (table (place_key x) r) (place_key x) r in
    ap (last_nodes q.last) (give_front (ends_by true (at q.last)) ns ms (own_of lft x) (place_letters x) (lft_hit lft x) q.outs)
    ∙ last_front ns q.last (give_all (ends_by true (at q.last)) (taking x lft ms) q.outs)

pub word_front : (table : Finished) (right : Option ℕ) (ys : List ℕ) (x : Place) (lft : Bool) (ns ms : List Node) →
    word_nodes table right ys x lft (ns ++ ms) ≡ ns ++ word_nodes table right ys x lft ms
unfolding word_nodes
word_front table right [] x lft ns ms = end_front table right x lft ns ms
word_front table right (y ∷ ys) x lft ns ms =
    let q = res_or (table (place_key x) y) (place_key x) y in
    let e : after_pair table x lft y (ns ++ ms) ≡ in_front ns (after_pair table x lft y ms) =
    give_front false ns ms (own_of lft x) (place_letters x) (lft_hit lft x) q.outs in
    ap (λ (h : Held). word_nodes table right ys (end_place (letter y) (at q.last) h.letters) (cond (head_flag_of (at q.last)) h.lft false) h.nodes) e
    ∙ word_front table right ys (end_place (letter y) (at q.last) (after_pair table x lft y ms).letters)
    (cond (head_flag_of (at q.last)) (after_pair table x lft y ms).lft false) ns (after_pair table x lft y ms).nodes

-- ---- what a state has still to give

-- whether a ligature takes in the left boundary
abbrev pub takes_b : Bool → Consumes → Bool
takes_b b k = cond b true (left_boundary k)

module _ (table : Finished) (right : Option ℕ) (word : List ℕ) where
  -- the left as it stands: a character, or the ligature that is pending
  abbrev pub own_run : ℕ → ℕ → Bool → ℕ → List Node
  own_run g zero b = none_own
  own_run g (suc p) b = λ c. ligature_node c (take (suc p) (drop g word)) (subtype_of b false) ∷ []

  abbrev pub held_run : ℕ → ℕ → Bool → Consumes → Held
  held_run g p b k = hold [] (own_run g p b) (take (p + left_letters k) (drop g word)) (takes_b b k)

  -- at the left boundary; an empty word gives nothing
  abbrev pub boundary_nodes : List ℕ → List Node → List Node
  boundary_nodes [] ns = ns
  boundary_nodes (y ∷ ys) ns = word_nodes table right (y ∷ ys) start false ns

  boundary_front : (ys : List ℕ) (ns ms : List Node) → boundary_nodes ys (ns ++ ms) ≡ ns ++ boundary_nodes ys ms
  boundary_front [] ns ms = refl
  boundary_front (y ∷ ys) ns ms = word_front table right (y ∷ ys) start false ns ms

  -- what is next, with r letters read
  abbrev pub next_nodes : NextLeft → ℕ → Held → List Node
  next_nodes next.Boundary r h = boundary_nodes (drop r word) h.nodes
  next_nodes (next.Char c) r h = word_nodes table right (drop r word) (on (letter c)) false h.nodes
  next_nodes (next.Lig c) r h = word_nodes table right (drop r word) (on (made c (h.letters ++ (get_or word (r - 1) 0 ∷ [])))) h.lft h.nodes
  next_nodes (next.FinalLig c) r h = h.nodes ++ (ligature_node c h.letters (subtype_of h.lft true) ∷ [])
  next_nodes next.None r h = h.nodes

  pub next_front : (n : NextLeft) (r : ℕ) (ns : List Node) (h : Held) → next_nodes n r (in_front ns h) ≡ ns ++ next_nodes n r h
  next_front next.Boundary r ns h = boundary_front (drop r word) ns h.nodes
  next_front (next.Char c) r ns h = word_front table right (drop r word) (on (letter c)) false ns h.nodes
  next_front (next.Lig c) r ns h = word_front table right (drop r word) (on (made c (h.letters ++ (get_or word (r - 1) 0 ∷ [])))) h.lft ns h.nodes
  next_front (next.FinalLig c) r ns h = append_assoc ns h.nodes (ligature_node c h.letters (subtype_of h.lft true) ∷ [])
  next_front next.None r ns h = refl

  -- its ops, and what is next
  abbrev pub remaining : NextLeft → ℕ → ℕ → ℕ → Bool → Consumes → List Out → List Node
  remaining n r g p b k os = next_nodes n r (give_all (is_none n) (held_run g p b k) os)

  -- one node first
  pub first_node : (n : NextLeft) (r : ℕ) (v : Node) (own : ℕ → List Node) (ls : List ℕ) (lft : Bool) (os : List Out) →
      next_nodes n r (give_all (is_none n) (hold (v ∷ []) own ls lft) os) ≡ v ∷ next_nodes n r (give_all (is_none n) (hold [] own ls lft) os)
  first_node n r v own ls lft os =
      ap (next_nodes n r) (give_front (is_none n) (v ∷ []) [] own ls lft os) ∙ next_front n r (v ∷ []) (give_all (is_none n) (hold [] own ls lft) os)

  -- the node of an answer
  abbrev pub answer_nodes : Answer → List Node
  answer_nodes (Char c p) = char_node c ∷ []
  answer_nodes (Ligature c p n a b) = ligature_node c (original_of word p n) (subtype_of a b) ∷ []
  answer_nodes (Kern k) = kern_node k ∷ []
  answer_nodes End = []
  answer_nodes (Refused n) = []

  -- nothing pending, no boundary pending
  abbrev pub ClearB : ℕ → Bool → Type 0
  ClearB zero b = b ≡ false
  ClearB (suc p) b = Unit {0}

  module _ (ops : List ℤ) where
    abbrev pub remains : State → List Node
    remains s = remaining s.next_left s.read s.given s.pending s.pending_boundary s.consumes_left (ops_from ops s.op s.ops)

    -- a step gives the first of the nodes, or answers the end where there is none
    pub record Makes (all : List Node) (t : Step) : Type 0 where
      pub gives : all ≡ answer_nodes t.answer ++ remains t.state
      pub ends : t.answer ≡ End → all ≡ []
      pub clears : ClearB t.state.pending t.state.pending_boundary
