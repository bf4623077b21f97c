-- By whether the pair is found: what is looked up is the left, by its place, and the right.
use Rattle.std.proofs.Common.{◌≡◌, ℕ, sym, ap, ◌∙◌}
use Rattle.captions.specs.Tables.{found_at}
use Rattle.captions.specs.Steps.{left_place_of, find_within}
use Rattle.step_turns.proofs.Laws.{found_none, found_some, turn_none, turn_some}
use Rattle.step_turns.proofs.turn.turn_with.Goals as goal

pub returns-in-None : goal.returns-in-None
returns-in-None c =
    let a = c.args in
    let look = λ (left : ℕ). found_at (find_within a.pairs.now left a.y) in
    let key : c.find_within.result ≡ look (left_place_of a.x) = c.find_within.ensures ∙ ap look c.left_place_of-left.ensures in
    let outside = found_none (find_within a.pairs.now (left_place_of a.x) a.y) (sym key ∙ c.in-None.is) in
    c.turn_free.ensures ∙ sym (turn_none a.pairs.now a.ops.now a.s a.x a.letter a.y outside)

pub returns-in-Some : goal.returns-in-Some
returns-in-Some c =
    let a = c.args in
    let look = λ (left : ℕ). found_at (find_within a.pairs.now left a.y) in
    let key : c.find_within.result ≡ look (left_place_of a.x) = c.find_within.ensures ∙ ap look c.left_place_of-left.ensures in
    let inside = found_some (find_within a.pairs.now (left_place_of a.x) a.y) c.in-Some.k (sym key ∙ c.in-Some.is) in
    c.turn_entered.ensures ∙ sym (turn_some a.pairs.now a.ops.now a.s a.x a.letter a.y c.in-Some.k inside)
