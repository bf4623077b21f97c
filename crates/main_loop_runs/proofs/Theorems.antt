-- A run gives node for node what TeX gives: `every-font-set`, which specs/Purpose states.
-- Assumes nothing.
use mathlib.Core.Path.{◌≡◌, refl, sym, ap, ◌∙◌}
use mathlib.Core.Bool.{Bool, true, false, cond, not}
use mathlib.Core.List.{List, [], ◌∷◌, ◌++◌, map}
use mathlib.Core.Option.{Option, none, some}
use Prim.Native.Nat.{ℕ, zero, suc, ◌+◌, ◌-◌, ◌*◌, ◌/◌, ◌<◌, ◌≤◌}
use native.Mathlib.Omega.{arith}
use lib.IntN.{ℤ, pos, negsuc}
use lib.ListN.{length, get_or, take, drop}
use lib.Seq.{get_or-set_same}
use lib.Signed.{non_neg}
use Rattle.lang.specs.Entries.{entered, entries_table}
use Rattle.lang.specs.Records.{absent_or}
use Rattle.lang.proofs.Tables.{length_entered}
use Rattle.reading.specs.Items.{Left, bnd, free, Rules, Out}
use Rattle.reading.specs.Reading.{Ends}
use Rattle.reading.specs.Depth.{Finished}
use Rattle.reading.proofs.Holds.{Holds}
use Rattle.fonts.specs.Fonts.{Font, rule_from, left_entry_of, table_of, rule_of_index, rules_of}
use Rattle.fonts.specs.Compiled.{loops_of_font, font_table, font_ops, Compiles}
use Rattle.fonts.specs.declared.Compiled.TheVariants.{Tables}
use Rattle.fonts.proofs.Theorems as Compiling
use Rattle.captions.specs.declared.RunOptions.{RunOptions}
use Rattle.captions.specs.declared.State.{State}
use Rattle.captions.specs.declared.NextLeft.TheVariants as next
use Rattle.captions.specs.declared.Answer.{Answer}
use Rattle.captions.specs.declared.Answer.TheVariants.{Char, Ligature, Kern, End, Refused}
use Rattle.captions.specs.Tables.{op_count, entries, ops_from}
use Rattle.captions.specs.Form.{table_form}
use Rattle.captions.specs.Begin.{fresh, without_boundary, fresh_state}
use Rattle.captions.specs.Steps.{right_item, step_of}
use Rattle.captions.specs.Runs.{answers, shown}
use Rattle.captions.specs.Demand3.{Caption}
use Rattle.captions.proofs.FontCodes.{font_form}
use Rattle.captions.proofs.FontTable.{below, font_holds_below}
use Rattle.captions.proofs.Sound.{Sound, ops_of, shown_of}
use Rattle.captions.proofs.Lettered.{Lettered}
use Rattle.captions.proofs.Running.{Fit, letters, step_turns, step_follows, begin_taken, starts}
use Rattle.captions.proofs.Joining.{follows_taken, step_keeps, fresh_by}
use Rattle.captions.proofs.Theorems.{compiled, none_listed}
use Rattle.main_loops.specs.Nodes.{Node}
use Rattle.main_loop_runs.specs.Purpose.{NodeAnswer, is_node, is_over, answer_node, nodes_then_end, GivesNodes, NodeForNode, EveryFontSet}
use Rattle.main_loop_pairs.proofs.Held.{give_all}
use Rattle.main_loop_pairs.proofs.Stopping.{made_nodes, stops_with}
use Rattle.main_loop_runs.proofs.Remaining.{ClearB, answer_nodes, remains, Makes}
use Rattle.main_loop_runs.proofs.Looking.{makes}

-- ---- any number of steps

module _ (pairs ops : List ℤ) (table : table_form pairs ops ≡ true) (boundary : ℤ) (word : List ℕ) (options : RunOptions) (fit : Fit boundary word options) where
  abbrev held : Finished
  held = below 256 (entries pairs ops)

  abbrev right : Option ℕ
  right = right_item boundary options.right_boundary_override

  step_makes : (s : State) → Sound ops word s (ops_of ops word s) → Lettered ops word s (ops_of ops word s) →
      ClearB held right word s.pending s.pending_boundary →
      Makes held right word ops (remains held right word ops s) (step_of pairs ops boundary word options s)
  step_makes s h l c =
      rw (step_turns pairs ops table boundary word options fit s h)
      (makes pairs ops table word right (letters pairs ops table boundary word options fit) (suc (length word - s.read))
      s.next_left s.op s.ops s.read s.given s.pending s.pending_boundary s.consumes_left (λ _. omega arith) h l c)

  -- one answer, before those of the steps after it
  answer_first : (a : Answer) (n : ℕ) (all ms : List Node) (others : List NodeAnswer) → all ≡ answer_nodes held right word a ++ ms → (a ≡ End → all ≡ []) →
      ((k : ℕ) → a ≡ Refused k → ⊥) → others ≡ nodes_then_end n ms → answer_node word a ∷ others ≡ nodes_then_end (suc n) all
  unfolding nodes_then_end
  answer_first (Char c p) n all ms others e f g h = rw e (ap (λ (l : List NodeAnswer). answer_node word (Char c p) ∷ l) h)
  answer_first (Ligature c p m a b) n all ms others e f g h = rw e (ap (λ (l : List NodeAnswer). answer_node word (Ligature c p m a b) ∷ l) h)
  answer_first (Kern k) n all ms others e f g h = rw e (ap (λ (l : List NodeAnswer). answer_node word (Kern k) ∷ l) h)
  answer_first End n all ms others e f g h =
      let z : all ≡ [] = f refl in
      let y : ms ≡ [] = sym e ∙ z in
      rw z (ap (λ (l : List NodeAnswer). is_over ∷ l) (h ∙ ap (nodes_then_end n) y))
  answer_first (Refused k) n all ms others e f g h = absurd (g k refl)

  gives_all : (n : ℕ) (s : State) → Sound ops word s (ops_of ops word s) → Lettered ops word s (ops_of ops word s) →
      ClearB held right word s.pending s.pending_boundary →
      map (answer_node word) (answers pairs ops boundary word options n s) ≡ nodes_then_end n (remains held right word ops s)
  unfolding answers nodes_then_end
  gives_all zero s h l c = refl
  gives_all (suc n) s h l c =
      let t = step_of pairs ops boundary word options s in
      let m = step_makes s h l c in
      let f = step_follows pairs ops table boundary word options fit s h in
      let k = step_keeps pairs ops table boundary word options fit s h l in
      answer_first t.answer n (remains held right word ops s) (remains held right word ops t.state)
      (map (answer_node word) (answers pairs ops boundary word options n t.state)) m.gives m.ends
      (λ j e. follows_taken f j e)
      (gives_all n t.state f.sound k.lettered m.clears)

  -- ---- a fresh state

  fresh_nodes : (cs : List ℕ) → word ≡ cs → (d : Bool) → (rule : Rules) (holds : Holds rule held) (all : (l : Left) (r : ℕ) → Ends rule l r) →
      remains held right word ops (cond d (without_boundary cs) (fresh next.Boundary 0)) ≡ made_nodes rule held holds all (not d) cs right
  unfolding ops_from give_all
  fresh_nodes [] e false rule holds all = rw e refl
  fresh_nodes (c ∷ cs) e false rule holds all = rw e refl
  fresh_nodes [] e true rule holds all = refl
  fresh_nodes (c ∷ cs) e true rule holds all = rw e refl

  fresh_clear : (cs : List ℕ) (d : Bool) → ClearB held right word (cond d (without_boundary cs) (fresh next.Boundary 0)).pending
      (cond d (without_boundary cs) (fresh next.Boundary 0)).pending_boundary
  fresh_clear cs false = refl
  fresh_clear [] true = refl
  fresh_clear (c ∷ cs) true = refl

  run_gives : (n : ℕ) → map (answer_node word) (answers pairs ops boundary word options n (fresh_state word options))
      ≡ nodes_then_end n (remains held right word ops (fresh_state word options))
  run_gives n =
      gives_all n (fresh_state word options) (starts pairs ops table boundary word options fit).0
      (fresh_by pairs ops table boundary word options fit word refl options.disable_left_boundary) (fresh_clear word options.disable_left_boundary)

-- ---- a font

-- without a left entry the left boundary has no rule
label_free : (f : Font) (r : ℕ) (z : ℤ) → left_entry_of (table_of f) bnd ≡ z → non_neg z ≡ false → rules_of f bnd r ≡ free
label_free f r (pos k) e h = absurd (let z : ◌≡◌ {A = ℕ} 0 1 = cc in omega arith)
label_free f r (negsuc k) e h = ap (λ (z : ℤ). rule_of_index f (rule_from f.instructions z r)) e

left_is : (f : Font) → left_entry_of (table_of f) bnd ≡ f.left
unfolding entries_table
left_is f =
    get_or-set_same (entered f.entries (length f.entries / 2)) 256 f.left (negsuc 0) (rw (length_entered f.entries (length f.entries / 2))
    (omega arith))

module _ (f : Font) (few : op_count (font_ops f) ≤ 2147483647) (fits : absent_or 255 f.boundary ≡ true) (ends : loops_of_font f ≡ []) (word : List ℕ)
    (options : RunOptions)
    (caption : Caption word options) where
  fit : Fit f.boundary word options
  fit = record { boundary_fits = fits; override_fits_lem = caption.override_fits_lem; letters_fit = caption.letters_fit; word_fits = caption.word_fits }

  abbrev form : table_form (font_table f) (font_ops f) ≡ true
  form = font_form f few

  abbrev table : Finished
  table = below 256 (entries (font_table f) (font_ops f))

  holds : Holds (rules_of f) table
  holds = font_holds_below f 256 (omega arith) (omega arith)

  all_end : (l : Left) (r : ℕ) → Ends (rules_of f) l r
  all_end = (Compiling.no_loops f).0 ends

  font_set : NodeForNode f (font_table f) (font_ops f) word options
  font_set =
      let r = right_item f.boundary options.right_boundary_override in
      let b = not options.disable_left_boundary in
      record {
        nodes = made_nodes (rules_of f) table holds all_end b word r;
        stops = stops_with (rules_of f) table holds all_end b (non_neg f.left) (λ h i. label_free f i f.left (left_is f) h) word r;
        given =
            record {
              start = fresh_state word options;
              begins = begin_taken (font_table f) (font_ops f) form f.boundary word options fit;
              answered =
                  λ n.
                  run_gives (font_table f) (font_ops f) form f.boundary word options fit n
                  ∙ ap (nodes_then_end n)
                  (fresh_nodes (font_table f) (font_ops f) form f.boundary word options fit word refl options.disable_left_boundary
                  (rules_of f) holds all_end);
            };
      }

pub every_font_set : EveryFontSet
every_font_set f size pairs ops loops work p o pairs' ops' loops' work' c word options caption =
    let a = compiled f size pairs ops loops work p o 0 pairs' ops' loops' work' c in
    rw (a.lists.table, a.lists.op_table)
    (font_set f a.few a.boundary (none_listed (loops_of_font f) (sym a.counted)) word options caption)
