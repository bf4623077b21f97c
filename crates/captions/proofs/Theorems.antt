-- Demand 3: what compile writes, begin and the steps from it, and the one-by-one reading agree. The statement is specs/Demand3.
-- And that no letter is lost: specs/Letters.
-- Assumes nothing.
use mathlib.Core.Path.{◌≡◌, refl, sym, ap, ◌∙◌}
use mathlib.Core.Bool.{true, false, not}
use mathlib.Core.List.{List, [], ◌∷◌}
use Prim.Native.Nat.{ℕ, zero, suc, ◌-◌, ◌*◌, ◌/◌, ◌%◌, ◌<◌, ◌≤◌}
use native.Mathlib.Omega.{arith}
use lib.IntN.{ℤ, pos, negsuc}
use lib.Dec.{leb, eqb}
use lib.ListN.{length, replicate, take, length-append}
use lib.Seq.{take_at}
use borrow.Author.Tests.{leb-true, eqb-true}
use Rattle.lang.specs.Every.{both}
use Rattle.lang.specs.Records.{absent_or}
use Rattle.lang.specs.Checks.{unless, or_else, is_letter, program_refusal, kerns_refusal, entries_refusal, absent_refusal, design_refusal}
use Rattle.lang.specs.Answers.{Reply, reply_of, padded}
use Rattle.lang.proofs.Every.{both_left}
use Rattle.lang.proofs.Refusals.{or_else_none, unless_none}
use Rattle.reading.specs.Items.{Out, glyph, kern, item}
use Rattle.reading.proofs.Steps.{more_not_done}
use Rattle.reading.specs.Run as plainly
use Rattle.reading.specs.Depth.{Finished, Pair}
use Rattle.reading.specs.Loops.{Ruled}
use Rattle.reading.proofs.Theorems as Reading
use Rattle.fonts.specs.declared.Compiled.TheVariants.{Tables}
use Rattle.fonts.specs.Numbers.{ops_of, entry_of, op_numbers, ops_before, ops_table, loop_numbers}
use Rattle.fonts.specs.Fonts.{Font, pairs_of, rules_of}
use Rattle.fonts.specs.Compiled.{Room, room_in, finished_of, loops_of_font, total_ops, font_table, font_ops, font_loops, font_refusal, pairs_refusal, kern_refusal}
use Rattle.fonts.specs.Compiled.{ops_refusal, loops_refusal, tables_refusal, compile_refusal, sized_refusal, compiled_reply, font_counts, ListsWritten, Compiles}
use Rattle.fonts.proofs.Theorems as Compiling
use Rattle.captions.specs.declared.RunOptions.{RunOptions}
use Rattle.captions.specs.Tables.{op_count, entries}
use Rattle.captions.specs.Form.{sizes_form, table_form, table_refusal}
use Rattle.captions.specs.Begin.{edges_refusal, letters_refusal, override_refusal, word_refusal}
use Rattle.captions.specs.Steps.{right_item}
use Rattle.captions.specs.Demand3.{override_fits, Caption, Answered, Reads, Loop, Demand3, EveryAcceptedFont}
use Rattle.captions.specs.Letters.{EveryFormedTable, EveryRunBegun, EveryWrittenTable}
use Rattle.captions.proofs.FontCodes.{font_form}
use Rattle.captions.proofs.FontTable.{below, font_holds_below}
use Rattle.captions.proofs.Running.{Fit, runs}
use Rattle.captions.proofs.Joining.{no_letter_lost}

-- ---- an accepted font

pub accepted : (n : ℕ) (f : Font) (p o l : ℕ) → compiled_reply (Tables p o l) ≡ reply_of n (font_counts f) →
    (n ≡ 0) × (p ≡ length (font_table f) / 6) × (o ≡ total_ops f) × (l ≡ length (loops_of_font f))
accepted zero f p o l e =
    let v : pos p ∷ pos o ∷ pos l ∷ [] ≡ font_counts f = ap (λ (r : Reply). r.values) e in
    (refl, cc, cc, cc)
accepted (suc n) f p o l e = absurd (let z : 0 ≡ suc n = ap (λ (r : Reply). r.number) e in omega arith)

module _ (f : Font) (room : Room) (taken : compile_refusal f room ≡ 0) where
  few_ops : total_ops f ≤ 2147483647
  few_ops =
      let a = (or_else_none (pairs_refusal f room) (or_else (kern_refusal f) (or_else (ops_refusal f room) (loops_refusal f room)))
      (or_else_none (font_refusal f) (tables_refusal f room) taken).1).1 in
      let b = (or_else_none (kern_refusal f) (or_else (ops_refusal f room) (loops_refusal f room)) a).1 in
      let c = (or_else_none (ops_refusal f room) (loops_refusal f room) b).0 in
      let t = unless_none 13 (both (leb (total_ops f) 2147483647) (leb (2 * total_ops f) room.ops)) c in
      leb-true (total_ops f) 2147483647 (both_left (leb (total_ops f) 2147483647) (leb (2 * total_ops f) room.ops) t)

  boundary_fits : absent_or 255 f.boundary ≡ true
  boundary_fits =
      let edges = or_else (absent_refusal 255 f.boundary) (or_else (absent_refusal 65535 f.left) (design_refusal f.design)) in
      let a = (or_else_none (program_refusal f.instructions) (or_else (kerns_refusal f.kerns) (or_else (entries_refusal 65535 f.entries) edges))
      (or_else_none (font_refusal f) (tables_refusal f room) taken).0).1 in
      let b = (or_else_none (kerns_refusal f.kerns) (or_else (entries_refusal 65535 f.entries) edges) a).1 in
      let c = (or_else_none (entries_refusal 65535 f.entries) edges b).1 in
      unless_none 3 (absent_or 255 f.boundary)
      (or_else_none (absent_refusal 255 f.boundary) (or_else (absent_refusal 65535 f.left) (design_refusal f.design)) c).0

-- ---- what was written, without the zeroed rest

two_each : (os : List Out) → length (op_numbers os) ≡ 2 * length os
unfolding op_numbers
two_each [] = refl
two_each (glyph (item false c) ∷ os) = omega (arith, two_each os)
two_each (glyph (item true c) ∷ os) = omega (arith, two_each os)
two_each (kern k ∷ os) = omega (arith, two_each os)

ops_length : (t : Finished) (ps : List Ruled) (k : ℕ) → length (ops_table t ps k) ≡ 2 * ops_before t ps k
unfolding ops_table ops_before
ops_length t ps zero = refl
ops_length t ps (suc k) =
    omega (arith, length-append (ops_table t ps k) (op_numbers (ops_of (entry_of t ps k))), ops_length t ps k, two_each (ops_of (entry_of t ps k)))

loops_length : (ps : List Pair) → length (loop_numbers ps) ≡ 2 * length ps
unfolding loop_numbers
loops_length [] = refl
loops_length (p ∷ ps) = omega (arith, loops_length ps)

-- of a list that was padded with zeros
written : (n m : ℕ) (xs ys : List ℤ) → length xs ≡ n → ys ≡ padded (pos 0) m xs → take n ys ≡ xs
written n m xs ys e h = rw h (take_at xs (replicate (m - length xs) (pos 0)) n e)

-- ---- the theorem

-- the lists of an accepted font are those of its definitions
pub record Lists (f : Font) (p o l : ℕ) (pairs ops loops : List ℤ) : Type 0 where
  pub table : take (6 * p) pairs ≡ font_table f
  pub op_table : take (2 * o) ops ≡ font_ops f
  pub loop_table : take (2 * l) loops ≡ font_loops f

in_sixes : (f : Font) → op_count (font_ops f) ≤ 2147483647 → length (font_table f) % 6 ≡ 0
in_sixes f few =
    eqb-true (length (font_table f) % 6) 0
    (both_left (eqb (length (font_table f) % 6) 0) (both (eqb (length (font_ops f) % 2) 0) (leb (op_count (font_ops f)) 2147483647))
    (both_left (sizes_form (font_table f) (font_ops f)) _ (font_form f few)))

lists_by : (f : Font) (p o l n : ℕ) (pairs ops loops pairs' ops' loops' : List ℤ) →
    (n ≡ 0) × (p ≡ length (font_table f) / 6) × (o ≡ total_ops f) × (l ≡ length (loops_of_font f)) → op_count (font_ops f) ≤ 2147483647 →
    ListsWritten f n pairs ops loops pairs' ops' loops' → Lists f p o l pairs' ops' loops'
lists_by f p o l zero pairs ops loops pairs' ops' loops' a few w =
    record {
      table = written (6 * p) (length pairs) (font_table f) pairs' (omega (arith, in_sixes f few, a.1)) w.table;
      op_table = written (2 * o) (length ops) (font_ops f) ops' (omega (arith, ops_length (finished_of f) (pairs_of f) (length (pairs_of f)), a.2)) w.ops_table_lem;
      loop_table = written (2 * l) (length loops) (font_loops f) loops' (omega (arith, loops_length (loops_of_font f), a.3)) w.loop_list_lem;
    }
lists_by f p o l (suc n) pairs ops loops pairs' ops' loops' a few w = absurd (omega (arith, a.0))

-- runs over what was written
module _ (f : Font) (few : op_count (font_ops f) ≤ 2147483647) (fits : absent_or 255 f.boundary ≡ true) (word : List ℕ) (options : RunOptions)
    (caption : Caption word options) where
  fit : Fit f.boundary word options
  fit = record { boundary_fits = fits; override_fits_lem = caption.override_fits_lem; letters_fit = caption.letters_fit; word_fits = caption.word_fits }

  answer_all : (items : List Out) →
      ((n : ℕ) →
      plainly.plain_answers (below 256 (entries (font_table f) (font_ops f))) (right_item f.boundary options.right_boundary_override) n
      (plainly.begin (not options.disable_left_boundary) word) ≡ plainly.in_order n items) → Answered f (font_table f) (font_ops f) word options items
  answer_all items h =
      let d = runs (font_table f) (font_ops f) (font_form f few) f.boundary word options fit items h in
      record { start = d.0; begins = d.1; answered = d.2 }

  ended_run : (items : List Out) × Answered f (font_table f) (font_ops f) word options items
  ended_run =
      let d = Reading.run_ends (below 256 (entries (font_table f) (font_ops f))) (not options.disable_left_boundary) word
      (right_item f.boundary options.right_boundary_override) in
      (d.0, answer_all d.0 d.1)

  read_run : (items : List Out) → Reads f word options items → Answered f (font_table f) (font_ops f) word options items
  read_run items r =
      answer_all items
      (Reading.run_right (rules_of f) (below 256 (entries (font_table f) (font_ops f))) (font_holds_below f 256 (omega arith) (omega arith)) r.steps
      (not options.disable_left_boundary) word (right_item f.boundary options.right_boundary_override) r.reads)

  set_run : loops_of_font f ≡ [] → (items : List Out) × Reads f word options items × Answered f (font_table f) (font_ops f) word options items
  set_run e =
      let d = Reading.word_ends (rules_of f) ((Compiling.no_loops f).0 e) (not options.disable_left_boundary) word
      (right_item f.boundary options.right_boundary_override) in
      let r : Reads f word options d.1 = record { steps = d.0; reads = d.2 } in
      (d.1, r, read_run d.1 r)

-- loops, by the length of the list
pub none_listed : {A : Type 0} (xs : List A) → length xs ≡ 0 → xs ≡ []
none_listed [] e = refl
none_listed (x ∷ xs) e = absurd (omega (arith, e))

a_loop : (f : Font) → 0 < length (loops_of_font f) → Loop f
a_loop f h =
    let d = Compiling.some_loop f (λ e. let z : length (loops_of_font f) ≡ 0 = rw e refl in omega (arith, h)) in
    let r = Compiling.never_in_range f d.0.left d.0.right d.1 in
    record { left = d.0.left; right = d.0.right; left_fits = r.0; right_fits = r.1; never = d.1 }

loop_listed : (f : Font) → Loop f → (xs : List Pair) → loops_of_font f ≡ xs → 0 < length xs
loop_listed f k [] e =
    let n = (Compiling.no_loops f).0 e k.left k.right in
    absurd (more_not_done (sym (k.never n.steps) ∙ n.ends))
loop_listed f k (q ∷ qs) e = omega arith

-- compile's own loop list
demand_by : (f : Font) (l : ℕ) → op_count (font_ops f) ≤ 2147483647 → absent_or 255 f.boundary ≡ true → l ≡ length (loops_of_font f) →
    Demand3 f l (font_table f) (font_ops f) (font_loops f)
demand_by f l few fits e =
    record {
      reported = loops_of_font f;
      loop_list_lem = (refl, sym e);
      reported_never = λ q m. let n = Compiling.reported_never f q m in let r = Compiling.never_in_range f q.left q.right n in (r.0, r.1, n);
      some_loop = (λ h. a_loop f (omega (arith, h, e)), λ k. omega (arith, loop_listed f k (loops_of_font f) refl, e));
      no_loop =
          (λ h. (Compiling.no_loops f).0 (none_listed (loops_of_font f) (sym e ∙ h)), λ h. e ∙ ap (λ (qs : List Pair). length qs) ((Compiling.no_loops f).1 h));
      set_as_read = λ h word options c. set_run f few fits word options c (none_listed (loops_of_font f) (sym e ∙ h));
      run_ends = λ word options c. ended_run f few fits word options c;
      run_reads = λ word options c items r. read_run f few fits word options c items r;
    }

-- a font that compile accepted, and the lists that it wrote
pub record Accepted (f : Font) (p o l : ℕ) (pairs ops loops : List ℤ) : Type 0 where
  pub few : op_count (font_ops f) ≤ 2147483647
  pub boundary : absent_or 255 f.boundary ≡ true
  pub counted : l ≡ length (loops_of_font f)
  pub lists : Lists f p o l pairs ops loops

pub compiled : (f : Font) (size : ℕ) (pairs ops loops : List ℤ) (work : List ℕ) (p o l : ℕ) (pairs' ops' loops' : List ℤ) (work' : List ℕ) →
    Compiles f size pairs ops loops work (Tables p o l) pairs' ops' loops' work' → Accepted f p o l pairs' ops' loops'
compiled f size pairs ops loops work p o l pairs' ops' loops' work' c =
    let room = room_in pairs ops loops work in
    let a = accepted (sized_refusal f room size) f p o l c.answer in
    let taken : compile_refusal f room ≡ 0 = (or_else_none (compile_refusal f room) size a.0).0 in
    let few : op_count (font_ops f) ≤ 2147483647 = omega (arith, few_ops f room taken, ops_length (finished_of f) (pairs_of f) (length (pairs_of f))) in
    record {
      few = few;
      boundary = boundary_fits f room taken;
      counted = a.3;
      lists = lists_by f p o l (sized_refusal f room size) pairs ops loops pairs' ops' loops' a few c.lists;
    }

-- DEMAND 3: specs/Demand3.
pub demand_3 : EveryAcceptedFont
demand_3 f size pairs ops loops work p o l pairs' ops' loops' work' c =
    let a = compiled f size pairs ops loops work p o l pairs' ops' loops' work' c in
    rw (a.lists.table, a.lists.op_table, a.lists.loop_table) (demand_by f l a.few a.boundary a.counted)

-- NO LETTER LOST: specs/Letters. Of every table of the form, ..
pub every_formed_table : EveryFormedTable
every_formed_table pairs ops boundary table fits word options caption =
    no_letter_lost pairs ops (unless_none 6 (table_form pairs ops) table) boundary word options
    record { boundary_fits = fits; override_fits_lem = caption.override_fits_lem; letters_fit = caption.letters_fit; word_fits = caption.word_fits }

-- an override that begin does not refuse
override_begun : (z : ℤ) → absent_refusal 2147483647 z ≡ 0 → override_refusal z ≡ 0 → override_fits z ≡ true
override_begun (pos c) a l = unless_none 19 (is_letter c) l
override_begun (negsuc n) a l = unless_none 3 (eqb n 0) a

-- .. so of every run that begin begins, ..
pub every_run_begun : EveryRunBegun
every_run_begun pairs ops boundary word options e =
    let override = options.right_boundary_override in
    let last = or_else (letters_refusal word) (override_refusal override) in
    let a = or_else_none (edges_refusal boundary options) (or_else (word_refusal word) (or_else (table_refusal pairs ops) last)) e in
    let b = or_else_none (word_refusal word) (or_else (table_refusal pairs ops) last) a.1 in
    let c = or_else_none (table_refusal pairs ops) last b.1 in
    let l = or_else_none (letters_refusal word) (override_refusal override) c.1 in
    let d = or_else_none (absent_refusal 255 boundary) (absent_refusal 2147483647 override) a.0 in
    every_formed_table pairs ops boundary c.0 (unless_none 3 (absent_or 255 boundary) d.0) word options
    record {
      letters_fit = unless_none 19 _ l.0;
      word_fits = leb-true (length word) 65535 (unless_none 5 (leb (length word) 65535) b.0);
      override_fits_lem = override_begun override d.1 l.1;
    }

-- .. and of the table that compile wrote.
pub every_written_table : EveryWrittenTable
every_written_table f size pairs ops loops work p o l pairs' ops' loops' work' c word options caption =
    let a = compiled f size pairs ops loops work p o l pairs' ops' loops' work' c in
    rw (a.lists.table, a.lists.op_table)
    (every_formed_table (font_table f) (font_ops f) f.boundary (ap (unless 7) (font_form f a.few)) a.boundary word options caption)
