-- A font that compiling accepts: demand 3 holds of the lists of its definitions, so that begin is not refused on them.
-- Assumes nothing.
use mathlib.Core.Path.{◌≡◌, refl, ap, ◌∙◌, subst₃}
use mathlib.Core.List.{List, [], ◌∷◌}
use Prim.Native.Nat.{ℕ, zero, suc, ◌-◌, ◌*◌, ◌≤◌}
use native.Mathlib.Omega.{arith}
use lib.IntN.{ℤ, pos}
use lib.ListN.{length, get_or, take, replicate, length-append, length-replicate}
use lib.Seq.{take_at}
use Rattle.lang.specs.Every.{every}
use Rattle.lang.specs.Checks.{is_letter}
use Rattle.lang.specs.Answers.{padded, list_of}
use Rattle.lang.proofs.Refusals.{second_none, unless_none, taken_reply}
use Rattle.reading.specs.Depth.{Finished, Pair}
use Rattle.reading.specs.Loops.{Ruled}
use Rattle.fonts.specs.declared.Compiled.TheVariants.{Tables}
use Rattle.fonts.specs.Fonts.{Font, pairs_of}
use Rattle.fonts.specs.Numbers.{entry_of, ops_of, op_numbers, ops_before, ops_table, loop_numbers}
use Rattle.fonts.specs.Compiled.{Room, room_of, room_in, finished_of, loops_of_font, total_ops, font_table, table_pairs, font_ops, font_loops, compile_refusal, font_counts}
use Rattle.fonts.specs.Compiled.{sized_refusal, Compiles}
use Rattle.compiling.proofs.OpLaws.{length_numbers}
use Rattle.captions.specs.declared.State.{State}
use Rattle.captions.specs.declared.Begun.TheVariants.{Run}
use Rattle.captions.specs.Begin.{letters_refusal, begin_refusal, fresh_state, begun_by, plain_options}
use Rattle.captions.specs.Demand3.{Caption, Demand3}
use Rattle.captions.proofs.Decoding.{kept, length_table, whole_table}
use Rattle.captions.proofs.Theorems.{accepted, demand_3}

-- ---- how long the lists are

pub ops_long : (t : Finished) (ps : List Ruled) (k : ℕ) → length (ops_table t ps k) ≡ 2 * ops_before t ps k
unfolding ops_table ops_before
ops_long t ps zero = refl
ops_long t ps (suc k) =
    omega (arith, length-append (ops_table t ps k) (op_numbers (ops_of (entry_of t ps k))), ops_long t ps k, length_numbers (ops_of (entry_of t ps k)))

pub loops_long : (ps : List Pair) → length (loop_numbers ps) ≡ 2 * length ps
unfolding loop_numbers
loops_long [] = refl
loops_long (p ∷ ps) = omega (arith, loops_long ps)

table_long : (f : Font) → length (font_table f) ≡ 6 * table_pairs f
table_long f = let e = ap length (whole_table (finished_of f) (pairs_of f)) in omega (arith, e, length_table 0 (kept (finished_of f) (pairs_of f)))

-- ---- an accepted font

-- lists of zeros as long as a room
room_of_lem : (room : Room) →
    room_in (replicate room.pairs (pos 0)) (replicate room.ops (pos 0)) (replicate room.loops (pos 0)) (replicate room.work 0) ≡ room
room_of_lem room i =
    room_of (length-replicate room.pairs (pos 0) i) (length-replicate room.ops (pos 0) i) (length-replicate room.loops (pos 0) i)
    (length-replicate {A = ℕ} room.work 0 i)

taken_list : (n m : ℕ) (xs : List ℤ) → m ≡ 0 → padded (pos 0) n xs ≡ list_of m (pos 0) n xs
taken_list n zero xs e = refl
taken_list n (suc m) xs e = absurd (omega arith)

-- what is written, without the zeros
written : (n m : ℕ) (xs : List ℤ) → length xs ≡ n → take n (padded (pos 0) m xs) ≡ xs
written n m xs e = take_at xs (replicate (m - length xs) (pos 0)) n e

-- what an accepted font wrote, whatever it was lent: the lists of its definitions, and how long they are
pub record FontLists (f : Font) (p o l : ℕ) (pairs ops loops : List ℤ) : Type 0 where
  pub table : take (6 * p) pairs ≡ font_table f
  pub op_table : take (2 * o) ops ≡ font_ops f
  pub loop_table : take (2 * l) loops ≡ font_loops f
  pub table_long : length (font_table f) ≡ 6 * p
  pub op_table_long : length (font_ops f) ≡ 2 * o
  pub loop_table_long : length (font_loops f) ≡ 2 * l

taken_front : (m n k : ℕ) (xs ys : List ℤ) → ys ≡ list_of m (pos 0) n xs → m ≡ 0 → length xs ≡ k → take k ys ≡ xs
taken_front zero n k xs ys e z l = ap (take k) e ∙ written k n xs l
taken_front (suc m) n k xs ys e z l = absurd (omega (arith, z))

pub lists_of : {f : Font} {size : ℕ} {pairs ops loops pairs' ops' loops' : List ℤ} {work work' : List ℕ} {p o l : ℕ} →
    Compiles f size pairs ops loops work (Tables p o l) pairs' ops' loops' work' →
    (sized_refusal f (room_in pairs ops loops work) size ≡ 0) × FontLists f p o l pairs' ops' loops'
lists_of {f} {size} {pairs} {ops} {loops} {pairs'} {ops'} {loops'} {work} {work'} {p} {o} {l} c =
    let m = sized_refusal f (room_in pairs ops loops work) size in
    let a = accepted m f p o l c.answer in
    let six : length (font_table f) ≡ 6 * p = omega (arith, a.1, table_long f) in
    let two : length (font_ops f) ≡ 2 * o = omega (arith, a.2, ops_long (finished_of f) (pairs_of f) (length (pairs_of f))) in
    let pair : length (font_loops f) ≡ 2 * l = omega (arith, a.3, loops_long (loops_of_font f)) in (
      a.0,
      record {
        table = taken_front m (length pairs) (6 * p) (font_table f) pairs' c.lists.table a.0 six;
        op_table = taken_front m (length ops) (2 * o) (font_ops f) ops' c.lists.ops_table_lem a.0 two;
        loop_table = taken_front m (length loops) (2 * l) (font_loops f) loops' c.lists.loop_list_lem a.0 pair;
        table_long = six;
        op_table_long = two;
        loop_table_long = pair;
      },
    )

module _ (f : Font) (pairs ops loops : List ℤ) (work : List ℕ) (taken : compile_refusal f (room_in pairs ops loops work) ≡ 0) where
  -- whatever is lent, this is what compiling answers and leaves at the design size
  compiles :
      Compiles f 0 pairs ops loops work
      (Tables (table_pairs f) (total_ops f) (length (loops_of_font f)))
      (padded (pos 0) (length pairs) (font_table f))
      (padded (pos 0) (length ops) (font_ops f))
      (padded (pos 0) (length loops) (font_loops f))
      (replicate (length work) 0)
  compiles =
      let m = sized_refusal f (room_in pairs ops loops work) 0 in
      let z : m ≡ 0 = second_none (compile_refusal f (room_in pairs ops loops work)) ∙ taken in
      record {
        answer = taken_reply (font_counts f) z;
        lists =
            record {
              table = taken_list (length pairs) m (font_table f) z;
              ops_table_lem = taken_list (length ops) m (font_ops f) z;
              loop_list_lem = taken_list (length loops) m (font_loops f) z;
            };
        cleared = refl;
      }

  demand_by : Demand3 f (length (loops_of_font f)) (font_table f) (font_ops f) (font_loops f)
  demand_by =
      let p = padded (pos 0) (length pairs) (font_table f) in
      let o = padded (pos 0) (length ops) (font_ops f) in
      let l = padded (pos 0) (length loops) (font_loops f) in
      let n = length (loops_of_font f) in
      let d = demand_3 f 0 pairs ops loops work (table_pairs f) (total_ops f) n p o l (replicate (length work) 0) compiles in
      let a = written (6 * table_pairs f) (length pairs) (font_table f) (table_long f) in
      let b = written (2 * total_ops f) (length ops) (font_ops f) (ops_long (finished_of f) (pairs_of f) (length (pairs_of f))) in
      let c = written (2 * n) (length loops) (font_loops f) (loops_long (loops_of_font f)) in
      subst₃ (Demand3 f n) a b c d

pub demand_of : (f : Font) (room : Room) → compile_refusal f room ≡ 0 → Demand3 f (length (loops_of_font f)) (font_table f) (font_ops f) (font_loops f)
demand_of f room taken =
    demand_by f (replicate room.pairs (pos 0)) (replicate room.ops (pos 0)) (replicate room.loops (pos 0)) (replicate room.work 0)
    (ap (compile_refusal f) (room_of_lem room) ∙ taken)

-- ---- begin

pub letters_caption : (word : List ℕ) → letters_refusal word ≡ 0 → length word ≤ 65535 → Caption word plain_options
letters_caption word e l =
    record { letters_fit = unless_none 19 (every (length word) (λ i. is_letter (get_or word i 0))) e; word_fits = l; override_fits_lem = refl }

begun : (m : ℕ) (s t : State) → begun_by m s ≡ Run t → m ≡ 0
begun zero s t e = refl
begun (suc m) s t e = absurd (let z : ◌≡◌ {A = ℕ} 0 1 = cc in omega arith)

pub font_begins : (f : Font) (room : Room) (word : List ℕ) → compile_refusal f room ≡ 0 → letters_refusal word ≡ 0 → length word ≤ 65535 →
    begin_refusal (font_table f) (font_ops f) f.boundary word plain_options ≡ 0
font_begins f room word taken e l =
    let r = (demand_of f room taken).run_ends word plain_options (letters_caption word e l) in
    begun (begin_refusal (font_table f) (font_ops f) f.boundary word plain_options) (fresh_state word plain_options) r.1.start r.1.begins
