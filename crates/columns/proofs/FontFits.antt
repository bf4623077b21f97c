-- What is written of a font that compiling accepts is read back: every number is an i32, and the ops of its pairs follow one another.
-- Assumes nothing.
use mathlib.Core.Path.{◌≡◌, refl, sym, ap, ◌∙◌, subst}
use mathlib.Core.Bool.{Bool, true, false, cond}
use mathlib.Core.List.{List, [], ◌∷◌, Memᴰ}
use Prim.Native.Nat.{ℕ, suc, ◌+◌, ◌*◌, ◌%◌, ◌<◌, ◌≤◌}
use native.Mathlib.Omega.{arith}
use lib.IntN.{ℤ, pos, negsuc}
use lib.Dec.{eqb}
use lib.ListN.{length, length-append}
use borrow.Author.Tests.{le-leb, leb-true, eqb-true}
use Rattle.words.specs.Words.{word_of}
use Rattle.lang.specs.Every.{both, every}
use Rattle.lang.specs.Records.{within}
use Rattle.lang.specs.Checks.{or_else}
use Rattle.lang.proofs.Every.{both_left, both_right, every_at}
use Rattle.lang.proofs.Refusals.{or_else_none, unless_none}
use Rattle.reading.specs.Items.{Left, bnd, chr, code, flag, Out, glyph, kern}
use Rattle.reading.specs.Depth.{Pair}
use Rattle.fonts.specs.Fonts.{Font, number_of_left, pairs_of}
use Rattle.fonts.specs.Numbers.{left_number, flag_number, op_numbers, loop_numbers}
use Rattle.fonts.specs.Compiled.{Room, finished_of, loops_of_font, font_table, font_ops, font_loops, compile_refusal}
use Rattle.fonts.proofs.Theorems.{reported_never, never_in_range}
use Rattle.compiling.proofs.OpLaws.{numbers_append, length_numbers}
use Rattle.captions.specs.Tables.{pair_count, op_count, number, first_op, count_of, last_code, last_flag, op_fits, record_fits}
use Rattle.captions.specs.Form.{ops_end, key_form, pair_form, sizes_form, table_form, table_refusal}
use Rattle.captions.specs.Begin.{edges_refusal, letters_refusal, word_refusal, plain_options}
use Rattle.captions.proofs.Codes.{Small, Coded}
use Rattle.captions.proofs.Codes as codes
use Rattle.captions.proofs.FontCodes.{small}
use Rattle.captions.proofs.Decoding.{Entry, kept, ops_all, table_from, whole_table, whole_ops}
use Rattle.captions.proofs.Forming.{InRange}
use Rattle.captions.proofs.FontPairs.{pairs_ranged, kept_finishes}
use Rattle.columns.specs.Purpose.{is_i32, all_i32}
use Rattle.columns.proofs.FontBegins.{font_begins}
use Rattle.columns.proofs.KernFits.{Kerned, kerns_fit}
use Rattle.columns.proofs.KernFits as kerns
use Rattle.columns.proofs.Fitting.{Fits, all_fit, all_both}
use Rattle.columns.proofs.Reported.{Contiguous}

-- ---- loops

left_fits : (l : Left) → number_of_left l < 257 → is_i32 (left_number l) ≡ true
left_fits bnd h = refl
left_fits (chr c) h = le-leb c 2147483647 (omega arith)

loops_fit : (ps : List Pair) → ((p : Pair) → Memᴰ p ps → InRange p) → all_i32 (loop_numbers ps) ≡ true
unfolding all_i32 loop_numbers
loops_fit [] h = refl
loops_fit (p ∷ ps) h =
    let r = h p (Memᴰ.head refl) in
    rw (left_fits p.left r.left, le-leb p.right 2147483647 (omega (arith, r.right)), loops_fit ps (λ q m. h q (Memᴰ.tail m)))

pub font_loops_fit : (f : Font) → Fits (font_loops f)
font_loops_fit f =
    all_fit (font_loops f)
    (loops_fit (loops_of_font f) (λ p m. let r = never_in_range f p.left p.right (reported_never f p m) in record { left = r.0; right = r.1 }))

-- ---- finished pairs

record EntryFits (x : Entry) : Type 0 where
  range : InRange x.pair
  coded : Coded x.res
  kerned : Kerned x.res.outs

flag_fits : (b : Bool) → is_i32 (flag_number b) ≡ true
flag_fits true = refl
flag_fits false = refl

table_fits : (n : ℕ) (xs : List Entry) → ((x : Entry) → Memᴰ x xs → EntryFits x) → n + length (ops_all xs) ≤ 2147483647 → all_i32 (table_from n xs) ≡ true
unfolding all_i32 table_from ops_all
table_fits n [] h l = refl
table_fits n (x ∷ xs) h l =
    let e = h x (Memᴰ.head refl) in
    let c = length x.res.outs in
    let s = length-append x.res.outs (ops_all xs) in
    rw (
      left_fits x.pair.left e.range.left,
      le-leb x.pair.right 2147483647 (omega (arith, e.range.right)),
      le-leb (code x.res.last) 2147483647 (omega (arith, e.coded.last)),
      flag_fits (flag x.res.last),
      le-leb n 2147483647 (omega (arith, l)),
      le-leb c 2147483647 (omega (arith, l, s)),
      table_fits (n + c) xs (λ y m. h y (Memᴰ.tail m)) (omega (arith, l, s)),
    )

ops_fit_lem : (os : List Out) → Small os → Kerned os → all_i32 (op_numbers os) ≡ true
unfolding all_i32 op_numbers
ops_fit_lem [] codes.nothing kerns.nothing = refl
ops_fit_lem (glyph x ∷ os) (codes.character {f = false} {c = c} l s) (kerns.character t) = rw (le-leb c 2147483647 (omega (arith, l)), ops_fit_lem os s t)
ops_fit_lem (glyph x ∷ os) (codes.character {f = true} {c = c} l s) (kerns.character t) = rw (le-leb c 2147483647 (omega (arith, l)), ops_fit_lem os s t)
ops_fit_lem (kern k ∷ os) (codes.skip s) (kerns.by e t) = rw (e, ops_fit_lem os s t)

all_ops_fit : (xs : List Entry) → ((x : Entry) → Memᴰ x xs → EntryFits x) → all_i32 (op_numbers (ops_all xs)) ≡ true
unfolding ops_all
all_ops_fit [] h = ops_fit_lem [] codes.nothing kerns.nothing
all_ops_fit (x ∷ xs) h =
    let e = h x (Memᴰ.head refl) in
    let os = x.res.outs in
    ap all_i32 (numbers_append os (ops_all xs))
    ∙ all_both (op_numbers os) (op_numbers (ops_all xs)) (ops_fit_lem os e.coded.ops e.kerned) (all_ops_fit xs (λ y m. h y (Memᴰ.tail m)))

-- ---- the form of a table

word_is : (z : ℤ) → is_i32 z ≡ true → word_of z ≤ 2147483647 → z ≡ pos (word_of z)
word_is (pos n) e l = refl
word_is (negsuc n) e l = absurd (omega (arith, leb-true n 2147483647 e, l))

module _ (pairs ops : List ℤ) (form : table_form pairs ops ≡ true) where
  form_sizes : sizes_form pairs ops ≡ true
  form_sizes = both_left (sizes_form pairs ops) _ form

  form_rest : both (every (pair_count pairs) (pair_form pairs ops)) (eqb (ops_end pairs (pair_count pairs)) (op_count ops)) ≡ true
  form_rest = both_right (every (op_count ops) (op_fits ops)) _ (both_right (sizes_form pairs ops) _ form)

  few_ops : op_count ops ≤ 2147483647
  few_ops = leb-true (op_count ops) 2147483647 (both_right (eqb (length ops % 2) 0) _ (both_right (eqb (length pairs % 6) 0) _ form_sizes))

  -- one pair
  module _ (k : ℕ) (h : k < pair_count pairs) where
    pair_form_lem : pair_form pairs ops k ≡ true
    pair_form_lem = every_at (pair_count pairs) k (pair_form pairs ops) (both_left (every (pair_count pairs) (pair_form pairs ops)) _ form_rest) h

    ops-inside : first_op pairs k + count_of pairs k ≤ op_count ops
    ops-inside =
        let a = both_left (record_fits pairs ops k) _ (both_right (key_form pairs k) _ pair_form_lem) in
        let b = both_right (within 1 (number pairs k 3)) _ (both_right (within 255 (number pairs k 2)) _ a) in
        leb-true (first_op pairs k + count_of pairs k) (op_count ops)
        (both_right (cond (last_flag pairs k) true (eqb (last_code pairs k) (word_of (number pairs k 1)))) _ b)

    ops-follow : first_op pairs k ≡ ops_end pairs k
    ops-follow =
        eqb-true (first_op pairs k) (ops_end pairs k)
        (both_left (eqb (first_op pairs k) (ops_end pairs k)) _ (both_right (record_fits pairs ops k) _ (both_right (key_form pairs k) _ pair_form_lem)))

  form_contiguous : Fits pairs → Contiguous pairs ops
  form_contiguous fits =
      let six : length pairs % 6 ≡ 0 = eqb-true (length pairs % 6) 0 (both_left (eqb (length pairs % 6) 0) _ form_sizes) in
      let two : length ops % 2 ≡ 0 = eqb-true (length ops % 2) 0 (both_left (eqb (length ops % 2) 0) _ (both_right (eqb (length pairs % 6) 0) _ form_sizes)) in
      record {
        sixes = omega (arith, six);
        twos = omega (arith, two);
        first = λ k h. word_is (number pairs k 4) (fits (6 * k + 4)) (omega (arith, ops-inside k h, few_ops));
        follows = ops-follow;
        inside = ops-inside;
        all = eqb-true (ops_end pairs (pair_count pairs)) (op_count ops) (both_right (every (pair_count pairs) (pair_form pairs ops)) _ form_rest);
      }

-- ---- a font

module _ (f : Font) (room : Room) (taken : compile_refusal f room ≡ 0) where
  font_form : table_form (font_table f) (font_ops f) ≡ true
  unfolding every
  font_form =
      let b = font_begins f room [] taken refl (omega arith) in
      let p = font_table f in
      let o = font_ops f in
      let t = table_refusal p o in
      let c = (or_else_none (edges_refusal f.boundary plain_options) (or_else (word_refusal []) (or_else t (or_else (letters_refusal []) 0))) b).1 in
      unless_none 6 (table_form p o) (or_else_none t (or_else (letters_refusal []) 0) c).0

  module _ (fits : is_i32 f.design ≡ true) where
    abbrev entries : List Entry
    entries = kept (finished_of f) (pairs_of f)

    entry-fits : (x : Entry) → Memᴰ x entries → EntryFits x
    entry-fits x m =
        let h = kept_finishes (finished_of f) (pairs_of f) x m in
        let d = suc (length (pairs_of f)) in
        let r = subst InRange (sym h.same) (pairs_ranged f h.ruled h.member) in
        let l = x.pair.left in
        record {
          range = r;
          coded = small f d l x.pair.right x.res r.left r.right h.entered;
          kerned = kerns_fit f fits d l x.pair.right x.res h.entered;
        }

    few : length (ops_all entries) ≤ 2147483647
    few =
        let e = ap length (whole_ops (finished_of f) (pairs_of f)) in
        omega (arith, few_ops (font_table f) (font_ops f) font_form, e, length_numbers (ops_all entries))

    pub font_table_fits : Fits (font_table f)
    font_table_fits = all_fit (font_table f) (ap all_i32 (whole_table (finished_of f) (pairs_of f)) ∙ table_fits 0 entries entry-fits (omega (arith, few)))

    pub font_ops_fit : Fits (font_ops f)
    font_ops_fit = all_fit (font_ops f) (ap all_i32 (whole_ops (finished_of f) (pairs_of f)) ∙ all_ops_fit entries entry-fits)

    pub font_contiguous : Contiguous (font_table f) (font_ops f)
    font_contiguous = form_contiguous (font_table f) (font_ops f) font_form font_table_fits
