-- `c_list_read::tell_list` meets its contract: the lower of 15 and the number of a refusal, or 0 with the edges and the counts at the front.
-- Assumes nothing.
use Prim.Native.Nat.{◌≤◌}
use native.Mathlib.Omega.{arith}
use lib.ListN.{length, set, length-set}
use Rattle.words.proofs.Bits.{number_word}
use Rattle.c_list_read.proofs.Telling.{fixed_room, list_refused, list_short, list_told}
use borrow.Author.Rules.{rules}
use Rattle.c_list_read.proofs.tell_list.Statement.{statement}
use Rattle.c_list_read.proofs.tell_list.Tie as tie

zero-i32-requires : tie.Need-zero_all-requires
zero-i32-requires c κs = search rules

zero-u64-requires : tie.Need-zero_all-requires-2
zero-u64-requires c κs = search rules

fixed-refusal-requires : tie.Need-fixed_refusal-fixed-requires
fixed-refusal-requires c κs = search rules

enum-known-font : tie.Need-enum_known-font
enum-known-font c = search rules

lower-of-requires : tie.Need-lower_of-requires
lower-of-requires c κs = search rules

enum-known-font-2 : tie.Need-enum_known-font-in-Font-1
enum-known-font-2 c = search rules

same_length : tie.Need-shape_of-edges-then-fixed-ne0
same_length c = search rules

same-length-2 : tie.Need-shape_of-counts-then-fixed-ne0
same-length-2 c = search rules

returns : tie.Need-returns-then-fixed-ne0
returns c =
    let a = c.args in
    rw c.in-Font.is
    (list_short a.edges.now a.counts.now c.zero_all.ensures c.zero_all-2.ensures c.fixed_refusal-fixed.ensures c.in-Font.i
    c.in-Font.k c.in-Font.e c.in-Font.boundary c.in-Font.left c.if-fixed-ne0.true)

-- there is room for the edges and the counts
room : (c : tie.Else-fixed-ne0) → (2 ≤ length c.zero_all.new.s) × (3 ≤ length c.zero_all-2.new.s)
room c =
    fixed_room (length c.zero_all.new.s) (length c.zero_all-2.new.s)
    c.fixed_refusal-fixed.ensures c.if-fixed-ne0.false

slice-set-from-boundary : tie.Need-bounds-edges-0
slice-set-from-boundary c = let r = room c in omega (arith, r.0)

slice-set-from-left : tie.Need-bounds-edges-1
slice-set-from-left c = let r = room c in simp length-set (omega (arith, r.0))

put-counts-requires : tie.Need-put_counts-requires
put-counts-requires c κs = (room c.before).1

same-length-3 : tie.Need-shape_of-edges-in-Refused
same-length-3 c = search rules

same-length-4 : tie.Need-shape_of-counts-in-Refused
same-length-4 c = search rules

returns-2 : tie.Need-returns-in-Refused
returns-2 c =
    let a = c.args in
    rw c.in-Refused.is
    (list_refused a.edges.now a.counts.now c.zero_all.ensures c.zero_all-2.ensures c.fixed_refusal-fixed.ensures c.in-Refused.n
    c.lower_of.ensures)

same-length-5 : tie.Need-shape_of-edges-else-fixed-ne0
same-length-5 c = search rules

same-length-6 : tie.Need-shape_of-counts-else-fixed-ne0
same-length-6 c = search rules

returns-3 : tie.Need-returns-else-fixed-ne0
returns-3 c =
    let a = c.args in
    rw c.in-Font.is
    (list_told a.edges.now a.counts.now c.zero_all.ensures c.zero_all-2.ensures c.fixed_refusal-fixed.ensures c.in-Font.i c.in-Font.k c.in-Font.e
    c.in-Font.boundary c.in-Font.left c.if-fixed-ne0.false
    (λ j. set (set c.zero_all.new.s 0 (number_word c.in-Font.boundary (record { sfits = c.in-Font.known_told-in-Font-1-own.given.1.1.1.0.1 }) j)) 1
    (number_word c.in-Font.left (record { sfits = c.in-Font.known_told-in-Font-1-own.given.1.1.1.1.0.1 }) j)) c.put_counts.ensures)

pub tell_list_spec : {M : Type 1} → statement M
tell_list_spec =
    tie.close
    (tie.spec
    zero-i32-requires
    zero-u64-requires
    fixed-refusal-requires
    enum-known-font
    lower-of-requires
    enum-known-font-2
    same_length
    same-length-2
    returns
    slice-set-from-boundary
    slice-set-from-left
    put-counts-requires
    same-length-3
    same-length-4
    returns-2
    same-length-5
    same-length-6
    returns-3)
