use Rattle.std.proofs.Common.{◌≡◌, true, ◌+◌, ◌%◌, ◌<◌, ◌≤◌, ℕ, ℤ, List, length, sym, arith}
use Rattle.words.specs.Words.{Word, word_of}
use Rattle.lang.specs.Every.{every}
use Rattle.captions.specs.Tables.{pair_count, number, left_place}
use Rattle.captions.specs.Form.{key_form}
use Rattle.captions.proofs.Bisecting.{left_small, right_small}
use Rattle.index_fill.proofs.Laws.{filled_none, filled_pair, place_read}
use Rattle.index_fill.proofs.set_bits.Goals as goal

-- pair k's left and right are read, and are in range; the index has room for them
record Read (pairs : List ℤ) (index : List ℕ) (k l r : ℕ) : Type 0 where
  left_is : left_place (number pairs k 0) ≡ l
  right_is : word_of (number pairs k 1) ≡ r
  left_in : l ≤ 256
  right-in : r ≤ 255
  room : 1285 ≤ length index

read : (pairs : List ℤ) (index : List ℕ) (k : ℕ) {w l r : ℕ} → every (pair_count pairs) (key_form pairs) ≡ true → k < pair_count pairs →
    1285 ≤ length index → Word (number pairs k 0) w → l ≡ (w + 1) % 4294967296 → Word (number pairs k 1) r → Read pairs index k l r
read pairs index k t h m p e q =
    let ls = place_read p e in
    let rs = sym q.is in
    record {
      left_is = ls;
      right_is = rs;
      left_in = omega (arith, ls, left_small pairs t k h);
      right-in = omega (arith, rs, right_small pairs t k h);
      room = m;
    }

pub loop-k-init : goal.loop-k-init
loop-k-init c = filled_none c.args.pairs.now (length c.args.index.now) c.requires.0

pub set_bit-requires : goal.set_bit-requires
set_bit-requires c =
    let r = read c.args.pairs.now c.loop-k.index c.loop-k.k c.requires.2 c.loop-k-test.true (omega (arith, c.loop-k.invariant.same)) c.number_at.ensures
    c.left_place.ensures c.number_at-in-loop-k.ensures in
    (omega (arith, r.left_in, r.right-in, r.room), omega (arith, r.right-in))

pub loop-k-preserved : goal.loop-k-preserved
loop-k-preserved c =
    let r = read c.args.pairs.now c.loop-k.index c.loop-k.k c.requires.2 c.loop-k-test.true (omega (arith, c.loop-k.invariant.same)) c.number_at.ensures
    c.left_place.ensures c.number_at-in-loop-k.ensures in
    filled_pair c.args.pairs.now c.loop-k.k c.left_place.result c.number_at-in-loop-k.result r.left_is r.right_is r.left_in r.right-in
    c.loop-k.invariant (omega (arith, r.left_in, r.right-in, r.room)) c.set_bit.ensures
