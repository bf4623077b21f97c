-- `repair_entries::unpack_entries` meets its contract: nothing is done to a font that has too much; else the passes come one after the other.
-- Assumes nothing.
use mathlib.Core.Path.{◌≡◌, sym, ap, ◌∙◌}
use mathlib.Core.Bool.{true}
use Prim.Native.Nat.{◌/◌, ◌≤◌}
use lib.IntN.{ℤ}
use lib.Dec.{leb}
use lib.ListN.{length}
use lib.Signed.{non_neg}
use borrow.Author.Rules.{rules}
use borrow.Author.Tests.{leb-true}
use Rattle.words.specs.Words.{word_of}
use Rattle.words.proofs.Bits.{number_word}
use Rattle.lang.specs.Every.{both}
use Rattle.lang.specs.Records.{count}
use Rattle.lang.proofs.Every.{both_left, both_right}
use Rattle.repair_entries.proofs.Entering.{one_left, enters_none, enters}
use Rattle.repair_entries.proofs.unpack_entries.Statement.{statement}
use Rattle.repair_entries.proofs.unpack_entries.Tie as tie

-- the test is passed
abbrev start : tie.Else-not-is_enterable → tie.Start
start c = c.before.before.before.before

tested : (c : tie.Else-not-is_enterable) → let a = (start c).args in both (leb (count a.instructions.now) 32767) (leb (length a.entries.now / 2) 256) ≡ true
tested c = sym c.is_enterable.ensures ∙ c.if-not-is_enterable.false

few : (c : tie.Else-not-is_enterable) → count (start c).args.instructions.now ≤ 32767
few c = leb-true _ 32767 (both_left (leb (count (start c).args.instructions.now) 32767) _ (tested c))

few_entries : (c : tie.Else-not-is_enterable) → length (start c).args.entries.now / 2 ≤ 256
few_entries c = leb-true _ 256 (both_right (leb (count (start c).args.instructions.now) 32767) _ (tested c))

is-enterable-requires : tie.Need-is_enterable-requires
is-enterable-requires c κs = search rules

returns : tie.Need-returns-then-not-is_enterable
returns c = λ d f.
    let a = c.args in
    enters_none d f a.unpacked.now a.through.now a.warnings.now c.is_enterable.ensures (c.if-not-is_enterable.true)

put-entries-requires : tie.Need-put_entries-n-requires
put-entries-requires c κs = few c.before

put-passthrough-requires : tie.Need-put_passthrough-requires
put-passthrough-requires c κs = search rules

pass-redirects-requires : tie.Need-pass_redirects-requires
pass-redirects-requires c κs = search rules

left-goes-requires : tie.Need-left_goes-requires
left-goes-requires c κs = search rules

push-if-requires : tie.Need-push_if-left-requires
push-if-requires c κs = search rules

warn-entries-requires : tie.Need-warn_entries-count-requires
warn-entries-requires c κs =
    let t = c.left_goes.result in (
      one_left t _ _ _ c.push_if-left.ensures,
      few_entries (c.before.before.before.before.before.before.before.before.before.before.before.before.before.before.before.before),
    )

same_length : tie.Need-shape_of-unpacked
same_length c = search rules

same-length-2 : tie.Need-shape_of-through
same-length-2 c = search rules

same-length-3 : tie.Need-shape_of-warnings
same-length-3 c = search rules

returns-2 : tie.Need-returns
returns-2 c =
    let s = start (c.before.before.before.before.before.before.before.before.before.before.before.before.before.before.before.before.before.before) in
    let a = s.args in
    λ d f.
    let left = ap (λ (z : ℤ). both (non_neg z) (leb (count a.instructions.now) (word_of z))) (number_word a.left_entry s.ranges.left_entry) in
    enters
    (record {
      lent = f;
      fits = _;
      fits_is = c.is_enterable.ensures;
      fit = c.if-not-is_enterable.false;
      unpacked = _;
      unpacked' = _;
      entries = _;
      placed_are = c.put_entries-n.ensures d f.lists;
      through = _;
      through₁ = _;
      through' = _;
      bits = c.put_passthrough.ensures;
      passed_are = c.pass_redirects.ensures d;
      goes = _;
      goes_is = c.left_goes.ensures ∙ left;
      warnings = _;
      warnings₁ = _;
      warnings' = _;
      one = _;
      all = _;
      left_warned = c.push_if-left.ensures;
      entries_warned = c.warn_entries-count.ensures d f.lists;
    })

pub unpack_entries_spec : {M : Type 1} → statement M
unpack_entries_spec =
    tie.close
    (tie.spec
    is-enterable-requires
    returns
    put-entries-requires
    put-passthrough-requires
    pass-redirects-requires
    left-goes-requires
    push-if-requires
    warn-entries-requires
    same_length
    same-length-2
    same-length-3
    returns-2)
