-- `words::i32s::word_at` meets its contract: below the length the element's bits, past it 0.
-- Assumes nothing.
use mathlib.Core.Path.{◌≡◌, refl, ap, ◌∙◌}
use Prim.Native.Nat.{ℕ, ◌≤◌, ◌<◌, ◌^◌}
use lib.IntN.{ℤ, pos}
use lib.ListN.{length, get_or, get_or-eq_default}
use mathlib.Core.List.{List}
use lib.Signed.{mag}
use mir.Syntax.{w32}
use mir.Val.{of_z, to_z, SFits}
use mir.ValLaws.{to_z-of_z}
use mir.Facts.{sfits_lit}
use Rattle.words.specs.Words.{Word, word_of}
use borrow.Author.Rules.{rules}
use Rattle.words.proofs.i32s.word_at.Statement.{statement}
use Rattle.words.proofs.i32s.word_at.Tie as tie

below : (z : ℤ) (r : ℕ) → mag z < 2 ^ 31 → r ≡ word_of (to_z w32 (of_z w32 z)) → Word z r
below z r m e =
    let f : SFits w32 z = record { sfits = m } in
    record { is = e ∙ ap word_of (to_z-of_z w32 z f); fits = f }

past : (s : List ℤ) (i : ℕ) → length s ≤ i → Word (get_or s i (pos 0)) 0
past s i h = rw (get_or-eq_default s (pos 0) {n = i} h) (record { is = refl; fits = sfits_lit tt })

mul-x : tie.Need-offset_bounds-s-i
mul-x c = search rules

shared-slice-copy-out-x : tie.Need-bounds-s-i
shared-slice-copy-out-x c = search rules

word-of-requires : tie.Need-word_of-requires
word-of-requires c κs = search rules

returns : tie.Need-returns-then-i-s
returns c =
    let a = c.before.before.before.args in
    below (get_or a.s.now a.i (pos 0)) c.word_of.result c.before.x-1.given c.word_of.ensures

returns-2 : tie.Need-returns-else-i-s
returns-2 c = past c.before.args.s.now c.before.args.i c.if-i-s.false

pub word_at_spec : {M : Type 1} → statement M
word_at_spec =
    tie.close
    (tie.spec
    mul-x
    shared-slice-copy-out-x
    word-of-requires
    returns
    returns-2)
