-- `pl_share::from_pl_source_code` meets its contract. Assumes nothing.
use mathlib.Core.Path.{◌≡◌, sym, ap, ◌∙◌}
use Prim.Native.Nat.{ℕ, ◌*◌, ◌≤◌}
use native.Mathlib.Omega.{arith}
use lib.IntN.{pos}
use lib.ListN.{length, length-take, length-replicate, replicate}
use Rattle.words.proofs.Bits.{number_word}
use Rattle.property_lists.specs.declared.Listed.TheVariants as listed
use Rattle.pl_share.proofs.Sharing.{read_refused, within, share_refused, share_told}
use borrow.Author.Rules.{rules}
use Rattle.pl_share.proofs.from_pl_source_code.Statement.{statement}
use Rattle.pl_share.proofs.from_pl_source_code.Tie as tie

step-places-requires : tie.Need-step_places-steps-requires
step-places-requires c κs = search rules

slice-aggregate-read-list : tie.Need-slice_bounds-read_list-end
slice-aggregate-read-list c = search rules

read-list-requires : tie.Need-read_list-read-requires
read-list-requires c κs = search rules

enum-known-read : tie.Need-enum_known-read
enum-known-read c = search rules

zero-all-requires : tie.Need-zero_all-requires
zero-all-requires c κs = search rules

zero-all-requires-2 : tie.Need-zero_all-requires-in-Refused
zero-all-requires-2 c κs = search rules

enum-known-read-2 : tie.Need-enum_known-read-in-Font-1
enum-known-read-2 c = search rules

mul-steps : tie.Need-overflow_mul-steps
mul-steps c =
    let a = c.args in
    omega (
      arith,
      within a.text.now a.instructions.now a.kerns.now a.entries.now (omega (arith, c.step_places-steps.ensures))
          c.read_list-read.ensures c.in-Font.is,
    )

array-share-prefix-steps : tie.Need-slice_bounds-steps-end
array-share-prefix-steps c =
    let a = c.args in
    let k = c.read_list-read.auto.instructions in
    omega (
      arith,
      within a.text.now a.instructions.now a.kerns.now a.entries.now (omega (arith, c.step_places-steps.ensures))
          c.read_list-read.ensures c.in-Font.is,
      k,
      c.step_places-steps.ensures,
    )

slice-aggregate-unpack-kerns : tie.Need-slice_bounds-unpack_kerns-end
slice-aggregate-unpack-kerns c =
    let a = c.args in
    let k = c.read_list-read.auto.instructions in
    simp length-take (omega (
      arith,
      within a.text.now a.instructions.now a.kerns.now a.entries.now (omega (arith, c.step_places-steps.ensures))
          c.read_list-read.ensures c.in-Font.is,
      k,
      c.step_places-steps.ensures,
    ))

unpack-kerns-requires : tie.Need-unpack_kerns-shared-requires
unpack-kerns-requires c κs = search rules

enum-known-shared : tie.Need-enum_known-shared
enum-known-shared c = search rules

zero-all-requires-3 : tie.Need-zero_all-requires-in-Refused-shared
zero-all-requires-3 c κs = search rules

enum-known-shared-2 : tie.Need-enum_known-shared-in-Count-1
enum-known-shared-2 c = search rules

same_length : tie.Need-shape_of-instructions-in-Refused
same_length c = search rules

same-length-2 : tie.Need-shape_of-kerns-in-Refused
same-length-2 c = search rules

same-length-3 : tie.Need-shape_of-entries-in-Refused
same-length-3 c = search rules

returns : tie.Need-returns-in-Refused
returns c =
    let a = c.args in
    read_refused a.text.now a.instructions.now a.kerns.now a.entries.now (omega (arith, c.step_places-steps.ensures)) c.read_list-read.ensures
    c.in-Refused.is c.zero_all.ensures c.zero_all-in-Refused.ensures

same-length-4 : tie.Need-shape_of-instructions-in-Refused-shared
same-length-4 c = search rules

same-length-5 : tie.Need-shape_of-kerns-in-Refused-shared
same-length-5 c = search rules

same-length-6 : tie.Need-shape_of-entries-in-Refused-shared
same-length-6 c = search rules

returns-2 : tie.Need-returns-in-Refused-shared
returns-2 c =
    let a = c.args in
    share_refused a.text.now a.instructions.now a.kerns.now a.entries.now (omega (arith, c.step_places-steps.ensures)) c.read_list-read.ensures
    c.in-Font.is c.unpack_kerns-shared.ensures c.in-Refused-shared.is
    (c.zero_all-in-Refused-shared.ensures ∙ ap (λ (n : ℕ). replicate n (pos 0)) c.read_list-read.auto.entries)

same-length-7 : tie.Need-shape_of-instructions-in-Count
same-length-7 c = search rules

same-length-8 : tie.Need-shape_of-kerns-in-Count
same-length-8 c = search rules

same-length-9 : tie.Need-shape_of-entries-in-Count
same-length-9 c = search rules

returns-3 : tie.Need-returns-in-Count
returns-3 c =
    let a = c.args in
    share_told a.text.now a.instructions.now a.kerns.now a.entries.now (omega (arith, c.step_places-steps.ensures)) c.read_list-read.ensures
    c.in-Font.is c.unpack_kerns-shared.ensures c.in-Count.is (number_word c.in-Font.boundary (record { sfits = c.in-Font.known_told-in-Font-1-own.given.1.1.0.1 }))
    (number_word c.in-Font.left (record { sfits = c.in-Font.known_told-in-Font-1-own.given.1.1.1.0.1 }))

pub from_pl_source_code_spec : {M : Type 1} → statement M
from_pl_source_code_spec =
    tie.close
    (tie.spec
    step-places-requires
    slice-aggregate-read-list
    read-list-requires
    enum-known-read
    zero-all-requires
    zero-all-requires-2
    enum-known-read-2
    mul-steps
    array-share-prefix-steps
    slice-aggregate-unpack-kerns
    unpack-kerns-requires
    enum-known-shared
    zero-all-requires-3
    enum-known-shared-2
    same_length
    same-length-2
    same-length-3
    returns
    same-length-4
    same-length-5
    same-length-6
    returns-2
    same-length-7
    same-length-8
    same-length-9
    returns-3)
