-- What sharing is of a program that has no kerns yet: theorem `as-unpacked` of proofs/Theorems. No contract cites this.
use Rattle.std.specs.Prelude.{◌≡◌, false, List, [], ℕ, ◌%◌, ◌<◌, ℤ, length}
use Rattle.lang.specs.Records.{count, is_kind}
use Rattle.program_kerns.specs.Kerns.{kerns_of, unpacked}
use Rattle.program_kerns.specs.SharedKerns.{all_kerns, share_kerns}

-- over no kerns, a program in fours without indices is shared as unpack_kerns shares it (R145, R146)
abbrev pub AsUnpacked : Type 0
AsUnpacked =
    (s : List ℤ) → length s % 4 ≡ 0 → ((i : ℕ) → i < count s → is_kind 1 s i ≡ false) → (share_kerns s [] ≡ unpacked s) × (all_kerns s [] ≡ kerns_of s)
