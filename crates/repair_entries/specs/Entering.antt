-- R169, R170 and R182; TFtoPL 67 and 69: the entries of a font that is repaired, unpacked; what is passed over; and the warnings of both.
-- The first part of `validate_and_fix` of ligkern/lang.rs.
use Rattle.std.specs.Prelude.{◌≡◌, Bool, true, cond, List, [], ◌∷◌, ◌++◌, ℕ, ◌+◌, ◌*◌, ◌/◌, ℤ, leb, eqb, length, get_or, set}
use Rattle.std.proofs.lemmas.List.Edits.{sets}
use Rattle.words.specs.Words.{number_of}
use Rattle.words.specs.Lists.{tabulate}
use Rattle.lang.specs.Every.{both}
use Rattle.lang.specs.Records.{count, is_kind}
use Rattle.entry_targets.specs.Targets.{stands_for, entry_refusal}
use Rattle.repairs.specs.declared.Entered.{Entered}
use Rattle.repairs.specs.Damaged.{Damaged, redirects_at, unpacked_entries, repaired_passthrough}
use Rattle.repairs.specs.Warnings.{left_warning, entry_warnings}
use Rattle.repairs.specs.Pushed.{Pushed}

-- ---- the steps

-- the font d has these instructions and entries
pub record Lends (d : Damaged) (s es : List ℤ) : Type 0 where
  pub instructions : d.instructions ≡ s
  pub entries : d.entries ≡ es

-- after n entries come those of ws, two numbers each, and there are r then. What passes the end of the lent list is left off.
pub record Placed (unpacked : List ℤ) (n : ℕ) (ws unpacked' : List ℤ) (r : ℕ) : Type 0 where
  pub count : 2 * r ≡ 2 * n + length ws
  pub list : unpacked' ≡ sets unpacked (2 * n) ws

-- one entry unpacked, from the bits of its character and of the packed entry; none where it does not unpack
abbrev pub entry_numbers : List ℤ → ℕ → ℕ → List ℤ
entry_numbers s c e = cond (eqb (entry_refusal s e) 0) (number_of c ∷ number_of (stands_for s e) ∷ []) []

-- passthrough of the first n instructions, as 0 and 1
abbrev pub passthrough_bits : List ℕ → ℕ → List ℕ
passthrough_bits p n = tabulate n (λ i. cond (eqb (get_or p i 0) 0) 0 1)

-- 1 at an entry that unpacks by a redirect
abbrev pub redirect_passed : List ℤ → ℕ → List ℕ → List ℕ
redirect_passed s e through = cond (both (eqb (entry_refusal s e) 0) (is_kind 3 s e)) (set through e 1) through

-- instruction i is passed over: it came so, or one of the first k entries unpacks by it
abbrev pub passed_upto : Damaged → ℕ → ℕ → Bool
passed_upto d k i = cond (eqb (get_or d.passthrough i 0) 0) (redirects_at d i k) true

-- passthrough by the first k entries, as 0 and 1
abbrev pub passthrough_upto : Damaged → ℕ → List ℕ
passthrough_upto d k = tabulate (count d.instructions) (λ i. cond (passed_upto d k i) 1 0)

-- the font d has these instructions and entries, and `through` is t with the passthrough before the first entry at its front
pub record PassesFrom (d : Damaged) (t : List ℕ) (s es : List ℤ) (through : List ℕ) : Type 0 where
  pub lists : Lends d s es
  pub from : through ≡ sets t 0 (passthrough_upto d 0)

-- ---- the contract of unpack_entries

-- the font d has these instructions and entries, this left entry and this passthrough
pub record EntersFrom (d : Damaged) (s es : List ℤ) (left : ℤ) (passthrough : List ℕ) : Type 0 where
  pub lists : Lends d s es
  pub left_entry_lem : d.left ≡ left
  pub passed : d.passthrough ≡ passthrough

-- at most 32,767 instructions (R230) and 256 entries
abbrev pub is_enterable : Damaged → Bool
is_enterable d = both (leb (count d.instructions) 32767) (leb (length d.entries / 2) 256)

-- the warnings 1 and 2
abbrev pub enter_warnings : Damaged → List ℤ
enter_warnings d = left_warning d ++ entry_warnings d (length d.entries / 2)

-- The unpacked entries, the passthrough and the warnings 1 and 2, each at the front of its list, with the counts of entries and warnings.
-- Of a font that has more nothing is written, and both counts are 0.
pub record Enters (d : Damaged) (unpacked : List ℤ) (through : List ℕ) (warnings : List ℤ) (r : Entered) (unpacked' : List ℤ)
    (through' : List ℕ) (warnings' : List ℤ) : Type 0 where
  pub entries : 2 * r.entries ≡ length (cond (is_enterable d) (unpacked_entries d) [])
  pub list : unpacked' ≡ sets unpacked 0 (cond (is_enterable d) (unpacked_entries d) [])
  pub passthrough : through' ≡ sets through 0 (cond (is_enterable d) (repaired_passthrough d) [])
  pub warned : Pushed warnings 0 (cond (is_enterable d) (enter_warnings d) []) warnings' r.warnings
