-- A state's numbers are read back as that state, whatever stands after them. And the last arms by which numbers are read.
-- Assumes nothing.
use mathlib.Core.Path.{◌≡◌, refl, ap}
use mathlib.Core.Bool.{Bool, true, false}
use mathlib.Core.List.{List, [], ◌∷◌, ◌++◌}
use mathlib.Core.Option.{some}
use Prim.Native.Nat.{ℕ, zero, suc, ◌≤◌}
use native.Mathlib.Omega.{arith}
use lib.Dec.{leb}
use lib.ListN.{length, get_or}
use borrow.Author.Tests.{leb-true, le-leb}
use Rattle.lang.specs.Every.{both}
use Rattle.lang.proofs.Arms.{NoneOf}
use Rattle.lang.proofs.Every.{both_left, both_right}
use Rattle.captions.specs.declared.NextLeft.{NextLeft}
use Rattle.captions.specs.declared.NextLeft.TheVariants as next
use Rattle.captions.specs.declared.Consumes.{Consumes}
use Rattle.captions.specs.declared.Consumes.TheVariants as consumes
use Rattle.captions.specs.declared.State.{State}
use Rattle.captions.specs.Replies.{next_kind, next_code, consumes_number}
use Rattle.c_states.specs.States.{flag_bit, numbers_of, next_left_of, flag_of, consumes_of, state_at, is_state, state_read}

next_back_lem : (x : NextLeft) → next_left_of (next_kind x) (next_code x) ≡ x
next_back_lem next.Boundary = refl
next_back_lem (next.Char c) = refl
next_back_lem (next.Lig c) = refl
next_back_lem (next.FinalLig c) = refl
next_back_lem next.None = refl

flag_back : (b : Bool) → flag_of (flag_bit b) ≡ b
flag_back true = refl
flag_back false = refl

consumes_back_lem : (x : Consumes) → consumes_of (consumes_number x) ≡ x
consumes_back_lem consumes.Nothing = refl
consumes_back_lem consumes.Letter = refl
consumes_back_lem consumes.Boundary = refl

kind_few : (x : NextLeft) → next_kind x ≤ 4
kind_few next.Boundary = omega arith
kind_few (next.Char c) = omega arith
kind_few (next.Lig c) = omega arith
kind_few (next.FinalLig c) = omega arith
kind_few next.None = omega arith

bit_few : (b : Bool) → flag_bit b ≤ 1
bit_few true = omega arith
bit_few false = omega arith

consumes_few : (x : Consumes) → consumes_number x ≤ 2
consumes_few consumes.Nothing = omega arith
consumes_few consumes.Letter = omega arith
consumes_few consumes.Boundary = omega arith

all : {a b : Bool} → a ≡ true → b ≡ true → both a b ≡ true
all e f = rw (e, f)

module _ (s : State) (rest : List ℕ) where
  back : state_at (numbers_of s ++ rest) ≡ s
  back i =
      record {
        next_left = next_back_lem s.next_left i;
        op = s.op;
        ops = s.ops;
        read = s.read;
        given = s.given;
        pending = s.pending;
        pending_boundary = flag_back s.pending_boundary i;
        consumes_left = consumes_back_lem s.consumes_left i;
      }

  is_state_lem : next_code s.next_left ≤ 4294967295 → is_state (numbers_of s ++ rest) ≡ true
  is_state_lem h =
      all (le-leb 9 (length (numbers_of s ++ rest)) (omega arith))
      (all (le-leb (next_kind s.next_left) 4 (kind_few s.next_left))
      (all (le-leb (next_code s.next_left) 4294967295 h)
      (all (le-leb (flag_bit s.pending_boundary) 1 (bit_few s.pending_boundary))
      (le-leb (consumes_number s.consumes_left) 2 (consumes_few s.consumes_left)))))

  pub read_back : next_code s.next_left ≤ 4294967295 → state_read (numbers_of s ++ rest) ≡ some s
  read_back h = rw (is_state_lem h) (ap some back)

-- ---- reading

pub next_other : (k c : ℕ) → NoneOf (Unit {0}) k (0 ∷ 1 ∷ 2 ∷ 3 ∷ []) → next.None ≡ next_left_of k c
next_other zero c h = absurd (h.0.0.0.1 refl)
next_other (suc zero) c h = absurd (h.0.0.1 refl)
next_other (suc (suc zero)) c h = absurd (h.0.1 refl)
next_other (suc (suc (suc zero))) c h = absurd (h.1 refl)
next_other (suc (suc (suc (suc k)))) c h = refl

pub consumes_other : (k : ℕ) → NoneOf (Unit {0}) k (0 ∷ 1 ∷ []) → consumes.Boundary ≡ consumes_of k
consumes_other zero h = absurd (h.0.1 refl)
consumes_other (suc zero) h = absurd (h.1 refl)
consumes_other (suc (suc k)) h = refl

pub flag_other : (k : ℕ) → NoneOf (Unit {0}) k (0 ∷ []) → true ≡ flag_of k
flag_other zero h = absurd (h.1 refl)
flag_other (suc k) h = refl

module _ (ns : List ℕ) (h : is_state ns ≡ true) where
  pub state_long : 9 ≤ length ns
  state_long = leb-true 9 (length ns) (both_left (leb 9 (length ns)) _ h)

  pub state_code : get_or ns 1 0 ≤ 4294967295
  state_code =
      leb-true (get_or ns 1 0) 4294967295 (both_left (leb (get_or ns 1 0) 4294967295) _ (both_right (leb (get_or ns 0 0) 4) _ (both_right (leb 9 (length ns)) _ h)))
