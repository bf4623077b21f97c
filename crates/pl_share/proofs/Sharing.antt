-- The refusals of reading and of sharing, and the answer.
-- Assumes nothing.
use mathlib.Core.Path.{◌≡◌, refl, sym, ap, ◌∙◌}
use mathlib.Core.Bool.{Bool, true, false, cond}
use mathlib.Core.List.{List, [], ◌∷◌, ◌++◌}
use mathlib.Core.Option.{Option, none, some}
use Prim.Native.Nat.{ℕ, zero, suc, ◌+◌, ◌-◌, ◌*◌, ◌/◌, ◌<◌, ◌≤◌}
use native.Mathlib.Omega.{arith}
use lib.IntN.{ℤ, pos}
use lib.Dec.{leb}
use lib.ListN.{length, take, replicate, length-append, length-replicate}
use lib.Seq.{take_at}
use borrow.Author.Tests.{leb-true, le-leb}
use Rattle.lang.specs.declared.Written.{Written}
use Rattle.lang.specs.declared.Written.TheVariants as written
use Rattle.lang.specs.Checks.{unless, or_else, program_refusal}
use Rattle.lang.specs.Answers.{Reply, reply_of, room_refusal, list_of, written_reply}
use Rattle.lang.proofs.Refusals.{or_else_none, unless_none, room_is}
use Rattle.lang.proofs.Filled.{refused_list}
use Rattle.program_kerns.specs.Kerns.{kerns_of, unpacked, unpack_kerns_refusal, UnpacksKerns}
use Rattle.property_lists.specs.declared.Listed.TheVariants as listed
use Rattle.property_lists.specs.ListReading.{ListRead, label_entries, pl_read, pl_program, pl_shared}
use Rattle.property_lists.specs.ListReading.{pl_kerns, pl_entries, pl_values, pl_refusal, listed_reply, ReadsList}
use Rattle.pl_programs.proofs.Theorems.{read_is_program}
use Rattle.pl_read.specs.declared.StepsListed.{StepsListed}
use Rattle.pl_read.specs.declared.StepsListed.TheVariants as steps
use Rattle.pl_read.specs.ValueLists.{steps_refusal, steps_values, steps_reply, ReadsValues}

-- ---- numbers of refusals

number_is : (n : ℕ) (vs : List ℤ) → (reply_of n vs).number ≡ n
number_is zero vs = refl
number_is (suc n) vs = refl

refused_as : (m : ℕ) → (m ≡ 0 → ⊥) → (vs : List ℤ) → listed_reply (listed.Refused m) ≡ reply_of m vs
refused_as zero h vs = absurd (h refl)
refused_as (suc m) h vs = refl

or_zero : (x : ℕ) → or_else x 0 ≡ x
or_zero zero = refl
or_zero (suc x) = refl

-- 15 after two lists
late : (t u : Bool) → or_else (unless 15 t) (or_else (unless 15 u) 15) ≡ 15
late true true = refl
late true false = refl
late false u = refl

-- ---- a text that is not read

-- what reading refuses, in a list with room for every program, is refused so
module _ (n a b room space : ℕ) (h : 131068 ≤ room) where
  some_refused : (r : ListRead) (t u : Bool) → leb r.now.steps 32767 ≡ t → leb (length (label_entries r.labels 256)) space ≡ u →
      steps_reply (steps.Refused n) ≡ reply_of (steps_refusal (some r) room space) (steps_values (some r)) → (pl_refusal (some r) a b space ≡ n) × (n ≡ 0 → ⊥)
  some_refused r false u e f q =
      let p : n ≡ 1 = ap (λ (x : Reply). x.number) q ∙ rw e in
      (rw e (sym p), λ z. omega arith)
  some_refused r true true e f q =
      let l = leb-true r.now.steps 32767 e in
      let v : ◌≡◌ {A = List ℤ} [] (steps_values (some r)) =
      ap (λ (x : Reply). x.values) q ∙ rw (e, f, room_is (4 * r.now.steps) room (omega arith)) in
      let z : ◌≡◌ {A = ℕ} 0 1 = cc in
      absurd (omega arith)
  some_refused r true false e f q =
      let l = leb-true r.now.steps 32767 e in
      let p : n ≡ 15 = ap (λ (x : Reply). x.number) q ∙ rw (e, f, room_is (4 * r.now.steps) room (omega arith)) in
      (rw (e, f) (late (leb (4 * r.now.steps) a) (leb (length (kerns_of r.program)) b) ∙ sym p), λ z. omega arith)

  not_read : (o : Option ListRead) → steps_reply (steps.Refused n) ≡ reply_of (steps_refusal o room space) (steps_values o) →
      (pl_refusal o a b space ≡ n) × (n ≡ 0 → ⊥)
  not_read none q =
      let p : n ≡ 23 = ap (λ (x : Reply). x.number) q in
      (sym p, λ z. omega arith)
  not_read (some r) q = some_refused r (leb r.now.steps 32767) (leb (length (label_entries r.labels 256)) space) refl refl q

-- ---- a text that is read

pub record Got (text : List ℕ) (space n e : ℕ) (b l : ℤ) : Type 0 where
  pub read : ListRead
  pub is : pl_read text ≡ some read
  pub few : read.now.steps ≤ 32767
  pub fits : room_refusal (length (label_entries read.labels 256)) space ≡ 0
  pub values : steps_values (some read) ≡ pos n ∷ pos e ∷ b ∷ l ∷ []

got_by : (text : List ℕ) (room space : ℕ) {n e : ℕ} {b l : ℤ} (o : Option ListRead) → pl_read text ≡ o →
    steps_reply (steps.Font n e b l) ≡ reply_of (steps_refusal o room space) (steps_values o) → Got text space n e b l
got_by text room space none k q = let z : ◌≡◌ {A = ℕ} 0 23 = ap (λ (x : Reply). x.number) q in absurd (omega arith)
got_by text room space {n} {e} {b} {l} (some r) k q =
    let m = steps_refusal (some r) room space in
    let z : m ≡ 0 = sym (number_is m (steps_values (some r))) ∙ sym (ap (λ (x : Reply). x.number) q) in
    let s = or_else_none (unless 1 (leb r.now.steps 32767)) (or_else (room_refusal (4 * r.now.steps) room)
    (room_refusal (length (label_entries r.labels 256)) space)) z in
    let t = or_else_none (room_refusal (4 * r.now.steps) room) (room_refusal (length (label_entries r.labels 256)) space) s.1 in
    record {
      read = r;
      is = k;
      few = leb-true r.now.steps 32767 (unless_none 0 (leb r.now.steps 32767) s.0);
      fits = t.1;
      values = sym (ap (λ (x : Reply). x.values) q ∙ ap (λ (x : ℕ). (reply_of x (steps_values (some r))).values) z);
    }

-- ---- what is written stands at the front

front_is : (n k : ℕ) (xs : List ℤ) {m : ℕ} {d : List ℤ} → m ≡ 0 → d ≡ list_of m (pos 0) n xs → length xs ≡ k → take k d ≡ xs
front_is n k xs z e l = rw (e, z) (take_at xs (replicate (n - length xs) (pos 0)) k l)

-- ---- the answer

module _ (text : List ℕ) (is ks es : List ℤ) {numbers : List ℤ} (room : 131068 ≤ length numbers) {r : StepsListed} {numbers₁ es₁ : List ℤ}
    (d : ReadsValues text numbers es r numbers₁ es₁) where
  pub read_refused : {n : ℕ} → r ≡ steps.Refused n → {is' ks' : List ℤ} → is' ≡ replicate (length is) (pos 0) → ks' ≡ replicate (length ks) (pos 0) →
      ReadsList text is ks es (listed.Refused n) is' ks' es₁
  read_refused {n} q e f =
      let a : steps_reply (steps.Refused n) ≡ reply_of (steps_refusal (pl_read text) (length numbers) (length es)) (steps_values (pl_read text)) =
      ap steps_reply (sym q) ∙ d.answer in
      let p = not_read n (length is) (length ks) (length numbers) (length es) room (pl_read text) a in
      let m : n ≡ steps_refusal (pl_read text) (length numbers) (length es) =
      ap (λ (x : Reply). x.number) a ∙ number_is (steps_refusal (pl_read text) (length numbers) (length es)) (steps_values (pl_read text)) in
      record {
        answer = refused_as n p.1 (pl_values (pl_read text)) ∙ ap (λ (k : ℕ). reply_of k (pl_values (pl_read text))) (sym p.0);
        program = refused_list (pos 0) (length is) (pl_shared (pl_read text)) (sym p.0) p.1 e;
        shares = refused_list (pos 0) (length ks) (pl_kerns (pl_read text)) (sym p.0) p.1 f;
        labels = d.labels ∙ ap (λ (k : ℕ). list_of k (pos 0) (length es) (pl_entries (pl_read text))) (sym m ∙ sym p.0);
      }

  module _ {n e : ℕ} {b l : ℤ} (q : r ≡ steps.Font n e b l) where
    got : Got text (length es) n e b l
    got = got_by text (length numbers) (length es) (pl_read text) refl (ap steps_reply (sym q) ∙ d.answer)

    counted : n ≡ got.read.now.steps
    counted = let v = got.values in cc

    -- the steps fill their places at the front
    pub within : 4 * n ≤ 131068
    within = let f = got.few in omega (arith, counted)

    none_refused : steps_refusal (pl_read text) (length numbers) (length es) ≡ 0
    none_refused =
        let a = ap steps_reply (sym q) ∙ d.answer in
        sym (number_is (steps_refusal (pl_read text) (length numbers) (length es)) (steps_values (pl_read text))) ∙ sym (ap (λ (x : Reply). x.number) a)

    abbrev program : List ℤ
    program = got.read.program

    fours : length program ≡ 4 * n
    fours = (read_is_program text got.read got.is).fours ∙ (let k : 4 * got.read.now.steps ≡ 4 * n = omega (arith, counted) in k)

    front : take (4 * n) numbers₁ ≡ program
    front = front_is (length numbers) (4 * n) program none_refused (d.program ∙ ap (λ (o : Option ListRead). list_of
        (steps_refusal (pl_read text) (length numbers) (length es)) (pos 0) (length numbers) (pl_program o)) got.is) fours

    abbrev number : ℕ
    number = unpack_kerns_refusal program (length is) (length ks)

    -- sharing refuses what is left
    alike : pl_refusal (pl_read text) (length is) (length ks) (length es) ≡ number
    alike =
        let t = (read_is_program text got.read got.is).taken got.few in
        let g : 4 * got.read.now.steps ≡ length program = sym (read_is_program text got.read got.is).fours in
        let s : unless 1 (leb got.read.now.steps 32767) ≡ 0 = room-one got.read.now.steps got.few in
        rw (got.is, s, got.fits, or_zero (room_refusal (length (kerns_of program)) (length ks)), t, g)
      where
        room-one : (k : ℕ) → k ≤ 32767 → unless 1 (leb k 32767) ≡ 0
        room-one k h = rw (le-leb k 32767 h)

    module _ {w : Written} {is₁ ks₁ : List ℤ} (u : UnpacksKerns (take (4 * n) numbers₁) is ks w is₁ ks₁) where
      shared : UnpacksKerns program is ks w is₁ ks₁
      shared = rw front at u

      answered : written_reply w ≡ reply_of number (pos (length (kerns_of program)) ∷ [])
      answered = shared.answer

      program-listed : is₁ ≡ list_of (pl_refusal (pl_read text) (length is) (length ks) (length es)) (pos 0) (length is) (pl_shared (pl_read text))
      program-listed = shared.list ∙ rw (alike, got.is)

      kerns-listed : ks₁ ≡ list_of (pl_refusal (pl_read text) (length is) (length ks) (length es)) (pos 0) (length ks) (pl_kerns (pl_read text))
      kerns-listed = shared.shares ∙ rw (alike, got.is)

      pub share_refused : {m : ℕ} → w ≡ written.Refused m → {es' : List ℤ} → es' ≡ replicate (length es) (pos 0) →
          ReadsList text is ks es (listed.Refused m) is₁ ks₁ es'
      share_refused {m} x f =
          let a = ap written_reply (sym x) ∙ answered in
          let k : m ≡ number = ap (λ (y : Reply). y.number) a ∙ number_is number (pos (length (kerns_of program)) ∷ []) in
          let h : m ≡ 0 → ⊥ = λ z. some-values m a k z in
          record {
            answer = refused_as m h (pl_values (pl_read text)) ∙ ap (λ (y : ℕ). reply_of y (pl_values (pl_read text))) (k ∙ sym alike);
            program = program-listed;
            shares = kerns-listed;
            labels = refused_list (pos 0) (length es) (pl_entries (pl_read text)) (k ∙ sym alike) h f;
          }
        where
          some-values : (m : ℕ) → written_reply (written.Refused m) ≡ reply_of number (pos (length (kerns_of program)) ∷ []) → m ≡ number → m ≡ 0 → ⊥
          some-values m a k z =
              let v : ◌≡◌ {A = List ℤ} [] (pos (length (kerns_of program)) ∷ []) =
              ap (λ (y : Reply). y.values) a ∙ ap (λ (y : ℕ). (reply_of y (pos (length (kerns_of program)) ∷ [])).values) (sym k ∙ z) in
              let o : ◌≡◌ {A = ℕ} 0 1 = cc in
              omega arith

      pub share_told : {k : ℕ} → w ≡ written.Count k → {b' l' : ℤ} → b' ≡ b → l' ≡ l → ReadsList text is ks es (listed.Font n k e b' l') is₁ ks₁ es₁
      share_told {k} x {b'} {l'} same-boundary same_left =
          let a = ap written_reply (sym x) ∙ answered in
          let z : number ≡ 0 = sym (number_is number (pos (length (kerns_of program)) ∷ [])) ∙ sym (ap (λ (y : Reply). y.number) a) in
          let v : ◌≡◌ {A = List ℤ} (pos k ∷ []) (pos (length (kerns_of program)) ∷ []) =
          ap (λ (y : Reply). y.values) a ∙ ap (λ (y : ℕ). (reply_of y (pos (length (kerns_of program)) ∷ [])).values) z in
          let g = got.values in
          let vs : ◌≡◌ {A = List ℤ} (pos n ∷ pos k ∷ pos e ∷ b' ∷ l' ∷ []) (pl_values (pl_read text)) = rw (got.is, same-boundary, same_left) (cc) in
          record {
            answer = ap (λ (y : List ℤ). reply_of 0 y) vs ∙ ap (λ (y : ℕ). reply_of y (pl_values (pl_read text))) (sym (alike ∙ z));
            program = program-listed;
            shares = kerns-listed;
            labels = d.labels ∙ ap (λ (y : ℕ). list_of y (pos 0) (length es) (pl_entries (pl_read text))) (none_refused ∙ sym (alike ∙ z));
          }
