-- Laws of telling: the values over zeros, and a list that is kept or zeroed by the number. Assumes nothing.
use mathlib.Core.Path.{◌≡◌, refl, sym, ap, subst, ◌∙◌}
use mathlib.Core.List.{List, [], ◌++◌, map}
use Prim.Native.Nat.{ℕ, zero, suc, ◌<◌, ◌≤◌}
use native.Mathlib.Nat.{sub-zero}
use native.Mathlib.Omega.{arith}
use lib.IntN.{ℤ}
use lib.ListN.{length, drop, replicate, length-map, length-replicate}
use lib.Seq.{sets}
use Rattle.words.proofs.Lists.{drop_replicate, sets_front}
use Rattle.lang.specs.Answers.{Reply, reply_of, room_refusal, list_of}
use Rattle.lang.proofs.Refusals.{or_else_none, room_is, room_short}
use Rattle.lang.proofs.Filled.{refused_list}
use Rattle.c_values.specs.Telling.{natural, told_number, TellsHost, Gives, GivesTwo, kept}

-- ---- values in a list of zeros

-- no values: zeros, whatever the number
pub none_listed : {A : Type 0} (o : A) (k n : ℕ) {d : List A} → d ≡ replicate k o → d ≡ list_of n o k []
none_listed o k zero e = rw (sub-zero k) e
none_listed o k (suc n) e = e

-- values that fit, stored from the front
pub listed : {A : Type 0} (o : A) (k : ℕ) (xs : List A) {m : ℕ} {z d : List A} → m ≡ 0 → z ≡ replicate k o → length xs ≤ k → d ≡ sets z 0 xs →
    d ≡ list_of m o k xs
listed {A} o k xs {z = z} e g h w =
    rw e
    (w ∙ sets_front xs z (omega (arith, ap length g, length-replicate k o)) ∙ ap (λ (l : List A). xs ++ drop (length xs) l) g
    ∙ ap (λ (l : List A). xs ++ l) (drop_replicate (length xs) k o))

-- ---- a number and values, told

pub tells_refused : (n : ℕ) (values : List ℕ) {d : List ℕ} → d ≡ replicate (length values) 0 → TellsHost (record { number = n; values = [] }) values n d
tells_refused zero values e =
    let n = room_refusal 0 (length values) in
    record { number = sym (room_is 0 (length values) (omega arith)); told = none_listed 0 (length values) n e }
tells_refused (suc n) values e = record { number = refl; told = e }

pub tells_short : (vs : List ℤ) (values : List ℕ) {d : List ℕ} → length values < length vs → d ≡ replicate (length values) 0 →
    TellsHost (reply_of 0 vs) values 15 d
tells_short vs values h e =
    let short : 15 ≡ room_refusal (length vs) (length values) = sym (room_short (length vs) (length values) h) in
    record { number = short; told = refused_list 0 (length values) (map natural vs) short (λ z. omega arith) e }

pub tells_taken : (vs : List ℤ) (values : List ℕ) {z d : List ℕ} → length vs ≤ length values → z ≡ replicate (length values) 0 → d ≡ sets z 0 (map natural vs) →
    TellsHost (reply_of 0 vs) values 0 d
tells_taken vs values h g w =
    let fits : room_refusal (length vs) (length values) ≡ 0 = room_is (length vs) (length values) h in
    record { number = sym fits; told = listed 0 (length values) (map natural vs) fits g (omega (arith, length-map vs natural)) w }

-- ---- a list by the number

pub zeroed : {A : Type 0} (o : A) (n : ℕ) (xs : List A) {d : List A} → (n ≡ 0 → ⊥) → d ≡ replicate (length xs) o → d ≡ kept n o xs
zeroed o zero xs h e = absurd (h refl)
zeroed o (suc n) xs h e = e

-- ---- the answer of a function, told

pub reply_number : (n : ℕ) (vs : List ℤ) → (reply_of n vs).number ≡ n
reply_number zero vs = refl
reply_number (suc n) vs = refl

pub kept_list : {A : Type 0} (o : A) (k m n : ℕ) (xs : List A) {d d' : List A} → (m ≡ 0 → n ≡ 0) → d ≡ list_of n o k xs → length d ≡ k → d' ≡ kept m o d →
    d' ≡ list_of m o k xs
kept_list o k zero n xs h e l g = g ∙ e ∙ ap (λ (j : ℕ). list_of j o k xs) (h refl)
kept_list {A} o k (suc m) n xs h e l g = g ∙ ap (λ (j : ℕ). replicate j o) l

-- a list that was written by the number n of a function, and is kept or zeroed by the number that is told
pub told_list : {A : Type 0} (o : A) (k n : ℕ) (vs : List ℤ) (room r : ℕ) (xs : List A) {d d' : List A} → r ≡ told_number (reply_of n vs) room →
    d ≡ list_of n o k xs → length d ≡ k → d' ≡ kept r o d → d' ≡ list_of (told_number (reply_of n vs) room) o k xs
told_list {A} o k n vs room r xs {d} {d'} e f l g =
    kept_list o k (told_number (reply_of n vs) room) n xs
    (λ z. sym (reply_number n vs) ∙ (or_else_none (reply_of n vs).number (room_refusal (length (reply_of n vs).values) room) z).0)
    f l (g ∙ ap (λ (j : ℕ). kept j o d) e)

-- a function that answers a reply and writes one list by its number
pub gives : {A : Type 0} (o : A) (n : ℕ) (vs : List ℤ) (xs out : List A) (values : List ℕ) {told : Reply} {r : ℕ} {d d' : List A} {values' : List ℕ} →
    told ≡ reply_of n vs → TellsHost told values r values' → d ≡ list_of n o (length out) xs → length d ≡ length out → d' ≡ kept r o d →
    Gives o (reply_of n vs) xs out values r d' values'
gives o n vs xs out values {r = r} e t f l g =
    let t' : TellsHost (reply_of n vs) values r _ = rw e at t in
    record { tells = t'; list = told_list o (length out) n vs (length values) r xs t'.number f l g }

-- .. and two
pub gives_two : {A : Type 0} (o : A) (n : ℕ) (vs : List ℤ) (xs ys out more : List A) (values : List ℕ) {told : Reply} {r : ℕ} {d d' e e' : List A}
    {values' : List ℕ} → told ≡ reply_of n vs → TellsHost told values r values' → d ≡ list_of n o (length out) xs → e ≡ list_of n o (length more) ys →
    length d ≡ length out → length e ≡ length more → d' ≡ kept r o d → e' ≡ kept r o e → GivesTwo o (reply_of n vs) xs ys out more values r d' e' values'
gives_two o n vs xs ys out more values {r = r} q t f g l m u v =
    let t' : TellsHost (reply_of n vs) values r _ = rw q at t in
    record {
      tells = t';
      list = told_list o (length out) n vs (length values) r xs t'.number f l u;
      second = told_list o (length more) n vs (length values) r ys t'.number g m v;
    }

-- ---- what a function is lent: a signed number comes to it by way of its 32 bits

pub tells_as : {told reply : Reply} {values : List ℕ} {r : ℕ} {values' : List ℕ} → told ≡ reply → TellsHost told values r values' →
    TellsHost reply values r values'
tells_as e t = rw e at t

pub lent_two : (P : ℤ → ℤ → Type 0) {a a' b b' : ℤ} → a ≡ a' → b ≡ b' → P a b → P a' b'
lent_two P {a' = a'} {b} e f p = subst (λ (y : ℤ). P a' y) f (subst (λ (x : ℤ). P x b) e p)

pub lent_three : (P : ℤ → ℤ → ℤ → Type 0) {a a' b b' c c' : ℤ} → a ≡ a' → b ≡ b' → c ≡ c' → P a b c → P a' b' c'
lent_three P {a' = a'} {b' = b'} {c} e f g p = subst (λ (z : ℤ). P a' b' z) g (lent_two (λ (x y : ℤ). P x y c) e f p)
