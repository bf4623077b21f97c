-- A list copied to the front of another; a program shared in front of a list; a text read and shared. Assumes nothing.
use mathlib.Core.Path.{◌≡◌, refl, sym, ap, ◌∙◌}
use mathlib.Core.Bool.{Bool, true, false, cond}
use mathlib.Core.List.{List, [], ◌∷◌, ◌++◌}
use mathlib.Core.Logic.{◌⊎◌, inl, inr}
use mathlib.Core.Option.{Option, none, some}
use Prim.Native.Nat.{ℕ, suc, ◌+◌, ◌-◌, ◌<◌, ◌≤◌}
use native.Mathlib.Numerals.{add-one}
use native.Mathlib.Omega.{arith}
use lib.IntN.{ℤ, pos}
use lib.Dec.{leb}
use lib.ListN.{length, get_or, set, take, drop, replicate, length-append, length-replicate}
use lib.Seq.{take-suc, take_at, drop_at, drop-append-add, length-take-le}
use borrow.Author.Tests.{le-leb, lt-leb}
use Rattle.words.specs.Lists.{Appending}
use Rattle.lang.specs.Records.{count}
use Rattle.lang.specs.Every.{both}
use Rattle.lang.specs.Answers.{Reply, reply_of, padded, list_of}
use Rattle.columns.specs.declared.TextHeads.{TextHeads}
use Rattle.std.specs.Prelude as rust
use Rattle.columns.specs.Texts.{Text, or_absent, shared_text}
use Rattle.columns.specs.Scanned.{length_of_word, head_numbers, text_heads, shared_read, ReadsTextAs}
use Rattle.columns.proofs.Saying.{front, room_known, not_read}
use Rattle.program_kerns.proofs.SharedKerns.{kerns_few, kerns_least, shared_length}
use Rattle.program_kerns.specs.SharedKerns.{all_kerns, share_kerns, has_kern_room}
use Rattle.text_shared.specs.Fronts.{SharesFront, within_text, SharesText, heads_with}
use Rattle.words.proofs.Lists.{appending_one, appending_length, drop_replicate}

-- ---- copied one by one

module _ (from to₀ : List ℤ) (k : ℕ) (h : k ≤ length from) where
  pub copying_more : {d d₁ : List ℤ} {j : ℕ} {v : ℤ} → j < k → k ≤ length to₀ → Appending (take j from) to₀ d → d₁ ≡ set d j v → v ≡ get_or from j (pos 0) →
      Appending (take (j + 1) from) to₀ d₁
  copying_more {d} {d₁} {j} {v} l o a e f =
      let n : length (take j from) ≡ j = length-take-le j from (omega arith) in
      let m : take (j + 1) from ≡ take j from ++ (v ∷ []) = rw (add-one j, f) (take-suc from j (pos 0) (omega arith)) in
      let p : d₁ ≡ set d (length (take j from)) v = rw n e in
      rw (m, p) (appending_one to₀ v a (omega (arith, n, appending_length to₀ a)))

  pub copying_all : {d : List ℤ} {j : ℕ} → j ≡ k → Appending (take j from) to₀ d → d ≡ take k from ++ drop k to₀
  copying_all {d} {j} e a =
      let n : length (take j from) ≡ k = length-take-le j from (omega arith) ∙ e in
      a.appended ∙ (λ i. take (e i) from ++ drop (n i) to₀)

-- ---- a text that is not read

pub blank_of : (l l' : List ℤ) (n : ℕ) → length l ≡ n → l' ≡ replicate (length l) (pos 0) → l' ≡ replicate n (pos 0)
blank_of l l' n e z = rw e at z

pub shared_none : (o : Option Text) {is own ks es : List ℤ} {ws : List ℕ} → ReadsTextAs o 512 rust.None is own es ws → ks ≡ replicate 1024 (pos 0) →
    length ks ≡ 1024 → ReadsTextAs (shared_read o) 1024 rust.None is ks es ws
shared_none none a e l =
    record {
      answer = a.answer;
      long = (a.long.0, l, a.long.2, a.long.3);
      instructions = a.instructions;
      kerns = e;
      entries = a.entries;
      word = a.word;
    }
shared_none (some t) a e l = absurd (let q : some t ≡ none = not_read a in let z : ◌≡◌ {A = ℕ} 0 1 = cc in omega arith)

-- ---- a text that is read

-- zeros behind a list that has grown into them
grown : (K X : List ℤ) (r : ℕ) → length K ≤ length X → drop (length X) (K ++ replicate (r - length K) (pos 0)) ≡ replicate (r - length X) (pos 0)
grown K X r l =
    let n : length X ≡ length K + (length X - length K) = omega arith in
    ap (λ (j : ℕ). drop j (K ++ replicate (r - length K) (pos 0))) n
    ∙ drop-append-add K (replicate (r - length K) (pos 0)) (length X - length K)
    ∙ drop_replicate (length X - length K) (r - length K) (pos 0)
    ∙ ap (λ (j : ℕ). replicate j (pos 0)) (let e : r - length K - (length X - length K) ≡ r - length X = omega arith in e)

-- what a text says, i numbers and k kerns of its own
module _ (i k : ℕ) (s own : List ℤ) where
  abbrev S : List ℤ
  S = take i s

  abbrev K : List ℤ
  K = take k own

  -- past the limits nothing is shared
  pub text_past : {ks : List ℤ} → (2048 < i) ⊎ (512 < k) → ks ≡ replicate 1024 (pos 0) → SharesText i k s own 0 s ks
  text_past {ks} h z =
      let t : within_text i k ≡ false = by h in
      record {
        answer = sym (ap (λ (b : Bool). cond b (length (all_kerns S K)) 0) t);
        program = sym (ap (λ (b : Bool). cond b (share_kerns S K ++ drop i s) s) t);
        list = z ∙ sym (ap (λ (b : Bool). cond b (padded (pos 0) 1024 (all_kerns S K)) (replicate 1024 (pos 0))) t);
      }
    where
      right : (t : Bool) → both t false ≡ false
      right true = refl
      right false = refl

      by : (2048 < i) ⊎ (512 < k) → within_text i k ≡ false
      by (inl l) = rw (lt-leb i 2048 l)
      by (inr l) = rw (lt-leb k 512 l) (right (leb i 2048))

  module _ (few-i : i ≤ 2048) (few-k : k ≤ 512) (long-s : length s ≡ 2048) (long-own : length own ≡ 512) where
    long-i : length S ≡ i
    long-i = length-take-le i s (omega (arith, few-i, long-s))

    long-k : length K ≡ k
    long-k = length-take-le k own (omega (arith, few-k, long-own))

    module _ {ks₀ ks₁ : List ℤ} (z : ks₀ ≡ replicate 1024 (pos 0)) (c : ks₁ ≡ K ++ drop k ks₀) where
      kerns-there : ks₁ ≡ K ++ replicate (1024 - length K) (pos 0)
      kerns-there = c ∙ rw (z, long-k) (ap (λ (l : List ℤ). K ++ l) (drop_replicate k 1024 (pos 0)))

      kerns_long : length ks₁ ≡ 1024
      kerns_long = rw kerns-there (simp (length-append, length-replicate) (omega (arith, long-k, few-k)))

      kerns_front : take k ks₁ ≡ K
      kerns_front = rw kerns-there (take_at K (replicate (1024 - length K) (pos 0)) k long-k)

      room_is : has_kern_room S ks₁ k ≡ true
      room_is = rw (le-leb (k + count S) 65536 (omega (arith, few-i, few-k, long-i)), le-leb (k + count S) (length ks₁) (omega (arith, kerns_long, few-i, few-k, long-i)))

      few-all : length (all_kerns S K) ≤ 1024
      few-all = omega (arith, kerns_few S K (count S), long-k, few-k, long-i, few-i)

      within : within_text i k ≡ true
      within = rw (le-leb i 2048 few-i, le-leb k 512 few-k)

      module _ {m : ℕ} {s' ks₂ : List ℤ} (g : SharesFront s i ks₁ k m s' ks₂) where
        program_is : s' ≡ share_kerns S K ++ drop i s
        program_is = g.list ∙ ap (λ (l : List ℤ). l ++ drop i s) (rw (room_is, kerns_front) at g.shares.program)

        kerns-put : ks₂ ≡ padded (pos 0) 1024 (all_kerns S K)
        kerns-put =
            (rw (room_is, kerns_front) at g.shares.list)
            ∙ ap (λ (l : List ℤ). all_kerns S K ++ l)
            (ap (drop (length (all_kerns S K))) kerns-there ∙ grown K (all_kerns S K) 1024 (kerns_least S K (count S)))

        pub text_shared : SharesText i k s own m s' ks₂
        text_shared =
            record {
              answer = (rw (room_is, kerns_front) at g.shares.answer) ∙ sym (ap (λ (b : Bool). cond b (length (all_kerns S K)) 0) within);
              program = program_is ∙ sym (ap (λ (b : Bool). cond b (share_kerns S K ++ drop i s) s) within);
              list = kerns-put ∙ sym (ap (λ (b : Bool). cond b (padded (pos 0) 1024 (all_kerns S K)) (replicate 1024 (pos 0))) within);
            }

-- .. of a text that was read
module _ (t : Text) {h : TextHeads} {is own es : List ℤ} {ws : List ℕ} (a : ReadsTextAs (some t) 512 (rust.Some h) is own es ws) where
  abbrev T : List ℤ
  T = t.instructions

  abbrev U : List ℤ
  U = t.kerns

  heads : head_numbers h ≡ text_heads t
  heads = ap (λ (r : Reply). r.values) a.answer

  heads_i : h.instructions ≡ length T
  heads_i = let v = heads in cc

  heads_k : h.kerns ≡ length U
  heads_k = let v = heads in cc

  front_i : take h.instructions is ≡ T
  front_i = front (pos 0) 0 2048 h.instructions T is a.instructions refl (sym heads_i)

  front_k : take h.kerns own ≡ U
  front_k = front (pos 0) 0 512 h.kerns U own a.kerns refl (sym heads_k)

  few_read_i : h.instructions ≤ 2048
  few_read_i = omega (arith, heads_i, room_known (pos 0) 0 2048 T is a.instructions refl a.long.0)

  few_read_k : h.kerns ≤ 512
  few_read_k = omega (arith, heads_k, room_known (pos 0) 0 512 U own a.kerns refl a.long.1)

  module _ {m : ℕ} {is' ks : List ℤ} (g : SharesText h.instructions h.kerns is own m is' ks) where
    within_is : within_text h.instructions h.kerns ≡ true
    within_is = rw (le-leb h.instructions 2048 few_read_i, le-leb h.kerns 512 few_read_k)

    many : m ≡ length (all_kerns T U)
    many = rw (within_is, front_i, front_k) at g.answer

    instructions_are : is' ≡ list_of 0 (pos 0) 2048 (share_kerns T U)
    instructions_are =
        (rw (within_is, front_i, front_k) at g.program)
        ∙ ap (λ (l : List ℤ). share_kerns T U ++ drop h.instructions l) a.instructions
        ∙ ap (λ (l : List ℤ). share_kerns T U ++ l) (drop_at T (replicate (2048 - length T) (pos 0)) h.instructions (sym heads_i))
        ∙ ap (λ (n : ℕ). share_kerns T U ++ replicate (2048 - n) (pos 0)) (sym (shared_length T U))

    kerns_are : ks ≡ list_of 0 (pos 0) 1024 (all_kerns T U)
    kerns_are = rw (within_is, front_i, front_k) at g.list

    heads_are : head_numbers (heads_with h m) ≡ text_heads (shared_text t)
    heads_are =
        let v = heads in
        let d : h.design ≡ t.design = cc in
        let b : h.boundary ≡ or_absent t.boundary = cc in
        let l : h.left ≡ or_absent t.left = cc in
        let e : h.entries ≡ length t.entries = cc in
        let w : h.letters ≡ length_of_word t.word = cc in
        let i : h.instructions ≡ length (share_kerns T U) = heads_i ∙ sym (shared_length T U) in
        rw (d, b, l, e, w, i, many)

    pub shared_read_lem : ReadsTextAs (some (shared_text t)) 1024 (rust.Some (heads_with h m)) is' ks es ws
    shared_read_lem =
        record {
          answer = ap (reply_of 0) heads_are;
          long = (
            ap length instructions_are ∙ simp (length-append, length-replicate) (omega (arith, shared_length T U, heads_i, few_read_i)),
            ap length kerns_are ∙ simp (length-append, length-replicate) (omega (arith, kerns_few T U (count T), heads_i, few_read_i, heads_k, few_read_k)),
            a.long.2,
            a.long.3,
          );
          instructions = instructions_are;
          kerns = kerns_are;
          entries = a.entries;
          word = a.word;
        }

-- ---- whatever was read

module _ {h : TextHeads} {is own es : List ℤ} {ws : List ℕ} where
  pub read_and_shared : (o : Option Text) → ReadsTextAs o 512 (rust.Some h) is own es ws → {m : ℕ} {is' ks : List ℤ} →
      SharesText h.instructions h.kerns is own m is' ks → ReadsTextAs (shared_read o) 1024 (rust.Some (heads_with h m)) is' ks es ws
  read_and_shared none a g = absurd (let e : ◌≡◌ {A = ℕ} 0 16 = ap (λ (r : Reply). r.number) a.answer in omega arith)
  read_and_shared (some t) a g = shared_read_lem t a g
