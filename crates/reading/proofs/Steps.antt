-- Readings of any length: one turn and its inversion, determinism, readings in sequence, and what remains at the end.
-- Assumes nothing.
use mathlib.Core.Path.{◌≡◌, refl, sym, ap, ◌∙◌}
use mathlib.Core.Bool.{true, false}
use mathlib.Core.List.{List, [], ◌∷◌, ◌++◌, append_assoc}
use Prim.Native.Nat.{ℕ, zero, suc, ◌+◌}
use native.Mathlib.Nat.{suc-add, add_comm}
use native.Mathlib.Numerals.{add-one}
use native.Mathlib.Omega.{arith}
use Rattle.lang.specs.declared.operation.PostLigOperation.TheVariants.{RetainBothMoveNowhere, RetainBothMoveToInserted, RetainBothMoveToRight}
use Rattle.lang.specs.declared.operation.PostLigOperation.TheVariants.{RetainRightMoveToInserted, RetainRightMoveToRight, RetainLeftMoveNowhere}
use Rattle.lang.specs.declared.operation.PostLigOperation.TheVariants.{RetainLeftMoveToInserted, RetainNeitherMoveToInserted}
use Rattle.reading.specs.Items.{Left, bnd, chr, Rule, free, kerned, lig, Rules, Item, item, code, plain, inserted, Head, edge, at, key, head, Out}
use Rattle.reading.specs.Reading.{Act, act, Read, done, more, push, read}

-- ---- one turn

pub key_head : (l : Left) → key (head l) ≡ l
key_head bnd = refl
key_head (chr c) = refl

-- the step that the rule says at x and y
abbrev pub turn : Rules → Head → Item → Act
turn rule x y = act (rule (key x) (code y)) x y

-- a reading that goes on has not ended
pub more_not_done : {os : List Out} {u : Head} → more ≡ done os u → ⊥
more_not_done {os} {u} e = let z : ◌≡◌ {A = ℕ} 0 1 = cc in omega arith

pub push_done : (os : List Out) (t : Read) {ps : List Out} {u : Head} → push os t ≡ done ps u → (qs : List Out) × (t ≡ done qs u) × (ps ≡ os ++ qs)
push_done os (done qs v) e = (qs, cc, cc)
push_done os more e = absurd (more_not_done e)

pub push_more : (os : List Out) (t : Read) → push os t ≡ more → t ≡ more
push_more os (done qs v) e = absurd (more_not_done (sym e))
push_more os more e = refl

-- nothing right of the cursor: the reading has ended
pub nothing_right : (rule : Rules) (n : ℕ) (x : Head) → read rule n x [] ≡ done [] x
unfolding read
nothing_right rule zero x = refl
nothing_right rule (suc n) x = refl

-- a reading that has ended, after its first turn
pub turn_done : (rule : Rules) (n : ℕ) (x : Head) (y : Item) (ys : List Item) {os : List Out} {u : Head} → read rule (suc n) x (y ∷ ys) ≡ done os u →
    (qs : List Out) × (read rule n (turn rule x y).left ((turn rule x y).back ++ ys) ≡ done qs u) × (os ≡ (turn rule x y).outs ++ qs)
unfolding read
turn_done rule n x y ys e = push_done (turn rule x y).outs (read rule n (turn rule x y).left ((turn rule x y).back ++ ys)) e

-- and with its first turn
pub done_turn : (rule : Rules) (n : ℕ) (x : Head) (y : Item) (ys : List Item) {qs : List Out} {u : Head} →
    read rule n (turn rule x y).left ((turn rule x y).back ++ ys) ≡ done qs u → read rule (suc n) x (y ∷ ys) ≡ done ((turn rule x y).outs ++ qs) u
unfolding read
done_turn rule n x y ys e = ap (push (turn rule x y).outs) e

-- a reading that has not ended, with its first turn
pub more_turn : (rule : Rules) (n : ℕ) (x : Head) (y : Item) (ys : List Item) → read rule n (turn rule x y).left ((turn rule x y).back ++ ys) ≡ more →
    read rule (suc n) x (y ∷ ys) ≡ more
unfolding read
more_turn rule n x y ys e = ap (push (turn rule x y).outs) e

pub turn_more : (rule : Rules) (n : ℕ) (x : Head) (y : Item) (ys : List Item) → read rule (suc n) x (y ∷ ys) ≡ more →
    read rule n (turn rule x y).left ((turn rule x y).back ++ ys) ≡ more
unfolding read
turn_more rule n x y ys e = push_more (turn rule x y).outs (read rule n (turn rule x y).left ((turn rule x y).back ++ ys)) e

-- ---- determinism

pub longer : (rule : Rules) (m k : ℕ) (x : Head) (ys : List Item) {os : List Out} {u : Head} → read rule m x ys ≡ done os u → read rule (m + k) x ys ≡ done os u
unfolding read
longer rule zero k x [] e = nothing_right rule (zero + k) x ∙ e
longer rule zero k x (y ∷ ys) e = absurd (more_not_done e)
longer rule (suc m) k x [] e = nothing_right rule (suc m + k) x ∙ e
longer rule (suc m) k x (y ∷ ys) {os} {u} e =
    let t = turn_done rule m x y ys e in
    rw (suc-add, t.2) (done_turn rule (m + k) x y ys (longer rule m k (turn rule x y).left ((turn rule x y).back ++ ys) t.1))

pub one_end : (rule : Rules) (m n : ℕ) (x : Head) (ys : List Item) {os ps : List Out} {u v : Head} → read rule m x ys ≡ done os u →
    read rule n x ys ≡ done ps v → (os ≡ ps) × (u ≡ v)
one_end rule m n x ys {os} {ps} {u} {v} e f =
    let a : read rule (m + n) x ys ≡ done os u = longer rule m n x ys e in
    let b : read rule (m + n) x ys ≡ done ps v = rw add_comm (longer rule n m x ys f) in
    (cc, cc)

-- ---- readings in sequence

-- where nothing is right of the cursor, a reading of what follows is the whole
onwards : (rule : Rules) (k n : ℕ) (x : Head) (zs : List Item) {os ps : List Out} {u v : Head} → done [] x ≡ done os u → read rule n u zs ≡ done ps v →
    read rule (k + n) x zs ≡ done (os ++ ps) v
onwards rule k n x zs {os} {ps} {u} {v} e f =
    let o : [] ≡ os = cc in
    let h : x ≡ u = cc in
    rw (← o, h, add_comm k n) (longer rule n k u zs f)

pub in_sequence : (rule : Rules) (m n : ℕ) (x : Head) (ys zs : List Item) {os ps : List Out} {u v : Head} → read rule m x ys ≡ done os u →
    read rule n u zs ≡ done ps v → read rule (m + n) x (ys ++ zs) ≡ done (os ++ ps) v
unfolding read
in_sequence rule zero n x [] zs e f = onwards rule zero n x zs e f
in_sequence rule zero n x (y ∷ ys) zs e f = absurd (more_not_done e)
in_sequence rule (suc m) n x [] zs e f = onwards rule (suc m) n x zs e f
in_sequence rule (suc m) n x (y ∷ ys) zs {ps = ps} {v = v} e f =
    let t = turn_done rule m x y ys e in
    let s = in_sequence rule m n (turn rule x y).left ((turn rule x y).back ++ ys) zs t.1 f in
    rw (suc-add, t.2, append_assoc (turn rule x y).outs t.0 ps) (done_turn rule (m + n) x y (ys ++ zs) (rw append_assoc at s))

-- what goes on for n steps goes on with more behind it
pub begins_within : (rule : Rules) (n : ℕ) (x : Head) (ys zs : List Item) → read rule n x ys ≡ more → read rule n x (ys ++ zs) ≡ more
unfolding read
begins_within rule zero x [] zs h = cc
begins_within rule zero x (y ∷ ys) zs h = refl
begins_within rule (suc n) x [] zs h = cc
begins_within rule (suc n) x (y ∷ ys) zs h =
    more_turn rule n x y (ys ++ zs) (rw append_assoc at (begins_within rule n (turn rule x y).left ((turn rule x y).back ++ ys) zs (turn_more rule n x y ys h)))

-- what goes on for one more step goes on
one_less : (rule : Rules) (n : ℕ) (x : Head) (ys : List Item) → read rule (suc n) x ys ≡ more → read rule n x ys ≡ more
one_less rule n x ys h = go (read rule n x ys) refl
  where
    go : (u : Read) → read rule n x ys ≡ u → u ≡ more
    go (done os v) e = cc (rw add-one at (longer rule n 1 x ys e))
    go more e = refl

-- what comes after a part that ends goes on for at least as long as it does by itself
pub follows_within : (rule : Rules) (m n : ℕ) (x : Head) (ys zs : List Item) {os : List Out} {u : Head} → read rule m x ys ≡ done os u →
    read rule n u zs ≡ more → read rule n x (ys ++ zs) ≡ more
unfolding read
follows_within rule zero n x [] zs {os} {u} e h =
    let i : x ≡ u = cc in
    rw i h
follows_within rule zero n x (y ∷ ys) zs e h = cc
follows_within rule (suc m) n x [] zs {os} {u} e h =
    let i : x ≡ u = cc in
    rw i h
follows_within rule (suc m) zero x (y ∷ ys) zs e h = refl
follows_within rule (suc m) (suc n) x (y ∷ ys) zs {os} {u} e h =
    let t = turn_done rule m x y ys e in
    more_turn rule n x y (ys ++ zs)
    (rw append_assoc at (follows_within rule m n (turn rule x y).left ((turn rule x y).back ++ ys) zs t.1 (one_less rule n u zs h)))

pub begins : (rule : Rules) (x : Head) (ys zs : List Item) → ((n : ℕ) → read rule n x ys ≡ more) → (n : ℕ) → read rule n x (ys ++ zs) ≡ more
begins rule x ys zs e n = begins_within rule n x ys zs (e n)

pub follows : (rule : Rules) (m : ℕ) (x : Head) (ys zs : List Item) {os : List Out} {u : Head} → read rule m x ys ≡ done os u →
    ((n : ℕ) → read rule n u zs ≡ more) → (n : ℕ) → read rule n x (ys ++ zs) ≡ more
follows rule m x ys zs e f n = follows_within rule m n x ys zs e (f n)

-- ---- what remains

-- what stands last: what is left of the cursor, where nothing is right of it
abbrev pub end_of : Head → List Item → Head
end_of x [] = x
end_of x (y ∷ ys) = end_of (at y) ys

-- it is no character other than r as it came
abbrev pub OnlyPlain : ℕ → Head → Type 0
OnlyPlain r edge = Unit {0}
OnlyPlain r (at (item true c)) = Unit {0}
OnlyPlain r (at (item false c)) = c ≡ r

-- a turn puts nothing behind y but what it inserts
end_inserted : (r c : ℕ) (x : Head) (ys : List Item) → OnlyPlain r (end_of x ys) → OnlyPlain r (end_of (at (inserted c)) ys)
end_inserted r c x [] h = tt
end_inserted r c x (y ∷ ys) h = h

end_by : (R : Rule) (r : ℕ) (x : Head) (y : Item) (ys : List Item) → OnlyPlain r (end_of (at y) ys) →
    OnlyPlain r (end_of (act R x y).left ((act R x y).back ++ ys))
end_by free r x y ys h = h
end_by (kerned k) r x y ys h = h
end_by (lig RetainNeitherMoveToInserted c) r x y ys h = end_inserted r c (at y) ys h
end_by (lig RetainRightMoveToInserted c) r x y ys h = h
end_by (lig RetainLeftMoveNowhere c) r x y ys h = end_inserted r c (at y) ys h
end_by (lig RetainBothMoveNowhere c) r x y ys h = h
end_by (lig RetainRightMoveToRight c) r x y ys h = h
end_by (lig RetainLeftMoveToInserted c) r x y ys h = end_inserted r c (at y) ys h
end_by (lig RetainBothMoveToInserted c) r x y ys h = h
end_by (lig RetainBothMoveToRight c) r x y ys h = h

-- so that holds after a reading where it held before
pub end_kept : (rule : Rules) (n : ℕ) (r : ℕ) (x : Head) (ys : List Item) {os : List Out} {u : Head} → read rule n x ys ≡ done os u → OnlyPlain r (end_of x ys) →
    OnlyPlain r u
unfolding read
end_kept rule zero r x [] {os} {u} e h = let s : x ≡ u = cc in rw s at h
end_kept rule zero r x (y ∷ ys) e h = absurd (more_not_done e)
end_kept rule (suc n) r x [] {os} {u} e h = let s : x ≡ u = cc in rw s at h
end_kept rule (suc n) r x (y ∷ ys) e h =
    end_kept rule n r (turn rule x y).left ((turn rule x y).back ++ ys) (turn_done rule n x y ys e).1 (end_by (rule (key x) (code y)) r x y ys h)

ends_in : (x : Head) (ys : List Item) (y : Item) → end_of x (ys ++ (y ∷ [])) ≡ at y
ends_in x [] y = refl
ends_in x (z ∷ ys) y = ends_in (at z) ys y

pub last_plain : (rule : Rules) (n : ℕ) (x : Head) (ys : List Item) (r : ℕ) {os : List Out} {c : ℕ} →
    read rule n x (ys ++ (plain r ∷ [])) ≡ done os (at (item false c)) → c ≡ r
last_plain rule n x ys r e = end_kept rule n r x (ys ++ (plain r ∷ [])) e (rw ends_in refl)
