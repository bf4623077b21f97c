-- What specs/Purpose states of scaling at another size. Assumes nothing.
use mathlib.Core.Path.{◌≡◌, refl, sym, ap, ◌∙◌}
use Prim.Native.Nat.{ℕ, ◌*◌, ◌/◌}
use native.Mathlib.Omega.{arith}
use lib.IntN.{ℤ, pos}
use Rattle.std.specs.Prelude.{Result, Ok, Err}
use Rattle.words.specs.Words.{word_of}
use Rattle.tfm.specs.declared.ScalingError.{ScalingError}
use Rattle.tfm.specs.Scaled.{scaled_reply, z_of_design, scaled_from, to_scaled, z_refusal, sized, scaled_at, design_at}
use Rattle.tfm.specs.Purpose.{SixteenTimes, AtItsDesignSize, NotAsked, OneThousand}
use Rattle.tfm.proofs.Sizes.{sixteen_z, z_taken, design_plain, at_design}

pub sixteen_times : SixteenTimes
unfolding to_scaled
sixteen_times kern z h = record { fits = omega arith; same = ap (λ (y : ℕ). scaled_from y (word_of kern)) (sym (sixteen_z z)) }

-- an answer that no size refuses has the old reply
sized_reply : (t : Result ℤ ScalingError) → scaled_reply (sized 0 t) ≡ scaled_reply t
sized_reply (Ok v) = refl
sized_reply (Err e) = refl

pub at_its_design_size : AtItsDesignSize
at_its_design_size kern design size magnification e =
    let t = to_scaled kern (design_at design size magnification) in
    ap scaled_reply (sym (at_design kern design size magnification)) ∙ ap (λ (n : ℕ). scaled_reply (sized n t)) e ∙ sized_reply t

pub not_asked : NotAsked
not_asked kern design = at_its_design_size kern design (pos 0) (pos 0) refl ∙ ap (λ (d : ℤ). scaled_reply (to_scaled kern d)) (design_plain design)

pub one_thousand : OneThousand
unfolding scaled_at
one_thousand kern design l h =
    let e : z_of_design design * 1000 / 1000 ≡ z_of_design design = omega arith in
    let k : z_refusal (z_of_design design) ≡ 0 = sym (z_taken (z_of_design design) (omega arith) (omega arith)) in
    rw (e, k)
