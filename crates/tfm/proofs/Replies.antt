-- What scaling answers is known from its reply. Assumes nothing.
use mathlib.Core.Path.{◌≡◌, refl, sym, ap, ◌∙◌}
use mathlib.Core.Bool.{cond}
use lib.IntN.{ℤ, pos}
use lib.Dec.{eqb}
use lib.ListN.{get_or}
use Rattle.std.specs.Prelude.{Result, Ok, Err}
use Rattle.words.specs.Replies.{Reply}
use Rattle.tfm.specs.declared.ScalingError.{ScalingError}
use Rattle.tfm.specs.declared.ScalingError.TheVariants.{NegativeDesignSize, TooLarge, SizeOutOfRange}
use Rattle.tfm.specs.Scaled.{scaled_reply}

-- the answer of a reply
replied : Reply → Result ℤ ScalingError
replied r =
    cond (eqb r.number 5) (Err NegativeDesignSize)
    (cond (eqb r.number 13) (Err TooLarge) (cond (eqb r.number 19) (Err SizeOutOfRange) (Ok (get_or r.values 0 (pos 0)))))

replied_is : (x : Result ℤ ScalingError) → replied (scaled_reply x) ≡ x
unfolding replied
replied_is (Ok v) = refl
replied_is (Err NegativeDesignSize) = refl
replied_is (Err TooLarge) = refl
replied_is (Err SizeOutOfRange) = refl

pub scaled_injective : (x y : Result ℤ ScalingError) → scaled_reply x ≡ scaled_reply y → x ≡ y
scaled_injective x y e = sym (replied_is x) ∙ ap replied e ∙ replied_is y
