-- What specs/ states of a change of font.
-- Assumes nothing.
use Rattle.font_runs.specs.Passing.{OnlyBoundaryPasses}
use Rattle.font_runs.specs.Shift.{Shift}
use Rattle.font_runs.specs.Purpose.{TheWhole, WithoutRequest, AskedInForce}
use Rattle.font_runs.proofs.Passing.{first_free_lem}
use Rattle.font_runs.proofs.Shifting as shifting
use Rattle.font_runs.proofs.Parts as parts
use Rattle.font_runs.proofs.Idle as idle
use Rattle.font_runs.proofs.Asking as asking

-- the first free state of a step
pub only_boundary_passes : OnlyBoundaryPasses
only_boundary_passes = first_free_lem

-- SHIFT
pub shift : Shift
shift = shifting.shift

-- THE WHOLE
pub the_whole : TheWhole
the_whole = parts.the_whole

-- WITHOUT A REQUEST
pub without_request : WithoutRequest
without_request = idle.without_request

-- ASKED FOR THE FONT IN FORCE
pub asked_in_force : AskedInForce
asked_in_force = asking.asked_in_force
