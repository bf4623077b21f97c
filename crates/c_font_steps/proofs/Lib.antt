-- Laws of crate c_font_steps: Idle (with nothing asked for the step is that of ligkern_step), Waiting (and where a font that is asked for is
-- known to wait).
pub mod Idle
pub mod Waiting
