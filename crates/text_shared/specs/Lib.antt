-- A program in front of a list, shared; what a text says, shared: the contract of `share_text`; the heads of a text then (Fronts). The
-- contract of `read_shared` is that of columns/specs/Scanned.
pub mod Fronts
