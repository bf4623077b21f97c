-- What the passes of `display` are held to beside property_lists/specs/Displays.
--   NextLabels  which instructions have no label
pub mod NextLabels
