-- What setting the next short word gives: for a table that begin accepts, for a font, and by which numbers it is refused.
pub mod Purpose
