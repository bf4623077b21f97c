-- A run that knows its font, as twelve numbers of a list: RunLists.
pub mod RunLists
