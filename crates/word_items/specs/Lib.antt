-- A list of items: ItemLists (the contracts of is_item, put_item and stopped).
pub mod ItemLists
