pub mod DroppingLaws
pub mod WithoutRow
